-- `body_writer::write_transition` meets its contract: two sets and two numbers, one after the other. Assumes nothing.
use mathlib.Core.Path.{sym, ap, ◌∙◌}
use lib.ListN.{length}
use Rattle.bitset.proofs.SetLaws.{length-set_of}
use Rattle.body_writer.proofs.TransitionRecords.{entry-written}
use Rattle.body_writer.proofs.write_transition.Goals as goal

pub slice_bounds-append-end : goal.slice_bounds-append-end
slice_bounds-append-end c = sym (ap length c.reference.ensures ∙ length-set_of 64 _)

pub slice_bounds-append-end-2 : goal.slice_bounds-append-end-2
slice_bounds-append-end-2 c = sym (ap length c.reference-2.ensures ∙ length-set_of 64 _)

pub returns : goal.returns
returns c =
    record {
      entry = λ p t ok codes l m hr ht.
          entry-written p ok t _ codes _ _ hr ht _ _ c.reference.ensures c.reference-2.ensures c.append-second.ensures
          c.append-third.ensures (c.append_byte-last.ensures l) (c.append_byte.ensures m);
    }
