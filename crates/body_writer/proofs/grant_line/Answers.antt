-- `body_writer::grant_line` meets its contract, by those of its callees. Assumes nothing.
use lib.ListN.{length}
use mathlib.Core.Path.{sym, ap, ◌∙◌}
use native.Mathlib.Omega.{arith}
use Rattle.bitset.proofs.SetLaws.{length-set_of}
use Rattle.set_code.proofs.Leaves.{thing-alone}
use Rattle.body_writer.proofs.grant_line.Goals as goal

pub returns-then-width-le-SET_BYTES : goal.returns-then-width-le-SET_BYTES
returns-then-width-le-SET_BYTES c =
    let a = c.args in
    rw (c.grant_row.ensures, thing-alone a.from_sets.now a.from (omega arith))

pub slice_bounds-grant_at-end : goal.slice_bounds-grant_at-end
slice_bounds-grant_at-end c = sym (ap length c.reference.ensures ∙ length-set_of 64 _)

pub slice_bounds-grant_at-end-2 : goal.slice_bounds-grant_at-end-2
slice_bounds-grant_at-end-2 c = sym (ap length c.reference-2.ensures ∙ length-set_of 64 _)

pub returns : goal.returns
returns c =
    rw (c.grant_at.ensures, c.reference.ensures, c.reference-2.ensures)
