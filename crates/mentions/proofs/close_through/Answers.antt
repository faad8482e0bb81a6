-- `mentions::close_through` meets its contract: the rows that have k are granted row k, which changes nothing where it is empty. Assumes nothing.
use mathlib.Core.Path.{sym, ap, ◌∙◌}
use lib.ListN.{length}
use Rattle.bitset.specs.Sets.{copy_of}
use Rattle.set_code.specs.Evaluation.{sets_in}
use Rattle.mentions.specs.Closure.{through_of}
use Rattle.mentions.proofs.ClosureLaws.{length-column}
use Rattle.mentions.proofs.close_through.Goals as goal

pub returns-then-is_empty : goal.returns-then-is_empty
returns-then-is_empty c = sym (c.is_empty.ensures c.if-is_empty.true)

pub slice_bounds-grant-end-2 : goal.slice_bounds-grant-end-2
slice_bounds-grant-end-2 c = sym (ap length c.attributes_mentioning.ensures ∙ length-column _ _)

pub returns : goal.returns
unfolding through_of copy_of sets_in
returns c =
    rw (c.grant.ensures, c.attributes_mentioning.ensures, c.read_at.ensures)
