-- `byte_slices::copy` meets its contract. The loop's invariant: the first i bytes of the part are stored, one after the other. Assumes nothing.
use lib.ListN.{length-set}
use Rattle.byte_slices.proofs.CopyLaws.{copy-turn, copy-none, copied}
use native.Mathlib.Omega.{arith}
use mathlib.Core.Path.{refl, ◌∙◌}
use Rattle.byte_slices.proofs.copy.Goals as goal

pub loop-i-init : goal.loop-i-init
loop-i-init c = (refl, copy-none _ _ _ _)

pub loop-i-preserved : goal.loop-i-preserved
loop-i-preserved c =
    let l = c.loop-i in
    (simp length-set l.invariant.0, rw l.invariant.1 (copy-turn c.args.table.now c.args.text.now c.args.at c.args.from l.i (omega arith)))

pub returns : goal.returns
returns c =
    let l = c.loop-i in
    l.invariant.1 ∙ copied c.args.table.now c.args.text.now c.args.at c.args.from l.i c.args.len c.requires.0 c.requires.1 (omega arith)
