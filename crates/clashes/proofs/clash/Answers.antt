-- `clashes::clash` meets its contract: all transitions are in the code from the first one on. Assumes nothing.
use Prim.Native.Nat.{◌-◌}
use native.Mathlib.Omega.{arith}
use mathlib.Core.Path.{ap, ◌∙◌}
use mathlib.Core.List.{[]}
use lib.ListN.{length, drop, length-drop}
use lib.Seq.{take_all}
use Rattle.policy.specs.Faults.{first_clash, clash}
use Rattle.clashes.proofs.clash.Goals as goal

pub returns : goal.returns
unfolding clash
returns c = λ p ok q hr ht.
    let first = c.first_transition-first in
    let rest = first.ensures.1 p ok q in
    let code = c.args.code.now in
    let left = take_all (length code - first.result) (drop first.result code) (omega (arith, length-drop first.result code)) in
    c.first_clash.ensures p rest.part ok rest.segment (left ∙ rest.coded) hr ht ∙ ap (first_clash p []) rest.all
