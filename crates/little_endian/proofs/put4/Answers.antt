-- `little_endian::put4` meets its contract: two bytes, and two after them (WidthLaws). Assumes nothing.
use Prim.Native.Nat.{ℕ, ◌+◌, ◌/◌}
use mathlib.Core.Path.{refl, ap, ◌∙◌}
use mathlib.Core.List.{List}
use native.Mathlib.Omega.{arith}
use Rattle.byte_slices.specs.Parts.{put}
use Rattle.policy.specs.Basics.{le}
use Rattle.little_endian.proofs.WidthLaws.{put-halves}
use Rattle.little_endian.proofs.put4.Goals as goal

pub returns : goal.returns
returns c =
    let n = c.args.n in
    c.put2-2.ensures
    ∙ ap (λ (l : List ℕ). put l (c.args.at + 2) (le 2 (n / 65536))) c.put2.ensures
    ∙ put-halves 2 2 n (n / 65536) c.args.at c.args.bytes.now (omega arith) refl
