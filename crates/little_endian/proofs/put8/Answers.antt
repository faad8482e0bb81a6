-- `little_endian::put8` meets its contract: four bytes, and four after them (WidthLaws). Assumes nothing.
use Prim.Native.Nat.{ℕ, ◌+◌, ◌/◌}
use mathlib.Core.Path.{refl, ap, ◌∙◌}
use mathlib.Core.List.{List}
use native.Mathlib.Omega.{arith}
use Rattle.byte_slices.specs.Parts.{put}
use Rattle.policy.specs.Basics.{le}
use Rattle.little_endian.proofs.WidthLaws.{put-halves}
use Rattle.little_endian.proofs.put8.Goals as goal

pub returns : goal.returns
returns c =
    let n = c.args.n in
    c.put4-2.ensures
    ∙ ap (λ (l : List ℕ). put l (c.args.at + 4) (le 4 (n / 4294967296))) c.put4.ensures
    ∙ put-halves 4 4 n (n / 4294967296) c.args.at c.args.bytes.now (omega arith) refl
