-- `bitset::keep_below` meets its contract: the bytes after the total's own become 0, and that one keeps its low bits. Assumes nothing.
use Prim.Native.Nat.{ℕ, ◌+◌, ◌/◌, ◌<◌}
use lib.Bits.{and_comm}
use lib.ListN.{length, get_or}
use mathlib.Core.Path.{◌∙◌}
use native.Mathlib.Omega.{arith}
use Rattle.bitset.proofs.KeptLaws.{kept-all, kept-bytes, kept_byte}
use Rattle.bitset.proofs.keep_below.Goals as goal

pub returns-then-set-whole : goal.returns-then-set-whole
returns-then-set-whole c = kept-all c.args.set.now (λ j. (c.slice_known-1.given j).fits) c.args.total c.if-set-whole.true

pub returns : goal.returns
returns c =
    let a = c.args in
    let small : (j : ℕ) → get_or a.set.now j 0 < 256 = λ j. (c.slice_known-1.given j).fits in
    let inside : a.total / 8 < length a.set.now = omega arith in
    rw (c.mask.ensures, c.clear_at.ensures ∙ kept-bytes a.set.now small (a.total / 8 + 1) (omega (arith, inside)), and_comm)
    (kept_byte a.set.now small a.total inside)
