-- `bitset::mask` meets its contract: whole bytes below the total, one byte that it cuts, and then none. Assumes nothing.
use Prim.Native.Nat.{ℕ, ◌-◌}
use mathlib.Core.Path.{ap, ◌∙◌}
use native.Mathlib.Omega.{arith}
use Rattle.bitset.proofs.StoreLaws.{bit_byte-pos, mask_full, mask-part, mask-none}
use Rattle.bitset.proofs.mask.Goals as goal

pub returns-then-i-whole : goal.returns-then-i-whole
returns-then-i-whole c = mask_full _ _ c.if-i-whole.true

pub overflow_sub-result : goal.overflow_sub-result
overflow_sub-result c = omega (arith, bit_byte-pos c.args.total)

pub returns-then-i-whole-2 : goal.returns-then-i-whole-2
returns-then-i-whole-2 c = ap (λ (b : ℕ). b - 1) c.bit_of.ensures ∙ mask-part _ _ c.if-i-whole-2.true

pub returns : goal.returns
returns c = mask-none _ _ (omega arith)
