-- `little_endian::number` meets its contract: each turn reads the last of the bytes that are left. Assumes nothing.
use borrow.Author.Rules.{rules}
use native.Mathlib.Omega.{arith}
use Rattle.little_endian.proofs.NumberLaws.{read_none, read_more, read_all, read-fits}
use Rattle.little_endian.proofs.number.Goals as goal

pub loop-byte-init : goal.loop-byte-init
loop-byte-init c = read_none (search rules)

pub overflow_mul-n : goal.overflow_mul-n
overflow_mul-n c = omega (arith, read-fits _ _ (λ i. (c.type_inv.bytes i).fits) c.requires c.loop-byte.invariant c.in-Some.ensures.steps)

pub overflow_add-n : goal.overflow_add-n
overflow_add-n c =
    omega (arith, read-fits _ _ (λ i. (c.type_inv.bytes i).fits) c.requires c.loop-byte.invariant c.in-Some.ensures.steps, c.from.ensures)

pub loop-byte-preserved : goal.loop-byte-preserved
loop-byte-preserved c = read_more c.loop-byte.invariant c.in-Some.ensures.steps c.from.ensures

pub returns : goal.returns
returns c = read_all _ _ (λ i. (c.type_inv.bytes i).fits) c.loop-byte.invariant c.in-None.ensures.steps.0
