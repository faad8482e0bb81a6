-- `blocks::hash_of` meets its contract. The loop's invariant: the bytes that are left make of the hash so far that of the whole name. Assumes nothing.
use mathlib.Core.Path.{sym, ◌∙◌}
use native.Mathlib.Omega.{arith}
use Rattle.blocks.proofs.BlockFilter.{hash-next, hash-end}
use Rattle.blocks.proofs.hash_of.Goals as goal

pub loop-byte-preserved : goal.loop-byte-preserved
loop-byte-preserved c = (
  c.hash_step-hash.ensures.1,
  rw (c.hash_step-hash.ensures.0, c.wide.ensures.0)
      (sym (hash-next c.args.name.now c.loop-byte.byte-index c.loop-byte.hash (omega arith)) ∙ c.loop-byte.invariant.1),
)

pub returns : goal.returns
returns c =
    let l = c.loop-byte in
    (c.hash_step.ensures.0 ∙ hash-end c.args.name.now l.byte-index l.hash c.args.parent (omega arith) l.invariant.1, c.hash_step.ensures.1)
