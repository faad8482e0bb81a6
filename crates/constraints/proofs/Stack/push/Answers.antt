-- `constraints::Stack::push` meets its contract: the number doubles, and the new bit is the lowest. Assumes nothing.
use Rattle.std.proofs.Common.{ap, arith}
use Rattle.bitset.specs.Sets.{one}
use Rattle.constraints.proofs.StackLaws.{push-full, push-room}
use Rattle.constraints.proofs.Stack.push.Goals as goal

pub returns-then-bits-ge-FULL : goal.returns-then-bits-ge-FULL
returns-then-bits-ge-FULL c = λ s e. push-full _ s _ e c.if-bits-ge-FULL.true

pub returns-then-b : goal.returns-then-b
returns-then-b c = λ s e. omega (arith, push-room c.args.b s c.args.self.bits e c.if-bits-ge-FULL.false, ap one c.if-b.true)

pub returns-else-b : goal.returns-else-b
returns-else-b c = λ s e. omega (arith, push-room c.args.b s c.args.self.bits e c.if-bits-ge-FULL.false, ap one c.if-b.false)
