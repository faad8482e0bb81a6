-- `lines::line_of` meets its contract: the line counts the LFs of the bytes passed, and 1. Assumes nothing.
use Prim.Native.Nat.{◌+◌, ◌≤◌}
use mathlib.Core.Path.{◌≡◌}
use lib.ListN.{take}
use Rattle.policy.specs.Outcome.{line_feeds}
use Rattle.lines.proofs.line_of.Given as goal

abbrev pub invariant-loop-byte : goal.invariant-loop-byte
invariant-loop-byte l = (l.line ≡ 1 + line_feeds (take l.byte-index l.before)) × (l.line ≤ 1 + l.byte-index)
