-- `mentions::close` meets its contract: every number below k is gone through. Assumes nothing.
use mathlib.Core.Path.{◌≡◌}
use Rattle.mentions.specs.Closure.{closed_of}
use Rattle.mentions.proofs.close.Given as goal

abbrev pub invariant-loop-k : goal.invariant-loop-k
invariant-loop-k l = l.rows ≡ closed_of l.k l.initial.rows
