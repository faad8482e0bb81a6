-- `scopes::scope_length` meets its contract: a length above the longest is cut to it. Assumes nothing.
use native.Mathlib.Omega.{arith}
use Rattle.scopes.specs.Scope.{scope_length}
use Rattle.scopes.proofs.scope_length.Goals as goal

pub returns : goal.returns
unfolding scope_length
returns c = (omega (arith, c.min.ensures), λ h. omega (arith, c.min.ensures))
