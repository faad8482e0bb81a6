-- What refuses a declaration is 4 or 6. Assumes nothing.
use mathlib.Core.Path.{◌≡◌}
use Prim.Native.Nat.{ℕ}
use Rattle.std.specs.Option.{ok_or}
use Rattle.std.specs.Prelude.{Option, Some, None, Result, IfErr}
use Rattle.policy.specs.declared.Fault.{Fault}
use Rattle.declarations.specs.Declares.{IsRefusal}

-- what has no room passes a maximum
pub no-room-refuses : (a : Option ℕ) (r : Result ℕ Fault) → r ≡ ok_or a Fault.MaximumPassed → IfErr r IsRefusal
no-room-refuses (Some n) r e = rw e tt
no-room-refuses None r e = rw e tt
