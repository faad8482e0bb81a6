-- The parts of an outcome, and what compiling gives by what reading gives. By cases. Assumes nothing.
use Prim.Native.Nat.{ℕ}
use mathlib.Core.Bool.{Bool, true, false}
use Rattle.policy.specs.Reading.{Read, refused, policy}
use Rattle.policy.specs.Image.{image_of}
use Rattle.policy.specs.Outcome.{Compiled, refuses, fitted, Outcome, accepted, rejected}

-- an acceptance is no refusal, and has one length
abbrev pub is_accepted : Outcome → Bool
is_accepted (accepted n) = true
is_accepted (rejected r) = false

abbrev pub length_in : Outcome → ℕ
length_in (accepted n) = n
length_in (rejected r) = 0

abbrev pub compiled_by : Read → ℕ → Compiled
compiled_by r lent = elim r [ refused n at ↦ refuses n at | policy p ↦ fitted lent (image_of p) ]
