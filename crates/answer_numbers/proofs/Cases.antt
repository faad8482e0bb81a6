-- Which case an answer is: what fits in an answer fits in the case that it is. Assumes nothing.
use Prim.Native.Nat.{ℕ}
use mathlib.Core.Path.{◌≡◌, subst}
use Rattle.policy.specs.Answers.{compiling_of}
use Rattle.std.specs.Prelude.{Result}
use Rattle.policy.specs.declared.Fault.{Fault}
use Rattle.policy.specs.declared.Refusal.{Refusal}
use Rattle.answer_numbers.specs.Numbers.{CompiledFits, compiled_numbers}

pub compiled-as : {a b : Result ℕ (Refusal Fault)} → a ≡ b → CompiledFits (compiled_numbers (compiling_of a)) → CompiledFits (compiled_numbers (compiling_of b))
compiled-as e f = subst (λ (x : Result ℕ (Refusal Fault)). CompiledFits (compiled_numbers (compiling_of x))) e f
