-- `compiler::line_of` meets its contract: line 0 for 10, else the line of the place. Assumes nothing.
use mathlib.Core.Path.{◌≡◌, refl}
use borrow.Author.Tests.{ne_eqb, le-leb}
use Rattle.policy.specs.Answers.{fault_number}
use Rattle.compiler.proofs.OutcomeLaws.{only-10}
use Rattle.compiler.proofs.line_of.Goals as goal

pub returns-in-MemoryTooShort : goal.returns-in-MemoryTooShort
returns-in-MemoryTooShort c h = rw c.in-MemoryTooShort.is refl

pub returns-in_default : goal.returns-in_default
returns-in_default c h =
    let found = c.args.found in
    let other : fault_number found.fault ≡ 10 → ⊥ = λ e. c.in_default.not-MemoryTooShort (only-10 found.fault e) in
    rw (c.line_of.ensures, ne_eqb (fault_number found.fault) 10 other, le-leb found.place 65535 (h other)) refl
