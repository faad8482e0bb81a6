-- `tegzhumbi_compile` meets its contract: the numbers of the compiler's answer, which fit. Assumes nothing.
use mathlib.Core.Path.{sym, ap, ◌∙◌}
use Rattle.answer_numbers.specs.Numbers.{CompiledFits, compiled_numbers}
use Rattle.tegzhumbi_c.proofs.FourBytes.{told, outcome_fits}
use Rattle.tegzhumbi_c.proofs.AcceptedIsZero.{accepted-as}
use Rattle.tegzhumbi_c.proofs.tegzhumbi_compile.Goals as goal

pub returns : goal.returns
returns c =
    let compiled = c.compile.ensures in
    let answer = told CompiledFits compiled_numbers c.compiled_numbers.ensures (outcome_fits _ _) compiled.answer in
    record {
      answer = answer;
      memory = compiled.memory;
      answers = λ n h. compiled.answers n (accepted-as _ _ _ n compiled.answer (ap compiled_numbers compiled.answer ∙ sym answer ∙ h));
    }
