-- `set_operators::equal` meets its contract: slices of one length have the same members where they are the same. Assumes nothing.
use Rattle.std.proofs.Common.{rules}
use Rattle.std.specs.Bool.{one_answer}
use Rattle.std.proofs.lemmas.Bool.Decides.{Decides-eqb}
use Rattle.std.proofs.lemmas.Slice.Eq.{slice_eq-Decides}
use Rattle.set_operators.proofs.TestLaws.{equal-decides}
use Rattle.set_operators.proofs.equal.Goals as goal

pub returns-then-a-b : goal.returns-then-a-b
returns-then-a-b c =
    one_answer _ _ (slice_eq-Decides Decides-eqb _ _ _ c.eq.ensures)
    (equal-decides _ _ c.if-a-b.true (λ i. search rules) (λ i. search rules))
