-- `name_rows::may_be_among` meets its contract: std's test whether a slice has an element is that of the specs. Assumes nothing.
use mathlib.Core.Path.{sym, ap, ◌∙◌}
use mathlib.Core.Bool.{◌||◌}
use lib.Dec.{eqb}
use lib.ListN.{length, take}
use Rattle.policy.specs.Basics.{any}
use borrow.Author.Tests.{le-ltb}
use Rattle.name_rows.proofs.Fronts.{among-are}
use Rattle.name_rows.proofs.may_be_among.Goals as goal

pub returns-else-fronts-count : goal.returns-else-fronts-count
returns-else-fronts-count c =
    let a = c.args in
    c.contains.ensures.value ∙ among-are a.front _ ∙ sym (ap (λ b. b || any (eqb a.front) (take a.count a.fronts.now)) (le-ltb (length a.fronts.now) a.count c.if-fronts-count.false))
