-- `mentions::family_cycle` meets its contract: what is in its own closed row is on a cycle. Assumes nothing.
use mathlib.Core.Path.{sym, ap, ◌∙◌}
use Rattle.policy.specs.Answers.{family_of}
use Rattle.mentions.specs.Closure.{closed_of}
use Rattle.mentions.proofs.ClosureLaws.{own_row, no-own-row}
use Rattle.mentions.proofs.CycleSearch.{seeks-nothing}
use Rattle.mentions.proofs.family_cycle.Goals as goal

pub returns-then-is_acyclic : goal.returns-then-is_acyclic
returns-then-is_acyclic c =
    let f = family_of c.args.family in
    let closed = c.close.ensures in (
      closed,
      λ p ok q m.
          let own = own_row p f ok _ (closed ∙ ap (closed_of 64) m) in
          seeks-nothing p f (λ a. sym (own a) ∙ no-own-row _ (sym c.is_acyclic.ensures ∙ c.if-is_acyclic.true) a),
    )

pub returns : goal.returns
returns c =
    let f = family_of c.args.family in
    let closed = c.close.ensures in
    (closed, λ p ok q m. c.first_cycle.ensures p ok q (own_row p f ok _ (closed ∙ ap (closed_of 64) m)))
