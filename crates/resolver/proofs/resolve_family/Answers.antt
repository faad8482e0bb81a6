-- `resolver::resolve_family` meets its contract: rows of mentions that are empty, as the sets were when cleared, mean one round and no cycle. Assumes nothing.
use mathlib.Core.Path.{sym, ◌∙◌}
use Rattle.policy.specs.Answers.{family_of}
use Rattle.final_sets.proofs.FinalLaws.{first_rows, none-mentioned, one-round, off-cycle}
use Rattle.mentions.proofs.CycleSearch.{seeks-nothing}
use Rattle.resolver.proofs.resolve_family.Goals as goal

pub returns-then-same_rows : goal.returns-then-same_rows
returns-then-same_rows c = λ p ok q n.
    let f = family_of c.args.family in
    let rows = c.mentions.ensures p ok q in
    let cleared = c.clear.ensures ∙ first_rows p ok f _ c.clear-arg-1.given.0.1 in
    let same = sym c.same_rows.ensures ∙ c.if-same_rows.true in
    let none = none-mentioned p ok f _ _ rows cleared same in (
      one-round p ok f (sym rows ∙ none) _ _ none (c.round.ensures p ok q n),
      seeks-nothing p f (off-cycle p ok f (sym rows ∙ none)),
    )

pub returns : goal.returns
returns c = λ p ok q n.
    let rows = c.mentions.ensures p ok q in
    (c.final_sets.ensures p ok q n, c.family_cycle.ensures.1 p ok q rows)
