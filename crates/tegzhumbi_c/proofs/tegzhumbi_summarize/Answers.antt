-- `tegzhumbi_summarize` meets its contract. Assumes nothing.
use mathlib.Core.Path.{refl, sym}
use Rattle.tegzhumbi_c.proofs.tegzhumbi_summarize.Goals as goal

pub returns-then-summarize : goal.returns-then-summarize
returns-then-summarize c = (rw (sym c.summarize.ensures.0, c.if-summarize.true) refl, c.summarize.ensures.1)

pub returns : goal.returns
returns c = (rw (sym c.summarize.ensures.0, c.if-summarize.false) refl, c.summarize.ensures.1)
