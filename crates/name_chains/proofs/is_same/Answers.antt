-- `name_chains::is_same` meets its contract (FindLaws). Assumes nothing.
use native.Mathlib.Omega.{arith}
use Rattle.name_chains.proofs.FindLaws.{other-front, same-front, all-bytes}
use Rattle.name_chains.proofs.is_same.Goals as goal

pub returns-then-word-front : goal.returns-then-word-front
returns-then-word-front c = other-front c.word.ensures c.requires.2 c.if-word-front.true

pub returns-then-name-le-FRONT : goal.returns-then-name-le-FRONT
returns-then-name-le-FRONT c =
    same-front (λ i. (c.shared_slice_known-1.given i).fits) (λ i. (c.shared_slice_known-2-1.given i).fits) c.word.ensures
    c.requires.2 c.if-word-front.false (omega (arith, c.if-name-le-FRONT.true))

pub returns : goal.returns
returns c = all-bytes c.link_at-link.ensures.0 c.same.ensures
