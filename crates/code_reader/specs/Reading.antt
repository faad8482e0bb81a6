-- How the code of the statements is read: a tag, a place and operands; and what a search answers. Assumes nothing.
use Rattle.std.specs.Prelude.{ℕ, ◌+◌, Bool, cond, ◌&&◌, List, [], ◌∷◌, leb, ltb, eqb, length, get_or, drop, Option, Some, None}
use Rattle.std.proofs.Math.Option as maybe

-- the units up to the next tag; tags are numbered from 4096 on, and no operand is
unfoldable pub operands_of : List ℕ → List ℕ
operands_of [] = []
operands_of (u ∷ us) = cond (ltb u 4096) (u ∷ operands_of us) []

-- the tags of relations
abbrev pub is_relation : ℕ → Bool
is_relation tag = leb 4102 tag && ltb tag 4105

-- where the statement after the one at a place stands: a relation has a place and two operands after its tag, a transition a place and four; any other ends
-- where the next tag stands
abbrev pub step_of : List ℕ → ℕ → ℕ
step_of code at = cond (is_relation (get_or code at 0)) (at + 4) (cond (eqb (get_or code at 0) 4105) (at + 6) (at + 2 + length (operands_of (drop (at + 2) code))))

-- a place, or none
abbrev pub found_of : Option ℕ → maybe.Option ℕ
found_of (Some place) = maybe.some place
found_of None = maybe.none
