-- The rows of constraints are counted by their sizes. Assumes nothing.
use Prim.Native.Nat.{◌+◌}
use native.Mathlib.Omega.{arith}
use mathlib.Core.Path.{◌≡◌, refl}
use mathlib.Core.List.{List, [], ◌∷◌, ◌++◌}
use lib.ListN.{length, length-append}
use Rattle.policy.specs.Statements.{Reference, Constraint, sides_e, name_e, not_e, and_e, or_e, size}
use Rattle.policy.specs.Reading.{row_count}
use Rattle.policy.specs.Rows.{rows_of}

-- "one per operator and comparison"
pub rows-count : (e : Constraint Reference) → length (rows_of e) ≡ size e
unfolding rows_of size
rows-count (sides_e f o) = refl
rows-count (name_e f s o r) = refl
rows-count (not_e a) = simp (length-append, rows-count a) (omega arith)
rows-count (and_e a b) = simp (length-append, rows-count a, rows-count b) (omega arith)
rows-count (or_e a b) = simp (length-append, rows-count a, rows-count b) (omega arith)

-- one statement more
pub rows_last : {A : Type 0} (body : A → Constraint Reference) (xs : List A) (c : A) → row_count body (xs ++ (c ∷ [])) ≡ row_count body xs + size (body c)
unfolding row_count
rows_last body [] c = omega arith
rows_last body (x ∷ xs) c = omega (arith, rows_last body xs c)
