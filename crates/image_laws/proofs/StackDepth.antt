-- The stack that the rows of E need: the rows leave one truth value more than they found, they reach exactly the depth that `need E`
-- says, and so they are balanced on a stack of 5 exactly when that need is at most 5. By the form of E, over whatever rows follow.
-- Assumes nothing.
use Prim.Native.Nat.{ℕ, suc, max, ◌+◌, ◌≤◌}
use native.Mathlib.Omega.{arith}
use mathlib.Core.Path.{◌≡◌, refl, sym, ap, ◌∙◌}
use mathlib.Core.Bool.{true}
use mathlib.Core.List.{List, [], ◌∷◌, ◌++◌, append_assoc, append-nil}
use borrow.Author.Tests.{le-leb}
use Rattle.policy.specs.Statements.{Reference, thing, attribute, Constraint, sides_e, name_e, not_e, and_e, or_e, need}
use Rattle.policy.specs.Rows.{Row, row, rows_of, after, balanced}
use Rattle.image_laws.specs.Depth.{deepest}

pub need-positive : {R : Type 0} (e : Constraint R) → 1 ≤ need e
unfolding need
need-positive (sides_e f o) = omega arith
need-positive (name_e f s o r) = omega arith
need-positive (not_e a) = need-positive a
need-positive (and_e a b) = omega arith
need-positive (or_e a b) = omega arith

-- ---- with room for its need, the rows of E are balanced

-- a row that leaves a depth from 1 to 5
one-row : (r : Row) (rest : List Row) (d k : ℕ) → after r d ≡ k → 1 ≤ k → k ≤ 5 → balanced (r ∷ rest) d ≡ balanced rest k
unfolding balanced
one-row r rest d k e low high = rw (e, le-leb 1 k low, le-leb k 5 high)

-- two operands and the row that takes them for one
two-and-row : (r : Row) → ((d : ℕ) → after r (suc d) ≡ d) → (xs ys rest : List Row) (d : ℕ) → suc d ≤ 5
    → balanced (xs ++ (ys ++ (r ∷ rest))) d ≡ balanced (ys ++ (r ∷ rest)) (suc d)
    → balanced (ys ++ (r ∷ rest)) (suc d) ≡ balanced (r ∷ rest) (suc (suc d))
    → balanced ((xs ++ (ys ++ (r ∷ []))) ++ rest) d ≡ balanced rest (suc d)
two-and-row r takes xs ys rest d room first second =
    simp append_assoc (first ∙ (second ∙ one-row r rest (suc (suc d)) (suc d) (takes (suc d)) (omega arith) room))

pub balanced-rows : (e : Constraint Reference) (rest : List Row) (d : ℕ) → d + need e ≤ 5 → balanced (rows_of e ++ rest) d ≡ balanced rest (suc d)
unfolding rows_of need
balanced-rows (sides_e f o) rest d room = one-row (row 3 _ _ _) rest d (suc d) refl (omega arith) (omega arith)
balanced-rows (name_e f s o (thing n)) rest d room = one-row (row 4 _ _ _) rest d (suc d) refl (omega arith) (omega arith)
balanced-rows (name_e f s o (attribute a)) rest d room = one-row (row 5 _ _ _) rest d (suc d) refl (omega arith) (omega arith)
balanced-rows (not_e a) rest d room =
    simp append_assoc (balanced-rows a (row 0 0 0 0 ∷ rest) d room
    ∙ one-row (row 0 0 0 0) rest (suc d) (suc d) refl (omega arith) (omega (arith, need-positive a)))
balanced-rows (and_e a b) rest d room =
    two-and-row (row 1 0 0 0) (λ d. refl) (rows_of a) (rows_of b) rest d (omega (arith, need-positive a))
    (balanced-rows a _ d (omega arith)) (balanced-rows b _ (suc d) (omega arith))
balanced-rows (or_e a b) rest d room =
    two-and-row (row 2 0 0 0) (λ d. refl) (rows_of a) (rows_of b) rest d (omega (arith, need-positive a))
    (balanced-rows a _ d (omega arith)) (balanced-rows b _ (suc d) (omega arith))

pub balanced-whole : (e : Constraint Reference) → need e ≤ 5 → balanced (rows_of e) 0 ≡ true
unfolding balanced
balanced-whole e room = ap (λ (rs : List Row). balanced rs 0) (sym (append-nil (rows_of e))) ∙ balanced-rows e [] 0 (omega arith)

-- ---- the need is exact

deepest-from : (rs : List Row) (d : ℕ) → d ≤ deepest rs d
unfolding deepest
deepest-from [] d = omega arith
deepest-from (r ∷ rs) d = omega arith

deepest-one : (r : Row) (rest : List Row) (d k : ℕ) → after r d ≡ k → deepest (r ∷ rest) d ≡ max d (deepest rest k)
unfolding deepest
deepest-one r rest d k e = ap (λ (x : ℕ). max d (deepest rest x)) e

-- a comparison
deepest-more : (r : Row) (rest : List Row) (d : ℕ) → after r d ≡ suc d → deepest (r ∷ rest) d ≡ max (d + 1) (deepest rest (suc d))
deepest-more r rest d e = omega (arith, deepest-one r rest d (suc d) e, deepest-from rest (suc d))

-- two operands and the row that takes them for one
deepest-two : (r : Row) → ((d : ℕ) → after r (suc d) ≡ d) → (xs ys rest : List Row) (d n m : ℕ) → 1 ≤ m
    → deepest (xs ++ (ys ++ (r ∷ rest))) d ≡ max (d + n) (deepest (ys ++ (r ∷ rest)) (suc d))
    → deepest (ys ++ (r ∷ rest)) (suc d) ≡ max (suc d + m) (deepest (r ∷ rest) (suc (suc d)))
    → deepest ((xs ++ (ys ++ (r ∷ []))) ++ rest) d ≡ max (d + max n (1 + m)) (deepest rest (suc d))
deepest-two r takes xs ys rest d n m some first second =
    simp append_assoc (omega (arith, first, second, deepest-one r rest (suc (suc d)) (suc d) (takes (suc d)), deepest-from rest (suc d)))

deepest-over : (e : Constraint Reference) (rest : List Row) (d : ℕ) → deepest (rows_of e ++ rest) d ≡ max (d + need e) (deepest rest (suc d))
unfolding rows_of need
deepest-over (sides_e f o) rest d = deepest-more (row 3 _ _ _) rest d refl
deepest-over (name_e f s o (thing n)) rest d = deepest-more (row 4 _ _ _) rest d refl
deepest-over (name_e f s o (attribute a)) rest d = deepest-more (row 5 _ _ _) rest d refl
deepest-over (not_e a) rest d =
    simp append_assoc (omega (arith, deepest-over a (row 0 0 0 0 ∷ rest) d, deepest-one (row 0 0 0 0) rest (suc d) (suc d) refl, deepest-from rest (suc d)))
deepest-over (and_e a b) rest d =
    deepest-two (row 1 0 0 0) (λ d. refl) (rows_of a) (rows_of b) rest d (need a) (need b) (need-positive b) (deepest-over a _ d) (deepest-over b _ (suc d))
deepest-over (or_e a b) rest d =
    deepest-two (row 2 0 0 0) (λ d. refl) (rows_of a) (rows_of b) rest d (need a) (need b) (need-positive b) (deepest-over a _ d) (deepest-over b _ (suc d))

-- the rows of E reach exactly the depth that E needs
pub deepest-rows : (e : Constraint Reference) (d : ℕ) → deepest (rows_of e) d ≡ d + need e
unfolding deepest
deepest-rows e d =
    ap (λ (rs : List Row). deepest rs d) (sym (append-nil (rows_of e))) ∙ (deepest-over e [] d ∙ omega (arith, need-positive e))
