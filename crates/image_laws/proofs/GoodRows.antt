-- The rows of an E that reading leaves: "operators are those the forms above allow", "Unused fields are 0", no component is of a side that E may not
-- name, and no number is of something undeclared. Assumes nothing.
use mathlib.Core.Path.{◌≡◌, refl, sym, ap, ap₂, ◌∙◌}
use mathlib.Core.Bool.{Bool, true, false, ◌&&◌, ◌||◌, false≢true}
use mathlib.Core.List.{List, [], ◌∷◌, ◌++◌}
use Prim.Native.Nat.{ℕ}
use lib.Dec.{ltb}
use borrow.Author.Tests.{lt-ltb}
use Rattle.policy.specs.Basics.{every}
use Rattle.policy.specs.Statements.{Family, users, roles, types, thing_of, attribute_of, Declaration, Reference, thing, attribute, Side, source, target, process, Op}
use Rattle.policy.specs.Statements.{eq, neq, dom, domby, incomp, Constraint, sides_e, name_e, not_e, and_e, or_e, count}
use Rattle.policy.specs.Words.{is_plain, Sides, two_sides, three_sides}
use Rattle.policy.specs.Grammar.{is_roles}
use Rattle.policy.specs.Rows.{Row, row, comp_code, op_code, name_row, rows_of}
use Rattle.policy.specs.Sound.{good_row}
use Rattle.policy.specs.Accepted.{is_side, ReferenceIn, ConstraintIn}
use Rattle.policy.proofs.Lists.{every_append}
use Rattle.policy.proofs.Sorts.{comp-family}

-- how many components an E has to name: three of each side
abbrev pub component_count : Sides → ℕ
component_count two_sides = 6
component_count three_sides = 9

comp-small : (n : Sides) (f : Family) (s : Side) → is_side n s ≡ true → ltb (comp_code f s) (component_count n) ≡ true
comp-small two_sides users source h = refl
comp-small two_sides users target h = refl
comp-small two_sides roles source h = refl
comp-small two_sides roles target h = refl
comp-small two_sides types source h = refl
comp-small two_sides types target h = refl
comp-small two_sides f process h = absurd (false≢true h)
comp-small three_sides users source h = refl
comp-small three_sides users target h = refl
comp-small three_sides users process h = refl
comp-small three_sides roles source h = refl
comp-small three_sides roles target h = refl
comp-small three_sides roles process h = refl
comp-small three_sides types source h = refl
comp-small three_sides types target h = refl
comp-small three_sides types process h = refl

op-small : (o : Op) → ltb (op_code o) 5 ≡ true
op-small eq = refl
op-small neq = refl
op-small dom = refl
op-small domby = refl
op-small incomp = refl

plain-small : (o : Op) (b : Bool) → b ≡ false → (is_plain o || b) ≡ true → ltb (op_code o) 2 ≡ true
plain-small eq b n h = refl
plain-small neq b n h = refl
plain-small dom b n h = absurd (false≢true (sym n ∙ h))
plain-small domby b n h = absurd (false≢true (sym n ∙ h))
plain-small incomp b n h = absurd (false≢true (sym n ∙ h))

module _ (ds : List Declaration) (n : Sides) where
  -- a row of an E that may name these sides
  abbrev good : Row → Bool
  good r = good_row (component_count n) ds r

  good-sides : (f : Family) (o : Op) → (is_plain o || is_roles f) ≡ true → good (row 3 (comp_code f source) (op_code o) 0) ≡ true
  good-sides users o h = rw (plain-small o false refl h)
  good-sides roles o h = rw (op-small o)
  good-sides types o h = rw (plain-small o false refl h)

  good-name : (f : Family) (s : Side) (o : Op) (r : Reference) → is_plain o ≡ true → ReferenceIn ds f r → is_side n s ≡ true
      → good (name_row (comp_code f s) (op_code o) r) ≡ true
  good-name f s o (thing m) h k i =
      rw (comp-family f s, comp-small n f s i, plain-small o false refl (ap (λ (b : Bool). b || false) h), lt-ltb m (count (thing_of f) ds) k)
  good-name f s o (attribute a) h k i =
      rw (comp-family f s, comp-small n f s i, plain-small o false refl (ap (λ (b : Bool). b || false) h), lt-ltb a (count (attribute_of f) ds) k)

  -- rows before one that is good whatever is declared
  before-good : (xs : List Row) (r : Row) → every good xs ≡ true → good r ≡ true → every good (xs ++ (r ∷ [])) ≡ true
  unfolding every
  before-good xs r h k = every_append good xs (r ∷ []) ∙ ap₂ ◌&&◌ h (ap (λ (b : Bool). b && true) k)

  pub good-rows : (e : Constraint Reference) → ConstraintIn ds n e → every good (rows_of e) ≡ true
  unfolding every rows_of
  good-rows (sides_e f o) h = ap (λ (b : Bool). b && true) (good-sides f o h)
  good-rows (name_e f s o r) h = ap (λ (b : Bool). b && true) (good-name f s o r h.0 h.1 h.2)
  good-rows (not_e a) h = before-good (rows_of a) (row 0 0 0 0) (good-rows a h) refl
  good-rows (and_e a b) h =
      every_append good (rows_of a) (rows_of b ++ (row 1 0 0 0 ∷ []))
      ∙ ap₂ ◌&&◌ (good-rows a h.0) (before-good (rows_of b) (row 1 0 0 0) (good-rows b h.1) refl)
  good-rows (or_e a b) h =
      every_append good (rows_of a) (rows_of b ++ (row 2 0 0 0 ∷ []))
      ∙ ap₂ ◌&&◌ (good-rows a h.0) (before-good (rows_of b) (row 2 0 0 0) (good-rows b h.1) refl)
