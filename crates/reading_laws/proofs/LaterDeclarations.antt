-- What is declared stays declared when more is declared at the end: numbers of things, attributes and classes stay in range, and the
-- permissions of a class stay the same. Assumes nothing.
use Prim.Native.Nat.{ℕ, ◌<◌, ◌≤◌}
use native.Mathlib.Omega.{arith}
use mathlib.Core.Path.{◌≡◌, sym, ap, ◌∙◌, subst}
use mathlib.Core.List.{List, [], ◌++◌}
use mathlib.Core.Option.{Option}
use lib.ListN.{length, get_or, length-append, get_or-append}
use Rattle.policy.specs.Basics.{Name, gather, All}
use Rattle.policy.specs.Statements.{Family, roles, types, Sort, thing_of, attribute_of, Declaration, of_sort, of_class, with_permissions, Reference, thing}
use Rattle.policy.specs.Statements.{attribute, SetExpr, name_s, all_s, not_s, and_s, or_s, xor_s, union_s, empty_s, Constraint, sides_e, name_e, not_e, and_e, or_e}
use Rattle.policy.specs.Statements.{Statement, declare, attributeset, gives, roletransition, constrain, validatetrans, from_of, to_of, names_of, class_names}
use Rattle.policy.specs.Statements.{permissions, count}
use Rattle.policy.specs.Words.{Sides, two_sides, three_sides}
use Rattle.policy.specs.Accepted.{ReferenceIn, SetIn, ConstraintIn, StatementIn}
use Rattle.policy.proofs.Lists.{gather_append}
use Rattle.policy.proofs.Counts.{class-lists}

gather-grows : {A B : Type 0} (f : A → Option B) (xs ys : List A) → length (gather f xs) ≤ length (gather f (xs ++ ys))
gather-grows f xs ys = rw (gather_append f xs ys, length-append) (omega arith)

module _ (ds es : List Declaration) where
  pub count-grows : (s : Sort) → count s ds ≤ count s (ds ++ es)
  unfolding count names_of
  count-grows s = gather-grows (of_sort s) ds es

  pub classes-grow : length (class_names ds) ≤ length (class_names (ds ++ es))
  unfolding class_names
  classes-grow = gather-grows of_class ds es

  pub permissions-stay : (c : ℕ) → c < length (class_names ds) → permissions (ds ++ es) c ≡ permissions ds c
  unfolding permissions class_names
  permissions-stay c h =
      ap (λ (l : List (List Name)). get_or l c []) (gather_append with_permissions ds es)
      ∙ get_or-append (gather with_permissions ds) (gather with_permissions es) [] c (subst (λ (n : ℕ). c < n) (sym (class-lists ds)) h)

  pub reference-grows : (f : Family) (r : Reference) → ReferenceIn ds f r → ReferenceIn (ds ++ es) f r
  reference-grows f (thing n) h = omega (arith, count-grows (thing_of f))
  reference-grows f (attribute a) h = omega (arith, count-grows (attribute_of f))

  pub set-grows : (f : Family) (s : SetExpr Reference) → SetIn ds f s → SetIn (ds ++ es) f s
  set-grows f (name_s r) h = reference-grows f r h
  set-grows f all_s h = tt
  set-grows f (not_s x) h = set-grows f x h
  set-grows f (and_s x y) h = (set-grows f x h.0, set-grows f y h.1)
  set-grows f (or_s x y) h = (set-grows f x h.0, set-grows f y h.1)
  set-grows f (xor_s x y) h = (set-grows f x h.0, set-grows f y h.1)
  set-grows f (union_s x y) h = (set-grows f x h.0, set-grows f y h.1)
  set-grows f empty_s h = tt

  pub constraint-grows : (n : Sides) (e : Constraint Reference) → ConstraintIn ds n e → ConstraintIn (ds ++ es) n e
  constraint-grows n (sides_e f o) h = h
  constraint-grows n (name_e f s o r) h = (h.0, reference-grows f r h.1, h.2)
  constraint-grows n (not_e x) h = constraint-grows n x h
  constraint-grows n (and_e x y) h = (constraint-grows n x h.0, constraint-grows n y h.1)
  constraint-grows n (or_e x y) h = (constraint-grows n x h.0, constraint-grows n y h.1)

  -- what is said of ds holds of more
  pub statement-grows : (s : Statement) → StatementIn ds s → StatementIn (ds ++ es) s
  statement-grows (declare d) h = tt
  statement-grows (attributeset f a s) h = (omega (arith, count-grows (attribute_of f)), set-grows f s h.1)
  statement-grows (gives k x y) h = (reference-grows (from_of k) x h.0, reference-grows (to_of k) y h.1)
  statement-grows (roletransition r t c n) h =
      (reference-grows roles r h.0, reference-grows types t h.1, omega (arith, classes-grow), omega (arith, count-grows (thing_of roles)))
  statement-grows (constrain c ps e) h = (
    omega (arith, classes-grow),
    h.1,
    subst (λ (qs : List Name). All (λ k. k < length qs) ps) (sym (permissions-stay c h.0)) h.2,
    constraint-grows two_sides e h.3,
    h.4,
  )
  statement-grows (validatetrans c e) h = (omega (arith, classes-grow), constraint-grows three_sides e h.1, h.2)
