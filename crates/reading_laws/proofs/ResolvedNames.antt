-- Names that are resolved against declarations, in the blocks of a path, give numbers of what is declared: FAULT 5's other side. Each law follows the definition
-- that it speaks of. Assumes nothing.
use Prim.Native.Nat.{ℕ, ◌<◌}
use native.Mathlib.Nat.{not-suc-le-zero}
use mathlib.Core.Path.{◌≡◌, refl, sym, ap, subst, ◌∙◌}
use mathlib.Core.Bool.{Bool, true, false, ◌||◌}
use mathlib.Core.List.{List, [], ◌∷◌}
use mathlib.Core.Option.{none, some}
use lib.ListN.{length}
use borrow.Author.Tests.{leb-true, not-false}
use Rattle.policy.specs.Basics.{Name, each_of, All}
use Rattle.policy.specs.Statements.{Family, roles, types, thing_of, attribute_of, Declaration, SetExpr, name_s, all_s, not_s, and_s, or_s, xor_s, union_s, empty_s}
use Rattle.policy.specs.Statements.{Constraint, sides_e, name_e, not_e, and_e, or_e, declare, attributeset, gives, roletransition, constrain, from_of, to_of, Written}
use Rattle.policy.specs.Statements.{validatetrans, Statement, as_declaration, permissions, count, need, Sort, thing, attribute, family_of}
use Rattle.policy.specs.Maxima.{max_stack}
use Rattle.policy.specs.Words.{is_plain, Sides, two_sides, three_sides}
use Rattle.policy.specs.Grammar.{is_roles}
use Rattle.policy.specs.Names.{refer, Named, environment_of, reference_of}
use Rattle.policy.specs.Reading.{full_declaration, in_blocks, is_new, again, refer_s, refer_e, resolved, is_short, shallow}
use Rattle.policy.specs.Sound.{good_names}
use Rattle.policy.specs.Accepted.{is_side, ReferenceIn, SetIn, ConstraintIn, StatementIn, GoodPath}
use Rattle.policy.proofs.IfAny.{IfAny, nothing, just, and_then, if-each, some_more}
use Rattle.policy.proofs.Environments.{NamedIn, named_in, number-below, class-below, permission-below}
use Rattle.reading_laws.proofs.FullNames.{good_parts, declaration-good}

-- E's operators are those that its forms allow, "op: `eq neq`; rop: also `dom domby incomp`", and its sides those that it may name
abbrev pub Allowed : Sides → Constraint Name → Type 0
Allowed n (sides_e f o) = (is_plain o || is_roles f) ≡ true
Allowed n (name_e f s o w) = (is_plain o ≡ true) × (is_side n s ≡ true)
Allowed n (not_e x) = Allowed n x
Allowed n (and_e x y) = Allowed n x × Allowed n y
Allowed n (or_e x y) = Allowed n x × Allowed n y

-- what the form of a statement gives: good parts for names where it declares; a permission at least, allowed operators and sides where it constrains
abbrev pub WellWritten : Written → Type 0
WellWritten (declare d) = good_parts d ≡ true
WellWritten (attributeset f a s) = Unit {0}
WellWritten (gives k x y) = Unit {0}
WellWritten (roletransition r t c n) = Unit {0}
WellWritten (constrain c ps e) = (0 < length ps) × Allowed two_sides e
WellWritten (validatetrans c e) = Allowed three_sides e

-- what it declares has good names, and is new
abbrev pub Declares : List Declaration → Statement → Type 0
Declares ds s = IfAny (λ d. (good_names d ≡ true) × (is_new ds d ≡ true)) (as_declaration s)

-- what it declares has a full name that is not too long
abbrev pub short_named : Statement → Bool
short_named s = elim (as_declaration s) [ none ↦ true | some d ↦ is_short d ]

-- a statement after the declarations ds, with faults 3 to 5 ruled out: where 7 is, it is of what is declared, and where 6 is, it declares
abbrev pub Resolved : List Declaration → Statement → Type 0
Resolved ds s = (shallow s ≡ true → StatementIn ds s) × (short_named s ≡ true → Declares ds s)

reference-in : (ds : List Declaration) (f : Family) (d : Named) → NamedIn ds f d → ReferenceIn ds f (reference_of d)
reference-in ds f d h = by d.sort refl
  where
    by : (s : Sort) → d.sort ≡ s → ReferenceIn ds f (elim s [ thing_of f ↦ thing d.number | attribute_of f ↦ attribute d.number ])
    by (thing_of g) e = subst (λ (s : Sort). d.number < count s ds) (e ∙ ap thing_of (sym (ap family_of e) ∙ h.family)) h.number
    by (attribute_of g) e = subst (λ (s : Sort). d.number < count s ds) (e ∙ ap attribute_of (sym (ap family_of e) ∙ h.family)) h.number

module _ (ds : List Declaration) (path : List Name) where
  pub refer-in : (f : Family) (w : Name) → IfAny (ReferenceIn ds f) (refer (environment_of ds path) f w)
  unfolding refer
  refer-in f w = and_then _ _ (named_in ds path f w) λ d h. just (reference-in ds f d h)

  pub set-in : (f : Family) (s : SetExpr Name) → IfAny (SetIn ds f) (refer_s (environment_of ds path) f s)
  unfolding refer_s
  set-in f (name_s w) = and_then _ _ (refer-in f w) λ r h. just h
  set-in f all_s = just tt
  set-in f (not_s x) = and_then _ _ (set-in f x) λ x h. just h
  set-in f (and_s x y) = and_then _ _ (set-in f x) λ x h. and_then _ _ (set-in f y) λ y k. just (h, k)
  set-in f (or_s x y) = and_then _ _ (set-in f x) λ x h. and_then _ _ (set-in f y) λ y k. just (h, k)
  set-in f (xor_s x y) = and_then _ _ (set-in f x) λ x h. and_then _ _ (set-in f y) λ y k. just (h, k)
  set-in f (union_s x y) = and_then _ _ (set-in f x) λ x h. and_then _ _ (set-in f y) λ y k. just (h, k)
  set-in f empty_s = just tt

  pub constraint-in : (n : Sides) (e : Constraint Name) → Allowed n e → IfAny (ConstraintIn ds n) (refer_e (environment_of ds path) e)
  unfolding refer_e
  constraint-in n (sides_e f o) a = just a
  constraint-in n (name_e f s o w) a = and_then _ _ (refer-in f w) λ r h. just (a.0, h, a.1)
  constraint-in n (not_e x) a = and_then _ _ (constraint-in n x a) λ x h. just h
  constraint-in n (and_e x y) a = and_then _ _ (constraint-in n x a.0) λ x h. and_then _ _ (constraint-in n y a.1) λ y k. just (h, k)
  constraint-in n (or_e x y) a = and_then _ _ (constraint-in n x a.0) λ x h. and_then _ _ (constraint-in n y a.1) λ y k. just (h, k)

  -- the places of one or more permissions of class c
  each_below : (c : ℕ) (ps : List Name) → 0 < length ps
      → IfAny (λ ks. (0 < length ks) × All (λ k. k < length (permissions ds c)) ks) (each_of (λ p. (environment_of ds path).permission c p) ps)
  unfolding each_of
  each_below c [] h = absurd (not-suc-le-zero h)
  each_below c (p ∷ ps) h = some_more _ _ (permission-below ds path c p) (if-each _ ps λ p. permission-below ds path c p)

  -- a well written statement in good blocks that declares nothing again, resolved
  pub resolved-in : GoodPath path → (w : Written) → WellWritten w → again ds (in_blocks path w) ≡ false
      → IfAny (Resolved ds) (resolved (environment_of ds path) (in_blocks path w))
  resolved-in good (declare d) g n = just (λ _. tt, λ l. just (declaration-good path d good g l, not-false (is_new ds (full_declaration path d)) n))
  resolved-in good (attributeset f a s) g n =
      and_then _ _ (number-below ds path (attribute_of f) a) λ a h. and_then _ _ (set-in f s) λ s k. just (λ _. (h, k), λ _. nothing)
  resolved-in good (gives r x y) g n = and_then _ _ (refer-in (from_of r) x) λ x h. and_then _ _ (refer-in (to_of r) y) λ y k. just (λ _. (h, k), λ _. nothing)
  resolved-in good (roletransition r t c m) g n =
      and_then _ _ (refer-in roles r) λ r h. and_then _ _ (refer-in types t) λ t k. and_then _ _ (class-below ds path c) λ c i.
      and_then _ _ (number-below ds path (thing_of roles) m) λ m j. just (λ _. (h, k, i, j), λ _. nothing)
  resolved-in good (constrain c ps e) g n =
      and_then _ _ (class-below ds path c) λ c h. and_then _ _ (each_below c ps g.0) λ ps k.
      and_then _ _ (constraint-in two_sides e g.1) λ e i. just (λ s. (h, k.0, k.1, i, leb-true (need e) max_stack s), λ _. nothing)
  resolved-in good (validatetrans c e) g n =
      and_then _ _ (class-below ds path c) λ c h. and_then _ _ (constraint-in three_sides e g) λ e i. just (λ s. (h, i, leb-true (need e) max_stack s), λ _. nothing)
