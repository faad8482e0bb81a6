-- Declarations that pass `good_from` have names that differ: those of each sort, those of the classes, and those of the permissions of each class. By induction
-- on the declarations, from what is declared before. Assumes nothing.
use Prim.Native.Nat.{ℕ}
use mathlib.Core.Path.{◌≡◌, refl, sym, ap, subst, ◌∙◌}
use mathlib.Core.Bool.{Bool, true, false, not, cond, false≢true}
use mathlib.Core.List.{List, [], ◌∷◌, ◌++◌, append_assoc, append-nil}
use mathlib.Core.Option.{Option, none, some, some-injective, none-ne-some}
use borrow.Author.Tests.{not-true}
use Rattle.policy.specs.Basics.{Name, same, any, is_in, differ, gather, keep, All}
use Rattle.policy.specs.Statements.{Sort, Declaration, plain, class, same_family, same_sort, family_of, of_sort, of_family, of_class, with_permissions}
use Rattle.policy.specs.Statements.{names_of, family_names, class_names, permissions}
use Rattle.policy.specs.Reading.{is_new}
use Rattle.policy.specs.Sound.{good_from}
use Rattle.policy.proofs.Lists.{both_true, neither, gather-over, gather-last}
use Rattle.policy.proofs.Sameness.{family-self, sort-same}
use Rattle.policy.proofs.Good.{good-first, good-rest}
use Rattle.policy.proofs.Differing.{differ-more}
use Rattle.policy.proofs.Gathered.{OfValue, all-gather, all_get_d}

-- what a new declaration adds to the names that f tells of declarations is none of those before
abbrev New : (Declaration → Option Name) → Type 0
New f = (e : List Declaration) (d : Declaration) (w : Name) → is_new e d ≡ true → f d ≡ some w → is_in w (gather f e) ≡ false

-- then they differ
module _ (f : Declaration → Option Name) (new : New f) where
  one_more : (e : List Declaration) (d : Declaration) → is_new e d ≡ true → differ (gather f e) ≡ true → differ (gather f (e ++ (d ∷ []))) ≡ true
  one_more e d n h = by (f d) refl
    where
      by : (o : Option Name) → f d ≡ o → differ (gather f (e ++ (d ∷ []))) ≡ true
      by none q = rw (gather-over f e d q) h
      by (some w) q = rw (gather-last f e d w q) (differ-more (gather f e) w h (new e d w n q))

  differ-from : (e ds : List Declaration) → good_from e ds ≡ true → differ (gather f e) ≡ true → differ (gather f (e ++ ds)) ≡ true
  differ-from e [] g h = rw append-nil h
  differ-from e (d ∷ ds) g h =
      subst (λ (xs : List Declaration). differ (gather f xs) ≡ true) (append_assoc e (d ∷ []) ds)
      (differ-from (e ++ (d ∷ [])) ds (good-rest e d ds g) (one_more e d (good-first e d ds g).new h))

  differ-all : (ds : List Declaration) → good_from [] ds ≡ true → differ (gather f ds) ≡ true
  unfolding gather differ
  differ-all ds g = differ-from [] ds g refl

-- ---- the names of a sort are among those of its family

not-in-sort : (s : Sort) (w : Name) (e : List Declaration) → is_in w (gather (of_family (family_of s)) e) ≡ false → is_in w (gather (of_sort s) e) ≡ false
unfolding is_in any gather
not-in-sort s w [] h = refl
not-in-sort s w (class v ps ∷ e) h = not-in-sort s w e h
not-in-sort s w (plain t v ∷ e) h = by (same_sort s t) (same_family (family_of s) (family_of t)) refl refl h (not-in-sort s w e)
  where
    by : (p q : Bool) → same_sort s t ≡ p → same_family (family_of s) (family_of t) ≡ q
        → any (same w) (keep (cond q (some v) none) (gather (of_family (family_of s)) e)) ≡ false
        → (any (same w) (gather (of_family (family_of s)) e) ≡ false → any (same w) (gather (of_sort s) e) ≡ false)
        → any (same w) (keep (cond p (some v) none) (gather (of_sort s) e)) ≡ false
    by false false st fa h ih = ih h
    by false true st fa h ih = ih (neither (same w v) (any (same w) (gather (of_family (family_of s)) e)) h).1
    by true true st fa h ih =
        let b = neither (same w v) (any (same w) (gather (of_family (family_of s)) e)) h in
        rw (b.0, ih b.1)
    by true false st fa h ih =
        absurd (false≢true (sym fa ∙ ap (λ (u : Sort). same_family (family_of s) (family_of u)) (sym (sort-same s t st)) ∙ family-self (family_of s)))

new-of-sort : (s : Sort) → New (of_sort s)
unfolding family_names
new-of-sort s e (class v ps) w n q = absurd (none-ne-some w q)
new-of-sort s e (plain t v) w n q = by (same_sort s t) refl q
  where
    by : (p : Bool) → same_sort s t ≡ p → cond p (some v) none ≡ some w → is_in w (gather (of_sort s) e) ≡ false
    by false st q = absurd (none-ne-some w q)
    by true st q =
        subst (λ (u : Name). is_in u (gather (of_sort s) e) ≡ false) (some-injective v w q)
        (not-in-sort s v e (subst (λ (u : Sort). is_in v (gather (of_family (family_of u)) e) ≡ false) (sym (sort-same s t st)) (not-true _ n)))

-- "unique in their families"
pub names-differ : (s : Sort) (ds : List Declaration) → good_from [] ds ≡ true → differ (names_of s ds) ≡ true
unfolding names_of
names-differ s ds g = differ-all (of_sort s) (new-of-sort s) ds g

-- ---- classes and their permissions

new-class : New of_class
unfolding class_names
new-class e (plain t v) w n q = absurd (none-ne-some w q)
new-class e (class v ps) w n q =
    let other = not-true _ (both_true (not (is_in v (gather of_class e))) (differ ps) n).0 in
    subst (λ (u : Name). is_in u (gather of_class e) ≡ false) (some-injective v w q) other

pub classes-differ : (ds : List Declaration) → good_from [] ds ≡ true → differ (class_names ds) ≡ true
unfolding class_names
classes-differ ds g = differ-all of_class new-class ds g

-- "its permissions differ"
abbrev PermissionsDiffer : Declaration → Type 0
PermissionsDiffer (plain s w) = Unit {0}
PermissionsDiffer (class w ps) = differ ps ≡ true

differ-in : (e : List Declaration) (d : Declaration) → is_new e d ≡ true → PermissionsDiffer d
differ-in e (plain s w) n = tt
differ-in e (class w ps) n = (both_true (not (is_in w (class_names e))) (differ ps) n).1

differ-in-all : (e ds : List Declaration) → good_from e ds ≡ true → All PermissionsDiffer ds
differ-in-all e [] g = tt
differ-in-all e (d ∷ ds) g = (differ-in e d (good-first e d ds g).new, differ-in-all (e ++ (d ∷ [])) ds (good-rest e d ds g))

pub permissions-differ : (ds : List Declaration) → good_from [] ds ≡ true → (c : ℕ) → differ (permissions ds c) ≡ true
unfolding permissions differ
permissions-differ ds g c =
    all_get_d (λ (ps : List Name). differ ps ≡ true) (gather with_permissions ds) c []
    (all-gather (λ (ps : List Name). differ ps ≡ true) PermissionsDiffer with_permissions kept ds (differ-in-all [] ds g)) refl
  where
    kept : (d : Declaration) → PermissionsDiffer d → OfValue (λ (ps : List Name). differ ps ≡ true) (with_permissions d)
    kept (plain s w) k = tt
    kept (class w ps) k = k
