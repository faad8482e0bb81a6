-- Every final set, and what all lines of a relation together give, stays within the things that the text declares: by induction on how
-- deep the attributes are nested, then on the form of S. Assumes nothing.
use Prim.Native.Nat.{ℕ, zero, suc, ◌<◌}
use mathlib.Core.Path.{◌≡◌, refl, sym, subst, ◌∙◌}
use mathlib.Core.Bool.{Bool, true, false, not, ◌&&◌, ◌||◌, false≢true}
use mathlib.Core.List.{List}
use mathlib.Core.Option.{Option, none, some, none-ne-some}
use lib.Dec.{eqb, ltb}
use borrow.Author.Tests.{eqb-true, ltb-true}
use Rattle.policy.specs.Statements.{Family, Reference, thing, attribute, SetExpr, name_s, all_s, not_s, and_s, or_s, xor_s, union_s, empty_s, thing_of, Declaration}
use Rattle.policy.specs.Statements.{Statement, attributeset, AttributeSet, as_set, gives, Gives, as_gives, Relation, from_of, to_of, same_family, Line, Policy, count}
use Rattle.policy.specs.Statements.{declarations, set_for, sets_for}
use Rattle.policy.specs.Meaning.{Set, stands_in, one_of, of_s, count_in, union_of, nested, final, stands, same_relation, line_gives, related}
use Rattle.policy.specs.Basics.{◌>>=◌, given, All}
use Rattle.policy.specs.Accepted.{ReferenceIn, SetIn, StatementIn, Accepted}
use Rattle.policy.proofs.Lists.{both_true}
use Rattle.policy.proofs.Sameness.{family-same, relation-same}
use Rattle.policy.proofs.Options.{given-some}
use Rattle.policy.proofs.IfAny.{IfAny}
use Rattle.policy.proofs.ByKind.{set_says, gives-says}
use Rattle.meaning_laws.proofs.ListLaws.{from_either, any_of, all-gathered}

-- S names only what is declared, and the attributes' sets stay within it: so does S
module _ (ds : List Declaration) (f : Family) where
  -- every number in the set is that of a declared thing
  abbrev Within : Set → Type 0
  Within s = (n : ℕ) → s n ≡ true → n < count (thing_of f) ds

  within-either : (op : Bool → Bool → Bool) → ((a b : Bool) → op a b ≡ true → (a || b) ≡ true)
      → (s t : Set) → Within s → Within t → Within (λ n. op (s n) (t n))
  within-either op h s t p q n e = from_either (s n) (t n) (p n) (q n) (h (s n) (t n) e)

  one-of-either : (a b : Bool) → one_of a b ≡ true → (a || b) ≡ true
  one-of-either true b e = refl
  one-of-either false b e = e

  module _ (sets : ℕ → Set) (inside : (a : ℕ) → Within (sets a)) where
    within-R : (r : Reference) → ReferenceIn ds f r → Within (stands_in sets r)
    within-R (thing m) h n k = subst (λ (y : ℕ). y < count (thing_of f) ds) (sym (eqb-true n m k)) h
    within-R (attribute a) h n k = inside a n k

    -- S as a set
    abbrev the : SetExpr Reference → Set
    the x = of_s (count (thing_of f) ds) sets x

    within-S : (x : SetExpr Reference) → SetIn ds f x → Within (the x)
    unfolding of_s
    within-S (name_s r) h = within-R r h
    within-S all_s h = λ n k. ltb-true n (count (thing_of f) ds) k
    within-S (not_s x) h = λ n k. ltb-true n (count (thing_of f) ds) (both_true (ltb n (count (thing_of f) ds)) (not (the x n)) k).0
    within-S (and_s x y) h = λ n k. within-S x h.0 n (both_true (the x n) (the y n) k).0
    within-S (or_s x y) h = within-either ◌||◌ (λ a b e. e) (the x) (the y) (within-S x h.0) (within-S y h.1)
    within-S (xor_s x y) h = within-either one_of one-of-either (the x) (the y) (within-S x h.0) (within-S y h.1)
    within-S (union_s x y) h = within-either ◌||◌ (λ a b e. e) (the x) (the y) (within-S x h.0) (within-S y h.1)
    within-S empty_s h = λ n k. absurd (false≢true k)

-- a line whose S is taken for attribute a is a statement for it
pub line-of-set : (f : Family) (a at : ℕ) (s : Statement) (x : SetExpr Reference)
    → set_for f a (record { place = at; says = s }) ≡ some x → s ≡ attributeset f a x
line-of-set f a at s x h = by (as_set s) (set_says s) h
  where
    by : (o : Option AttributeSet) → IfAny (λ y. s ≡ attributeset y.family y.attribute y.set) o
        → (o >>= λ y. given (same_family f y.family && eqb a y.attribute) y.set) ≡ some x → s ≡ attributeset f a x
    by none k e = absurd (none-ne-some x e)
    by (some y) k e =
        let told = given-some (same_family f y.family && eqb a y.attribute) y.set x e in
        let both = both_true (same_family f y.family) (eqb a y.attribute) told.0 in
        k.has y refl ∙ rw (family-same f y.family both.0, eqb-true a y.attribute both.1, told.1)

module _ (p : Policy) (ok : Accepted p) where
  -- each statement for attribute a names only what is declared
  pub sets-declared : (f : Family) (a : ℕ) → All (SetIn (declarations p) f) (sets_for f a p)
  unfolding sets_for
  sets-declared f a = all-gathered (λ (l : Line). StatementIn (declarations p) l.says) (SetIn (declarations p) f) (set_for f a)
      (λ l x h e. (subst (StatementIn (declarations p)) (line-of-set f a l.place l.says x e) h).1) p ok.statements

  within-union : (f : Family) (sets : ℕ → Set) → ((a n : ℕ) → sets a n ≡ true → n < count_in p f) → (a n : ℕ) → union_of p f sets a n ≡ true → n < count_in p f
  unfolding union_of count_in
  within-union f sets inside a n h =
      let found = any_of (SetIn (declarations p) f) (λ s. of_s (count_in p f) sets s n) (sets_for f a p) (sets-declared f a) h in
      within-S (declarations p) f sets inside found.0 found.1 n found.2

  within-nested : (k : ℕ) (f : Family) (a n : ℕ) → nested k p f a n ≡ true → n < count_in p f
  unfolding nested
  within-nested zero f a n h = absurd (false≢true h)
  within-nested (suc k) f a n h = within-union f (nested k p f) (within-nested k f) a n h

  -- AN ATTRIBUTE'S FINAL SET holds only things that the text declares; so does what a reference stands for
  pub final-within : (f : Family) (a n : ℕ) → final p f a n ≡ true → n < count_in p f
  unfolding final
  final-within f a n h = within-nested 64 f a n h

  pub stands-within : (f : Family) (r : Reference) (n : ℕ) → ReferenceIn (declarations p) f r → stands p f r n ≡ true → n < count_in p f
  unfolding stands count_in
  stands-within f r n h k = within-R (declarations p) f (final p f) (final-within f) r h n k

  -- WHAT ALL LINES OF A RELATION GIVE, they give to declared things and of declared things
  pub related-within : (k : Relation) (x y : ℕ) → related p k x y ≡ true → (x < count_in p (from_of k)) × (y < count_in p (to_of k))
  unfolding related
  related-within k x y h =
      let found = any_of (λ (l : Line). StatementIn (declarations p) l.says) (line_gives (stands p) k x y) p ok.statements h in
      by found.0.says found.1 (as_gives found.0.says) (gives-says found.0.says) found.2
    where
      by : (s : Statement) → StatementIn (declarations p) s → (o : Option Gives) → IfAny (λ g. s ≡ gives g.relation g.from g.to) o
          → elim o [ none ↦ false | some g ↦ same_relation k g.relation && (stands p (from_of k) g.from x && stands p (to_of k) g.to y) ] ≡ true
          → (x < count_in p (from_of k)) × (y < count_in p (to_of k))
      by s h none i e = absurd (false≢true e)
      by s h (some g) i e =
          let told = both_true (same_relation k g.relation) (stands p (from_of k) g.from x && stands p (to_of k) g.to y) e in
          let both = both_true (stands p (from_of k) g.from x) (stands p (to_of k) g.to y) told.1 in
          let said = subst (StatementIn (declarations p)) (i.has g refl) h in
          let names : ReferenceIn (declarations p) (from_of k) g.from × ReferenceIn (declarations p) (to_of k) g.to
          = rw (relation-same k g.relation told.0) said in
          (stands-within (from_of k) g.from x names.0 both.0, stands-within (to_of k) g.to y names.1 both.1)
