-- The computed test for a clash decides the plain statement: of two transitions, and of a line and the lines before it. Assumes nothing.
use Prim.Native.Nat.{ℕ, zero, suc, ◌<◌}
use native.Mathlib.Omega.{arith}
use mathlib.Core.Path.{◌≡◌, refl, sym, ◌∙◌, subst}
use mathlib.Core.Logic.{◌⊎◌, inl, inr, ◌↔◌}
use mathlib.Core.Bool.{Bool, true, false, not, ◌&&◌, ◌||◌, false≢true}
use mathlib.Core.List.{List, [], ◌∷◌}
use mathlib.Core.Option.{Option, none, some, none-ne-some, some-injective}
use lib.Dec.{eqb}
use borrow.Author.Tests.{eqb-true, eqb-false, eq-eqb, ne_eqb, not-true}
use Rattle.policy.specs.Basics.{any, gather, keep}
use Rattle.policy.specs.Statements.{Family, roles, types, Reference, Statement, Line, Policy}
use Rattle.policy.specs.Statements.{declarations, Transition, transition}
use Rattle.policy.specs.Meaning.{Set, stands, count_in}
use Rattle.bitset.specs.Sets.{meet}
use Rattle.policy.specs.Faults.{clashes}
use Rattle.policy.specs.Accepted.{ReferenceIn, StatementIn, Accepted}
use Rattle.policy.proofs.Lists.{both_true}
use Rattle.policy.proofs.ByKind.{transition-says}
use Rattle.meaning_laws.specs.Mentions.{Some}
use Rattle.meaning_laws.specs.Clashes.{Share, Clash, LinesClash}
use Rattle.meaning_laws.proofs.ListLaws.{decided, from_either, or_right, or-says}
use Rattle.meaning_laws.proofs.CountLaws.{lower}
use Rattle.meaning_laws.proofs.WithinDeclared.{stands-within}

-- two sets meet below c
pub meet-there : (c : ℕ) (f g : Set) (n : ℕ) → n < c → f n ≡ true → g n ≡ true → meet c f g ≡ true
unfolding meet
meet-there zero f g n l a b = absurd (omega (arith, l))
meet-there (suc c) f g n l a b = by (decided (eqb n c)) (λ k. meet-there c f g n k a b)
  where
    by : (eqb n c ≡ true) ⊎ (eqb n c ≡ false) → (n < c → meet c f g ≡ true) → (f c && g c || meet c f g) ≡ true
    by (inl e) ih = rw (subst (λ (y : ℕ). f y ≡ true) (eqb-true n c e) a, subst (λ (y : ℕ). g y ≡ true) (eqb-true n c e) b)
    by (inr e) ih = or_right (f c && g c) (meet c f g) (ih (lower n c l (eqb-false n c e)))

meet-back : (c : ℕ) (f g : Set) → meet c f g ≡ true → (n : ℕ) × (f n ≡ true) × (g n ≡ true)
unfolding meet
meet-back zero f g h = absurd (false≢true h)
meet-back (suc c) f g h = from_either (f c && g c) (meet c f g) (λ e. let both = both_true (f c) (g c) e in (c, both.0, both.1)) (meet-back c f g) h

-- what a line's transition names is declared
transition-declared : (p : Policy) (at : ℕ) (s : Statement) (t : Transition) → StatementIn (declarations p) s
    → transition (record { place = at; says = s }) ≡ some t
    → ReferenceIn (declarations p) roles t.role × ReferenceIn (declarations p) types t.type
transition-declared p at s t h e = let k = subst (StatementIn (declarations p)) ((transition-says at s).has t e).0 h in (k.0, k.1)

-- what a test says of a value, if there is one
abbrev pub says : {A : Type 0} → (A → Bool) → Option A → Bool
says c none = false
says c (some a) = c a

any-kept : {A : Type 0} (c : A → Bool) (o : Option A) (ys : List A) → any c (keep o ys) ≡ (says c o || any c ys)
unfolding any
any-kept c none ys = refl
any-kept c (some a) ys = refl

any-gathered : {A B : Type 0} (g : A → Option B) (c : B → Bool) (P : A → Type 0) → ((x : A) → P x ↔ (says c (g x) ≡ true))
    → (xs : List A) → Some P xs ↔ (any c (gather g xs) ≡ true)
unfolding gather any
any-gathered g c P h [] = (λ e. absurd e, λ e. false≢true e)
any-gathered g c P h (x ∷ xs) = rw (any-kept c (g x) (gather g xs)) (or-says (says c (g x)) (any c (gather g xs)) (h x) (any-gathered g c P h xs))

-- a line is a transition that clashes with one of the lines before it
unfoldable pub clashes_after : Policy → Policy → Line → Bool
clashes_after p before l = says (λ t. any (clashes p t) (gather transition before)) (transition l)

module _ (p : Policy) (ok : Accepted p) where
  -- OF TWO TRANSITIONS
  shared : (f : Family) (x y : Reference) → ReferenceIn (declarations p) f x → Share p f x y ↔ (meet (count_in p f) (stands p f x) (stands p f y) ≡ true)
  shared f x y d = (
    λ h. meet-there (count_in p f) (stands p f x) (stands p f y) h.0 (stands-within p ok f x h.0 d h.1) h.1 h.2,
    meet-back (count_in p f) (stands p f x) (stands p f y),
  )

  clash-exactly : (t u : Transition) → ReferenceIn (declarations p) roles t.role → ReferenceIn (declarations p) types t.type
      → Clash p t u ↔ (clashes p t u ≡ true)
  unfolding clashes
  clash-exactly t u dr dt = (there, back)
    where
      there : Clash p t u → clashes p t u ≡ true
      there h =
          rw (eq-eqb t.class u.class h.class, ne_eqb t.new u.new h.new, (shared roles t.role u.role dr).0 h.role)
          ((shared types t.type u.type dt).0 h.type)

      back : clashes p t u ≡ true → Clash p t u
      back h =
          let k = both_true _ (meet (count_in p types) (stands p types t.type) (stands p types u.type)) h in
          let j = both_true _ (meet (count_in p roles) (stands p roles t.role) (stands p roles u.role)) k.0 in
          let i = both_true (eqb t.class u.class) (not (eqb t.new u.new)) j.0 in
          record {
            role = (shared roles t.role u.role dr).1 j.1;
            type = (shared types t.type u.type dt).1 k.1;
            class = eqb-true t.class u.class i.0;
            new = eqb-false t.new u.new (not-true (eqb t.new u.new) i.1);
          }

  -- OF A LINE AND THE LINES BEFORE IT
  pub line-exactly : (l : Line) → StatementIn (declarations p) l.says → (before : Policy) → Some (LinesClash p l) before ↔ (clashes_after p before l ≡ true)
  unfolding clashes_after
  line-exactly l d before = go (transition l) refl
    where
      none_of : (xs : Policy) → transition l ≡ none → Some (LinesClash p l) xs → ⊥
      none_of [] e h = elim h [ ]
      none_of (k ∷ xs) e (inl h) = none-ne-some h.0 (sym e ∙ h.2)
      none_of (k ∷ xs) e (inr h) = none_of xs e h

      with-line : (t : Transition) → transition l ≡ some t → (k : Line) → LinesClash p l k ↔ (says (clashes p t) (transition k) ≡ true)
      with-line t e k = (there, back (transition k) refl)
        where
          names : ReferenceIn (declarations p) roles t.role × ReferenceIn (declarations p) types t.type
          names = transition-declared p l.place l.says t d e

          there : LinesClash p l k → says (clashes p t) (transition k) ≡ true
          there h = rw h.3 ((clash-exactly t h.1 names.0 names.1).0
              (subst (λ (v : Transition). Clash p v h.1) (some-injective h.0 t (sym h.2 ∙ e)) h.4))

          back : (o : Option Transition) → transition k ≡ o → says (clashes p t) o ≡ true → LinesClash p l k
          back none q h = absurd (false≢true h)
          back (some u) q h = (t, u, e, q, (clash-exactly t u names.0 names.1).1 h)

      go : (o : Option Transition) → transition l ≡ o → Some (LinesClash p l) before ↔ (says (λ t. any (clashes p t) (gather transition before)) o ≡ true)
      go none e = (λ h. absurd (none_of before e h), λ h. absurd (false≢true h))
      go (some t) e = any-gathered transition (clashes p t) (LinesClash p l) (with-line t e) before
