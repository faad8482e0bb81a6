-- The list of the attributes that an attribute's sets mention holds exactly those that some line's S mentions; and all of them are
-- declared. By induction on S and on the lines. Assumes nothing.
use Prim.Native.Nat.{ℕ, ◌<◌}
use mathlib.Core.Path.{◌≡◌, refl, sym, subst}
use mathlib.Core.Logic.{◌⊎◌, inl, inr, ◌↔◌}
use mathlib.Core.Bool.{Bool, true, false, ◌&&◌, false≢true, or-false}
use mathlib.Core.List.{List, [], ◌∷◌, ◌++◌}
use mathlib.Core.Option.{Option, none, some}
use lib.Dec.{eqb}
use borrow.Author.Tests.{eq-eqb, eqb-true}
use Rattle.bitset.specs.Relations.{joined}
use Rattle.policy.specs.Basics.{any, ◌>>=◌, given, each, keep, gather, is_among}
use Rattle.policy.specs.Statements.{Family, Reference, thing, attribute, SetExpr, name_s, all_s, not_s, and_s, or_s, xor_s, union_s, empty_s, attribute_of, Declaration}
use Rattle.policy.specs.Statements.{Statement, attributeset, AttributeSet, as_set, same_family, Line, Policy, count, declarations, set_for}
use Rattle.policy.specs.Statements.{sets_for}
use Rattle.policy.specs.Faults.{mentions_s, mentions, attributes_in}
use Rattle.policy.specs.Accepted.{SetIn, StatementIn, Accepted}
use Rattle.policy.proofs.Lists.{both_true, any_append}
use Rattle.policy.proofs.IfAny.{IfAny}
use Rattle.policy.proofs.ByKind.{set_says}
use Rattle.meaning_laws.specs.Mentions.{MentionsS, MentionsIn, SetMentions, MentionsDirectly, Mentions, directly, through}
use Rattle.meaning_laws.proofs.ListLaws.{or-says, some_of}
use Rattle.policy.proofs.Sameness.{family-same, family-self}

-- a number is in one of two lists
among_two : {P Q : Type 0} (b : ℕ) (xs ys : List ℕ) → P ↔ (is_among b xs ≡ true) → Q ↔ (is_among b ys ≡ true) → (P ⊎ Q) ↔ (is_among b (xs ++ ys) ≡ true)
unfolding is_among
among_two b xs ys f g = rw (any_append (eqb b) xs ys) (or-says (any (eqb b) xs) (any (eqb b) ys) f g)

never : (b : ℕ) → ⊥ ↔ (is_among b [] ≡ true)
unfolding is_among any
never b = (λ e. absurd e, λ e. false≢true e)

alone : (a b : ℕ) → (b ≡ a) ↔ (is_among b (a ∷ []) ≡ true)
unfolding is_among any
alone a b = rw (or-false (eqb b a)) (eq-eqb b a, eqb-true b a)

S-mentions : (b : ℕ) (s : SetExpr Reference) → MentionsS b s ↔ (is_among b (mentions_s s) ≡ true)
unfolding mentions_s
S-mentions b (name_s (thing n)) = never b
S-mentions b (name_s (attribute a)) = alone a b
S-mentions b all_s = never b
S-mentions b (not_s x) = S-mentions b x
S-mentions b (and_s x y) = among_two b (mentions_s x) (mentions_s y) (S-mentions b x) (S-mentions b y)
S-mentions b (or_s x y) = among_two b (mentions_s x) (mentions_s y) (S-mentions b x) (S-mentions b y)
S-mentions b (xor_s x y) = among_two b (mentions_s x) (mentions_s y) (S-mentions b x) (S-mentions b y)
S-mentions b (union_s x y) = among_two b (mentions_s x) (mentions_s y) (S-mentions b x) (S-mentions b y)
S-mentions b empty_s = never b

-- what the S of a line mentions, if it is one for attribute a
abbrev mentions_o : Option (SetExpr Reference) → List ℕ
mentions_o none = []
mentions_o (some s) = mentions_s s

kept-mentions : (o : Option (SetExpr Reference)) (ss : List (SetExpr Reference))
    → joined (each mentions_s (keep o ss)) ≡ mentions_o o ++ joined (each mentions_s ss)
unfolding joined each
kept-mentions none ss = refl
kept-mentions (some s) ss = refl

-- an S that is given to an attribute is taken for attribute a where it is given to that one
set-mentions : (f : Family) (a b : ℕ) (x : AttributeSet) → MentionsIn f a b (some x)
    ↔ (is_among b (mentions_o (given (same_family f x.family && eqb a x.attribute) x.set)) ≡ true)
set-mentions f a b x = (there, back (same_family f x.family && eqb a x.attribute) refl)
  where
    there : MentionsIn f a b (some x) → is_among b (mentions_o (given (same_family f x.family && eqb a x.attribute) x.set)) ≡ true
    there h = rw (h.0, h.1, family-self f, eq-eqb a a refl) ((S-mentions b x.set).0 h.2)

    back : (t : Bool) → (same_family f x.family && eqb a x.attribute) ≡ t → is_among b (mentions_o (given t x.set)) ≡ true
        → MentionsIn f a b (some x)
    back true e h =
        let both = both_true (same_family f x.family) (eqb a x.attribute) e in
        (sym (family-same f x.family both.0), sym (eqb-true a x.attribute both.1), (S-mentions b x.set).1 h)
    back false e h = absurd ((never b).1 h)

line-mentions : (f : Family) (a b at : ℕ) (s : Statement) → SetMentions f a b s ↔ (is_among b (mentions_o (set_for f a (record { place = at; says = s }))) ≡ true)
line-mentions f a b at s = by (as_set s)
  where
    by : (o : Option AttributeSet) → MentionsIn f a b o
        ↔ (is_among b (mentions_o (o >>= λ x. given (same_family f x.family && eqb a x.attribute) x.set)) ≡ true)
    by none = never b
    by (some x) = set-mentions f a b x

-- THE LIST OF MENTIONS holds exactly what the lines mention
pub mentions-exactly : (p : Policy) (f : Family) (a b : ℕ) → MentionsDirectly p f a b ↔ (is_among b (mentions p f a) ≡ true)
unfolding mentions sets_for gather joined each
mentions-exactly [] f a b = never b
mentions-exactly (l ∷ p) f a b = rw (kept-mentions (set_for f a l) (gather (set_for f a) p))
    (among_two b (mentions_o (set_for f a l)) (joined (each mentions_s (gather (set_for f a) p)))
    (line-mentions f a b l.place l.says) (mentions-exactly p f a b))

-- what an S of declared names mentions is declared
S-declared : (ds : List Declaration) (f : Family) (b : ℕ) (s : SetExpr Reference) → SetIn ds f s → MentionsS b s → b < count (attribute_of f) ds
S-declared ds f b (name_s (attribute a)) h e = subst (λ (y : ℕ). y < count (attribute_of f) ds) (sym e) h
S-declared ds f b (name_s (thing _)) h e = elim e [ ]
S-declared ds f b all_s h e = elim e [ ]
S-declared ds f b empty_s h e = elim e [ ]
S-declared ds f b (not_s x) h e = S-declared ds f b x h e
S-declared ds f b (and_s x y) h (inl e) = S-declared ds f b x h.0 e
S-declared ds f b (and_s x y) h (inr e) = S-declared ds f b y h.1 e
S-declared ds f b (or_s x y) h (inl e) = S-declared ds f b x h.0 e
S-declared ds f b (or_s x y) h (inr e) = S-declared ds f b y h.1 e
S-declared ds f b (xor_s x y) h (inl e) = S-declared ds f b x h.0 e
S-declared ds f b (xor_s x y) h (inr e) = S-declared ds f b y h.1 e
S-declared ds f b (union_s x y) h (inl e) = S-declared ds f b x h.0 e
S-declared ds f b (union_s x y) h (inr e) = S-declared ds f b y h.1 e

module _ (p : Policy) (f : Family) (ok : Accepted p) where
  -- BOTH THE ATTRIBUTE AND WHAT IT MENTIONS are declared
  pub direct-declared : (a b : ℕ) → MentionsDirectly p f a b → (a < attributes_in p f) × (b < attributes_in p f)
  unfolding attributes_in
  direct-declared a b h =
      some_of (λ (l : Line). SetMentions f a b l.says) (λ (l : Line). StatementIn (declarations p) l.says) (λ l. by-line l.says) p h ok.statements
    where
      by-line : (s : Statement) → SetMentions f a b s → StatementIn (declarations p) s
          → (a < count (attribute_of f) (declarations p)) × (b < count (attribute_of f) (declarations p))
      by-line s h e = by (as_set s) (set_says s) h
        where
          by : (o : Option AttributeSet) → IfAny (λ x. s ≡ attributeset x.family x.attribute x.set) o
              → MentionsIn f a b o → (a < count (attribute_of f) (declarations p)) × (b < count (attribute_of f) (declarations p))
          by none k h = absurd h
          by (some x) k h =
              let i = subst (StatementIn (declarations p)) (k.has x refl) e in
              let j : (a < count (attribute_of f) (declarations p)) × SetIn (declarations p) f x.set = rw (← h.0, ← h.1) i in
              (j.0, S-declared (declarations p) f b x.set j.1 h.2)

  pub mentions-declared : {a b : ℕ} → Mentions p f a b → (a < attributes_in p f) × (b < attributes_in p f)
  mentions-declared (directly {a} {b} h) = direct-declared a b h
  mentions-declared (through x y) = ((mentions-declared x).0, (mentions-declared y).1)
