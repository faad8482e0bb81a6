-- The statements that have a code, in order: each is a tag, a place and operands. What the policy's lines say of sets, places and transitions
-- is what these items say. By cases of a line. Assumes nothing.
use Prim.Native.Nat.{ℕ, ◌<◌, ◌≤◌}
use native.Mathlib.Omega.{arith}
use mathlib.Core.Path.{◌≡◌, refl, sym, ap, ◌∙◌, subst}
use mathlib.Core.Logic.{◌⊎◌, inl, inr}
use mathlib.Core.Bool.{Bool, true, false, ◌&&◌, ◌||◌, cond}
use mathlib.Core.List.{List, [], ◌∷◌, ◌++◌}
use mathlib.Core.Option.{Option, none, some, none-ne-some, some-injective}
use lib.Dec.{eqb}
use lib.ListN.{length}
use Rattle.bitset.specs.Relations.{joined}
use Rattle.policy.specs.Basics.{any, each, gather, keep, given}
use Rattle.policy.specs.Statements.{Family, users, roles, types, thing_of, attribute_of, Declaration, plain, class, Reference, SetExpr, Relation, from_of, to_of}
use Rattle.policy.specs.Statements.{Statement, declare, attributeset, gives, roletransition, constrain, validatetrans, same_family, Line, Policy, count}
use Rattle.policy.specs.Statements.{class_names, set_for, sets_for, Transition, transition, transitions}
use Rattle.policy.specs.Faults.{place_of, places}
use Rattle.policy.specs.Accepted.{ReferenceIn, SetIn, StatementIn}
use Rattle.statement_code.specs.Code.{reference_unit, set_code, family_number, attribute_tag, set_tag, relation_tag, transition_tag, statement_code, code_of}
use Rattle.statement_code.proofs.Numbers.{family-few, relation-few}
use Rattle.meaning_laws.proofs.ListLaws.{decided}
use Rattle.meaning_laws.proofs.ClashTest.{says}
use Rattle.policy.proofs.Sameness.{family-same, family-self}
use Rattle.policy.proofs.Lists.{any-ext}

-- an attribute is declared, is given a set; a relation is given; a role transition
pub data Item : Type 0 where
  declares : Family → ℕ → Item
  fills : Family → ℕ → ℕ → SetExpr Reference → Item
  relates : Relation → ℕ → Reference → Reference → Item
  moves : Transition → Item

abbrev pub tag_of : Item → ℕ
tag_of (declares f at) = attribute_tag f
tag_of (fills f at a s) = set_tag f
tag_of (relates k at x y) = relation_tag k
tag_of (moves t) = transition_tag

abbrev pub stands_at : Item → ℕ
stands_at (declares f at) = at
stands_at (fills f at a s) = at
stands_at (relates k at x y) = at
stands_at (moves t) = t.place

abbrev pub units_of : Item → List ℕ
units_of (declares f at) = []
units_of (fills f at a s) = a ∷ set_code s
units_of (relates k at x y) = reference_unit x ∷ reference_unit y ∷ []
units_of (moves t) = reference_unit t.role ∷ reference_unit t.type ∷ t.class ∷ t.new ∷ []

unfoldable pub items_code : List Item → List ℕ
items_code [] = []
items_code (i ∷ is) = tag_of i ∷ stands_at i ∷ (units_of i ++ items_code is)

-- the item of a line, if it has one
abbrev pub item_in : ℕ → Statement → Option Item
item_in at (declare (plain (thing_of f) w)) = none
item_in at (declare (plain (attribute_of f) w)) = some (declares f at)
item_in at (declare (class w ps)) = none
item_in at (attributeset f a s) = some (fills f at a s)
item_in at (gives k x y) = some (relates k at x y)
item_in at (roletransition r t c n) = some (moves (record { place = at; role = r; type = t; class = c; new = n }))
item_in at (constrain c ps e) = none
item_in at (validatetrans c e) = none

abbrev pub item_of : Line → Option Item
item_of l = item_in l.place l.says

unfoldable pub items : Policy → List Item
items p = gather item_of p

-- THE CODE of a policy is that of its items
pub code_items : (p : Policy) → code_of p ≡ items_code (items p)
unfolding code_of joined each items gather items_code
code_items [] = refl
code_items (l ∷ p) = by-line l.says (code_items p)
  where
    by-line : (s : Statement) → code_of p ≡ items_code (items p)
        → statement_code l.place s ++ code_of p ≡ items_code (keep (item_in l.place s) (items p))
    by-line (declare (plain (thing_of f) w)) h = h
    by-line (declare (plain (attribute_of f) w)) h = rw h
    by-line (declare (class w ps)) h = h
    by-line (attributeset f a s) h = rw h
    by-line (gives k x y) h = rw h
    by-line (roletransition r t c n) h = rw h
    by-line (constrain c ps e) h = h
    by-line (validatetrans c e) h = h

-- what an item of an accepted policy names is declared
abbrev pub ItemIn : List Declaration → Item → Type 0
ItemIn ds (declares f at) = Unit {0}
ItemIn ds (fills f at a s) = (a < count (attribute_of f) ds) × SetIn ds f s
ItemIn ds (relates k at x y) = ReferenceIn ds (from_of k) x × ReferenceIn ds (to_of k) y
ItemIn ds (moves t) = ReferenceIn ds roles t.role × ReferenceIn ds types t.type × (t.class < length (class_names ds)) × (t.new < count (thing_of roles) ds)

pub item-declared : (ds : List Declaration) (at : ℕ) (s : Statement) (i : Item) → StatementIn ds s → item_in at s ≡ some i → ItemIn ds i
item-declared ds at (declare (plain (thing_of f) w)) i h e = absurd (none-ne-some i e)
item-declared ds at (declare (plain (attribute_of f) w)) i h e = subst (ItemIn ds) (some-injective (declares f at) i e) tt
item-declared ds at (declare (class w ps)) i h e = absurd (none-ne-some i e)
item-declared ds at (attributeset f a s) i h e = subst (ItemIn ds) (some-injective (fills f at a s) i e) h
item-declared ds at (gives k x y) i h e = subst (ItemIn ds) (some-injective (relates k at x y) i e) h
item-declared ds at (roletransition r t c n) i h e =
    subst (ItemIn ds) (some-injective (moves (record { place = at; role = r; type = t; class = c; new = n })) i e) h
item-declared ds at (constrain c ps x) i h e = absurd (none-ne-some i e)
item-declared ds at (validatetrans c x) i h e = absurd (none-ne-some i e)

-- ---- gathered values

module _ {A B : Type 0} where
  any-gather : (g : A → Option B) (c : B → Bool) (xs : List A) → any c (gather g xs) ≡ any (λ x. says c (g x)) xs
  unfolding any gather
  any-gather g c [] = refl
  any-gather g c (x ∷ xs) = go (g x) (any-gather g c xs)
    where
      go : (o : Option B) → any c (gather g xs) ≡ any (λ x. says c (g x)) xs → any c (keep o (gather g xs)) ≡ (says c o || any (λ x. says c (g x)) xs)
      go none h = h
      go (some b) h = ap (λ (t : Bool). c b || t) h

  -- two steps of gathering are one
  gather-gather : {C : Type 0} (g : A → Option B) (h : B → Option C) (k : A → Option C)
      → ((x : A) → k x ≡ (elim (g x) as (λ _. Option C) [ none ↦ none | some b ↦ h b ])) → (xs : List A) → gather h (gather g xs) ≡ gather k xs
  unfolding gather
  gather-gather g h k e [] = refl
  gather-gather {C} g h k e (x ∷ xs) = rw (e x) (go (g x) (gather-gather g h k e xs))
    where
      go : (o : Option B) → gather h (gather g xs) ≡ gather k xs
          → gather h (keep o (gather g xs)) ≡ keep (elim o as (λ _. Option C) [ none ↦ none | some b ↦ h b ]) (gather k xs)
      go none q = q
      go (some b) q = ap (keep (h b)) q

-- ---- what the items say

-- an item gives attribute a of the family an S that v says of m
abbrev pub gain : Family → (SetExpr Reference → ℕ → Bool) → ℕ → ℕ → Item → Bool
gain f v a m (declares g at) = false
gain f v a m (fills g at c s) = (same_family f g && eqb a c) && v s m
gain f v a m (relates k at x y) = false
gain f v a m (moves t) = false

-- THE SETS of an attribute
pub sets-items : (f : Family) (v : SetExpr Reference → ℕ → Bool) (a m : ℕ) (p : Policy)
    → any (λ s. v s m) (sets_for f a p) ≡ any (gain f v a m) (items p)
unfolding sets_for items
sets-items f v a m p =
    any-gather (set_for f a) (λ s. v s m) p
    ∙ any-ext (λ l. says (λ s. v s m) (set_for f a l)) (λ l. says (gain f v a m) (item_of l)) p (λ l. by-line l.place l.says)
    ∙ sym (any-gather item_of (gain f v a m) p)
  where
    let_through : (t : Bool) (s : SetExpr Reference) → says (λ s. v s m) (cond t (some s) none) ≡ (t && v s m)
    let_through true s = refl
    let_through false s = refl

    by-line : (at : ℕ) (s : Statement) → says (λ s. v s m) (set_for f a (record { place = at; says = s })) ≡ says (gain f v a m) (item_in at s)
    by-line at (declare (plain (thing_of g) w)) = refl
    by-line at (declare (plain (attribute_of g) w)) = refl
    by-line at (declare (class w ps)) = refl
    by-line at (attributeset g c s) = let_through (same_family f g && eqb a c) s
    by-line at (gives k x y) = refl
    by-line at (roletransition r t c n) = refl
    by-line at (constrain c ps e) = refl
    by-line at (validatetrans c e) = refl

-- THE PLACES of a family's attributes
abbrev pub place_in : Family → Item → Option ℕ
place_in f (declares g at) = given (same_family g f) at
place_in f (fills g at c s) = none
place_in f (relates k at x y) = none
place_in f (moves t) = none

pub places-items : (p : Policy) (f : Family) → places p f ≡ gather (place_in f) (items p)
unfolding places items
places-items p f = sym (gather-gather item_of (place_in f) (place_of f) (λ l. by-line l.place l.says) p)
  where
    by-line : (at : ℕ) (s : Statement) → place_of f (record { place = at; says = s }) ≡ (elim (item_in at s) as (λ _. Option ℕ) [ none ↦ none | some i ↦ place_in f i ])
    by-line at (declare (plain (thing_of g) w)) = refl
    by-line at (declare (plain (attribute_of g) w)) = refl
    by-line at (declare (class w ps)) = refl
    by-line at (attributeset g c s) = refl
    by-line at (gives k x y) = refl
    by-line at (roletransition r t c n) = refl
    by-line at (constrain c ps e) = refl
    by-line at (validatetrans c e) = refl

-- THE TRANSITIONS
abbrev pub move_in : Item → Option Transition
move_in (declares f at) = none
move_in (fills f at a s) = none
move_in (relates k at x y) = none
move_in (moves t) = some t

pub transitions-items : (p : Policy) → transitions p ≡ gather move_in (items p)
unfolding transitions items
transitions-items p = sym (gather-gather item_of move_in transition (λ l. by-line l.place l.says) p)
  where
    by-line : (at : ℕ) (s : Statement) → transition (record { place = at; says = s }) ≡ (elim (item_in at s) as (λ _. Option Transition) [ none ↦ none | some i ↦ move_in i ])
    by-line at (declare (plain (thing_of g) w)) = refl
    by-line at (declare (plain (attribute_of g) w)) = refl
    by-line at (declare (class w ps)) = refl
    by-line at (attributeset g c s) = refl
    by-line at (gives k x y) = refl
    by-line at (roletransition r t c n) = refl
    by-line at (constrain c ps e) = refl
    by-line at (validatetrans c e) = refl

-- ---- the tag tells the item

family-number : (f g : Family) → family_number f ≡ family_number g → f ≡ g
family-number users users h = refl
family-number users roles h = absurd (omega (arith, h))
family-number users types h = absurd (omega (arith, h))
family-number roles users h = absurd (omega (arith, h))
family-number roles roles h = refl
family-number roles types h = absurd (omega (arith, h))
family-number types users h = absurd (omega (arith, h))
family-number types roles h = absurd (omega (arith, h))
family-number types types h = refl

pub tag-past : (i : Item) → 4096 ≤ tag_of i
tag-past (declares f at) = omega arith
tag-past (fills f at a s) = omega arith
tag-past (relates k at x y) = omega arith
tag-past (moves t) = omega arith

pub tag-fills : (f : Family) (i : Item) → tag_of i ≡ set_tag f → (at a : ℕ) × (s : SetExpr Reference) × (i ≡ fills f at a s)
tag-fills f (declares g at) h = absurd (omega (arith, h, family-few g))
tag-fills f (fills g at a s) h = (at, a, s, ap (λ x. fills x at a s) (family-number g f (omega (arith, h))))
tag-fills f (relates k at x y) h = absurd (omega (arith, h, family-few f))
tag-fills f (moves t) h = absurd (omega (arith, h, family-few f))

pub tag-declares : (f : Family) (i : Item) → tag_of i ≡ attribute_tag f → (at : ℕ) × (i ≡ declares f at)
tag-declares f (declares g at) h = (at, ap (λ x. declares x at) (family-number g f (omega (arith, h))))
tag-declares f (fills g at a s) h = absurd (omega (arith, h, family-few f))
tag-declares f (relates k at x y) h = absurd (omega (arith, h, family-few f))
tag-declares f (moves t) h = absurd (omega (arith, h, family-few f))

pub tag-moves : (i : Item) → tag_of i ≡ transition_tag → (t : Transition) × (i ≡ moves t)
tag-moves (declares f at) h = absurd (omega (arith, h, family-few f))
tag-moves (fills f at a s) h = absurd (omega (arith, h, family-few f))
tag-moves (relates k at x y) h = absurd (omega (arith, h, relation-few k))
tag-moves (moves t) h = (t, refl)

-- another tag says nothing there
other-family : (f g : Family) → (f ≡ g → ⊥) → same_family f g ≡ false
other-family f g h = by (decided (same_family f g))
  where
    by : (same_family f g ≡ true) ⊎ (same_family f g ≡ false) → same_family f g ≡ false
    by (inl e) = absurd (h (family-same f g e))
    by (inr e) = e

pub tag-no-gain : (f : Family) (v : SetExpr Reference → ℕ → Bool) (a m : ℕ) (i : Item) → (tag_of i ≡ set_tag f → ⊥) → gain f v a m i ≡ false
tag-no-gain f v a m (declares g at) h = refl
tag-no-gain f v a m (fills g at c s) h = rw (other-family f g (λ e. h (ap set_tag (sym e))))
tag-no-gain f v a m (relates k at x y) h = refl
tag-no-gain f v a m (moves t) h = refl

pub gain-here : (f : Family) (v : SetExpr Reference → ℕ → Bool) (a m at c : ℕ) (s : SetExpr Reference) → gain f v a m (fills f at c s) ≡ (eqb a c && v s m)
gain-here f v a m at c s = rw (family-self f)

pub tag-no-place : (f : Family) (i : Item) → (tag_of i ≡ attribute_tag f → ⊥) → place_in f i ≡ none
tag-no-place f (declares g at) h = rw (other-family g f (λ e. h (ap attribute_tag e)))
tag-no-place f (fills g at c s) h = refl
tag-no-place f (relates k at x y) h = refl
tag-no-place f (moves t) h = refl

pub place_here : (f : Family) (at : ℕ) → place_in f (declares f at) ≡ some at
place_here f at = rw (family-self f)

pub tag-no-move : (i : Item) → (tag_of i ≡ transition_tag → ⊥) → move_in i ≡ none
tag-no-move (declares f at) h = refl
tag-no-move (fills f at a s) h = refl
tag-no-move (relates k at x y) h = refl
tag-no-move (moves t) h = absurd (h refl)
