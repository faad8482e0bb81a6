-- The parts of a policy's image, each against the declared: sets, transitions, constraints, the entries of validatetrans. Assumes nothing.
use Prim.Native.Nat.{ℕ, zero, suc, ◌^◌, ◌<◌}
use mathlib.Core.Path.{◌≡◌, refl, ap₂}
use mathlib.Core.Bool.{Bool, true, ◌&&◌}
use mathlib.Core.List.{List, [], ◌∷◌}
use lib.ListN.{length}
use borrow.Author.Tests.{lt-ltb, eq-eqb}
use Rattle.bitset.specs.Sets.{tabulate, set_of}
use Rattle.policy.specs.Basics.{each, every, All}
use Rattle.policy.specs.Statements.{Family, roles, types, thing_of, Relation, to_of, Policy, count, class_names, permissions, declarations, Transition}
use Rattle.policy.specs.Statements.{transitions, Constrain, constrains, Relabel, relabels}
use Rattle.policy.specs.Words.{two_sides, three_sides}
use Rattle.policy.specs.Meaning.{Set, count_in, stands, related, final}
use Rattle.policy.specs.Image.{width, sets_of, mask_of, transition_entry, constraint_entry, relabel_entry}
use Rattle.policy.specs.Sound.{good_set, good_sets, good_transition, good_constraint, good_relabel}
use Rattle.policy.specs.Accepted.{Accepted}
use Rattle.image_laws.proofs.AcceptedParts.{TransitionIn, ConstrainIn, RelabelIn, transitions-in, constrains-in, relabels-in}
use Rattle.policy.proofs.Counts.{few-permissions-of}
use Rattle.bitset.proofs.SetLaws.{length-tabulate, length-set_of}
use Rattle.meaning_laws.proofs.WithinDeclared.{final-within, stands-within, related-within}
use Rattle.image_laws.proofs.WithinBytes.{within-by-rule}
use Rattle.image_laws.proofs.Masks.{mask_below, mask-positive}
use Rattle.image_laws.proofs.GoodRows.{good-rows}
use Rattle.image_laws.proofs.StackDepth.{balanced-whole}

-- ---- tests over lists

every-tabulate : {A : Type 0} (t : A → Bool) (n : ℕ) (g : ℕ → A) → ((i : ℕ) → t (g i) ≡ true) → every t (tabulate n g) ≡ true
unfolding every tabulate
every-tabulate t zero g h = refl
every-tabulate t (suc n) g h = ap₂ ◌&&◌ (h 0) (every-tabulate t n (λ i. g (suc i)) (λ i. h (suc i)))

every-each : {A B : Type 0} (P : A → Type 0) (t : B → Bool) (g : A → B) → ((x : A) → P x → t (g x) ≡ true) → (xs : List A) → All P xs → every t (each g xs) ≡ true
unfolding every each
every-each P t g f [] h = refl
every-each P t g f (x ∷ xs) h = ap₂ ◌&&◌ (f x h.0) (every-each P t g f xs h.1)

module _ (p : Policy) where
  -- ---- sets

  good-set : (f : Family) (s : Set) → ((n : ℕ) → s n ≡ true → n < count_in p f) → good_set (declarations p) f (set_of (width f) s) ≡ true
  unfolding count_in
  good-set f s h =
      ap₂ ◌&&◌ (eq-eqb (length (set_of (width f) s)) (width f) (length-set_of (width f) s))
      (within-by-rule (count (thing_of f) (declarations p)) (width f) s h)

  good-sets : (n : ℕ) (f : Family) (g : ℕ → Set) → ((i m : ℕ) → g i m ≡ true → m < count_in p f) → good_sets (declarations p) n f (sets_of n f g) ≡ true
  good-sets n f g h =
      ap₂ ◌&&◌ (eq-eqb (length (sets_of n f g)) n (length-tabulate n _))
      (every-tabulate (good_set (declarations p) f) n (λ i. set_of (width f) (g i)) (λ i. good-set f (g i) (h i)))

  module _ (ok : Accepted p) where
    pub good-relation : (n : ℕ) (k : Relation) → good_sets (declarations p) n (to_of k) (sets_of n (to_of k) (related p k)) ≡ true
    good-relation n k = good-sets n (to_of k) (related p k) (λ x y h. (related-within p ok k x y h).1)

    pub good-attributes : (n : ℕ) (f : Family) → good_sets (declarations p) n f (sets_of n f (final p f)) ≡ true
    good-attributes n f = good-sets n f (final p f) (final-within p ok f)

  -- ---- transitions

  good-transition : Accepted p → (t : Transition) → TransitionIn p t → good_transition (declarations p) (transition_entry p t) ≡ true
  good-transition ok t h =
      ap₂ ◌&&◌
      (ap₂ ◌&&◌
      (ap₂ ◌&&◌
      (good-set roles (stands p roles t.role) (λ n. stands-within p ok roles t.role n h.0))
      (good-set types (stands p types t.type) (λ n. stands-within p ok types t.type n h.1)))
      (lt-ltb t.class (length (class_names (declarations p))) h.2))
      (lt-ltb t.new (count (thing_of roles) (declarations p)) h.3)

  pub good-transitions : Accepted p → every (good_transition (declarations p)) (each (transition_entry p) (transitions p)) ≡ true
  good-transitions ok =
      every-each (TransitionIn p) (good_transition (declarations p)) (transition_entry p) (good-transition ok) (transitions p) (transitions-in p ok)

  -- ---- constraints

  good-constraint : Accepted p → (c : Constrain) → ConstrainIn p c → good_constraint (declarations p) (constraint_entry c) ≡ true
  good-constraint ok c h =
      let ds = declarations p in
      let n = length (permissions ds c.class) in
      ap₂ ◌&&◌
      (ap₂ ◌&&◌
      (ap₂ ◌&&◌
      (ap₂ ◌&&◌
      (lt-ltb c.class (length (class_names ds)) h.0)
      (lt-ltb 0 (mask_of c.perms) (mask-positive n c.perms h.2 (few-permissions-of ds ok.names c.class) h.1)))
      (lt-ltb (mask_of c.perms) (2 ^ n) (mask_below n c.perms h.2)))
      (good-rows ds two_sides c.body h.3))
      (balanced-whole c.body h.4)

  pub good-constraints : Accepted p → every (good_constraint (declarations p)) (each constraint_entry (constrains p)) ≡ true
  good-constraints ok =
      every-each (ConstrainIn p) (good_constraint (declarations p)) constraint_entry (good-constraint ok) (constrains p) (constrains-in p ok)

  -- ---- validatetrans

  good-relabel : (c : Relabel) → RelabelIn p c → good_relabel (declarations p) (relabel_entry c) ≡ true
  good-relabel c h =
      ap₂ ◌&&◌
      (ap₂ ◌&&◌
      (lt-ltb c.class (length (class_names (declarations p))) h.0)
      (good-rows (declarations p) three_sides c.body h.1))
      (balanced-whole c.body h.2)

  pub good-relabels : Accepted p → every (good_relabel (declarations p)) (each relabel_entry (relabels p)) ≡ true
  good-relabels ok = every-each (RelabelIn p) (good_relabel (declarations p)) relabel_entry good-relabel (relabels p) (relabels-in p ok)
