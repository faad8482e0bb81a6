-- The image of a policy answers valid context and new role as the statements do. Declared numbers fit the bytes of their sets, so that a set's
-- bytes say what its rule says. Assumes nothing.
use Prim.Native.Nat.{ℕ, ◌<◌}
use native.Mathlib.Omega.{arith}
use mathlib.Core.Path.{◌≡◌, refl, ap, ap₂}
use mathlib.Core.Bool.{Bool, true, false, ◌&&◌, cond}
use mathlib.Core.List.{List, [], ◌∷◌}
use lib.Dec.{eqb, ltb}
use lib.ListN.{length}
use borrow.Author.Tests.{ltb-true}
use Rattle.policy.specs.Basics.{each}
use Rattle.policy.specs.Statements.{roles, types, thing_of, Policy, count, class_names, declarations, Transition, transitions}
use Rattle.policy.specs.Meaning.{Context, count_in, stands}
use Rattle.policy.specs.Deciding.{declared_context, answered, refused, valid_reply}
use Rattle.policy.specs.Answer.{given_by}
use Rattle.policy.specs.Image.{image_of, transition_entry, width}
use Rattle.policy.specs.Questions.{given_in, valid, matches, first_transition, new_role}
use Rattle.policy.proofs.Lists.{both_true}
use Rattle.image_laws.proofs.Fits.{Fits}
use Rattle.bitset.proofs.SetLaws.{member-set_of}
use Rattle.answer_laws.specs.ByStatements.{is_for, first_for, new_role_by}
use Rattle.answer_laws.proofs.Agreement.{agree-valid}
use Rattle.answer_laws.proofs.ImageAnswers.{image-agrees}

-- one arm of a test, where it passes
arm : {A : Type 0} (b : Bool) (x y z : A) → (b ≡ true → x ≡ y) → cond b x z ≡ cond b y z
arm true x y z h = h refl
arm false x y z h = refl

module _ (p : Policy) (ok : Fits p) where
  pub image-valid : (c : Context) → valid (image_of p) c ≡ valid_reply (given_by p) c
  unfolding valid image_of
  image-valid c = arm (declared_context (declarations p) c) _ _ _ (λ h. ap answered (agree-valid (given_in (image_of p)) (given_by p) (image-agrees p ok) c h))

  module _ (r y c : ℕ) (hr : r < count_in p roles) (hy : y < count_in p types) where
    same-match : (t : Transition) → matches r y c (transition_entry p t) ≡ is_for p r y c t
    same-match t =
        ap₂ (λ a b. a && b && eqb t.class c)
        (member-set_of (width roles) (stands p roles t.role) r (omega (arith, ok.few roles)))
        (member-set_of (width types) (stands p types t.type) y (omega (arith, ok.few types)))

    same_first : (ts : List Transition) → first_transition r y c (each (transition_entry p) ts) ≡ first_for p r y c ts
    unfolding first_transition each first_for
    same_first [] = refl
    same_first (t ∷ ts) = ap₂ (λ b n. cond b t.new n) (same-match t) (same_first ts)

  -- the numbers asked are declared
  asked : ℕ → ℕ → ℕ → Bool
  asked r y c = ltb r (count (thing_of roles) (declarations p)) && ltb y (count (thing_of types) (declarations p)) && ltb c (length (class_names (declarations p)))

  pub image-new-role : (r y c : ℕ) → new_role (image_of p) r y c ≡ new_role_by p r y c
  unfolding new_role new_role_by image_of count_in asked
  image-new-role r y c = arm (asked r y c) _ _ (refused 12 0) λ h.
      let front = (both_true (ltb r (count (thing_of roles) (declarations p)) && ltb y (count (thing_of types) (declarations p)))
      (ltb c (length (class_names (declarations p)))) h).0 in
      let each-one = both_true (ltb r (count (thing_of roles) (declarations p))) (ltb y (count (thing_of types) (declarations p))) front in
      ap answered (same_first r y c (ltb-true r (count (thing_of roles) (declarations p)) each-one.0)
      (ltb-true y (count (thing_of types) (declarations p)) each-one.1) (transitions p))
