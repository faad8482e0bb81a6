-- When two references stand for one thing: a thing is one number, which is looked for in what the other stands for; two attributes share what
-- their sets share. Assumes nothing.
use Prim.Native.Nat.{ℕ, zero, suc, ◌-◌, ◌*◌, ◌<◌, ◌≤◌}
use native.Mathlib.Omega.{arith}
use mathlib.Core.Path.{◌≡◌, refl, sym, ap, ap₂, ◌∙◌}
use mathlib.Core.Logic.{◌⊎◌, inl, inr}
use mathlib.Core.Bool.{Bool, true, false, ◌&&◌, ◌||◌, and-false, and_comm}
use mathlib.Core.List.{List}
use lib.Dec.{eqb, ltb}
use lib.ListN.{length}
use borrow.Author.Tests.{lt-ltb, le-ltb, ltb-true, ltb-false, eq-eqb, ne_eqb, eqb-true}
use Rattle.bitset.specs.Sets.{member, meet, meets}
use Rattle.byte_slices.specs.Parts.{part}
use Rattle.bitset.proofs.SetLaws.{member-past}
use Rattle.byte_slices.proofs.PartLaws.{length-part-le}
use Rattle.set_code.specs.Evaluation.{sets_in, value_of}
use Rattle.meaning_laws.proofs.ListLaws.{decided}
use Rattle.meaning_laws.proofs.ClashTest.{meet-there}
use Rattle.clashes.specs.Clashes.{shares_of}
use Rattle.clashes.proofs.MeetLaws.{meet-ext, meet-none, meet-bounded, meets-set_of}

-- where f is true of x alone, both are true of a number below n where x is such a number
meet_one : (n x : ℕ) (f g : ℕ → Bool) → ((k : ℕ) → k < n → f k ≡ eqb k x) → meet n f g ≡ (ltb x n && g x)
meet_one n x f g h = by (decided (ltb x n)) (decided (g x))
  where
    other : g x ≡ false → (k : ℕ) → k < n → (eqb k x ≡ true) ⊎ (eqb k x ≡ false) → (f k && g k) ≡ false
    other e k m (inl q) = ap (λ (b : Bool). f k && b) (ap g (eqb-true k x q) ∙ e) ∙ and-false (f k)
    other e k m (inr q) = ap (λ (b : Bool). b && g k) (h k m ∙ q)

    by : (ltb x n ≡ true) ⊎ (ltb x n ≡ false) → (g x ≡ true) ⊎ (g x ≡ false) → meet n f g ≡ (ltb x n && g x)
    by (inl l) (inl e) = meet-there n f g x (ltb-true x n l) (h x (ltb-true x n l) ∙ eq-eqb x x refl) e ∙ sym (ap₂ ◌&&◌ l e)
    by (inl l) (inr e) = meet-none n f g (λ k m. other e k m (decided (eqb k x))) ∙ sym (ap₂ ◌&&◌ l e)
    by (inr l) e =
        meet-none n f g (λ k m. ap (λ (b : Bool). b && g k) (h k m ∙ ne_eqb k x (λ q. omega (arith, m, q, ltb-false x n l))))
        ∙ sym (ap (λ (b : Bool). b && g x) l)

meet_comm : (n : ℕ) (f g : ℕ → Bool) → meet n f g ≡ meet n g f
unfolding meet
meet_comm zero f g = refl
meet_comm (suc n) f g = ap₂ ◌||◌ (and_comm (f n) (g n)) (meet_comm n f g)

module _ (sets : List ℕ) (x y : ℕ) where
  pub shares-first : x < 1024 → shares_of sets x y ≡ (ltb x 512 && value_of sets y x)
  unfolding shares_of
  shares-first l =
      meets-set_of 64 (value_of sets x) (value_of sets y) ∙ meet_one 512 x (value_of sets x) (value_of sets y) (λ k m. rw (lt-ltb x 1024 l))

  pub shares-second : y < 1024 → shares_of sets x y ≡ (ltb y 512 && value_of sets x y)
  unfolding shares_of
  shares-second l =
      meets-set_of 64 (value_of sets x) (value_of sets y) ∙ meet_comm 512 (value_of sets x) (value_of sets y)
      ∙ meet_one 512 y (value_of sets y) (value_of sets x) (λ k m. rw (lt-ltb y 1024 l))

  pub shares-sets : 1024 ≤ x → 1024 ≤ y → shares_of sets x y ≡ meets (part sets (64 * (x - 1024)) 64) (part sets (64 * (y - 1024)) 64)
  unfolding shares_of meets sets_in
  shares-sets h l =
      let a = part sets (64 * (x - 1024)) 64 in
      let b = part sets (64 * (y - 1024)) 64 in
      meets-set_of 64 (value_of sets x) (value_of sets y)
      ∙ meet-ext 512 (value_of sets x) (value_of sets y) (member a) (member b) (λ k m. rw (le-ltb x 1024 h)) (λ k m. rw (le-ltb y 1024 l))
      ∙ meet-bounded (8 * length a) 512 (member a) (member b) (omega (arith, length-part-le sets (64 * (x - 1024)) 64)) (λ k j m. member-past a k j)
