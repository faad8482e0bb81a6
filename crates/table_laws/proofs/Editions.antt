-- The editions that there are, and what a table of one has of an image. The first law is by cases on the edition, and the only one that
-- names any; the others are of every edition that has sections. Assumes nothing.
use Prim.Native.Nat.{ℕ, zero, suc, ◌+◌, ◌-◌, ◌<◌, ◌≤◌}
use native.Mathlib.Omega.{arith}
use mathlib.Core.Path.{◌≡◌, refl, sym, ap, ◌∙◌}
use mathlib.Core.List.{List, [], ◌∷◌, nil≢cons}
use lib.ListN.{length, get_or, take, drop, get_or-eq_default}
use lib.Seq.{length-take-le, get_or-take, get_or-drop}
use Rattle.bitset.specs.Relations.{joined}
use Rattle.policy.specs.Basics.{each, le}
use Rattle.policy.specs.Image.{Image, RelabelEntry}
use Rattle.policy.specs.Encode.{row_bytes, relabel_record, relabel_bytes, bodies, sections_of}
use Rattle.table_laws.specs.SoundTable.{FitsEdition}
use Rattle.table_laws.proofs.ListLaws.{places-front, joined-front}

-- what holds of an edition that there is
pub record Edition (e : ℕ) : Type 0 where
  pub small : e < 256
  pub least : 8 ≤ sections_of e
  pub most : sections_of e ≤ 10

-- by its number; one that there is not has no sections
pub edition-known : (e : ℕ) → 0 < sections_of e → Edition e
edition-known zero h = record { small = omega arith; least = omega arith; most = omega arith }
edition-known (suc zero) h = record { small = omega arith; least = omega arith; most = omega arith }
edition-known (suc (suc zero)) h = record { small = omega arith; least = omega arith; most = omega arith }
edition-known (suc (suc (suc e))) h = absurd (omega arith)

-- no edition has more than ten sections, whether there is one or not
pub sections-most : (e : ℕ) → sections_of e ≤ 10
sections-most e = by (sections_of e) (λ h. (edition-known e h).most)
  where
    by : (n : ℕ) → (0 < n → n ≤ 10) → n ≤ 10
    by zero h = omega arith
    by (suc n) h = h (omega arith)

pub bodies-ten : (i : Image) → length (bodies i) ≡ 10
unfolding bodies
bodies-ten i = refl

-- no bytes are those of no statement
none_written : (vs : List RelabelEntry) → joined (each relabel_bytes (each relabel_record vs)) ≡ [] → vs ≡ []
unfolding joined each le
none_written [] h = refl
none_written (v ∷ vs) h = absurd (nil≢cons (sym h))

module _ (e : ℕ) (i : Image) where
  -- a table of the edition has as many bodies as the edition has sections
  pub sections-many : 0 < sections_of e → length (take (sections_of e) (bodies i)) ≡ sections_of e
  sections-many known = length-take-le (sections_of e) (bodies i) (omega (arith, bodies-ten i, (edition-known e known).most))

  -- among them the first eight
  pub least-section : 0 < sections_of e → (k : ℕ) → k < 8 → k < sections_of e
  least-section known k l = omega (arith, (edition-known e known).least)

  pub section-least : 0 < sections_of e → (k : ℕ) → k < 8 → get_or (take (sections_of e) (bodies i)) k [] ≡ get_or (bodies i) k []
  section-least known k l = get_or-take (sections_of e) (bodies i) k [] (least-section known k l)

  -- where the image fits the edition it has them all, and no bytes are left out
  pub section-at : FitsEdition e i → (k : ℕ) → get_or (take (sections_of e) (bodies i)) k [] ≡ get_or (bodies i) k []
  section-at fits k = places-front (sections_of e) (bodies i) [] fits k

  pub sections-joined : FitsEdition e i → joined (take (sections_of e) (bodies i)) ≡ joined (bodies i)
  sections-joined fits = joined-front (sections_of e) (bodies i) fits

  -- every image fits an edition of ten sections
  pub fits-ten : 10 ≤ sections_of e → FitsEdition e i
  fits-ten many k l = get_or-eq_default (bodies i) [] {n = k} (omega (arith, bodies-ten i))

  -- an image without validatetrans statements fits every edition
  pub fits-without : 0 < sections_of e → i.relabels ≡ [] → FitsEdition e i
  fits-without known without k l =
      let past : k ≡ 8 + (k - 8) = omega (arith, (edition-known e known).least) in
      ap (λ (n : ℕ). get_or (bodies i) n []) past
      ∙ sym (get_or-drop 8 (bodies i) (k - 8) []) ∙ ap (λ (bs : List (List ℕ)). get_or bs (k - 8) []) last ∙ nothing (k - 8)
    where
      last : drop 8 (bodies i) ≡ [] ∷ [] ∷ []
      last = unfold bodies joined each in
          ap {B = List (List ℕ)} (λ (vs : List RelabelEntry).
          joined (each relabel_bytes (each relabel_record vs)) ∷ joined (each row_bytes (joined (each (λ c. c.rows) vs))) ∷ []) without

      nothing : (j : ℕ) → get_or {A = List ℕ} ([] ∷ [] ∷ []) j [] ≡ []
      nothing zero = refl
      nothing (suc zero) = refl
      nothing (suc (suc j)) = refl

  -- and only such an image fits an edition of eight sections
  pub without-fits : sections_of e ≤ 8 → FitsEdition e i → i.relabels ≡ []
  unfolding bodies
  without-fits few fits = none_written i.relabels (fits 8 few)
