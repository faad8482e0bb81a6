-- The bodies of a sound table are where its header says. Assumes nothing.
use Prim.Native.Nat.{ℕ, ◌<◌}
use mathlib.Core.Path.{◌≡◌, refl, sym, ap, ◌∙◌, subst}
use mathlib.Core.Bool.{Bool, true, false}
use mathlib.Core.List.{List, []}
use lib.Dec.{ltb}
use lib.ListN.{length, get_or, drop}
use borrow.Author.Tests.{ltb-true, ltb-false}
use Rattle.policy.specs.Encode.{bodies, sections_of, first_body}
use Rattle.table_laws.specs.SoundTable.{Sound}
use Rattle.table_laws.proofs.Editions.{least-section}
use Rattle.table_reader.specs.Records.{body_place, start_in, length_in}
use Rattle.table_reader.proofs.RecordLaws.{Stands}
use Rattle.table_reader.proofs.BodyPlaces.{body-stands, first-place, start-part, length_part}

-- no bytes are at every place
nothing-stands : (t : List ℕ) (at : ℕ) → Stands t at []
nothing-stands t at = record { rest = drop at t; here = refl }

module _ (t : List ℕ) (s : Sound t) where
  -- of each section that the edition has, the header says where its body starts and how long it is
  module _ (k : ℕ) (h : k < sections_of s.edition) where
    pub start_of : start_in t k ≡ body_place s.edition s.image k
    start_of = ap (λ (l : List ℕ). start_in l k) s.laid ∙ start-part s.edition s.image s.known s.formed s.rest k h

    pub length-of : length_in t k ≡ length (get_or (bodies s.image) k [])
    length-of = ap (λ (l : List ℕ). length_in l k) s.laid ∙ length_part s.edition s.image s.known s.formed s.rest k h

  -- every edition has the first eight
  pub known-section : (k : ℕ) → k < 8 → k < sections_of s.edition
  known-section = least-section s.edition s.image s.known

  -- the body stands there; one that the edition does not have is empty, and stands anywhere
  pub stands_of : (k : ℕ) → Stands t (start_in t k) (get_or (bodies s.image) k [])
  stands_of k = by (ltb k (sections_of s.edition)) refl
    where
      body : List ℕ
      body = get_or (bodies s.image) k []

      by : (b : Bool) → ltb k (sections_of s.edition) ≡ b → Stands t (start_in t k) body
      by true e =
          subst (λ (n : ℕ). Stands t n body) (sym (start_of k (ltb-true k (sections_of s.edition) e)))
          (subst (λ (l : List ℕ). Stands l (body_place s.edition s.image k) body) (sym s.laid) (body-stands s.edition s.image s.known s.fits s.rest k))
      by false e = subst (Stands t (start_in t k)) (sym (s.fits k (ltb-false k (sections_of s.edition) e))) (nothing-stands t (start_in t k))

  -- the first body follows the header
  pub first_of : start_in t 0 ≡ first_body s.edition
  first_of = start_of 0 s.known ∙ first-place s.edition s.image
