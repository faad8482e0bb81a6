-- Each body of an image's table is at its place, whatever is after the table, and the header of a well-formed image's table says
-- where that is and how long the body is. Assumes nothing.
use Prim.Native.Nat.{ℕ, zero, suc, ◌+◌, ◌*◌, ◌^◌, ◌<◌}
use native.Mathlib.Nat.{add-zero}
use native.Mathlib.Omega.{arith}
use mathlib.Core.Path.{◌≡◌, sym, ap, ap₂, ◌∙◌, subst}
use mathlib.Core.Bool.{true}
use mathlib.Core.List.{List, [], ◌∷◌, ◌++◌}
use lib.ListN.{length, get_or, take, drop, length-append}
use lib.Seq.{take_at, take-take, drop-drop, get_or-take}
use Rattle.bitset.specs.Relations.{joined}
use Rattle.policy.specs.Basics.{le, unle}
use Rattle.policy.specs.Image.{Image}
use Rattle.policy.specs.Encode.{bodies, pairs, sections_of, first_body, encode}
use Rattle.policy.specs.Sound.{well_formed}
use Rattle.table_laws.specs.SoundTable.{FitsEdition}
use Rattle.table_laws.proofs.LittleEndian.{le-length, unle-le}
use Rattle.table_laws.proofs.Editions.{sections-many}
use Rattle.table_laws.proofs.LayoutLaws.{layout-pairs, table_at}
use Rattle.table_laws.proofs.WellFormedLaid.{offsets-small}
use Rattle.table_laws.proofs.ListLaws.{joined-room}
use Rattle.table_reader.specs.Records.{body_place, start_in, length_in}
use Rattle.table_reader.proofs.RecordLaws.{Stands, stands-left, stands-right}

-- body k, counted from 0, of the table of an image that fits the edition is at its place, whatever is after the table
pub body-stands : (e : ℕ) (i : Image) → 0 < sections_of e → FitsEdition e i → (rest : List ℕ) (k : ℕ)
    → Stands (encode e i ++ rest) (body_place e i k) (get_or (bodies i) k [])
unfolding body_place
body-stands e i known fits rest k = record { rest = joined (drop (suc k) (bodies i)) ++ rest; here = table_at e i known fits rest k }

-- the first body is right after the header
pub first-place : (e : ℕ) (i : Image) → body_place e i 0 ≡ first_body e
unfolding body_place joined
first-place e i = add-zero (first_body e)

-- THE HEADER

-- a number that is at a place is read back
pub number-part : {t : List ℕ} {at : ℕ} (w n : ℕ) → n < 256 ^ w → Stands t at (le w n) → unle (take w (drop at t)) ≡ n
number-part w n h s = ap (λ (l : List ℕ). unle (take w l)) s.here ∙ ap unle (take_at (le w n) s.rest w (le-length w n)) ∙ unle-le w n h

-- pair k says where body k starts and how long it is
pair-front : (bs : List (List ℕ)) (o k : ℕ) → k < length bs → (rest : List ℕ)
    → Stands (pairs o bs ++ rest) (8 * k) (le 4 (o + length (joined (take k bs))) ++ le 4 (length (get_or bs k [])))
unfolding pairs joined le
pair-front [] o k h rest = absurd (omega arith)
pair-front (b ∷ bs) o zero h rest = record {
  rest = pairs (o + length b) bs ++ rest;
  here = ap (λ (n : ℕ). le 4 n ++ (le 4 (length b) ++ (pairs (o + length b) bs ++ rest))) (sym (add-zero o));
}
pair-front (b ∷ bs) o (suc k) h rest =
    let next = pair-front bs (o + length b) k (omega arith) rest in
    let eight : 8 * suc k ≡ 8 + 8 * k = omega arith in
    let start : o + length b + length (joined (take k bs)) ≡ o + length (b ++ joined (take k bs)) = omega (arith, length-append b (joined (take k bs))) in
    record {
      rest = next.rest;
      here = ap (λ (n : ℕ). drop n (pairs o (b ∷ bs) ++ rest)) eight
          ∙ sym (drop-drop (8 * k) 8 (pairs o (b ∷ bs) ++ rest))
          ∙ next.here
          ∙ ap (λ (n : ℕ). (le 4 n ++ le 4 (length (get_or bs k []))) ++ next.rest) start;
    }

-- so the pair of a section that the edition has
pair-stands : (e : ℕ) (i : Image) → 0 < sections_of e → (rest : List ℕ) (k : ℕ) → k < sections_of e
    → Stands (encode e i ++ rest) (4 + 8 * k) (le 4 (body_place e i k) ++ le 4 (length (get_or (bodies i) k [])))
unfolding encode body_place
pair-stands e i known rest k h =
    let bs = take (sections_of e) (bodies i) in
    let p = pair-front bs (first_body e) k (omega (arith, sections-many e i known)) (joined bs ++ rest) in
    record {
      rest = p.rest;
      here = sym (drop-drop (8 * k) 4 (encode e i ++ rest)) ∙ ap (drop (8 * k)) (layout-pairs e bs rest) ∙ p.here
          ∙ ap₂ (λ (l : List (List ℕ)) (b : List ℕ). (le 4 (first_body e + length (joined l)) ++ le 4 (length b)) ++ p.rest)
          (take-take k (sections_of e) (bodies i) (omega arith)) (get_or-take (sections_of e) (bodies i) k [] h);
    }

module _ (e : ℕ) (i : Image) (known : 0 < sections_of e) (good : well_formed i ≡ true) (rest : List ℕ) (k : ℕ) (h : k < sections_of e) where
  room : body_place e i k + length (get_or (bodies i) k []) < 256 ^ 4
  unfolding body_place
  room = omega (arith, offsets-small i good e known, joined-room (bodies i) k)

  -- the header of a well-formed image's table says where each body starts
  pub start-part : start_in (encode e i ++ rest) k ≡ body_place e i k
  start-part = number-part 4 (body_place e i k) (omega (arith, room))
      (stands-left (le 4 (body_place e i k)) (le 4 (length (get_or (bodies i) k []))) (pair-stands e i known rest k h))

  -- and how long it is
  pub length_part : length_in (encode e i ++ rest) k ≡ length (get_or (bodies i) k [])
  length_part =
      let long = length (get_or (bodies i) k []) in
      let place : 4 + 8 * k + length (le 4 (body_place e i k)) ≡ 8 + 8 * k = omega (arith, le-length 4 (body_place e i k)) in
      number-part 4 long (omega (arith, room))
      (subst (λ (n : ℕ). Stands (encode e i ++ rest) n (le 4 long)) place (stands-right (le 4 (body_place e i k)) (le 4 long) (pair-stands e i known rest k h)))
