-- The layout of a table is read back: the edition of `encode e i ++ rest` is e, and its bodies are those of i that the edition has. Assumes
-- nothing.
use Prim.Native.Nat.{ℕ, suc, ◌+◌, ◌*◌, ◌^◌, ◌<◌, ◌≤◌}
use native.Mathlib.Omega.{arith}
use mathlib.Core.Path.{◌≡◌, refl, sym, ap, ◌∙◌, subst}
use mathlib.Core.List.{List, [], ◌∷◌, ◌++◌, append_assoc}
use mathlib.Core.Option.{some}
use lib.ListN.{length, get_or, take, drop, length-append, length-drop}
use lib.Seq.{take-append_seam, drop-append_seam, drop_at, take_at, drop-drop}
use borrow.Author.Tests.{eq-eqb, le-leb, lt-ltb}
use Rattle.bitset.specs.Relations.{joined}
use Rattle.policy.specs.Basics.{each, le, unle}
use Rattle.policy.specs.Image.{Image}
use Rattle.policy.specs.Encode.{bodies, pairs, sections_of, first_body, layout, encode}
use Rattle.policy.specs.Sound.{body_lengths, split_bodies, edition_in, bodies_in}
use Rattle.table_laws.specs.SoundTable.{FitsEdition}
use Rattle.table_laws.proofs.ListLaws.{joined-place}
use Rattle.table_laws.proofs.LittleEndian.{le-length, unle-le}
use Rattle.table_laws.proofs.Editions.{edition-known, sections-many, sections-joined}

-- a part fits what it is at the front of
pub fits : {A : Type 0} (xs ys : List A) → length xs ≤ length (xs ++ ys)
fits xs ys = omega (arith, length-append xs ys)

-- parts one after the other are cut apart at their lengths
pub split-law : (bs : List (List ℕ)) (rest : List ℕ) → split_bodies (each length bs) (joined bs ++ rest) ≡ some bs
unfolding split_bodies each joined
split-law [] rest = refl
split-law (b ∷ bs) rest =
    rw (
      append_assoc b (joined bs) rest,
      le-leb (length b) (length (b ++ (joined bs ++ rest))) (fits b (joined bs ++ rest)),
      take-append_seam b (joined bs ++ rest),
      drop-append_seam b (joined bs ++ rest),
      split-law bs rest,
    )

-- the number in the first w bytes
number-front : (w n : ℕ) (ys : List ℕ) → n < 256 ^ w → unle (take w (le w n ++ ys)) ≡ n
number-front w n ys h = ap unle (take_at (le w n) ys w (le-length w n)) ∙ unle-le w n h

drop-four : (n : ℕ) (ys : List ℕ) → drop 4 (le 4 n ++ ys) ≡ ys
drop-four n ys = drop_at (le 4 n) ys 4 (le-length 4 n)

drop-eight : (n m : ℕ) (ys : List ℕ) → drop 8 (le 4 n ++ (le 4 m ++ ys)) ≡ ys
unfolding le
drop-eight n m ys = refl

-- the lengths of bodies that lie one after the other are read back
pub lengths-law : (bs : List (List ℕ)) (o : ℕ) (rest : List ℕ) → o + length (joined bs) < 256 ^ 4
    → body_lengths (length bs) o (pairs o bs ++ rest) ≡ some (each length bs)
unfolding body_lengths pairs each joined
lengths-law [] o rest h = refl
lengths-law (b ∷ bs) o rest h =
    rw (
      append_assoc (le 4 o) (le 4 (length b) ++ pairs (o + length b) bs) rest,
      append_assoc (le 4 (length b)) (pairs (o + length b) bs) rest,
      number-front 4 o (le 4 (length b) ++ (pairs (o + length b) bs ++ rest)) (omega (arith, both)),
      drop-four o (le 4 (length b) ++ (pairs (o + length b) bs ++ rest)),
      drop-eight o (length b) (pairs (o + length b) bs ++ rest),
      number-front 4 (length b) (pairs (o + length b) bs ++ rest) (omega (arith, both)),
      eq-eqb o o refl,
      lengths-law bs (o + length b) rest (omega (arith, both)),
    )
  where
    both : o + (length b + length (joined bs)) < 256 ^ 4
    both = subst (λ (k : ℕ). o + k < 256 ^ 4) (length-append b (joined bs)) h

pub pairs-length : (bs : List (List ℕ)) (o : ℕ) → length (pairs o bs) ≡ 8 * length bs
unfolding pairs le
pairs-length [] o = refl
pairs-length (b ∷ bs) o = omega (arith, pairs-length bs (o + length b))

-- the header, the bodies and what is after them
pub layout-front : (e : ℕ) (bs : List (List ℕ)) (rest : List ℕ)
    → layout e bs ++ rest ≡ le 2 e ++ (le 2 (sections_of e) ++ (pairs (first_body e) bs ++ (joined bs ++ rest)))
layout-front e bs rest = simp append_assoc

-- the pairs follow four bytes
pub layout-pairs : (e : ℕ) (bs : List (List ℕ)) (rest : List ℕ) → drop 4 (layout e bs ++ rest) ≡ pairs (first_body e) bs ++ (joined bs ++ rest)
unfolding le
layout-pairs e bs rest = append_assoc (pairs (first_body e) bs) (joined bs) rest

-- and the bodies follow the pairs
pub layout-bodies : (e : ℕ) (bs : List (List ℕ)) (rest : List ℕ) → length bs ≡ sections_of e → drop (first_body e) (layout e bs ++ rest) ≡ joined bs ++ rest
layout-bodies e bs rest n =
    sym (drop-drop (8 * sections_of e) 4 (layout e bs ++ rest))
    ∙ ap (drop (8 * sections_of e)) (layout-pairs e bs rest)
    ∙ drop_at (pairs (first_body e) bs) (joined bs ++ rest) (8 * sections_of e) (pairs-length bs (first_body e) ∙ ap (λ (k : ℕ). 8 * k) n)

-- the edition of a table is the one that is written
pub layout-edition : (e : ℕ) (bs : List (List ℕ)) (rest : List ℕ) → 0 < sections_of e → edition_in (layout e bs ++ rest) ≡ e
layout-edition e bs rest known =
    ap edition_in (layout-front e bs rest)
    ∙ number-front 2 e (le 2 (sections_of e) ++ (pairs (first_body e) bs ++ (joined bs ++ rest))) (omega (arith, (edition-known e known).small))

layout-sections : (e : ℕ) (bs : List (List ℕ)) (rest : List ℕ) → 0 < sections_of e → unle (take 2 (drop 2 (layout e bs ++ rest))) ≡ sections_of e
layout-sections e bs rest known =
    let after = pairs (first_body e) bs ++ (joined bs ++ rest) in
    ap (λ (t : List ℕ). unle (take 2 (drop 2 t))) (layout-front e bs rest)
    ∙ ap (λ (t : List ℕ). unle (take 2 t)) (drop_at (le 2 e) (le 2 (sections_of e) ++ after) 2 (le-length 2 e))
    ∙ number-front 2 (sections_of e) after (omega (arith, (edition-known e known).most))

-- the bodies of an edition laid out, whatever is after them, are read back
pub layout-law : (e : ℕ) (bs : List (List ℕ)) (rest : List ℕ) → 0 < sections_of e → length bs ≡ sections_of e → first_body e + length (joined bs) < 256 ^ 4
    → bodies_in (layout e bs ++ rest) ≡ some bs
layout-law e bs rest known n h = by (layout e bs ++ rest) (layout-edition e bs rest known) (layout-sections e bs rest known) (layout-pairs e bs rest) (layout-bodies e bs rest n)
  where
    long : (t : List ℕ) → drop 4 t ≡ pairs (first_body e) bs ++ (joined bs ++ rest) → first_body e ≤ length t
    long t p = omega (
      arith,
      known,
      length-drop 4 t,
      ap length p,
      length-append (pairs (first_body e) bs) (joined bs ++ rest),
      pairs-length bs (first_body e),
      n,
    )

    lengths : body_lengths (sections_of e) (first_body e) (pairs (first_body e) bs ++ (joined bs ++ rest)) ≡ some (each length bs)
    lengths = subst (λ (k : ℕ). body_lengths k (first_body e) (pairs (first_body e) bs ++ (joined bs ++ rest)) ≡ some (each length bs)) n
        (lengths-law bs (first_body e) (joined bs ++ rest) h)

    by : (t : List ℕ) → edition_in t ≡ e → unle (take 2 (drop 2 t)) ≡ sections_of e → drop 4 t ≡ pairs (first_body e) bs ++ (joined bs ++ rest)
        → drop (first_body e) t ≡ joined bs ++ rest → bodies_in t ≡ some bs
    by t a b p q = unfold bodies_in in
        rw (
          a,
          lt-ltb 0 (sections_of e) known,
          le-leb (first_body e) (length t) (long t p),
          b,
          eq-eqb (sections_of e) (sections_of e) refl,
          p,
          lengths,
          q,
          split-law bs rest,
        )

-- so those of an image's table are those of the image, as far as the edition has sections
pub bodies-law : (e : ℕ) (i : Image) (rest : List ℕ) → 0 < sections_of e → first_body e + length (joined (take (sections_of e) (bodies i))) < 256 ^ 4
    → bodies_in (encode e i ++ rest) ≡ some (take (sections_of e) (bodies i))
unfolding encode
bodies-law e i rest known h = layout-law e (take (sections_of e) (bodies i)) rest known (sections-many e i known) h

pub table-edition : (e : ℕ) (i : Image) (rest : List ℕ) → 0 < sections_of e → edition_in (encode e i ++ rest) ≡ e
unfolding encode
table-edition e i rest known = layout-edition e (take (sections_of e) (bodies i)) rest known

-- the bodies of an image that fits the edition are after the header, and body k is there after those before it
module _ (e : ℕ) (i : Image) (known : 0 < sections_of e) (fits : FitsEdition e i) (rest : List ℕ) where
  pub table-bodies : drop (first_body e) (encode e i ++ rest) ≡ joined (bodies i) ++ rest
  unfolding encode
  table-bodies =
      layout-bodies e (take (sections_of e) (bodies i)) rest (sections-many e i known) ∙ ap (λ (bs : List ℕ). bs ++ rest) (sections-joined e i fits)

  pub table_at : (k : ℕ) → drop (first_body e + length (joined (take k (bodies i)))) (encode e i ++ rest) ≡ get_or (bodies i) k [] ++ (joined (drop (suc k) (bodies i)) ++ rest)
  table_at k =
      sym (drop-drop (length (joined (take k (bodies i)))) (first_body e) (encode e i ++ rest))
      ∙ ap (drop (length (joined (take k (bodies i))))) table-bodies ∙ joined-place (bodies i) k rest
