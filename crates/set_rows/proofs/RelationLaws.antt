-- A relation as rows of sets: the rows one after the other are one set, in which number m of row u is number 8 * w * u + m; a row is read back;
-- and to grant is what logic says. Assumes nothing.
use mathlib.Core.Path.{◌≡◌, refl, sym, ap, ap₂, ◌∙◌}
use mathlib.Core.Bool.{Bool, true, false, ◌&&◌, ◌||◌}
use mathlib.Core.List.{List, [], ◌∷◌, ◌++◌}
use Prim.Native.Nat.{ℕ, zero, suc, ◌+◌, ◌*◌, ◌/◌, ◌%◌, ◌≤◌, ◌<◌}
use native.Mathlib.Nat.{mul-zero, mul-suc, zero-mul, zero-add, suc-add, add_comm, div-eq_of_lt, mod-eq_of_lt, add-mod_left, add-div_left, mod-lt, zero-lt-suc}
use native.Mathlib.Numerals.{add-one}
use native.Mathlib.Omega.{arith}
use lib.ListN.{length, get_or, take}
use Rattle.bitset.specs.Sets.{member, set_of, tabulate, from_bits, equal, emptied}
use Rattle.byte_slices.specs.Parts.{part}
use Rattle.bitset.specs.Relations.{joined, relation, granted}
use Rattle.bitset.proofs.BitLaws.{from_bits-ext}
use Rattle.bitset.proofs.SetLaws.{tabulate-ext, set_of-ext, member-set_of, length-set_of, small-set_of}
use Rattle.bitset.proofs.SetParts.{part-set_of}
use Rattle.set_operators.proofs.TestLaws.{equal-bytes}
use Rattle.set_rows.proofs.GrantLaws.{row_of, place_of, row_fits, member-take}

tabulate-add : (v w : ℕ) (g : ℕ → ℕ) → tabulate (v + w) g ≡ tabulate v g ++ tabulate w (λ i. g (v + i))
unfolding tabulate
tabulate-add zero w g = simp zero-add
tabulate-add (suc v) w g = simp suc-add (ap (λ (l : List ℕ). g 0 ∷ l) (tabulate-add v w (λ i. g (suc i))))

-- a set of v + w bytes is one of v bytes and then one of w
pub set_of-add : (v w : ℕ) (f : ℕ → Bool) → set_of (v + w) f ≡ set_of v f ++ set_of w (λ n. f (8 * v + n))
unfolding set_of
set_of-add v w f =
    tabulate-add v w (λ i. from_bits 8 (λ k. f (8 * i + k)))
    ∙ ap (λ (l : List ℕ). set_of v f ++ l)
    (tabulate-ext w (λ i. from_bits 8 (λ k. f (8 * (v + i) + k))) (λ i. from_bits 8 (λ k. f (8 * v + (8 * i + k))))
    (λ i l. from_bits-ext 8 (λ k. f (8 * (v + i) + k)) (λ k. f (8 * v + (8 * i + k))) (λ k q. ap f (regroup i k))))
  where
    regroup : (i k : ℕ) → 8 * (v + i) + k ≡ 8 * v + (8 * i + k)
    regroup i k = omega arith

-- two relations that agree in every row are the same bytes
pub relation-ext : (n w : ℕ) (f g : ℕ → ℕ → Bool) → ((u m : ℕ) → u < n → m < 8 * w → f u m ≡ g u m) → relation n w f ≡ relation n w g
unfolding relation
relation-ext n w f g h = ap joined (tabulate-ext n (λ u. set_of w (f u)) (λ u. set_of w (g u)) (λ u l. set_of-ext w (f u) (g u) (λ m k. h u m l k)))

-- rows of no bytes
relation-narrow : (n : ℕ) (f : ℕ → ℕ → Bool) → relation n 0 f ≡ []
unfolding relation joined tabulate set_of
relation-narrow zero f = refl
relation-narrow (suc n) f = relation-narrow n (λ u. f (suc u))

-- the whole body as one set
relation-wide : (n w : ℕ) (f : ℕ → ℕ → Bool) → 0 < w → relation n w f ≡ set_of (w * n) (λ m. f (m / (8 * w)) (m % (8 * w)))
unfolding relation joined tabulate set_of
relation-wide zero w f h = rw mul-zero
relation-wide (suc n) w f h =
    let pos : 0 < 8 * w = omega arith in
    ap₂ ◌++◌ (set_of-ext w (f 0) (λ m. f (m / (8 * w)) (m % (8 * w))) (λ m l. sym (ap₂ f (div-eq_of_lt l) (mod-eq_of_lt l))))
    (relation-wide n w (λ u. f (suc u)) h
    ∙ set_of-ext (w * n) (λ m. f (suc (m / (8 * w))) (m % (8 * w))) (λ m. f ((8 * w + m) / (8 * w)) ((8 * w + m) % (8 * w)))
    (λ m l. sym (ap₂ f (add-div_left m pos ∙ add-one (m / (8 * w))) (add-mod_left (8 * w) m))))
    ∙ sym (set_of-add w (w * n) (λ m. f (m / (8 * w)) (m % (8 * w))))
    ∙ ap (λ (x : ℕ). set_of x (λ m. f (m / (8 * w)) (m % (8 * w)))) (add_comm w (w * n) ∙ sym (mul-suc w n))

pub relation-set_of : (n w : ℕ) (f : ℕ → ℕ → Bool) → relation n w f ≡ set_of (w * n) (λ m. f (m / (8 * w)) (m % (8 * w)))
unfolding set_of tabulate
relation-set_of n zero f = relation-narrow n f ∙ ap (λ (v : ℕ). set_of v (λ m. f (m / (8 * zero)) (m % (8 * zero)))) (sym (zero-mul n))
relation-set_of n (suc w) f = relation-wide n (suc w) f (zero-lt-suc w)

pub length-relation : (n w : ℕ) (f : ℕ → ℕ → Bool) → length (relation n w f) ≡ w * n
length-relation n w f = ap length (relation-set_of n w f) ∙ length-set_of (w * n) _

-- relations that have the same numbers are the same bytes
pub relation-equal : (n w : ℕ) (f g : ℕ → ℕ → Bool) → equal (relation n w f) (relation n w g) ≡ true → relation n w f ≡ relation n w g
relation-equal n w f g =
    equal-bytes (relation n w f) (relation n w g) (length-relation n w f ∙ sym (length-relation n w g)) (small f) (small g)
  where
    small : (h : ℕ → ℕ → Bool) (i : ℕ) → get_or (relation n w h) i 0 < 256
    small h i = rw (relation-set_of n w h) (small-set_of (w * n) (λ m. h (m / (8 * w)) (m % (8 * w))) i)

-- nothing is related: all bytes are 0
pub relation-empty : (n w : ℕ) → relation n w (λ u m. false) ≡ set_of (w * n) (λ m. false)
relation-empty n w = relation-set_of n w (λ u m. false)

-- bytes that are cleared are the relation in which nothing is related
pub emptied-relation : (n w : ℕ) (s : List ℕ) → length s ≡ w * n → emptied s ≡ relation n w (λ u m. false)
unfolding emptied
emptied-relation n w s e = ap (λ (v : ℕ). set_of v (λ m. false)) e ∙ sym (relation-empty n w)

-- row u of a body, and number m of it
pub row-relation : (n w : ℕ) (f : ℕ → ℕ → Bool) (u : ℕ) → u < n → part (relation n w f) (w * u) w ≡ set_of w (f u)
row-relation n w f u h =
    ap (λ (t : List ℕ). part t (w * u) w) (relation-set_of n w f)
    ∙ part-set_of (w * n) (w * u) w (λ m. f (m / (8 * w)) (m % (8 * w))) (row_fits w u n h)
    ∙ set_of-ext w (λ m. f ((8 * (w * u) + m) / (8 * w)) ((8 * (w * u) + m) % (8 * w))) (f u) (λ m l. ap₂ f (row_of w u m l) (place_of w u m l))

pub member-relation : (n w : ℕ) (f : ℕ → ℕ → Bool) (u m : ℕ) → u < n → m < 8 * w → member (part (relation n w f) (w * u) w) m ≡ f u m
member-relation n w f u m h l = ap (λ (s : List ℕ). member s m) (row-relation n w f u h) ∙ member-set_of w (f u) m l

-- granting on relations is what logic says, whatever bytes name the rows and the numbers
granted-narrow : (n : ℕ) (f g : ℕ → ℕ → Bool) (us rs : List ℕ) → granted 0 (relation n 0 f) us rs ≡ relation n 0 g
unfolding granted set_of tabulate
granted-narrow n f g us rs = rw (relation-narrow n f, relation-narrow n g)

granted-wide : (n w : ℕ) (f : ℕ → ℕ → Bool) (us rs : List ℕ) → 0 < w
    → granted w (relation n w f) us rs ≡ relation n w (λ u m. f u m || (member us u && member rs m))
unfolding granted
granted-wide n w f us rs p =
    rw (relation-set_of n w f, length-set_of (w * n) (λ m. f (m / (8 * w)) (m % (8 * w))))
    (set_of-ext (w * n)
    (λ m. member (set_of (w * n) (λ m. f (m / (8 * w)) (m % (8 * w)))) m || (member us (m / (8 * w)) && member (take w rs) (m % (8 * w))))
    (λ m. f (m / (8 * w)) (m % (8 * w)) || (member us (m / (8 * w)) && member rs (m % (8 * w))))
    (λ m l. ap₂ ◌||◌ (member-set_of (w * n) (λ m. f (m / (8 * w)) (m % (8 * w))) m l)
    (ap (λ (b : Bool). member us (m / (8 * w)) && b) (member-take w rs (m % (8 * w)) (mod-lt m pos))))
    ∙ sym (relation-set_of n w (λ u m. f u m || (member us u && member rs m))))
  where
    pos : 0 < 8 * w
    pos = omega arith

pub granted-relation : (n w : ℕ) (f : ℕ → ℕ → Bool) (us rs : List ℕ)
    → granted w (relation n w f) us rs ≡ relation n w (λ u m. f u m || (member us u && member rs m))
granted-relation n zero f us rs = granted-narrow n f (λ u m. f u m || (member us u && member rs m)) us rs
granted-relation n (suc w) f us rs = granted-wide n (suc w) f us rs (zero-lt-suc w)

-- granting between sets that are written by their rules
pub granted-sets : (n w v x : ℕ) (f : ℕ → ℕ → Bool) (us rs : ℕ → Bool) → n ≤ 8 * v → w ≤ x
    → granted w (relation n w f) (set_of v us) (set_of x rs) ≡ relation n w (λ u m. f u m || (us u && rs m))
granted-sets n w v x f us rs h k =
    granted-relation n w f (set_of v us) (set_of x rs)
    ∙ relation-ext n w (λ u m. f u m || (member (set_of v us) u && member (set_of x rs) m)) (λ u m. f u m || (us u && rs m))
    (λ u m a b. ap (λ (y : Bool). f u m || y) (ap₂ ◌&&◌ (member-set_of v us u (omega arith)) (member-set_of x rs m (omega arith))))
