-- The laws of sets in bytes, each once over the width: what is in a set that is written by its rule, and that bytes are told by what is in them.
-- Assumes nothing.
use mathlib.Core.Path.{◌≡◌, refl, sym, ap, ap₂, ◌∙◌, subst}
use mathlib.Core.Bool.{Bool, false, not, ◌&&◌, ◌||◌}
use mathlib.Core.List.{List, ◌∷◌}
use Prim.Native.Nat.{ℕ, zero, suc, ◌+◌, ◌*◌, ◌/◌, ◌%◌, ◌≤◌, ◌<◌}
use native.Mathlib.Nat.{not-suc-le-zero, le_of_suc-le-suc}
use native.Mathlib.Decide.{dec_lt}
use native.Mathlib.Omega.{arith}
use lib.Dec.{eqb, ltb}
use lib.ListN.{length, get_or, get_or-eq_default, replicate}
use lib.Seq.{ext_get_or}
use borrow.Author.Tests.{ne_eqb}
use Rattle.bitset.specs.Sets.{bit, member, from_bits, tabulate, set_of, inserted, removed, union_of, emptied, complement_of}
use Rattle.bitset.proofs.BitLaws.{bit-zero, bit-from_bits, from_bits-ext, from_bits-lt, bits-eq}

-- ---- lists by their rule

module _ {A : Type 0} where
  pub length-tabulate : (w : ℕ) (g : ℕ → A) → length (tabulate w g) ≡ w
  unfolding tabulate
  length-tabulate zero g = refl
  length-tabulate (suc w) g = ap suc (length-tabulate w (λ i. g (suc i)))

  pub get_d_tabulate : (w : ℕ) (g : ℕ → A) (i : ℕ) (d : A) → i < w → get_or (tabulate w g) i d ≡ g i
  unfolding tabulate
  get_d_tabulate zero g i d h = absurd (not-suc-le-zero h)
  get_d_tabulate (suc w) g zero d h = refl
  get_d_tabulate (suc w) g (suc i) d h = get_d_tabulate w (λ j. g (suc j)) i d (le_of_suc-le-suc h)

  pub tabulate-ext : (w : ℕ) (g h : ℕ → A) → ((i : ℕ) → i < w → g i ≡ h i) → tabulate w g ≡ tabulate w h
  unfolding tabulate
  tabulate-ext zero g h e = refl
  tabulate-ext (suc w) g h e = ap₂ ◌∷◌ (e 0 (omega arith)) (tabulate-ext w (λ i. g (suc i)) (λ i. h (suc i)) (λ i l. e (suc i) (omega arith)))

-- ---- bytes and members

pub length-set_of : (w : ℕ) (f : ℕ → Bool) → length (set_of w f) ≡ w
unfolding set_of
length-set_of w f = length-tabulate w _

pub byte-set_of : (w : ℕ) (f : ℕ → Bool) (i : ℕ) → i < w → get_or (set_of w f) i 0 ≡ from_bits 8 (λ k. f (8 * i + k))
unfolding set_of
byte-set_of w f i h = get_d_tabulate w _ i 0 h

-- every byte is one
pub small-set_of : (w : ℕ) (f : ℕ → Bool) (i : ℕ) → get_or (set_of w f) i 0 < 256
small-set_of w f i = at (dec_lt i w)
  where
    at : Dec (i < w) → get_or (set_of w f) i 0 < 256
    at (yes h) = rw (byte-set_of w f i h) (from_bits-lt 8 (λ k. f (8 * i + k)))
    at (no h) = let e : get_or (set_of w f) i 0 ≡ 0 = get_or-eq_default (set_of w f) 0 (omega (arith, length-set_of w f)) in omega arith

-- no number past the last byte is in
pub member-past : (s : List ℕ) (n : ℕ) → 8 * length s ≤ n → member s n ≡ false
unfolding member
member-past s n h = ap (λ (b : ℕ). bit b (n % 8)) (get_or-eq_default s 0 (omega arith)) ∙ bit-zero (n % 8)

-- number 8 * i + k is bit k of byte i
pub member-at : (s : List ℕ) (i k : ℕ) → k < 8 → member s (8 * i + k) ≡ bit (get_or s i 0) k
unfolding member
member-at s i k h =
    let q : (8 * i + k) / 8 ≡ i = omega arith in
    let r : (8 * i + k) % 8 ≡ k = omega arith in
    rw (q, r)

-- a set has what its rule says, and nothing beyond its bytes
pub member-set_of : (w : ℕ) (f : ℕ → Bool) (n : ℕ) → n < 8 * w → member (set_of w f) n ≡ f n
unfolding member
member-set_of w f n h =
    let split : 8 * (n / 8) + n % 8 ≡ n = omega arith in
    ap (λ (b : ℕ). bit b (n % 8)) (byte-set_of w f (n / 8) (omega arith))
    ∙ bit-from_bits 8 (λ k. f (8 * (n / 8) + k)) (n % 8) (omega arith)
    ∙ ap f split

pub member-set_of-past : (w : ℕ) (f : ℕ → Bool) (n : ℕ) → 8 * w ≤ n → member (set_of w f) n ≡ false
member-set_of-past w f n h = member-past (set_of w f) n (omega (arith, length-set_of w f))

-- where a rule is false past the bytes, the set has what it says, whatever the number
pub member-set_of-within : (w : ℕ) (f : ℕ → Bool) (n : ℕ) → (8 * w ≤ n → f n ≡ false) → member (set_of w f) n ≡ f n
member-set_of-within w f n h = at (dec_lt n (8 * w))
  where
    at : Dec (n < 8 * w) → member (set_of w f) n ≡ f n
    at (yes l) = member-set_of w f n l
    at (no l) = member-set_of-past w f n (omega arith) ∙ sym (h (omega arith))

-- the byte i of a set by its rule, from its bits
pub byte-eq : (w : ℕ) (f : ℕ → Bool) (i v : ℕ) → i < w → v < 256 → ((k : ℕ) → k < 8 → bit v k ≡ f (8 * i + k)) → v ≡ get_or (set_of w f) i 0
byte-eq w f i v h l e = bits-eq 8 v (λ k. f (8 * i + k)) l e ∙ sym (byte-set_of w f i h)

-- bytes are the set of a rule where they have as members what the rule says
pub set-eq : (s : List ℕ) (f : ℕ → Bool) → ((i : ℕ) → get_or s i 0 < 256) → ((n : ℕ) → n < 8 * length s → member s n ≡ f n) → s ≡ set_of (length s) f
set-eq s f small h =
    ext_get_or 0 s (set_of (length s) f) (sym (length-set_of (length s) f))
    (λ i l. byte-eq (length s) f i (get_or s i 0) l (small i) (λ k m. sym (member-at s i k m) ∙ h (8 * i + k) (omega arith)))

-- bytes are the set of their members
pub set_of-member : (s : List ℕ) → ((i : ℕ) → get_or s i 0 < 256) → set_of (length s) (member s) ≡ s
set_of-member s small = sym (set-eq s (member s) small (λ n l. refl))

-- two rules that agree below 8 * w give the same set
pub set_of-ext : (w : ℕ) (f g : ℕ → Bool) → ((n : ℕ) → n < 8 * w → f n ≡ g n) → set_of w f ≡ set_of w g
set_of-ext w f g h =
    ext_get_or 0 (set_of w f) (set_of w g) (length-set_of w f ∙ sym (length-set_of w g))
    (λ i l.
    let m : i < w = subst (λ (x : ℕ). i < x) (length-set_of w f) l in
    byte-set_of w f i m ∙ from_bits-ext 8 (λ k. f (8 * i + k)) (λ k. g (8 * i + k)) (λ k q. h (8 * i + k) (omega arith)) ∙ sym (byte-set_of w g i m))

-- the set of no number
pub none-set_of : (w : ℕ) → replicate w 0 ≡ set_of w (λ n. false)
unfolding set_of tabulate from_bits
none-set_of zero = refl
none-set_of (suc w) = ap (λ (l : List ℕ). 0 ∷ l) (none-set_of w)

-- ---- on sets by their rules the operations are those of logic

-- once over what is asked of a number and of whether it is in the set
module _ (f : ℕ → Bool → Bool) where
  pub map-set_of : (w : ℕ) (a : ℕ → Bool) → set_of (length (set_of w a)) (λ n. f n (member (set_of w a) n)) ≡ set_of w (λ n. f n (a n))
  map-set_of w a =
      ap (λ (v : ℕ). set_of v (λ n. f n (member (set_of w a) n))) (length-set_of w a)
      ∙ set_of-ext w (λ n. f n (member (set_of w a) n)) (λ n. f n (a n)) (λ n l. ap (f n) (member-set_of w a n l))

-- once over the operator
module _ (f : Bool → Bool → Bool) where
  pub operator-set_of : (w : ℕ) (a b : ℕ → Bool)
      → set_of (length (set_of w a)) (λ n. f (member (set_of w a) n) (member (set_of w b) n)) ≡ set_of w (λ n. f (a n) (b n))
  operator-set_of w a b =
      map-set_of (λ n x. f x (member (set_of w b) n)) w a
      ∙ set_of-ext w (λ n. f (a n) (member (set_of w b) n)) (λ n. f (a n) (b n)) (λ n l. ap (f (a n)) (member-set_of w b n l))

pub union-set_of : (w : ℕ) (a b : ℕ → Bool) → union_of (set_of w a) (set_of w b) ≡ set_of w (λ n. a n || b n)
unfolding union_of
union-set_of = operator-set_of ◌||◌

pub inserted-set_of : (w : ℕ) (a : ℕ → Bool) (m : ℕ) → inserted (set_of w a) m ≡ set_of w (λ n. a n || eqb n m)
unfolding inserted
inserted-set_of w a m = map-set_of (λ n x. x || eqb n m) w a

pub complement-set_of : (total w : ℕ) (a : ℕ → Bool) → complement_of total (set_of w a) ≡ set_of w (λ n. ltb n total && not (a n))
unfolding complement_of
complement-set_of total = map-set_of (λ n x. ltb n total && not x)

-- ---- the set of one number

pub member-one : (w u : ℕ) → u < 8 * w → (n : ℕ) → member (set_of w (λ m. eqb m u)) n ≡ eqb n u
member-one w u h n = member-set_of-within w (λ m. eqb m u) n (λ l. ne_eqb n u (λ e. omega arith))

-- to join it to a set that is no wider is to insert the number
pub union-one : (a : List ℕ) (w u : ℕ) → length a ≤ w → union_of a (set_of w (λ m. eqb m u)) ≡ inserted a u
unfolding union_of inserted
union-one a w u h =
    set_of-ext (length a) (λ n. member a n || member (set_of w (λ m. eqb m u)) n) (λ n. member a n || eqb n u)
    (λ n l. ap (λ (b : Bool). member a n || b) (member-set_of w (λ m. eqb m u) n (omega arith)))

-- ---- every operation keeps the length

pub length_inserted : (s : List ℕ) (n : ℕ) → length (inserted s n) ≡ length s
unfolding inserted
length_inserted s n = length-set_of (length s) _

pub length_removed : (s : List ℕ) (n : ℕ) → length (removed s n) ≡ length s
unfolding removed
length_removed s n = length-set_of (length s) _

pub length_union : (a b : List ℕ) → length (union_of a b) ≡ length a
unfolding union_of
length_union a b = length-set_of (length a) _

pub length-emptied : (s : List ℕ) → length (emptied s) ≡ length s
unfolding emptied
length-emptied s = length-set_of (length s) _
