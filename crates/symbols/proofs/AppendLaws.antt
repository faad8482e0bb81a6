-- Bytes written one after the other are bytes put at a place: the turn of `copy`, and the head and name of `append`.
-- Assumes nothing.
use mathlib.Core.Path.{◌≡◌, sym, ap, subst, ◌∙◌}
use mathlib.Core.List.{List, ◌∷◌}
use Prim.Native.Nat.{ℕ, suc, ◌+◌, ◌-◌, ◌/◌, ◌%◌, ◌≤◌, ◌<◌}
use native.Mathlib.Omega.{arith}
use native.Mathlib.Decide.{dec_lt}
use lib.ListN.{length, get_or, take, set, length-set}
use lib.Seq.{sets, ext_get_or, get_or-take, length-take-le}
use Rattle.byte_slices.specs.Parts.{part, put}
use Rattle.byte_slices.proofs.PartLaws.{get_d-put-in, get_d-put-before, get_d-put-after, sets-put, length-put}
use Rattle.policy.specs.Basics.{le}
use Rattle.policy.specs.Encode.{NameEntry, name_entry, entry_bytes}
use Rattle.symbols.specs.Append.{Appended}
use Rattle.byte_slices.proofs.PartLaws.{part-whole}

pub entry_length : (e : NameEntry) → length (entry_bytes e) ≡ 4 + length e.name
unfolding le
entry_length e = omega arith

-- ---- append: the head of an entry, and then its name

head-then : (t : List ℕ) (end s lo hi n : ℕ) (w : List ℕ)
    → sets (set (set (set (set t end s) (end + 1) lo) (suc (end + 1)) hi) (end + 3) n) (end + 4) w ≡ sets t end (s ∷ lo ∷ hi ∷ n ∷ w)
head-then t end s lo hi n w =
    let e1 : end + 1 ≡ suc end = omega arith in
    let e3 : end + 3 ≡ suc (suc (suc end)) = omega arith in
    let e4 : end + 4 ≡ suc (suc (suc (suc end))) = omega arith in
    rw (e1, e3, e4)

-- p is t with the sort and the number of the entry, and u has its length and name too
module _ (t : List ℕ) (end s n : ℕ) (w : List ℕ) (room : end + 4 + length w ≤ length t) (p : List ℕ) (begun : p ≡ put (set t end s) (end + 1) (le 2 n)) where
  fits : end + 1 + length (le 2 n) ≤ length (set t end s)
  unfolding le
  fits = omega (arith, length-set t end s)

  pub long-begun : length p ≡ length t
  long-begun = ap length begun ∙ length-put (set t end s) (end + 1) (le 2 n) fits ∙ length-set t end s

  pub long-headed : length (set p (end + 3) (length w)) ≡ length t
  long-headed = length-set p (end + 3) (length w) ∙ long-begun

  module _ (u : List ℕ) (q : u ≡ put (set p (end + 3) (length w)) (end + 4) (part w 0 (length w))) where
    named : u ≡ put (set p (end + 3) (length w)) (end + 4) w
    named = q ∙ ap (put (set p (end + 3) (length w)) (end + 4)) (part-whole w)

    pub long-appended : length u ≡ length t
    long-appended = ap length named ∙ length-put (set p (end + 3) (length w)) (end + 4) w (omega (arith, long-headed)) ∙ long-headed

    pub appended : (v : List ℕ) → w ≡ v → Appended t u end (name_entry s n v) (end + 4 + length w)
    unfolding le
    appended v e = subst (λ (x : List ℕ). Appended t u end (name_entry s n x) (end + 4 + length w)) e (record {
      written =
          named
          ∙ sym (sets-put (set p (end + 3) (length w)) (end + 4) w (omega (arith, long-headed)))
          ∙ ap (λ (l : List ℕ). sets (set l (end + 3) (length w)) (end + 4) w) (begun ∙ sym (sets-put (set t end s) (end + 1) (le 2 n) fits))
          ∙ head-then t end s (n % 256) (n / 256 % 256) (length w) w
          ∙ sets-put t end (entry_bytes (name_entry s n w)) (omega arith);
      past = omega arith;
      inside = omega arith;
    })

-- what is put before a place is put into the bytes before it
pub take_put : (n : ℕ) (t : List ℕ) (o : ℕ) (s : List ℕ) → o + length s ≤ n → n ≤ length t → take n (put t o s) ≡ put (take n t) o s
take_put n t o s h g =
    let f : o + length s ≤ length t = omega arith in
    let short : length (take n t) ≡ n = length-take-le n t g in
    let k : o + length s ≤ length (take n t) = omega arith in
    let whole : length (put t o s) ≡ length t = length-put t o s f in
    let long : length (take n (put t o s)) ≡ n = length-take-le n (put t o s) (omega arith) in
    ext_get_or 0 (take n (put t o s)) (put (take n t) o s) (long ∙ sym (length-put (take n t) o s k ∙ short))
    (λ i l. let m : i < n = omega arith in get_or-take n (put t o s) i 0 m ∙ at f k i m (dec_lt i o) (dec_lt i (o + length s)))
  where
    at : o + length s ≤ length t → o + length s ≤ length (take n t) → (i : ℕ) → i < n → Dec (i < o) → Dec (i < o + length s) → get_or (put t o s) i 0 ≡ get_or (put (take n t) o s) i 0
    at f k i m (yes a) d = get_d-put-before t o s f i a ∙ sym (get_d-put-before (take n t) o s k i a ∙ get_or-take n t i 0 m)
    at f k i m (no a) (yes b) =
        let e : o + (i - o) ≡ i = omega arith in
        subst (λ (j : ℕ). get_or (put t o s) j 0 ≡ get_or (put (take n t) o s) j 0) e
        (get_d-put-in t o s f (i - o) (omega arith) ∙ sym (get_d-put-in (take n t) o s k (i - o) (omega arith)))
    at f k i m (no a) (no b) = get_d-put-after t o s f i (omega arith) ∙ sym (get_d-put-after (take n t) o s k i (omega arith) ∙ get_or-take n t i 0 m)
