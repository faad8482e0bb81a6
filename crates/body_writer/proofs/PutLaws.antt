-- Bytes put into a table: one run after the other, a copy, a single byte, and again over what was put. Assumes nothing.
use mathlib.Core.Path.{◌≡◌, refl, sym, ap, ap₂, ◌∙◌}
use mathlib.Core.List.{List, [], ◌∷◌, ◌++◌}
use Prim.Native.Nat.{ℕ, ◌+◌, ◌%◌, ◌≤◌, ◌<◌}
use native.Mathlib.Nat.{mod-eq_of_lt}
use native.Mathlib.Numerals.{add-one}
use native.Mathlib.Omega.{arith}
use lib.ListN.{length, get_or, take, drop, set, length-append}
use lib.Seq.{length-take-le, take_at, drop-append-add, drop-append_seam, set_split}
use Rattle.bitset.specs.Sets.{member, set_of, copy_of}
use Rattle.byte_slices.specs.Parts.{part, put}
use Rattle.bitset.proofs.SetLaws.{set_of-ext, set_of-member}
use Rattle.byte_slices.proofs.PartLaws.{length_part, small-part, length-put, put-none, put-put}
use Rattle.set_rows.proofs.GrantLaws.{member-take}
use Rattle.body_writer.specs.WrittenBytes.{Appended, Copies}

-- ---- one run after the other

pub appended_then : {a b c : List ℕ} {i j k : ℕ} {us vs : List ℕ} → Appended us a i b j → Appended vs b j c k → Appended (us ++ vs) a i c k
appended_then {a} {b} {c} {i} {j} {k} {us} {vs} g h = record { written = λ l. (both l).0; past = λ l. (both l).1 }
  where
    both : i + length (us ++ vs) ≤ length a → (c ≡ put a i (us ++ vs)) × (k ≡ i + length (us ++ vs))
    both l =
        let n = length-append us vs in
        let r : i + length us ≤ length a = omega arith in
        let p : j ≡ i + length us = g.past r in
        let q : b ≡ put a i us = g.written r in
        let e : length b ≡ length a = ap length q ∙ length-put a i us r in
        let m : j + length vs ≤ length b = omega arith in
        let z : k ≡ j + length vs = h.past m in
        (h.written m ∙ ap₂ (λ (x : List ℕ) (y : ℕ). put x y vs) q p ∙ put-put a i us vs r, omega arith)

-- nothing is written
pub appended-none : (t : List ℕ) (at : ℕ) → Appended [] t at t at
appended-none t at = record { written = λ l. sym (put-none t at); past = λ l. omega arith }

-- ---- a copy

copied-bytes : (src : List ℕ) (len : ℕ) → ((i : ℕ) → get_or src i 0 < 256) → len ≤ length src → set_of len (member src) ≡ take len src
unfolding part
copied-bytes src len small h =
    let long : length (take len src) ≡ len = length-take-le len src h in
    set_of-ext len (member src) (member (take len src)) (λ n l. sym (member-take len src n l))
    ∙ ap (λ (w : ℕ). set_of w (member (take len src))) (sym long)
    ∙ set_of-member (take len src) (small-part src 0 len small)

pub copied : (src : List ℕ) (len : ℕ) (t : List ℕ) (at : ℕ) (u : List ℕ) → ((i : ℕ) → get_or src i 0 < 256) → u ≡ put t at (copy_of (part t at len) src) → Copies src len t at u
unfolding copy_of
copied src len t at u small e = record {
  bytes = λ h l. e ∙ ap (put t at) (ap (λ (w : ℕ). set_of w (member src)) (length_part t at len l) ∙ copied-bytes src len small h);
}

module _ (src : List ℕ) (len : ℕ) (t : List ℕ) (at : ℕ) (u : List ℕ) (h : len ≤ length src) where
  long-take : length (take len src) ≡ len
  long-take = length-take-le len src h

  -- with room, and without
  pub append-all : Copies src len t at u → (r : ℕ) → r ≡ at + len → Appended (take len src) t at u r
  append-all c r e = record { written = λ l. c.bytes h (omega (arith, long-take, l)); past = λ l. omega (arith, long-take, e) }

  pub append-none : length t < at + len → (r : ℕ) → Appended (take len src) t at u r
  append-none n r = record { written = λ l. absurd (omega (arith, long-take, l, n)); past = λ l. absurd (omega (arith, long-take, l, n)) }

-- ---- a byte

module _ (t : List ℕ) (at v : ℕ) (h : v < 256) where
  pub byte-stored : at < length t → Appended (v ∷ []) t at (set t at (v % 256)) (at + 1)
  unfolding put
  byte-stored l = record {
    written = λ m. rw (mod-eq_of_lt h) (set_split t at v l ∙ ap (λ (n : ℕ). take at t ++ (v ∷ drop n t)) (sym (add-one at)));
    past = λ m. refl;
  }

  pub byte-unstored : length t ≤ at → Appended (v ∷ []) t at t at
  byte-unstored l = record { written = λ m. absurd (omega arith); past = λ m. absurd (omega arith) }

-- ---- over what was put

pub put-over : (t : List ℕ) (o : ℕ) (us vs : List ℕ) → o + length us ≤ length t → length vs ≡ length us → put (put t o us) o vs ≡ put t o vs
unfolding put
put-over t o us vs h e =
    let head : length (take o t) ≡ o = length-take-le o t (omega arith) in
    let rest = drop (o + length us) t in
    ap₂ (λ (a b : List ℕ). a ++ (vs ++ b)) (take_at (take o t) (us ++ rest) o head)
    (ap (λ (n : ℕ). drop n (take o t ++ (us ++ rest))) (ap₂ ◌+◌ (sym head) e) ∙ drop-append-add (take o t) (us ++ rest) (length us)
    ∙ drop-append_seam us rest ∙ ap (λ (n : ℕ). drop (o + n) t) (sym e))
