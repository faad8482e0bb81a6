-- A set cut at a total: the bytes after the total's own become 0, and that one keeps its low bits. Assumes nothing.
use mathlib.Core.Path.{◌≡◌, sym, ap, ap₂, ◌∙◌}
use mathlib.Core.Bool.{Bool, false, not, ◌&&◌, and-false}
use mathlib.Core.List.{List}
use Prim.Native.Nat.{ℕ, ◌+◌, ◌-◌, ◌*◌, ◌/◌, ◌≤◌, ◌<◌}
use native.Mathlib.Omega.{arith}
use lib.Bits.{bit_and, and_lt}
use lib.Dec.{ltb}
use lib.ListN.{length, get_or, set}
use borrow.Author.Tests.{lt-ltb, le-ltb}
use Rattle.bitset.specs.Sets.{member, set_of, emptied, complement_of, mask_of}
use Rattle.bitset.specs.Complements.{flipped, kept_below}
use Rattle.byte_slices.specs.Parts.{part, put}
use Rattle.bitset.proofs.BitLaws.{bit-and, bit-from_bits, from_bits-lt}
use Rattle.byte_slices.proofs.PartLaws.{length_part}
use Rattle.bitset.proofs.SetParts.{put-set_of}
use Rattle.bitset.proofs.SetLaws.{length-set_of, small-set_of, member-past, member-at, member-set_of-within, set-eq, set_of-member, map-set_of}
use Rattle.bitset.proofs.StoreLaws.{ltb-same, set-byte}

-- what is below the total and not in s
pub complement-kept : (total : ℕ) (s : List ℕ) → kept_below total (flipped s) ≡ complement_of total s
unfolding kept_below flipped complement_of
complement-kept total s = map-set_of (λ n x. ltb n total && x) (length s) (λ n. not (member s n))

module _ (s : List ℕ) (small : (i : ℕ) → get_or s i 0 < 256) where
  -- every byte lies below the total
  pub kept-all : (total : ℕ) → length s ≤ total / 8 → s ≡ kept_below total s
  unfolding kept_below
  kept-all total h = set-eq s (λ n. ltb n total && member s n) small (λ n l. rw (lt-ltb n total (omega arith)))

  -- the bytes from o on become 0
  pub kept-bytes : (o : ℕ) → o ≤ length s → put s o (emptied (part s o (length s - o))) ≡ kept_below (8 * o) s
  unfolding emptied kept_below
  kept-bytes o h =
      ap₂ (λ (t : List ℕ) (w : ℕ). put t o (set_of w (λ n. false))) (sym (set_of-member s small)) (length_part s o (length s - o) (omega arith))
      ∙ put-set_of (length s) o (length s - o) (member s) (λ n. false) (λ n. ltb n (8 * o) && member s n) (omega arith)
      (λ n l. rw (lt-ltb n (8 * o) l))
      (λ n l. rw (le-ltb (8 * o + n) (8 * o) (omega arith)))
      (λ n l. rw (le-ltb n (8 * o) (omega arith)) (sym (member-past s n (omega arith))))

  -- and the last of the others keeps what is below the total
  pub kept_byte : (total : ℕ) → total / 8 < length s
      → set (kept_below (8 * (total / 8 + 1)) s) (total / 8) (bit_and (mask_of total (total / 8)) (get_or (kept_below (8 * (total / 8 + 1)) s) (total / 8) 0)) ≡ kept_below total s
  unfolding kept_below mask_of
  kept_byte total h =
      let w = total / 8 in
      let g : ℕ → Bool = λ n. ltb n (8 * (w + 1)) && member s n in
      let f : ℕ → Bool = λ n. ltb n total && member s n in
      let e = set_of (length s) g in
      let m = mask_of total w in
      let long : length e ≡ length s = length-set_of (length s) g in
      let in_e : (n : ℕ) → member e n ≡ g n
      = λ n. member-set_of-within (length s) g n (λ p. ap (λ (x : Bool). ltb n (8 * (w + 1)) && x) (member-past s n p) ∙ and-false (ltb n (8 * (w + 1)))) in
      set-byte e f w (bit_and m (get_or e w 0)) (small-set_of (length s) g) (omega arith)
      (and_lt 8 m (get_or e w 0) (from_bits-lt 8 (λ k. ltb (8 * w + k) total)) (small-set_of (length s) g w))
      (λ k l. bit-and m (get_or e w 0) k
      ∙ ap₂ ◌&&◌ (bit-from_bits 8 (λ k. ltb (8 * w + k) total) k l)
      (sym (member-at e w k l) ∙ in_e (8 * w + k) ∙ ap (λ (x : Bool). x && member s (8 * w + k)) (lt-ltb (8 * w + k) (8 * (w + 1)) (omega arith))))
      (λ j k ne l. in_e (8 * j + k) ∙ ap (λ (x : Bool). x && member s (8 * j + k)) (ltb-same (8 * j + k) (8 * (w + 1)) (8 * j + k) total (λ q. omega arith) (λ q. omega arith)))
      ∙ ap (λ (v : ℕ). set_of v f) long
