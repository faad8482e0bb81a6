-- Loops that store every byte of a set in turn: each turn stores the byte that the result's rule tells. Assumes nothing.
use mathlib.Core.Path.{◌≡◌, sym, ap, ◌∙◌}
use mathlib.Core.Bool.{Bool, not}
use mathlib.Core.List.{List}
use Prim.Native.Nat.{ℕ, ◌+◌, ◌-◌, ◌*◌, ◌<◌}
use native.Mathlib.Omega.{arith}
use lib.ListN.{length, get_or, set}
use Rattle.bitset.specs.Sets.{bit, member, set_of}
use Rattle.bitset.specs.Complements.{flipped}
use Rattle.bitset.proofs.SetLaws.{length-set_of, member-at, byte-eq}
use Rattle.bitset.proofs.Tests.{bit_not}
use Rattle.bitset.proofs.LoopSteps.{Turned, turned-read, turned_more}

-- a turn stores the byte whose bits the rule tells
pub byte-turn : (f : ℕ → Bool) {d e : List ℕ} {i : ℕ} (v : ℕ) → Turned (set_of (length d) f) d e i → i < length e → v < 256
    → ((k : ℕ) → k < 8 → bit v k ≡ f (8 * i + k)) → Turned (set_of (length d) f) d (set e i v) (i + 1)
byte-turn f {d} {e} {i} v s h l bits =
    turned_more v (length-set_of (length d) f) h s (byte-eq (length d) f i v (omega arith) l bits)

-- the bits of the byte that comes next are still those of the set that was
pub turned_bit : (f : ℕ → Bool) {d e : List ℕ} {i : ℕ} → Turned (set_of (length d) f) d e i → (k : ℕ) → k < 8 → bit (get_or e i 0) k ≡ member d (8 * i + k)
turned_bit f {d} {e} {i} s k l = ap (λ (b : ℕ). bit b k) (turned-read (length-set_of (length d) f) s) ∙ sym (member-at d i k l)

pub flip-turn : (d : List ℕ) {e : List ℕ} {i : ℕ} → Turned (flipped d) d e i → i < length e → get_or e i 0 < 256
    → Turned (flipped d) d (set e i (255 - get_or e i 0)) (i + 1)
unfolding flipped
flip-turn d {e} {i} s h le =
    let f : ℕ → Bool = λ n. not (member d n) in
    byte-turn f (255 - get_or e i 0) s h (omega arith) (λ k l. bit_not (get_or e i 0) k le l ∙ ap not (turned_bit f s k l))
