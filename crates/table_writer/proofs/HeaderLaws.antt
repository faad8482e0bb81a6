-- Bytes that are put one after the other are put together; the header is laid so, pair by pair. Assumes nothing.
use mathlib.Core.Path.{◌≡◌, sym, ap, ap₂, subst, ◌∙◌}
use mathlib.Core.List.{List, [], ◌∷◌, ◌++◌, append_assoc}
use Prim.Native.Nat.{ℕ, ◌+◌, ◌-◌, ◌≤◌, ◌<◌}
use native.Mathlib.Omega.{arith}
use lib.ListN.{length, length-append}
use Rattle.byte_slices.specs.Parts.{put}
use Rattle.byte_slices.proofs.PartLaws.{put-none, length-put, put_then}
use Rattle.bitset.specs.Relations.{joined}
use Rattle.policy.specs.Basics.{le}
use Rattle.policy.specs.Encode.{pairs}
use Rattle.table_laws.proofs.LittleEndian.{le-length}
use Rattle.table_writer.specs.PutBytes.{Puts, pair}

-- two writers, the second of which starts where the first ends
pub puts_then : {t u v us vs : List ℕ} {o q : ℕ} → Puts us t o u → Puts vs u q v → q ≡ o + length us → Puts (us ++ vs) t o v
puts_then {t} {u} {v} {us} {vs} {o} {q} f g e = record {
  written = λ h.
      let n = length-append us vs in
      let room : o + length us ≤ length t = omega arith in
      let first : u ≡ put t o us = f.written room in
      let long : length u ≡ length t = ap length first ∙ length-put t o us room in
      put_then t o us vs room first e (g.written (omega arith));
}

pub puts-same : {t u us vs : List ℕ} {o : ℕ} → us ≡ vs → Puts us t o u → Puts vs t o u
puts-same {t} {u} {us} {vs} {o} e f = subst (λ (xs : List ℕ). Puts xs t o u) e f

-- no room
pub no_room : {bytes t : List ℕ} {o : ℕ} → length t < o + length bytes → Puts bytes t o t
no_room h = record { written = λ l. absurd (omega arith) }

pub pair-length : (start end : ℕ) → length (pair start end) ≡ 8
pair-length start end = omega (arith, length-append (le 4 start) (le 4 (end - start)), le-length 4 start, le-length 4 (end - start))

-- the pairs of the bodies from one on
pairs_first : (o e : ℕ) (b : List ℕ) (bs : List (List ℕ)) → e ≡ o + length b → pairs o (b ∷ bs) ≡ pair o e ++ pairs e bs
unfolding pairs
pairs_first o e b bs h =
    let long : length b ≡ e - o = omega arith in
    ap₂ (λ (n m : ℕ). le 4 o ++ (le 4 n ++ pairs m bs)) long (sym h) ∙ sym (append_assoc (le 4 o) (le 4 (e - o)) (pairs e bs))

-- a pair is put, and the pairs of the later bodies after it
pub puts-pair : {t u v : List ℕ} (at o e : ℕ) (b : List ℕ) (bs : List (List ℕ)) → e ≡ o + length b → Puts (pair o e) t at u → Puts (pairs e bs) u (at + 8) v
    → Puts (pairs o (b ∷ bs)) t at v
puts-pair {t} {u} {v} at o e b bs h f g =
    puts-same (sym (pairs_first o e b bs h))
    (puts_then f g (let d : at + 8 ≡ at + length (pair o e) = omega (arith, pair-length o e) in d))

-- the pairs of some bodies, and then those of more
pub pairs-append : (o e : ℕ) (xs ys : List (List ℕ)) → e ≡ o + length (joined xs) → pairs o (xs ++ ys) ≡ pairs o xs ++ pairs e ys
unfolding pairs joined
pairs-append o e [] ys h = ap (λ (n : ℕ). pairs n ys) (omega (arith, h))
pairs-append o e (x ∷ xs) ys h =
    ap (λ (ps : List ℕ). le 4 o ++ (le 4 (length x) ++ ps)) (pairs-append (o + length x) e xs ys (omega (arith, h, length-append x (joined xs))))
    ∙ simp append_assoc

-- no body is left
pub no-pair : {t : List ℕ} {at : ℕ} (e : ℕ) → Puts (pairs e []) t at t
unfolding pairs
no-pair {t} {at} e = record { written = λ h. sym (put-none t at) }
