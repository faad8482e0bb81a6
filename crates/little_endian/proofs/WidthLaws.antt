-- Numbers in bytes, lowest first, one law over the width for each way: a number in j + k bytes is read, and put, as one in j bytes and one in the k after
-- them. Bytes past the end read 0. Assumes nothing.
use mathlib.Core.Path.{◌≡◌, refl, sym, ap, ◌∙◌}
use mathlib.Core.List.{List, [], ◌∷◌, ◌++◌}
use Prim.Native.Nat.{ℕ, zero, suc, ◌+◌, ◌*◌, ◌/◌, ◌%◌, ◌^◌, ◌≤◌}
use native.Mathlib.Nat.{zero-add, suc-add, mul_assoc, pow-suc, mul_comm, div-one, div-div-eq-div-mul}
use native.Mathlib.Omega.{arith}
use lib.ListN.{length, get_or, take, drop, drop_of_length-le}
use lib.Seq.{take-nil, drop-drop}
use Rattle.byte_slices.specs.Parts.{put}
use Rattle.policy.specs.Basics.{le, unle}
use Rattle.table_laws.proofs.LittleEndian.{le-length}
use Rattle.byte_slices.proofs.PartLaws.{put-put}

-- ---- read

pow-next : (j : ℕ) → 256 ^ suc j ≡ 256 * 256 ^ j
pow-next j = pow-suc 256 j ∙ mul_comm (256 ^ j) 256

digit : (b u v p q : ℕ) → q ≡ 256 * p → b + 256 * (u + p * v) ≡ b + 256 * u + q * v
digit b u v p q e = rw (e, mul_assoc 256 p v) (omega arith)

split : (j k : ℕ) (t : List ℕ) → unle (take (j + k) t) ≡ unle (take j t) + 256 ^ j * unle (take k (drop j t))
unfolding unle
split zero k t = rw zero-add (omega arith)
split (suc j) k [] = rw (take-nil, take-nil) (omega arith)
split (suc j) k (b ∷ t) =
    rw (suc-add j k, split j k t) (digit b (unle (take j t)) (unle (take k (drop j t))) (256 ^ j) (256 ^ suc j) (pow-next j))

pub unle-split : (j k at : ℕ) (t : List ℕ) → unle (take (j + k) (drop at t)) ≡ unle (take j (drop at t)) + 256 ^ j * unle (take k (drop (at + j) t))
unle-split j k at t = split j k (drop at t) ∙ ap (λ (l : List ℕ). unle (take j (drop at t)) + 256 ^ j * unle (take k l)) (drop-drop j at t)

pub unle-byte : (at : ℕ) (t : List ℕ) → unle (take 1 (drop at t)) ≡ get_or t at 0
unfolding unle
unle-byte zero [] = refl
unle-byte (suc at) [] = refl
unle-byte zero (b ∷ t) = omega arith
unle-byte (suc at) (b ∷ t) = unle-byte at t

pub unle-two : (at : ℕ) (t : List ℕ) → unle (take 2 (drop at t)) ≡ get_or t at 0 + 256 * get_or t (at + 1) 0
unle-two at t = omega (arith, unle-split 1 1 at t, unle-byte at t, unle-byte (at + 1) t)

pub unle-past : (w at : ℕ) (t : List ℕ) → length t ≤ at → unle (take w (drop at t)) ≡ 0
unfolding unle
unle-past w at t h = rw (drop_of_length-le t h, take-nil w)

-- ---- put

pub le_split : (j k n : ℕ) → le (j + k) n ≡ le j n ++ le k (n / 256 ^ j)
unfolding le
le_split zero k n = rw (zero-add, div-one)
le_split (suc j) k n =
    rw (suc-add j k, le_split j k (n / 256))
    (ap (λ (m : ℕ). n % 256 ∷ (le j (n / 256) ++ le k m)) (div-div-eq-div-mul n 256 (256 ^ j) ∙ ap (λ (p : ℕ). n / p) (sym (pow-next j))))

pub put-halves : (j k n m at : ℕ) (t : List ℕ) → at + j ≤ length t → m ≡ n / 256 ^ j → put (put t at (le j n)) (at + j) (le k m) ≡ put t at (le (j + k) n)
put-halves j k n m at t h e =
    let long = le-length j n in
    ap (λ (i : ℕ). put (put t at (le j n)) (at + i) (le k m)) (sym long) ∙ put-put t at (le j n) (le k m) (omega arith)
    ∙ ap (put t at) (ap (λ (i : ℕ). le j n ++ le k i) e ∙ sym (le_split j k n))
