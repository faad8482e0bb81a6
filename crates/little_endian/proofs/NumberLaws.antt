-- The turns of `number`: the last bytes have been read, and the one before them is read too. A few bytes make a number that fits. Assumes nothing.
use mathlib.Core.Path.{◌≡◌, refl, sym, ap, ◌∙◌, subst}
use mathlib.Core.List.{List, [], ◌∷◌, ◌++◌, append_assoc, append-nil}
use Prim.Native.Nat.{ℕ, zero, suc, ◌+◌, ◌*◌, ◌^◌, ◌≤◌, ◌<◌}
use native.Mathlib.Nat.{lt_of_lt_of_le, pow-le-pow_right}
use native.Mathlib.Omega.{arith}
use lib.ListN.{length, get_or, length-append}
use lib.Seq.{get_or-append-add}
use Rattle.std.specs.List.{push}
use Rattle.policy.specs.Basics.{unle}
use Rattle.policy.proofs.AsNumbers.{Small}

-- the bytes w are those that are left and then some whose number is n
pub record ReadDown (w left : List ℕ) (n : ℕ) : Type 0 where
  pub done : List ℕ
  pub cut : left ++ done ≡ w
  pub number : n ≡ unle done

-- a few bytes make a number that fits
pub unle-fits : (n : ℕ) (w : List ℕ) → Small w → length w ≤ n → unle w < 256 ^ n
unfolding unle
unle-fits zero [] s h = omega arith
unle-fits zero (b ∷ w) s h = absurd (omega arith)
unle-fits (suc n) [] s h = omega (arith, unle-fits n [] s (omega arith))
unle-fits (suc n) (b ∷ w) s h = omega (arith, s 0, unle-fits n w (λ i. s (suc i)) (omega arith))

-- no byte has been read
pub read_none : {w left : List ℕ} → left ≡ w → ReadDown w left 0
unfolding unle
read_none {w} {left} e = record { done = []; cut = append-nil left ∙ e; number = refl }

-- the last of those that are left is read
pub read_more : {w left rest : List ℕ} {n b x : ℕ} → ReadDown w left n → left ≡ push rest b → x ≡ b → ReadDown w rest (256 * n + x)
unfolding unle
read_more {w} {left} {rest} {n} {b} {x} r e f =
    record {
      done = b ∷ r.done;
      cut = sym (append_assoc rest (b ∷ []) r.done) ∙ ap (λ (l : List ℕ). l ++ r.done) (sym e) ∙ r.cut;
      number = omega (arith, r.number, f);
    }

-- the number of the bytes read fits, with one more
pub read-fits : {w left : List ℕ} {n : ℕ} (rest : List ℕ) (b : ℕ) → Small w → length w ≤ 8 → ReadDown w left n → left ≡ push rest b → 256 * n + b < 18446744073709551616
read-fits {w} {left} {n} rest b small short r e =
    let next = read_more r e refl in
    let long : length next.done ≤ 8 = omega (arith, ap length next.cut, length-append rest next.done) in
    omega (arith, next.number, unle-fits 8 next.done (small-end next.done next.cut) long)
  where
    small-end : (ls : List ℕ) → rest ++ ls ≡ w → Small ls
    small-end ls cut i =
        subst (λ (x : ℕ). x < 256) (ap (λ (l : List ℕ). get_or l (length rest + i) 0) (sym cut) ∙ get_or-append-add rest ls i 0) (small (length rest + i))

-- in the end all are read
pub read_all : (w left : List ℕ) {n : ℕ} → Small w → ReadDown w left n → length left ≡ 0 → (n ≡ unle w) × (n < 256 ^ length w)
read_all w [] {n} small r e =
    let all : n ≡ unle w = r.number ∙ ap unle r.cut in
    (all, subst (λ (x : ℕ). x < 256 ^ length w) (sym all) (unle-fits (length w) w small (omega arith)))
read_all w (b ∷ left) small r e = absurd (omega arith)

-- and fits where there is room for more bytes
pub fits_more : (k w n : ℕ) → n < 256 ^ k → k ≤ w → n < 256 ^ w
fits_more k w n h l = lt_of_lt_of_le h (pow-le-pow_right {n = 256} (omega arith) l)
