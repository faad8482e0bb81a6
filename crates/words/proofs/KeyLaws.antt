-- A word has the number that its length and its two numbers say, since no two words of bytes have the same. Assumes nothing.
use mathlib.Core.Path.{◌≡◌, refl, sym, ap, ap₂, ◌∙◌}
use mathlib.Core.Bool.{Bool, true, false, ◌&&◌, cond}
use mathlib.Core.List.{List, [], ◌∷◌}
use Prim.Native.Nat.{ℕ, zero, suc, ◌+◌, ◌≤◌}
use native.Mathlib.Omega.{arith}
use borrow.Author.Tests.{eqb-true, eq-eqb, ltb-true}
use lib.Dec.{eqb, ltb}
use lib.ListN.{length, take, drop, length-drop, drop_of_length-le}
use lib.Seq.{take_all}
use Rattle.policy.specs.Basics.{Name, same, every, unle}
use Rattle.policy.specs.Words.{reserved}
use Rattle.policy.proofs.Lists.{both_true, same-is}
use Rattle.policy.proofs.AsNumbers.{Small, alike}
use Rattle.words.specs.Numbers.{keywords, words, number_in, number_of}
use Rattle.words.specs.Keys.{number_among, number_by}

small : (w : Name) → every (λ b. ltb b 256) w ≡ true → Small w
unfolding every
small [] e i = omega arith
small (x ∷ w) e zero = ltb-true x 256 (both_true (ltb x 256) (every (λ b. ltb b 256) w) e).0
small (x ∷ w) e (suc i) = small w (both_true (ltb x 256) (every (λ b. ltb b 256) w) e).1 i

-- the test of the length and the two numbers
abbrev keyed : Name → Name → Bool
keyed w x = eqb (length w) (length x) && (eqb (unle (drop 8 w)) (unle (drop 8 x)) && eqb (unle (take 8 w)) (unle (take 8 x)))

keyed-self : (w : Name) → keyed w w ≡ true
keyed-self w = rw (eq-eqb (length w) (length w) refl, eq-eqb (unle (drop 8 w)) (unle (drop 8 w)) refl, eq-eqb (unle (take 8 w)) (unle (take 8 w)) refl)

same-keyed : (w x : Name) → Small w → Small x → same w x ≡ keyed w x
same-keyed w x s t = go (same w x) (keyed w x) refl refl
  where
    go : (p q : Bool) → same w x ≡ p → keyed w x ≡ q → p ≡ q
    go true true e f = refl
    go false false e f = refl
    go true false e f = sym (keyed-self w) ∙ ap (keyed w) (same-is w x e) ∙ f
    go false true e f =
        let a = both_true (eqb (length w) (length x)) _ f in
        let b = both_true (eqb (unle (drop 8 w)) (unle (drop 8 x))) _ a.1 in
        sym e ∙ alike 8 w x s t (eqb-true _ _ a.0) (eqb-true _ _ b.1) (eqb-true _ _ b.0)

-- so the number among some words of bytes is the same
among : (xs : List Name) (w : Name) (n : ℕ) → Small w → every (every (λ b. ltb b 256)) xs ≡ true
    → number_among xs (length w) (unle (take 8 w)) (unle (drop 8 w)) n ≡ number_in xs w n
unfolding every number_in number_among
among [] w n s e = refl
among (x ∷ xs) w n s e =
    let b = both_true (every (λ b. ltb b 256) x) (every (every (λ b. ltb b 256)) xs) e in
    rw (← same-keyed w x s (small x b.0)) (go (same w x) (among xs w (n + 1) s b.1))
  where
    go : (q : Bool) → number_among xs (length w) (unle (take 8 w)) (unle (drop 8 w)) (n + 1) ≡ number_in xs w (n + 1)
        → cond q n (number_among xs (length w) (unle (take 8 w)) (unle (drop 8 w)) (n + 1)) ≡ elim q [ true ↦ n | false ↦ number_in xs w (n + 1) ]
    go true i = refl
    go false i = i

pub by-keys : (w : Name) → Small w → number_by (length w) (unle (take 8 w)) (unle (drop 8 w)) ≡ number_of w
unfolding every reserved keywords words number_of number_by
by-keys w s = among words w 1 s refl

-- a word of at most eight letters
pub short : (w : Name) (n low : ℕ) → length w ≡ n → n ≤ 8 → Small w → low ≡ unle (take n w) → number_by n low 0 ≡ number_of w
unfolding unle
short w n low l h s e =
    let all : unle (take n w) ≡ unle (take 8 w) = ap unle (take_all n w (omega arith) ∙ sym (take_all 8 w (omega arith))) in
    let none : unle (drop 8 w) ≡ 0 = ap unle (drop_of_length-le w {i = 8} (omega arith)) in
    ap (λ (k : ℕ). number_by k low 0) (sym l) ∙ ap₂ (number_by (length w)) (e ∙ all) (sym none) ∙ by-keys w s

-- a word of eight letters and n after them
pub long : (w : Name) (n low high : ℕ) → length w ≡ 8 + n → Small w → low ≡ unle (take 8 w) → high ≡ unle (take n (drop 8 w))
    → number_by (8 + n) low high ≡ number_of w
long w n low high l s e f =
    let all : take n (drop 8 w) ≡ drop 8 w = take_all n (drop 8 w) (omega (arith, length-drop 8 w)) in
    ap (λ (k : ℕ). number_by k low high) (sym l) ∙ ap₂ (number_by (length w)) e (f ∙ ap unle all) ∙ by-keys w s
