-- The stack as the bits of a number: what each operation on the number does to the list. The numbers are compared as the code compares them.
-- Assumes nothing.
use Rattle.std.proofs.Common.{◌≡◌, ℕ, zero, suc, ◌+◌, ◌*◌, ◌^◌, ◌<◌, ◌≤◌, Bool, true, false, ltb, List, [], ◌∷◌, length, refl, pow-suc, arith, ltb-false, ltb-true, le-ltb, lt-ltb}
use Rattle.bitset.specs.Sets.{one}
use Rattle.policy.specs.Rows.{not_top, and_top, or_top, top}
use Rattle.constraints.specs.Stack.{code, push}

one-le : (b : Bool) → one b ≤ 1
one-le true = omega arith
one-le false = omega arith

code-pos : (s : List Bool) → 1 ≤ code s
code-pos [] = omega arith
code-pos (b ∷ s) = omega (arith, code-pos s)

-- a stack of n or fewer is below 2 to the n + 1, one of n or more is at least 2 to the n
code_lt : (n : ℕ) (s : List Bool) → length s ≤ n → code s < 2 ^ suc n
code_lt zero [] h = omega arith
code_lt zero (b ∷ s) h = omega arith
code_lt (suc n) [] h = omega (arith, code_lt n [] (omega arith), pow-suc 2 (suc n))
code_lt (suc n) (b ∷ s) h = omega (arith, code_lt n s (omega arith), pow-suc 2 (suc n), one-le b)

code-ge : (n : ℕ) (s : List Bool) → n ≤ length s → 2 ^ n ≤ code s
code-ge zero [] h = omega arith
code-ge zero (b ∷ s) h = omega (arith, code-pos s)
code-ge (suc n) [] h = omega arith
code-ge (suc n) (b ∷ s) h = omega (arith, code-ge n s (omega arith), pow-suc 2 n)

-- the number tells a full stack
full : (s : List Bool) → 32 ≤ code s → 5 ≤ length s
full s h = by (ltb (length s) 5) refl
  where
    by : (t : Bool) → ltb (length s) 5 ≡ t → 5 ≤ length s
    by true e = let l : length s < 5 = ltb-true (length s) 5 e in absurd (omega (arith, code_lt 4 s (omega arith)))
    by false e = ltb-false (length s) 5 e

room : (s : List Bool) → code s < 32 → length s < 5
room s h = by (ltb (length s) 5) refl
  where
    by : (t : Bool) → ltb (length s) 5 ≡ t → length s < 5
    by true e = ltb-true (length s) 5 e
    by false e = absurd (omega (arith, code-ge 5 s (ltb-false (length s) 5 e)))

pub push-full : (b : Bool) (s : List Bool) (n : ℕ) → n ≡ code s → 32 ≤ n → n ≡ code (push b s)
push-full b s n e h = rw (le-ltb (length s) 5 (full s (omega arith))) e

pub push-room : (b : Bool) (s : List Bool) (n : ℕ) → n ≡ code s → n < 32 → one b + 2 * n ≡ code (push b s)
push-room b s n e h = rw (lt-ltb (length s) 5 (room s (omega arith))) (omega arith)

-- an operation that finds too few leaves the stack as it was, and the top of none is false
pub not-none : (s : List Bool) (n : ℕ) → n ≡ code s → n < 2 → n ≡ code (not_top s)
not-none [] n e h = e
not-none (b ∷ s) n e h = absurd (omega (arith, code-pos s))

pub and-few : (s : List Bool) (n : ℕ) → n ≡ code s → n < 4 → n ≡ code (and_top s)
and-few [] n e h = e
and-few (b ∷ []) n e h = e
and-few (b ∷ (d ∷ s)) n e h = absurd (omega (arith, code-pos s))

pub or-few : (s : List Bool) (n : ℕ) → n ≡ code s → n < 4 → n ≡ code (or_top s)
or-few [] n e h = e
or-few (b ∷ []) n e h = e
or-few (b ∷ (d ∷ s)) n e h = absurd (omega (arith, code-pos s))

pub top-none : (s : List Bool) (n : ℕ) → n ≡ code s → n < 2 → false ≡ top s
top-none [] n e h = refl
top-none (b ∷ s) n e h = absurd (omega (arith, code-pos s))
