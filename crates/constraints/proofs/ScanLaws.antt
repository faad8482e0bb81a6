-- The statements that are left to consult decide as all of them do: the invariant of the loop that looks for the first that fails and
-- counts those that it consults, and one law for each way through a turn. Assumes nothing.
use Rattle.std.proofs.Common.{◌≡◌, ℕ, ◌+◌, Bool, true, false, List, [], ◌∷◌, sym, ap, ◌∙◌, add-zero, add_assoc, zero-add}
use Rattle.policy.specs.Deciding.{Answer, Verdict, granted, fails, first_failing}

-- the answer, where k were consulted before
abbrev since : ℕ → Answer → Answer
since k a = record { verdict = a.verdict; consulted = k + a.consulted }

abbrev answers : Verdict → ℕ → Answer
answers v n = record { verdict = v; consulted = n }

-- n is the denial
module _ {A : Type 0} (n : ℕ) (names holds : A → Bool) where
  -- k were consulted, and xs are left, from number i on
  pub record Left (whole : Answer) (k i : ℕ) (xs : List A) : Type 0 where
    pub decides : since k (first_failing n names holds i xs) ≡ whole

  pub left-all : (xs : List A) → Left (first_failing n names holds 0 xs) 0 0 xs
  left-all xs = let a = first_failing n names holds 0 xs in record { decides = ap (answers a.verdict) (zero-add a.consulted) }

  pub left-none : {whole : Answer} {k i : ℕ} → Left whole k i [] → answers granted k ≡ whole
  unfolding first_failing
  left-none {whole} {k} {i} l = ap (answers granted) (sym (add-zero k)) ∙ l.decides

  -- others are left, and decide alike
  pub left-moved : {whole : Answer} {k i j : ℕ} {xs ys : List A} → Left whole k i xs → first_failing n names holds i xs ≡ first_failing n names holds j ys
      → Left whole k j ys
  left-moved {whole} {k} l e = record { decides = ap (since k) (sym e) ∙ l.decides }

  module _ {whole : Answer} {k i : ℕ} {x : A} {xs : List A} (l : Left whole k i (x ∷ xs)) where
    pub left-skip : names x ≡ false → Left whole k (i + 1) xs
    unfolding first_failing
    left-skip e = record { decides = rw e at l.decides }

    pub left-pass : names x ≡ true → holds x ≡ true → Left whole (k + 1) (i + 1) xs
    unfolding first_failing
    left-pass e h =
        let a = first_failing n names holds (i + 1) xs in
        record { decides = ap (answers a.verdict) (add_assoc k 1 a.consulted) ∙ (rw (e, h) at l.decides) }

    pub left-fail : names x ≡ true → holds x ≡ false → answers (fails n i) (k + 1) ≡ whole
    unfolding first_failing
    left-fail e h = rw (e, h) at l.decides
