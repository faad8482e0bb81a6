-- The record at a place among runs of records: in the first run, or in those after it. Assumes nothing.
use Prim.Native.Nat.{ℕ, ◌+◌, ◌-◌, ◌*◌, ◌<◌, ◌≤◌}
use native.Mathlib.Omega.{arith}
use mathlib.Core.Path.{◌≡◌, refl, sym, ◌∙◌}
use mathlib.Core.List.{List, [], ◌∷◌}
use borrow.Author.Tests.{lt-ltb, le-ltb}
use Rattle.policy.specs.Deciding.{answered, refused}
use Rattle.policy.specs.Questions.{Records, records_of, record_from}

module _ (k o n w : ℕ) (rs : List Records) where
  pub run-here : k < n → record_from k o (records_of n w ∷ rs) ≡ answered (record { start = o + k * w; size = w })
  unfolding record_from
  run-here h = rw (lt-ltb k n h)

  pub run_past : n ≤ k → record_from k o (records_of n w ∷ rs) ≡ record_from (k - n) (o + n * w) rs
  unfolding record_from
  run_past h = rw (le-ltb k n h)

-- after the last run there is none
pub no_run : (k o : ℕ) → record_from k o [] ≡ refused 12 0
unfolding record_from
no_run k o = refl

-- nor is there one in a run of none
pub empty-run : (k o w : ℕ) → record_from k o (records_of 0 w ∷ []) ≡ refused 12 0
empty-run k o w = run_past k o 0 w [] (omega arith) ∙ no_run (k - 0) (o + 0 * w)

-- what is in the first of several runs is in that run alone
pub first_run : (k o n w : ℕ) (rs : List Records) → k < n → record_from k o (records_of n w ∷ []) ≡ record_from k o (records_of n w ∷ rs)
first_run k o n w rs h = run-here k o n w [] h ∙ sym (run-here k o n w rs h)
