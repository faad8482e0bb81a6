-- Two views that agree on the numbers by component, and on the sets of the attributes that are declared, give every sound row the same turn: a sound row
-- looks at no other set. Assumes nothing.
use Rattle.std.proofs.Common.{◌≡◌, ℕ, zero, suc, ◌<◌, Bool, true, ◌&&◌, ltb, List, [], ◌∷◌, refl, ap, ◌∙◌, arith, ltb-true, le-ltb, ne_eqb}
use mathlib.Core.Bool.{false≢true}
use Rattle.policy.specs.Statements.{attribute_of, Declaration, count}
use Rattle.policy.specs.Basics.{All}
use Rattle.policy.specs.Rows.{Row, row, View, op_test, run_row, run}
use Rattle.policy.specs.Sound.{of_comp, good_row}
use Rattle.policy.proofs.Lists.{both_true}

abbrev view : (ℕ → ℕ) → (ℕ → ℕ → ℕ → Bool) → View
view f g = record { side = f; inset = g }

-- rows of so many components
module _ (many : ℕ) (ds : List Declaration) (f : ℕ → ℕ) (g h : ℕ → ℕ → ℕ → Bool)
    (agree : (c a n : ℕ) → a < count (attribute_of (of_comp c)) ds → g c a n ≡ h c a n) where
  same_turn : (k c o m : ℕ) (s : List Bool) → good_row many ds (row k c o m) ≡ true → run_row (view f g) (row k c o m) s ≡ run_row (view f h) (row k c o m) s
  same_turn zero c o m s e = refl
  same_turn (suc zero) c o m s e = refl
  same_turn (suc (suc zero)) c o m s e = refl
  same_turn (suc (suc (suc zero))) c o m s e = refl
  same_turn (suc (suc (suc (suc zero)))) c o m s e = refl
  same_turn (suc (suc (suc (suc (suc zero))))) c o m s e =
      ap {B = List Bool} (λ b. op_test o b ∷ s)
      (agree c m (f c) (ltb-true m (count (attribute_of (of_comp c)) ds) (both_true (ltb c many && ltb o 2) (ltb m (count (attribute_of (of_comp c)) ds)) e).1))
  same_turn (suc (suc (suc (suc (suc (suc k)))))) c o m s e =
      let n = suc (suc (suc (suc (suc (suc k))))) in
      absurd (false≢true (rw (le-ltb n 3 (omega arith), ne_eqb n 3 (omega arith), ne_eqb n 4 (omega arith), ne_eqb n 5 (omega arith)) at e))

  pub same-run : (rs : List Row) → All (λ (r : Row). good_row many ds r ≡ true) rs → (s : List Bool) → run (view f g) rs s ≡ run (view f h) rs s
  unfolding run
  same-run [] e s = refl
  same-run (r ∷ rs) e s = ap (run (view f g) rs) (same_turn r.kind r.comp r.op r.num s e.0) ∙ same-run rs e.1 (run_row (view f h) r s)
