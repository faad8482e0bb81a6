-- The walk that passes constraints of other classes. Assumes nothing.
use Rattle.std.proofs.Common.{◌≡◌, ℕ, ◌+◌, ◌-◌, ◌*◌, ◌<◌, Bool, List, ◌∷◌, drop, refl, ◌∙◌, arith, ne_eqb}
use Rattle.policy.specs.Encode.{ConstraintRecord}
use Rattle.policy.specs.Sound.{constraint_at}
use Rattle.policy.specs.Deciding.{first_failing}
use Rattle.table_reader.proofs.RecordLaws.{records-step}
use Rattle.constraints.specs.TableConstraints.{constraints_from, constraint_names, Passed}

module _ (t : List ℕ) (s n : ℕ) where
  -- the first of those from a number on
  pub constraints-first : (i : ℕ) → i < n → constraints_from t s n i ≡ constraint_at (drop (s + 10 * i) t) ∷ constraints_from t s n (i + 1)
  constraints-first i l = records-step 10 constraint_at t (s + 10 * i) (s + 10 * (i + 1)) (n - i) (n - (i + 1)) (omega arith) (omega arith)

  module _ (c : ℕ) where
    -- one of another class is passed
    pub passed-one : {i r : ℕ} → Passed t s n c i r → r < n → ((constraint_at (drop (s + 10 * r) t)).class ≡ c → ⊥) → Passed t s n c i (r + 1)
    passed-one {i} {r} p l other = record {
      ahead = omega (arith, p.ahead);
      within = λ h. omega arith;
      decides = λ k holds. p.decides k holds ∙ skipped k holds;
    }
      where
        skipped : (k : ℕ) (holds : ConstraintRecord → Bool)
            → first_failing 4 (constraint_names c k) holds r (constraints_from t s n r) ≡ first_failing 4 (constraint_names c k) holds (r + 1) (constraints_from t s n (r + 1))
        skipped k holds = unfold first_failing in rw (constraints-first r l, ne_eqb _ _ other) refl
