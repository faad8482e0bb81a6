-- A change and a relabelling are each decided by four tests in their order, and then by the statements: what follows of every such decision. By cases on the
-- tests. Assumes nothing.
use Prim.Native.Nat.{ℕ}
use mathlib.Core.Path.{◌≡◌, refl, sym, ap, ◌∙◌}
use mathlib.Core.Bool.{Bool, true, false, false≢true}
use Rattle.policy.specs.Deciding.{Verdict, granted, denied, fails, refuses, Answer, unconsulted, decide, decide_relabel}
use Rattle.answer_laws.specs.Longer.{is_denied}

-- a granted verdict is none of the others
abbrev pub is_grant : Verdict → Bool
is_grant granted = true
is_grant (denied n) = false
is_grant (fails m n) = false
is_grant (refuses n at) = false

-- the numbers are declared; then denials 1, 2 and n; then the answer of the statements
pub record FourTests (n : ℕ) (f : Bool → Bool → Bool → Bool → Answer → Answer) : Type 0 where
  pub undeclared : (s t r : Bool) (x : Answer) → f false s t r x ≡ unconsulted (refuses 12 0)
  pub first : (t r : Bool) (x : Answer) → f true false t r x ≡ unconsulted (denied 1)
  pub second : (r : Bool) (x : Answer) → f true true false r x ≡ unconsulted (denied 2)
  pub third : (x : Answer) → f true true true false x ≡ unconsulted (denied n)
  pub passed : (x : Answer) → f true true true true x ≡ x

pub change-tests : FourTests 3 decide
unfolding decide
change-tests = record { undeclared = λ s t r x. refl; first = λ t r x. refl; second = λ r x. refl; third = λ x. refl; passed = λ x. refl }

pub relabel-tests : FourTests 5 decide_relabel
unfolding decide_relabel
relabel-tests = record { undeclared = λ s t r x. refl; first = λ t r x. refl; second = λ r x. refl; third = λ x. refl; passed = λ x. refl }

module _ (n : ℕ) (f : Bool → Bool → Bool → Bool → Answer → Answer) (is : FourTests n f) where
  -- tests that say the same where the numbers are declared decide alike
  pub tests_agree : (d s s' t t' r r' : Bool) (x x' : Answer) → (d ≡ true → (s ≡ s') × (t ≡ t') × (r ≡ r') × (x ≡ x')) → f d s t r x ≡ f d s' t' r' x'
  tests_agree false s s' t t' r r' x x' h = is.undeclared s t r x ∙ sym (is.undeclared s' t' r' x')
  tests_agree true s s' t t' r r' x x' h = let e = h refl in rw (e.0, e.1, e.2, e.3)

  -- what is refused or denied is not granted
  never : {v : Verdict} (a : Answer) → a ≡ unconsulted v → is_grant v ≡ false → a.verdict ≡ granted → ⊥
  never {v} a e other h = false≢true (sym other ∙ ap (λ (b : Answer). is_grant b.verdict) (sym e) ∙ ap is_grant h)

  -- all tests pass where it grants
  pub tests-granted : (d s t r : Bool) (x : Answer) → (f d s t r x).verdict ≡ granted
      → (d ≡ true) × (s ≡ true) × (t ≡ true) × (r ≡ true) × (x.verdict ≡ granted)
  tests-granted false s t r x h = absurd (never _ (is.undeclared s t r x) refl h)
  tests-granted true false t r x h = absurd (never _ (is.first t r x) refl h)
  tests-granted true true false r x h = absurd (never _ (is.second r x) refl h)
  tests-granted true true true false x h = absurd (never _ (is.third x) refl h)
  tests-granted true true true true x h = (refl, refl, refl, refl, ap (λ (a : Answer). a.verdict) (sym (is.passed x)) ∙ h)

  -- where another answer of the statements is the same if it was a denial, so is the decision
  pub tests-longer : (d s t r : Bool) (x y : Answer) → (is_denied x.verdict ≡ true → y ≡ x) → is_denied (f d s t r x).verdict ≡ true → f d s t r y ≡ f d s t r x
  tests-longer false s t r x y g h = is.undeclared s t r y ∙ sym (is.undeclared s t r x)
  tests-longer true false t r x y g h = is.first t r y ∙ sym (is.first t r x)
  tests-longer true true false r x y g h = is.second r y ∙ sym (is.second r x)
  tests-longer true true true false x y g h = is.third y ∙ sym (is.third x)
  tests-longer true true true true x y g h =
      is.passed y ∙ g (ap (λ (a : Answer). is_denied a.verdict) (sym (is.passed x)) ∙ h) ∙ sym (is.passed x)
