-- **Valid context** on a sound table, by what the bytes say. Assumes nothing.
use Prim.Native.Nat.{ℕ}
use mathlib.Core.Path.{◌≡◌, refl, sym, ap, ap₂, ◌∙◌}
use mathlib.Core.Bool.{Bool, true, false, ◌&&◌, ◌||◌, cond}
use mathlib.Core.List.{List}
use Rattle.std.specs.Prelude.{Some, None, Option}
use Rattle.policy.specs.Meaning.{Context}
use Rattle.policy.specs.Deciding.{valid_by, declared_context, answered, refused, Answer, denied, unconsulted}
use Rattle.policy.specs.Questions.{given_in, valid, valid_on}
use Rattle.policy.specs.declared.Denial.{Denial}
use Rattle.policy.specs.Answers.{denial_number}
use Rattle.answer_laws.proofs.FourTests.{FourTests}
use Rattle.table_laws.specs.SoundTable.{Sound}
use Rattle.table_laws.proofs.QuestionLaws.{asked-sound}
use Rattle.policy.specs.declared.NameCounts.{NameCounts}
use Rattle.table_names.specs.declared.SpecialNumbers.{SpecialNumbers}
use Rattle.decisions.specs.TableAnswers.{declares_context, is_given_in, is_valid_by, context_denial, context_denial_by}
use Rattle.decisions.specs.KnownNames.{Knows}
use Rattle.decisions.proofs.SoundLaws.{declares-context, declared-numbers, user-role, role-type}
use Rattle.decisions.proofs.NameLaws.{object-known}

module _ (t : List ℕ) (s : Sound t) {n : NameCounts} {x : Option SpecialNumbers} (known : Knows t n x) where
  pub is-valid-of : (c : Context) → declared_context s.image.names c ≡ true → is_valid_by t x c ≡ valid_by (given_in s.image) c
  unfolding is_valid_by is_given_in valid_by
  is-valid-of c h =
      let d = declared-numbers s.image.names c h in
      ap₂ ◌||◌
      (ap₂ ◌&&◌ (user-role t s c.role c.user d.user) (role-type t s c.type c.role d.role))
      (object-known t s known c.role d.role)

  -- **Valid context**, by what the bytes say
  pub valid-of : (c : Context) → valid_on t c ≡ cond (declares_context n c) (answered (is_valid_by t x c)) (refused 12 0)
  unfolding valid_on valid
  valid-of c =
      asked-sound (λ i. valid i c) t s ∙ by (declared_context s.image.names c) refl
      ∙ ap (λ (b : Bool). cond b (answered (is_valid_by t x c)) (refused 12 0))
      (sym (declares-context t s c) ∙ ap (λ (n : NameCounts). declares_context n c) (sym known.counted.counts))
    where
      by : (b : Bool) → declared_context s.image.names c ≡ b
          → cond b (answered (valid_by (given_in s.image) c)) (refused 12 0) ≡ cond b (answered (is_valid_by t x c)) (refused 12 0)
      by true q = ap answered (sym (is-valid-of c q))
      by false q = refl

-- THE FIRST OF TWO THAT IS NOT VALID

both-valid-of : (a b : Bool) → None ≡ context_denial a b → (a ≡ true) × (b ≡ true)
both-valid-of true true h = (refl, refl)
both-valid-of true false h = cc
both-valid-of false b h = cc

denied-first : (d : Denial) (k : ℕ) (f : Bool → Bool → Bool → Bool → Answer → Answer) → FourTests k f → (a b c : Bool) (rest : Answer)
    → Some d ≡ context_denial a b → unconsulted (denied (denial_number d)) ≡ f true a b c rest
denied-first d k f is true true c rest h = cc
denied-first d k f is true false c rest h =
    let e : d ≡ Denial.TargetNotValid = cc in
    ap {B = Answer} (λ (x : Denial). unconsulted (denied (denial_number x))) e ∙ sym (is.second c rest)
denied-first d k f is false b c rest h =
    let e : d ≡ Denial.SourceNotValid = cc in
    ap {B = Answer} (λ (x : Denial). unconsulted (denied (denial_number x))) e ∙ sym (is.first b c rest)

module _ (t : List ℕ) (x : Option SpecialNumbers) (a b : Context) where
  pub both-valid : None ≡ context_denial_by t x a b → (is_valid_by t x a ≡ true) × (is_valid_by t x b ≡ true)
  both-valid h = both-valid-of (is_valid_by t x a) (is_valid_by t x b) h

  -- their denial is that of a change and of a relabelling, whose tests are in one order
  pub context-denied : (d : Denial) → Some d ≡ context_denial_by t x a b → (k : ℕ) (f : Bool → Bool → Bool → Bool → Answer → Answer) → FourTests k f
      → (c : Bool) (rest : Answer) → unconsulted (denied (denial_number d)) ≡ f true (is_valid_by t x a) (is_valid_by t x b) c rest
  context-denied d h k f is c rest = denied-first d k f is (is_valid_by t x a) (is_valid_by t x b) c rest h
