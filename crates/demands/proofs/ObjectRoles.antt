-- W-201 of every sound table and of the statements. Assumes nothing.
use Prim.Native.Nat.{ℕ}
use mathlib.Core.Path.{◌≡◌, sym, ap, ◌∙◌}
use mathlib.Core.Bool.{Bool, true, cond}
use mathlib.Core.List.{List}
use mathlib.Core.Option.{some}
use Rattle.policy.specs.Words.{object_r}
use Rattle.policy.specs.Meaning.{Context}
use Rattle.policy.specs.Deciding.{answered, refused, Question, Answer, denied, declared_context}
use Rattle.policy.specs.Answer.{given_by}
use Rattle.policy.specs.Image.{Image}
use Rattle.policy.specs.Sound.{image_in}
use Rattle.policy.specs.Questions.{given_in, asked, valid, valid_on, change, decided, change_on}
use Rattle.answer_laws.specs.Granting.{RoleNamed}
use Rattle.answer_laws.specs.Before.{valid_in_before, changed_before}
use Rattle.answer_laws.proofs.ObjectRole.{object-valid, other-valid, answer-before, change-before, denial_of, object-source, object-target, object-source-in, object-target-in}
use Rattle.demands.specs.ObjectRole.{OnTable, ObjectRole}

module _ (t : List ℕ) (i : Image) (sound : image_in t ≡ some i) where
  valid-there : (c : Context) → valid_on t c ≡ valid i c
  unfolding valid_on
  valid-there c = ap (asked (λ i. valid i c)) sound

  change-there : (q : Question) → change_on t q ≡ change i q
  unfolding change_on
  change-there q = ap (decided (λ i. change i q)) sound

  -- the two that 12 comes before
  there-valid : (c : Context) → declared_context i.names c ≡ true → RoleNamed i.names c.role object_r → valid i c ≡ answered true
  unfolding valid
  there-valid c d named = rw (d, object-valid (given_in i) c named)

  there-other : (c : Context) → (RoleNamed i.names c.role object_r → ⊥) → valid i c ≡ valid_in_before i c
  unfolding valid
  there-other c other = ap (λ (b : Bool). cond (declared_context i.names c) (answered b) (refused 12 0)) (other-valid (given_in i) c other)

  denied-there : (q : Question) (n : ℕ) → (change_on t q).verdict ≡ denied n → denial_of (change i q).verdict ≡ n
  denied-there q n e = ap (λ (a : Answer). denial_of a.verdict) (sym (change-there q)) ∙ ap denial_of e

  on-table : OnTable t i
  on-table = record {
    valid = λ c d named. valid-there c ∙ there-valid c d named;
    source = λ q named e. object-source-in i q named (denied-there q 1 e);
    target = λ q named e. object-target-in i q named (denied-there q 2 e);
    other = λ c other. valid-there c ∙ there-other c other ∙ sym (ap (asked (λ i. valid_in_before i c)) sound);
    before = λ no_such q. change-there q ∙ change-before i no_such q ∙ sym (ap (changed_before q) sound);
  }

pub object-role : ObjectRole
object-role = record {
  on-table = on-table;
  by-statements = λ p. record {
    valid = λ c named. object-valid (given_by p) c named;
    source = λ q named e. object-source p q named (ap denial_of e);
    target = λ q named e. object-target p q named (ap denial_of e);
    before = answer-before p;
  };
}
