-- DOCUMENT 02, W-201, in its words: of every sound table, whoever wrote it, and of the statements. Assumes nothing.
use Rattle.std.specs.Prelude.{ℕ, ◌≡◌, true, List}
use Rattle.std.proofs.Math.Option.{some}
use Rattle.lexer.specs.Spell.{bytes}
use Rattle.policy.specs.Statements.{Policy, declarations}
use Rattle.policy.specs.Meaning.{Context}
use Rattle.policy.specs.Deciding.{valid_by, answered, Question, denied, declared_context}
use Rattle.policy.specs.Answer.{given_by, answer}
use Rattle.policy.specs.Image.{Image}
use Rattle.policy.specs.Sound.{image_in}
use Rattle.policy.specs.Questions.{valid_on, change_on}
use Rattle.answer_laws.specs.Granting.{RoleNamed}
use Rattle.answer_laws.specs.Before.{NoRoleNamed, answer_before, valid_on_before, change_on_before}

-- of a sound table, one that has an image
pub record OnTable (t : List ℕ) (i : Image) : Type 0 where
  -- "a context whose role is named `object_r` is valid with any declared user and any declared type"
  pub valid : (c : Context) → declared_context i.names c ≡ true → RoleNamed i.names c.role (bytes "object_r") → valid_on t c ≡ answered true
  -- "Denials 1 and 2 .. follow this"
  pub source : (q : Question) → RoleNamed i.names q.source.role (bytes "object_r") → (change_on t q).verdict ≡ denied 1 → ⊥
  pub target : (q : Question) → RoleNamed i.names q.target.role (bytes "object_r") → (change_on t q).verdict ≡ denied 2 → ⊥
  -- a role of another name is valid as it was before, and a table without a role of that name answers as it did
  pub other : (c : Context) → (RoleNamed i.names c.role (bytes "object_r") → ⊥) → valid_on t c ≡ valid_on_before t c
  pub before : NoRoleNamed i.names (bytes "object_r") → (q : Question) → change_on t q ≡ change_on_before t q

-- of the statements
pub record ByStatements (p : Policy) : Type 0 where
  pub valid : (c : Context) → RoleNamed (declarations p) c.role (bytes "object_r") → valid_by (given_by p) c ≡ true
  pub source : (q : Question) → RoleNamed (declarations p) q.source.role (bytes "object_r") → (answer p q).verdict ≡ denied 1 → ⊥
  pub target : (q : Question) → RoleNamed (declarations p) q.target.role (bytes "object_r") → (answer p q).verdict ≡ denied 2 → ⊥
  pub before : NoRoleNamed (declarations p) (bytes "object_r") → (q : Question) → answer p q ≡ answer_before p q

pub record ObjectRole : Type 0 where
  pub on-table : (t : List ℕ) (i : Image) → image_in t ≡ some i → OnTable t i
  pub by-statements : (p : Policy) → ByStatements p
