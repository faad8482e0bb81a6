-- **Change** on a sound table, by what the bytes say. Assumes nothing.
use Prim.Native.Nat.{ℕ, ◌<◌}
use mathlib.Core.Path.{◌≡◌, refl, sym, ap, ◌∙◌}
use mathlib.Core.Bool.{Bool, true, false, ◌&&◌}
use mathlib.Core.List.{List}
use lib.Dec.{ltb}
use lib.ListN.{length}
use borrow.Author.Tests.{ltb-true}
use Rattle.std.specs.Prelude.{Option}
use Rattle.policy.specs.Statements.{class_names, permissions}
use Rattle.policy.specs.Image.{Image}
use Rattle.policy.specs.Deciding.{may_become, ruled_by, contexts_of, Question, Answer, decide, first_failing, declared_context, declared_question, role_may}
use Rattle.policy.specs.Questions.{entry_names, entry_holds, change, decided, change_on}
use Rattle.policy.proofs.Lists.{both_true}
use Rattle.table_laws.specs.SoundTable.{Sound}
use Rattle.table_laws.proofs.SoundLaws.{sound-read}
use Rattle.policy.specs.declared.NameCounts.{NameCounts}
use Rattle.table_names.specs.declared.SpecialNumbers.{SpecialNumbers}
use Rattle.decisions.specs.TableAnswers.{declares_question, is_valid_by, set_has}
use Rattle.decisions.specs.KnownNames.{Knows}
use Rattle.table_names.specs.TableNames.{asks_role_by}
use Rattle.decisions.proofs.SoundLaws.{declared-numbers, role-role}
use Rattle.decisions.proofs.ContextLaws.{is-valid-of}
use Rattle.decisions.proofs.NameLaws.{declares-question, asks-role-known}

-- what the constraints of the image answer
abbrev pub constraints_say : Image → Question → Answer
constraints_say i q = first_failing 4 (entry_names q.class q.perm) (entry_holds i (contexts_of q)) 0 i.constraints

module _ (t : List ℕ) (s : Sound t) {n : NameCounts} {x : Option SpecialNumbers} (known : Knows t n x) (q : Question) where
  -- the numbers of a declared question
  record Numbers : Type 0 where
    source : declared_context s.image.names q.source ≡ true
    target : declared_context s.image.names q.target ≡ true
    class : q.class < length (class_names s.image.names)
    perm : q.perm < length (permissions s.image.names q.class)

  numbers : declared_question s.image.names q ≡ true → Numbers
  unfolding declared_question
  numbers h =
      let ds = s.image.names in
      let x = declared_context ds q.source in
      let y = declared_context ds q.target in
      let c = ltb q.class (length (class_names ds)) in
      let k = ltb q.perm (length (permissions ds q.class)) in
      let p₁ = both_true (x && y && c) k h in
      let p₂ = both_true (x && y) c p₁.0 in
      let p₃ = both_true x y p₂.0 in
      record {
        source = p₃.0;
        target = p₃.1;
        class = ltb-true q.class (length (class_names ds)) p₂.1;
        perm = ltb-true q.perm (length (permissions ds q.class)) p₁.1;
      }

  -- may the role change
  abbrev role_may_by : Bool
  role_may_by = role_may (asks_role_by t x q.class q.perm) q.source.role q.target.role (set_has t 3 16 q.source.role q.target.role)

  -- what the bytes say of the numbers, of the two contexts, of the role and of the rest
  abbrev said : Answer
  said = decide (declares_question t n q) (is_valid_by t x q.source) (is_valid_by t x q.target) role_may_by (constraints_say s.image q)

  declared : declares_question t n q ≡ declared_question s.image.names q
  declared = ap (λ (n : NameCounts). declares_question t n q) known.counted.counts ∙ declares-question t s q

  pub change-of : change_on t q ≡ said
  unfolding change_on change ruled_by may_become decide
  change-of = ap (decided (λ i. change i q)) (sound-read t s) ∙ by (declared_question s.image.names q) refl
    where
      by : (b : Bool) → declared_question s.image.names q ≡ b → change s.image q ≡ said
      by true e =
          let asked = numbers e in
          let source = declared-numbers s.image.names q.source asked.source in
          sym (rw (
            declared,
            is-valid-of t s known q.source asked.source,
            is-valid-of t s known q.target asked.target,
            asks-role-known t s known q.class q.perm asked.class asked.perm,
            role-role t s q.target.role q.source.role source.role,
          ))
      by false e = rw (declared, e)
