-- Document 02, W-201: document 01's own rule of a valid context and what was answered by it, so that it can be said what stays as it was. Assumes nothing.
use Rattle.std.specs.Prelude.{ℕ, Bool, ◌&&◌, cond, List}
use Rattle.std.proofs.Math.Option.{Option, none, some}
use Rattle.policy.specs.Basics.{Name}
use Rattle.policy.specs.Statements.{Declaration, Policy, constrains, userrole, roletype}
use Rattle.policy.specs.Meaning.{Context, stands, holds}
use Rattle.policy.specs.Deciding.{Given, Reply, answered, refused, Question, contexts_of, refuses, Answer, unconsulted, first_failing, decide, declared_context}
use Rattle.policy.specs.Deciding.{declared_question, may_become}
use Rattle.policy.specs.Answer.{given_by, names_asked}
use Rattle.policy.specs.Image.{Image}
use Rattle.policy.specs.Sound.{image_in}
use Rattle.policy.specs.Questions.{given_in, entry_names, entry_holds, asked}
use Rattle.answer_laws.specs.Granting.{RoleNamed}

-- no role has the name
abbrev pub NoRoleNamed : List Declaration → Name → Type 0
NoRoleNamed ds w = (r : ℕ) → RoleNamed ds r w → ⊥

-- **Valid context** (user, role, type): "the role is among the user's, the type among the role's"
abbrev pub valid_before : Given → Context → Bool
valid_before g c = g.gives userrole c.user c.role && g.gives roletype c.role c.type

-- **Change**, with contexts valid by that rule
abbrev pub ruled_before : Given → Question → Answer → Answer
ruled_before g q rest = decide (declared_question g.names q) (valid_before g q.source) (valid_before g q.target) (may_become g q) rest

-- what the statements answered
abbrev pub answer_before : Policy → Question → Answer
answer_before p q = ruled_before (given_by p) q
    (first_failing 4 (names_asked q.class q.perm) (λ s. holds (stands p) (contexts_of q) s.body) 0 (constrains p))

-- what an image answered
abbrev pub valid_in_before : Image → Context → Reply Bool
valid_in_before i c = cond (declared_context i.names c) (answered (valid_before (given_in i) c)) (refused 12 0)

abbrev pub change_before : Image → Question → Answer
change_before i q = ruled_before (given_in i) q
    (first_failing 4 (entry_names q.class q.perm) (entry_holds i (contexts_of q)) 0 i.constraints)

-- what the bytes of a table answered
abbrev pub valid_on_before : List ℕ → Context → Reply Bool
valid_on_before t c = asked (λ i. valid_in_before i c) (image_in t)

abbrev pub changed_before : Question → Option Image → Answer
changed_before q none = unconsulted (refuses 11 0)
changed_before q (some i) = change_before i q

abbrev pub change_on_before : List ℕ → Question → Answer
change_on_before t q = changed_before q (image_in t)
