-- Document 01, **Change**, and document 02, W-205: what the statements answer. No table, rows or stack. Assumes nothing.
use Rattle.std.specs.Prelude.{ℕ, Bool, ◌&&◌, eqb}
use Rattle.policy.specs.Basics.{is_among}
use Rattle.policy.specs.Statements.{Policy, declarations, Constrain, constrains, relabels}
use Rattle.policy.specs.Meaning.{stands, related, holds}
use Rattle.policy.specs.Deciding.{Given, Question, contexts_of, Relabelling, relabel_contexts, Answer, first_failing, ruled_by, ruled_relabel}

-- what the statements give: the names they declare, and "What all such lines together give"
abbrev pub given_by : Policy → Given
given_by p = record { names = declarations p; gives = related p }

-- "A constrain names what is asked if its C is the class and the permission is among its P"
abbrev pub names_asked : ℕ → ℕ → Constrain → Bool
names_asked c k s = eqb s.class c && is_among k s.perms

-- what the statements answer
unfoldable pub answer : Policy → Question → Answer
answer p q = ruled_by (given_by p) q
    (first_failing 4 (names_asked q.class q.perm) (λ s. holds (stands p) (contexts_of q) s.body) 0 (constrains p))

-- W-205: "6 with the first failing statement's number, else granted"
unfoldable pub relabel_answer : Policy → Relabelling → Answer
relabel_answer p q = ruled_relabel (given_by p) q
    (first_failing 6 (λ s. eqb s.class q.class) (λ s. holds (stands p) (relabel_contexts q) s.body) 0 (relabels p))
