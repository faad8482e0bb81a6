-- Document 01, fault 9: "two transitions share a role, a type and the class, new roles differ", on the operands of two transitions in the code.
-- Assumes nothing.
use Rattle.std.specs.Prelude.{ℕ, ◌+◌, ◌≡◌, Bool, not, ◌&&◌, List, ◌++◌, eqb, get_or}
use Rattle.bitset.specs.Sets.{set_of, meets}
use Rattle.policy.specs.Statements.{roles, types, Policy, declarations, Transition, transitions}
use Rattle.policy.specs.Accepted.{ReferenceIn}
use Rattle.statement_code.specs.Code.{reference_unit, code_of}
use Rattle.set_code.specs.Evaluation.{value_of}
use Rattle.code_reader.specs.declared.CodedTransition.{CodedTransition}

-- the references of two units stand for one thing
unfoldable pub shares_of : List ℕ → ℕ → ℕ → Bool
shares_of sets x y = meets (set_of 64 (value_of sets x)) (set_of 64 (value_of sets y))

unfoldable pub clashes_of : List ℕ → List ℕ → CodedTransition → CodedTransition → Bool
clashes_of role_sets type_sets a b =
    eqb a.class b.class && not (eqb a.new b.new) && shares_of role_sets a.roles b.roles && shares_of type_sets a.types b.types

-- the operands of the transition that is at a place of the code
abbrev pub move_at : List ℕ → ℕ → CodedTransition
move_at code at = record { roles = get_or code (at + 2) 0; types = get_or code (at + 3) 0; class = get_or code (at + 4) 0; new = get_or code (at + 5) 0 }

-- these are the operands of a transition that names what the policy declares
pub record Codes (p : Policy) (t : Transition) (m : CodedTransition) : Type 0 where
  pub role : m.roles ≡ reference_unit t.role
  pub type : m.types ≡ reference_unit t.type
  pub class : m.class ≡ t.class
  pub new : m.new ≡ t.new
  pub roles-declared : ReferenceIn (declarations p) roles t.role
  pub types-declared : ReferenceIn (declarations p) types t.type

-- these lines are in the policy, one after the other
pub record Segment (p part : Policy) : Type 0 where
  pub before : Policy
  pub after : Policy
  pub whole : p ≡ before ++ (part ++ after)

-- this is the code of such lines, and all transitions are among them
pub record AllTransitions (p : Policy) (code : List ℕ) : Type 0 where
  pub part : Policy
  pub segment : Segment p part
  pub all : transitions part ≡ transitions p
  pub coded : code ≡ code_of part
