-- Document 01: "then 8; 9". Assumes nothing.
use Rattle.std.specs.Prelude.{ℕ, ◌≡◌, List, Result, Ok, Err}
use Rattle.policy.specs.declared.Fault.{Fault}
use Rattle.policy.specs.declared.FaultAt.{FaultAt}
use Rattle.policy.specs.Answers.{fault_number}
use Rattle.policy.specs.Statements.{users, roles, types, Policy}
use Rattle.policy.specs.Reading.{Read, policy, refused}
use Rattle.policy.specs.Outcome.{accept}
use Rattle.code_reader.specs.AttributeSets.{final_sets}

-- the faults that are found here, 8 and 9: no other is answered, whatever the code is
abbrev pub IsRefusal : Fault → Type 0
IsRefusal Fault.Cycle = Unit {0}
IsRefusal Fault.Clash = Unit {0}
IsRefusal f = ⊥

-- the policy, or the number of the fault and its place
abbrev pub read_of : Policy → Result (Unit {0}) FaultAt → Read
read_of p (Ok u) = policy p
read_of p (Err f) = refused (fault_number f.fault) f.place

-- every attribute has its final set, and the answer is that of the rules
pub record Resolves (p : Policy) (user_sets role_sets type_sets : List ℕ) (r : Result (Unit {0}) FaultAt) : Type 0 where
  pub user-sets : user_sets ≡ final_sets p users
  pub role-sets : role_sets ≡ final_sets p roles
  pub type-sets : type_sets ≡ final_sets p types
  pub answer : read_of p r ≡ accept p
