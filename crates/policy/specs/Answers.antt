-- What the enums and structs of src/ stand for: the documents' numbers and values for each of their cases. Assumes nothing.
use Rattle.std.specs.Prelude.{ℕ, Bool, Result, Ok, Err}
use Rattle.byte_slices.specs.declared.Span.{Span}
use Rattle.lexer.specs.declared.ScanFault.{ScanFault}
use Rattle.lexer.specs.Scan.{max_text}
use Rattle.policy.specs.declared.FaultAt as theFaultAt
use Rattle.policy.specs.declared.Family as theFamily
use Rattle.policy.specs.declared.Relation as theRelation
use Rattle.policy.specs.declared.Sides as theSides
use Rattle.policy.specs.declared.Fault as theFault
use Rattle.policy.specs.declared.Refusal as theRefusal
use Rattle.policy.specs.declared.Denial as theDenial
use Rattle.policy.specs.declared.Change.{Change}
use Rattle.policy.specs.Statements.{Family, users, roles, types, Relation, userrole, roletype, roleallow}
use Rattle.policy.specs.Words.{Sides, two_sides, three_sides}
use Rattle.policy.specs.Deciding.{Answer, granted, denied, fails, refuses, unconsulted, Reply, answered, refused}
use Rattle.policy.specs.Outcome.{Refusal, refusal_at, Outcome, accepted, rejected}
use Rattle.policy.specs.Questions.{Part}

abbrev pub family_of : theFamily.Family → Family
family_of theFamily.Family.Users = users
family_of theFamily.Family.Roles = roles
family_of theFamily.Family.Types = types

-- which sides an E may name
abbrev pub sides_of : theSides.Sides → Sides
sides_of theSides.Sides.Two = two_sides
sides_of theSides.Sides.Three = three_sides

-- "`(userrole U R)`, `(roletype R T)`, `(roleallow R R)`"
abbrev pub relation_of : theRelation.Relation → Relation
relation_of theRelation.Relation.UserRole = userrole
relation_of theRelation.Relation.RoleType = roletype
relation_of theRelation.Relation.RoleAllow = roleallow

-- the number of each refusal: "1 text too long" to "10 lent memory too short", then 11 and 12, those of questions
abbrev pub fault_number : theFault.Fault → ℕ
fault_number theFault.Fault.TextTooLong = 1
fault_number theFault.Fault.WrongByte = 2
fault_number theFault.Fault.NoForm = 3
fault_number theFault.Fault.DeclaredAgain = 4
fault_number theFault.Fault.NameUndeclared = 5
fault_number theFault.Fault.MaximumPassed = 6
fault_number theFault.Fault.StackTooSmall = 7
fault_number theFault.Fault.Cycle = 8
fault_number theFault.Fault.Clash = 9
fault_number theFault.Fault.MemoryTooShort = 10
fault_number theFault.Fault.NotSound = 11
fault_number theFault.Fault.NumberUndeclared = 12

-- "1 | text too long | 65,535"; "2 | .. | the byte; first byte of the name; text length if unclosed": the fault of the scan, and its place
abbrev pub placed : ScanFault → theFaultAt.FaultAt
placed ScanFault.TooLong = record { fault = theFault.Fault.TextTooLong; place = max_text }
placed (ScanFault.Wrong p) = record { fault = theFault.Fault.WrongByte; place = p }

-- What an answer stands for. What ends in `_by` is told the number that a refusal (a denial) has; `refusal_in`, and what ends in `_of`, is the same with
-- the documents' numbers of faults and denials.

-- a refusal's number, place and line
abbrev pub refusal_by : {F : Type 0} → (F → ℕ) → theRefusal.Refusal F → Refusal
refusal_by number r = refusal_at (number r.fault) r.place r.line

abbrev pub refusal_in : theRefusal.Refusal theFault.Fault → Refusal
refusal_in r = refusal_by fault_number r

-- accepted with the length, or refused
abbrev pub compiling_by : {F : Type 0} → (F → ℕ) → Result ℕ (theRefusal.Refusal F) → Outcome
compiling_by number (Ok n) = accepted n
compiling_by number (Err r) = rejected (refusal_by number r)

abbrev pub compiling_of : Result ℕ (theRefusal.Refusal theFault.Fault) → Outcome
compiling_of a = compiling_by fault_number a

-- whether a context is valid; 11 and 12 have the place 0
abbrev pub validity_by : {F : Type 0} → (F → ℕ) → Result Bool F → Reply Bool
validity_by number (Ok b) = answered b
validity_by number (Err f) = refused (number f) 0

abbrev pub validity_of : Result Bool theFault.Fault → Reply Bool
validity_of a = validity_by fault_number a

-- "Denials in order: 1 source not valid; 2 target not valid; 3 ..; 4 the first failing constraint, with its number"; W-205: "denials 1 old, 2 new, 5 process
-- not valid, 6 with the first failing statement's number"
abbrev pub denial_number : theDenial.Denial → ℕ
denial_number theDenial.Denial.SourceNotValid = 1
denial_number theDenial.Denial.TargetNotValid = 2
denial_number theDenial.Denial.RoleMayNotChange = 3
denial_number theDenial.Denial.ConstraintFails = 4
denial_number theDenial.Denial.ProcessNotValid = 5
denial_number theDenial.Denial.RelabelFails = 6

-- the number consulted is "0 for denials 1 to 3 and for refusals"
abbrev pub ruling_by : {D : Type 0} → (D → ℕ) → Change D → Answer
ruling_by number (Change.Granted k) = record { verdict = granted; consulted = k }
ruling_by number (Change.Denied d) = unconsulted (denied (number d))
ruling_by number (Change.Failed d i k) = record { verdict = fails (number d) i; consulted = k }

abbrev pub ruling_of : Change theDenial.Denial → Answer
ruling_of c = ruling_by denial_number c

abbrev pub change_by : {D F : Type 0} → (D → ℕ) → (F → ℕ) → Result (Change D) F → Answer
change_by denied_by refused_by (Ok c) = ruling_by denied_by c
change_by denied_by refused_by (Err f) = unconsulted (refuses (refused_by f) 0)

abbrev pub change_of : Result (Change theDenial.Denial) theFault.Fault → Answer
change_of a = change_by denial_number fault_number a

abbrev pub new_role_by : {F : Type 0} → (F → ℕ) → Result ℕ F → Reply ℕ
new_role_by number (Ok r) = answered r
new_role_by number (Err f) = refused (number f) 0

abbrev pub new_role_of : Result ℕ theFault.Fault → Reply ℕ
new_role_of a = new_role_by fault_number a

-- where a name or an entry is in the lent table
abbrev pub place_by : {F : Type 0} → (F → ℕ) → Result Span F → Reply Part
place_by number (Ok s) = answered (record { start = s.start; size = s.length })
place_by number (Err f) = refused (number f) 0

abbrev pub place_of : Result Span theFault.Fault → Reply Part
place_of a = place_by fault_number a
