-- Document 01, "Statements" and "How many", and document 02, W-205: the statements as read, and what a list of them declares. Assumes nothing.
use Rattle.std.specs.Prelude.{ℕ, max, ◌+◌, Bool, true, false, ◌&&◌, cond, List, [], eqb, length, get_or}
use Rattle.std.proofs.Math.Option.{Option, none, some}
use Rattle.policy.specs.Basics.{Name, ◌>>=◌, given, gather}

-- users with userattributes; roles with roleattributes; types with typeattributes
pub data Family : Type 0 where
  users roles types : Family

-- a thing or an attribute of a family
pub data Sort : Type 0 where
  thing_of attribute_of : Family → Sort

-- `(user U)` .. `(typeattribute A)`; `(class C (P ...))`
pub data Declaration : Type 0 where
  plain : Sort → Name → Declaration
  class : Name → List Name → Declaration

-- what a place that takes a thing or an attribute names, by its number
pub data Reference : Type 0 where
  thing attribute : ℕ → Reference

-- S: "one or more operands (their union), `(all)`, `(not x)`, `(and x y)`, `(or x y)`, `(xor x y)`. An operand is a name of the family
-- or again such an S". `(x y z)` is read as an operand and those after it, `union_s x (union_s y (union_s z empty_s))`
pub data SetExpr (R : Type 0) : Type 0 where
  name_s : R → SetExpr R
  all_s : SetExpr R
  not_s : SetExpr R → SetExpr R
  and_s or_s xor_s : SetExpr R → SetExpr R → SetExpr R
  union_s : SetExpr R → SetExpr R → SetExpr R
  empty_s : SetExpr R

-- side 1 is the source, 2 the target; W-205: of a relabelling 1 is the old context, 2 the new one, 3 the process that relabels
pub data Side : Type 0 where
  source target process : Side

pub data Op : Type 0 where
  eq neq dom domby incomp : Op

-- E: `(op u1 u2)` and the like; `(op x name)`; `(not E)`, `(and E E)`, `(or E E)`
pub data Constraint (R : Type 0) : Type 0 where
  sides_e : Family → Op → Constraint R
  name_e : Family → Side → Op → R → Constraint R
  not_e : Constraint R → Constraint R
  and_e or_e : Constraint R → Constraint R → Constraint R

-- `(userrole U R)`, `(roletype R T)`, `(roleallow R R)`
pub data Relation : Type 0 where
  userrole roletype roleallow : Relation

abbrev pub from_of : Relation → Family
from_of userrole = users
from_of roletype = roles
from_of roleallow = roles

abbrev pub to_of : Relation → Family
to_of userrole = roles
to_of roletype = types
to_of roleallow = roles

-- a statement: R stands where a thing or an attribute may, N where only one sort may
pub data StatementOf (R N : Type 0) : Type 0 where
  declare : Declaration → StatementOf R N
  attributeset : Family → N → SetExpr R → StatementOf R N
  gives : Relation → R → R → StatementOf R N
  roletransition : R → R → N → N → StatementOf R N
  constrain : N → List N → Constraint R → StatementOf R N
  validatetrans : N → Constraint R → StatementOf R N

-- as it is written, with names; as it is read, with numbers
abbrev pub Written : Type 0
Written = StatementOf Name Name

abbrev pub Statement : Type 0
Statement = StatementOf Reference ℕ

-- a statement and the place of its opening parenthesis
pub record Line : Type 0 where
  pub place : ℕ
  pub says : Statement

-- the statements in text order
abbrev pub Policy : Type 0
Policy = List Line

-- the same family; the same sort
abbrev pub same_family : Family → Family → Bool
same_family users users = true
same_family users roles = false
same_family users types = false
same_family roles users = false
same_family roles roles = true
same_family roles types = false
same_family types users = false
same_family types roles = false
same_family types types = true

abbrev pub same_sort : Sort → Sort → Bool
same_sort (thing_of f) (thing_of g) = same_family f g
same_sort (thing_of f) (attribute_of g) = false
same_sort (attribute_of f) (thing_of g) = false
same_sort (attribute_of f) (attribute_of g) = same_family f g

abbrev pub family_of : Sort → Family
family_of (thing_of f) = f
family_of (attribute_of f) = f

-- what a declaration declares of a sort; of a family; as a class; and its permissions
abbrev pub of_sort : Sort → Declaration → Option Name
of_sort s (plain t w) = cond (same_sort s t) (some w) none
of_sort s (class w ps) = none

abbrev pub of_family : Family → Declaration → Option Name
of_family f (plain t w) = cond (same_family f (family_of t)) (some w) none
of_family f (class w ps) = none

abbrev pub of_class : Declaration → Option Name
of_class (plain t w) = none
of_class (class w ps) = some w

abbrev pub with_permissions : Declaration → Option (List Name)
with_permissions (plain t w) = none
with_permissions (class w ps) = some ps

-- "Things are numbered from 0 in text order within their sort": thing n of a sort is the nth of this list
unfoldable pub names_of : Sort → List Declaration → List Name
names_of s ds = gather (of_sort s) ds

unfoldable pub family_names : Family → List Declaration → List Name
family_names f ds = gather (of_family f) ds

unfoldable pub class_names : List Declaration → List Name
class_names ds = gather of_class ds

-- the permissions of class c, "numbered from 0 in the class"
unfoldable pub permissions : List Declaration → ℕ → List Name
permissions ds c = get_or (gather with_permissions ds) c []

unfoldable pub count : Sort → List Declaration → ℕ
count s ds = length (names_of s ds)

-- A STATEMENT BY ITS KIND: what it says if it is of that kind, else none. Nothing below these projections asks for the kind of a statement

abbrev pub as_declaration : Statement → Option Declaration
as_declaration (declare d) = some d
as_declaration (attributeset f a s) = none
as_declaration (gives k x y) = none
as_declaration (roletransition r t c n) = none
as_declaration (constrain c ps e) = none
as_declaration (validatetrans c e) = none

-- `(userattributeset A S)` and the like
pub record AttributeSet : Type 0 where
  pub family : Family
  pub attribute : ℕ
  pub set : SetExpr Reference

abbrev pub as_set : Statement → Option AttributeSet
as_set (declare d) = none
as_set (attributeset f a s) = some (record { family = f; attribute = a; set = s })
as_set (gives k x y) = none
as_set (roletransition r t c n) = none
as_set (constrain c ps e) = none
as_set (validatetrans c e) = none

-- `(userrole U R)` and the like
pub record Gives : Type 0 where
  pub relation : Relation
  pub from : Reference
  pub to : Reference

abbrev pub as_gives : Statement → Option Gives
as_gives (declare d) = none
as_gives (attributeset f a s) = none
as_gives (gives k x y) = some (record { relation = k; from = x; to = y })
as_gives (roletransition r t c n) = none
as_gives (constrain c ps e) = none
as_gives (validatetrans c e) = none

-- `(roletransition R T C R)`, with the place of its statement
pub record Transition : Type 0 where
  pub place : ℕ
  pub role : Reference
  pub type : Reference
  pub class : ℕ
  pub new : ℕ

abbrev pub as_transition : ℕ → Statement → Option Transition
as_transition at (declare d) = none
as_transition at (attributeset f a s) = none
as_transition at (gives k x y) = none
as_transition at (roletransition r t c n) = some (record { place = at; role = r; type = t; class = c; new = n })
as_transition at (constrain c ps e) = none
as_transition at (validatetrans c e) = none

-- `(constrain (C (P ...)) E)`
pub record Constrain : Type 0 where
  pub class : ℕ
  pub perms : List ℕ
  pub body : Constraint Reference

abbrev pub as_constrain : Statement → Option Constrain
as_constrain (declare d) = none
as_constrain (attributeset f a s) = none
as_constrain (gives k x y) = none
as_constrain (roletransition r t c n) = none
as_constrain (constrain c ps e) = some (record { class = c; perms = ps; body = e })
as_constrain (validatetrans c e) = none

-- W-205: `(validatetrans C E)`
pub record Relabel : Type 0 where
  pub class : ℕ
  pub body : Constraint Reference

abbrev pub as_relabel : Statement → Option Relabel
as_relabel (declare d) = none
as_relabel (attributeset f a s) = none
as_relabel (gives k x y) = none
as_relabel (roletransition r t c n) = none
as_relabel (constrain c ps e) = none
as_relabel (validatetrans c e) = some (record { class = c; body = e })

-- what a policy declares
abbrev pub declared : Line → Option Declaration
declared l = as_declaration l.says

unfoldable pub declarations : Policy → List Declaration
declarations p = gather declared p

-- the S of the statements for attribute a of the family f
abbrev pub set_for : Family → ℕ → Line → Option (SetExpr Reference)
set_for f a l = as_set l.says >>= λ x. given (same_family f x.family && eqb a x.attribute) x.set

unfoldable pub sets_for : Family → ℕ → Policy → List (SetExpr Reference)
sets_for f a p = gather (set_for f a) p

-- the transitions in text order
abbrev pub transition : Line → Option Transition
transition l = as_transition l.place l.says

unfoldable pub transitions : Policy → List Transition
transitions p = gather transition p

-- the constrains in text order: "its number is its place among all constrains, from 0"
abbrev pub constrained : Line → Option Constrain
constrained l = as_constrain l.says

unfoldable pub constrains : Policy → List Constrain
constrains p = gather constrained p

abbrev pub constrain_body : Constrain → Constraint Reference
constrain_body c = c.body

-- W-205: the validatetrans statements in text order: the number of one is its place among them, from 0
abbrev pub relabelled : Line → Option Relabel
relabelled l = as_relabel l.says

unfoldable pub relabels : Policy → List Relabel
relabels p = gather relabelled p

abbrev pub relabel_body : Relabel → Constraint Reference
relabel_body c = c.body

-- "one per operator and comparison"
unfoldable pub size : {R : Type 0} → Constraint R → ℕ
size (sides_e f o) = 1
size (name_e f s o r) = 1
size (not_e a) = size a + 1
size (and_e a b) = size a + size b + 1
size (or_e a b) = size a + size b + 1

-- "Stack need of E: a comparison 1; `not E` that of E; `and`/`or` of E and F the larger of need(E) and 1 + need(F)"
unfoldable pub need : {R : Type 0} → Constraint R → ℕ
need (sides_e f o) = 1
need (name_e f s o r) = 1
need (not_e a) = need a
need (and_e a b) = max (need a) (1 + need b)
need (or_e a b) = max (need a) (1 + need b)
