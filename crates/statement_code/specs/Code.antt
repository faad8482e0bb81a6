-- The statements that need final sets, as a flat code of 16-bit units: what the parser leaves for the resolver. Operators come before their
-- operands, and an end mark after the last, so that both sides go through it from left to right. Assumes nothing.
use Rattle.std.specs.Prelude.{ℕ, ◌+◌, List, [], ◌∷◌, ◌++◌}
use Rattle.bitset.specs.Relations.{joined}
use Rattle.policy.specs.Basics.{each}
use Rattle.policy.specs.Statements.{Family, users, roles, types, thing_of, attribute_of, Declaration, plain, class, Reference, thing, attribute, SetExpr}
use Rattle.policy.specs.Statements.{name_s, all_s, not_s, and_s, or_s, xor_s, union_s, empty_s, Relation, userrole, roletype, roleallow, Statement, declare}
use Rattle.policy.specs.Statements.{attributeset, gives, roletransition, constrain, validatetrans, Line, Policy}

-- a thing by its number, an attribute by 1024 and its number: no family has more than 512 things and 64 attributes
abbrev pub reference_unit : Reference → ℕ
reference_unit (thing n) = n
reference_unit (attribute a) = 1024 + a

-- the operators of S, from 2048 on, and the end mark
abbrev pub all_unit : ℕ
all_unit = 2048

abbrev pub not_unit : ℕ
not_unit = 2049

abbrev pub and_unit : ℕ
and_unit = 2050

abbrev pub or_unit : ℕ
or_unit = 2051

abbrev pub xor_unit : ℕ
xor_unit = 2052

abbrev pub union_unit : ℕ
union_unit = 2053

abbrev pub end_unit : ℕ
end_unit = 2054

unfoldable mutual
  -- S: a name by itself; an operator, its operands and the end mark
  pub set_code : SetExpr Reference → List ℕ
  set_code (name_s r) = reference_unit r ∷ []
  set_code all_s = all_unit ∷ end_unit ∷ []
  set_code (not_s x) = not_unit ∷ (set_code x ++ (end_unit ∷ []))
  set_code (and_s x y) = and_unit ∷ (set_code x ++ (set_code y ++ (end_unit ∷ [])))
  set_code (or_s x y) = or_unit ∷ (set_code x ++ (set_code y ++ (end_unit ∷ [])))
  set_code (xor_s x y) = xor_unit ∷ (set_code x ++ (set_code y ++ (end_unit ∷ [])))
  set_code (union_s x y) = union_unit ∷ (set_code x ++ row_code y)
  set_code empty_s = union_unit ∷ end_unit ∷ []

  -- the further operands of a union, and its end mark
  pub row_code : SetExpr Reference → List ℕ
  row_code (union_s x y) = set_code x ++ row_code y
  row_code empty_s = end_unit ∷ []
  row_code (name_s r) = reference_unit r ∷ end_unit ∷ []
  row_code all_s = all_unit ∷ end_unit ∷ end_unit ∷ []
  row_code (not_s x) = not_unit ∷ (set_code x ++ (end_unit ∷ end_unit ∷ []))
  row_code (and_s x y) = and_unit ∷ (set_code x ++ (set_code y ++ (end_unit ∷ end_unit ∷ [])))
  row_code (or_s x y) = or_unit ∷ (set_code x ++ (set_code y ++ (end_unit ∷ end_unit ∷ [])))
  row_code (xor_s x y) = xor_unit ∷ (set_code x ++ (set_code y ++ (end_unit ∷ end_unit ∷ [])))

-- the number of a family, for the tags
abbrev pub family_number : Family → ℕ
family_number users = 0
family_number roles = 1
family_number types = 2

abbrev pub relation_number : Relation → ℕ
relation_number userrole = 0
relation_number roletype = 1
relation_number roleallow = 2

-- tags, from 4096 on: an attribute is declared, a set is given to one, a relation is given, a role transition
abbrev pub attribute_tag : Family → ℕ
attribute_tag f = 4096 + family_number f

abbrev pub set_tag : Family → ℕ
set_tag f = 4099 + family_number f

abbrev pub relation_tag : Relation → ℕ
relation_tag k = 4102 + relation_number k

abbrev pub transition_tag : ℕ
transition_tag = 4105

abbrev pub declaration_code : ℕ → Declaration → List ℕ
declaration_code at (plain (thing_of f) w) = []
declaration_code at (plain (attribute_of f) w) = attribute_tag f ∷ at ∷ []
declaration_code at (class w ps) = []

-- tag, place, and what the statement names; nothing for things and classes, nor for what has an E
abbrev pub statement_code : ℕ → Statement → List ℕ
statement_code at (declare d) = declaration_code at d
statement_code at (attributeset f a s) = set_tag f ∷ at ∷ a ∷ set_code s
statement_code at (gives k x y) = relation_tag k ∷ at ∷ reference_unit x ∷ reference_unit y ∷ []
statement_code at (roletransition r t c n) = transition_tag ∷ at ∷ reference_unit r ∷ reference_unit t ∷ c ∷ n ∷ []
statement_code at (constrain c ps e) = []
statement_code at (validatetrans c e) = []

abbrev pub line_code : Line → List ℕ
line_code l = statement_code l.place l.says

-- the code of the statements in text order
unfoldable pub code_of : Policy → List ℕ
code_of p = joined (each line_code p)
