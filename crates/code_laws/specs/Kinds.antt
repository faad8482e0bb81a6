-- What a unit tells a reader that goes through the code from left to right: which S starts with it, which statement has it for a tag. Assumes nothing.
use Rattle.std.specs.Prelude.{ℕ, ◌-◌, ◌≡◌, Bool, true, false, cond, List, [], ◌∷◌, ◌++◌, ltb, eqb}
use Rattle.policy.specs.Statements.{Family, users, roles, types, Reference, thing, attribute, SetExpr, name_s, all_s, not_s, and_s, or_s, xor_s, union_s, empty_s}
use Rattle.policy.specs.Statements.{Relation, userrole, roletype, roleallow}
use Rattle.statement_code.specs.Code.{all_unit, not_unit, and_unit, or_unit, xor_unit, union_unit, end_unit, set_code, row_code, attribute_tag, set_tag, relation_tag, transition_tag}
use Rattle.code_laws.specs.Shape.{IsRow}
use Rattle.statement_code.specs.Numbered.{NumberedR}

-- S that its code tells apart from every other: its numbers are small, and the operands of a union are in a row
abbrev pub Readable : SetExpr Reference → Type 0
Readable (name_s r) = NumberedR r
Readable all_s = Unit {0}
Readable (not_s x) = Readable x
Readable (and_s x y) = Readable x × Readable y
Readable (or_s x y) = Readable x × Readable y
Readable (xor_s x y) = Readable x × Readable y
Readable (union_s x y) = Readable x × IsRow y × Readable y
Readable empty_s = Unit {0}

-- the reference that a unit below 2048 is
abbrev pub reference_of : ℕ → Reference
reference_of u = cond (ltb u 1024) (thing u) (attribute (u - 1024))

-- what a unit begins in the code of S
pub data Kind : Type 0 where
  name_k : Reference → Kind
  all_k not_k and_k or_k xor_k union_k end_k no_k : Kind

abbrev pub kind_of : ℕ → Kind
kind_of u =
    cond (ltb u all_unit) (name_k (reference_of u)) (cond (eqb u all_unit) all_k (cond (eqb u not_unit) not_k (cond (eqb u and_unit) and_k
    (cond (eqb u or_unit) or_k (cond (eqb u xor_unit) xor_k (cond (eqb u union_unit) union_k (cond (eqb u end_unit) end_k no_k)))))))

-- two operands and the end mark
pub record Two (op : SetExpr Reference → SetExpr Reference → SetExpr Reference) (e : SetExpr Reference) (us rest : List ℕ) : Type 0 where
  pub left : SetExpr Reference
  pub right : SetExpr Reference
  pub is : e ≡ op left right
  pub readable : Readable left × Readable right
  pub units : us ≡ set_code left ++ (set_code right ++ (end_unit ∷ rest))

pub record One (e : SetExpr Reference) (us rest : List ℕ) : Type 0 where
  pub operand : SetExpr Reference
  pub is : e ≡ not_s operand
  pub readable : Readable operand
  pub units : us ≡ set_code operand ++ (end_unit ∷ rest)

-- what S is, by the kind of its first unit; us are the units after that one, rest those after S
abbrev pub PartsS : Kind → SetExpr Reference → List ℕ → List ℕ → Type 0
PartsS (name_k r) e us rest = (e ≡ name_s r) × (us ≡ rest)
PartsS all_k e us rest = (e ≡ all_s) × (us ≡ end_unit ∷ rest)
PartsS not_k e us rest = One e us rest
PartsS and_k e us rest = Two and_s e us rest
PartsS or_k e us rest = Two or_s e us rest
PartsS xor_k e us rest = Two xor_s e us rest
PartsS union_k e us rest = IsRow e × (us ≡ row_code e ++ rest)
PartsS end_k e us rest = ⊥
PartsS no_k e us rest = ⊥

abbrev pub StartsS : SetExpr Reference → List ℕ → List ℕ → Type 0
StartsS e rest [] = ⊥
StartsS e rest (u ∷ us) = PartsS (kind_of u) e us rest

-- what a row of operands is, by whether its first unit is the end mark
pub record Operand (y : SetExpr Reference) (us rest : List ℕ) : Type 0 where
  pub first : SetExpr Reference
  pub others : SetExpr Reference
  pub is : y ≡ union_s first others
  pub readable : Readable first × IsRow others × Readable others
  pub units : us ≡ set_code first ++ (row_code others ++ rest)

abbrev pub PartsRow : Bool → SetExpr Reference → ℕ → List ℕ → List ℕ → Type 0
PartsRow true y u us rest = (y ≡ empty_s) × (us ≡ rest)
PartsRow false y u us rest = Operand y (u ∷ us) rest

abbrev pub StartsRow : SetExpr Reference → List ℕ → List ℕ → Type 0
StartsRow y rest [] = ⊥
StartsRow y rest (u ∷ us) = PartsRow (eqb u end_unit) y u us rest

-- what a unit is as a tag
pub data Tag : Type 0 where
  attribute_t set_t : Family → Tag
  relation_t : Relation → Tag
  transition_t no_t : Tag

abbrev pub tag_of : ℕ → Tag
tag_of u =
    cond (eqb u (attribute_tag users)) (attribute_t users) (cond (eqb u (attribute_tag roles)) (attribute_t roles) (cond (eqb u (attribute_tag types)) (attribute_t types)
    (cond (eqb u (set_tag users)) (set_t users) (cond (eqb u (set_tag roles)) (set_t roles) (cond (eqb u (set_tag types)) (set_t types)
    (cond (eqb u (relation_tag userrole)) (relation_t userrole) (cond (eqb u (relation_tag roletype)) (relation_t roletype)
    (cond (eqb u (relation_tag roleallow)) (relation_t roleallow) (cond (eqb u transition_tag) transition_t no_t)))))))))
