-- The shape of S and of a statement, whether names or numbers are in it: how many units its code has, and that the operands after the first of a
-- union are in a row. Assumes nothing.
use Rattle.std.specs.Prelude.{ℕ, ◌+◌, List, [], ◌∷◌}
use Rattle.policy.specs.Statements.{thing_of, attribute_of, Declaration, plain, class, SetExpr, name_s, all_s, not_s, and_s, or_s, xor_s, union_s, empty_s, StatementOf}
use Rattle.policy.specs.Statements.{declare, attributeset, gives, roletransition, constrain, validatetrans}

module _ {R : Type 0} where
  -- operands one after the other, up to the last
  abbrev pub IsRow : SetExpr R → Type 0
  IsRow (name_s r) = ⊥
  IsRow all_s = ⊥
  IsRow (not_s x) = ⊥
  IsRow (and_s x y) = ⊥
  IsRow (or_s x y) = ⊥
  IsRow (xor_s x y) = ⊥
  IsRow (union_s x y) = Unit {0}
  IsRow empty_s = Unit {0}

  -- "one or more operands (their union)": what is after an operand of a union is a row of operands, as `operand_row` makes it
  abbrev pub Rowed : SetExpr R → Type 0
  Rowed (name_s r) = Unit {0}
  Rowed all_s = Unit {0}
  Rowed (not_s x) = Rowed x
  Rowed (and_s x y) = Rowed x × Rowed y
  Rowed (or_s x y) = Rowed x × Rowed y
  Rowed (xor_s x y) = Rowed x × Rowed y
  Rowed (union_s x y) = Rowed x × IsRow y × Rowed y
  Rowed empty_s = Unit {0}

  -- the units of the code of S: a name is one; an operator and its end mark are two, those of a union counted where its row ends
  unfoldable pub units : SetExpr R → ℕ
  units (name_s r) = 1
  units all_s = 2
  units (not_s x) = units x + 2
  units (and_s x y) = units x + units y + 2
  units (or_s x y) = units x + units y + 2
  units (xor_s x y) = units x + units y + 2
  units (union_s x y) = units x + units y
  units empty_s = 2

  unfoldable pub units_in : List (SetExpr R) → ℕ
  units_in [] = 0
  units_in (x ∷ xs) = units x + units_in xs

abbrev pub declaration_units : Declaration → ℕ
declaration_units (plain (thing_of f) w) = 0
declaration_units (plain (attribute_of f) w) = 2
declaration_units (class w ps) = 0

module _ {R N : Type 0} where
  -- the units of the code of a statement, and that its S is rowed
  abbrev pub statement_units : StatementOf R N → ℕ
  statement_units (declare d) = declaration_units d
  statement_units (attributeset f a s) = units s + 3
  statement_units (gives k x y) = 4
  statement_units (roletransition r t c n) = 6
  statement_units (constrain c ps e) = 0
  statement_units (validatetrans c e) = 0

  abbrev pub StatementRowed : StatementOf R N → Type 0
  StatementRowed (declare d) = Unit {0}
  StatementRowed (attributeset f a s) = Rowed s
  StatementRowed (gives k x y) = Unit {0}
  StatementRowed (roletransition r t c n) = Unit {0}
  StatementRowed (constrain c ps e) = Unit {0}
  StatementRowed (validatetrans c e) = Unit {0}
