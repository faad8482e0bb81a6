-- The fields of a row, by the words of an expression. Assumes nothing.
use Rattle.std.specs.Prelude as prelude
use Rattle.std.specs.Prelude.{ℕ, ◌≡◌, List, None, Some}
use Rattle.std.proofs.Math.Option.{Option, none, some}
use Rattle.policy.specs.Basics.{Name}
use Rattle.policy.specs.Statements.{Family, Side, Op, Reference, thing, attribute}
use Rattle.policy.specs.Words.{Connective, all_c, not_c, and_c, or_c, xor_c, three_sides, Component, component_of}
use Rattle.policy.specs.Names.{refer, Environment}
use Rattle.policy.specs.Rows.{comp_code, op_code}
use Rattle.words.specs.Numbers.{word_of}
use Rattle.scopes.specs.Symbols.{Symbols}
use Rattle.constraint_writer.specs.declared.Operand.{Operand}

-- "0 not, 1 and, 2 or"
abbrev pub kind_of : Option Connective → prelude.Option ℕ
kind_of none = None
kind_of (some all_c) = None
kind_of (some not_c) = Some 0
kind_of (some and_c) = Some 1
kind_of (some or_c) = Some 2
kind_of (some xor_c) = None

-- "u1 u2 r1 r2 t1 t2 as 0 to 5"; W-205: "u3, r3, t3 as 6, 7, 8"
abbrev pub code_of : Option Component → prelude.Option ℕ
code_of none = None
code_of (some x) = Some (comp_code x.family x.side)

-- "eq neq dom domby incomp as 0 to 4"
abbrev pub operator_of : Option Op → prelude.Option ℕ
operator_of none = None
operator_of (some o) = Some (op_code o)

-- what a side is compared with: "3 two sides, 4 side and thing, 5 side and attribute", and the number of the thing or the attribute
abbrev pub operand_of : Option Component → Option Reference → prelude.Option Operand
operand_of (some y) r = Some (record { kind = 3; number = 0 })
operand_of none none = None
operand_of none (some (thing n)) = Some (record { kind = 4; number = n })
operand_of none (some (attribute n)) = Some (record { kind = 5; number = n })

-- the word, which has the number, is compared with a side of a family: it names a thing or an attribute of that family
pub record Compares (word : Name) (number side : ℕ) (symbols : List ℕ) (r : prelude.Option Operand) : Type 0 where
  pub operand : (env : Environment) (f : Family) (s : Side) → Symbols symbols env → side ≡ comp_code f s
      → r ≡ operand_of (component_of three_sides (word_of number)) (refer env f word)
