-- Where the reading of a text is at a place: what was read so far, and what is left of the row at hand and of the rows around it. Assumes nothing.
use Rattle.std.specs.Prelude.{ℕ, ◌+◌, ◌-◌, ◌*◌, ◌≤◌, ◌≡◌, true, List, [], ◌∷◌, ◌++◌, length}
use Rattle.lexer.specs.Scan.{max_text, max_level}
use Rattle.lexer.specs.Forms.{Forms, Frames, out, frames_at, forms_of, trim, closes, balanced, names_good}
use Rattle.policy.specs.Basics.{Name}
use Rattle.policy.specs.Statements.{Policy}
use Rattle.policy.specs.Grammar.{parts_alone}
use Rattle.policy.specs.Scopes.{Scoped, scoped_in, blocks_in}
use Rattle.policy.specs.Reading.{Read, read_from, read_all}
use Rattle.statement_code.specs.Code.{code_of}
use Rattle.code_laws.specs.Weight.{weight}
use Rattle.statement_reader.specs.Memory.{Memory, Holds}
use Rattle.statement_reader.specs.declared.Progress.{Progress}
use Rattle.block_reader.specs.Within.{Within}
use Rattle.block_reader.specs.declared.OpenBlocks.{OpenBlocks}

-- what is left to read, in the blocks of a path
abbrev pub resumed : List Name → Frames → List Scoped
resumed [] r = scoped_in [] r.here
resumed (b ∷ path) r = scoped_in (b ∷ path) r.here ++ resumed path (out r)

-- the rows that are left have parts alone, the text's own row ends with the text and the others are closed, their words are names, and no part lies too deep
pub record RowWhole (row : Forms) (levels : ℕ) : Type 0 where
  pub parts : parts_alone row ≡ true
  pub shut : closes row ≡ true
  pub names : names_good row ≡ true
  pub deep : trim row levels ≡ row

abbrev pub RowsWhole : List Name → Frames → Type 0
RowsWhole [] r = (balanced r.here ≡ true) × (names_good r.here ≡ true) × (trim r.here max_level ≡ r.here)
RowsWhole (b ∷ path) r = RowWhole r.here (max_level - length (b ∷ path)) × RowsWhole path (out r)

-- what is read of the whole text
abbrev pub whole : List ℕ → Read
whole t = read_all (scoped_in [] (forms_of t))

-- the tokens of the rows that are left to read in the blocks of a path
abbrev pub weight_in : List Name → Frames → ℕ
weight_in [] r = weight r.here
weight_in (b ∷ path) r = weight r.here + weight_in path (out r)

-- where the reading stands: the statements so far are in the memory, in the blocks of a path; the parts so far, with those that are left, are those of the text;
-- there is room for the code of what is left; and each block so far took up eight bytes, but for the closing parenthesis of those that are open
pub record Stands (t : List ℕ) (at : ℕ) (lent now : Memory) (keys filter : List ℕ) (s : Progress) (o : OpenBlocks) (sofar : Policy) (path : List Name) (before : List Scoped)
    : Type 0 where
  pub holds : Holds sofar path lent now s
  pub within : Within t keys filter now.symbols path (blocks_in before) o
  pub left : whole t ≡ read_from before (resumed path (frames_at t at)) sofar
  pub rows : RowsWhole path (frames_at t at)
  pub room : length (code_of sofar) + weight_in path (frames_at t at) ≤ max_text
  pub few : 8 * o.count ≤ at + length path

pub record Rest (t : List ℕ) (at : ℕ) (lent now : Memory) (keys filter : List ℕ) (s : Progress) (o : OpenBlocks) : Type 0 where
  pub sofar : Policy
  pub path : List Name
  pub before : List Scoped
  pub stands : Stands t at lent now keys filter s o sofar path before
