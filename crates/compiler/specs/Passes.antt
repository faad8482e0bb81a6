-- What each pass leaves for the next. Assumes nothing.
use Rattle.std.specs.Prelude.{◌≡◌, List, [], ℕ, length, Result, Ok, Err}
use Rattle.lexer.specs.Scan.{scan, no_fault}
use Rattle.policy.specs.declared.FaultAt.{FaultAt}
use Rattle.policy.specs.Answers.{fault_number}
use Rattle.policy.specs.Statements.{types, Policy}
use Rattle.policy.specs.Meaning.{count_in}
use Rattle.policy.specs.Reading.{Read, policy, refused}
use Rattle.policy.specs.Accepted.{Accepted}
use Rattle.policy.specs.Image.{image_of}
use Rattle.policy.specs.Encode.{encode, newest}
use Rattle.policy.specs.Outcome.{of_text, accept, Compiled, compiles, refuses, fitted, compiled, after_of}
use Rattle.statement_code.specs.Code.{code_of}
use Rattle.statement_reader.specs.declared.Progress.{Progress}
use Rattle.statement_reader.specs.Memory.{Memory, memory, Holds}
use Rattle.table_writer.specs.declared.Sizes.{Sizes}
use Rattle.table_writer.specs.TableSizes.{SizesOf}
use Rattle.table_writer.specs.TableBodies.{Sources, Copied}

-- the passes answer what compiling gives: the table's length, or a fault by its number and place
abbrev pub Answers : Compiled → Result ℕ FaultAt → Type 0
Answers (compiles i) (Ok n) = n ≡ length (encode newest i)
Answers (compiles i) (Err f) = ⊥
Answers (refuses n at) (Ok m) = ⊥
Answers (refuses n at) (Err f) = (fault_number f.fault ≡ n) × (f.place ≡ at)

-- the answer and the lent memory are those of what compiling gives: "On refusal the lent memory is unchanged. On success bytes past the table are unchanged"
pub record Gives (c : Compiled) (before after : List ℕ) (r : Result ℕ FaultAt) : Type 0 where
  pub answer : Answers c r
  pub memory : after ≡ after_of c before

-- what is read and passes 8 and 9 is fitted into the lent memory: "10"
abbrev pub compiled_by : Read → ℕ → Compiled
compiled_by r lent = elim r [ refused n at ↦ refuses n at | policy p ↦ fitted lent (image_of p) ]

-- the sizes are those of the table of what was read
pub record Measures (progress : Progress) (symbols : List ℕ) (r : Sizes) : Type 0 where
  pub says : (p : Policy) (lent now : Memory) → now.symbols ≡ symbols → Holds p [] lent now progress → SizesOf p r

-- "lent table memory shorter than the table", or the table
pub record Fits (s : Sizes) (symbols code constraints rows user_sets role_sets type_sets before after : List ℕ) (r : Result ℕ FaultAt) : Type 0 where
  pub says : (p : Policy) → Sources p code user_sets role_sets type_sets → SizesOf p s → Copied p s symbols constraints rows
      → Gives (fitted (length before) (image_of p)) before after r

-- "then 8; 9; 10", of the statements whose code is given
pub record ResolvesAndWrites (s : Sizes) (total : ℕ) (symbols code constraints rows before after : List ℕ) (r : Result ℕ FaultAt) : Type 0 where
  pub says : (p : Policy) → Accepted p → code ≡ code_of p → SizesOf p s → total ≡ count_in p types
      → Copied p s symbols constraints rows → Gives (compiled_by (accept p) (length before)) before after r

-- the same of what the parser left
pub record CompilesStatements (progress : Progress) (symbols code constraints rows before after : List ℕ) (r : Result ℕ FaultAt) : Type 0 where
  pub says : (p : Policy) (lent : Memory) → Holds p [] lent (memory symbols code constraints rows) progress → Gives (compiled_by (accept p) (length before)) before after r

-- "then statements in text order, each tried for 3, 4, 5, 6, 7; then 8; 9; 10"
pub record CompilesClean (text before after : List ℕ) (r : Result ℕ FaultAt) : Type 0 where
  pub says : scan text ≡ no_fault → Gives (compiled (of_text text) (length before)) before after r
