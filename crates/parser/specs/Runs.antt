-- What the reading of a run of statements comes to, and the reading of all that comes after one. Assumes nothing.
use Rattle.std.specs.Prelude.{ℕ, ◌<◌, ◌≤◌, ◌≡◌, true, List, length, replicate, Result, Ok, Err, MatchResult, IfOk}
use Rattle.lexer.specs.Scan.{scan, no_fault}
use Rattle.policy.specs.declared.FaultAt.{FaultAt}
use Rattle.items.specs.Looks.{item_at}
use Rattle.items.specs.declared.Item.{Item}
use Rattle.grammar.specs.Shapes.{starts_block}
use Rattle.block_reader.specs.Within.{none_open}
use Rattle.block_reader.specs.declared.OpenBlocks.{OpenBlocks}
use Rattle.statement_reader.specs.Memory.{Memory}
use Rattle.statement_reader.specs.declared.Progress.{Progress}
use Rattle.parser.specs.Remaining.{whole, Rest}
use Rattle.parser.specs.Parses.{Reads}
use Rattle.parser.specs.Parts.{place_after}
use Rattle.parser.specs.declared.Run.{Run}

-- the reading is at a place where a block is next
pub record BlockNext (t : List ℕ) (lent now : Memory) (keys filter : List ℕ) (o : OpenBlocks) (place at : ℕ) (s : Progress) : Type 0 where
  pub here : ℕ
  pub next : ℕ
  pub first : Item
  pub rest : Rest t here lent now keys filter s o
  pub opens : Item.Open place next ≡ item_at t here
  pub first-is : first ≡ item_at t next
  pub starts : starts_block first ≡ true
  pub after_first : at ≡ place_after first

-- or the close of one
pub record CloseNext (t : List ℕ) (lent now : Memory) (keys filter : List ℕ) (o : OpenBlocks) (next : ℕ) (s : Progress) : Type 0 where
  pub here : ℕ
  pub rest : Rest t here lent now keys filter s o
  pub closes : Item.Close next ≡ item_at t here

-- after a run of statements the reading stands where the answer says, or what is read of the whole text is known
abbrev pub RunBy : List ℕ → Memory → Memory → List ℕ → List ℕ → OpenBlocks → Run → Type 0
RunBy t lent now keys filter o (Run.Block place at s) = BlockNext t lent now keys filter o place at s
RunBy t lent now keys filter o (Run.Close next s) = CloseNext t lent now keys filter o next s
RunBy t lent now keys filter o (Run.End s) = Reads (whole t) lent now (Ok s)

-- the place at which the reading goes on lies ahead and in the text
abbrev pub RunAhead : List ℕ → ℕ → Run → Type 0
RunAhead t start (Run.Block place at s) = (start < at) × (at ≤ length t)
RunAhead t start (Run.Close next s) = (start < next) × (next ≤ length t)
RunAhead t start (Run.End s) = Unit {0}

-- statements from a place on, whatever blocks are open there: what comes after them, or the first fault of the text
pub record Runs (t : List ℕ) (start : ℕ) (before after : Memory) (s : Progress) (r : Result Run FaultAt) : Type 0 where
  pub says : (lent : Memory) (keys filter : List ℕ) (o : OpenBlocks) → scan t ≡ no_fault → Rest t start lent before keys filter s o
      → MatchResult r (λ run. RunBy t lent after keys filter o run) (λ f. Reads (whole t) lent after (Err f))
  pub ahead : IfOk r (λ run. RunAhead t start run)

-- all that comes after a first run, where no block was opened yet
pub record ParsesAfter (t : List ℕ) (first : Run) (before after : Memory) (r : Result Progress FaultAt) : Type 0 where
  pub reads : (lent : Memory) → scan t ≡ no_fault → RunBy t lent before (replicate 8192 0) (replicate 1024 0) none_open first
      → Reads (whole t) lent after r
