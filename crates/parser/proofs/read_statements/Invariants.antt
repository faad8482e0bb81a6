-- `parser::read_statements` meets its contract: whatever blocks are open, each statement leaves the reading where the next item begins. The measure is what is
-- left of the text. Assumes nothing.
use Prim.Native.Nat.{ℕ, ◌-◌, ◌≤◌}
use mathlib.Core.Path.{◌≡◌}
use mathlib.Core.List.{List}
use lib.ListN.{length}
use Rattle.lexer.specs.Scan.{scan, no_fault}
use Rattle.block_reader.specs.declared.OpenBlocks.{OpenBlocks}
use Rattle.statement_reader.specs.Memory.{Memory, memory}
use Rattle.parser.specs.Remaining.{Rest}
use Rattle.parser.proofs.read_statements.Given as goal

abbrev pub invariant-loop-place : goal.invariant-loop-place
invariant-loop-place l =
    (l.start ≤ l.at) × ((lent : Memory) (keys filter : List ℕ) (o : OpenBlocks) → scan l.text ≡ no_fault
    → Rest l.text l.start lent (memory l.initial.symbols l.initial.code l.initial.constraints l.initial.rows) keys filter l.initial.progress o → Rest l.text l.at lent (memory l.symbols l.code l.constraints l.rows) keys filter l.progress o)

abbrev pub decreases-loop-place : goal.decreases-loop-place
decreases-loop-place l = length l.text - l.at
