-- `parser::parse_blocks` meets its contract: what comes after the first run of statements, read so far, gives what the whole text gives. The measure is what is
-- left of the text. Assumes nothing.
use mathlib.Core.Path.{◌≡◌}
use lib.ListN.{replicate}
use Rattle.lexer.specs.Scan.{scan, no_fault}
use Rattle.block_reader.specs.Within.{none_open}
use Rattle.statement_reader.specs.Memory.{Memory, memory}
use Rattle.parser.specs.Runs.{RunBy}
use Rattle.parser.proofs.StatementRuns.{left_after}
use Rattle.parser.proofs.parse_blocks.Given as goal

abbrev pub invariant-loop-run : goal.invariant-loop-run
invariant-loop-run l =
    (lent : Memory) → scan l.text ≡ no_fault → RunBy l.text lent (memory l.initial.symbols l.initial.code l.initial.constraints l.initial.rows) (replicate 8192 0) (replicate 1024 0) none_open l.initial.run
    → RunBy l.text lent (memory l.symbols l.code l.constraints l.rows) l.keys l.filter l.blocks l.run

abbrev pub decreases-loop-run : goal.decreases-loop-run
decreases-loop-run l = left_after l.text l.run
