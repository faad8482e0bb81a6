-- `lexer::scan_bytes` meets its contract. Both loops: the scan that is left at the place reached, between names or within the name under
-- way, says what the scan of the whole text says. Each way through a loop is one law of the definition. Assumes nothing.
use Prim.Native.Nat.{◌-◌, ◌≤◌}
use mathlib.Core.Path.{◌≡◌}
use lib.ListN.{length, drop}
use Rattle.lexer.specs.Class.{max_name}
use Rattle.lexer.specs.Scan.{between, going, scan_from, scan}
use Rattle.lexer.proofs.Scans.{InName}
use Rattle.lexer.proofs.scan_bytes.Given as goal

abbrev pub invariant-loop-start : goal.invariant-loop-start
invariant-loop-start l = (max_name ≤ l.limit) × InName l.text l.start (l.limit - max_name) l.level l.at

abbrev pub decreases-loop-start : goal.decreases-loop-start
decreases-loop-start l = length l.text - l.at

abbrev pub invariant-text : goal.invariant-text
invariant-text l = (l.at ≤ length l.text) × (scan_from l.text (drop l.at l.text) (going between l.level) l.at ≡ scan l.text)

abbrev pub decreases-text : goal.decreases-text
decreases-text l = length l.text - l.at
