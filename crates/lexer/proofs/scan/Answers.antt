-- `lexer::scan` meets its contract: a text that is too long is fault 1. Assumes nothing.
use mathlib.Core.Path.{sym}
use native.Mathlib.Omega.{arith}
use Rattle.lexer.proofs.Scans.{too_long}
use Rattle.lexer.proofs.scan.Goals as goal

pub returns-then-text-gt-MAX : goal.returns-then-text-gt-MAX
returns-then-text-gt-MAX c = sym (too_long _ (omega arith))

pub scan_bytes-requires : goal.scan_bytes-requires
scan_bytes-requires c = omega arith

pub returns : goal.returns
returns c = c.scan_bytes.ensures
