-- `compiler::units` meets its contract: past the end there is nothing to leave out. Assumes nothing.
use native.Mathlib.Omega.{arith}
use mathlib.Core.Path.{sym}
use lib.Seq.{take_all, length-take-le}
use Rattle.compiler.proofs.units.Goals as goal

pub returns-then-code-end : goal.returns-then-code-end
returns-then-code-end c = sym (take_all c.args.end c.args.code.now (omega arith))

pub slice_bounds-result-end : goal.slice_bounds-result-end
slice_bounds-result-end c = sym (length-take-le c.args.end c.args.code.now (omega arith))
