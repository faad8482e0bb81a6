-- `scopes::last_dot` meets its contract: the last byte of the scope that is a dot. Assumes nothing.
use mathlib.Core.Path.{◌≡◌, ap, ◌∙◌}
use lib.ListN.{length}
use native.Mathlib.Omega.{arith}
use Rattle.std.proofs.Common.{rules}
use Rattle.scopes.specs.Scope.{scope_in, last_dot}
use Rattle.scopes.proofs.Memory.{scope-long}
use Rattle.scopes.proofs.PathLaws.{LastDot, last-dot-is}
use Rattle.scopes.proofs.last_dot.Goals as goal

pub returns : goal.returns
unfolding scope_in
returns c =
    let scope = c.part-scope.result.now in
    let found : LastDot scope c.rposition.result = search rules in
    let is = last-dot-is scope c.rposition.result found in
    let long : length scope ≡ c.args.n = ap length c.part-scope.ensures ∙ scope-long c.args.symbols.now c.args.n c.requires.0 c.requires.1 in
    (c.unwrap_or.ensures ∙ is.0 ∙ ap last_dot c.part-scope.ensures, λ h. omega (arith, c.unwrap_or.ensures, is.1 (omega arith)), omega (arith, c.unwrap_or.ensures, is.2))
