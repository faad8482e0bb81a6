-- `scopes::find` meets its contract. The loop's invariant: the first n bytes of the scope are that of the blocks that are left, and the tries that are left
-- decide as all do (TryLaws). The measure is n: each cut leaves less. Assumes nothing.
use mathlib.Core.Path.{sym}
use native.Mathlib.Omega.{arith}
use Rattle.byte_slices.specs.Parts.{part}
use Rattle.scopes.proofs.TryLaws.{hit-resolves, turn, last-resolves, dot-resolves}
use Rattle.scopes.proofs.find.Goals as goal

pub returns-then-has_dot_in_front : goal.returns-then-has_dot_in_front
unfolding part
returns-then-has_dot_in_front c =
    dot-resolves c.args.symbols.now c.args.family c.args.name.now (sym c.if-has_dot_in_front.ensures) c.find.ensures

pub returns-then-is_some : goal.returns-then-is_some
returns-then-is_some c =
    let l = c.loop-n in
    let tried = c.try_in-tried in
    hit-resolves c.args.symbols.now c.args.family c.args.name.now l.n tried.result l.invariant.0 c.requires (omega arith) tried.ensures
    (sym c.if-is_some.ensures) (sym c.if-has_dot_in_front.ensures) l.invariant.1

pub loop-n-preserved : goal.loop-n-preserved
loop-n-preserved c =
    let l = c.loop-n in
    let tried = c.try_in-tried in (
      omega (arith, c.last_dot-n.ensures.2),
      turn c.args.symbols.now c.args.family c.args.name.now l.n tried.result l.invariant.0 c.requires (omega arith) tried.ensures
          c.last_dot-n.result (sym c.if-is_some.ensures) c.last_dot-n.ensures.0 c.last_dot-n.ensures.2 l.invariant.1,
    )

pub returns : goal.returns
returns c =
    let l = c.loop-n in
    last-resolves c.args.symbols.now c.args.family c.args.name.now l.n (omega arith) (sym c.if-has_dot_in_front.ensures) c.find-2.ensures
    l.invariant.1
