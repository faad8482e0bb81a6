-- `scopes::compose` meets its contract: a copy, or two copies and a store, put the full name together. Assumes nothing.
use native.Mathlib.Omega.{arith}
use mathlib.Core.Path.{ap, ◌∙◌}
use mathlib.Core.List.{List}
use Prim.Native.Nat.{ℕ, ◌+◌}
use lib.ListN.{length, set, length-set}
use Rattle.byte_slices.specs.Parts.{part, put}
use Rattle.scopes.proofs.Composed.{alone-too-long, alone, inner-too-long, length_front, inner}
use Rattle.scopes.proofs.compose.Goals as goal

pub returns-then-long-gt-MAX : goal.returns-then-long-gt-MAX
returns-then-long-gt-MAX c =
    alone-too-long c.args.symbols.now c.args.n c.args.name.now c.args.into.now c.requires.0 c.requires.1 c.requires.2
    (omega (arith, c.if-n-eq0.true)) (omega (arith, c.if-long-gt-MAX.true))

pub returns-then-n-eq0 : goal.returns-then-n-eq0
returns-then-n-eq0 c =
    alone c.args.symbols.now c.args.n c.args.name.now c.args.into.now c.requires.0 c.requires.1 c.requires.2
    (omega (arith, c.if-n-eq0.true)) (omega (arith, c.if-long-gt-MAX.false)) c.copy.ensures

pub returns-then-n-long : goal.returns-then-n-long
returns-then-n-long c =
    inner-too-long c.args.symbols.now c.args.n c.args.name.now c.args.into.now c.requires.0 c.requires.1 c.requires.2
    (omega (arith, c.if-n-eq0.false)) (omega (arith, c.if-n-long.true))

pub copy-requires-3 : goal.copy-requires-3
copy-requires-3 c =
    let long = ap length c.copy-2.ensures
    ∙ length_front c.args.symbols.now c.args.n c.args.name.now c.args.into.now c.requires.0 c.requires.1 c.requires.2 in
    (simp length-set (omega (arith, long)), omega arith)

pub shape_of-into : goal.shape_of-into
shape_of-into c =
    let n = c.args.n in
    let w = c.args.name.now in
    (inner c.args.symbols.now n w c.args.into.now c.requires.0 c.requires.1 c.requires.2 (omega (arith, c.if-n-eq0.false)) (omega (arith, c.if-n-long.false))
    (c.copy-3.ensures ∙ ap (λ (l : List ℕ). put (set l n 46) (n + 1) (part w 0 (length w))) c.copy-2.ensures)).long

pub returns : goal.returns
returns c =
    let second = c.copy-3 in
    let n = c.args.n in
    let w = c.args.name.now in
    inner c.args.symbols.now n w c.args.into.now c.requires.0 c.requires.1 c.requires.2 (omega (arith, c.if-n-eq0.false)) (omega (arith, c.if-n-long.false))
    (second.ensures ∙ ap (λ (l : List ℕ). put (set l n 46) (n + 1) (part w 0 (length w))) c.copy-2.ensures)
