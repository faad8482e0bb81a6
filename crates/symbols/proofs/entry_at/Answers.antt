-- `symbols::entry_at` meets its contract: each answer is a case of reading what is left of the section (EntryLaws). Assumes nothing.
use Prim.Native.Nat.{◌-◌}
use Rattle.symbols.proofs.EntryLaws.{is-named, is_cut, is-short, is-end}
use native.Mathlib.Omega.{arith}
use Rattle.symbols.proofs.entry_at.Goals as goal

pub returns-then-at-end : goal.returns-then-at-end
returns-then-at-end c =
    is-end c.args.table.now c.args.at c.args.end (c.args.end - c.args.at) (omega (arith, c.requires.1)) (omega arith)

pub returns-then-end-name : goal.returns-then-end-name
returns-then-end-name c =
    is-short c.args.table.now c.args.at c.args.end (c.args.end - c.args.at) (omega (arith, c.requires.1))
    (omega (arith, c.requires.0, c.if-at-end.false)) (omega arith)

pub returns-then-end-past : goal.returns-then-end-past
returns-then-end-past c =
    is_cut c.args.table.now c.args.at c.args.end (c.args.end - c.args.at) (omega (arith, c.requires.1)) _
    c.wide.ensures (omega arith) (omega arith)

pub returns : goal.returns
returns c =
    is-named c.args.table.now c.args.at c.args.end (c.args.end - c.args.at) (omega (arith, c.requires.1)) _ _ _
    c.wide-2.ensures c.get2.ensures c.wide.ensures (omega arith) (omega arith)
