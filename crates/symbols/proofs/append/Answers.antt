-- `symbols::append` meets its contract: the head and the copy of the name are one `put` of the entry's bytes (AppendLaws). Assumes nothing.
use mathlib.Core.Path.{◌≡◌, sym, subst}
use mathlib.Core.List.{List}
use Prim.Native.Nat.{ℕ, ◌+◌, ◌≤◌}
use native.Mathlib.Omega.{arith}
use lib.ListN.{length, length-set}
use Rattle.byte_slices.specs.Parts.{part}
use Rattle.byte_slices.proofs.PartLaws.{length-part-le}
use Rattle.symbols.proofs.AppendLaws.{long-begun, long-headed, long-appended, appended}
use Rattle.symbols.proofs.append.Goals as goal
use Rattle.symbols.proofs.append.Goals.{After-part-name}

-- the name is no longer than was asked for
short : (w x : List ℕ) (o n : ℕ) → w ≡ part x o n → length w ≤ n
short w x o n e = subst (λ (v : List ℕ). length v ≤ n) (sym e) (length-part-le x o n)

-- so there is room for it
room : (c : After-part-name)
    → c.args.end + 4 + length c.part-name.result.now ≤ length c.args.table.now
room c =
    omega (arith, short _ c.args.text.now c.args.from c.args.len c.part-name.ensures, c.requires.room)

pub put2-requires : goal.put2-requires
put2-requires c = simp length-set (omega arith)

pub overflow_cast-table-2 : goal.overflow_cast-table-2
overflow_cast-table-2 c =
    let a = c.args in
    omega (arith, short _ a.text.now a.from a.len c.part-name.ensures)

pub bounds-table-end-2 : goal.bounds-table-end-2
bounds-table-end-2 c =
    let a = c.args in
    omega (arith, long-begun a.table.now a.end a.sort a.number c.part-name.result.now (room (goal.at.bounds-table-end-2 c).After-part-name) _ c.put2.ensures)

pub copy-requires : goal.copy-requires
copy-requires c =
    let a = c.args in
    let fits = room (goal.at.copy-requires c).After-part-name in
    (omega (arith, fits, long-headed a.table.now a.end a.sort a.number c.part-name.result.now fits _ c.put2.ensures), omega arith)

pub shape_of-table : goal.shape_of-table
shape_of-table c =
    let a = c.args in
    long-appended a.table.now a.end a.sort a.number c.part-name.result.now (room (goal.at.shape_of-table c).After-part-name) _ c.put2.ensures _
    c.copy.ensures

pub returns : goal.returns
returns c =
    let a = c.args in
    appended a.table.now a.end a.sort a.number c.part-name.result.now (room (goal.at.returns c).After-part-name) _ c.put2.ensures _
    c.copy.ensures _ c.part-name.ensures
