-- `body_writer::grant_row` meets its contract: a row past the body's end changes nothing, and the row of one thing gains one number or a set. Assumes nothing.
use mathlib.Core.Path.{sym, ap, ◌∙◌}
use mathlib.Core.List.{List}
use Prim.Native.Nat.{ℕ, ◌+◌, ◌-◌, ◌*◌, min}
use native.Mathlib.Nat.{mul-le-mul}
use native.Mathlib.Omega.{arith}
use lib.ListN.{length}
use Rattle.bitset.specs.Sets.{union_of}
use Rattle.byte_slices.specs.Parts.{part, put}
use Rattle.bitset.proofs.SetLaws.{length-set_of, union-one}
use Rattle.byte_slices.proofs.PartLaws.{length-part-min, length-part-le}
use Rattle.set_rows.proofs.GrantLaws.{row-at, past-at}
use Rattle.set_code.proofs.Leaves.{thing-alone}
use Rattle.body_writer.proofs.grant_row.Goals as goal

pub overflow_mul-start : goal.overflow_mul-start
overflow_mul-start c =
    let a = c.args in
    omega (arith, mul-le-mul {n₁ = a.width} {m₁ = a.thing} {n₂ = 64} {m₂ = 512} (omega arith) (omega arith))

pub returns-then-body-start : goal.returns-then-body-start
returns-then-body-start c =
    let a = c.args in
    past-at a.width 64 a.table.now _ a.at a.size (λ i. (c.slice_known-1.given i).fits) a.thing (omega arith)
    (omega (arith, ap length c.part-body.ensures, c.if-body-start.true))

pub overflow_add-row : goal.overflow_add-row
overflow_add-row c =
    let a = c.args in
    omega (arith, ap length c.part-body.ensures, c.if-body-start.false, length-part-min a.table.now a.at a.size)

pub returns-then-to-lt-ATTRIBUTE : goal.returns-then-to-lt-ATTRIBUTE
returns-then-to-lt-ATTRIBUTE c =
    let a = c.args in
    let t = a.table.now in
    let start = a.width * a.thing in
    let v = c.min-reach.result in
    let row = part t (a.at + start) v in
    let long = ap length c.part-body.ensures in
    c.insert_at.ensures
    ∙ ap (put t (a.at + start))
    (sym (union-one row 64 a.to (omega (arith, length-part-le t (a.at + start) v))) ∙ ap (union_of row) (thing-alone a.sets.now a.to (omega arith)))
    ∙ row-at a.width 64 t _ a.at a.size (λ i. (c.slice_known-1.given i).fits)
    a.thing (omega arith) v
    (omega arith) (c.min-reach.ensures ∙ ap (λ (n : ℕ). min a.width (n - start)) long)

pub slice_bounds-union_at-end : goal.slice_bounds-union_at-end
slice_bounds-union_at-end c = sym (ap length c.reference.ensures ∙ length-set_of 64 _)

pub returns : goal.returns
returns c =
    let a = c.args in
    let t = a.table.now in
    let start = a.width * a.thing in
    let v = c.min-reach.result in
    let row = part t (a.at + start) v in
    let long = ap length c.part-body.ensures in
    c.union_at.ensures
    ∙ ap (λ (s : List ℕ). put t (a.at + start) (union_of row s)) c.reference.ensures
    ∙ row-at a.width 64 t _ a.at a.size (λ i. (c.slice_known-1.given i).fits) a.thing (omega arith) v
    (omega arith) (c.min-reach.ensures ∙ ap (λ (n : ℕ). min a.width (n - start)) long)
