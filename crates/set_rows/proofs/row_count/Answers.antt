-- `set_rows::row_count` meets its contract. Assumes nothing.
use Prim.Native.Nat.{◌-◌, ◌/◌}
use native.Mathlib.Nat.{mul-div-le, lt-mul-div-succ, mul-le-mul_left, div-le_self}
use native.Mathlib.Omega.{arith}
use Rattle.set_rows.proofs.row_count.Goals as goal

pub overflow_add-result : goal.overflow_add-result
overflow_add-result c =
    let a = c.args in
    omega (arith, div-le_self (a.size - 1) a.w)

pub returns : goal.returns
returns c =
    let a = c.args in
    let whole = (a.size - 1) / a.w in
    record {
      starts = λ u l. omega (arith, mul-div-le (a.size - 1) a.w, mul-le-mul_left {m = u} {n = whole} a.w (omega arith));
      all = omega (arith, lt-mul-div-succ (a.size - 1) c.requires);
    }
