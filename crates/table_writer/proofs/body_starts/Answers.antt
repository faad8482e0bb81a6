-- `table_writer::body_starts` meets its contract: each start by the one before it, which is not far. Assumes nothing.
use Prim.Native.Nat.{◌≤◌}
use native.Mathlib.Omega.{arith}
use Rattle.table_writer.proofs.body_starts.Goals as goal

pub returns : goal.returns
returns c few =
    let e1 = c.past-user_roles.ensures (omega arith) (omega (arith, few.names)) (omega arith) in
    let b1 : c.past-user_roles.result ≤ 200084 = omega (arith, e1, few.names) in
    let e2 = c.past-role_types.ensures (omega (arith, b1)) (omega (arith, few.users)) (omega arith) in
    let b2 : c.past-role_types.result ≤ 3400084 = omega (arith, e2, b1, few.users) in
    let e3 = c.past-role_roles.ensures (omega (arith, b2)) (omega (arith, few.roles)) (omega arith) in
    let b3 : c.past-role_roles.result ≤ 16200084 = omega (arith, e3, b2, few.roles) in
    let e4 = c.past-transitions.ensures (omega (arith, b3)) (omega (arith, few.roles)) (omega arith) in
    let b4 : c.past-transitions.result ≤ 19400084 = omega (arith, e4, b3, few.roles) in
    let e5 = c.past-constraints.ensures (omega (arith, b4)) (omega (arith, few.transitions)) (omega arith) in
    let b5 : c.past-constraints.result ≤ 35800084 = omega (arith, e5, b4, few.transitions) in
    let e6 = c.past-rows.ensures (omega (arith, b5)) (omega (arith, few.constraints)) (omega arith) in
    let b6 : c.past-rows.result ≤ 37800084 = omega (arith, e6, b5, few.constraints) in
    let e7 = c.past-user_sets.ensures (omega (arith, b6)) (omega (arith, few.rows)) (omega arith) in
    let b7 : c.past-user_sets.result ≤ 39000084 = omega (arith, e7, b6, few.rows) in
    let e8 = c.past-role_sets.ensures (omega (arith, b7)) (omega (arith, few.user-attributes)) (omega arith) in
    let b8 : c.past-role_sets.result ≤ 42200084 = omega (arith, e8, b7, few.user-attributes) in
    let e9 = c.past-type_sets.ensures (omega (arith, b8)) (omega (arith, few.role-attributes)) (omega arith) in
    let b9 : c.past-type_sets.result ≤ 45400084 = omega (arith, e9, b8, few.role-attributes) in
    let e10 = c.past-relabels.ensures (omega (arith, b9)) (omega (arith, few.type-attributes)) (omega arith) in
    let b10 : c.past-relabels.result ≤ 58200084 = omega (arith, e10, b9, few.type-attributes) in
    let e11 = c.past-relabel_rows.ensures (omega (arith, b10)) (omega (arith, few.relabels)) (omega arith) in
    let b11 : c.past-relabel_rows.result ≤ 59000084 = omega (arith, e11, b10, few.relabels) in
    let e12 = c.past-end.ensures (omega (arith, b11)) (omega (arith, few.relabel-rows)) (omega arith) in
    record {
      user-roles = omega (arith, e1);
      role-types = omega (arith, e2);
      role-roles = omega (arith, e3);
      transitions = omega (arith, e4);
      constraints = omega (arith, e5);
      rows = omega (arith, e6);
      user-sets = omega (arith, e7);
      role-sets = omega (arith, e8);
      type-sets = omega (arith, e9);
      relabels = omega (arith, e10);
      relabel-rows = omega (arith, e11);
      end = omega (arith, e12);
    }
