-- `table_writer::write_rules` meets its contract: three bodies, each after the one before it. Assumes nothing.
use native.Mathlib.Omega.{arith}
use mathlib.Core.Path.{◌≡◌}
use Prim.Native.Nat.{◌*◌}
use Rattle.table_writer.specs.TableSizes.{body}
use Rattle.table_writer.proofs.BodyLengths.{few, constraints-long, rows_long}
use Rattle.table_writer.proofs.HeaderLaws.{puts_then}
use Rattle.table_writer.proofs.Assembly.{copy-puts, transitions-puts}
use Rattle.table_writer.proofs.write_rules.Goals as goal

pub returns : goal.returns
returns c =
    record {
      says = λ p us from sizes at cs rs.
          let ok = from.accepted in
          let s = c.args.sizes in
          let records : c.past-constraint_bytes.result ≡ 10 * s.constraints = omega (arith, c.past-constraint_bytes.ensures (omega arith) (omega (arith, (few p ok s sizes).constraints)) (omega arith)) in
          let tails : c.past-row_bytes.result ≡ 6 * s.rows = omega (arith, c.past-row_bytes.ensures (omega arith) (omega (arith, (few p ok s sizes).rows)) (omega arith)) in
          puts_then (transitions-puts p c.write_transitions.ensures ok from.code from.role-sets from.type-sets)
          (puts_then
          (copy-puts (10 * s.constraints) (body 5 p) c.copy.ensures records cs (omega (arith, sizes.constraints, constraints-long p ok)))
          (copy-puts (6 * s.rows) (body 6 p) c.copy-2.ensures tails rs (omega (arith, sizes.rows, rows_long p ok)))
          at.rows) at.constraints;
    }
