-- `table_writer::write_relabels` meets its contract: two bodies, one after the other. Assumes nothing.
use native.Mathlib.Omega.{arith}
use mathlib.Core.Path.{◌≡◌}
use Prim.Native.Nat.{◌*◌}
use Rattle.table_writer.specs.TableSizes.{body}
use Rattle.table_writer.proofs.BodyLengths.{few, relabels-long, relabel-rows-long}
use Rattle.table_writer.proofs.HeaderLaws.{puts_then}
use Rattle.table_writer.proofs.Assembly.{part-puts}
use Rattle.table_writer.proofs.write_relabels.Goals as goal

pub returns : goal.returns
returns c =
    let args = c.args in
    record {
      says = λ p ok sizes at cs rs.
          let s = args.sizes in
          let records : c.past-relabel_bytes.result ≡ 4 * s.relabels = omega (arith, c.past-relabel_bytes.ensures (omega arith) (omega (arith, (few p ok s sizes).relabels)) (omega arith)) in
          let tails : c.past-row_bytes.result ≡ 6 * s.relabel_rows = omega (arith, c.past-row_bytes.ensures (omega arith) (omega (arith, (few p ok s sizes).relabel-rows)) (omega arith)) in
          puts_then
          (part-puts args.constraints.now 1280 (4 * s.relabels) (body 8 p) c.copy.ensures c.part-relabels.ensures records cs
          (omega (arith, sizes.relabels, relabels-long p ok)))
          (part-puts args.rows.now 12288 (6 * s.relabel_rows) (body 9 p) c.copy-2.ensures c.part-relabel_rows.ensures tails rs
          (omega (arith, sizes.relabel-rows, relabel-rows-long p ok)))
          at.relabel-rows;
    }
