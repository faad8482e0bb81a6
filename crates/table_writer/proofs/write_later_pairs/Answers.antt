-- `table_writer::write_later_pairs` meets its contract: pair by pair, each body starts where the one before it ends. Assumes nothing.
use native.Mathlib.Omega.{arith}
use mathlib.Core.List.{[], ◌∷◌}
use Rattle.table_writer.specs.TableSizes.{body}
use Rattle.table_writer.proofs.HeaderLaws.{puts-pair, no-pair}
use Rattle.table_writer.proofs.write_later_pairs.Goals as goal

pub returns : goal.returns
returns c =
    let places = c.args.places in
    record {
      says = λ p at.
          puts-pair 68 places.relabels places.relabel_rows (body 8 p) (body 9 p ∷ []) at.relabel-rows
          (c.put_pair.ensures (omega (arith, at.relabel-rows)))
          (puts-pair 76 places.relabel_rows places.end (body 9 p) [] at.end (c.put_pair-2.ensures (omega (arith, at.end)))
          (no-pair places.end));
    }
