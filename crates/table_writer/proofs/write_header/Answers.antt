-- `table_writer::write_header` meets its contract: the first four bytes, and the pairs after them. Assumes nothing.
use native.Mathlib.Omega.{arith}
use mathlib.Core.Path.{refl}
use Rattle.policy.specs.Basics.{le}
use Rattle.table_writer.proofs.HeaderLaws.{puts_then, puts-same}
use Rattle.table_writer.proofs.Assembly.{header_is, first-pairs-long}
use Rattle.table_writer.proofs.write_header.Goals as goal

pub returns : goal.returns
unfolding le
returns c =
    let places = c.args.places in
    record {
      says = λ p at.
          puts-same (header_is p places at)
          (puts_then c.put_u32.ensures
          (puts_then (c.write_pairs.ensures.says p at) (c.write_later_pairs.ensures.says p at) (omega (arith, first-pairs-long p))) refl);
    }
