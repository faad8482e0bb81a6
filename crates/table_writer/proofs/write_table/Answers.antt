-- `table_writer::write_table` meets its contract: header and bodies, one after the other, are the table. Assumes nothing.
use native.Mathlib.Omega.{arith}
use Rattle.table_writer.proofs.BodyLengths.{few, starts-of}
use Rattle.table_writer.proofs.HeaderLaws.{puts_then, puts-same}
use Rattle.table_writer.proofs.Assembly.{table_is, header-long, relations-end, rules-end, puts-front}
use Rattle.table_writer.proofs.write_table.Goals as goal

pub returns : goal.returns
returns c =
    record {
      says = λ p from sizes copied room.
          let ok = from.accepted in
          let s = c.args.sizes in
          let r = c.body_starts-places.result in
          let at = starts-of p ok s sizes r (c.body_starts-places.ensures (few p ok s sizes)) in
          puts-front
          (puts-same (table_is p)
          (puts_then (c.write_header.ensures.says p at)
          (puts_then (c.write_relations.ensures.says p from sizes at copied.names)
          (puts_then (c.write_rules.ensures.says p _ from sizes at copied.constraints copied.rows)
          (puts_then (c.write_attributes.ensures.says p _ from sizes at)
          (c.write_relabels.ensures.says p ok sizes at copied.relabels copied.relabel-rows)
          at.relabels) (rules-end p r at)) (relations-end p r at)) (omega (arith, header-long p))))
          room;
    }
