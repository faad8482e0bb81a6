-- `roll_lines::put_acceptance` meets its contract: the parts are one after the other. Assumes nothing.
use native.Mathlib.Omega.{arith}
use Rattle.text_writer.proofs.Digits.{few-digits}
use Rattle.roll_lines.proofs.AppendLaws.{three-parts}
use Rattle.roll_lines.proofs.put_acceptance.Goals as goal

pub put_bytes-requires : goal.put_bytes-requires
put_bytes-requires c =
    omega (arith, c.requires, few-digits 20 c.args.bytes, c.put_bytes-start.ensures.ends, c.put_decimal-end.ensures.ends)

pub returns : goal.returns
returns c =
    three-parts (omega (arith, c.requires, few-digits 20 c.args.bytes)) c.put_bytes-start.ensures c.put_decimal-end.ensures
    c.put_bytes.ensures
