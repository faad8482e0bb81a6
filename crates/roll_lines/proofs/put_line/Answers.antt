-- `roll_lines::put_line` meets its contract: the parts are one after the other. Assumes nothing.
use native.Mathlib.Omega.{arith}
use Rattle.text_writer.proofs.Digits.{few-digits}
use Rattle.roll_lines.proofs.AppendLaws.{five-parts}
use Rattle.roll_lines.proofs.put_line.Goals as goal

pub put_bytes-requires : goal.put_bytes-requires
put_bytes-requires c =
    omega (
      arith,
      c.requires.0,
      few-digits 20 c.count-members.result,
      c.put_bytes-past_kind.ensures.ends,
      c.put_bytes-past_name.ensures.ends,
      c.put_bytes-past_of.ensures.ends,
      c.put_decimal-end.ensures.ends,
    )

pub returns : goal.returns
returns c =
    rw (← c.count-members.ensures)
    (five-parts (omega (arith, c.requires.0, few-digits 20 c.count-members.result)) c.put_bytes-past_kind.ensures
    c.put_bytes-past_name.ensures c.put_bytes-past_of.ensures c.put_decimal-end.ensures c.put_bytes.ensures)
