-- `roll_lines::put_labelled` meets its contract: the number is after the word. Assumes nothing.
use native.Mathlib.Omega.{arith}
use Rattle.text_writer.proofs.Digits.{few-digits}
use Rattle.roll_lines.proofs.AppendLaws.{appends-then}
use Rattle.roll_lines.proofs.put_labelled.Goals as goal

pub returns : goal.returns
returns c =
    let word = c.put_bytes-start.ensures in
    let number = c.put_decimal.ensures in
    (appends-then (omega (arith, c.requires)) word number, omega (arith, word.ends, number.ends, few-digits 20 c.args.number))
