-- `roll_lines::put_refusal_numbers` meets its contract: the parts are one after the other. Assumes nothing.
use native.Mathlib.Omega.{arith}
use Rattle.roll_lines.proofs.AppendLaws.{four-parts}
use Rattle.roll_lines.proofs.put_refusal_numbers.Goals as goal

pub returns : goal.returns
returns c =
    let number = c.put_labelled-past_number.ensures in
    let place = c.put_labelled-past_place.ensures in
    let line = c.put_labelled-past_line.ensures in
    four-parts (omega (arith, c.requires, number.0.ends, number.1, place.0.ends, place.1, line.0.ends, line.1)) number.0 place.0 line.0
    c.put_bytes.ensures
