-- `text_writer::put_digits` meets its contract. It calls itself with one digit less. Assumes nothing.
use native.Mathlib.Omega.{arith}
use lib.ListN.{length}
use mathlib.Core.Path.{ap, ◌∙◌}
use Prim.Native.Nat.{◌-◌, ◌/◌}
use Rattle.byte_slices.proofs.PartLaws.{length-put}
use Rattle.text_writer.proofs.Digits.{few-digits, no_digit, one-digit, last-digit}
use Rattle.text_writer.proofs.+put_digits.Goals as goal

pub returns-then-most-eq0 : goal.returns-then-most-eq0
returns-then-most-eq0 t c = no_digit _ _ _ _ c.requires (omega arith)

pub returns-then-n-lt10 : goal.returns-then-n-lt10
returns-then-n-lt10 t c = one-digit _ _ _ _ c.requires (omega arith) (omega arith)

pub put_digits-last-requires : goal.put_digits-last-requires
put_digits-last-requires t c = (omega arith, omega (arith, c.requires))

pub bounds-out-last : goal.bounds-out-last
bounds-out-last t c =
    let a = c.put_digits-last.ensures in
    omega (
      arith,
      c.requires,
      a.ends,
      few-digits (c.args.most - 1) (c.args.n / 10),
      ap length a.written ∙ length-put _ _ _
          (omega (arith, c.requires, few-digits (c.args.most - 1) (c.args.n / 10))),
    )

pub overflow_add-result-2 : goal.overflow_add-result-2
overflow_add-result-2 t c =
    let a = c.put_digits-last.ensures in
    omega (arith, c.requires, a.ends, few-digits (c.args.most - 1) (c.args.n / 10), c.well_formed.0.0)

pub returns : goal.returns
returns t c =
    last-digit _ _ _ _ _ _ c.requires (omega arith) (omega arith) c.put_digits-last.ensures
