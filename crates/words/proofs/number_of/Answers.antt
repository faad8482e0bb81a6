-- `words::number_of` meets its contract: a word is one of those of its own length, or none. Assumes nothing.
use mathlib.Core.Path.{sym, ◌∙◌}
use native.Mathlib.Omega.{arith}
use borrow.Author.Tests.{ne_eqb}
use Rattle.little_endian.proofs.WidthLaws.{unle-byte}
use Rattle.words.specs.Keys.{computing}
use Rattle.words.proofs.KeyLaws.{short, long, by-keys}
use Rattle.words.proofs.number_of.Goals as goal

pub returns-in-2 : goal.returns-in-2
returns-in-2 c =
    c.of_two.ensures ∙ short _ 2 _ c.in-2.is (omega arith) (λ i. (c.shared_slice_known-1.given i).fits) c.get2.ensures.0

pub returns-in-3 : goal.returns-in-3
returns-in-3 c =
    c.of_three.ensures ∙ short _ 3 _ c.in-3.is (omega arith) (λ i. (c.shared_slice_known-1.given i).fits) c.three.ensures

pub returns-in-4 : goal.returns-in-4
returns-in-4 c =
    c.of_four.ensures ∙ short _ 4 _ c.in-4.is (omega arith) (λ i. (c.shared_slice_known-1.given i).fits) c.get4.ensures.0

pub returns-in-5 : goal.returns-in-5
returns-in-5 c =
    c.of_five.ensures ∙ short _ 5 _ c.in-5.is (omega arith) (λ i. (c.shared_slice_known-1.given i).fits) c.five.ensures

pub returns-in-6 : goal.returns-in-6
returns-in-6 c =
    c.of_six.ensures ∙ short _ 6 _ c.in-6.is (omega arith) (λ i. (c.shared_slice_known-1.given i).fits) c.six.ensures

pub returns-in-8 : goal.returns-in-8
returns-in-8 c =
    c.of_eight.ensures ∙ short _ 8 _ c.in-8.is (omega arith) (λ i. (c.shared_slice_known-1.given i).fits) c.get8.ensures

pub returns-in-9 : goal.returns-in-9
returns-in-9 c =
    let w = c.args.w.now in
    c.of_nine.ensures
    ∙ long w 1 _ _ c.in-9.is (λ i. (c.shared_slice_known-1.given i).fits) c.get8-in-9.ensures (sym (unle-byte 8 w))

pub returns-in-13 : goal.returns-in-13
returns-in-13 c =
    c.of_thirteen.ensures
    ∙ long _ 5 _ _ c.in-13.is (λ i. (c.shared_slice_known-1.given i).fits) c.get8-in-13.ensures c.five-in-13.ensures

pub returns-in-14 : goal.returns-in-14
returns-in-14 c =
    c.of_fourteen.ensures
    ∙ long _ 6 _ _ c.in-14.is (λ i. (c.shared_slice_known-1.given i).fits) c.get8-in-14.ensures c.six-in-14.ensures

pub returns-in-16 : goal.returns-in-16
returns-in-16 c =
    c.of_sixteen.ensures
    ∙ long _ 8 _ _ c.in-16.is (λ i. (c.shared_slice_known-1.given i).fits) c.get8-in-16.ensures c.get8-in-16-2.ensures

pub returns-in_default : goal.returns-in_default
unfolding computing
returns-in_default c =
    let r = c.in_default.in_default-own.rest in
    let q = r.0.0.0.0.0 in
    rw (ne_eqb _ _ q.0.0.0.0.1, ne_eqb _ _ q.0.0.0.1, ne_eqb _ _ q.0.0.1, ne_eqb _ _ q.0.1, ne_eqb _ _ q.1)
    at (rw (ne_eqb _ _ r.0.0.0.0.1, ne_eqb _ _ r.0.0.0.1, ne_eqb _ _ r.0.0.1, ne_eqb _ _ r.0.1, ne_eqb _ _ r.1)
    at (by-keys c.args.w.now (λ i. (c.shared_slice_known-1.given i).fits)))
