-- `words::of_three` meets its contract: word by word. Assumes nothing.
use borrow.Author.Tests.{ne_eqb}
use Rattle.words.specs.Keys.{computing}
use Rattle.words.proofs.of_three.Goals as goal

pub returns-in-7105633 : goal.returns-in-7105633
unfolding computing
returns-in-7105633 c = rw c.in-7105633.is

pub returns-in-6581857 : goal.returns-in-6581857
unfolding computing
returns-in-6581857 c = rw c.in-6581857.is

pub returns-in-7499640 : goal.returns-in-7499640
unfolding computing
returns-in-7499640 c = rw c.in-7499640.is

pub returns-in-7630702 : goal.returns-in-7630702
unfolding computing
returns-in-7630702 c = rw c.in-7630702.is

pub returns-in-7431534 : goal.returns-in-7431534
unfolding computing
returns-in-7431534 c = rw c.in-7431534.is

pub returns-in-7171940 : goal.returns-in-7171940
unfolding computing
returns-in-7171940 c = rw c.in-7171940.is

pub returns-in_default : goal.returns-in_default
unfolding computing
returns-in_default c =
    let r = c.in_default.in_default-own.rest in rw
    (ne_eqb _ _ r.0.0.0.0.0.1, ne_eqb _ _ r.0.0.0.0.1, ne_eqb _ _ r.0.0.0.1, ne_eqb _ _ r.0.0.1, ne_eqb _ _ r.0.1, ne_eqb _ _ r.1)
