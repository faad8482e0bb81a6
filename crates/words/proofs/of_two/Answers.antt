-- `words::of_two` meets its contract: word by word. Assumes nothing.
use borrow.Author.Tests.{ne_eqb}
use Rattle.words.specs.Keys.{computing}
use Rattle.words.proofs.of_two.Goals as goal

pub returns-in-29295 : goal.returns-in-29295
unfolding computing
returns-in-29295 c = rw c.in-29295.is

pub returns-in-29029 : goal.returns-in-29029
unfolding computing
returns-in-29029 c = rw c.in-29029.is

pub returns-in-12661 : goal.returns-in-12661
unfolding computing
returns-in-12661 c = rw c.in-12661.is

pub returns-in-12917 : goal.returns-in-12917
unfolding computing
returns-in-12917 c = rw c.in-12917.is

pub returns-in-13173 : goal.returns-in-13173
unfolding computing
returns-in-13173 c = rw c.in-13173.is

pub returns-in-12658 : goal.returns-in-12658
unfolding computing
returns-in-12658 c = rw c.in-12658.is

pub returns-in-12914 : goal.returns-in-12914
unfolding computing
returns-in-12914 c = rw c.in-12914.is

pub returns-in-13170 : goal.returns-in-13170
unfolding computing
returns-in-13170 c = rw c.in-13170.is

pub returns-in-12660 : goal.returns-in-12660
unfolding computing
returns-in-12660 c = rw c.in-12660.is

pub returns-in-12916 : goal.returns-in-12916
unfolding computing
returns-in-12916 c = rw c.in-12916.is

pub returns-in-13172 : goal.returns-in-13172
unfolding computing
returns-in-13172 c = rw c.in-13172.is

pub returns-in-12652 : goal.returns-in-12652
unfolding computing
returns-in-12652 c = rw c.in-12652.is

pub returns-in-12908 : goal.returns-in-12908
unfolding computing
returns-in-12908 c = rw c.in-12908.is

pub returns-in-12648 : goal.returns-in-12648
unfolding computing
returns-in-12648 c = rw c.in-12648.is

pub returns-in-12904 : goal.returns-in-12904
unfolding computing
returns-in-12904 c = rw c.in-12904.is

pub returns-in_default : goal.returns-in_default
unfolding computing
returns-in_default c =
    let r = c.in_default.in_default-own.rest in
    let q = r.0.0.0.0.0 in
    let p = q.0.0.0.0.0 in
    rw (ne_eqb _ _ p.0.0.0.0.1, ne_eqb _ _ p.0.0.0.1, ne_eqb _ _ p.0.0.1, ne_eqb _ _ p.0.1, ne_eqb _ _ p.1)
    (rw (ne_eqb _ _ q.0.0.0.0.1, ne_eqb _ _ q.0.0.0.1, ne_eqb _ _ q.0.0.1, ne_eqb _ _ q.0.1, ne_eqb _ _ q.1)
    (rw (ne_eqb _ _ r.0.0.0.0.1, ne_eqb _ _ r.0.0.0.1, ne_eqb _ _ r.0.0.1, ne_eqb _ _ r.0.1, ne_eqb _ _ r.1)))
