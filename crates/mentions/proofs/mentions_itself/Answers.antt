-- `mentions::mentions_itself` meets its contract at an attribute's number. Assumes nothing.
use borrow.Author.Tests.{lt-ltb}
use Rattle.set_code.specs.Evaluation.{sets_in}
use Rattle.mentions.proofs.mentions_itself.Goals as goal

pub returns-then-a-lt-MAX : goal.returns-then-a-lt-MAX
unfolding sets_in
returns-then-a-lt-MAX c = rw (lt-ltb _ 64 c.if-a-lt-MAX.true) c.contains_at.ensures
