-- Document 01, "The printed roll": what is written for a text. Assumes nothing.
use Rattle.std.specs.Prelude.{ℕ, ◌≡◌, List, length}
use Rattle.byte_slices.specs.Parts.{put}
use Rattle.policy.specs.Outcome as outcomes
use Rattle.policy.specs.Outcome.{Input}
use Rattle.policy.specs.Roll.{printed}

-- "The program reads text from standard input with a table memory of 65,536 bytes": what it writes is at the front of the lent memory, and the table
-- memory holds what compiling leaves there, the table and after it what was there, or after a refusal what was there
pub record Prints (x : Input) (table table' before after : List ℕ) (r : ℕ) : Type 0 where
  pub memory : table' ≡ outcomes.after x table
  pub written : after ≡ put before 0 (printed x)
  pub long : r ≡ length (printed x)
