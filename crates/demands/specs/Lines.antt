-- DOCUMENT 02, W-202, in its words, of everything that is compiled and of every answer of a compiler that keeps the promise. Assumes nothing.
use Rattle.std.specs.Prelude.{ℕ, ◌+◌, ◌≡◌, List, length, take, Result, Err}
use Rattle.policy.specs.declared.Fault.{Fault}
use Rattle.policy.specs.declared.Refusal as theRefusal
use Rattle.policy.specs.Answers.{fault_number, compiling_of}
use Rattle.policy.specs.Encode.{encode, newest}
use Rattle.policy.specs.Outcome as outcomes
use Rattle.policy.specs.Outcome.{Input, Compiled, compiles, refuses, compiled, line_feeds, Outcome, after_of}
use Rattle.compiler.specs.Promise.{Compiles}

-- document 01's own answer: accepted, or refused with a number and a place
pub data Before : Type 0 where
  accepted : ℕ → Before
  rejected : ℕ → ℕ → Before

abbrev pub answer_before : Compiled → Before
answer_before (compiles i) = accepted (length (encode newest i))
answer_before (refuses n at) = rejected n at

abbrev pub without_line : Outcome → Before
without_line (outcomes.accepted n) = accepted n
without_line (outcomes.rejected r) = rejected r.number r.place

pub record Lines : Type 0 where
  -- without the line, every answer is the one that it was, and the memory is too
  pub same : (x : Input) (before now : List ℕ) (r : Result ℕ (theRefusal.Refusal Fault)) → Compiles x before now r
      → (without_line (compiling_of r) ≡ answer_before (compiled x (length before))) × (now ≡ after_of (compiled x (length before)) before)
  -- "Refusals placed in a text .. also carry the line: 1 plus the number of LF bytes before the place"
  pub placed : (x : Input) (before now : List ℕ) (r : theRefusal.Refusal Fault) → Compiles x before now (Err r) → (fault_number r.fault ≡ 10 → ⊥)
      → r.line ≡ 1 + line_feeds (take r.place x.text)
  -- "All others carry line 0"
  pub others : (x : Input) (before now : List ℕ) (r : theRefusal.Refusal Fault) → Compiles x before now (Err r) → fault_number r.fault ≡ 10 → r.line ≡ 0
