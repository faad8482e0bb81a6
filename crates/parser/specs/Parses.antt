-- What the parser leaves in the memory that is lent to it: the statements as read, or the first fault 3 to 7 and its place. Assumes nothing.
use Rattle.std.specs.Prelude.{ℕ, ◌≡◌, List, [], Result, MatchResult, Ok}
use Rattle.lexer.specs.Scan.{scan, no_fault}
use Rattle.lexer.specs.Forms.{forms_of}
use Rattle.policy.specs.declared.FaultAt.{FaultAt}
use Rattle.policy.specs.Answers.{fault_number}
use Rattle.policy.specs.Scopes.{scoped_in}
use Rattle.policy.specs.Reading.{Read, policy, refused, read_all}
use Rattle.name_chains.specs.Chains.{Chained}
use Rattle.scopes.specs.Scope.{InScope}
use Rattle.statement_reader.specs.Memory.{Memory, Holds}
use Rattle.statement_reader.specs.declared.Progress.{Progress}

-- "then statements in text order, each tried for 3, 4, 5, 6, 7". At the end of the text no block is open. After a refusal what the lent memory holds is free
abbrev pub Reads : Read → Memory → Memory → Result Progress FaultAt → Type 0
Reads (policy p) lent now r = MatchResult r (λ s. Holds p [] lent now s) (λ f. ⊥)
Reads (refused n at) lent now r = MatchResult r (λ s. ⊥) (λ f. (fault_number f.fault ≡ n) × (f.place ≡ at))

-- for every text that the scan leaves clean, whatever the lent memory held. What the chains after the symbols hold is free
pub record Parses (t : List ℕ) (lent now : Memory) (r : Result Progress FaultAt) : Type 0 where
  pub reads : scan t ≡ no_fault → Reads (read_all (scoped_in [] (forms_of t))) lent now r

-- the same where the chains are known to be empty and no block is open
pub record ParsesCleared (t : List ℕ) (lent now : Memory) (r : Result Progress FaultAt) : Type 0 where
  pub reads : scan t ≡ no_fault → Chained lent.symbols 0 [] → InScope lent.symbols [] → Reads (read_all (scoped_in [] (forms_of t))) lent now r
