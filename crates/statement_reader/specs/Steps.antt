-- What one statement adds to the lent memory, or its fault. The functions for the kinds of statements promise it. Assumes nothing.
use Rattle.std.specs.Prelude as prelude
use Rattle.std.specs.Prelude.{ℕ, ◌+◌, ◌-◌, ◌≤◌, ◌≡◌, Bool, true, cond, List, [], ◌∷◌, ◌++◌, ltb, length, None, Some, Result, Ok, Err, MatchResult}
use Rattle.std.proofs.Math.Option.{Option, some}
use Rattle.lexer.specs.Forms.{Forms, frames_at, trim, names_good}
use Rattle.policy.specs.Basics.{Name}
use Rattle.lexer.specs.Scan.{max_level}
use Rattle.policy.specs.Words as words
use Rattle.policy.specs.Words.{set_k, relation_k, transition_k}
use Rattle.policy.specs.Statements.{Written, Statement, Policy}
use Rattle.policy.specs.Maxima.{max_transitions, max_constraints, max_relabels}
use Rattle.policy.specs.Grammar.{formed, written}
use Rattle.policy.specs.Reading.{Judged, reads, opens, fault, judge_statement}
use Rattle.policy.specs.Answers.{family_of, relation_of, fault_number}
use Rattle.policy.specs.declared.Fault.{Fault}
use Rattle.statement_code.specs.Code.{statement_code, code_of}
use Rattle.statement_reader.specs.Memory.{Memory, Filled, Holds}
use Rattle.statement_reader.specs.declared.Progress.{Progress}
use Rattle.statement_reader.specs.declared.CodedStatement.{CodedStatement}

-- the keyword that an enum of src/ stands for
abbrev pub coded_keyword : CodedStatement → words.Keyword
coded_keyword (CodedStatement.Set f) = set_k (family_of f)
coded_keyword (CodedStatement.Relation r) = relation_k (relation_of r)
coded_keyword CodedStatement.Transition = transition_k

-- one statement after those of p, in the blocks of a path: it is read, and the memory holds it too; or its fault is answered. A block is no statement
abbrev pub Stepped : Judged → Policy → List Name → ℕ → Memory → Memory → Result Progress Fault → Type 0
Stepped (reads s) p path place lent now r = MatchResult r (λ q. Filled (p ++ (record { place = place; says = s } ∷ [])) path lent now q) (λ f. ⊥)
Stepped opens p path place lent now r = ⊥
Stepped (fault n) p path place lent now r = MatchResult r (λ q. ⊥) (λ f. fault_number f ≡ n)

-- the row that is read as w: its words are names, and no part of it lies too deep
pub record RowIs (row : Forms) (o : Option Written) (w : Written) : Type 0 where
  pub names : names_good row ≡ true
  pub uncut : trim row (max_level - 1) ≡ row
  pub form : o ≡ some w

-- there is room for the code of w, if it has no fault, and for all constraints and rows that the maxima allow
pub record Room (lent : Memory) (p : Policy) (path : List Name) (place : ℕ) (w : Written) : Type 0 where
  pub code : (s : Statement) → judge_statement path p (some w) ≡ reads s → length (code_of p) + length (statement_code place s) ≤ length lent.code
  pub constraints : 1536 ≤ length lent.constraints
  pub rows : 18432 ≤ length lent.rows

-- the statement after the keyword k at a place of the text
pub record Steps (t : List ℕ) (at place : ℕ) (k : words.Keyword) (before after : Memory) (s : Progress) (r : Result Progress Fault) : Type 0 where
  pub says : (lent : Memory) (p : Policy) (path : List Name) (w : Written) → Holds p path lent before s
      → RowIs (frames_at t at).here (formed k (frames_at t at).here) w → Room lent p path place w → Stepped (judge_statement path p (some w)) p path place lent after r

-- the statement whose parentheses are open at a place of the text
pub record StepsAt (t : List ℕ) (at place : ℕ) (before after : Memory) (s : Progress) (r : Result Progress Fault) : Type 0 where
  pub says : (lent : Memory) (p : Policy) (path : List Name) (w : Written) → Holds p path lent before s
      → RowIs (frames_at t at).here (written (frames_at t at).here) w → Room lent p path place w → Stepped (judge_statement path p (some w)) p path place lent after r

-- the step of a declaration without code: fault 4 before 6
abbrev pub with_symbols : Progress → ℕ → Progress
with_symbols s past = record {
  symbols = past;
  code = s.code;
  transitions = s.transitions;
  constraints = s.constraints;
  rows = s.rows;
  relabels = s.relabels;
  relabel_rows = s.relabel_rows;
}

abbrev pub declared_step : Result ℕ Fault → Progress → Result Progress Fault
declared_step (Ok past) s = Ok (with_symbols s past)
declared_step (Err f) s = Err f

-- the step of a statement with code: fault 5 before 6, "transitions 128"
abbrev pub with_code : Progress → ℕ → ℕ → Progress
with_code s to n = record {
  symbols = s.symbols;
  code = to;
  transitions = n;
  constraints = s.constraints;
  rows = s.rows;
  relabels = s.relabels;
  relabel_rows = s.relabel_rows;
}

abbrev pub coded_next : CodedStatement → ℕ → Progress → Result Progress Fault
coded_next (CodedStatement.Set f) to s = Ok (with_code s to s.transitions)
coded_next (CodedStatement.Relation r) to s = Ok (with_code s to s.transitions)
coded_next CodedStatement.Transition to s = cond (ltb s.transitions max_transitions) (Ok (with_code s to (s.transitions + 1))) (Err Fault.MaximumPassed)

abbrev pub coded_step : CodedStatement → prelude.Option ℕ → Progress → Result Progress Fault
coded_step k (Some to) s = coded_next k to s
coded_step k None s = Err Fault.NameUndeclared

-- the step of a statement with rows, by whether there may be one more and the progress past its rows: its fault 5, 6, 7 in this order. One whose rows are
-- written is one too many where there may be no more
abbrev pub rows_step : Bool → (ℕ → Progress) → Result ℕ Fault → Result Progress Fault
rows_step room past (Ok next) = cond room (Ok (past next)) (Err Fault.MaximumPassed)
rows_step room past (Err f) = Err f

-- "constraints 128"
abbrev pub with_rows : Progress → ℕ → Progress
with_rows s next = record {
  symbols = s.symbols;
  code = s.code;
  transitions = s.transitions;
  constraints = s.constraints + 1;
  rows = next;
  relabels = s.relabels;
  relabel_rows = s.relabel_rows;
}

abbrev pub constrained_step : Result ℕ Fault → Progress → Result Progress Fault
constrained_step r s = rows_step (ltb s.constraints max_constraints) (with_rows s) r

-- W-205: "At most 64 such statements .. 6 and 7 as for constrain"
abbrev pub with_relabel : Progress → ℕ → Progress
with_relabel s next = record {
  symbols = s.symbols;
  code = s.code;
  transitions = s.transitions;
  constraints = s.constraints;
  rows = s.rows;
  relabels = s.relabels + 1;
  relabel_rows = next;
}

abbrev pub relabelled_step : Result ℕ Fault → Progress → Result Progress Fault
relabelled_step r s = rows_step (ltb s.relabels max_relabels) (with_relabel s) r

-- the progress before the first statement
abbrev pub nothing_read : Progress
nothing_read = record { symbols = 0; code = 0; transitions = 0; constraints = 0; rows = 0; relabels = 0; relabel_rows = 0 }
