-- One statement: its form is judged first, and then the step that reads it. Assumes nothing.
use Rattle.std.specs.Prelude.{Result, Ok, Err}
use Rattle.policy.specs.declared.Fault.{Fault}
use Prim.Native.Nat.{ℕ, ◌-◌, ◌≤◌, ◌<◌}
use native.Mathlib.Omega.{arith}
use mathlib.Core.Path.{◌≡◌, refl, sym, ap, subst, ◌∙◌}
use mathlib.Core.Bool.{Bool, true, false, false≢true}
use mathlib.Core.List.{List}
use mathlib.Core.Option as maybe
use mathlib.Core.Option.{none, some}
use lib.ListN.{length}
use Rattle.std.specs.Prelude.{Option, Some, None}
use Rattle.lexer.specs.Scan.{max_level}
use Rattle.lexer.specs.Forms.{Forms, frames_at, trim}
use Rattle.policy.specs.Basics.{Name}
use Rattle.policy.specs.Statements.{Written, Policy}
use Rattle.policy.specs.Grammar.{written}
use Rattle.policy.specs.Reading.{Judged, reads, opens, fault, judge_statement}
use Rattle.items.specs.Looks.{row_end}
use Rattle.items.specs.Reads.{is_some, Reads}
use Rattle.items.proofs.Counts.{none_of}
use Rattle.items.proofs.Rows.{Past, passes, refuses}
use Rattle.statement_reader.specs.Memory.{Memory, constraint_room, row_room}
use Rattle.statement_reader.specs.Steps.{Stepped, StepsAt}
use Rattle.statement_reader.specs.declared.Progress.{Progress}
use Rattle.statement_reader.proofs.MemoryLaws.{now-long, rest-long}
use Rattle.parser.specs.Parts.{StatedBy, StatedAhead, States}
use Rattle.parser.specs.declared.Stated.{Stated}

is-written : (w : maybe.Option Written) → is_some w ≡ true → (v : Written) × (w ≡ some v)
is-written none e = absurd (false≢true e)
is-written (some v) e = (v, refl)

-- the row of the statement, its parentheses being open
abbrev row : List ℕ → ℕ → Forms
row t at = (frames_at t at).here

-- the form that was judged
abbrev Judges : List ℕ → ℕ → Option ℕ → Type 0
Judges t at f = Reads t at (is_some (written (trim (row t at) (max_level - 1)))) f

-- where no part lies too deep it is the statement's
as-judged : (t : List ℕ) (at : ℕ) (b : Bool) → is_some (written (trim (row t at) (max_level - 1))) ≡ b → trim (row t at) (max_level - 1) ≡ row t at
    → is_some (written (row t at)) ≡ b
as-judged t at b e d = ap (λ (g : Forms). is_some (written g)) (sym d) ∙ e

pub formless : {t : List ℕ} {at place : ℕ} {before after : Memory} {s : Progress} {f : Option ℕ} → Judges t at f → f ≡ None
    → States t at place before after s (Err Fault.NoForm)
formless {t} {at} {place} {before} {after} x e = record {
  says = λ lent p path h below names deep room.
      let nothing = none_of (written (row t at)) (as-judged t at false (refuses (subst (Judges t at) e x)) deep) in
      subst (λ (o : maybe.Option Written). StatedBy (judge_statement path p o) t at p path place lent after (Err Fault.NoForm)) (sym nothing) refl;
  ahead = tt;
}

-- what is answered for a step
abbrev pub answer_of : ℕ → Result Progress Fault → Result Stated Fault
answer_of past (Ok q) = Ok (record { past = past; progress = q })
answer_of past (Err f) = Err f

module _ (t : List ℕ) (at place past : ℕ) (after : Memory) (end : past ≡ row_end t at) where
  -- by how the statement is judged, the step that was made
  stated-by : (lent : Memory) (p : Policy) (path : List Name) (j : Judged) (r : Result Progress Fault) → Stepped j p path place lent after r
      → StatedBy j t at p path place lent after (answer_of past r)
  stated-by lent p path (reads st) (Ok q) g = (end, g)
  stated-by lent p path (reads st) (Err f) g = absurd g
  stated-by lent p path opens r g = absurd g
  stated-by lent p path (fault n) (Ok q) g = absurd g
  stated-by lent p path (fault n) (Err f) g = g

pub stated : {t : List ℕ} {at place past unit : ℕ} {before after : Memory} {s : Progress} {f : Option ℕ} {k : Result Progress Fault} → Judges t at f → f ≡ Some past
    → (place < 65536 → unit ≡ place) → StepsAt t at unit before after s k
    → 65536 ≤ length before.code → 1536 ≤ length before.constraints → 18432 ≤ length before.rows
    → (r : Result Stated Fault) → r ≡ answer_of past k → States t at place before after s r
stated {t} {at} {place} {past} {unit} {before} {after} {s} {f} {k} x e u y wide many long r i = record {
  says = λ lent p path h below names deep room.
      let one = is-written (written (row t at)) (as-judged t at true formed.good deep) in
      let step = (subst (λ (n : ℕ). StepsAt t at n before after s k) (u below) y).says lent p path one.0 h
      (record { names = names; uncut = deep; form = one.1 })
      (record {
        code = λ st j. let l = room st (ap (judge_statement path p) one.1 ∙ j) in omega (arith, now-long h.filled.code);
        constraints = rest-long constraint_room 1536 lent.constraints before.constraints h.filled.relabel-records (omega arith) many;
        rows = rest-long row_room 18432 lent.rows before.rows h.filled.relabel-rows (omega arith) long;
      }) in
      let answer = stated-by t at place past after (sym formed.end) lent p path (judge_statement path p (some one.0)) k step in
      subst (λ (o : maybe.Option Written). StatedBy (judge_statement path p o) t at p path place lent after r) (sym one.1)
      (subst (StatedBy (judge_statement path p (some one.0)) t at p path place lent after) (sym i) answer);
  ahead = subst (StatedAhead t at) (sym i) (ahead_of k);
}
  where
    formed : Past t at (is_some (written (trim (row t at) (max_level - 1)))) past
    formed = passes (subst (Judges t at) e x)

    ahead_of : (k : Result Progress Fault) → StatedAhead t at (answer_of past k)
    ahead_of (Ok q) = (formed.less, formed.fits)
    ahead_of (Err f) = tt
