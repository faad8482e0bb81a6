-- What compiling gives, by what each pass finds: the faults in their order, or the table. Assumes nothing.
use Prim.Native.Nat.{ℕ, ◌≤◌, ◌<◌}
use native.Mathlib.Omega.{arith}
use mathlib.Core.Path.{◌≡◌, refl, sym, ap, ap₂, subst, ◌∙◌}
use Rattle.std.specs.Prelude.{Result, Ok, Err}
use mathlib.Core.Bool.{Bool, true, false, cond}
use mathlib.Core.List.{List, [], ◌++◌}
use lib.Dec.{leb}
use lib.ListN.{length, drop}
use borrow.Author.Tests.{le-leb, lt-leb}
use Rattle.lexer.specs.declared.ScanFault.{ScanFault}
use Rattle.lexer.specs.Scan.{scan, Scanned, no_fault}
use Rattle.lexer.specs.Forms.{forms_of}
use Rattle.policy.specs.declared.Refusal as theRefusal
use Rattle.policy.specs.declared.Fault.{Fault}
use Rattle.policy.specs.declared.FaultAt.{FaultAt}
use Rattle.policy.specs.Answers.{fault_number, placed, refusal_in, compiling_of}
use Rattle.policy.specs.Statements.{Policy}
use Rattle.policy.specs.Reading.{Read, policy, refused, after_scan, read_all, read_policy}
use Rattle.policy.specs.Scopes.{scoped_in}
use Rattle.policy.specs.Image.{Image, image_of}
use Rattle.policy.specs.Encode.{encode, newest}
use Rattle.policy.specs.Outcome.{Input, of_text, accept, policy_of, Compiled, compiles, refuses, fitted, compiled, refusal_of, accepted, rejected, outcome_of, outcome, after}
use Rattle.resolver.specs.LaterFaults.{Resolves}
use Rattle.statement_reader.specs.declared.Progress.{Progress}
use Rattle.statement_reader.specs.Memory.{Memory, Holds}
use Rattle.parser.specs.Parses.{Reads, Parses}
use Rattle.demand_laws.proofs.Demand3.{demand-3}
use Rattle.bound_laws.proofs.Places.{refusal-place}
use Rattle.compiler.specs.Passes.{Answers, Gives, compiled_by}
use Rattle.compiler.specs.Promise.{Compiles}

-- a refusal, and the lent memory as it was
refuse : {before : List ℕ} (f : FaultAt) → Gives (refuses (fault_number f.fault) f.place) before before (Err f)
refuse f = record { answer = (refl, refl); memory = refl }

-- ---- 10

pub too_short : (i : Image) (before : List ℕ) (n : ℕ) → n ≡ length (encode newest i) → length before < n
    → Gives (fitted (length before) i) before before (Err (record { fault = Fault.MemoryTooShort; place = n }))
too_short i before n e h =
    let no_room : leb (length (encode newest i)) (length before) ≡ false = lt-leb (length (encode newest i)) (length before) (omega arith) in
    rw no_room (record { answer = (refl, e); memory = refl })

pub fitting : (i : Image) (before after : List ℕ) (n : ℕ) → n ≡ length (encode newest i) → n ≤ length before → after ≡ encode newest i ++ drop (length (encode newest i)) before
    → Gives (fitted (length before) i) before after (Ok n)
fitting i before after n e h written =
    let room : leb (length (encode newest i)) (length before) ≡ true = le-leb (length (encode newest i)) (length before) (omega arith) in
    rw room (record { answer = e; memory = written })

-- ---- 8 and 9

module _ {p : Policy} {us rs ts before : List ℕ} where
  pub refused-later : {f : FaultAt} → Resolves p us rs ts (Err f) → Gives (compiled_by (accept p) (length before)) before before (Err f)
  refused-later {f} resolves = subst (λ (x : Read). Gives (compiled_by x (length before)) before before (Err f)) resolves.answer (refuse f)

  pub passes : {after : List ℕ} {a : Result ℕ FaultAt} → Resolves p us rs ts (Ok tt) → Gives (compiled_by (policy p) (length before)) before after a
      → Gives (compiled_by (accept p) (length before)) before after a
  passes {after} {a} resolves g = subst (λ (x : Read). Gives (compiled_by x (length before)) before after a) resolves.answer g

-- ---- 1 to 7

-- what is read, judged for 8 and 9
abbrev accepting : Read → Read
accepting r = elim r [ refused n at ↦ refused n at | policy p ↦ accept p ]

compiled-reads : (text : List ℕ) (lent : ℕ) (r : Read) → read_policy text ≡ r → compiled (of_text text) lent ≡ compiled_by (accepting r) lent
unfolding compiled policy_of
compiled-reads text lent r e = ap (λ (x : Read). compiled_by (accepting x) lent) e

module _ (text : List ℕ) {before : List ℕ} where
  pub refused-gives : (f : FaultAt) → read_policy text ≡ refused (fault_number f.fault) f.place
      → Gives (compiled (of_text text) (length before)) before before (Err f)
  refused-gives f e =
      subst (λ (x : Compiled). Gives x before before (Err f)) (sym (compiled-reads text (length before) (refused (fault_number f.fault) f.place) e)) (refuse f)

  pub accepted-gives : {after : List ℕ} {a : Result ℕ FaultAt} (p : Policy) → read_policy text ≡ policy p → Gives (compiled_by (accept p) (length before)) before after a
      → Gives (compiled (of_text text) (length before)) before after a
  accepted-gives {after} {a} p e g =
      subst (λ (x : Compiled). Gives x before after a) (sym (compiled-reads text (length before) (policy p) e)) g

-- what the scan finds
pub read-scanned : (text : List ℕ) (s : Scanned) → s ≡ scan text → read_policy text ≡ after_scan s (read_all (scoped_in [] (forms_of text)))
unfolding read_policy
read-scanned text s e = ap (λ (x : Scanned). after_scan x (read_all (scoped_in [] (forms_of text)))) (sym e)

pub refused-scanned : (text : List ℕ) (f : ScanFault) → Err f ≡ scan text → read_policy text ≡ refused (fault_number (placed f).fault) (placed f).place
refused-scanned text ScanFault.TooLong e = read-scanned text (Err ScanFault.TooLong) e
refused-scanned text (ScanFault.Wrong p) e = read-scanned text (Err (ScanFault.Wrong p)) e

-- what the parser finds
module _ {text : List ℕ} {lent now : Memory} (clean : scan text ≡ no_fault) where
  pub refused-read : {f : FaultAt} → Parses text lent now (Err f) → read_policy text ≡ refused (fault_number f.fault) f.place
  refused-read {f} parses = read-scanned text no_fault (sym clean) ∙ by (read_all (scoped_in [] (forms_of text))) (parses.reads clean)
    where
      by : (x : Read) → Reads x lent now (Err f) → x ≡ refused (fault_number f.fault) f.place
      by (policy p) h = absurd h
      by (refused m q) h = ap₂ {C = Read} (λ (i j : ℕ). refused i j) (sym h.0) (sym h.1)

  pub accepted-read : {s : Progress} → Parses text lent now (Ok s) → (p : Policy) × (read_policy text ≡ policy p) × Holds p [] lent now s
  accepted-read {s} parses = by (read_all (scoped_in [] (forms_of text))) refl (parses.reads clean)
    where
      by : (x : Read) → read_all (scoped_in [] (forms_of text)) ≡ x → Reads x lent now (Ok s) → (p : Policy) × (read_policy text ≡ policy p) × Holds p [] lent now s
      by (policy p) i h = (p, read-scanned text no_fault (sym clean) ∙ i, h)
      by (refused m q) i h = absurd h

-- ---- the promise

-- the numbers tell the faults apart
pub only-10 : (f : Fault) → fault_number f ≡ 10 → f ≡ Fault.MemoryTooShort
only-10 Fault.TextTooLong h = absurd (omega (arith, h))
only-10 Fault.WrongByte h = absurd (omega (arith, h))
only-10 Fault.NoForm h = absurd (omega (arith, h))
only-10 Fault.DeclaredAgain h = absurd (omega (arith, h))
only-10 Fault.NameUndeclared h = absurd (omega (arith, h))
only-10 Fault.MaximumPassed h = absurd (omega (arith, h))
only-10 Fault.StackTooSmall h = absurd (omega (arith, h))
only-10 Fault.Cycle h = absurd (omega (arith, h))
only-10 Fault.Clash h = absurd (omega (arith, h))
only-10 Fault.MemoryTooShort h = refl
only-10 Fault.NotSound h = absurd (omega (arith, h))
only-10 Fault.NumberUndeclared h = absurd (omega (arith, h))

-- a refusal other than 10 is placed in the text
in-text : (x : Input) (lent n at : ℕ) → compiled x lent ≡ refuses n at → (n ≡ 10 → ⊥) → at ≤ 65535
unfolding compiled
in-text x lent n at e other = by (policy_of x) refl e
  where
    fitted-10 : (i : Image) (b : Bool) → cond b (compiles i) (refuses 10 (length (encode newest i))) ≡ refuses n at → n ≡ 10
    fitted-10 i true h = let z : ◌≡◌ {A = ℕ} 0 1 = cc in absurd (omega arith)
    fitted-10 i false h = let same : 10 ≡ n = cc in sym same

    by : (r : Read) → policy_of x ≡ r → compiled_by r lent ≡ refuses n at → at ≤ 65535
    by (refused m b) h k = let same : b ≡ at = cc in subst (λ (p : ℕ). p ≤ 65535) same (refusal-place x m b h)
    by (policy p) h k = absurd (other (fitted-10 (image_of p) (leb (length (encode newest (image_of p))) lent) k))

-- what the passes come to, by what compiling gives
passed-written : (c : Compiled) (n : ℕ) → Answers c (Ok n) → (x : Input) → accepted n ≡ outcome_of x c
passed-written (compiles i) n e x = ap accepted e
passed-written (refuses m b) n e x = absurd e

passed-refused : (c : Compiled) (f : FaultAt) → Answers c (Err f) → c ≡ refuses (fault_number f.fault) f.place
passed-refused (compiles i) f e = absurd e
passed-refused (refuses m b) f e = ap₂ refuses (sym e.0) (sym e.1)

module _ (x : Input) (before : List ℕ) {rest : List ℕ} where
  pub written : {n : ℕ} → Gives (compiled x (length before)) before rest (Ok n) → Compiles x before rest (Ok n)
  unfolding outcome after
  written {n} g =
      let said = passed-written (compiled x (length before)) n g.answer x in
      record { answer = said; memory = g.memory; answers = λ k e. demand-3 x before k (sym said ∙ ap compiling_of e) }

  pub not_written : {f : FaultAt} (r : theRefusal.Refusal Fault) → Gives (compiled x (length before)) before rest (Err f)
      → (((fault_number f.fault ≡ 10 → ⊥) → f.place ≤ 65535) → refusal_in r ≡ refusal_of x (fault_number f.fault) f.place) → Compiles x before rest (Err r)
  unfolding outcome after
  not_written {f} r g h =
      let c = passed-refused (compiled x (length before)) f g.answer in
      record {
        answer = ap rejected (h (in-text x (length before) (fault_number f.fault) f.place c)) ∙ sym (ap (outcome_of x) c);
        memory = g.memory;
        answers = λ k e. let z : ◌≡◌ {A = ℕ} 0 1 = cc in absurd (omega arith);
      }
