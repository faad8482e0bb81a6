-- A text, a line feed, and the bytes of one statement more: if the whole is read, it says what the first text says, and then that statement. "The longer
-- policy has the same statements in order, then one constrain". Assumes nothing.
use Rattle.lexer.specs.declared.ScanFault.{ScanFault}
use Rattle.std.specs.Prelude.{Ok, Err}
use Prim.Native.Nat.{ℕ, ◌+◌}
use native.Mathlib.Omega.{arith}
use mathlib.Core.Path.{◌≡◌, refl, sym, ap, ◌∙◌}
use mathlib.Core.Bool.{false≢true}
use mathlib.Core.List.{List, [], ◌∷◌, ◌++◌, append_assoc}
use mathlib.Core.Option.{none, some}
use lib.ListN.{length, length-append}
use Rattle.lexer.specs.Scan.{scan, Scanned, no_fault}
use Rattle.lexer.specs.Forms.{Forms, ended, part, frames_at, forms_of}
use Rattle.policy.specs.Basics.{Name, each_of}
use Rattle.policy.specs.Statements.{Reference, Constraint, constrain, validatetrans, Written, Statement, Policy, declarations}
use Rattle.policy.specs.Reading.{refer_e, resolved, Judged, reads, opens, fault, judge, policy, read_from, read_all, after_scan, read_policy}
use Rattle.policy.specs.Grammar.{written, block_in}
use Rattle.policy.specs.Scopes.{Scoped, scoped, scoped_in}
use Rattle.policy.specs.Names.{environment_of, Environment}
use Rattle.policy.proofs.IfAny.{IfAny, just, whatever}
use Rattle.policy.proofs.BlockLaws.{no_block, in-no-blocks}
use Rattle.reading_laws.proofs.BlockOrStatement.{is_block_lem, written-no-block, opens-block}
use Rattle.reading_laws.proofs.JudgedGood.{judge-resolves}
use Rattle.reading_laws.proofs.Placed.{placed, written-placed}
use Rattle.reading_laws.proofs.ReadThen.{scoped-then, scoped-statement, line, judged_at, read_one, read-on}
use Rattle.reading_laws.proofs.TextMoved.{text-moved}
use Rattle.reading_laws.proofs.TextThen.{text-then}

-- a text that is read is clean
pub read-clean : (t : List ℕ) (p : Policy) → read_policy t ≡ policy p → (scan t ≡ no_fault) × (read_all (scoped_in [] (forms_of t)) ≡ policy p)
unfolding read_policy
read-clean t p h = go (scan t) refl h
  where
    go : (s : Scanned) → scan t ≡ s → after_scan s (read_all (scoped_in [] (forms_of t))) ≡ policy p → (scan t ≡ no_fault) × (read_all (scoped_in [] (forms_of t)) ≡ policy p)
    go (Err ScanFault.TooLong) e k = let z : ◌≡◌ {A = ℕ} 0 1 = cc in absurd (omega arith)
    go (Err (ScanFault.Wrong at)) e k = let z : ◌≡◌ {A = ℕ} 0 1 = cc in absurd (omega arith)
    go (Ok _) e k = (e, k)

-- a statement more, at the whole-text level: what is in its parentheses, resolved, is the last line
pub record OneStatementMore (p p' : Policy) (w : Written) : Type 0 where
  pub place : ℕ
  pub statement : Statement
  pub resolves : resolved (environment_of (declarations p) []) w ≡ some statement
  pub last : p' ≡ p ++ (line place statement ∷ [])

-- one statement, read after others
one-part : (before : List Scoped) (p p' : Policy) (at : ℕ) (i : Forms) (w : Written) → written i ≡ some w → read_from before (scoped at [] i ∷ []) p ≡ policy p'
    → OneStatementMore p p' w
unfolding read_from
one-part before p p' at i w e h = go (judge before p x) refl (sym (read_one before x [] p) ∙ h)
  where
    x : Scoped
    x = scoped at [] i

    go : (j : Judged) → judge before p x ≡ j → judged_at at p j (read_from (before ++ (x ∷ [])) []) ≡ policy p' → OneStatementMore p p' w
    go (reads s) g k = record {
      place = at;
      statement = s;
      resolves = sym (ap (resolved (environment_of (declarations p) [])) (in-no-blocks w)) ∙ judge-resolves before p x w s e g;
      last = cc;
    }
    go opens g k =
        let o = opens-block before p x g in
        absurd (false≢true (sym (written-no-block i w e) ∙ is_block_lem i o.name o.form))
    go (fault n) g k = let z : ◌≡◌ {A = ℕ} 0 1 = cc in absurd (omega arith)

-- a row of one statement
alone : (at : ℕ) (i : Forms) → block_in i ≡ none → scoped_in [] (part at i ended) ≡ scoped at [] i ∷ []
unfolding scoped_in
alone at i e = scoped-statement [] at i ended e

module _ (t u : List ℕ) where
  -- the whole is read on after the statements of the first text
  longer-text : (p : Policy) → read_policy t ≡ policy p → scan (t ++ (10 ∷ u)) ≡ no_fault
      → read_policy (t ++ (10 ∷ u)) ≡ read_from (scoped_in [] (forms_of t)) (scoped_in [] (frames_at (t ++ (10 ∷ u)) (length t + 1)).here) p
  unfolding read_policy
  longer-text p h k =
      let c = read-clean t p h in
      let more = (frames_at (t ++ (10 ∷ u)) (length t + 1)).here in
      rw k
      (ap (λ (f : Forms). read_all (scoped_in [] f)) (text-then t u c.0)
      ∙ ap read_all (scoped-then [] (forms_of t) more)
      ∙ read-on [] (scoped_in [] (forms_of t)) (scoped_in [] more) [] p c.1)

  -- after the line feed the bytes read as they do by themselves, at other places
  behind-feed : (frames_at (t ++ (10 ∷ u)) (length t + 1)).here ≡ placed (λ p. length (t ++ (10 ∷ [])) + p) (forms_of u)
  behind-feed =
      let e : length (t ++ (10 ∷ [])) ≡ length t + 1 = length-append t (10 ∷ []) in
      ap (λ (l : List ℕ). (frames_at l (length t + 1)).here) (sym (append_assoc t (10 ∷ []) u))
      ∙ ap (λ (k : ℕ). (frames_at ((t ++ (10 ∷ [])) ++ u) k).here) (sym e)
      ∙ text-moved (t ++ (10 ∷ [])) u

  -- "the same statements in order, then one constrain", or any one statement more, by the bytes that are added
  pub one-statement-more : (p p' : Policy) (at : ℕ) (i : Forms) (w : Written) → read_policy t ≡ policy p → read_policy (t ++ (10 ∷ u)) ≡ policy p'
      → forms_of u ≡ part at i ended → written i ≡ some w → OneStatementMore p p' w
  one-statement-more p p' at i w h k e f =
      let g : ℕ → ℕ = λ p. length (t ++ (10 ∷ [])) + p in
      let w' : written (placed g i) ≡ some w = written-placed g i ∙ f in
      let row : scoped_in [] (frames_at (t ++ (10 ∷ u)) (length t + 1)).here ≡ scoped (g at) [] (placed g i) ∷ []
      = ap (scoped_in []) (behind-feed ∙ ap (placed g) e) ∙ alone (g at) (placed g i) (no_block (placed g i) (written-no-block (placed g i) w w')) in
      one-part (scoped_in [] (forms_of t)) p p' (g at) (placed g i) w w'
      (sym (longer-text p h (read-clean (t ++ (10 ∷ u)) p' k).0 ∙ ap (λ (l : List Scoped). read_from (scoped_in [] (forms_of t)) l p) row) ∙ k)

-- a constrain resolves to a constrain
pub record AConstrain (s : Statement) : Type 0 where
  pub class : ℕ
  pub perms : List ℕ
  pub body : Constraint Reference
  pub says : s ≡ constrain class perms body

pub resolved-constrain : (env : Environment) (c : Name) (ps : List Name) (e : Constraint Name) → IfAny AConstrain (resolved env (constrain c ps e))
resolved-constrain env c ps e =
    whatever (env.class c) _ λ c. whatever (each_of (λ p. env.permission c p) ps) _ λ ps.
    whatever (refer_e env e) _ λ e. just (record { class = c; perms = ps; body = e; says = refl })

-- W-205: a validatetrans stays one
pub record ARelabel (s : Statement) : Type 0 where
  pub class : ℕ
  pub body : Constraint Reference
  pub says : s ≡ validatetrans class body

pub resolved-relabel : (env : Environment) (c : Name) (e : Constraint Name) → IfAny ARelabel (resolved env (validatetrans c e))
resolved-relabel env c e = whatever (env.class c) _ λ c. whatever (refer_e env e) _ λ e. just (record { class = c; body = e; says = refl })
