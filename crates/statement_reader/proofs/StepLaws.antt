-- One statement more in the memory: what is written for a declaration, a statement with code and one with rows is what the statements with it leave
-- there, and a fault that is answered is the statement's. Assumes nothing.
use Rattle.std.specs.Prelude.{Result, Ok, Err}
use Rattle.policy.specs.declared.Fault.{Fault}
use Prim.Native.Nat.{ℕ, ◌+◌, ◌-◌, ◌*◌, ◌≤◌}
use native.Mathlib.Omega.{arith}
use borrow.Author.Tests.{ltb-true, leb-true}
use mathlib.Core.Path.{◌≡◌, refl, sym, ap, ap₂, subst, ◌∙◌}
use mathlib.Core.Bool.{Bool, true, false, not, ◌&&◌, cond, true≢false}
use mathlib.Core.List.{List, [], ◌∷◌, ◌++◌, append-nil}
use mathlib.Core.Option.{Option, none, some}
use lib.Dec.{ltb, leb}
use Rattle.std.specs.Prelude as prelude
use Rattle.std.specs.Prelude.{None, Some, Result, Ok, Err}
use lib.ListN.{length, take, drop, length-append, length-drop}
use lib.Seq.{take-take, length-take-le}
use Rattle.byte_slices.specs.Parts.{put}
use Rattle.bitset.specs.Relations.{joined}
use Rattle.lexer.specs.Forms.{frames_at, trim}
use Rattle.lexer.specs.Scan.{max_level}
use Rattle.policy.specs.Basics.{Name, each}
use Rattle.policy.specs.Words.{Keyword, constrain_k, relabel_k}
use Rattle.policy.specs.Maxima.{max_transitions, max_constraints, max_rows, max_relabels, max_relabel_rows, max_stack}
use Rattle.policy.specs.Statements.{Declaration, thing_of, attribute_of, plain, class, Reference, Constraint, Written, Statement, declare, attributeset, gives, roletransition}
use Rattle.policy.specs.Statements.{constrain, Policy, declared, declarations, transition, transitions, Constrain, constrained, constrains, constrain_body, size}
use Rattle.policy.specs.Statements.{need, validatetrans, Relabel, relabelled, relabels, relabel_body}
use Rattle.policy.specs.Grammar.{formed}
use Rattle.policy.specs.Reading.{full_declaration, is_new, has_room, is_short, resolved, row_count, Judged, reads, fault, judge_maxima, judge_resolved, judge_statement}
use Rattle.policy.specs.Rows as rows
use Rattle.policy.specs.Encode.{constraint_bytes, row_bytes, relabel_bytes}
use Rattle.policy.proofs.Lists.{both_true}
use Rattle.table_laws.proofs.Lengths.{rows-length}
use Rattle.table_laws.proofs.Records.{constraint-wide, relabel-wide}
use Rattle.reading_laws.proofs.ReadThen.{line}
use Rattle.statement_code.specs.Code.{declaration_code, statement_code, code_of}
use Rattle.code_laws.proofs.CodeFits.{code-last}
use Rattle.statement_code.specs.UnitWrites.{Wrote}
use Rattle.declarations.specs.Declares as declaring
use Rattle.declarations.specs.Declares.{DeclaresAt, Declares}
use Rattle.declarations.proofs.SymbolMemory.{holds-symbols}
use Rattle.statement_writer.specs.ResolvedUnits as coding
use Rattle.policy.specs.Answers.{family_of, relation_of}
use Rattle.policy.specs.Names.{environment_of}
use Rattle.policy.proofs.RowCounts.{rows-count, rows_last}
use Rattle.statement_writer.specs.ResolvedUnits.{WritesStatement}
use Rattle.constrain_statement.specs.ConstrainWrites as constraining
use Rattle.constrain_statement.specs.ConstrainWrites.{record_of, WritesConstrain}
use Rattle.constrain_statement.specs.Limits.{fits_within, IsUndeclared, OrFault, Adds}
use Rattle.relabel_statement.specs.RelabelWrites as relabelling
use Rattle.relabel_statement.specs.RelabelWrites.{WritesRelabel}
use Rattle.statement_reader.specs.Memory.{Memory, memory, symbols_of, constraint_room, row_room, Starts, Filled, Holds}
use Rattle.statement_reader.specs.Steps.{coded_keyword, Stepped, RowIs, Room, Steps, with_symbols, declared_step, with_code, coded_step}
use Rattle.statement_reader.specs.Steps.{rows_step, with_rows, constrained_step, with_relabel, relabelled_step}
use Rattle.statement_reader.specs.declared.Progress.{Progress}
use Rattle.statement_reader.specs.declared.CodedStatement.{CodedStatement}
use Rattle.statement_reader.proofs.MemoryLaws.{now-long, front, put-behind, wrote-behind, FrontLent, RestLent}
use Rattle.statement_reader.proofs.Sections.{declared-more, declared_same, symbols-more, symbols-same, transitions-more, transitions-same}
use Rattle.statement_reader.proofs.Sections.{constrains-more, constrains-same, constraints-more, constraints-same, rows_more, rows_same, relabels-more}
use Rattle.statement_reader.proofs.Sections.{relabels-same, relabel-records-more, relabel-records-same, relabel-rows-more, relabel-rows-same}
use Rattle.statement_reader.proofs.KeywordKinds.{IsOf, formed-of, resolved-of}
use Rattle.symbols.specs.Section.{name_bytes}

-- the rows of one statement more
rows_behind : {lent content now after : List ℕ} (row next : ℕ) (e : Constraint Reference) → Starts lent content now (6 * row)
    → after ≡ put now (6 * row) (joined (each row_bytes (rows.rows_of e))) → next ≡ row + size e → 6 * next ≤ length lent
    → Starts lent (content ++ joined (each row_bytes (rows.rows_of e))) after (6 * next)
rows_behind row next e s a n f =
    put-behind s (joined (each row_bytes (rows.rows_of e))) _ _ a (omega (arith, n, rows-length (rows.rows_of e), rows-count e)) (omega (arith, f, now-long s))

-- what the maxima allow
within : (statements most count n : ℕ) → fits_within statements most count n ≡ true → (ltb count statements ≡ true) × (count + 1 ≤ statements) × (n ≤ most)
within statements most count n h =
    let both = both_true (ltb count statements) (leb n most) h in
    let few = ltb-true count statements both.0 in
    (both.0, omega (arith, few), leb-true n most both.1)

module _ {p : Policy} {path : List Name} {lent : Memory} {sy co cs rs : List ℕ} {s : Progress} (h : Holds p path lent (memory sy co cs rs) s) where
  -- the memory of the symbols holds what the statements declare
  table-holds : declaring.Holds sy s.symbols (declarations p)
  unfolding symbols_of
  table-holds = record {
    front = sym (take-take s.symbols name_bytes sy h.filled.chained.below) ∙ front h.filled.symbols;
    inside = omega (arith, h.filled.chained.below, h.filled.chained.room);
    good = h.accepted.names;
    chained = h.filled.chained;
  }

  names-long : length (take name_bytes sy) ≡ name_bytes
  names-long = length-take-le name_bytes sy (omega (arith, h.filled.chained.room))

  module _ (place : ℕ) where
    filled-declared : {sy' co' : List ℕ} {past to : ℕ} (d : Declaration) → declaring.Adds sy sy' s.symbols past (declarations p) d
        → Wrote co s.code (declaration_code place d) co' to → length (code_of p) + length (declaration_code place d) ≤ length lent.code
        → Filled (p ++ (line place (declare d) ∷ [])) path lent (memory sy' co' cs rs) (with_symbols (with_code s to s.transitions) past)
    filled-declared d a w f =
        let l = line place (declare d) in
        record {
          symbols = rw (symbols-more p l d refl) (put-behind h.filled.symbols _ _ _ a.written a.moved (omega (arith, a.fits, names-long)));
          chained = rw (declared-more p l d refl) a.chained;
          scope = a.scope path h.filled.scope;
          code = rw (code-last p l) (wrote-behind h.filled.code _ _ _ w f);
          constraints = rw (constraints-same p l refl) h.filled.constraints;
          rows = rw (rows_same p l refl) h.filled.rows;
          relabel-records = rw (relabel-records-same p l refl) h.filled.relabel-records;
          relabel-rows = rw (relabel-rows-same p l refl) h.filled.relabel-rows;
          transition-count = h.filled.transition-count ∙ ap length (sym (transitions-same p l refl));
          constraint-count = h.filled.constraint-count ∙ ap length (sym (constrains-same p l refl));
          row_count_lem = h.filled.row_count_lem ∙ ap (row_count constrain_body) (sym (constrains-same p l refl));
          relabel-count = h.filled.relabel-count ∙ ap length (sym (relabels-same p l refl));
          relabel-row-count = h.filled.relabel-row-count ∙ ap (row_count relabel_body) (sym (relabels-same p l refl));
        }

    filled-coded : {co' : List ℕ} {to : ℕ} (st : Statement) → declared (line place st) ≡ none → constrained (line place st) ≡ none → relabelled (line place st) ≡ none
        → (n : ℕ) → n ≡ length (transitions (p ++ (line place st ∷ [])))
        → Wrote co s.code (statement_code place st) co' to → length (code_of p) + length (statement_code place st) ≤ length lent.code
        → Filled (p ++ (line place st ∷ [])) path lent (memory sy co' cs rs) (with_code s to n)
    filled-coded st d k v n e w f =
        let l = line place st in
        record {
          symbols = rw (symbols-same p l d) h.filled.symbols;
          chained = rw (declared_same p l d) h.filled.chained;
          scope = h.filled.scope;
          code = rw (code-last p l) (wrote-behind h.filled.code _ _ _ w f);
          constraints = rw (constraints-same p l k) h.filled.constraints;
          rows = rw (rows_same p l k) h.filled.rows;
          relabel-records = rw (relabel-records-same p l v) h.filled.relabel-records;
          relabel-rows = rw (relabel-rows-same p l v) h.filled.relabel-rows;
          transition-count = e;
          constraint-count = h.filled.constraint-count ∙ ap length (sym (constrains-same p l k));
          row_count_lem = h.filled.row_count_lem ∙ ap (row_count constrain_body) (sym (constrains-same p l k));
          relabel-count = h.filled.relabel-count ∙ ap length (sym (relabels-same p l v));
          relabel-row-count = h.filled.relabel-row-count ∙ ap (row_count relabel_body) (sym (relabels-same p l v));
        }

    module _ (wide : 1536 ≤ length lent.constraints) (long : 18432 ≤ length lent.rows) where
      -- how long the parts of the memory are
      records-first : length (take constraint_room lent.constraints) ≡ 1280
      records-first = length-take-le constraint_room lent.constraints (omega arith)

      rows-first : length (take row_room lent.rows) ≡ 12288
      rows-first = length-take-le row_room lent.rows (omega arith)

      records-second : 256 ≤ length (drop constraint_room lent.constraints)
      records-second = omega (arith, wide, length-drop constraint_room lent.constraints)

      rows-second : 6144 ≤ length (drop row_room lent.rows)
      rows-second = omega (arith, long, length-drop row_room lent.rows)

      filled-constrained : {cs' rs' z w x y : List ℕ} {next : ℕ} (c : ℕ) (ps : List ℕ) (e : Constraint Reference)
          → FrontLent constraint_room cs cs' z x → FrontLent row_room rs rs' w y
          → Adds max_constraints max_rows e 10 (constraint_bytes (record_of c ps e s.rows)) (take constraint_room cs) x s.constraints (take row_room rs) y s.rows next
          → Filled (p ++ (line place (constrain c ps e) ∷ [])) path lent (memory sy co cs' rs') (with_rows s next)
      filled-constrained {cs'} {rs'} {z} {w} {x} {y} {next} c ps e u v a =
          let l = line place (constrain c ps e) in
          let k : Constrain = record { class = c; perms = ps; body = e } in
          let fits = within max_constraints max_rows s.constraints (s.rows + size e) a.fits in
          let constraint = record_of c ps e (row_count constrain_body (constrains p)) in
          let written : x ≡ put (take constraint_room cs) (10 * s.constraints) (constraint_bytes constraint) =
          a.recorded ∙ ap (λ (n : ℕ). put (take constraint_room cs) (10 * s.constraints) (constraint_bytes (record_of c ps e n))) h.filled.row_count_lem in
          let counted : s.constraints + 1 ≡ length (constrains p ++ (k ∷ [])) =
          omega (arith, h.filled.constraint-count, length-append (constrains p) (k ∷ [])) in
          let numbered : next ≡ row_count constrain_body (constrains p ++ (k ∷ [])) =
          omega (arith, a.next_row, h.filled.row_count_lem, rows_last constrain_body (constrains p) k) in
          record {
            symbols = rw (symbols-same p l refl) h.filled.symbols;
            chained = rw (declared_same p l refl) h.filled.chained;
            scope = h.filled.scope;
            code = rw (code-last p l, append-nil) h.filled.code;
            constraints = rw (constraints-more p l k refl, u.is) (put-behind h.filled.constraints (constraint_bytes constraint) x
                (10 * (s.constraints + 1)) written (omega (arith, constraint-wide constraint))
                (omega (arith, fits.1, records-first, now-long h.filled.constraints)));
            rows = rw (rows_more p l k refl, v.is) (rows_behind s.rows next e h.filled.rows a.rows a.next_row
                (omega (arith, fits.2, a.next_row, rows-first)));
            relabel-records = rw (relabel-records-same p l refl, u.kept) h.filled.relabel-records;
            relabel-rows = rw (relabel-rows-same p l refl, v.kept) h.filled.relabel-rows;
            transition-count = h.filled.transition-count ∙ ap length (sym (transitions-same p l refl));
            constraint-count = rw (constrains-more p l k refl) counted;
            row_count_lem = rw (constrains-more p l k refl) numbered;
            relabel-count = h.filled.relabel-count ∙ ap length (sym (relabels-same p l refl));
            relabel-row-count = h.filled.relabel-row-count ∙ ap (row_count relabel_body) (sym (relabels-same p l refl));
          }

      filled-relabelled : {cs' rs' z w x y : List ℕ} {next : ℕ} (c : ℕ) (e : Constraint Reference)
          → RestLent constraint_room cs cs' z x → RestLent row_room rs rs' w y
          → Adds max_relabels max_relabel_rows e 4 (relabel_bytes (relabelling.record_with c (size e))) (drop constraint_room cs) x s.relabels (drop row_room rs) y
          s.relabel_rows next
          → Filled (p ++ (line place (validatetrans c e) ∷ [])) path lent (memory sy co cs' rs') (with_relabel s next)
      filled-relabelled {cs'} {rs'} {z} {w} {x} {y} {next} c e u v a =
          let l = line place (validatetrans c e) in
          let k : Relabel = record { class = c; body = e } in
          let fits = within max_relabels max_relabel_rows s.relabels (s.relabel_rows + size e) a.fits in
          let relabel = relabelling.record_with c (size e) in
          let counted : s.relabels + 1 ≡ length (relabels p ++ (k ∷ [])) = omega (arith, h.filled.relabel-count, length-append (relabels p) (k ∷ [])) in
          let numbered : next ≡ row_count relabel_body (relabels p ++ (k ∷ [])) =
          omega (arith, a.next_row, h.filled.relabel-row-count, rows_last relabel_body (relabels p) k) in
          record {
            symbols = rw (symbols-same p l refl) h.filled.symbols;
            chained = rw (declared_same p l refl) h.filled.chained;
            scope = h.filled.scope;
            code = rw (code-last p l, append-nil) h.filled.code;
            constraints = rw (constraints-same p l refl, u.kept) h.filled.constraints;
            rows = rw (rows_same p l refl, v.kept) h.filled.rows;
            relabel-records = rw (relabel-records-more p l k refl, u.is) (put-behind h.filled.relabel-records (relabel_bytes relabel) x
                (4 * (s.relabels + 1)) a.recorded (omega (arith, relabel-wide relabel))
                (omega (arith, fits.1, records-second, now-long h.filled.relabel-records)));
            relabel-rows =
                rw (relabel-rows-more p l k refl, v.is)
                (rows_behind s.relabel_rows next e h.filled.relabel-rows a.rows a.next_row (omega (arith, fits.2, a.next_row, rows-second)));
            transition-count = h.filled.transition-count ∙ ap length (sym (transitions-same p l refl));
            constraint-count = h.filled.constraint-count ∙ ap length (sym (constrains-same p l refl));
            row_count_lem = h.filled.row_count_lem ∙ ap (row_count constrain_body) (sym (constrains-same p l refl));
            relabel-count = rw (relabels-more p l k refl) counted;
            relabel-row-count = rw (relabels-more p l k refl) numbered;
          }

-- the same step of the same judgement
stepped-as : (p : Policy) (path : List Name) (place : ℕ) (lent now : Memory) {j i : Judged} {r q : Result Progress Fault} → j ≡ i → r ≡ q
    → Stepped i p path place lent now q → Stepped j p path place lent now r
stepped-as p path place lent now {j} {i} {r} {q} e f x =
    subst (λ (a : Judged). Stepped a p path place lent now r) (sym e) (subst (λ (b : Result Progress Fault). Stepped i p path place lent now b) (sym f) x)

-- DECLARATIONS: fault 4, then 6
module _ (p : Policy) (path : List Name) (d : Declaration) where
  -- under its full name
  abbrev named : Declaration
  named = full_declaration path d

  abbrev judged_by : Bool → Bool → Judged
  judged_by new room = elim (not new) [ true ↦ fault 4 | false ↦ cond room (cond true (reads (declare named)) (fault 7)) (fault 6) ]

  judged-declared : (new room : Bool) → is_new (declarations p) named ≡ new → has_room (declarations p) named && is_short named ≡ room
      → judge_statement path p (some (declare d)) ≡ judged_by new room
  judged-declared new room e f = ap₂ judged_by e f

-- its code has no name in it
same_code : (path : List Name) (place : ℕ) (d : Declaration) → declaration_code place d ≡ declaration_code place (full_declaration path d)
same_code path place (plain (thing_of f) w) = refl
same_code path place (plain (attribute_of f) w) = refl
same_code path place (class w ps) = refl

-- what is written for the declaration that the statement is
pub record Declaring (k : Keyword) (place : ℕ) (co co' : List ℕ) (from to : ℕ) : Type 0 where
  pub of : (w : Written) → IsOf k w → (d : Declaration) × (w ≡ declare d) × Wrote co from (declaration_code place d) co' to

module _ {t : List ℕ} {at place : ℕ} {k : Keyword} {sy sy' co co' cs rs : List ℕ} {s : Progress} {to : ℕ} where
  pub declared-steps : (r : Result ℕ Fault) → DeclaresAt t at k sy sy' s.symbols r → Declaring k place co co' s.code to
      → Steps t at place k (memory sy co cs rs) (memory sy' co' cs rs) s (declared_step r (with_code s to s.transitions))
  declared-steps r a x = record { says = says r a }
    where
      says : (r : Result ℕ Fault) → DeclaresAt t at k sy sy' s.symbols r → (lent : Memory) (p : Policy) (path : List Name) (w : Written) → Holds p path lent (memory sy co cs rs) s
          → RowIs (frames_at t at).here (formed k (frames_at t at).here) w → Room lent p path place w
          → Stepped (judge_statement path p (some w)) p path place lent (memory sy' co' cs rs) (declared_step r (with_code s to s.transitions))
      says r a lent p path w h row room =
          go r (a.says (declarations p) path d (table-holds h) h.filled.scope h.blocks row.names (row.form ∙ ap (λ (v : Written). some v) o.1))
        where
          o : (d : Declaration) × (w ≡ declare d) × Wrote co s.code (declaration_code place d) co' to
          o = x.of w ((formed-of k (frames_at t at).here).has w row.form)

          d : Declaration
          d = o.0

          as-declared : (j : Judged) → judge_statement path p (some (declare d)) ≡ j → judge_statement path p (some w) ≡ j
          as-declared j e = ap (λ (v : Written). judge_statement path p (some v)) o.1 ∙ e

          go : (r : Result ℕ Fault) → Declares sy sy' s.symbols (declarations p) (named p path d) r
              → Stepped (judge_statement path p (some w)) p path place lent (memory sy' co' cs rs) (declared_step r (with_code s to s.transitions))
          go (Ok past) y =
              let e = as-declared _ (judged-declared p path d true true y.new y.room) in
              let wrote = subst (λ (us : List ℕ). Wrote co s.code us co' to) (same_code path place d) o.2 in
              stepped-as p path place lent (memory sy' co' cs rs) e refl (filled-declared h place (named p path d) y wrote (room.code (declare (named p path d)) e))
          go (Err Fault.DeclaredAgain) y =
              stepped-as p path place lent (memory sy' co' cs rs) (as-declared _ (judged-declared p path d false _ y.0 refl)) refl refl
          go (Err Fault.MaximumPassed) y = stepped-as p path place lent (memory sy' co' cs rs) (as-declared _ (judged-declared p path d true false y.0 y.1)) refl refl
          go (Err Fault.TextTooLong) y = absurd y
          go (Err Fault.WrongByte) y = absurd y
          go (Err Fault.NoForm) y = absurd y
          go (Err Fault.NameUndeclared) y = absurd y
          go (Err Fault.StackTooSmall) y = absurd y
          go (Err Fault.Cycle) y = absurd y
          go (Err Fault.Clash) y = absurd y
          go (Err Fault.MemoryTooShort) y = absurd y
          go (Err Fault.NotSound) y = absurd y
          go (Err Fault.NumberUndeclared) y = absurd y

-- a statement that is no declaration is judged by its names
naming : (path : List Name) (p : Policy) {w : Written} (v : Written) → w ≡ v
    → judge_statement path p (some v) ≡ judge_resolved p (resolved (environment_of (declarations p) path) v)
    → judge_statement path p (some w) ≡ judge_resolved p (resolved (environment_of (declarations p) path) w)
naming path p v i e =
    ap (λ (x : Written). judge_statement path p (some x)) i ∙ e ∙ ap (λ (x : Written). judge_resolved p (resolved (environment_of (declarations p) path) x)) (sym i)

-- STATEMENTS WITH CODE: fault 5, then 6
coded-naming : (kind : CodedStatement) (path : List Name) (p : Policy) (w : Written) → IsOf (coded_keyword kind) w
    → judge_statement path p (some w) ≡ judge_resolved p (resolved (environment_of (declarations p) path) w)
coded-naming (CodedStatement.Set f) path p w i = naming path p (attributeset (family_of f) i.0 i.1) i.2 refl
coded-naming (CodedStatement.Relation r) path p w i = naming path p (gives (relation_of r) i.0 i.1) i.2 refl
coded-naming CodedStatement.Transition path p w i = naming path p (roletransition i.0 i.1 i.2 i.3) i.4 refl

module _ {p : Policy} {path : List Name} {lent : Memory} {sy co co' cs rs : List ℕ} {s : Progress} {to : ℕ} (h : Holds p path lent (memory sy co cs rs) s)
    (place : ℕ) (st : Statement)
    (room : judge_maxima p st ≡ reads st → length (code_of p) + length (statement_code place st) ≤ length lent.code)
    (w : Wrote co s.code (statement_code place st) co' to) where
  -- a statement that is no transition
  plain_step : (v : Statement) → st ≡ v → judge_maxima p v ≡ reads v → declared (line place v) ≡ none → constrained (line place v) ≡ none → relabelled (line place v) ≡ none
      → transition (line place v) ≡ none
      → Stepped (judge_maxima p st) p path place lent (memory sy co' cs rs) (Ok (with_code s to s.transitions))
  plain_step v i e d k o m =
      let f : judge_maxima p st ≡ reads st = ap (judge_maxima p) i ∙ e ∙ ap (λ (x : Statement). reads x) (sym i) in
      stepped-as p path place lent (memory sy co' cs rs) f refl
      (filled-coded h place st (ap (λ (x : Statement). declared (line place x)) i ∙ d) (ap (λ (x : Statement). constrained (line place x)) i ∙ k)
      (ap (λ (x : Statement). relabelled (line place x)) i ∙ o) s.transitions
      (h.filled.transition-count ∙ ap length (sym (transitions-same p (line place st) (ap (λ (x : Statement). transition (line place x)) i ∙ m)))) w
      (room f))

  coded-sized : (kind : CodedStatement) → IsOf (coded_keyword kind) st → Stepped (judge_maxima p st) p path place lent (memory sy co' cs rs) (coded_step kind (Some to) s)
  coded-sized (CodedStatement.Set f) i = plain_step (attributeset (family_of f) i.0 i.1) i.2 refl refl refl refl refl
  coded-sized (CodedStatement.Relation r) i = plain_step (gives (relation_of r) i.0 i.1) i.2 refl refl refl refl refl
  coded-sized CodedStatement.Transition i = go (ltb (length (transitions p)) max_transitions) refl
    where
      v : Statement
      v = roletransition i.0 i.1 i.2 i.3

      m : transition (line place st) ≡ some (record { place = place; role = i.0; type = i.1; class = i.2; new = i.3 })
      m = ap (λ (x : Statement). transition (line place x)) i.4

      count : length (transitions (p ++ (line place st ∷ []))) ≡ length (transitions p) + 1
      count = transitions-more p (line place st) _ m

      step : (b : Bool) → ltb (length (transitions p)) max_transitions ≡ b
          → coded_step CodedStatement.Transition (Some to) s ≡ cond b (Ok (with_code s to (s.transitions + 1))) (Err Fault.MaximumPassed)
      step b e =
          ap (λ (x : Bool). cond x (Ok (with_code s to (s.transitions + 1))) (Err Fault.MaximumPassed))
          (ap (λ (n : ℕ). ltb n max_transitions) h.filled.transition-count ∙ e)

      judged : (b : Bool) → ltb (length (transitions p)) max_transitions ≡ b → judge_maxima p st ≡ cond b (reads st) (fault 6)
      judged b e =
          ap (judge_maxima p) i.4 ∙ ap (λ (x : Bool). cond x (reads v) (fault 6)) e ∙ ap (λ (x : Statement). cond b (reads x) (fault 6)) (sym i.4)

      go : (b : Bool) → ltb (length (transitions p)) max_transitions ≡ b
          → Stepped (judge_maxima p st) p path place lent (memory sy co' cs rs) (coded_step CodedStatement.Transition (Some to) s)
      go true e =
          stepped-as p path place lent (memory sy co' cs rs) (judged true e) (step true e)
          (filled-coded h place st (ap (λ (x : Statement). declared (line place x)) i.4) (ap (λ (x : Statement). constrained (line place x)) i.4)
          (ap (λ (x : Statement). relabelled (line place x)) i.4) (s.transitions + 1)
          (omega (arith, h.filled.transition-count, count)) w (room (judged true e)))
      go false e = stepped-as p path place lent (memory sy co' cs rs) (judged false e) (step false e) refl

module _ {t : List ℕ} {at place : ℕ} {sy co co' cs rs : List ℕ} {s : Progress} (kind : CodedStatement) where
  pub coded-steps : (r : prelude.Option ℕ) → WritesStatement t at (coded_keyword kind) place sy co s.code co' r
      → Steps t at place (coded_keyword kind) (memory sy co cs rs) (memory sy co' cs rs) s (coded_step kind r s)
  coded-steps r a = record { says = says }
    where
      says : (lent : Memory) (p : Policy) (path : List Name) (w : Written) → Holds p path lent (memory sy co cs rs) s
          → RowIs (frames_at t at).here (formed (coded_keyword kind) (frames_at t at).here) w → Room lent p path place w
          → Stepped (judge_statement path p (some w)) p path place lent (memory sy co' cs rs) (coded_step kind r s)
      says lent p path w h row room =
          stepped-as p path place lent (memory sy co' cs rs) named refl
          (go (resolved (environment_of (declarations p) path) w) refl r
          (a.says (environment_of (declarations p) path) w (holds-symbols (table-holds h) h.filled.scope)
          (ap (formed (coded_keyword kind)) row.uncut ∙ row.form)))
        where
          i : IsOf (coded_keyword kind) w
          i = (formed-of (coded_keyword kind) (frames_at t at).here).has w row.form

          named : judge_statement path p (some w) ≡ judge_resolved p (resolved (environment_of (declarations p) path) w)
          named = coded-naming kind path p w i

          go : (o : Option Statement) → resolved (environment_of (declarations p) path) w ≡ o → (r : prelude.Option ℕ) → coding.Answers co s.code place o co' r
              → Stepped (judge_resolved p o) p path place lent (memory sy co' cs rs) (coded_step kind r s)
          go none e None y = refl
          go none e (Some u) y = absurd (true≢false y)
          go (some st) e None y = absurd y
          go (some st) e (Some u) y =
              coded-sized h place st (λ f. room.code st (named ∙ ap (judge_resolved p) e ∙ f)) y kind
              ((resolved-of (environment_of (declarations p) path) (coded_keyword kind) w i).has st e)

-- STATEMENTS WITH ROWS: fault 5, then 6, then 7

module _ (p : Policy) (path : List Name) (place : ℕ) (lent now : Memory) (room : Bool) (past : ℕ → Progress) where
  rows-undeclared : (r : Result ℕ Fault) → IsUndeclared r → Stepped (fault 5) p path place lent now (rows_step room past r)
  rows-undeclared r y = subst (λ (x : Result ℕ Fault). Stepped (fault 5) p path place lent now (rows_step room past x)) (sym y) refl

  module _ (st : Statement) (fits shallow : Bool) (judged : judge_maxima p st ≡ cond fits (cond shallow (reads st) (fault 7)) (fault 6)) where
    judged-by : {f g : Bool} → fits ≡ f → shallow ≡ g → judge_maxima p st ≡ cond f (cond g (reads st) (fault 7)) (fault 6)
    judged-by a b = judged ∙ ap₂ (λ (f g : Bool). cond f (cond g (reads st) (fault 7)) (fault 6)) a b

    -- by what the maxima and the stack need allow
    rows-sized : {Done : ℕ → Type 0}
        → ((n : ℕ) → Done n → (fits ≡ true) × (shallow ≡ true) × (room ≡ true) × Filled (p ++ (line place st ∷ [])) path lent now (past n))
        → (r : Result ℕ Fault) → OrFault fits shallow Done r → Stepped (judge_maxima p st) p path place lent now (rows_step room past r)
    rows-sized done (Ok n) a =
        let d = done n a in
        stepped-as p path place lent now (judged-by d.0 d.1) (ap (λ (b : Bool). cond b (Ok (past n)) (Err Fault.MaximumPassed)) d.2) d.3
    rows-sized done (Err Fault.MaximumPassed) a = stepped-as p path place lent now (judged-by a refl) refl refl
    rows-sized done (Err Fault.StackTooSmall) a = stepped-as p path place lent now (judged-by a.0 a.1) refl refl
    rows-sized done (Err f) a = absurd a

-- the step of a statement of the kind k, by what is promised of it
module _ {t : List ℕ} {at place : ℕ} {sy co cs cs' rs rs' : List ℕ} {s : Progress} (k : Keyword) (room : Bool) (past : ℕ → Progress) (r : Result ℕ Fault)
    (Answers : Option Statement → Type 0)
    (named : (path : List Name) (p : Policy) (w : Written) → IsOf k w
    → judge_statement path p (some w) ≡ judge_resolved p (resolved (environment_of (declarations p) path) w))
    (none_is : Answers none → IsUndeclared r)
    (some_is : (lent : Memory) (p : Policy) (path : List Name) → Holds p path lent (memory sy co cs rs) s → 1536 ≤ length lent.constraints
    → 18432 ≤ length lent.rows → (st : Statement) → IsOf k st → Answers (some st)
    → Stepped (judge_maxima p st) p path place lent (memory sy co cs' rs') (rows_step room past r))
    (promised : (lent : Memory) (p : Policy) (path : List Name) (w : Written) → Holds p path lent (memory sy co cs rs) s → 1536 ≤ length lent.constraints
    → 18432 ≤ length lent.rows → formed k (trim (frames_at t at).here (max_level - 1)) ≡ some w → Answers (resolved (environment_of (declarations p) path) w)) where
  rows-steps : Steps t at place k (memory sy co cs rs) (memory sy co cs' rs') s (rows_step room past r)
  rows-steps = record { says = says }
    where
      says : (lent : Memory) (p : Policy) (path : List Name) (w : Written) → Holds p path lent (memory sy co cs rs) s
          → RowIs (frames_at t at).here (formed k (frames_at t at).here) w → Room lent p path place w
          → Stepped (judge_statement path p (some w)) p path place lent (memory sy co cs' rs') (rows_step room past r)
      says lent p path w h row space =
          stepped-as p path place lent (memory sy co cs' rs') (named path p w i) refl
          (go (resolved (environment_of (declarations p) path) w) refl
          (promised lent p path w h space.constraints space.rows (ap (formed k) row.uncut ∙ row.form)))
        where
          i : IsOf k w
          i = (formed-of k (frames_at t at).here).has w row.form

          go : (o : Option Statement) → resolved (environment_of (declarations p) path) w ≡ o → Answers o
              → Stepped (judge_resolved p o) p path place lent (memory sy co cs' rs') (rows_step room past r)
          go none e y = rows-undeclared p path place lent (memory sy co cs' rs') room past r (none_is y)
          go (some st) e y =
              some_is lent p path h space.constraints space.rows st ((resolved-of (environment_of (declarations p) path) k w i).has st e) y

abbrev ConstrainAnswers : List ℕ → List ℕ → List ℕ → List ℕ → Progress → Result ℕ Fault → Option Statement → Type 0
ConstrainAnswers cs x rs y s r o = constraining.Answers o (take constraint_room cs) x s.constraints (take row_room rs) y s.rows r

abbrev RelabelAnswers : List ℕ → List ℕ → List ℕ → List ℕ → Progress → Result ℕ Fault → Option Statement → Type 0
RelabelAnswers cs x rs y s r o = relabelling.Answers o (drop constraint_room cs) x s.relabels (drop row_room rs) y s.relabel_rows r

module _ (lent : Memory) (p : Policy) (path : List Name) (place : ℕ) {sy co cs cs' rs rs' z w x y : List ℕ} {s : Progress} (r : Result ℕ Fault)
    (h : Holds p path lent (memory sy co cs rs) s) (wide : 1536 ≤ length lent.constraints) (long : 18432 ≤ length lent.rows) (st : Statement) where
  constrain-sized : FrontLent constraint_room cs cs' z x → FrontLent row_room rs rs' w y
      → IsOf constrain_k st → ConstrainAnswers cs x rs y s r (some st)
      → Stepped (judge_maxima p st) p path place lent (memory sy co cs' rs') (constrained_step r s)
  constrain-sized u v j a =
      subst (λ (o : Statement). Stepped (judge_maxima p o) p path place lent (memory sy co cs' rs') (constrained_step r s)) (sym j.3)
      (rows-sized p path place lent (memory sy co cs' rs') (ltb s.constraints max_constraints) (with_rows s) (constrain c ps e)
      (fits_within max_constraints max_rows s.constraints (s.rows + size e)) (leb (need e) max_stack) judged
      (λ n d. (d.fits, d.shallow, (within max_constraints max_rows s.constraints (s.rows + size e) d.fits).0, filled-constrained h place wide long c ps e u v d)) r
      (subst (λ (o : Statement). ConstrainAnswers cs x rs y s r (some o)) j.3 a))
    where
      c : ℕ
      c = j.0

      ps : List ℕ
      ps = j.1

      e : Constraint Reference
      e = j.2

      -- what the maxima say by the counts of the memory is what they say of the statements
      judged : judge_maxima p (constrain c ps e)
          ≡ cond (fits_within max_constraints max_rows s.constraints (s.rows + size e)) (cond (leb (need e) max_stack) (reads (constrain c ps e)) (fault 7)) (fault 6)
      judged =
          ap₂ (λ (n m : ℕ). cond (fits_within max_constraints max_rows n (m + size e)) (cond (leb (need e) max_stack) (reads (constrain c ps e)) (fault 7)) (fault 6))
          (sym h.filled.constraint-count) (sym h.filled.row_count_lem)

  relabel-sized : RestLent constraint_room cs cs' z x → RestLent row_room rs rs' w y
      → IsOf relabel_k st → RelabelAnswers cs x rs y s r (some st)
      → Stepped (judge_maxima p st) p path place lent (memory sy co cs' rs') (relabelled_step r s)
  relabel-sized u v j a =
      subst (λ (o : Statement). Stepped (judge_maxima p o) p path place lent (memory sy co cs' rs') (relabelled_step r s)) (sym j.2)
      (rows-sized p path place lent (memory sy co cs' rs') (ltb s.relabels max_relabels) (with_relabel s) (validatetrans c e)
      (fits_within max_relabels max_relabel_rows s.relabels (s.relabel_rows + size e)) (leb (need e) max_stack) judged
      (λ n d. (
        d.fits,
        d.shallow,
        (within max_relabels max_relabel_rows s.relabels (s.relabel_rows + size e) d.fits).0,
        filled-relabelled h place wide long c e u v d,
      )) r
      (subst (λ (o : Statement). RelabelAnswers cs x rs y s r (some o)) j.2 a))
    where
      c : ℕ
      c = j.0

      e : Constraint Reference
      e = j.1

      judged : judge_maxima p (validatetrans c e)
          ≡ cond (fits_within max_relabels max_relabel_rows s.relabels (s.relabel_rows + size e)) (cond (leb (need e) max_stack) (reads (validatetrans c e)) (fault 7)) (fault 6)
      judged =
          ap₂ (λ (n m : ℕ). cond (fits_within max_relabels max_relabel_rows n (m + size e)) (cond (leb (need e) max_stack) (reads (validatetrans c e)) (fault 7)) (fault 6))
          (sym h.filled.relabel-count) (sym h.filled.relabel-row-count)

module _ {t : List ℕ} {at place : ℕ} {sy co cs cs' rs rs' z w x y : List ℕ} {s : Progress} (r : Result ℕ Fault) where
  -- `(constrain (C (P ...)) E)`: its record and its rows are in the first parts of their memories
  pub constrained-steps : FrontLent constraint_room cs cs' z x → FrontLent row_room rs rs' w y
      → WritesConstrain t at sy z x s.constraints w y s.rows r
      → Steps t at place constrain_k (memory sy co cs rs) (memory sy co cs' rs') s (constrained_step r s)
  constrained-steps u v a =
      let a' = subst (λ (l : List ℕ). WritesConstrain t at sy l x s.constraints (take row_room rs) y s.rows r) u.was
      (subst (λ (l : List ℕ). WritesConstrain t at sy z x s.constraints l y s.rows r) v.was a) in
      rows-steps constrain_k (ltb s.constraints max_constraints) (with_rows s) r (ConstrainAnswers cs x rs y s r)
      (λ path p w i. naming path p (constrain i.0 i.1 i.2) i.3 refl) (λ y. y)
      (λ lent p path h wide long st j b. constrain-sized lent p path place r h wide long st u v j b)
      (λ lent p path w h wide long f.
      a'.says (environment_of (declarations p) path) w (holds-symbols (table-holds h) h.filled.scope)
      (omega (arith, h.filled.row_count_lem, h.accepted.few-rows))
      (omega (arith, records-first h place wide long, now-long h.filled.constraints))
      (omega (arith, rows-first h place wide long, now-long h.filled.rows)) f)

  -- `(validatetrans C E)`: in the second parts
  pub relabelled-steps : RestLent constraint_room cs cs' z x → RestLent row_room rs rs' w y
      → WritesRelabel t at sy z x s.relabels w y s.relabel_rows r
      → Steps t at place relabel_k (memory sy co cs rs) (memory sy co cs' rs') s (relabelled_step r s)
  relabelled-steps u v a =
      let a' = subst (λ (l : List ℕ). WritesRelabel t at sy l x s.relabels (drop row_room rs) y s.relabel_rows r) u.was
      (subst (λ (l : List ℕ). WritesRelabel t at sy z x s.relabels l y s.relabel_rows r) v.was a) in
      rows-steps relabel_k (ltb s.relabels max_relabels) (with_relabel s) r (RelabelAnswers cs x rs y s r)
      (λ path p w i. naming path p (validatetrans i.0 i.1) i.2 refl) (λ y. y)
      (λ lent p path h wide long st j b. relabel-sized lent p path place r h wide long st u v j b)
      (λ lent p path w h wide long f.
      a'.says (environment_of (declarations p) path) w (holds-symbols (table-holds h) h.filled.scope)
      (omega (arith, h.filled.relabel-row-count, h.accepted.few-relabel-rows))
      (omega (arith, records-second h place wide long, now-long h.filled.relabel-records))
      (omega (arith, rows-second h place wide long, now-long h.filled.relabel-rows)) f)
