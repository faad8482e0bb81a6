-- What the parts of a validatetrans statement of good form say together: the first of 5, 6 and 7, or its record and its rows. Assumes nothing.
use mathlib.Core.Path.{◌≡◌, refl, sym, ap, subst, ◌∙◌}
use mathlib.Core.List.{List}
use mathlib.Core.Option.{Option, none, some}
use Prim.Native.Nat.{ℕ, ◌+◌, ◌-◌, ◌*◌, ◌<◌}
use native.Mathlib.Omega.{arith}
use Rattle.std.specs.Prelude as prelude
use Rattle.std.specs.Prelude.{None, Some, Result, Err}
use Rattle.byte_slices.specs.Parts.{put}
use Rattle.byte_slices.proofs.PartLaws.{put_then}
use Rattle.lexer.specs.Scan.{max_level}
use Rattle.lexer.specs.Forms.{closed, part, frames_at, trim}
use Rattle.policy.specs.Basics.{Name, ◌>>=◌, le}
use Rattle.policy.specs.Words.{three_sides}
use Rattle.policy.specs.Statements.{Reference, Constraint, Written, Statement, validatetrans, size}
use Rattle.policy.specs.Maxima.{max_relabels, max_relabel_rows}
use Rattle.policy.specs.Names.{Environment}
use Rattle.policy.specs.Reading.{refer_e, resolved}
use Rattle.policy.specs.Encode.{relabel_bytes}
use Rattle.scopes.specs.Symbols.{Symbols}
use Rattle.constraint_writer.specs.declared.RowsWritten.{RowsWritten}
use Rattle.constraint_writer.proofs.Answers.{declared}
use Rattle.constraint_writer.proofs.WrittenRows.{unresolved}
use Rattle.constrain_statement.specs.ClassNames.{Classes}
use Rattle.constrain_statement.specs.Expressions.{IsExpression, WritesExpression}
use Rattle.constrain_statement.specs.Limits.{Records, Admits}
use Rattle.policy.specs.declared.Fault.{Fault}
use Rattle.constrain_statement.specs.declared.NamedClass.{NamedClass}
use Rattle.constrain_statement.proofs.ClassLaws.{class-told}
use Rattle.constrain_statement.proofs.ExpressionLaws.{told}
use Rattle.constrain_statement.proofs.LimitLaws.{admitted}
use Rattle.constrain_statement.proofs.Answers.{need-kept, rows_of}
use Rattle.relabel_statement.specs.RelabelWrites.{record_with, Answers, WritesRelabel}
use Rattle.relabel_statement.proofs.RelabelShapes.{RelabelShape, relabel-shape}

-- ---- the record

-- its two fields, put one after the other, are one `put` of the record
pub recorded : (t : List ℕ) (n c rows : ℕ) {p u : List ℕ} → p ≡ put t (4 * n) (le 2 c) → u ≡ put p (4 * n + 2) (le 2 rows) → Records 4 (relabel_bytes (record_with c rows)) t u n
unfolding le
recorded t n c rows class count room = put_then t (4 * n) (le 2 c) (le 2 rows) (omega arith) class (omega arith) count

-- ---- the statement with its names resolved

module _ (env : Environment) (c : Name) (e : Constraint Name) where
  abbrev then : Option ℕ → Option Statement
  then o = o >>= λ n. refer_e env e >>= λ x. some (validatetrans n x)

  class-none : env.class c ≡ none → resolved env (validatetrans c e) ≡ none
  class-none h = ap then h

  module _ {class : ℕ} (k : env.class c ≡ some class) where
    abbrev by-class : Option (Constraint Reference) → Option Statement
    by-class o = o >>= λ x. some (validatetrans class x)

    expression-none : refer_e env e ≡ none → resolved env (validatetrans c e) ≡ none
    expression-none h = ap then k ∙ ap by-class h

    resolves : (x : Constraint Reference) → refer_e env e ≡ some x → resolved env (validatetrans c e) ≡ some (validatetrans class x)
    resolves x h = ap then k ∙ ap by-class h

-- ---- what is where, by the form

-- the levels that are left in the statement's row
abbrev levels : ℕ
levels = max_level - 1

-- the row at a place is what follows the keyword
abbrev ShapeAt : List ℕ → ℕ → Written → Type 0
ShapeAt t at w = RelabelShape (trim (frames_at t at).here levels) w

module _ {t table : List ℕ} {at : ℕ} {n : NamedClass} (k : Classes t at table (Some n)) {env : Environment} (y : Symbols table env) {w : Written} (s : ShapeAt t at w) where
  class-then : (env.class s.class ≡ some n.class) × (trim (frames_at t n.next).here levels ≡ part s.expression-place s.expression closed)
  class-then = k.says env levels s.class-place s.class (part s.expression-place s.expression closed) y s.row

  expression-there : IsExpression three_sides t n.next s.body
  expression-there = record { place = s.expression-place; inner = s.expression; row = class-then.1; form = s.expressed }

-- ---- the answers

module _ {t : List ℕ} {at : ℕ} {table : List ℕ} {before : List ℕ} {count : ℕ} {rowsBefore : List ℕ} {row : ℕ} where
  -- 5, where a name is not declared
  undeclared-by : {after rowsAfter : List ℕ} → ((env : Environment) (w : Written) → Symbols table env → ShapeAt t at w → resolved env w ≡ none)
      → WritesRelabel t at table before after count rowsBefore rowsAfter row (Err Fault.NameUndeclared)
  undeclared-by {after} {rowsAfter} h = record {
    says = λ env w y a b c f.
        subst (λ (o : Option Statement). Answers o before after count rowsBefore rowsAfter row (Err Fault.NameUndeclared))
        (sym (h env w y (relabel-shape (trim (frames_at t at).here levels) w f))) refl;
  }

  pub past-rows : {after rowsAfter : List ℕ} {r : Result ℕ Fault} → 1024 < row → WritesRelabel t at table before after count rowsBefore rowsAfter row r
  past-rows h = record { says = λ env w y a b c f. absurd (omega (arith, h, a)) }

  module _ {r : prelude.Option NamedClass} (u : Classes t at table r) where
    pub class-undeclared : r ≡ None → WritesRelabel t at table before before count rowsBefore rowsBefore row (Err Fault.NameUndeclared)
    class-undeclared d = undeclared-by (λ env w y s.
        ap (resolved env) s.written
        ∙ class-none env s.class s.body ((class-told u d).says env levels s.class-place s.class _ y s.row))

    module _ {n : NamedClass} (d : r ≡ Some n) where
      module _ {rowsAfter : List ℕ} {k : prelude.Option RowsWritten} (v : WritesExpression three_sides t n.next table rowsBefore rowsAfter row k) where
        pub name-undeclared : k ≡ None → WritesRelabel t at table before before count rowsBefore rowsAfter row (Err Fault.NameUndeclared)
        name-undeclared e = undeclared-by (λ env w y s.
            let c = class-told u d in
            ap (resolved env) s.written
            ∙ expression-none env s.class s.body (class-then c y s).0
            (unresolved env s.body rowsBefore rowsAfter row ((told v e).rows env s.body y (expression-there c y s))))

        -- 6 and 7, and what is written, by what the maxima and the stack need allow
        pub answered : {o : RowsWritten} → k ≡ Some o → {after : List ℕ} {b : Result ℕ Fault}
            → Records 4 (relabel_bytes (record_with n.class (o.row - row))) before after count → Admits max_relabels max_relabel_rows count o.row o.need b
            → WritesRelabel t at table before after count rowsBefore rowsAfter row b
        answered {o} e {after} {b} stored m = record {
          says = λ env w y g long rows_long f.
              let s = relabel-shape (trim (frames_at t at).here levels) w f in
              let c = class-told u d in
              let there = expression-there c y s in
              let written = told v e in
              let i = declared (written.rows env s.body y there) in
              let p = need-kept env s.body i.expression i.refers ∙ sym (written.needs s.body there) in
              subst (λ (x : Option Statement). Answers x before after count rowsBefore rowsAfter row b)
              (sym (ap (resolved env) s.written ∙ resolves env s.class s.body (class-then c y s).0 i.expression i.refers))
              (admitted max_relabels max_relabel_rows 4 _ before after count rowsBefore rowsAfter row o.row o.need i.expression p i.count (λ h. omega (arith, h, long)) rows_long
              i.bytes (ap (λ (k : ℕ). relabel_bytes (record_with n.class k)) (rows_of row o.row (size i.expression) i.count)) stored b m.says);
        }
