-- What the parts of a constrain of good form say together: the first of 5, 6 and 7, or its record and its rows. Assumes nothing.
use mathlib.Core.Path.{◌≡◌, refl, sym, ap, ap₂, subst, ◌∙◌}
use mathlib.Core.List.{List, [], ◌∷◌}
use mathlib.Core.Option.{Option, none, some, some-injective}
use Prim.Native.Nat.{ℕ, ◌+◌, ◌-◌, ◌<◌}
use native.Mathlib.Omega.{arith}
use types.Run.{OneOf}
use Rattle.std.specs.Prelude as prelude
use Rattle.std.specs.Prelude.{None, Some, Result, Err}
use Rattle.lexer.specs.Scan.{max_level}
use Rattle.lexer.specs.Forms.{Forms, closed, part, frames_at, trim}
use Rattle.lexer.proofs.Trim.{starts_part}
use Rattle.policy.specs.Basics.{Name, ◌>>=◌}
use Rattle.policy.specs.Statements.{Reference, Constraint, sides_e, name_e, not_e, and_e, or_e, Written, Statement, constrain, size, need}
use Rattle.policy.specs.Maxima.{max_constraints, max_rows}
use Rattle.policy.specs.Words.{two_sides}
use Rattle.policy.specs.Names.{refer, Environment}
use Rattle.policy.specs.Reading.{refer_e, resolved}
use Rattle.policy.specs.Encode.{constraint_bytes}
use Rattle.table_laws.proofs.ListLaws.{bound-then}
use Rattle.scopes.specs.Symbols.{Symbols}
use Rattle.items.specs.Looks.{item_at, row_end}
use Rattle.items.specs.declared.Item.{Item}
use Rattle.items.proofs.Items.{Looked, by_part}
use Rattle.constraint_writer.specs.declared.RowsWritten.{RowsWritten}
use Rattle.constraint_writer.proofs.Answers.{declared}
use Rattle.constraint_writer.proofs.WrittenRows.{unresolved}
use Rattle.constrain_statement.specs.ClassPermissions.{numbers_of, ScopeForm, Scoped, Scopes}
use Rattle.constrain_statement.specs.ConstrainWrites.{record_with, Answers, WritesConstrain}
use Rattle.constrain_statement.specs.Expressions.{IsExpression, WritesExpression}
use Rattle.constrain_statement.specs.Limits.{Records, Admits}
use Rattle.policy.specs.declared.Fault.{Fault}
use Rattle.constrain_statement.specs.declared.ClassAndPermissions.{ClassAndPermissions}
use Rattle.constrain_statement.proofs.Masks.{tag}
use Rattle.constrain_statement.proofs.Shapes.{Shape, shape}
use Rattle.constrain_statement.proofs.ClassLaws.{not_there, no_part, same_parts}
use Rattle.constrain_statement.proofs.ExpressionLaws.{told}
use Rattle.constrain_statement.proofs.LimitLaws.{admitted}

-- ---- the stack need of an expression does not change where its names are resolved

pub need-kept : (env : Environment) (e : Constraint Name) (x : Constraint Reference) → refer_e env e ≡ some x → need x ≡ need e
unfolding refer_e need
need-kept env (sides_e f o) x h = ap need (sym (some-injective (sides_e f o) x h))
need-kept env (name_e f s o w) x h =
    bound-then (refer env f w) (λ r. some (name_e f s o r)) x h λ r d g. ap need (sym (some-injective (name_e f s o r) x g))
need-kept env (not_e a) x h =
    bound-then (refer_e env a) (λ y. some (not_e y)) x h λ y d g. ap need (sym (some-injective (not_e y) x g)) ∙ need-kept env a y d
need-kept env (and_e a b) x h =
    bound-then (refer_e env a) (λ y. refer_e env b >>= λ z. some (and_e y z)) x h λ y d g.
    bound-then (refer_e env b) (λ z. some (and_e y z)) x g λ z d2 g2.
    let p = need-kept env a y d in
    let q = need-kept env b z d2 in
    ap need (sym (some-injective (and_e y z) x g2)) ∙ rw (p, q)
need-kept env (or_e a b) x h =
    bound-then (refer_e env a) (λ y. refer_e env b >>= λ z. some (or_e y z)) x h λ y d g.
    bound-then (refer_e env b) (λ z. some (or_e y z)) x g λ z d2 g2.
    let p = need-kept env a y d in
    let q = need-kept env b z d2 in
    ap need (sym (some-injective (or_e y z) x g2)) ∙ rw (p, q)

-- ---- the statement with its names resolved

module _ (env : Environment) (c : Name) (ps : List Name) (e : Constraint Name) where
  abbrev then : Option ℕ → Option Statement
  then o = o >>= λ n. numbers_of env n ps >>= λ ns. refer_e env e >>= λ x. some (constrain n ns x)

  pub scope-none : (env.class c >>= λ n. numbers_of env n ps) ≡ none → resolved env (constrain c ps e) ≡ none
  scope-none h = go (env.class c) h
    where
      go : (o : Option ℕ) → (o >>= λ n. numbers_of env n ps) ≡ none → then o ≡ none
      go none g = refl
      go (some n) g = ap (λ (o : Option (List ℕ)). o >>= λ ns. refer_e env e >>= λ x. some (constrain n ns x)) g

  module _ {class mask : ℕ} (s : Scoped env c ps class mask) where
    by-scope : resolved env (constrain c ps e) ≡ (refer_e env e >>= λ x. some (constrain class s.numbers x))
    by-scope = ap then s.class-is ∙ ap (λ (o : Option (List ℕ)). o >>= λ ns. refer_e env e >>= λ x. some (constrain class ns x)) s.permissions-are

    pub expression-none : refer_e env e ≡ none → resolved env (constrain c ps e) ≡ none
    expression-none h = by-scope ∙ ap (λ (o : Option (Constraint Reference)). o >>= λ x. some (constrain class s.numbers x)) h

    pub resolves : (x : Constraint Reference) → refer_e env e ≡ some x → resolved env (constrain c ps e) ≡ some (constrain class s.numbers x)
    resolves x h = by-scope ∙ ap (λ (o : Option (Constraint Reference)). o >>= λ x. some (constrain class s.numbers x)) h

-- ---- what is where, by the form

-- the levels that are left in the statement's row
abbrev levels : ℕ
levels = max_level - 1

-- the row at a place is what follows the keyword of a constrain
abbrev ShapeAt : List ℕ → ℕ → Written → Type 0
ShapeAt t at w = Shape (trim (frames_at t at).here levels) w

module _ {t : List ℕ} {at p j : ℕ} (l : Looked t at (Item.Open p j)) {w : Written} (s : ShapeAt t at w) where
  in_parts : (trim (frames_at t j).here (levels - 1) ≡ s.scope) × (trim (frames_at t (row_end t j)).here levels ≡ part s.expression-place s.expression closed)
  in_parts = same_parts (sym (by_part (λ f. f) levels (row_end t j) l refl (λ z. omega arith)) ∙ s.row)

  scope-there : ScopeForm (trim (frames_at t j).here (max_level - 2)) s.class s.permissions
  scope-there = subst (λ (f : Forms). ScopeForm f s.class s.permissions) (sym in_parts.0) s.scoped

  part-behind : (q : ℕ) → row_end t j ≡ q → trim (frames_at t q).here levels ≡ part s.expression-place s.expression closed
  part-behind q e = subst (λ (o : ℕ). trim (frames_at t o).here levels ≡ part s.expression-place s.expression closed) e in_parts.1

  expression-there : {q : ℕ} → row_end t j ≡ q → IsExpression two_sides t q s.body
  expression-there {q} e = record { place = s.expression-place; inner = s.expression; row = part-behind q e; form = s.expressed }

scope-told : {t : List ℕ} {at : ℕ} {table : List ℕ} {r k : prelude.Option ClassAndPermissions} → Scopes t at table r → r ≡ k → Scopes t at table k
scope-told {t} {at} {table} u e = subst (Scopes t at table) e u

-- how many rows there are from a row to before the next
pub rows_of : (row n many : ℕ) → n ≡ row + many → n - row ≡ many
rows_of row n many h = omega arith

-- ---- the answers

module _ {t : List ℕ} {at : ℕ} {table : List ℕ} {before : List ℕ} {count : ℕ} {rowsBefore : List ℕ} {row : ℕ} where
  -- 5, where a name is not declared
  undeclared-by : {after rowsAfter : List ℕ} → ((env : Environment) (w : Written) → Symbols table env → ShapeAt t at w → resolved env w ≡ none)
      → WritesConstrain t at table before after count rowsBefore rowsAfter row (Err Fault.NameUndeclared)
  undeclared-by {after} {rowsAfter} h = record {
    says = λ env w y a b c f.
        subst (λ (o : Option Statement). Answers o before after count rowsBefore rowsAfter row (Err Fault.NameUndeclared))
        (sym (h env w y (shape (trim (frames_at t at).here levels) w f))) refl;
  }

  pub past-rows : {after rowsAfter : List ℕ} {r : Result ℕ Fault} → 2048 < row → WritesConstrain t at table before after count rowsBefore rowsAfter row r
  past-rows h = record { says = λ env w y a b c f. absurd (omega (arith, h, a)) }

  pub scope-missing : {k : Item} → k ≡ item_at t at → OneOf (0 ∷ 2 ∷ 3 ∷ []) (tag k)
      → WritesConstrain t at table before before count rowsBefore rowsBefore row (Err Fault.NameUndeclared)
  scope-missing e o = undeclared-by (λ env w y s. not_there starts_part t at levels _ s.row refl (0 ∷ 2 ∷ 3 ∷ []) no_part e o)

  module _ {p j : ℕ} (l : Looked t at (Item.Open p j)) {r : prelude.Option ClassAndPermissions} (u : Scopes t j table r) where
    pub scope-undeclared : r ≡ None → WritesConstrain t at table before before count rowsBefore rowsBefore row (Err Fault.NameUndeclared)
    scope-undeclared e = undeclared-by (λ env w y s.
        ap (resolved env) s.written
        ∙ scope-none env s.class s.permissions s.body ((scope-told u e).says env s.class s.permissions y (scope-there l s)))

    module _ {o : ClassAndPermissions} (e : r ≡ Some o) where
      module _ {rowsAfter : List ℕ} {k : prelude.Option RowsWritten} (v : WritesExpression two_sides t o.next table rowsBefore rowsAfter row k) where
        pub name-undeclared : k ≡ None → WritesConstrain t at table before before count rowsBefore rowsAfter row (Err Fault.NameUndeclared)
        name-undeclared d = undeclared-by (λ env w y s.
            let scope = scope-told u e in
            ap (resolved env) s.written
            ∙ expression-none env s.class s.permissions s.body (scope.says env s.class s.permissions y (scope-there l s))
            (unresolved env s.body rowsBefore rowsAfter row ((told v d).rows env s.body y (expression-there l s scope.place))))

        -- 6 and 7, and what is written, by what the maxima and the stack need allow
        pub answered : {n : RowsWritten} → k ≡ Some n → {after : List ℕ} {b : Result ℕ Fault}
            → Records 10 (constraint_bytes (record_with o.class o.mask row (n.row - row))) before after count → Admits max_constraints max_rows count n.row n.need b
            → WritesConstrain t at table before after count rowsBefore rowsAfter row b
        answered {n} d {after} {b} stored m = record {
          says = λ env w y g long rows_long f.
              let s = shape (trim (frames_at t at).here levels) w f in
              let scope = scope-told u e in
              let c = scope.says env s.class s.permissions y (scope-there l s) in
              let there = expression-there l s scope.place in
              let written = told v d in
              let i = declared (written.rows env s.body y there) in
              let p = need-kept env s.body i.expression i.refers ∙ sym (written.needs s.body there) in
              subst (λ (o : Option Statement). Answers o before after count rowsBefore rowsAfter row b)
              (sym (ap (resolved env) s.written ∙ resolves env s.class s.permissions s.body c i.expression i.refers))
              (admitted max_constraints max_rows 10 _ before after count rowsBefore rowsAfter row n.row n.need i.expression p i.count (λ h. omega (arith, h, long)) rows_long
              i.bytes (ap₂ (λ (m k : ℕ). constraint_bytes (record_with o.class m row k)) c.mask_is (rows_of row n.row (size i.expression) i.count))
              stored b m.says);
        }
