-- The rows of an expression as it is written, and what an answer says by them. Assumes nothing.
use mathlib.Core.Path.{◌≡◌, refl, sym, ap, subst, ◌∙◌}
use mathlib.Core.List.{List}
use mathlib.Core.Option.{Option, none, some, some-injective}
use Prim.Native.Nat.{ℕ, ◌+◌, ◌<◌}
use native.Mathlib.Omega.{arith}
use lib.ListN.{length}
use Rattle.std.specs.Prelude as prelude
use Rattle.std.specs.Prelude.{None, Some, IfSome}
use Rattle.lexer.specs.Forms.{Forms, head, tail, frames_at}
use Rattle.policy.specs.Basics.{Name, ◌>>=◌}
use Rattle.policy.specs.Statements.{Reference, Constraint, size}
use Rattle.policy.specs.Reading.{refer_e}
use Rattle.policy.specs.Rows.{Row, rows_of}
use Rattle.policy.specs.Names.{Environment}
use Rattle.policy.proofs.RowCounts.{rows-count}
use Rattle.constraint_writer.specs.ExpressionWrites.{Kept, Wrote, Resolves, Past, Writes}
use Rattle.constraint_writer.specs.declared.RowsWritten.{RowsWritten}

-- the rows of an expression; none where a name of it is not declared
abbrev pub rows_named : Environment → Constraint Name → Option (List Row)
rows_named env e = refer_e env e >>= λ x. some (rows_of x)

pub never : {A : Type 0} {X : Type 0} {a : A} → none ≡ some a → X
never e = absurd (let z : ◌≡◌ {A = ℕ} 0 1 = cc in omega arith)

module _ (env : Environment) (e : Constraint Name) (before after : List ℕ) (first : ℕ) where
  -- ---- from rows to an answer

  pub settled : (s : RowsWritten) (rs : List Row) → rows_named env e ≡ some rs → s.row ≡ first + length rs → Wrote before after first rs
      → Resolves env e before after first (Some s)
  settled s rs h k w = go (refer_e env e) refl h
    where
      go : (o : Option (Constraint Reference)) → refer_e env e ≡ o → (o >>= λ x. some (rows_of x)) ≡ some rs
          → Resolves env e before after first (Some s)
      go none p g = never g
      go (some x) p g =
          let same : rows_of x ≡ rs = some-injective (rows_of x) rs g in
          let many : length rs ≡ size x = ap length (sym same) ∙ rows-count x in
          record {
            answer = rw p (ap some (omega arith));
            wrote = λ y o. subst (Wrote before after first) (sym same ∙ ap rows_of (some-injective x y (sym p ∙ o))) w;
          }

  pub unsettled : rows_named env e ≡ none → Resolves env e before after first None
  unsettled h = go (refer_e env e) refl h
    where
      go : (o : Option (Constraint Reference)) → refer_e env e ≡ o → (o >>= λ x. some (rows_of x)) ≡ none → Resolves env e before after first None
      go none p g = record { answer = rw p; wrote = λ y d. never (sym p ∙ d) }
      go (some x) p g = never (sym g)

  -- ---- from an answer to rows

  pub record ResolvedBy (n : ℕ) : Type 0 where
    pub expression : Constraint Reference
    pub refers : refer_e env e ≡ some expression
    pub count : n ≡ first + size expression

  pub resolved : {s : RowsWritten} → Resolves env e before after first (Some s) → ResolvedBy s.row
  resolved {s} r = go (refer_e env e) refl
    where
      go : (o : Option (Constraint Reference)) → refer_e env e ≡ o → ResolvedBy s.row
      go none p = never (sym (r.answer ∙ rw p))
      go (some x) p = record { expression = x; refers = p; count = some-injective s.row (first + size x) (r.answer ∙ rw p) }

  pub unresolved : Resolves env e before after first None → refer_e env e ≡ none
  unresolved r = go (refer_e env e) refl
    where
      go : (o : Option (Constraint Reference)) → refer_e env e ≡ o → refer_e env e ≡ none
      go none p = p
      go (some x) p = let z : none ≡ some (first + size x) = r.answer ∙ rw p in never z

  pub record Settled (n : ℕ) : Type 0 where
    pub rows : List Row
    pub named : rows_named env e ≡ some rows
    pub count : n ≡ first + length rows
    pub wrote : Wrote before after first rows

  pub settles : {s : RowsWritten} → Resolves env e before after first (Some s) → Settled s.row
  settles {s} r =
      let x = resolved r in
      record {
        rows = rows_of x.expression;
        named = rw x.refers;
        count = omega (arith, x.count, rows-count x.expression);
        wrote = r.wrote x.expression x.refers;
      }

  pub unsettles : Resolves env e before after first None → rows_named env e ≡ none
  unsettles r = rw (unresolved r)

-- ---- answers

module _ {t symbols before after : List ℕ} {at first : ℕ} where
  -- what was answered
  pub told : {m : Option (Constraint Name)} {r k : prelude.Option RowsWritten} → Writes t at m symbols before after first r → r ≡ k → Writes t at m symbols before after first k
  told {m} w e = subst (Writes t at m symbols before after first) e w

  -- the form is not good
  pub no-form : {m : Option (Constraint Name)} → Kept before after first → m ≡ none → Writes t at m symbols before after first None
  no-form k e = record { kept = k; reads = tt; needs = λ x h. tt; rows = λ env x y h. never (sym e ∙ h) }

  -- what is said of an expression at a place after another where the rows around are the same
  pub moved : {q : ℕ} {m o : Option (Constraint Name)} {r : prelude.Option RowsWritten} → (frames_at t q).around ≡ (frames_at t at).around → at < q
      → ((e : Constraint Name) → m ≡ some e → o ≡ some e) → Writes t q o symbols before after first r → Writes t at m symbols before after first r
  moved {q} {m} {o} {r} a h f w = record {
    kept = w.kept;
    reads = go r w.reads;
    needs = λ e g. w.needs e (f e g);
    rows = λ env e y g. w.rows env e y (f e g);
  }
    where
      go : (r : prelude.Option RowsWritten) → IfSome r (Past t q first) → IfSome r (Past t at first)
      go None g = tt
      go (Some s) g = record {
        rest = g.rest ∙ ap (λ (x : List Forms). record { here = head x; around = tail x }) a;
        less = omega (arith, g.less);
        fits = g.fits;
        some-row = g.some-row;
        few-rows = omega (arith, g.few-rows);
        few-values = omega (arith, g.few-values);
      }
