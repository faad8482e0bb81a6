-- Writing an S item by item: what holds between two operands, and where each item leads. Assumes nothing.
use mathlib.Core.Path.{◌≡◌, refl, sym, ap, subst, ◌∙◌}
use mathlib.Core.Bool.{true≢false}
use mathlib.Core.List.{List, [], ◌∷◌}
use mathlib.Core.Option.{Option, none, some}
use Prim.Native.Nat.{ℕ, ◌+◌, ◌-◌, ◌≤◌}
use native.Mathlib.Omega.{arith}
use lib.ListN.{take, drop}
use Rattle.std.specs.Prelude as prelude
use Rattle.std.specs.Prelude.{None, Some}
use Rattle.lexer.specs.Forms.{Forms, closed, ended, word, part, Frames, head, frames_at, trim}
use Rattle.policy.specs.Basics.{Name, ◌>>=◌}
use Rattle.policy.specs.Statements.{Family, Reference, SetExpr, name_s}
use Rattle.policy.specs.Grammar.{operands, set_in}
use Rattle.policy.specs.Names.{refer, Environment}
use Rattle.policy.specs.Reading.{refer_s}
use Rattle.symbols.specs.SearchAnswers.{family_code}
use Rattle.items.proofs.Frames.{FramesSeen}
use Rattle.items.specs.declared.Item.{Item}
use Rattle.items.proofs.Frames.{around-of, closes, by_word, by_part, by-close, by_end, too-deep}
use Rattle.items.proofs.Items.{word-lent}
use Rattle.statement_code.specs.Code.{reference_unit, set_code, end_unit}
use Rattle.statement_code.specs.UnitWrites.{Wrote, Keeps, Stored}
use Rattle.scopes.specs.Symbols.{Symbols}
use Rattle.set_writer.specs.NameLookup.{Refers}
use Rattle.set_writer.specs.Sets.{Begins, Answers, WritesSet}
use Rattle.set_writer.specs.declared.SetStart.{SetStart}
use Rattle.set_writer.specs.declared.Written.{Written}
use Rattle.statement_code.proofs.UnitLaws.{keeps_then}
use Rattle.set_writer.proofs.ReferenceLaws.{known, unknown}
use Rattle.set_writer.proofs.RemainingOperands.{split-word, split-part, is_name, Left, begun, step, stop, done, cut, undeclared}

-- between two operands: the row at hand is that of S, and what is left of S is in it
pub record Going (t : List ℕ) (at levels : ℕ) (table : List ℕ) (family : ℕ) (before : List ℕ) (to i : ℕ) (code : List ℕ) (u : ℕ) : Type 0 where
  pub low : at ≤ i
  pub around : (frames_at t i).around ≡ (frames_at t at).around
  pub keeps : Keeps before to code
  pub ahead : to ≤ u
  pub left : (env : Environment) (f : Family) (w : SetExpr Name) → Symbols table env → family_code f ≡ family
      → set_in (trim (frames_at t at).here levels) ≡ some w → Left env f w before to (trim (frames_at t i).here levels) code u

-- the operator is written
pub going : {t : List ℕ} {at : ℕ} (levels : ℕ) (table : List ℕ) (family : ℕ) {before code : List ℕ} {to u : ℕ} {r : SetStart} → Begins t at r
    → Stored before to r.operator code u
    → Going t at levels table family before to r.next code u
going levels table family b s = record {
  low = b.ahead;
  around = b.around;
  keeps = s.keeps;
  ahead = s.ahead;
  left = λ env f w y e g. begun env f (b.row levels w g) s.wrote;
}

-- ---- what was answered of an operand

-- its names are declared, and its code is written
record Coded (o : Option (SetExpr Reference)) (code : List ℕ) (u : ℕ) (after : List ℕ) (v : ℕ) : Type 0 where
  is : SetExpr Reference
  read : o ≡ some is
  wrote : Wrote code u (set_code is) after v

coded : (o : Option (SetExpr Reference)) (code : List ℕ) (u : ℕ) (after : List ℕ) (p : Written) → Answers code u o after (Some p) → Coded o code u after p.to
coded none code u after p h = absurd (true≢false h)
coded (some s) code u after p h = record { is = s; read = refl; wrote = h }

uncoded : (o : Option (SetExpr Reference)) (code : List ℕ) (u : ℕ) (after : List ℕ) → Answers code u o after None → o ≡ none
uncoded none code u after h = refl
uncoded (some s) code u after h = absurd h

refer-name : (env : Environment) (f : Family) (n : Name) (o : Option Reference) → refer env f n ≡ o → refer_s env f (name_s n) ≡ (o >>= λ r. some (name_s r))
unfolding refer_s
refer-name env f n o e = rw e

name-code : (r : Reference) (unit : ℕ) → reference_unit r ≡ unit → unit ∷ [] ≡ set_code (name_s r)
unfolding set_code
name-code r unit e = rw e

module _ {t : List ℕ} {at levels : ℕ} {table : List ℕ} {family : ℕ} {before : List ℕ} {to i : ℕ} {code : List ℕ} {u : ℕ}
    (o : Going t at levels table family before to i code u) where
  -- the row at hand by what is in it
  by_row : {env : Environment} {f : Family} {w : SetExpr Name} {c : List ℕ} {v : ℕ} (g h : Forms) → operands g ≡ operands h → Left env f w before to g c v
      → Left env f w before to h c v
  by_row g h e l = record { each = l.each; row = sym e ∙ l.row; units = l.units; wrote = l.wrote; whole = l.whole }

  -- an undeclared name is found, the code as far as it is written
  stops : {after : List ℕ} → Keeps before to after → ((env : Environment) (f : Family) (w : SetExpr Name) → Symbols table env → family_code f ≡ family
      → set_in (trim (frames_at t at).here levels) ≡ some w → refer_s env f w ≡ none) → WritesSet t at levels table family before to after None
  stops {after} k h = record { keeps = k; moves = tt; says = λ env f w y e g. undeclared before after to (refer_s env f w) (h env f w y e g) }

  -- ---- a word

  module _ {s n k q : ℕ} (l : FramesSeen t i (Item.Word s n k q)) {r : prelude.Option ℕ} (lent : Refers table family (take ((s + n) - s) (drop s t)) r) where
    m : Refers table family (take n (drop s t)) r
    m = subst (λ (w : Name). Refers table family w r) (word-lent t s n) lent

    left_word : (env : Environment) (f : Family) (w : SetExpr Name) → Symbols table env → family_code f ≡ family → set_in (trim (frames_at t at).here levels) ≡ some w
        → Left env f w before to (word s (take n (drop s t)) (trim (frames_at t q).here levels)) code u
    left_word env f w y e g = by_row _ _ (by_word operands levels l) (o.left env f w y e g)

    -- that is declared
    pub past_word : {unit v : ℕ} {after : List ℕ} → r ≡ Some unit → Stored code u unit after v → Going t at levels table family before to q after v
    past_word {unit} {v} {after} h st = record {
      low = omega (arith, o.low, l.ahead.0);
      around = sym (around-of l) ∙ o.around;
      keeps = keeps_then o.ahead o.keeps st.keeps;
      ahead = omega (arith, o.ahead, st.ahead);
      left = λ env f w y e g.
          let x = left_word env f w y e g in
          let p = split-word _ _ _ x.each x.row in
          let d = known (refer env f (take n (drop s t))) unit (sym h ∙ m.resolves env f y e) in
          step env f x p (name_s (take n (drop s t))) (name_s d.to) (p.here ∙ ap some (is_name _ p.first p.here)) (refer-name env f _ _ d.is) o.keeps.long
          (subst (λ (us : List ℕ). Wrote code u us after v) (name-code d.to unit d.unit) st.wrote);
    }

    -- that is not
    pub stop-word : r ≡ None → WritesSet t at levels table family before to code None
    stop-word h = stops o.keeps λ env f w y e g.
        let x = left_word env f w y e g in
        let p = split-word _ _ _ x.each x.row in
        stop env f x p (name_s (take n (drop s t))) (p.here ∙ ap some (is_name _ p.first p.here))
        (refer-name env f _ _ (unknown (refer env f (take n (drop s t))) (sym h ∙ m.resolves env f y e)))

  -- ---- a part

  module _ {p q : ℕ} (l : FramesSeen t i (Item.Open p q)) where
    -- that lies too deep
    pub stop-deep : levels ≡ 0 → WritesSet t at levels table family before to code None
    stop-deep h = stops o.keeps λ env f w y e g. absurd (cut env f (by_row _ ended (too-deep operands levels l h) (o.left env f w y e g)))

    module _ (h : levels ≡ 0 → ⊥) {after : List ℕ} {r : prelude.Option Written} (m : WritesSet t q (levels - 1) table family code u after r) where
      left-part : (env : Environment) (f : Family) (w : SetExpr Name) → Symbols table env → family_code f ≡ family → set_in (trim (frames_at t at).here levels) ≡ some w
          → Left env f w before to (part p (trim (frames_at t q).here (levels - 1)) (trim (head (frames_at t q).around) levels)) code u
      left-part env f w y e g = by_row _ _ (by_part operands levels l h) (o.left env f w y e g)

      -- that is written
      pub past-part : {p : Written} → r ≡ Some p → Going t at levels table family before to p.at after p.to
      past-part {p} d =
          let z = subst (λ (a : prelude.Option Written). WritesSet t q (levels - 1) table family code u after a) d m in
          record {
            low = omega (arith, o.low, l.ahead.0, z.moves.less);
            around = sym (around-of l ∙ ap (λ (x : Frames). x.around) z.moves.rest) ∙ o.around;
            keeps = keeps_then o.ahead o.keeps z.keeps;
            ahead = omega (arith, o.ahead, z.moves.ahead);
            left = λ env f w y e g.
                let x = left-part env f w y e g in
                let c = split-part _ _ _ x.each x.row in
                let a = coded (refer_s env f c.first) code u after p (z.says env f c.first y e c.here) in
                by_row _ _ (ap (λ (x : Frames). operands (trim x.here levels)) z.moves.rest)
                (step env f x c c.first a.is c.here a.read o.keeps.long a.wrote);
          }

      -- that has an undeclared name
      pub stop-part : r ≡ None → WritesSet t at levels table family before to after None
      stop-part d =
          let z = subst (λ (a : prelude.Option Written). WritesSet t q (levels - 1) table family code u after a) d m in
          stops (keeps_then o.ahead o.keeps z.keeps) λ env f w y e g.
          let x = left-part env f w y e g in
          let c = split-part _ _ _ x.each x.row in
          stop env f x c c.first c.here (uncoded (refer_s env f c.first) code u after (z.says env f c.first y e c.here))

  -- ---- the close, and the end of the text

  pub past-close : {q v : ℕ} {after : List ℕ} → FramesSeen t i (Item.Close q) → Stored code u end_unit after v
      → WritesSet t at levels table family before to after (Some (record { at = q; to = v }))
  past-close {q} {v} {after} l st = record {
    keeps = keeps_then o.ahead o.keeps st.keeps;
    moves = record { rest = closes at l o.around; less = omega (arith, o.low, l.ahead.0); fits = l.ahead.1; ahead = omega (arith, o.ahead, st.ahead) };
    says = λ env f w y e g. done env f (record { at = q; to = v }) (by_row _ closed (by-close operands levels l) (o.left env f w y e g)) o.keeps.long st.wrote;
  }

  pub stop-end : FramesSeen t i Item.End → WritesSet t at levels table family before to code None
  stop-end l = stops o.keeps λ env f w y e g. absurd (cut env f (by_row _ ended (by_end operands levels l) (o.left env f w y e g)))
