-- A set statement's head, and after it the number of its attribute and the code of S, are its code. Assumes nothing.
use mathlib.Core.Path.{◌≡◌, refl, sym, ap, subst, ◌∙◌}
use mathlib.Core.Bool.{false, false≢true, true≢false}
use mathlib.Core.List.{List, [], ◌∷◌}
use mathlib.Core.Option.{Option, none, some, none-ne-some}
use Prim.Native.Nat.{ℕ, ◌+◌, ◌-◌}
use native.Mathlib.Omega.{arith}
use Rattle.std.specs.Prelude as prelude
use Rattle.std.specs.Prelude.{None, Some}
use lib.ListN.{length}
use Rattle.lexer.specs.Scan.{max_level}
use Rattle.lexer.specs.Forms.{Forms, closed, ended, word, part, frames_at, trim}
use Rattle.lexer.proofs.Trim.{starts_part}
use Rattle.policy.specs.Answers.{family_of}
use Rattle.policy.specs.declared.Family as theFamily
use Rattle.policy.specs.Words.{set_k}
use Rattle.policy.specs.Statements.{Reference, SetExpr, Statement}
use Rattle.policy.specs.Grammar.{set_in}
use Rattle.policy.specs.Reading.{refer_s, resolved}
use Rattle.statement_code.specs.Code.{family_number, set_tag}
use Rattle.items.specs.declared.Item.{Item}
use Rattle.items.proofs.Frames.{FramesSeen, by_part}
use Rattle.set_writer.specs.Sets as sets
use Rattle.set_writer.specs.Sets.{WritesSet}
use Rattle.set_writer.specs.declared.Written.{Written}
use Rattle.statement_code.proofs.UnitLaws.{wrote_then, keeps_then}
use Rattle.statement_writer.specs.NameKinds.{first_unit, behind_first, AnswersNames, WritesNames}
use Rattle.statement_writer.specs.ResolvedUnits.{Stores, Answers, WritesStatement}
use Rattle.statement_writer.specs.declared.Kind.{Kind}
use Rattle.statement_writer.proofs.NumberLaws.{same_number}
use Rattle.statement_writer.proofs.RowNames.{alone, lacks}
use Rattle.statement_writer.proofs.WholeStatements.{code_in, headed, number_and_set, set-row, set-whole}
use Rattle.statement_writer.proofs.StatementUnits.{tagged, uncoded, coded, past_units}

-- what a part holds that a row starts with
abbrev inside : Forms → Forms
inside closed = ended
inside ended = ended
inside (word s b f) = ended
inside (part p f g) = f

no-unit : (o : Option ℕ) → alone o ≡ none → o ≡ none
no-unit none e = refl
no-unit (some n) e = absurd (none-ne-some (n ∷ []) (sym e))

module _ {a b : List ℕ} {i u tag place : ℕ} (head : Stores a i (tag ∷ place ∷ []) b u) (c d : List ℕ) (p : Written) (long : length c ≡ length b) where
  answered : (o : Option Statement) (n : Option ℕ) (x : Option (SetExpr Reference)) (r : prelude.Option Written) → code_in place o ≡ headed tag place (number_and_set n x)
      → AnswersNames b u (alone n) c (Some p) → sets.Answers c p.to x d r → Answers a i place o d (past_units r)
  answered o none x r e h g = absurd (true≢false h)
  answered o (some n) none None e h g = uncoded a d i place o e
  answered o (some n) none (Some v) e h g = absurd (true≢false g)
  answered o (some n) (some x) None e h g = absurd g
  answered o (some n) (some x) (Some v) e h g =
      coded a d i place o e (wrote_then (long ∙ head.keeps.long) (wrote_then head.keeps.long head.wrote h) g)

module _ {t : List ℕ} {at place : ℕ} {table : List ℕ} {a b c : List ℕ} {i u n : ℕ} {f : theFamily.Family} {r : prelude.Option Written}
    (d : n ≡ family_number (family_of f)) (h : Stores a i ((4099 + n) ∷ place ∷ []) b u) (m : WritesNames t at (Kind.Attribute f ∷ []) table b u c r) where
  abbrev row : Forms
  row = trim (frames_at t at).here (max_level - 1)

  head : Stores a i (set_tag (family_of f) ∷ place ∷ []) b u
  head = tagged 4099 d h

  -- the attribute is not declared
  pub no-attribute : r ≡ None → WritesStatement t at (set_k (family_of f)) place table a i c None
  no-attribute e =
      let z = subst (λ (x : prelude.Option Written). WritesNames t at (Kind.Attribute f ∷ []) table b u c x) e m in
      record {
        keeps = keeps_then h.ahead h.keeps m.keeps;
        says = λ env w y g.
            let s = set-row (family_of f) row w g in
            let no : first_unit env (Kind.Attribute f) row ≡ none =
            no-unit (first_unit env (Kind.Attribute f) row) (lacks b c u (alone (first_unit env (Kind.Attribute f) row)) (z.says env (max_level - 1) y)) in
            uncoded a c i place (resolved env w)
            (set-whole env place f row w s ∙ ap (λ (o : Option ℕ). headed (set_tag (family_of f)) place (number_and_set o (refer_s env (family_of f) s.set))) no);
      }

  module _ {p : Written} (e : r ≡ Some p) where
    name : WritesNames t at (Kind.Attribute f ∷ []) table b u c (Some p)
    name = subst (λ (x : prelude.Option Written). WritesNames t at (Kind.Attribute f ∷ []) table b u c x) e m

    behind : trim (frames_at t p.at).here (max_level - 1) ≡ behind_first row
    behind = name.moves.row (max_level - 1)

    -- no part is after it
    pub no_part : starts_part (trim (frames_at t p.at).here (max_level - 1)) ≡ false → WritesStatement t at (set_k (family_of f)) place table a i c None
    no_part l = record {
      keeps = keeps_then h.ahead h.keeps m.keeps;
      says = λ env w y g.
          let s = set-row (family_of f) row w g in
          absurd (false≢true (sym l ∙ ap starts_part (behind ∙ s.behind)));
    }

    -- S is written, or a name of it is not declared
    pub set-coded : {j o : ℕ} {after : List ℕ} {x : prelude.Option Written} (z : prelude.Option Written) → FramesSeen t p.at (Item.Open o j) → WritesSet t j (max_level - 1 - 1) table n c p.to after x → x ≡ z
        → WritesStatement t at (set_k (family_of f)) place table a i after (past_units z)
    set-coded {j} {o} {after} {x} z l k g =
        let k = subst (λ (y : prelude.Option Written). WritesSet t j (max_level - 1 - 1) table n c p.to after y) g k in
        record {
          keeps = keeps_then h.ahead h.keeps (keeps_then name.moves.ahead name.keeps k.keeps);
          says = λ env w y g.
              let s = set-row (family_of f) row w g in
              let in-part : trim (frames_at t j).here (max_level - 1 - 1) ≡ s.inner =
              sym (by_part inside (max_level - 1) l (λ y. omega arith)) ∙ ap inside (behind ∙ s.behind) in
              answered head c after p name.keeps.long (resolved env w) (first_unit env (Kind.Attribute f) row) (refer_s env (family_of f) s.set) z
              (set-whole env place f row w s)
              (name.says env (max_level - 1) y) (k.says env (family_of f) s.set y (same_number (family_of f) ∙ sym d) (ap set_in in-part ∙ s.in-part));
        }
