-- A statement's head, and after it the units of its names, are its code. Assumes nothing.
use mathlib.Core.Path.{◌≡◌, refl, sym, subst}
use mathlib.Core.Bool.{true≢false}
use mathlib.Core.List.{List, [], ◌∷◌}
use mathlib.Core.Option.{Option, none, some, some-injective, none-ne-some}
use Prim.Native.Nat.{ℕ, ◌+◌, ◌-◌}
use native.Mathlib.Omega.{arith}
use Rattle.std.specs.Prelude as prelude
use Rattle.std.specs.Prelude.{None, Some}
use Rattle.lexer.specs.Scan.{max_level}
use Rattle.lexer.specs.Forms.{frames_at, trim}
use Rattle.policy.specs.Answers.{family_of}
use Rattle.policy.specs.declared.Family as theFamily
use Rattle.policy.specs.Words.{Keyword, relation_k, transition_k}
use Rattle.policy.specs.Statements.{Relation, from_of, to_of, Written, Statement}
use Rattle.policy.specs.Grammar.{formed}
use Rattle.policy.specs.Reading.{resolved}
use Rattle.policy.specs.Names.{Environment}
use Rattle.statement_code.specs.Code.{relation_number, statement_code}
use Rattle.statement_code.specs.UnitWrites.{Wrote, Stored}
use Rattle.statement_code.proofs.UnitLaws.{wrote_then, keeps_then}
use Rattle.statement_writer.specs.NameKinds.{names_units, AnswersNames, WritesNames}
use Rattle.statement_writer.specs.ResolvedUnits.{Stores, Answers, WritesStatement}
use Rattle.statement_writer.specs.declared.Kind.{Kind}
use Rattle.set_writer.specs.declared.Written as units
use Rattle.statement_writer.proofs.WholeStatements.{code_in, headed, relation-whole, transition_kinds, transition-whole}

-- two units that are written one after the other
pub head-stored : {a b c : List ℕ} {i u v tag place : ℕ} → Stored a i tag b u → Stored b u place c v → Stores a i (tag ∷ place ∷ []) c v
head-stored h g = record {
  wrote = wrote_then h.keeps.long h.wrote g.wrote;
  keeps = keeps_then h.ahead h.keeps g.keeps;
  ahead = omega (arith, h.ahead, g.ahead);
}

-- a tag by what is added to its base
pub tagged : {a b : List ℕ} {i u n m place : ℕ} (base : ℕ) → n ≡ m → Stores a i ((base + n) ∷ place ∷ []) b u → Stores a i ((base + m) ∷ place ∷ []) b u
tagged {a} {b} {i} {u} {place = place} base e h = subst (λ (j : ℕ). Stores a i ((base + j) ∷ place ∷ []) b u) e h

-- ---- the answer by the code

module _ (before after : List ℕ) (to place : ℕ) where
  -- a statement that has no code is answered so
  pub uncoded : (o : Option Statement) → code_in place o ≡ none → Answers before to place o after None
  uncoded none e = refl
  uncoded (some s) e = none-ne-some (statement_code place s) (sym e)

  -- one whose code is written
  pub coded : {u : ℕ} {units : List ℕ} (o : Option Statement) → code_in place o ≡ some units → Wrote before to units after u → Answers before to place o after (Some u)
  coded {units = units} none e h = absurd (none-ne-some units e)
  coded {u} {units} (some s) e h = subst (λ (us : List ℕ). Wrote before to us after u) (sym (some-injective (statement_code place s) units e)) h

-- the place past the units, if they are written
abbrev pub past_units : prelude.Option units.Written → prelude.Option ℕ
past_units None = None
past_units (Some p) = Some p.to

module _ {a b : List ℕ} {i u tag place : ℕ} (head : Stores a i (tag ∷ place ∷ []) b u) (c : List ℕ) where
  answered : (o : Option Statement) (n : Option (List ℕ)) (r : prelude.Option units.Written) → code_in place o ≡ headed tag place n → AnswersNames b u n c r → Answers a i place o c (past_units r)
  answered o none None e h = uncoded a c i place o e
  answered o none (Some p) e h = absurd (true≢false h)
  answered o (some us) None e h = absurd h
  answered o (some us) (Some p) e h = coded a c i place o e (wrote_then head.keeps.long head.wrote h)

  -- a statement of names alone
  named : {t : List ℕ} {at : ℕ} {k : Keyword} {table : List ℕ} (ks : List Kind)
      → ((env : Environment) (w : Written) → formed k (trim (frames_at t at).here (max_level - 1)) ≡ some w
      → code_in place (resolved env w) ≡ headed tag place (names_units env ks (trim (frames_at t at).here (max_level - 1))))
      → (r : prelude.Option units.Written) → WritesNames t at ks table b u c r → WritesStatement t at k place table a i c (past_units r)
  named {t} {at} ks whole r m = record {
    keeps = keeps_then head.ahead head.keeps m.keeps;
    says = λ env w y h. answered (resolved env w) (names_units env ks (trim (frames_at t at).here (max_level - 1))) r (whole env w h) (m.says env (max_level - 1) y);
  }

-- ---- the statements

module _ {t : List ℕ} {at place : ℕ} {table : List ℕ} {a b c : List ℕ} {i u : ℕ} {r : prelude.Option units.Written} (x : prelude.Option units.Written) (e : r ≡ x) where
  pub relation-coded : (k : Relation) (n : ℕ) {f g : theFamily.Family} → n ≡ relation_number k → Stores a i ((4102 + n) ∷ place ∷ []) b u
      → family_of f ≡ from_of k → family_of g ≡ to_of k → WritesNames t at (Kind.Reference f ∷ Kind.Reference g ∷ []) table b u c r
      → WritesStatement t at (relation_k k) place table a i c (past_units x)
  relation-coded k n {f} {g} d head from to m =
      named (tagged 4102 d head) c (Kind.Reference f ∷ Kind.Reference g ∷ [])
      (λ env w h. relation-whole env place k f g from to (trim (frames_at t at).here (max_level - 1)) w h) x
      (subst (λ (z : prelude.Option units.Written). WritesNames t at (Kind.Reference f ∷ Kind.Reference g ∷ []) table b u c z) e m)

  pub transition-coded : Stores a i (4105 ∷ place ∷ []) b u → WritesNames t at transition_kinds table b u c r
      → WritesStatement t at transition_k place table a i c (past_units x)
  transition-coded head m =
      named head c transition_kinds (λ env w h. transition-whole env place (trim (frames_at t at).here (max_level - 1)) w h) x
      (subst (λ (z : prelude.Option units.Written). WritesNames t at transition_kinds table b u c z) e m)
