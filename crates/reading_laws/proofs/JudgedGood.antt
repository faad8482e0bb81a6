-- A statement that is judged good has the facts that faults 3 to 7 leave: it is of what is declared before, what it declares is new and
-- has good names, and it has room. The law follows the order of the faults. Assumes nothing.
use Prim.Native.Nat.{ℕ}
use native.Mathlib.Omega.{arith}
use mathlib.Core.Path.{◌≡◌, refl, sym, ap, ◌∙◌, subst}
use mathlib.Core.Bool.{Bool, true, false, cond}
use mathlib.Core.List.{List}
use mathlib.Core.Option.{Option, none, some, some-injective}
use Rattle.lexer.specs.Forms.{names_good}
use Rattle.policy.specs.Basics.{Name}
use Rattle.policy.specs.Statements.{Statement, Written, declare, attributeset, gives, roletransition, constrain, validatetrans, Policy, declarations}
use Rattle.policy.specs.Reading.{in_blocks, again, resolved, is_short, has_room, fits, shallow, Judged, reads, fault, judge_maxima, judge_resolved, judge_statement, judge}
use Rattle.policy.specs.Grammar.{written}
use Rattle.policy.specs.Scopes.{Scoped}
use Rattle.policy.specs.Accepted.{StatementIn, GoodPath}
use Rattle.policy.specs.Names.{environment_of}
use Rattle.policy.proofs.Lists.{both_true}
use Rattle.policy.proofs.IfAny.{IfAny}
use Rattle.reading_laws.proofs.BlockOrStatement.{judge-statement, reads-statement}
use Rattle.reading_laws.proofs.ResolvedNames.{WellWritten, Declares, short_named, Resolved, resolved-in}
use Rattle.reading_laws.proofs.Written.{written-well}

-- a property of the statement that is read, if one is
pub record IfReads (P : Statement → Type 0) (j : Judged) : Type 0 where
  pub has : (s : Statement) → j ≡ reads s → P s

faulty : {P : Statement → Type 0} (n : ℕ) → IfReads P (fault n)
faulty n = record { has = λ s e. let z : ◌≡◌ {A = ℕ} 0 1 = cc in absurd (omega arith) }

-- a statement after p, with faults 3 to 7 ruled out
pub record Passes (p : Policy) (s : Statement) : Type 0 where
  pub inside : StatementIn (declarations p) s
  pub declares : Declares (declarations p) s
  pub room : fits p s ≡ true

-- what fits has a full name that is not too long
fits-short : (p : Policy) (s : Statement) → fits p s ≡ true → short_named s ≡ true
fits-short p (declare d) h = (both_true (has_room (declarations p) d) (is_short d) h).1
fits-short p (attributeset f a s) h = refl
fits-short p (gives k x y) h = refl
fits-short p (roletransition r t c n) h = refl
fits-short p (constrain c ps e) h = refl
fits-short p (validatetrans c e) h = refl

module _ (p : Policy) where
  sized-passes : (s : Statement) → Resolved (declarations p) s → IfReads (Passes p) (judge_maxima p s)
  sized-passes s h = go (fits p s) (shallow s) refl refl
    where
      passes : fits p s ≡ true → shallow s ≡ true → Passes p s
      passes e k = record { inside = h.0 k; declares = h.1 (fits-short p s e); room = e }

      go : (a b : Bool) → fits p s ≡ a → shallow s ≡ b → IfReads (Passes p) (cond a (cond b (reads s) (fault 7)) (fault 6))
      go false b e k = faulty 6
      go true false e k = faulty 7
      go true true e k = record { has = λ t i. let same : s ≡ t = cc in subst (Passes p) same (passes e k) }

  resolving-passes : (o : Option Statement) → IfAny (Resolved (declarations p)) o → IfReads (Passes p) (judge_resolved p o)
  resolving-passes none h = faulty 5
  resolving-passes (some s) h = sized-passes s (h.has s refl)

  naming-passes : (path : List Name) → GoodPath path → (o : Option Written) → IfAny WellWritten o → IfReads (Passes p) (judge_statement path p o)
  naming-passes path good none h = faulty 3
  naming-passes path good (some w) h = go (again (declarations p) (in_blocks path w)) refl
    where
      go : (b : Bool) → again (declarations p) (in_blocks path w) ≡ b
          → IfReads (Passes p) (elim b [ true ↦ fault 4 | false ↦ judge_resolved p (resolved (environment_of (declarations p) path) (in_blocks path w)) ])
      go true e = faulty 4
      go false e = resolving-passes _ (resolved-in (declarations p) path good w (h.has w refl) e)

  -- a statement that is judged good is what its written form resolves to
  sized_reads : (s t : Statement) → judge_maxima p s ≡ reads t → s ≡ t
  sized_reads s t h = go (fits p s) (shallow s) h
    where
      go : (a b : Bool) → cond a (cond b (reads s) (fault 7)) (fault 6) ≡ reads t → s ≡ t
      go false b e = let z : ◌≡◌ {A = ℕ} 0 1 = cc in absurd (omega arith)
      go true false e = let z : ◌≡◌ {A = ℕ} 0 1 = cc in absurd (omega arith)
      go true true e = cc

  resolving-reads : (o : Option Statement) (t : Statement) → judge_resolved p o ≡ reads t → o ≡ some t
  resolving-reads none t h = let z : ◌≡◌ {A = ℕ} 0 1 = cc in absurd (omega arith)
  resolving-reads (some s) t h = ap some (sized_reads s t h)

  naming-reads : (path : List Name) (s : Statement) (o : Option Written) → judge_statement path p o ≡ reads s
      → (w : Written) × (o ≡ some w) × (resolved (environment_of (declarations p) path) (in_blocks path w) ≡ some s)
  naming-reads path s none h = let z : ◌≡◌ {A = ℕ} 0 1 = cc in absurd (omega arith)
  naming-reads path s (some w) h = (w, refl, go (again (declarations p) (in_blocks path w)) h)
    where
      go : (b : Bool) → elim b [ true ↦ fault 4 | false ↦ judge_resolved p (resolved (environment_of (declarations p) path) (in_blocks path w)) ] ≡ reads s
          → resolved (environment_of (declarations p) path) (in_blocks path w) ≡ some s
      go true k = let z : ◌≡◌ {A = ℕ} 0 1 = cc in absurd (omega arith)
      go false k = resolving-reads (resolved (environment_of (declarations p) path) (in_blocks path w)) s k

module _ (before : List Scoped) (p : Policy) (x : Scoped) where
  -- what is read is a statement, so it is judged as one
  named : (s : Statement) → judge before p x ≡ reads s → judge_statement x.path p (written x.form) ≡ reads s
  named s h = sym (judge-statement before p x (reads-statement before p x s h)) ∙ h

  -- a statement in good blocks that is judged good passes
  pub judge-passes : GoodPath x.path → names_good x.form ≡ true → IfReads (Passes p) (judge before p x)
  judge-passes good h = record { has = λ s e. (naming-passes p x.path good (written x.form) (written-well x.form h)).has s (named s e) }

  -- what is judged good has a written form, and is what it resolves to
  pub judge-written : (s : Statement) → judge before p x ≡ reads s
      → (w : Written) × (written x.form ≡ some w) × (resolved (environment_of (declarations p) x.path) (in_blocks x.path w) ≡ some s)
  judge-written s h = naming-reads p x.path s (written x.form) (named s h)

  -- so a written form that is known resolves to it
  pub judge-resolves : (w : Written) (s : Statement) → written x.form ≡ some w → judge before p x ≡ reads s
      → resolved (environment_of (declarations p) x.path) (in_blocks x.path w) ≡ some s
  judge-resolves w s e h =
      let k = judge-written s h in
      let same : k.0 ≡ w = some-injective k.0 w (sym k.1 ∙ e) in
      ap (λ (v : Written). resolved (environment_of (declarations p) x.path) (in_blocks x.path v)) (sym same) ∙ k.2
