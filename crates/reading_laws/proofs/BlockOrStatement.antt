-- What is judged is a block or a statement: what is judged to be read is a statement, what is judged to open is a block of its form, under a new full name, that
-- has room. Each law follows the definition that it speaks of. Assumes nothing.
use Prim.Native.Nat.{ℕ}
use native.Mathlib.Omega.{arith}
use mathlib.Core.Path.{◌≡◌, refl, sym, ap, ◌∙◌}
use mathlib.Core.Bool.{Bool, true, false, cond}
use mathlib.Core.List.{List}
use mathlib.Core.Option.{Option, none, some, none-ne-some}
use Rattle.lexer.specs.Forms.{Forms, closed, ended, word, part}
use Rattle.policy.specs.Basics.{Name, same, ◌>>=◌, lookup, is_in}
use Rattle.policy.specs.Statements.{Statement, Written, Policy, declarations}
use Rattle.policy.specs.Words.{Keyword, block_word, keyword_of}
use Rattle.policy.specs.Names.{full, environment_of}
use Rattle.policy.specs.Grammar.{formed, written, is_block, block_in}
use Rattle.policy.specs.Scopes.{Scoped, blocks_in}
use Rattle.policy.specs.Reading.{in_blocks, again, resolved, fits, shallow, reads, opens, fault, judge_maxima, judge_resolved, judge_statement, block_fits, judge_block, judge}
use Rattle.policy.proofs.Lists.{same-is}
use Rattle.policy.proofs.BlockLaws.{no_block}

-- ---- forms

-- and what has one is a block
pub is_block_lem : (f : Forms) (b : Name) → block_in f ≡ some b → is_block f ≡ true
is_block_lem f b h = go (is_block f) refl
  where
    go : (q : Bool) → is_block f ≡ q → q ≡ true
    go true e = refl
    go false e = absurd (none-ne-some b (sym (no_block f e) ∙ h))

-- `block` is no statement's keyword
pub no-keyword : keyword_of block_word ≡ none
unfolding keyword_of lookup same
no-keyword = refl

-- what is written as a statement is no block
pub written-no-block : (f : Forms) (w : Written) → written f ≡ some w → is_block f ≡ false
written-no-block closed w h = refl
written-no-block ended w h = refl
written-no-block (part at i r) w h = refl
written-no-block (word at v r) w h = go (same v block_word) refl
  where
    go : (q : Bool) → same v block_word ≡ q → q ≡ false
    go false e = refl
    go true e =
        let n : keyword_of v ≡ none = ap keyword_of (same-is v block_word e) ∙ no-keyword in
        absurd (none-ne-some w (sym (ap (λ (k : Option Keyword). k >>= λ k. formed k r) n) ∙ h))

-- ---- judgements

-- no statement opens
sized-never : (p : Policy) (s : Statement) → judge_maxima p s ≡ opens → ⊥
sized-never p s h = go (fits p s) (shallow s) h
  where
    go : (a b : Bool) → cond a (cond b (reads s) (fault 7)) (fault 6) ≡ opens → ⊥
    go false b e = let z : ◌≡◌ {A = ℕ} 0 1 = cc in omega arith
    go true false e = let z : ◌≡◌ {A = ℕ} 0 1 = cc in omega arith
    go true true e = let z : ◌≡◌ {A = ℕ} 0 1 = cc in omega arith

resolving-never : (p : Policy) (o : Option Statement) → judge_resolved p o ≡ opens → ⊥
resolving-never p none h = let z : ◌≡◌ {A = ℕ} 0 1 = cc in omega arith
resolving-never p (some s) h = sized-never p s h

naming-never : (path : List Name) (p : Policy) (o : Option Written) → judge_statement path p o ≡ opens → ⊥
naming-never path p none h = let z : ◌≡◌ {A = ℕ} 0 1 = cc in omega arith
naming-never path p (some w) h = go (again (declarations p) (in_blocks path w)) h
  where
    go : (q : Bool) → elim q [ true ↦ fault 4 | false ↦ judge_resolved p (resolved (environment_of (declarations p) path) (in_blocks path w)) ] ≡ opens → ⊥
    go true e = let z : ◌≡◌ {A = ℕ} 0 1 = cc in omega arith
    go false e = resolving-never p (resolved (environment_of (declarations p) path) (in_blocks path w)) e

-- no block is read as a statement
opening-never : (path blocks : List Name) (o : Option Name) (s : Statement) → judge_block path blocks o ≡ reads s → ⊥
opening-never path blocks none s h = let z : ◌≡◌ {A = ℕ} 0 1 = cc in omega arith
opening-never path blocks (some b) s h = go (is_in (full path b) blocks) (block_fits path b) h
  where
    go : (p q : Bool) → cond p (fault 4) (cond q opens (fault 6)) ≡ reads s → ⊥
    go true q e = let z : ◌≡◌ {A = ℕ} 0 1 = cc in omega arith
    go false true e = let z : ◌≡◌ {A = ℕ} 0 1 = cc in omega arith
    go false false e = let z : ◌≡◌ {A = ℕ} 0 1 = cc in omega arith

-- a block of its form, whose full name is new and short, within few enough blocks
pub record Opened (before : List Scoped) (x : Scoped) : Type 0 where
  pub name : Name
  pub form : block_in x.form ≡ some name
  pub new : is_in (full x.path name) (blocks_in before) ≡ false
  pub room : block_fits x.path name ≡ true

-- what the opening of a block says, by its name
opening-opens : (before : List Scoped) (x : Scoped) (o : Option Name) → block_in x.form ≡ o → judge_block x.path (blocks_in before) o ≡ opens → Opened before x
opening-opens before x none f h = let z : ◌≡◌ {A = ℕ} 0 1 = cc in absurd (omega arith)
opening-opens before x (some b) f h =
    go (is_in (full x.path b) (blocks_in before)) (block_fits x.path b) refl refl h
  where
    go : (p q : Bool) → is_in (full x.path b) (blocks_in before) ≡ p → block_fits x.path b ≡ q
        → cond p (fault 4) (cond q opens (fault 6)) ≡ opens → Opened before x
    go true q i j e = let z : ◌≡◌ {A = ℕ} 0 1 = cc in absurd (omega arith)
    go false true i j e = record { name = b; form = f; new = i; room = j }
    go false false i j e = let z : ◌≡◌ {A = ℕ} 0 1 = cc in absurd (omega arith)

module _ (before : List Scoped) (p : Policy) (x : Scoped) where
  -- a block is judged by its name, a statement by its written form
  pub judge-block : is_block x.form ≡ true → judge before p x ≡ judge_block x.path (blocks_in before) (block_in x.form)
  unfolding judge
  judge-block e = rw e

  pub judge-statement : is_block x.form ≡ false → judge before p x ≡ judge_statement x.path p (written x.form)
  unfolding judge
  judge-statement e = rw e

  -- what is read is a statement
  pub reads-statement : (s : Statement) → judge before p x ≡ reads s → is_block x.form ≡ false
  reads-statement s h = go (is_block x.form) refl
    where
      go : (q : Bool) → is_block x.form ≡ q → q ≡ false
      go false e = refl
      go true e = absurd (opening-never x.path (blocks_in before) (block_in x.form) s (sym (judge-block e) ∙ h))

  -- what opens is a block that may
  pub opens-block : judge before p x ≡ opens → Opened before x
  opens-block h = go (is_block x.form) refl
    where
      go : (q : Bool) → is_block x.form ≡ q → Opened before x
      go false e = absurd (naming-never x.path p (written x.form) (sym (judge-statement e) ∙ h))
      go true e = opening-opens before x (block_in x.form) refl (sym (judge-block e) ∙ h)
