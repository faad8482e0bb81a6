-- A text that is read gives statements with the facts of `Accepted`: these facts hold of no statements, each statement that is judged
-- good keeps them, and each block that is opened leaves the blocks around those in it good. Induction on the row. That every word of a clean text is a name is the
-- lexer's law. Assumes nothing.
use Rattle.lexer.specs.declared.ScanFault.{ScanFault}
use Rattle.std.specs.Prelude.{Ok, Err}
use Prim.Native.Nat.{ℕ}
use native.Mathlib.Omega.{arith}
use mathlib.Core.Path.{◌≡◌, refl, ap, ◌∙◌, subst}
use mathlib.Core.Bool.{true}
use mathlib.Core.List.{List, [], ◌∷◌, ◌++◌}
use mathlib.Core.Option.{Option, none, some}
use Rattle.lexer.specs.Scan.{scan, Scanned}
use Rattle.lexer.specs.Forms.{Forms, closed, ended, word, part, names_good, forms_of}
use Rattle.lexer.specs.Class.{is_name}
use Rattle.lexer.proofs.Clean.{clean-names}
use Rattle.policy.specs.Basics.{Name, gather}
use Rattle.policy.specs.Statements.{Statement, Policy, declarations, transitions, constrains, relabels}
use Rattle.policy.specs.Scopes.{Scoped, scoped, scoped_in}
use Rattle.policy.specs.Reading.{row_count, reads, judge, Read, policy, refused, read_from, read_all, after_scan, read_policy}
use Rattle.policy.specs.Sound.{good_from}
use Rattle.policy.specs.Faults.{cycle, clash}
use Rattle.policy.specs.Outcome.{Input, accept, policy_of}
use Rattle.policy.specs.Accepted.{Accepted, GoodPath}
use Rattle.policy.proofs.Lists.{both_true}
use Rattle.reading_laws.proofs.FullNames.{good-top, good-inner}
use Rattle.reading_laws.proofs.JudgedGood.{judge-passes}
use Rattle.reading_laws.proofs.OneMore.{one_more}
use Rattle.reading_laws.proofs.ReadThen.{line, PartRead, first-statement, first_block, part-read}

-- no statements
pub none-accepted : Accepted []
unfolding declarations transitions constrains relabels gather good_from row_count
none-accepted = record {
  names = refl;
  statements = tt;
  few-transitions = omega arith;
  few-constrains = omega arith;
  few-rows = omega arith;
  few-relabels = omega arith;
  few-relabel-rows = omega arith;
}

-- one statement that is judged good in good blocks, after those of p
pub statement-accepted : (before : List Scoped) (p : Policy) (x : Scoped) (s : Statement) → Accepted p → GoodPath x.path → names_good x.form ≡ true
    → judge before p x ≡ reads s → Accepted (p ++ (line x.place s ∷ []))
statement-accepted before p x s a g h e = one_more p x.place s a ((judge-passes before p x g h).has s e)

-- the statements and blocks of a row in the blocks of a path, read after those before them, whatever these are
abbrev pub KeepsAccepted : List Name → Forms → Type 0
KeepsAccepted path f = (before : List Scoped) (p q : Policy) → Accepted p → read_from before (scoped_in path f) p ≡ policy q → Accepted q

-- a statement, or a block with what is in it, and the rest of the row
part-accepted : (path : List Name) (at : ℕ) (i r : Forms) → GoodPath path → names_good i ≡ true → ((b : Name) → GoodPath (b ∷ path) → KeepsAccepted (b ∷ path) i)
    → KeepsAccepted path r → KeepsAccepted path (part at i r)
part-accepted path at i r g n inner rest before p q a h = go (part-read path at i r before p q h)
  where
    go : PartRead path at i r before p q → Accepted q
    go (first-statement s j k) = rest _ _ q (statement-accepted before p (scoped at path i) s a g n j) k
    go (first_block b o j e k l) = rest _ o q (inner b (good-inner before p (scoped at path i) b j g e n) _ p o a k) l

-- every row in good blocks
pub row-accepted : (path : List Name) (f : Forms) → GoodPath path → names_good f ≡ true → KeepsAccepted path f
unfolding read_from scoped_in names_good
row-accepted path closed g n before p q a h = let same : p ≡ q = cc in subst Accepted same a
row-accepted path ended g n before p q a h = let same : p ≡ q = cc in subst Accepted same a
row-accepted path (word at w r) g n before p q a h = row-accepted path r g (both_true (is_name w) (names_good r) n).1 before p q a h
row-accepted path (part at i r) g n before p q a h =
    let t = both_true (names_good i) (names_good r) n in
    part-accepted path at i r g t.0 (λ b k. row-accepted (b ∷ path) i k t.0) (row-accepted path r g t.1) before p q a h

-- what passes 8 and 9 too
accept-passes : (q p : Policy) → accept q ≡ policy p → (q ≡ p) × (cycle q ≡ none) × (clash q ≡ none)
unfolding accept
accept-passes q p h = go (cycle q) (clash q) refl refl h
  where
    go : (x y : Option ℕ) → cycle q ≡ x → clash q ≡ y
        → elim x [ some at ↦ refused 8 at | none ↦ elim y [ some at ↦ refused 9 at | none ↦ policy q ] ] ≡ policy p
        → (q ≡ p) × (cycle q ≡ none) × (clash q ≡ none)
    go none none c d e = (cc, c, d)
    go none (some at) c d e = let z : ◌≡◌ {A = ℕ} 0 1 = cc in absurd (omega arith)
    go (some at) y c d e = let z : ◌≡◌ {A = ℕ} 0 1 = cc in absurd (omega arith)

-- a whole text
pub read-accepted : (text : List ℕ) (p : Policy) → read_policy text ≡ policy p → Accepted p
unfolding read_policy
read-accepted text p h = go (scan text) refl h
  where
    go : (s : Scanned) → scan text ≡ s → after_scan s (read_all (scoped_in [] (forms_of text))) ≡ policy p → Accepted p
    go (Err ScanFault.TooLong) e k = let z : ◌≡◌ {A = ℕ} 0 1 = cc in absurd (omega arith)
    go (Err (ScanFault.Wrong at)) e k = let z : ◌≡◌ {A = ℕ} 0 1 = cc in absurd (omega arith)
    go (Ok _) e k = row-accepted [] (forms_of text) good-top (clean-names text e) [] [] p none-accepted k

pub policy-accepted : (x : Input) (p : Policy) → policy_of x ≡ policy p → Accepted p × (cycle p ≡ none) × (clash p ≡ none)
unfolding policy_of
policy-accepted x p h = go (read_policy x.text) refl h
  where
    go : (r : Read) → read_policy x.text ≡ r → elim r [ refused n at ↦ refused n at | policy q ↦ accept q ] ≡ policy p
        → Accepted p × (cycle p ≡ none) × (clash p ≡ none)
    go (refused n at) e k = let z : ◌≡◌ {A = ℕ} 0 1 = cc in absurd (omega arith)
    go (policy q) e k =
        let b = accept-passes q p k in
        subst (λ (r : Policy). Accepted r × (cycle r ≡ none) × (clash r ≡ none)) b.0 (read-accepted x.text q e, b.1, b.2)

-- and it is what is read
pub policy-read : (x : Input) (p : Policy) → policy_of x ≡ policy p → read_policy x.text ≡ policy p
unfolding policy_of
policy-read x p h = go (read_policy x.text) refl h
  where
    go : (r : Read) → read_policy x.text ≡ r → elim r [ refused n at ↦ refused n at | policy q ↦ accept q ] ≡ policy p → read_policy x.text ≡ policy p
    go (refused n at) e k = let z : ◌≡◌ {A = ℕ} 0 1 = cc in absurd (omega arith)
    go (policy q) e k = e ∙ ap policy (accept-passes q p k).0
