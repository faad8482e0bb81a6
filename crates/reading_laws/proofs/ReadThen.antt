-- Statements and blocks are read one after the other: some of them, then others, are read as the first are, and then the others after the statements of the
-- first. A row, then another row, holds the statements and blocks of the first, and then those of the second. So one statement more in the row is one line more
-- at the end of the policy. By induction on the first of the two. Assumes nothing.
use Prim.Native.Nat.{ℕ}
use native.Mathlib.Omega.{arith}
use mathlib.Core.Path.{◌≡◌, refl, sym, ap, ◌∙◌}
use mathlib.Core.Bool.{cond}
use mathlib.Core.List.{List, [], ◌∷◌, ◌++◌, append-nil, append_assoc}
use mathlib.Core.Option.{Option, none, some}
use Rattle.lexer.specs.Forms.{Forms, closed, ended, word, part}
use Rattle.policy.specs.Basics.{Name, each, gather, keep}
use Rattle.policy.specs.Statements.{Statement, Line, Policy}
use Rattle.policy.specs.Grammar.{is_block, block_in}
use Rattle.policy.specs.Scopes.{Scoped, scoped, scoped_in}
use Rattle.policy.specs.Reading.{Judged, reads, opens, fault, judge, Read, policy, refused, read_from}
use Rattle.policy.proofs.Lists.{each_append}
use Rattle.policy.proofs.BlockLaws.{no_block}
use Rattle.reading_laws.proofs.BlockOrStatement.{is_block_lem, reads-statement, opens-block}

infixr 50 ◌then◌
-- the items of a row, then those of another, in place of the first one's end
abbrev pub ◌then◌ : Forms → Forms → Forms
closed then g = g
ended then g = g
(word at w r) then g = word at w (r then g)
(part at i r) then g = part at i (r then g)

-- ---- the statements and blocks of a row

-- those in the parentheses of a statement or a block: none in those of a statement
abbrev pub within : List Name → Forms → List Scoped
within path i = elim (block_in i) [ none ↦ [] | some b ↦ scoped_in (b ∷ path) i ]

-- those of a row, then those of another
pub scoped-then : (path : List Name) (f g : Forms) → scoped_in path (f then g) ≡ scoped_in path f ++ scoped_in path g
unfolding scoped_in
scoped-then path closed g = refl
scoped-then path ended g = refl
scoped-then path (word at w r) g = scoped-then path r g
scoped-then path (part at i r) g =
    ap {B = List Scoped} (λ l. scoped at path i ∷ (within path i ++ l)) (scoped-then path r g)
    ∙ ap {B = List Scoped} (λ l. scoped at path i ∷ l) (sym (append_assoc (within path i) (scoped_in path r) (scoped_in path g)))

-- a statement, then the rest of the row
pub scoped-statement : (path : List Name) (at : ℕ) (i r : Forms) → block_in i ≡ none → scoped_in path (part at i r) ≡ scoped at path i ∷ scoped_in path r
unfolding scoped_in
scoped-statement path at i r e = rw e

-- a block, those in it, then the rest of the row
pub scoped-block : (path : List Name) (at : ℕ) (i r : Forms) (b : Name) → block_in i ≡ some b
    → scoped_in path (part at i r) ≡ scoped at path i ∷ (scoped_in (b ∷ path) i ++ scoped_in path r)
unfolding scoped_in
scoped-block path at i r b e = rw e

-- ---- one statement or block, and the rest after it

-- go on with the statements that are read
abbrev pub go_on : Read → (Policy → Read) → Read
go_on (policy p) k = k p
go_on (refused n at) k = refused n at

-- the statement that is at a place
abbrev pub line : ℕ → Statement → Line
line at s = record { place = at; says = s }

-- by how the first is judged
abbrev pub judged_at : ℕ → Policy → Judged → (Policy → Read) → Read
judged_at at p (reads s) k = k (p ++ (line at s ∷ []))
judged_at at p opens k = k p
judged_at at p (fault n) k = refused n at

module _ (before : List Scoped) (x : Scoped) (xs : List Scoped) (p : Policy) where
  -- the first is judged, and the rest read after it
  pub read_one : read_from before (x ∷ xs) p ≡ judged_at x.place p (judge before p x) (read_from (before ++ (x ∷ [])) xs)
  unfolding read_from
  read_one = go (judge before p x)
    where
      go : (j : Judged) → elim j [
        | reads s ↦ read_from (before ++ (x ∷ [])) xs (p ++ (record { place = x.place; says = s } ∷ []))
        | opens ↦ read_from (before ++ (x ∷ [])) xs p
        | fault n ↦ refused n x.place
      ] ≡ judged_at x.place p j (read_from (before ++ (x ∷ [])) xs)
      go (reads s) = refl
      go opens = refl
      go (fault n) = refl

  -- a statement that is read is one line more
  pub read-reads : (s : Statement) → judge before p x ≡ reads s → read_from before (x ∷ xs) p ≡ read_from (before ++ (x ∷ [])) xs (p ++ (line x.place s ∷ []))
  read-reads s h = read_one ∙ rw h

  -- a block that is opened is no line of its own
  pub read-opens : judge before p x ≡ opens → read_from before (x ∷ xs) p ≡ read_from (before ++ (x ∷ [])) xs p
  read-opens h = read_one ∙ rw h

  -- a fault is refused at its own place, whatever follows
  pub read-fault : (n : ℕ) → judge before p x ≡ fault n → read_from before (x ∷ xs) p ≡ refused n x.place
  read-fault n h = read_one ∙ rw h

-- ---- some of them, then others

-- what goes on in two steps after the first goes on so in all
judged-then : (at : ℕ) (p : Policy) (j : Judged) (k l m : Policy → Read) → ((q : Policy) → k q ≡ go_on (l q) m)
    → judged_at at p j k ≡ go_on (judged_at at p j l) m
judged-then at p (reads s) k l m h = h (p ++ (line at s ∷ []))
judged-then at p opens k l m h = h p
judged-then at p (fault n) k l m h = refl

-- the others are read after the statements of the first
pub read-then : (before xs ys : List Scoped) (p : Policy) → read_from before (xs ++ ys) p ≡ go_on (read_from before xs p) (read_from (before ++ xs) ys)
unfolding read_from
read-then before [] ys p = rw append-nil
read-then before (x ∷ xs) ys p =
    let after : before ++ (x ∷ []) ++ xs ≡ before ++ (x ∷ xs) = append_assoc before (x ∷ []) xs in
    read_one before x (xs ++ ys) p
    ∙ judged-then x.place p (judge before p x) _ _ _
    (λ q. read-then (before ++ (x ∷ [])) xs ys q ∙ ap (λ (l : List Scoped). go_on (read_from (before ++ (x ∷ [])) xs q) (read_from l ys)) after)
    ∙ ap (λ (r : Read). go_on r (read_from (before ++ (x ∷ xs)) ys)) (sym (read_one before x xs p))

-- where the first are read, the others are read after them
pub read-on : (before xs ys : List Scoped) (p q : Policy) → read_from before xs p ≡ policy q → read_from before (xs ++ ys) p ≡ read_from (before ++ xs) ys q
read-on before xs ys p q h = read-then before xs ys p ∙ rw h

-- and one that is judged faulty is refused, whatever follows
pub stopped-row : (before xs : List Scoped) (x : Scoped) (rest : List Scoped) (n : ℕ) (p q : Policy) → read_from before xs p ≡ policy q
    → judge (before ++ xs) q x ≡ fault n → read_from before (xs ++ (x ∷ rest)) p ≡ refused n x.place
stopped-row before xs x rest n p q h k = read-on before xs (x ∷ rest) p q h ∙ read-fault (before ++ xs) x rest q n k

-- ---- a row that is read, by its first part

-- a statement was read and then the rest of the row; or a block was opened, the row in it was read, and then the rest of the row
pub data PartRead (path : List Name) (at : ℕ) (i r : Forms) (before : List Scoped) (p q : Policy) : Type 0 where
  first-statement : (s : Statement) → judge before p (scoped at path i) ≡ reads s
      → read_from (before ++ (scoped at path i ∷ [])) (scoped_in path r) (p ++ (line at s ∷ [])) ≡ policy q → PartRead path at i r before p q
  first_block : (b : Name) (o : Policy) → judge before p (scoped at path i) ≡ opens → block_in i ≡ some b
      → read_from (before ++ (scoped at path i ∷ [])) (scoped_in (b ∷ path) i) p ≡ policy o
      → read_from (before ++ (scoped at path i ∷ []) ++ scoped_in (b ∷ path) i) (scoped_in path r) o ≡ policy q → PartRead path at i r before p q

module _ (path : List Name) (at : ℕ) (i r : Forms) (before : List Scoped) (p q : Policy) where
  abbrev first : Scoped
  first = scoped at path i

  -- what is read of the row in a block, and then of the rest
  block_read : (b : Name) → judge before p first ≡ opens → block_in i ≡ some b → (x : Read) → read_from (before ++ (first ∷ [])) (scoped_in (b ∷ path) i) p ≡ x
      → go_on x (read_from (before ++ (first ∷ []) ++ scoped_in (b ∷ path) i) (scoped_in path r)) ≡ policy q → PartRead path at i r before p q
  block_read b j e (policy o) h k = first_block b o j e h k
  block_read b j e (refused n m) h k = let z : ◌≡◌ {A = ℕ} 0 1 = cc in absurd (omega arith)

  -- which of the two it was is told by how the first was judged
  pub part-read : read_from before (scoped_in path (part at i r)) p ≡ policy q → PartRead path at i r before p q
  unfolding scoped_in
  part-read h = go (judge before p first) refl
    where
      go : (j : Judged) → judge before p first ≡ j → PartRead path at i r before p q
      go (reads s) e =
          let row = scoped-statement path at i r (no_block i (reads-statement before p first s e)) in
          first-statement s e (sym (ap (λ (l : List Scoped). read_from before l p) row ∙ read-reads before first (scoped_in path r) p s e) ∙ h)
      go opens e =
          let o = opens-block before p first e in
          let row = scoped-block path at i r o.name o.form in
          let inner = scoped_in (o.name ∷ path) i in
          block_read o.name e o.form _ refl
          (sym (ap (λ (l : List Scoped). read_from before l p) row ∙ read-opens before first (inner ++ scoped_in path r) p e
          ∙ read-then (before ++ (first ∷ [])) inner (scoped_in path r) p) ∙ h)
      go (fault n) e =
          let k : refused n at ≡ policy q = sym (read-fault before first (within path i ++ scoped_in path r) p n e) ∙ h in
          let z : ◌≡◌ {A = ℕ} 0 1 = cc in
          absurd (omega arith)

-- ---- places

-- the places of the statements among them; and of the statements of a policy
abbrev pub statement_at : Scoped → Option ℕ
statement_at x = cond (is_block x.form) none (some x.place)

abbrev pub statement_places : List Scoped → List ℕ
statement_places xs = gather statement_at xs

abbrev pub line_places : Policy → List ℕ
line_places p = each (λ (l : Line). l.place) p

-- no statement is passed over, and none is made up: what is read has a line for each statement, in their order
pub read-places : (before xs : List Scoped) (p q : Policy) → read_from before xs p ≡ policy q → line_places q ≡ line_places p ++ statement_places xs
unfolding read_from gather
read-places before [] p q h = let same : q ≡ p = cc in rw (same, append-nil)
read-places before (x ∷ xs) p q h = go (judge before p x) refl (sym (read_one before x xs p) ∙ h) λ o. read-places (before ++ (x ∷ [])) xs o q
  where
    go : (j : Judged) → judge before p x ≡ j → judged_at x.place p j (read_from (before ++ (x ∷ [])) xs) ≡ policy q
        → ((o : Policy) → read_from (before ++ (x ∷ [])) xs o ≡ policy q → line_places q ≡ line_places o ++ statement_places xs)
        → line_places q ≡ line_places p ++ keep (statement_at x) (statement_places xs)
    go (reads s) e k further =
        rw (reads-statement before p x s e)
        (further (p ++ (line x.place s ∷ [])) k
        ∙ rw (each_append (λ (l : Line). l.place) p (line x.place s ∷ []), append_assoc) (unfold each in refl))
    go opens e k further = let b = opens-block before p x e in rw (is_block_lem x.form b.name b.form) (further p k)
    go (fault n) e k further = let z : ◌≡◌ {A = ℕ} 0 1 = cc in absurd (omega arith)
