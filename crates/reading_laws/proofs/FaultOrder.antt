-- "Order: 1; then 2, ..; then statements in text order, each tried for 3, 4, 5, 6, 7", and with W-203 "A block is tried before the statements in it", for 3, 4
-- and 6: a text is refused with a number and a place exactly where this is its first fault in that order. The place of 3 to 7 is that of the statement or the
-- block, all before it having been read. By induction on the statements and blocks; the converse by reading them in two parts. Assumes nothing.
use Rattle.lexer.specs.declared.ScanFault.{ScanFault}
use Rattle.std.specs.Prelude.{Ok, Err}
use Prim.Native.Nat.{ℕ, ◌≤◌}
use native.Mathlib.Omega.{arith}
use mathlib.Core.Path.{◌≡◌, refl, sym, ap, ◌∙◌, subst, subst₂}
use mathlib.Core.Bool.{Bool, true, false, cond}
use mathlib.Core.List.{List, [], ◌∷◌, ◌++◌, append_assoc, append-nil}
use mathlib.Core.Option.{Option, none, some}
use Rattle.lexer.specs.Scan.{scan, max_text, Scanned, no_fault}
use Rattle.lexer.specs.Forms.{forms_of}
use Rattle.policy.specs.Basics.{Name, is_in}
use Rattle.policy.specs.Statements.{Statement, Written, Policy, declarations}
use Rattle.policy.specs.Grammar.{written, is_block, block_in}
use Rattle.policy.specs.Scopes.{Scoped, scoped_in, blocks_in}
use Rattle.policy.specs.Reading.{in_blocks, again, resolved, fits, shallow}
use Rattle.policy.specs.Reading.{Judged, reads, opens, fault, judge_maxima, judge_resolved, judge_statement, block_fits, judge_block, judge, policy, refused}
use Rattle.policy.specs.Reading.{read_from, read_all, after_scan, read_policy}
use Rattle.policy.specs.Names.{full, environment_of}
use Rattle.reading_laws.proofs.BlockOrStatement.{judge-block, judge-statement}
use Rattle.reading_laws.proofs.ReadThen.{line, judged_at, read_one, read-reads, read-opens, stopped-row}

-- ---- one statement or block

-- a statement's first fault in the blocks of a path, after the statements of p, by its written form: each is told with those before it ruled out
pub data StatementFault (path : List Name) (p : Policy) (o : Option Written) : ℕ → Type 0 where
  no-form : o ≡ none → StatementFault path p o 3
  declared-again : (w : Written) → o ≡ some w → again (declarations p) (in_blocks path w) ≡ true → StatementFault path p o 4
  not-declared : (w : Written) → o ≡ some w → again (declarations p) (in_blocks path w) ≡ false
      → resolved (environment_of (declarations p) path) (in_blocks path w) ≡ none → StatementFault path p o 5
  too_many : (w : Written) (s : Statement) → o ≡ some w → again (declarations p) (in_blocks path w) ≡ false
      → resolved (environment_of (declarations p) path) (in_blocks path w) ≡ some s → fits p s ≡ false → StatementFault path p o 6
  too-deep : (w : Written) (s : Statement) → o ≡ some w → again (declarations p) (in_blocks path w) ≡ false
      → resolved (environment_of (declarations p) path) (in_blocks path w) ≡ some s → fits p s ≡ true → shallow s ≡ false → StatementFault path p o 7

-- a block's first fault in the blocks of a path, by its own name, where blocks of these full names were opened before
pub data BlockFault (path blocks : List Name) (o : Option Name) : ℕ → Type 0 where
  no-block-form : o ≡ none → BlockFault path blocks o 3
  opened-again : (b : Name) → o ≡ some b → is_in (full path b) blocks ≡ true → BlockFault path blocks o 4
  too-deep-or-long : (b : Name) → o ≡ some b → is_in (full path b) blocks ≡ false → block_fits path b ≡ false → BlockFault path blocks o 6

-- the first fault of a statement or a block after those before it, whose statements are p
pub data FaultIn (before : List Scoped) (p : Policy) (x : Scoped) : ℕ → Type 0 where
  of-statement : {n : ℕ} → is_block x.form ≡ false → StatementFault x.path p (written x.form) n → FaultIn before p x n
  of-block : {n : ℕ} → is_block x.form ≡ true → BlockFault x.path (blocks_in before) (block_in x.form) n → FaultIn before p x n

-- their numbers are 3 to 7
statement-number : {path : List Name} {p : Policy} {o : Option Written} {n : ℕ} → StatementFault path p o n → (3 ≤ n) × (n ≤ 7)
statement-number (no-form e) = (omega arith, omega arith)
statement-number (declared-again w e a) = (omega arith, omega arith)
statement-number (not-declared w e a r) = (omega arith, omega arith)
statement-number (too_many w s e a r x) = (omega arith, omega arith)
statement-number (too-deep w s e a r x y) = (omega arith, omega arith)

block-number : {path blocks : List Name} {o : Option Name} {n : ℕ} → BlockFault path blocks o n → (3 ≤ n) × (n ≤ 7)
block-number (no-block-form e) = (omega arith, omega arith)
block-number (opened-again b e a) = (omega arith, omega arith)
block-number (too-deep-or-long b e a h) = (omega arith, omega arith)

pub fault-number : {before : List Scoped} {p : Policy} {x : Scoped} {n : ℕ} → FaultIn before p x n → (3 ≤ n) × (n ≤ 7)
fault-number (of-statement e f) = statement-number f
fault-number (of-block e f) = block-number f

-- ---- it is judged faulty where it has the fault

module _ (path : List Name) (p : Policy) (o : Option Written) where
  naming-faulty : (n : ℕ) → StatementFault path p o n → judge_statement path p o ≡ fault n
  naming-faulty n (no-form e) = rw e
  naming-faulty n (declared-again w e a) = rw (e, a, judge_statement)
  naming-faulty n (not-declared w e a r) = rw (e, a, judge_statement, r)
  naming-faulty n (too_many w s e a r x) = rw (e, a, judge_statement, r, x)
  naming-faulty n (too-deep w s e a r x y) = rw (e, a, judge_statement, r, x, y)

opening-faulty : (path blocks : List Name) (o : Option Name) (n : ℕ) → BlockFault path blocks o n → judge_block path blocks o ≡ fault n
opening-faulty path blocks o n (no-block-form e) = rw e
opening-faulty path blocks o n (opened-again b e a) = rw (e, a)
opening-faulty path blocks o n (too-deep-or-long b e a h) = rw (e, a, h)

module _ (before : List Scoped) (p : Policy) (x : Scoped) where
  pub fault-judged : (n : ℕ) → FaultIn before p x n → judge before p x ≡ fault n
  fault-judged n (of-statement e f) = judge-statement before p x e ∙ naming-faulty x.path p (written x.form) n f
  fault-judged n (of-block e f) = judge-block before p x e ∙ opening-faulty x.path (blocks_in before) (block_in x.form) n f

-- ---- and has it where it is judged faulty

-- a property of the fault, if there is one
record IfFault (Q : ℕ → Type 0) (j : Judged) : Type 0 where
  has : (n : ℕ) → j ≡ fault n → Q n

a-fault : {Q : ℕ → Type 0} {n : ℕ} → Q n → IfFault Q (fault n)
a-fault {Q} {n} h = record { has = λ m e. let same : n ≡ m = cc in subst Q same h }

no-fault : {Q : ℕ → Type 0} (s : Statement) → IfFault Q (reads s)
no-fault s = record { has = λ m e. let z : ◌≡◌ {A = ℕ} 0 1 = cc in absurd (omega arith) }

it_opens : {Q : ℕ → Type 0} → IfFault Q opens
it_opens = record { has = λ m e. let z : ◌≡◌ {A = ℕ} 0 1 = cc in absurd (omega arith) }

module _ (path : List Name) (p : Policy) (o : Option Written) where
  sized-fault : (w : Written) (s : Statement) → o ≡ some w → again (declarations p) (in_blocks path w) ≡ false
      → resolved (environment_of (declarations p) path) (in_blocks path w) ≡ some s → IfFault (StatementFault path p o) (judge_maxima p s)
  sized-fault w s e a r = go (fits p s) (shallow s) refl refl
    where
      go : (x y : Bool) → fits p s ≡ x → shallow s ≡ y → IfFault (StatementFault path p o) (cond x (cond y (reads s) (fault 7)) (fault 6))
      go false y i j = a-fault (too_many w s e a r i)
      go true false i j = a-fault (too-deep w s e a r i j)
      go true true i j = no-fault s

  resolving-fault : (w : Written) → o ≡ some w → again (declarations p) (in_blocks path w) ≡ false → (r : Option Statement)
      → resolved (environment_of (declarations p) path) (in_blocks path w) ≡ r → IfFault (StatementFault path p o) (judge_resolved p r)
  resolving-fault w e a none r = a-fault (not-declared w e a r)
  resolving-fault w e a (some s) r = sized-fault w s e a r

  naming-fault : (v : Option Written) → o ≡ v → IfFault (StatementFault path p o) (judge_statement path p v)
  naming-fault none e = a-fault (no-form e)
  naming-fault (some w) e = go (again (declarations p) (in_blocks path w)) refl
    where
      go : (b : Bool) → again (declarations p) (in_blocks path w) ≡ b
          → IfFault (StatementFault path p o) (elim b [ true ↦ fault 4 | false ↦ judge_resolved p (resolved (environment_of (declarations p) path) (in_blocks path w)) ])
      go true a = a-fault (declared-again w e a)
      go false a = resolving-fault w e a (resolved (environment_of (declarations p) path) (in_blocks path w)) refl

opening-fault : (path blocks : List Name) (o v : Option Name) → o ≡ v → IfFault (BlockFault path blocks o) (judge_block path blocks v)
opening-fault path blocks o none e = a-fault (no-block-form e)
opening-fault path blocks o (some b) e = go (is_in (full path b) blocks) (block_fits path b) refl refl
  where
    go : (i r : Bool) → is_in (full path b) blocks ≡ i → block_fits path b ≡ r → IfFault (BlockFault path blocks o) (cond i (fault 4) (cond r opens (fault 6)))
    go true r a h = a-fault (opened-again b e a)
    go false true a h = it_opens
    go false false a h = a-fault (too-deep-or-long b e a h)

module _ (before : List Scoped) (p : Policy) (x : Scoped) where
  pub judged-fault : (n : ℕ) → judge before p x ≡ fault n → FaultIn before p x n
  judged-fault n h = go (is_block x.form) refl
    where
      go : (q : Bool) → is_block x.form ≡ q → FaultIn before p x n
      go false e = of-statement e ((naming-fault x.path p (written x.form) (written x.form) refl).has n (sym (judge-statement before p x e) ∙ h))
      go true e = of-block e ((opening-fault x.path (blocks_in before) (block_in x.form) (block_in x.form) refl).has n (sym (judge-block before p x e) ∙ h))

-- ---- some statements and blocks

-- xs, read after those earlier, whose statements are p, have their first fault, of number n, in a statement or block at a place: those before it are read
pub record StopsAfter (earlier : List Scoped) (p : Policy) (xs : List Scoped) (n at : ℕ) : Type 0 where
  pub before : List Scoped
  pub here : Scoped
  pub rest : List Scoped
  pub row : xs ≡ before ++ (here ∷ rest)
  pub place : here.place ≡ at
  pub sofar : Policy
  pub read : read_from earlier before p ≡ policy sofar
  pub faulty : FaultIn (earlier ++ before) sofar here n

-- those of a whole text
abbrev pub Stops : List Scoped → ℕ → ℕ → Type 0
Stops xs n at = StopsAfter [] [] xs n at

-- where they stop they are refused
pub stops-refused : (earlier : List Scoped) (p : Policy) (xs : List Scoped) (n at : ℕ) → StopsAfter earlier p xs n at → read_from earlier xs p ≡ refused n at
stops-refused earlier p xs n at s =
    rw s.row
    (stopped-row earlier s.before s.here s.rest n p s.sofar s.read (fault-judged (earlier ++ s.before) s.sofar s.here n s.faulty)
    ∙ ap (refused n) s.place)

-- one more in front, that is read or opened
later : (earlier : List Scoped) (x : Scoped) (p q : Policy) (xs : List Scoped) (n at : ℕ)
    → ((ys : List Scoped) → read_from earlier (x ∷ ys) p ≡ read_from (earlier ++ (x ∷ [])) ys q)
    → StopsAfter (earlier ++ (x ∷ [])) q xs n at → StopsAfter earlier p (x ∷ xs) n at
later earlier x p q xs n at one s = record {
  before = x ∷ s.before;
  here = s.here;
  rest = s.rest;
  row = ap {B = List Scoped} (λ l. x ∷ l) s.row;
  place = s.place;
  sofar = s.sofar;
  read = one s.before ∙ s.read;
  faulty = subst (λ (l : List Scoped). FaultIn l s.sofar s.here n) (append_assoc earlier (x ∷ []) s.before) s.faulty;
}

-- the first of them
at_once : (earlier : List Scoped) (x : Scoped) (p : Policy) (xs : List Scoped) (m n at : ℕ) → judge earlier p x ≡ fault m → refused m x.place ≡ refused n at
    → StopsAfter earlier p (x ∷ xs) n at
unfolding read_from
at_once earlier x p xs m n at h e =
    let here : x.place ≡ at = cc in
    let number : m ≡ n = cc in
    record {
      before = [];
      here = x;
      rest = xs;
      row = refl;
      place = here;
      sofar = p;
      read = refl;
      faulty = subst₂ (λ (l : List Scoped) (k : ℕ). FaultIn l p x k) (sym (append-nil earlier)) number (judged-fault earlier p x m h);
    }

-- and they stop where they are refused
pub refused-stops : (earlier : List Scoped) (p : Policy) (xs : List Scoped) (n at : ℕ) → read_from earlier xs p ≡ refused n at → StopsAfter earlier p xs n at
unfolding read_from
refused-stops earlier p [] n at h = let z : ◌≡◌ {A = ℕ} 0 1 = cc in absurd (omega arith)
refused-stops earlier p (x ∷ xs) n at h = go (judge earlier p x) refl (sym (read_one earlier x xs p) ∙ h) (λ q. refused-stops (earlier ++ (x ∷ [])) q xs n at)
  where
    go : (j : Judged) → judge earlier p x ≡ j → judged_at x.place p j (read_from (earlier ++ (x ∷ [])) xs) ≡ refused n at
        → ((q : Policy) → read_from (earlier ++ (x ∷ [])) xs q ≡ refused n at → StopsAfter (earlier ++ (x ∷ [])) q xs n at) → StopsAfter earlier p (x ∷ xs) n at
    go (reads s) e k further =
        let q = p ++ (line x.place s ∷ []) in later earlier x p q xs n at (λ ys. read-reads earlier x ys p s e) (further q k)
    go opens e k further = later earlier x p p xs n at (λ ys. read-opens earlier x ys p e) (further p k)
    go (fault m) e k further = at_once earlier x p xs m n at e k

-- ---- a text

-- why a text is refused
pub data RefusedFor (text : List ℕ) : ℕ → ℕ → Type 0 where
  too_long : scan text ≡ (Err ScanFault.TooLong) → RefusedFor text 1 max_text
  wrong_byte : (at : ℕ) → scan text ≡ Err (ScanFault.Wrong at) → RefusedFor text 2 at
  at-statement : (n at : ℕ) → scan text ≡ no_fault → Stops (scoped_in [] (forms_of text)) n at → RefusedFor text n at

pub refusal-number : {text : List ℕ} {n at : ℕ} → RefusedFor text n at → (1 ≤ n) × (n ≤ 7)
refusal-number (too_long e) = (omega arith, omega arith)
refusal-number (wrong_byte at e) = (omega arith, omega arith)
refusal-number (at-statement n at e s) = let b = fault-number s.faulty in (omega arith, omega arith)

module _ (text : List ℕ) where
  same-refusal : {m b n at : ℕ} → refused m b ≡ refused n at → RefusedFor text m b → RefusedFor text n at
  same-refusal {m} {b} {n} {at} e r = let number : m ≡ n = cc in let here : b ≡ at = cc in subst₂ (RefusedFor text) number here r

  -- a text that is refused has the fault as its first
  pub fault-order : (n at : ℕ) → read_policy text ≡ refused n at → RefusedFor text n at
  unfolding read_policy
  fault-order n at h = go (scan text) refl h
    where
      go : (s : Scanned) → scan text ≡ s → after_scan s (read_all (scoped_in [] (forms_of text))) ≡ refused n at → RefusedFor text n at
      go (Err ScanFault.TooLong) e k = same-refusal k (too_long e)
      go (Err (ScanFault.Wrong b)) e k = same-refusal k (wrong_byte b e)
      go (Ok _) e k = at-statement n at e (refused-stops [] [] (scoped_in [] (forms_of text)) n at k)

  -- and one that has the fault as its first is refused so
  pub order-fault : (n at : ℕ) → RefusedFor text n at → read_policy text ≡ refused n at
  unfolding read_policy
  order-fault n at (too_long e) = rw e
  order-fault n at (wrong_byte b e) = rw e
  order-fault n at (at-statement m b e s) = rw e (stops-refused [] [] (scoped_in [] (forms_of text)) m b s)
