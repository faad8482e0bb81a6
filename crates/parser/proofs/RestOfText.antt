-- Reading that goes on at a place of the text inside some blocks: what is left are the rest of the row at hand, in the innermost block, then the rests of the rows
-- around it, each in one block less. What is left after a statement, after a block's header and after the close of a block. Assumes nothing.
use Prim.Native.Nat.{ℕ, suc, ◌-◌, ◌≤◌}
use native.Mathlib.Omega.{arith}
use mathlib.Core.Path.{◌≡◌, refl, sym, ap, ◌∙◌, subst}
use mathlib.Core.Bool.{Bool, true, false, cond}
use mathlib.Core.List.{List, [], ◌∷◌, ◌++◌, append_assoc}
use mathlib.Core.Option.{Option, none, some}
use lib.ListN.{length}
use Rattle.lexer.specs.Scan.{max_level}
use Rattle.lexer.specs.Forms.{Forms, closed, ended, word, part, Frames, out, trim, closes, balanced, names_good}
use Rattle.lexer.specs.Class.{is_name}
use Rattle.lexer.proofs.Trim.{whole, further-down}
use Rattle.policy.specs.Basics.{Name, ◌>>=◌, given}
use Rattle.policy.specs.Maxima.{max_depth}
use Rattle.policy.specs.Words.{as_part}
use Rattle.policy.specs.Grammar.{parts_alone, header_in, block_in}
use Rattle.policy.specs.Scopes.{Scoped, scoped, scoped_in}
use Rattle.policy.proofs.Lists.{both_true}
use Rattle.reading_laws.proofs.ReadThen.{scoped-statement, scoped-block}
use Rattle.parser.specs.Remaining.{resumed, RowsWhole}

-- the frames before an opening parenthesis, by those after it
abbrev pub judge_block : ℕ → Frames → Frames
judge_block p f = record { here = part p f.here (out f).here; around = (out f).around }

-- ---- a part is next

-- a statement: what follows it is left
pub after-statement : (path : List Name) (p : ℕ) (f : Frames) → block_in f.here ≡ none → resumed path (judge_block p f) ≡ scoped p path f.here ∷ resumed path (out f)
after-statement [] p f e = scoped-statement [] p f.here (out f).here e
after-statement (b ∷ path) p f e = ap (λ (x : List Scoped). x ++ resumed path (out (out f))) (scoped-statement (b ∷ path) p f.here (out f).here e)

-- a block: what is in it is left, and then what follows it
pub after-header : (path : List Name) (p : ℕ) (f : Frames) (b : Name) → block_in f.here ≡ some b
    → resumed path (judge_block p f) ≡ scoped p path f.here ∷ resumed (b ∷ path) f
after-header [] p f b e = scoped-block [] p f.here (out f).here b e
after-header (c ∷ path) p f b e =
    ap (λ (x : List Scoped). x ++ resumed path (out (out f))) (scoped-block (c ∷ path) p f.here (out f).here b e)
    ∙ ap (λ (x : List Scoped). scoped p (c ∷ path) f.here ∷ x)
    (append_assoc (scoped_in (b ∷ c ∷ path) f.here) (scoped_in (c ∷ path) (out f).here) (resumed path (out (out f))))

-- the close of a block
pub after-close : (b : Name) (path : List Name) (f : Frames) → resumed (b ∷ path) (record { here = closed; around = f.here ∷ f.around }) ≡ resumed path f
unfolding scoped_in
after-close b path f = refl

-- ---- the rows

-- a part of a row that is left whole, at a level
part-deep : (p : ℕ) (i after : Forms) (n : ℕ) → trim (part p i after) (suc n) ≡ part p i after → (trim i n ≡ i) × (trim after (suc n) ≡ after)
part-deep p i after n e =
    let k : suc n - 1 ≡ n = omega arith in
    let h : part p (trim i (suc n - 1)) (trim after (suc n)) ≡ part p i after = sym (whole p i after (suc n) (λ z. omega arith)) ∙ e in
    (rw k at (ap first h), ap second h)
  where
    first : Forms → Forms
    first closed = closed
    first ended = ended
    first (word s b f) = f
    first (part p f g) = f

    second : Forms → Forms
    second closed = closed
    second ended = ended
    second (word s b f) = f
    second (part p f g) = g

-- the row of a part that is next, at most as deep as blocks may be
pub record InPart (path : List Name) (f : Frames) : Type 0 where
  pub shut : closes f.here ≡ true
  pub names : names_good f.here ≡ true
  pub deep : trim f.here (max_level - suc (length path)) ≡ f.here
  pub after : RowsWhole path (out f)

in-part : (path : List Name) (p : ℕ) (f : Frames) → length path ≤ max_depth → RowsWhole path (judge_block p f) → InPart path f
unfolding closes balanced names_good parts_alone
in-part [] p f h (s, n, d) =
    let a = both_true (closes f.here) (balanced (out f).here) s in
    let b = both_true (names_good f.here) (names_good (out f).here) n in
    let c = part-deep p f.here (out f).here 31 d in
    record { shut = a.0; names = b.0; deep = c.0; after = (a.1, b.1, c.1) }
in-part (x ∷ path) p f h (r, rest) =
    let a = both_true (closes f.here) (closes (out f).here) r.shut in
    let b = both_true (names_good f.here) (names_good (out f).here) r.names in
    let k : max_level - length (x ∷ path) ≡ suc (max_level - suc (length (x ∷ path))) = omega arith in
    let c = part-deep p f.here (out f).here (max_level - suc (length (x ∷ path)))
    (subst (λ (m : ℕ). trim (part p f.here (out f).here) m ≡ part p f.here (out f).here) k r.deep) in
    let l : trim (out f).here (max_level - length (x ∷ path)) ≡ (out f).here = subst (λ (m : ℕ). trim (out f).here m ≡ (out f).here) (sym k) c.1 in
    record { shut = a.0; names = b.0; deep = c.0; after = (record { parts = r.parts; shut = a.1; names = b.1; deep = l }, rest) }

module _ (path : List Name) (p : ℕ) (f : Frames) (few : length path ≤ max_depth) (s : RowsWhole path (judge_block p f)) where
  pub inside : InPart path f
  inside = in-part path p f few s

  -- the statement's own row, whatever blocks it is in
  pub statement-deep : trim f.here (max_level - 1) ≡ f.here
  statement-deep = further-down f.here (max_level - suc (length path)) (max_level - 1) inside.deep (omega arith)

-- ---- a block

-- what follows the word `block`: the name of one part, and parts alone after it
pub header-name : (s : ℕ) (w : Name) (f : Forms) (b : Name) → header_in (word s w f) ≡ some b → (as_part w ≡ some b) × (parts_alone f ≡ true)
header-name s w f b = go (as_part w) refl
  where
    rest : (c : Name) (q : Bool) → parts_alone f ≡ q → (cond q (some c) none) ≡ some b → (some c ≡ some b) × (parts_alone f ≡ true)
    rest c true e h = (h, e)
    rest c false e h = absurd (let z : ◌≡◌ {A = ℕ} 0 1 = cc in omega arith)

    go : (o : Option Name) → as_part w ≡ o → (o >>= λ c. given (parts_alone f) c) ≡ some b → (as_part w ≡ some b) × (parts_alone f ≡ true)
    go none e h = absurd (let z : ◌≡◌ {A = ℕ} 0 1 = cc in omega arith)
    go (some c) e h = let r = rest c (parts_alone f) refl h in (e ∙ r.0, r.1)

-- the frames after the word `block` and the name of a block
abbrev pub header : ℕ → Name → ℕ → Name → Frames → Frames
header s v n w g = record { here = word s v (word n w g.here); around = g.around }

-- the rows that are left in a block, after its name
pub block-whole : (path : List Name) (s : ℕ) (v : Name) (n : ℕ) (w : Name) (g : Frames) (b : Name) → InPart path (header s v n w g)
    → header_in (word n w g.here) ≡ some b → RowsWhole (b ∷ path) g
unfolding closes names_good trim
block-whole path s v n w g b i h = (
  record {
    parts = (header-name n w g.here b h).1;
    shut = i.shut;
    names = (both_true (is_name w) (names_good g.here) (both_true (is_name v) (names_good (word n w g.here)) i.names).1).1;
    deep = ap (λ (f : Forms). after (after f)) i.deep;
  },
  i.after,
)
  where
    after : Forms → Forms
    after closed = closed
    after ended = ended
    after (word s b f) = f
    after (part p f g) = g

-- what is left to read in it
pub block-left : (path : List Name) (s : ℕ) (v : Name) (n : ℕ) (w : Name) (g : Frames) (b : Name) → resumed (b ∷ path) (header s v n w g) ≡ resumed (b ∷ path) g
unfolding scoped_in
block-left path s v n w g b = refl

-- after the close of a block
pub close-whole : (b : Name) (path : List Name) (f : Frames) → RowsWhole (b ∷ path) (record { here = closed; around = f.here ∷ f.around }) → RowsWhole path f
close-whole b path f (row, rest) = rest
