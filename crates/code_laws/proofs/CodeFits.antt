-- Room for the code is a law: what is read has no more units of code than the text has bytes, the statements read so far and the rest of the row
-- together as well. By induction on the row; each statement has no more units than tokens, and a block has tokens and no code of its own. Assumes nothing.
use Prim.Native.Nat.{ℕ, ◌+◌, ◌≤◌}
use native.Mathlib.Omega.{arith}
use mathlib.Core.Path.{◌≡◌, refl}
use mathlib.Core.List.{List, [], ◌∷◌, ◌++◌, append-nil}
use lib.ListN.{length, length-append}
use Rattle.lexer.specs.Forms.{Forms, closed, ended, word, part, forms_of}
use Rattle.bitset.specs.Relations.{joined}
use Rattle.policy.specs.Basics.{Name, each}
use Rattle.policy.specs.Statements.{Statement, Line, Policy}
use Rattle.policy.specs.Scopes.{Scoped, scoped, scoped_in}
use Rattle.policy.specs.Reading.{reads, judge, policy, read_from, read_policy}
use Rattle.policy.proofs.Lists.{each_append, joined-append}
use Rattle.reading_laws.proofs.ReadThen.{◌then◌, line, PartRead, first-statement, first_block, part-read}
use Rattle.reading_laws.proofs.LongerText.{read-clean}
use Rattle.statement_code.specs.Code.{statement_code, line_code, code_of}
use Rattle.code_laws.specs.Weight.{weight}
use Rattle.code_laws.proofs.TextWeight.{text-weight}
use Rattle.code_laws.proofs.StatementShape.{statement-fits}

-- one line more is its code at the end
pub code-last : (p : Policy) (l : Line) → code_of (p ++ (l ∷ [])) ≡ code_of p ++ line_code l
unfolding code_of joined each
code-last p l = rw (each_append line_code p (l ∷ []), joined-append (each line_code p) (line_code l ∷ []), append-nil)

-- one statement that is judged good takes up no more units than it has tokens
pub code-longer : (before : List Scoped) (p : Policy) (x : Scoped) (s : Statement) → judge before p x ≡ reads s
    → length (code_of (p ++ (line x.place s ∷ []))) ≤ length (code_of p) + weight x.form + 1
code-longer before p x s h =
    rw (code-last p (line x.place s), length-append (code_of p) (statement_code x.place s)) (omega (arith, statement-fits before p x s h))

-- a row with nothing after it has no more tokens than it has itself
then-ended : (f : Forms) → weight (f then ended) ≤ weight f
unfolding weight
then-ended closed = omega arith
then-ended ended = omega arith
then-ended (word at w r) = omega (arith, then-ended r)
then-ended (part at i r) = omega (arith, then-ended r)

-- the code of a row f that is read after p leaves room for the row g after it
abbrev pub Fits : List Name → Forms → Forms → Type 0
Fits path f g = (before : List Scoped) (p q : Policy) → read_from before (scoped_in path f) p ≡ policy q → length (code_of q) + weight g ≤ length (code_of p) + weight (f then g)

-- a statement adds its code, and a block none but that of those in it
first_fits : (path : List Name) (at : ℕ) (i r g : Forms) → ((b : Name) → Fits (b ∷ path) i ended) → Fits path r g → Fits path (part at i r) g
unfolding weight
first_fits path at i r g inner rest before p q h = go (part-read path at i r before p q h)
  where
    go : PartRead path at i r before p q → length (code_of q) + weight g ≤ length (code_of p) + (weight i + weight (r then g) + 1)
    go (first-statement s j k) = omega (arith, rest _ _ q k, code-longer before p (scoped at path i) s j)
    go (first_block b o j e k l) = omega (arith, rest _ o q l, inner b _ p o k, then-ended i)

-- every row, in whatever blocks
pub row_fits : (path : List Name) (f g : Forms) → Fits path f g
unfolding read_from scoped_in weight
row_fits path closed g before p q h = let same : q ≡ p = cc in rw same (omega arith)
row_fits path ended g before p q h = let same : q ≡ p = cc in rw same (omega arith)
row_fits path (word at w r) g before p q h = omega (arith, row_fits path r g before p q h)
row_fits path (part at i r) g before p q h = first_fits path at i r g (λ b. row_fits (b ∷ path) i ended) (row_fits path r g) before p q h

pub no_code : length (code_of []) ≡ 0
unfolding code_of joined each
no_code = refl

-- "Text 65,535 bytes": 65,536 units are room enough
pub code_fits : (text : List ℕ) (p : Policy) → read_policy text ≡ policy p → length (code_of p) ≤ length text
code_fits text p h = omega (arith, row_fits [] (forms_of text) ended [] [] p (read-clean text p h).1, no_code, then-ended (forms_of text), text-weight text)
