-- Every unit of the code fits 16 bits: numbers are small, and a place is that of a byte of the text. Assumes nothing.
use Prim.Native.Nat.{ℕ, ◌<◌}
use native.Mathlib.Omega.{arith}
use mathlib.Core.Path.{◌≡◌, sym, subst}
use mathlib.Core.Bool.{Bool, true, false, cond}
use mathlib.Core.List.{List, [], ◌∷◌}
use mathlib.Core.Option.{none, some}
use lib.ListN.{length}
use Rattle.lexer.specs.Forms.{forms_of}
use Rattle.lexer.proofs.Clean.{clean-short}
use Rattle.bitset.specs.Relations.{joined}
use Rattle.policy.specs.Basics.{each, All}
use Rattle.policy.specs.Statements.{thing_of, attribute_of, Declaration, plain, class, Statement, declare, attributeset, gives, roletransition, constrain, validatetrans}
use Rattle.policy.specs.Statements.{Policy}
use Rattle.policy.specs.Grammar.{is_block}
use Rattle.policy.specs.Scopes.{Scoped, scoped_in}
use Rattle.policy.specs.Reading.{policy, read_policy}
use Rattle.policy.proofs.Lists.{all_append}
use Rattle.policy.proofs.Gathered.{OfValue, all-gather, all_map}
use Rattle.reading_laws.proofs.OpensAt.{forms-open, ScopedOpens, scoped-open, opens-within}
use Rattle.reading_laws.proofs.ReadThen.{statement_at, line_places, read-places}
use Rattle.reading_laws.proofs.ReadAccepted.{read-accepted}
use Rattle.reading_laws.proofs.LongerText.{read-clean}
use Rattle.statement_code.specs.Code.{set_code, declaration_code, statement_code, line_code, code_of}
use Rattle.statement_code.specs.Numbered.{StatementNumbered}
use Rattle.statement_code.proofs.Numbers.{family-few, relation-few, BelowTags, reference-below, set_below}
use Rattle.code_laws.proofs.Numbers.{LineNumbered, accepted-numbered}

-- THE UNITS OF A STATEMENT
abbrev pub IsUnit : ℕ → Type 0
IsUnit u = u < 65536

declaration-units : (at : ℕ) (d : Declaration) → IsUnit at → All IsUnit (declaration_code at d)
declaration-units at (plain (thing_of f) w) l = tt
declaration-units at (plain (attribute_of f) w) l = (omega (arith, family-few f), (l, tt))
declaration-units at (class w ps) l = tt

pub statement-units : (at : ℕ) (s : Statement) → IsUnit at → StatementNumbered s → All IsUnit (statement_code at s)
statement-units at (declare d) l h = declaration-units at d l
statement-units at (attributeset f a s) l h =
    (omega (arith, family-few f), (l, (omega arith, all_map BelowTags IsUnit (λ u b. omega arith) (set_code s) (set_below s h.1))))
statement-units at (gives k x y) l h =
    (omega (arith, relation-few k), (l, (omega (arith, reference-below x h.0), (omega (arith, reference-below y h.1), tt))))
statement-units at (roletransition r t c n) l h =
    (omega arith, (l, (omega (arith, reference-below r h.0), (omega (arith, reference-below t h.1), (omega arith, (omega arith, tt))))))
statement-units at (constrain c ps e) l h = tt
statement-units at (validatetrans c e) l h = tt

-- THE UNITS OF THE CODE
pub lines-units : (p : Policy) → All LineNumbered p → All IsUnit (line_places p) → All IsUnit (code_of p)
unfolding code_of joined each
lines-units [] h k = tt
lines-units (l ∷ p) h k = all_append IsUnit (line_code l) _ (statement-units l.place l.says k.0 h.0) (lines-units p h.1 k.1)

-- the places of statements are among those of statements and blocks
place-within : (text : List ℕ) (x : Scoped) → ScopedOpens text x → OfValue (λ at. at < length text) (statement_at x)
place-within text x h = go (is_block x.form)
  where
    go : (b : Bool) → OfValue (λ at. at < length text) (cond b none (some x.place))
    go true = tt
    go false = opens-within text x.place h

-- a statement's place is that of a byte of the text
pub read-within : (text : List ℕ) (p : Policy) → read_policy text ≡ policy p → All (λ at. at < length text) (line_places p)
unfolding each
read-within text p h =
    let xs = scoped_in [] (forms_of text) in
    subst (All (λ at. at < length text)) (sym (read-places [] xs [] p (read-clean text p h).1))
    (all-gather (λ at. at < length text) (ScopedOpens text) statement_at (place-within text) xs (scoped-open text [] (forms_of text) (forms-open text)))

-- "Text 65,535 bytes": a place, and every other unit, fits 16 bits
pub code-units : (text : List ℕ) (p : Policy) → read_policy text ≡ policy p → All IsUnit (code_of p)
code-units text p h =
    let short = clean-short text (read-clean text p h).0 in
    lines-units p (accepted-numbered p (read-accepted text p h)) (all_map (λ at. at < length text) IsUnit (λ at l. omega arith) (line_places p) (read-within text p h))
