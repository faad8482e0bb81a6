-- Passes over the set statements of a family that add a set to a row for each: once over what is added. Assumes nothing.
use Prim.Native.Nat.{ℕ, ◌+◌, ◌<◌}
use native.Mathlib.Omega.{arith}
use mathlib.Core.Path.{◌≡◌, sym, ap, ◌∙◌, subst}
use mathlib.Core.Bool.{Bool}
use mathlib.Core.List.{List, [], ◌∷◌, ◌++◌}
use lib.ListN.{length, get_or, drop}
use Rattle.bitset.specs.Sets.{set_of}
use Rattle.policy.specs.Statements.{Family, attribute_of, Reference, SetExpr, Policy, count, declarations}
use Rattle.policy.specs.Accepted.{SetIn, Accepted}
use Rattle.statement_code.specs.Code.{set_code, set_tag, code_of}
use Rattle.statement_code.specs.Numbered.{Numbered}
use Rattle.set_code.proofs.Places.{here}
use Rattle.code_reader.specs.Reading.{step_of}
use Rattle.code_reader.specs.AttributeSets.{added}
use Rattle.code_reader.proofs.OperandLaws.{Tagged}
use Rattle.code_reader.proofs.Items.{Item, fills, units_of, items_code, items, code_items, ItemIn, tag-fills}
use Rattle.code_reader.proofs.Numbers.{items-declared, few-attributes, numbered-S}
use Rattle.code_reader.proofs.Passes.{code-tagged, Through, begin, Met, meet, onward}
use Rattle.code_reader.proofs.RowLaws.{rows_of, rows_more, rows-over}

-- the operand of a set statement
pub record Given (code : List ℕ) (at a : ℕ) (s : SetExpr Reference) (rest : List ℕ) : Type 0 where
  pub row : get_or code (at + 2) 0 ≡ a
  pub set : drop (at + 3) code ≡ set_code s ++ rest

given : (code : List ℕ) (at a : ℕ) (s : SetExpr Reference) (rest : List ℕ) → drop (at + 2) code ≡ (a ∷ set_code s) ++ rest → Given code at a s rest
given code at a s rest q =
    let w = here code (at + 2) a (set_code s ++ rest) q in
    let three : at + 2 + 1 ≡ at + 3 = omega arith in
    record { row = w.unit; set = rw (← three) w.tail }

-- the pass over a policy's own items
pub start : (p : Policy) (code : List ℕ) (S : List Item → List Item → Type 0) → code ≡ code_of p → S [] (items p) → Through (items p) code 0 S
start p code S h s = begin (items p) code S (h ∙ code_items p) s

module _ (p : Policy) (ok : Accepted p) (f : Family) (v : SetExpr Reference → ℕ → Bool) (code : List ℕ) (at next : ℕ) (inside : at < length code)
    (e : next ≡ step_of code at) (rows : List ℕ) (t : Through (items p) code at (λ done left. rows ≡ rows_of f v done)) where
  abbrev Rows : List ℕ → List Item → List Item → Type 0
  Rows r done left = r ≡ rows_of f v done

  the-met : Met p (items p) code at (Rows rows)
  the-met = meet p ok (items p) (items-declared p ok) code at (Rows rows) inside t

  -- a set statement of the family adds its set
  pub add_step : get_or code at 0 ≡ set_tag f → (a : ℕ) → a ≡ get_or code (at + 2) 0 → (new : List ℕ)
      → ((s : SetExpr Reference) (rest : List ℕ) → Numbered s → Tagged rest → drop (at + 3) code ≡ set_code s ++ rest → new ≡ added rows a (set_of 64 (v s)))
      → Through (items p) code next (λ done left. new ≡ rows_of f v done)
  add_step h a row new told = go (tag-fills f the-met.item (sym the-met.stand.tag ∙ h))
    where
      go : (x b : ℕ) × (s : SetExpr Reference) × (the-met.item ≡ fills f x b s) → Through (items p) code next (λ done left. new ≡ rows_of f v done)
      go (x, b, s, q) =
          let m = the-met in
          let named : (b < count (attribute_of f) (declarations p)) × SetIn (declarations p) f s = subst (ItemIn (declarations p)) q m.declared in
          let w = given code at b s (items_code m.rest) (m.stand.units ∙ ap (λ i. units_of i ++ items_code m.rest) q) in
          onward p (items p) code at (Rows rows) (Rows new) next e m
          (told s (items_code m.rest) (numbered-S p ok f s named.1) (code-tagged m.rest) w.set
          ∙ ap (λ (r : ℕ). added rows r (set_of 64 (v s))) (row ∙ w.row)
          ∙ rw q (rows_more f v m.done x b s rows (omega (arith, named.0, few-attributes p ok f)) m.so_far))

  -- any other statement adds nothing
  pub over-step : (get_or code at 0 ≡ set_tag f → ⊥) → Through (items p) code next (λ done left. rows ≡ rows_of f v done)
  over-step h =
      let m = the-met in
      onward p (items p) code at (Rows rows) (Rows rows) next e m (rows-over f v m.done m.item rows (λ q. h (m.stand.tag ∙ q)) m.so_far)
