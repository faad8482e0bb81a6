-- One pass over the code, item by item: what is read at a place, and what a loop knows of the items after it and ahead. Assumes nothing.
use Prim.Native.Nat.{ℕ, ◌+◌, ◌<◌, ◌≤◌}
use native.Mathlib.Omega.{arith}
use mathlib.Core.Path.{◌≡◌, refl, sym, ap, ◌∙◌, subst}
use mathlib.Core.Bool.{Bool, true, false, cond, ◌&&◌}
use mathlib.Core.List.{List, [], ◌∷◌, ◌++◌, append_assoc, append-nil}
use lib.Dec.{leb, ltb, eqb}
use lib.ListN.{length, get_or, drop, length-append, length-drop}
use borrow.Author.Tests.{leb-true, ltb-true, eqb-true}
use Rattle.policy.specs.Statements.{Policy, declarations}
use Rattle.policy.specs.Basics.{All}
use Rattle.policy.specs.Accepted.{Accepted}
use Rattle.policy.proofs.Lists.{all_right}
use Rattle.set_code.proofs.Places.{here, behind}
use Rattle.statement_code.proofs.Numbers.{family-few, relation-few}
use Rattle.code_reader.specs.Reading.{operands_of, step_of}
use Rattle.code_reader.proofs.OperandLaws.{Tagged, operands_of_lem}
use Rattle.code_reader.proofs.Items.{Item, declares, fills, relates, moves, tag_of, stands_at, units_of, items_code, ItemIn, tag-past}
use Rattle.code_reader.proofs.Numbers.{small_units}

-- where the next item stands
abbrev pub next_at : List ℕ → ℕ → ℕ
next_at code at = at + 2 + length (operands_of (drop (at + 2) code))

-- an item is at a place
pub record Stands (code : List ℕ) (at : ℕ) (i : Item) (left : List Item) : Type 0 where
  pub tag : get_or code at 0 ≡ tag_of i
  pub place : get_or code (at + 1) 0 ≡ stands_at i
  pub units : drop (at + 2) code ≡ units_of i ++ items_code left
  pub operands : operands_of (drop (at + 2) code) ≡ units_of i
  pub next : drop (next_at code at) code ≡ items_code left

pub code-tagged : (is : List Item) → Tagged (items_code is)
unfolding items_code
code-tagged [] = tt
code-tagged (i ∷ is) = tag-past i

stands : (p : Policy) → Accepted p → (code : List ℕ) (at : ℕ) (i : Item) (left : List Item) → ItemIn (declarations p) i
    → drop at code ≡ items_code (i ∷ left) → Stands code at i left
unfolding items_code
stands p ok code at i left h q =
    let first = here code at (tag_of i) (stands_at i ∷ (units_of i ++ items_code left)) q in
    let second = here code (at + 1) (stands_at i) (units_of i ++ items_code left) first.tail in
    let two : at + 1 + 1 ≡ at + 2 = omega arith in
    let rest : drop (at + 2) code ≡ units_of i ++ items_code left = rw (← two) second.tail in
    let all : operands_of (drop (at + 2) code) ≡ units_of i = ap operands_of rest ∙ operands_of_lem (units_of i) (items_code left) (small_units p ok i h) (code-tagged left) in
    record {
      tag = first.unit;
      place = second.unit;
      units = rest;
      operands = all;
      next = ap (λ (us : List ℕ). drop (at + 2 + length us) code) all ∙ behind code (at + 2) (units_of i) (items_code left) rest;
    }

-- a relation has two operands
two_operands : (i : Item) → 4102 ≤ tag_of i → tag_of i < 4105 → length (units_of i) ≡ 2
two_operands (declares f at) h l = absurd (omega (arith, h, family-few f))
two_operands (fills f at a s) h l = absurd (omega (arith, h, family-few f))
two_operands (relates k at x y) h l = refl
two_operands (moves t) h l = absurd (omega (arith, l))

-- a transition has four
four-operands : (i : Item) → tag_of i ≡ 4105 → length (units_of i) ≡ 4
four-operands (declares f at) h = absurd (omega (arith, h, family-few f))
four-operands (fills f at a s) h = absurd (omega (arith, h, family-few f))
four-operands (relates k at x y) h = absurd (omega (arith, h, relation-few k))
four-operands (moves t) h = refl

-- so that a step over them leads to the next item, as one over any other does
step-next : (code : List ℕ) (at : ℕ) (i : Item) (left : List Item) → Stands code at i left → step_of code at ≡ next_at code at
step-next code at i left s = go (leb 4102 (get_or code at 0)) (ltb (get_or code at 0) 4105) (eqb (get_or code at 0) 4105) refl refl refl
  where
    go : (a b c : Bool) → leb 4102 (get_or code at 0) ≡ a → ltb (get_or code at 0) 4105 ≡ b → eqb (get_or code at 0) 4105 ≡ c
        → cond (a && b) (at + 4) (cond c (at + 6) (next_at code at)) ≡ next_at code at
    go true true c h l e =
        let units = two_operands i (subst (λ (n : ℕ). 4102 ≤ n) s.tag (leb-true 4102 (get_or code at 0) h))
        (subst (λ (n : ℕ). n < 4105) s.tag (ltb-true (get_or code at 0) 4105 l)) in
        omega (arith, units, ap length s.operands)
    go true false true h l e = omega (arith, four-operands i (sym s.tag ∙ eqb-true (get_or code at 0) 4105 e), ap length s.operands)
    go true false false h l e = refl
    go false b true h l e = omega (arith, four-operands i (sym s.tag ∙ eqb-true (get_or code at 0) 4105 e), ap length s.operands)
    go false b false h l e = refl

-- the code from a place on is that of the items left, and S holds of those done and those left
pub record Through (is : List Item) (code : List ℕ) (at : ℕ) (S : List Item → List Item → Type 0) : Type 0 where
  pub done : List Item
  pub left : List Item
  pub whole : is ≡ done ++ left
  pub reached : at ≡ length (items_code done)
  pub ahead : drop at code ≡ items_code left
  pub so_far : S done left

pub begin : (is : List Item) (code : List ℕ) (S : List Item → List Item → Type 0) → code ≡ items_code is → S [] is → Through is code 0 S
unfolding items_code
begin is code S h s = record { done = []; left = is; whole = refl; reached = refl; ahead = h; so_far = s }

-- the next item
pub record Met (p : Policy) (is : List Item) (code : List ℕ) (at : ℕ) (S : List Item → List Item → Type 0) : Type 0 where
  pub done : List Item
  pub item : Item
  pub rest : List Item
  pub whole : is ≡ done ++ (item ∷ rest)
  pub reached : at ≡ length (items_code done)
  pub declared : ItemIn (declarations p) item
  pub stand : Stands code at item rest
  pub so_far : S done (item ∷ rest)

pub meet : (p : Policy) → Accepted p → (is : List Item) → All (ItemIn (declarations p)) is → (code : List ℕ) (at : ℕ) (S : List Item → List Item → Type 0)
    → at < length code → Through is code at S → Met p is code at S
unfolding items_code
meet p ok is named code at S l t = go t.left t.whole t.ahead t.so_far
  where
    go : (left : List Item) → is ≡ t.done ++ left → drop at code ≡ items_code left → S t.done left → Met p is code at S
    go [] w a s = absurd (omega (arith, l, ap length a, length-drop at code))
    go (i ∷ rest) w a s =
        let here = (all_right (ItemIn (declarations p)) t.done (i ∷ rest) (subst (All (ItemIn (declarations p))) w named)).0 in
        record { done = t.done; item = i; rest = rest; whole = w; reached = t.reached; declared = here; stand = stands p ok code at i rest here a; so_far = s }

-- and the pass after it
code-last : (is : List Item) (i : Item) → length (items_code (is ++ (i ∷ []))) ≡ length (items_code is) + 2 + length (units_of i)
unfolding items_code
code-last [] i = omega (arith, length-append (units_of i) [])
code-last (j ∷ is) i = omega (arith, code-last is i, length-append (units_of j) (items_code is), length-append (units_of j) (items_code (is ++ (i ∷ []))))

pub onward-past : (p : Policy) (is : List Item) (code : List ℕ) (at : ℕ) (S T : List Item → List Item → Type 0) (next : ℕ) → next ≡ next_at code at
    → (m : Met p is code at S) → T (m.done ++ (m.item ∷ [])) m.rest → Through is code next T
onward-past p is code at S T next e m s = record {
  done = m.done ++ (m.item ∷ []);
  left = m.rest;
  whole = m.whole ∙ sym (append_assoc m.done (m.item ∷ []) m.rest);
  reached = omega (arith, e, m.reached, code-last m.done m.item, ap length m.stand.operands);
  ahead = rw e m.stand.next;
  so_far = s;
}

pub onward : (p : Policy) (is : List Item) (code : List ℕ) (at : ℕ) (S T : List Item → List Item → Type 0) (next : ℕ) → next ≡ step_of code at
    → (m : Met p is code at S) → T (m.done ++ (m.item ∷ [])) m.rest → Through is code next T
onward p is code at S T next e m s = onward-past p is code at S T next (e ∙ step-next code at m.item m.rest m.stand) m s

-- past the end all items are done
pub finish : (is : List Item) (code : List ℕ) (at : ℕ) (S : List Item → List Item → Type 0) → length code ≤ at → Through is code at S → S is []
unfolding items_code
finish is code at S l t = go t.left t.whole t.ahead t.so_far
  where
    go : (left : List Item) → is ≡ t.done ++ left → drop at code ≡ items_code left → S t.done left → S is []
    go [] w a s = subst (λ (d : List Item). S d []) (sym (w ∙ append-nil t.done)) s
    go (i ∷ rest) w a s = absurd (omega (arith, l, ap length a, length-drop at code))
