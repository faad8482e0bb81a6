-- In an accepted policy every number that the code holds is small: references are told apart from operators, and operands from tags.
-- Assumes nothing.
use Prim.Native.Nat.{◌≤◌}
use native.Mathlib.Omega.{arith}
use Rattle.policy.specs.Basics.{All}
use Rattle.policy.specs.Statements.{Family, roles, types, thing_of, attribute_of, Reference, SetExpr, Line, Policy, count, declarations, from_of, to_of}
use Rattle.policy.specs.Accepted.{ReferenceIn, SetIn, StatementIn, Accepted}
use Rattle.statement_code.specs.Numbered.{NumberedR, Numbered}
use Rattle.statement_code.proofs.Numbers.{BelowTags, reference-below, reference-numbered, set-numbered, set_below}
use Rattle.meaning_laws.proofs.ListLaws.{all-gathered}
use Rattle.policy.proofs.Counts.{few-of, few-classes}
use Rattle.policy.proofs.Sorts.{max-small}
use Rattle.code_reader.proofs.Items.{Item, declares, fills, relates, moves, units_of, item_of, items, ItemIn, item-declared}

-- ---- the numbers of things and attributes

module _ (p : Policy) (ok : Accepted p) where
  pub few-things : (f : Family) → count (thing_of f) (declarations p) ≤ 512
  few-things f = omega (arith, few-of (thing_of f) (declarations p) ok.names, max-small (thing_of f))

  pub few-attributes : (f : Family) → count (attribute_of f) (declarations p) ≤ 64
  few-attributes f = few-of (attribute_of f) (declarations p) ok.names

  pub numbered-R : (f : Family) (r : Reference) → ReferenceIn (declarations p) f r → NumberedR r
  numbered-R = reference-numbered (declarations p) ok.names

  pub numbered-S : (f : Family) (s : SetExpr Reference) → SetIn (declarations p) f s → Numbered s
  numbered-S = set-numbered (declarations p) ok.names

-- THE OPERANDS of an item are no tags
pub small_units : (p : Policy) → Accepted p → (i : Item) → ItemIn (declarations p) i → All BelowTags (units_of i)
small_units p ok (declares f at) h = tt
small_units p ok (fills f at a s) h = (omega (arith, h.0, few-attributes p ok f), set_below s (numbered-S p ok f s h.1))
small_units p ok (relates k at x y) h =
    (omega (arith, reference-below x (numbered-R p ok (from_of k) x h.0)), (omega (arith, reference-below y (numbered-R p ok (to_of k) y h.1)), tt))
small_units p ok (moves t) h = (
  omega (arith, reference-below t.role (numbered-R p ok roles t.role h.0)),
  (
    omega (arith, reference-below t.type (numbered-R p ok types t.type h.1)),
    (omega (arith, h.2, few-classes (declarations p) ok.names), (omega (arith, h.3, few-things p ok roles), tt)),
  ),
)

-- every item of an accepted policy names what is declared
pub items-declared : (p : Policy) → Accepted p → All (ItemIn (declarations p)) (items p)
unfolding items
items-declared p ok = all-gathered (λ (l : Line). StatementIn (declarations p) l.says) (ItemIn (declarations p)) item_of
    (λ l i h e. item-declared (declarations p) l.place l.says i h e) p ok.statements
