-- THE NUMBERS OF COMPILE'S ANSWER ARE SMALL: a refusal's number is at most 10, its place or the table's length at most 186,068, the length of
-- the longest table, its line at most 65,536. Assumes nothing.
use Prim.Native.Nat.{ℕ, ◌≤◌}
use native.Mathlib.Omega.{arith}
use mathlib.Core.Path.{◌≡◌, refl}
use mathlib.Core.Bool.{Bool, true, false, cond}
use mathlib.Core.List.{[]}
use mathlib.Core.Option.{Option, none, some}
use lib.Dec.{eqb, leb}
use lib.ListN.{length}
use borrow.Author.Tests.{ne_eqb}
use Rattle.policy.specs.Statements.{Policy}
use Rattle.policy.specs.Reading.{Read, policy, refused, read_policy}
use Rattle.policy.specs.Faults.{cycle, clash}
use Rattle.policy.specs.Image.{Image, image_of}
use Rattle.policy.specs.Encode.{encode, newest}
use Rattle.policy.specs.Outcome.{Input, accept, policy_of, compiles, refuses, compiled, fitted, line_at, refusal_of, Outcome, accepted, rejected, outcome_of, outcome}
use Rattle.policy.proofs.LineFeeds.{feeds-few}
use Rattle.reading_laws.proofs.FaultOrder.{fault-order, refusal-number}
use Rattle.table_laws.proofs.Editions.{fits-ten}
use Rattle.table_laws.proofs.WellFormedLaid.{length-encode, table-short}
use Rattle.demand_laws.proofs.Demand3.{read-well-formed}
use Rattle.bound_laws.proofs.Places.{refusal-place}

-- the longest table has 186,068 bytes
pub encode-short : (x : Input) (p : Policy) → policy_of x ≡ policy p → length (encode newest (image_of p)) ≤ 186068
encode-short x p e =
    let w = read-well-formed x p e [] in
    omega (arith, length-encode (image_of p) w newest (omega arith) (fits-ten newest (image_of p) (omega arith)), table-short (image_of p) w newest (omega arith))

abbrev SmallRead : Read → Type 0
SmallRead (policy p) = Unit {0}
SmallRead (refused n at) = n ≤ 9

accept-small : (p : Policy) → SmallRead (accept p)
unfolding accept
accept-small p = by (cycle p) (clash p)
  where
    by : (x y : Option ℕ) → SmallRead (elim x [ some at ↦ refused 8 at | none ↦ elim y [ some at ↦ refused 9 at | none ↦ policy p ] ])
    by (some at) y = omega arith
    by none (some at) = omega arith
    by none none = tt

-- the number of a refusal before 10
refusal-small : (x : Input) → SmallRead (policy_of x)
unfolding policy_of
refusal-small x = by (read_policy x.text) refl
  where
    by : (r : Read) → read_policy x.text ≡ r → SmallRead (elim r [ refused n at ↦ refused n at | policy p ↦ accept p ])
    by (refused n at) e = omega (arith, (refusal-number (fault-order x.text n at e)).1)
    by (policy p) e = accept-small p

abbrev pub SmallOutcome : Outcome → Type 0
SmallOutcome (accepted n) = n ≤ 186068
SmallOutcome (rejected r) = (r.number ≤ 10) × (r.place ≤ 186068) × (r.line ≤ 65536)

-- a refusal 1 to 9 at a place of a text
refusal-few : (x : Input) (n at : ℕ) → n ≤ 9 → at ≤ 65535 → SmallOutcome (rejected (refusal_of x n at))
unfolding refusal_of
refusal-few x n at l h = (omega (arith, l), omega (arith, h), line)
  where
    line : cond (eqb n 10) 0 (line_at x.text at) ≤ 65536
    line = rw (ne_eqb n 10 (λ e. omega (arith, e, l))) (omega (arith, h, feeds-few at x.text))

fitted-small : (x : Input) (lent : ℕ) (i : Image) → length (encode newest i) ≤ 186068 → SmallOutcome (outcome_of x (fitted lent i))
unfolding refusal_of
fitted-small x lent i h = by (leb (length (encode newest i)) lent)
  where
    by : (b : Bool) → SmallOutcome (outcome_of x (cond b (compiles i) (refuses 10 (length (encode newest i)))))
    by true = h
    by false = (omega arith, h, omega arith)

-- for every text and every length of the lent memory
pub outcome-small : (x : Input) (lent : ℕ) → SmallOutcome (outcome x lent)
unfolding outcome compiled
outcome-small x lent = by (policy_of x) refl (refusal-small x)
  where
    by : (r : Read) → policy_of x ≡ r → SmallRead r → SmallOutcome (outcome_of x (elim r [ refused n at ↦ refuses n at | policy p ↦ fitted lent (image_of p) ]))
    by (refused n at) e s = refusal-few x n at s (refusal-place x n at e)
    by (policy p) e s = fitted-small x lent (image_of p) (encode-short x p e)
