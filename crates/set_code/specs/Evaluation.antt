-- What evaluating the code of one S gives: an operator starts with a set and joins its operands to it, one after the other. Assumes nothing.
use Rattle.std.specs.Prelude.{ℕ, ◌+◌, ◌*◌, ◌-◌, ◌<◌, ◌≡◌, Bool, not, ◌&&◌, ◌||◌, cond, List, ◌++◌, eqb, ltb, length, drop}
use Rattle.std.specs.Bool.{xor}
use Rattle.bitset.specs.Sets.{member, set_of}
use Rattle.byte_slices.specs.Parts.{part}
use Rattle.policy.specs.Statements.{Reference, SetExpr}
use Rattle.policy.specs.Meaning.{Set, of_s}
use Rattle.statement_code.specs.Numbered.{Numbered}
use Rattle.statement_code.specs.Code.{all_unit, not_unit, and_unit, xor_unit, set_code}

-- the sets of a family's attributes, 64 bytes each
unfoldable pub sets_in : List ℕ → ℕ → Set
sets_in sets a n = member (part sets (64 * a) 64) n

-- what the unit of a reference stands for: "A thing stands for itself alone", an attribute for its set
abbrev pub value_of : List ℕ → ℕ → Set
value_of sets u n = cond (ltb u 1024) (eqb n u) (sets_in sets (u - 1024) n)

-- an operator's set starts as the numbers below this bound: "`(all)` is every user, role or type of the whole text; `not` is taken within it";
-- what `and` keeps is within every number that a set can hold, and the others start with none
abbrev pub start_of : ℕ → ℕ → ℕ
start_of op total = cond (eqb op all_unit) total (cond (eqb op not_unit) total (cond (eqb op and_unit) 512 0))

-- whether a number is in what an operator makes, from whether it is in its set and in one operand more
abbrev pub join_of : ℕ → Bool → Bool → Bool
join_of op a b = cond (eqb op not_unit) (a && not b) (cond (eqb op and_unit) (a && b) (cond (eqb op xor_unit) (xor a b) (a || b)))

unfoldable pub joined_by : ℕ → List ℕ → List ℕ → List ℕ
joined_by op out operand = set_of (length out) (λ n. join_of op (member out n) (member operand n))

-- where the code of an S is at a place, the set becomes that of S, and reading goes on after the code
pub record Evaluates (code : List ℕ) (at total : ℕ) (sets out : List ℕ) (r : ℕ) : Type 0 where
  pub forward : at < length code → at < r
  pub right : (e : SetExpr Reference) (rest : List ℕ) → Numbered e → drop at code ≡ set_code e ++ rest
      → (out ≡ set_of 64 (of_s total (sets_in sets) e)) × (r ≡ at + length (set_code e))
