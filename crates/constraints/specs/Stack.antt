-- The stack of five that runs a constraint's rows, and the number that holds it. Assumes nothing.
use Rattle.std.specs.Prelude.{ℕ, ◌+◌, ◌*◌, Bool, cond, List, [], ◌∷◌, length, ◌==◌, nat_lt}
use Rattle.bitset.specs.Sets.{one}
use Rattle.policy.specs.Maxima.{max_stack}
use Rattle.policy.specs.Rows.{Row, View, not_top, and_top, or_top, op_test, is_same}

-- the stack as the bits of a number: the top is bit 0, and a 1 is above the oldest
abbrev pub code : List Bool → ℕ
code [] = 1
code (b ∷ s) = one b + 2 * code s

-- what does not fit is not pushed; on a sound table no row meets a full stack
abbrev pub push : Bool → List Bool → List Bool
push b s = cond (nat_lt (length s) max_stack) (b ∷ s) s

-- a row on the stack of five
abbrev pub bounded_run_row : View → Row → List Bool → List Bool
bounded_run_row v r s =
    cond (r.kind == 0) (not_top s)
    (cond (r.kind == 1) (and_top s)
    (cond (r.kind == 2) (or_top s)
    (push (op_test r.op (is_same v r)) s)))

unfoldable pub bounded_run : View → List Row → List Bool → List Bool
bounded_run v [] s = s
bounded_run v (r ∷ rs) s = bounded_run v rs (bounded_run_row v r s)
