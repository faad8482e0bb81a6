-- How deep the stack gets when rows run, with no bound on it. Assumes nothing.
use Rattle.std.specs.Prelude.{ℕ, max, List, [], ◌∷◌}
use Rattle.policy.specs.Rows.{Row, after}

-- the greatest depth that the rows reach from a depth d, the depth d itself included
unfoldable pub deepest : List Row → ℕ → ℕ
deepest [] d = d
deepest (r ∷ rs) d = max d (deepest rs (after r d))
