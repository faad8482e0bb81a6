-- How many constraint expressions an operator joins. Assumes nothing.
use Rattle.std.specs.Prelude.{ℕ, Option, Some, None}
use Rattle.std.proofs.Math.Option as maybe
use Rattle.policy.specs.Words.{Connective, all_c, not_c, and_c, or_c, xor_c}

-- "`(and E E)`, `(or E E)`, `(not E)`"
abbrev pub joins_of : maybe.Option Connective → Option ℕ
joins_of maybe.none = None
joins_of (maybe.some all_c) = None
joins_of (maybe.some not_c) = Some 1
joins_of (maybe.some and_c) = Some 2
joins_of (maybe.some or_c) = Some 2
joins_of (maybe.some xor_c) = None
