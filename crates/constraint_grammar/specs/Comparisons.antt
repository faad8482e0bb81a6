-- Comparisons, by the numbers of their words and, as names have none, by their last word. `proofs/ComparisonLaws` has the law that they are policy's.
-- Assumes nothing.
use Rattle.std.specs.Prelude.{ℕ, Bool, false, ◌&&◌}
use Rattle.std.proofs.Math.Option.{Option, none, some}
use Rattle.lexer.specs.Forms.{Forms, closed, ended, word, part}
use Rattle.policy.specs.Basics.{Name, ◌>>=◌}
use Rattle.policy.specs.Words.{is_plain, op_of, Sides, Component, component_of}
use Rattle.policy.specs.Statements.{Op, Constraint}
use Rattle.policy.specs.Grammar.{are_sides, compared}
use Rattle.words.specs.Numbers.{number_of, word_of}
use Rattle.items.specs.Reads.{is_some, is_closed}

-- "op: `eq neq`"
abbrev pub plain_op : Option Op → Bool
plain_op none = false
plain_op (some o) = is_plain o

-- "`(op u1 u2)`, `(op t1 t2)`, `(rop r1 r2)`"
abbrev pub pair_of : Option Component → Option Component → Bool
pair_of none y = false
pair_of (some x) none = false
pair_of (some x) (some y) = are_sides x y

-- a comparison of three words, where it may name the sides n
abbrev pub comparison_of : Sides → Option Op → Option Component → Name → Option (Constraint Name)
comparison_of n o v w = o >>= λ o. v >>= λ x. compared o x w (component_of n w)

-- the first two by their numbers
unfoldable pub comparing : Sides → ℕ → ℕ → Name → Bool
comparing n op x w = is_some (comparison_of n (op_of (word_of op)) (component_of n (word_of x)) w)

-- the last word of a comparison, and the close; both words after its operator
abbrev pub second_side : Sides → ℕ → ℕ → Forms → Bool
second_side n op x closed = false
second_side n op x ended = false
second_side n op x (word s b f) = comparing n op x b && is_closed f
second_side n op x (part p f g) = false

abbrev pub both_sides : Sides → ℕ → Forms → Bool
both_sides n op closed = false
both_sides n op ended = false
both_sides n op (word s b f) = second_side n op (number_of b) f
both_sides n op (part p f g) = false
