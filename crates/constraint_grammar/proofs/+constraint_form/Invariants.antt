-- `constraint_grammar::constraint_form` meets its contract. It calls itself with one level less; what is left of the row decides, with the number of
-- operands so far. Assumes nothing.
use mathlib.Core.Path.{◌≡◌}
use mathlib.Core.Bool.{Bool}
use Prim.Native.Nat.{ℕ, ◌+◌, ◌-◌, ◌≤◌}
use lib.ListN.{length}
use Rattle.lexer.specs.Forms.{Forms, frames_at, trim}
use Rattle.policy.specs.Words.{Sides}
use Rattle.policy.specs.Answers.{sides_of}
use Rattle.policy.specs.Grammar.{expressions, expression_in}
use Rattle.items.specs.Looks.{row_end}
use Rattle.items.specs.Reads.{is_some, counted}
use Rattle.items.specs.declared.Wanted.{Wanted}
use Rattle.constraint_grammar.proofs.+constraint_form.Given as goal

-- what is left of w operands, after n of them
abbrev pub left : Sides → ℕ → ℕ → Forms → Bool
left sides w n f = counted (Wanted.Exactly w) n (expressions sides f)

abbrev pub decreases-constraint_form : goal.decreases-constraint_form
decreases-constraint_form l = l.levels

abbrev pub invariant-loop-next : goal.invariant-loop-next
invariant-loop-next l =
    (l.at + l.count ≤ l.i)
    × (row_end l.text l.i ≡ row_end l.text l.at)
    × (left (sides_of l.sides) l.wanted l.count (trim (frames_at l.text l.i).here l.levels) ≡ is_some (expression_in (sides_of l.sides) (trim (frames_at l.text l.at).here l.levels)))

abbrev pub decreases-loop-next : goal.decreases-loop-next
decreases-loop-next l = length l.text - l.i
