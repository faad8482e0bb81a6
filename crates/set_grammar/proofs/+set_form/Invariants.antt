-- `set_grammar::set_form` meets its contract. It calls itself with one level less; what is left of the row decides, with the operands so far.
-- Assumes nothing.
use mathlib.Core.Path.{◌≡◌}
use mathlib.Core.Bool.{Bool}
use Prim.Native.Nat.{ℕ, ◌+◌, ◌-◌, ◌≤◌}
use lib.ListN.{length}
use Rattle.lexer.specs.Forms.{Forms, frames_at, trim}
use Rattle.policy.specs.Grammar.{operands, set_in}
use Rattle.items.specs.Looks.{row_end}
use Rattle.items.specs.Reads.{is_some, counted}
use Rattle.items.specs.declared.Wanted.{Wanted}
use Rattle.set_grammar.proofs.+set_form.Given as goal

-- what is left of the operands, after n of them
abbrev pub left : Wanted → ℕ → Forms → Bool
left w n f = counted w n (operands f)

abbrev pub decreases-set_form : goal.decreases-set_form
decreases-set_form l = l.levels

abbrev pub invariant-loop-start : goal.invariant-loop-start
invariant-loop-start l =
    (l.at + l.count ≤ l.i)
    × (row_end l.text l.i ≡ row_end l.text l.at)
    × (left l.begun.wanted l.count (trim (frames_at l.text l.i).here l.levels) ≡ is_some (set_in (trim (frames_at l.text l.at).here l.levels)))

abbrev pub decreases-loop-start : goal.decreases-loop-start
decreases-loop-start l = length l.text - l.i
