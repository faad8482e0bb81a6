-- `items::names_form` meets its contract: what is left of the row decides, with the names so far. Assumes nothing.
use mathlib.Core.Path.{◌≡◌}
use mathlib.Core.Bool.{Bool}
use Prim.Native.Nat.{ℕ, ◌+◌, ◌-◌, ◌≤◌}
use lib.ListN.{length}
use Rattle.lexer.specs.Forms.{Forms, frames_at}
use Rattle.policy.specs.Grammar.{row_of}
use Rattle.words.specs.Numbers.{taken_as}
use Rattle.words.specs.declared.NameKind.{NameKind}
use Rattle.items.specs.Looks.{row_end}
use Rattle.items.specs.Reads.{counted}
use Rattle.items.specs.declared.Wanted.{Wanted}
use Rattle.items.proofs.names_form.Given as goal

-- what is left of the names, after n of them
abbrev pub left : NameKind → Wanted → ℕ → Forms → Bool
left k w n f = counted w n (row_of (taken_as k) f)

abbrev pub invariant-loop-start : goal.invariant-loop-start
invariant-loop-start l =
    (l.at + l.count ≤ l.i)
    × (row_end l.text l.i ≡ row_end l.text l.at)
    × (left l.kind l.wanted l.count (frames_at l.text l.i).here ≡ left l.kind l.wanted 0 (frames_at l.text l.at).here)

abbrev pub decreases-loop-start : goal.decreases-loop-start
decreases-loop-start l = length l.text - l.i
