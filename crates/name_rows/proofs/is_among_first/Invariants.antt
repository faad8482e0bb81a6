-- `name_rows::is_among_first` meets its contract. The loop's invariant: the name is among the names asked for exactly where it is among those
-- that are left of them. Assumes nothing.
use mathlib.Core.Path.{◌≡◌}
use Prim.Native.Nat.{◌-◌}
use Rattle.name_rows.specs.WordRows.{is_among_first}
use Rattle.name_rows.proofs.is_among_first.Given as goal

abbrev pub invariant-loop : goal.invariant-loop
invariant-loop l = is_among_first l.text l.i (l.count - l.counter) l.name ≡ is_among_first l.text l.at l.count l.name
