-- `constraints::next_of_class` meets its contract. The loop's invariant: those before the number are of other classes. Assumes nothing.
use Rattle.constraints.specs.TableConstraints.{Passed}
use Rattle.constraints.proofs.next_of_class.Given as goal

abbrev pub invariant-loop-number : goal.invariant-loop-number
invariant-loop-number l = Passed l.table l.start l.count l.class l.from l.number
