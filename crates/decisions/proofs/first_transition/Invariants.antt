-- `decisions::first_transition` meets its contract. The loop's invariant: the transitions that are left answer as all do. Assumes nothing.
use Prim.Native.Nat.{◌+◌, ◌-◌, ◌*◌}
use mathlib.Core.Path.{◌≡◌}
use lib.ListN.{drop}
use Rattle.policy.specs.Sound.{transition_at}
use Rattle.policy.specs.Questions.{first_transition}
use Rattle.table_reader.specs.Records.{records}
use Rattle.decisions.specs.TableAnswers.{transitions_in}
use Rattle.decisions.proofs.first_transition.Given as goal

abbrev pub invariant-loop-number : goal.invariant-loop-number
invariant-loop-number l =
    first_transition l.role l.kind l.class (records 82 transition_at (l.count - l.number) (drop (l.start + 82 * l.number) l.table))
    ≡ first_transition l.role l.kind l.class (transitions_in l.table)
