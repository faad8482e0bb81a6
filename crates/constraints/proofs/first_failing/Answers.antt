-- `constraints::first_failing` meets its contract. The loop's invariant: the constraints that are left, after those consulted, decide as all do, and the
-- first of them is of the class. Each way through a turn is one law of ScanLaws. The measure is the number of constraints left. Assumes nothing.
use Rattle.std.proofs.Common.{◌≡◌, ◌+◌, ◌-◌, ◌*◌, ◌∷◌, sym, ap, ◌∙◌, add-zero, arith, eq-eqb}
use native.Mathlib.Nat.{sub-zero}
use Rattle.policy.specs.Encode.{ConstraintRecord}
use Rattle.policy.specs.Sound.{constraint_at}
use Rattle.policy.specs.Deciding.{first_failing}
use Rattle.table_reader.specs.Records.{constraint_of}
use Rattle.table_reader.proofs.RecordLaws.{records-none}
use Rattle.constraints.specs.TableConstraints.{constraints_in, constraints_from, constraint_names, constraint_holds}
use Rattle.constraints.proofs.ScanLaws.{Left, left-all, left-moved, left-skip, left-pass, left-fail, left-none}
use Rattle.constraints.proofs.ClassWalkLaws.{constraints-first}
use Rattle.constraints.proofs.first_failing.Goals as goal
use Rattle.constraints.proofs.first_failing.Goals.{After-constraint_at-constraint, After-has_permission}

-- the constraint that is read is the first of those left
ahead : (c : After-constraint_at-constraint) →
    let a = c.args in
    let l = c.loop-next in
    let n = constraint_names a.class a.permission in
    let h = constraint_holds a.table.now a.bodies a.sides.now in
    Left 4 n h (first_failing 4 n h 0 (constraints_in a.table.now a.bodies)) l.consulted l.next
    (constraint_of c.constraint_at-constraint.result ∷ constraints_from a.table.now a.bodies.statements a.bodies.count (l.next + 1))
ahead c =
    let a = c.args in
    let l = c.loop-next in
    rw c.constraint_at-constraint.ensures (rw (constraints-first a.table.now a.bodies.statements a.bodies.count l.next c.loop-next-test.true) at l.invariant.3)

-- its class is the one asked for, so that its mask says whether it names the permission
named : (c : After-has_permission) →
    let a = c.args in
    constraint_names a.class a.permission (constraint_of c.constraint_at-constraint.result) ≡ c.has_permission.result
named c =
    let read = ap (λ (h : ConstraintRecord). h.class) c.constraint_at-constraint.ensures in
    rw (eq-eqb _ _ (read ∙ c.loop-next.invariant.2 c.loop-next-test.true)) (sym c.has_permission.ensures)

pub loop-next-init : goal.loop-next-init
loop-next-init c =
    let found = c.next_of_class-next.ensures in (
      found.passed.within (omega arith),
      omega arith,
      found.of-class,
      left-moved _ _ _ (rw (sub-zero, add-zero) (left-all _ _ _ _)) (found.passed.decides _ _),
    )

pub loop-next-preserved-then-not-has_permission : goal.loop-next-preserved-then-not-has_permission
loop-next-preserved-then-not-has_permission c =
    let found = c.next_of_class-next-in-loop-next.ensures in (
      found.passed.within (omega arith),
      omega (arith, found.passed.ahead),
      found.of-class,
      left-moved _ _ _ (left-skip _ _ _ (ahead (goal.at.loop-next-preserved-then-not-has_permission c).After-constraint_at-constraint) (named (goal.at.loop-next-preserved-then-not-has_permission c).After-has_permission ∙ c.if-not-has_permission.true)) (found.passed.decides _ _),
    )

pub returns-then-not-evaluate : goal.returns-then-not-evaluate
returns-then-not-evaluate c =
    left-fail _ _ _ (ahead (goal.at.returns-then-not-evaluate c).After-constraint_at-constraint) (named (goal.at.returns-then-not-evaluate c).After-has_permission ∙ c.if-not-has_permission.false)
    (sym c.if-not-evaluate.ensures)

pub loop-next-preserved : goal.loop-next-preserved
loop-next-preserved c =
    let found = c.next_of_class-next-in-loop-next.ensures in (
      found.passed.within (omega arith),
      omega (arith, found.passed.ahead),
      found.of-class,
      left-moved _ _ _
          (left-pass _ _ _ (ahead (goal.at.loop-next-preserved c).After-constraint_at-constraint) (named (goal.at.loop-next-preserved c).After-has_permission ∙ c.if-not-has_permission.false)
          (sym c.if-not-evaluate.ensures))
          (found.passed.decides _ _),
    )

pub returns : goal.returns
returns c =
    let l = c.loop-next in
    let a = c.args in
    let at = a.bodies.statements + 10 * l.next in
    left-none _ _ _ (rw (records-none 10 constraint_at a.table.now at (a.bodies.count - l.next) (omega arith)) at l.invariant.3)
