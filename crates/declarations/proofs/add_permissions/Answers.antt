-- `declarations::add_permissions` meets its contract. The loop's invariant: the first names of the row are written, and the others are left.
-- Assumes nothing.
use native.Mathlib.Omega.{arith}
use Rattle.name_rows.proofs.Rows.{words-here}
use Rattle.declarations.proofs.NewEntryLaws.{so-far-none, all-written, one_left, next-no-room, next-written, enters-named}
use Rattle.declarations.proofs.add_permissions.Goals as goal

pub loop-word-init : goal.loop-word-init
loop-word-init c = so-far-none _ _ _ _ c.requires.1 c.requires.2

pub overflow_add-first : goal.overflow_add-first
overflow_add-first c = omega (arith, c.requires.0, c.requires.3, one_left c.loop-word.invariant _ _ (words-here c.in-Some.ensures))

pub returns-in_err-past : goal.returns-in_err-past
returns-in_err-past c =
    rw c.from_residual.ensures (
    next-no-room c.loop-word.invariant _ _ (words-here c.in-Some.ensures) _ (enters-named c.part-permission.ensures c.in_err-past.ensures)
    )

pub overflow_add-place : goal.overflow_add-place
overflow_add-place c = omega (arith, c.requires.3, one_left c.loop-word.invariant _ _ (words-here c.in-Some.ensures))

pub loop-word-preserved : goal.loop-word-preserved
loop-word-preserved c =
    next-written c.loop-word.invariant _ _ (words-here c.in-Some.ensures) _ _ (enters-named c.part-permission.ensures c.in_ok-past.ensures)

pub returns : goal.returns
returns c = all-written c.loop-word.invariant c.in_default.ensures
