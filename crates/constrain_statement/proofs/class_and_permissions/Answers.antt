-- `constrain_statement::class_and_permissions` meets its contract: the class, then item by item as the form has them. Assumes nothing.
use Rattle.items.proofs.Items.{sees}
use Rattle.constrain_statement.proofs.PermissionLaws.{no-class, part-missing, permission-undeclared, close-missing, scoped}
use native.Mathlib.Omega.{arith}
use borrow.Enum.Refused.{opened}
use Rattle.constrain_statement.proofs.class_and_permissions.Goals as goal

pub returns-in_err-named : goal.returns-in_err-named
returns-in_err-named c = rw c.from_residual.ensures (no-class c.class_at.ensures c.in_err-named.was)

pub returns-in_default : goal.returns-in_default
returns-in_default c =
    part-missing c.class_at.ensures c.in_ok-named.was c.next_item-second.ensures (opened c.in_default.in_default-own.keys2)

pub overflow_add-family : goal.overflow_add-family
overflow_add-family c = omega (arith, c.in_ok-named.ensures.place.1)

pub returns-in_err-masked : goal.returns-in_err-masked
returns-in_err-masked c =
    rw c.from_residual-in_err-masked.ensures
    (permission-undeclared c.class_at.ensures c.in_ok-named.was
    (sees c.next_item-second.ensures c.in-Open.is) c.permission_mask.ensures c.in_err-masked.was)

pub returns-in_default-last : goal.returns-in_default-last
returns-in_default-last c =
    close-missing c.class_at.ensures c.in_ok-named.was
    (sees c.next_item-second.ensures c.in-Open.is) c.permission_mask.ensures c.in_ok-masked.was
    c.next_item-last.ensures (opened c.in_default-last.in_default-last-own.keys2)

pub returns : goal.returns
returns c =
    scoped c.class_at.ensures c.in_ok-named.was
    (sees c.next_item-second.ensures c.in-Open.is) c.permission_mask.ensures c.in_ok-masked.was
    (sees c.next_item-last.ensures c.in-Close.is)
