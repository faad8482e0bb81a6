-- `table_names::permission_name` meets its contract: no class and no place from 32 on. Assumes nothing.
use borrow.Author.Tests.{lt-ltb, le-ltb}
use Rattle.table_names.specs.TableNames.{permission_in}
use Rattle.table_names.proofs.permission_name.Goals as goal

pub returns-then-class-ge-MAX : goal.returns-then-class-ge-MAX
unfolding permission_in
returns-then-class-ge-MAX c = rw (le-ltb _ _ c.if-class-ge-MAX.true)

pub returns-then-permission-ge-MAX : goal.returns-then-permission-ge-MAX
unfolding permission_in
returns-then-permission-ge-MAX c = rw (lt-ltb _ _ c.if-class-ge-MAX.false, le-ltb _ _ c.if-permission-ge-MAX.true)

pub returns : goal.returns
unfolding permission_in
returns c = rw (lt-ltb _ _ c.if-class-ge-MAX.false, lt-ltb _ _ c.if-permission-ge-MAX.false) c.name_place.ensures
