-- `roll_lines::put_lines` meets its contract: the lines of the numbers below the present one are written. The measure is how many can follow. Assumes nothing.
use Prim.Native.Nat.{◌<◌}
use native.Mathlib.Omega.{arith}
use Rattle.table_laws.proofs.ListLaws.{all-places}
use Rattle.roll_lines.proofs.Lines.{none-put, number-few, line-room, set_room, line-put, lines-put}
use Rattle.roll_lines.proofs.put_lines.Goals as goal
use Rattle.roll_lines.proofs.put_lines.Goals.{In-Ok}

-- a number that has a name is below 128
few : (c : In-Ok) →
    c.loop-place.number < 128
few c =
    let bytes = all-places (λ k. k < 256) c.args.table.now 0 (λ i l. (c.shared_slice_known-1.given i).fits) in
    let found = c.in-Ok.ensures c.requires.sound in
    number-few _ _ _ _ _ _ _ bytes c.requires c.loop-place.invariant found

pub loop-place-init : goal.loop-place-init
loop-place-init c = none-put _ _ _ _ _ _ _

pub returns : goal.returns
returns c =
    let bytes = all-places (λ k. k < 256) c.args.table.now 0 (λ i l. (c.shared_slice_known-1.given i).fits) in
    let missed = c.in_default.ensures c.requires.sound in
    lines-put _ _ _ _ _ _ _ bytes c.requires c.loop-place.invariant missed

pub put_line-end-requires : goal.put_line-end-requires
put_line-end-requires c =
    let bytes = all-places (λ k. k < 256) c.args.table.now 0 (λ i l. (c.shared_slice_known-1.given i).fits) in
    let found = c.in-Ok.ensures c.requires.sound in (
      line-room _ _ _ _ _ _ _ bytes c.requires c.loop-place.invariant found c.part-name.ensures c.set_at-set.ensures,
      set_room _ _ _ _ _ _ _ bytes c.requires c.loop-place.invariant found c.part-name.ensures c.set_at-set.ensures,
    )

pub overflow_add-number : goal.overflow_add-number
overflow_add-number c = omega (arith, few (goal.at.overflow_add-number c).In-Ok)

pub loop-place-smaller : goal.loop-place-smaller
loop-place-smaller c = omega (arith, few (goal.at.loop-place-smaller c).In-Ok)

pub loop-place-preserved : goal.loop-place-preserved
loop-place-preserved c =
    let bytes = all-places (λ k. k < 256) c.args.table.now 0 (λ i l. (c.shared_slice_known-1.given i).fits) in
    let found = c.in-Ok.ensures c.requires.sound in
    line-put _ _ _ _ _ _ _ bytes c.requires c.loop-place.invariant found c.part-name.ensures c.set_at-set.ensures
    c.put_line-end.ensures
