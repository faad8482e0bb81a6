-- `bloom_filter::insert` meets its contract: the word gets the marks, and is as before where it had them. Assumes nothing.
use mathlib.Core.Path.{refl}
use Prim.Native.Nat.{◌/◌}
use native.Mathlib.Nat.{mod-lt, mod-le}
use native.Mathlib.Omega.{arith}
use lib.ListN.{length}
use Rattle.bloom_filter.specs.Filter.{is_marked, marked}
use Rattle.bloom_filter.proofs.insert.Goals as goal

pub offset_bounds-filter-place : goal.offset_bounds-filter-place
offset_bounds-filter-place c = omega (arith, c.requires.1, mod-le (c.args.hash / 2097152) (length c.args.filter.now))

pub bounds-filter-place : goal.bounds-filter-place
bounds-filter-place c = mod-lt (c.args.hash / 2097152) c.requires.0

pub offset_bounds-filter-place-2 : goal.offset_bounds-filter-place-2
offset_bounds-filter-place-2 c = omega (arith, c.requires.1, mod-le (c.args.hash / 2097152) (length c.args.filter.now))

pub bounds-filter-place-2 : goal.bounds-filter-place-2
bounds-filter-place-2 c = mod-lt (c.args.hash / 2097152) c.requires.0

pub returns : goal.returns
unfolding is_marked marked
returns c = rw c.mask_of.ensures (refl, refl)
