-- `blocks::hash_of` meets its contract. The loop's invariant: the bytes that are left make of the hash so far that of the whole name. Assumes nothing.
use Prim.Native.Nat.{◌<◌}
use mathlib.Core.Path.{◌≡◌}
use lib.ListN.{drop}
use Rattle.bloom_filter.specs.Filter.{hash_from}
use Rattle.blocks.proofs.hash_of.Given as goal

abbrev pub invariant-loop-byte : goal.invariant-loop-byte
invariant-loop-byte l = (l.hash < 4294967296) × (hash_from (drop l.byte-index l.name) l.hash ≡ hash_from l.name 0)
