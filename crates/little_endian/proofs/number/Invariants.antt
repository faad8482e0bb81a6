-- `little_endian::number` meets its contract. The invariant: the number so far is that of the bytes after those that are left. Assumes nothing.
use Rattle.std.specs.Slice.Iter.{iter_rest}
use Rattle.std.specs.Iterator.Adapters.{rev_source}
use Rattle.little_endian.proofs.NumberLaws.{ReadDown}
use Rattle.little_endian.proofs.number.Given as goal

abbrev pub invariant-loop-byte : goal.invariant-loop-byte
invariant-loop-byte l = ReadDown l.bytes (iter_rest (rev_source l.byte-iterator)) l.n
