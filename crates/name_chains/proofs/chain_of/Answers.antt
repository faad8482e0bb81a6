-- `name_chains::chain_of` meets its contract (FindLaws). Assumes nothing.
use native.Mathlib.Omega.{arith}
use Rattle.name_chains.proofs.FindLaws.{no_index, no-family, no_length}
use Rattle.name_chains.proofs.chain_of.Goals as goal
use Rattle.name_chains.proofs.chain_of.Goals.{then-symbols-lt-SYMBOL_BYTES-via-then-symbols-lt-SYMBOL_BYTES, then-symbols-lt-SYMBOL_BYTES-via-else-symbols-lt-SYMBOL_BYTES+then-family-ge-COUNT, then-symbols-lt-SYMBOL_BYTES-via-else-symbols-lt-SYMBOL_BYTES+else-family-ge-COUNT+then-long-ge-LENGTHS}

pub returns-then-symbols-lt-SYMBOL_BYTES : goal.returns-then-symbols-lt-SYMBOL_BYTES
returns-then-symbols-lt-SYMBOL_BYTES c =
    elim c.then-symbols-lt-SYMBOL_BYTES.branch [
      | then-symbols-lt-SYMBOL_BYTES-via-then-symbols-lt-SYMBOL_BYTES w ↦ no_index (omega arith) c.chain_in.ensures
      | then-symbols-lt-SYMBOL_BYTES-via-else-symbols-lt-SYMBOL_BYTES+then-family-ge-COUNT w ↦ no-family (omega arith) c.chain_in.ensures
      | then-symbols-lt-SYMBOL_BYTES-via-else-symbols-lt-SYMBOL_BYTES+else-family-ge-COUNT+then-long-ge-LENGTHS w ↦ no_length (omega arith) c.chain_in.ensures
    ]
