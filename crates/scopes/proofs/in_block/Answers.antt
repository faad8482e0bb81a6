-- `scopes::in_block` meets its contract: by the length of the scope. Assumes nothing.
use Rattle.scopes.specs.Scope.{scope_length}
use Rattle.scopes.proofs.OpenTest.{open-by-length}
use Rattle.scopes.proofs.in_block.Goals as goal

pub returns-else-symbols-lt-SYMBOL_BYTES : goal.returns-else-symbols-lt-SYMBOL_BYTES
unfolding scope_length
returns-else-symbols-lt-SYMBOL_BYTES c = record { answers = λ path sc. open-by-length path sc }
