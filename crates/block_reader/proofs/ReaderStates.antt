-- Where a reader is at the beginning of a text, and past a statement, which opens no block. Assumes nothing.
use mathlib.Core.Path.{refl}
use mathlib.Core.List.{List, []}
use Prim.Native.Nat.{ℕ, ◌<◌}
use native.Mathlib.Omega.{arith}
use lib.ListN.{replicate, length-replicate}
use Rattle.policy.specs.Basics.{Name, every}
use Rattle.scopes.specs.Scope.{InScope}
use Rattle.blocks.specs.Opened.{opened_in}
use Rattle.blocks.specs.Names.{path_of, full_names, nothing}
use Rattle.blocks.proofs.BlockFilter.{covers-nothing}
use Rattle.block_reader.specs.Within.{none_open, Within}
use Rattle.block_reader.specs.declared.OpenBlocks.{OpenBlocks}

-- where a text begins, no block was opened, and a filter of zeros, with a word at least, covers none
pub begins : {symbols : List ℕ} (t keys : List ℕ) (n : ℕ) → 0 < n → InScope symbols [] → Within t keys (replicate n 0) symbols [] [] none_open
unfolding opened_in every path_of full_names
begins t keys n some sc = record {
  scope = sc;
  good = record { names = refl; few = omega arith };
  opened = nothing;
  room = omega arith;
  known = omega arith;
  stands = refl;
  deep = refl;
  fulls = λ w. refl;
  covers = covers-nothing (replicate n 0) (omega (arith, length-replicate {A = ℕ} n 0));
}

-- what keeps the scope keeps the blocks
pub in_scope : {t keys filter symbols symbolsAfter : List ℕ} {path names : List Name} {o : OpenBlocks} → Within t keys filter symbols path names o
    → InScope symbolsAfter path → Within t keys filter symbolsAfter path names o
in_scope w sc = record {
  scope = sc;
  good = w.good;
  opened = w.opened;
  room = w.room;
  known = w.known;
  stands = w.stands;
  deep = w.deep;
  fulls = w.fulls;
  covers = w.covers;
}
