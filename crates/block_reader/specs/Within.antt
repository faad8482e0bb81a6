-- Where a reader is among the blocks of a text, and what opening and closing one promise. Assumes nothing.
use Rattle.std.specs.Prelude.{◌≡◌, true, List, [], ◌∷◌, ◌++◌, ℕ, ◌+◌, ◌<◌, ◌≤◌, length, Result, MatchResult}
use Rattle.std.proofs.Math.Option.{some}
use Rattle.byte_slices.specs.Parts.{part}
use Rattle.policy.specs.declared.Fault.{Fault}
use Rattle.policy.specs.Answers.{fault_number}
use Rattle.policy.specs.Basics.{Name, is_in}
use Rattle.policy.specs.Names.{full}
use Rattle.policy.specs.Reading.{Judged, reads, opens, fault, judge_block}
use Rattle.policy.specs.Sound.{is_good_part}
use Rattle.policy.specs.Accepted.{GoodPath}
use Rattle.scopes.specs.Scope.{InScope, SymbolsKept}
use Rattle.blocks.specs.Opened.{opened_in, CoversBlocks}
use Rattle.blocks.specs.Names.{path_of, full_names, Opening}
use Rattle.block_reader.specs.declared.OpenBlocks.{OpenBlocks}

-- no block was opened
abbrev pub none_open : OpenBlocks
none_open = record { count = 0; block = 0; depth = 0 }

-- in the text t the blocks of a path are open, and those of some full names were opened: so the memory of the symbols and the keys say. The filter covers these
pub record Within (t keys filter symbols : List ℕ) (path names : List Name) (o : OpenBlocks) : Type 0 where
  pub scope : InScope symbols path
  pub good : GoodPath path
  pub opened : Opening (opened_in t keys o.count)
  pub room : o.count ≤ length keys
  pub known : o.block ≤ o.count
  pub stands : path_of (opened_in t keys o.count) o.block ≡ path
  pub deep : o.depth ≡ length path
  pub fulls : (w : Name) → is_in w (full_names (opened_in t keys o.count)) ≡ is_in w names
  pub covers : CoversBlocks filter (opened_in t keys o.count)

-- in the block b of those that were open, opened as the next
pub record OneMore (t keys filter symbols : List ℕ) (path names : List Name) (b : Name) (before after : OpenBlocks) : Type 0 where
  pub inside : Within t keys filter symbols (b ∷ path) (names ++ (full path b ∷ [])) after
  pub next : after.count ≡ before.count + 1

-- a block is opened, or refused, as it is judged
abbrev pub OpensBy : (OpenBlocks → Type 0) → Judged → Result OpenBlocks Fault → Type 0
OpensBy P opens r = MatchResult r P (λ f. ⊥)
OpensBy P (fault n) r = MatchResult r (λ o. ⊥) (λ f. fault_number f ≡ n)
OpensBy P (reads s) r = ⊥

-- "4 for a block opened twice under one full name, 6 for a full name too long or a ninth level". What the keys and the filter hold after a fault is free, and
-- so is the scope
pub record OpensBlock (t : List ℕ) (start len : ℕ) (keys keysAfter filter filterAfter symbols symbolsAfter : List ℕ) (o : OpenBlocks) (r : Result OpenBlocks Fault) : Type 0 where
  pub judges : (path names : List Name) → Within t keys filter symbols path names o → is_good_part (part t start len) ≡ true → o.count < 8192
      → length t < 65536 → start + len ≤ length t
      → OpensBy (OneMore t keysAfter filterAfter symbolsAfter path names (part t start len) o) (judge_block path names (some (part t start len))) r
  pub kept : SymbolsKept symbols symbolsAfter
  pub long : length keysAfter ≡ length keys
  pub filter-long : length filterAfter ≡ length filter

-- the innermost block is left; the blocks that were opened stay opened, and whatever filter covers them still does
pub record ClosesBlock (keys symbols symbolsAfter : List ℕ) (o r : OpenBlocks) : Type 0 where
  pub closes : (t filter : List ℕ) (b : Name) (path names : List Name) → Within t keys filter symbols (b ∷ path) names o
      → Within t keys filter symbolsAfter path names r
  pub kept : SymbolsKept symbols symbolsAfter
  pub same : r.count ≡ o.count
