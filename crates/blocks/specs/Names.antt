-- The full names of the blocks that were opened. Assumes nothing.
use Rattle.std.specs.Prelude.{◌≡◌, true, false, cond, List, [], ◌∷◌, ℕ, suc, ◌≤◌, eqb, length}
use Rattle.policy.specs.Basics.{Name}
use Rattle.policy.specs.Names.{full}
use Rattle.scopes.specs.Path.{is_one_part}
use Rattle.blocks.specs.Opened.{Block, is_opened}

-- the path of the block of a number, itself first; 0 is the whole text. The blocks are listed last first, so the number of the first is their count
unfoldable pub path_of : List Block → ℕ → List Name
path_of [] k = []
path_of (b ∷ bs) k = cond (eqb k (suc (length bs))) (b.name ∷ path_of bs b.parent) (path_of bs k)

-- the full names that were opened
unfoldable pub full_names : List Block → List Name
full_names [] = []
full_names (b ∷ bs) = full (path_of bs b.parent) b.name ∷ full_names bs

-- each was opened inside one that was opened before, or at the whole-text level, under a name of one part, and none twice
pub data Opening : List Block → Type 0 where
  nothing : Opening []
  another : {b : Block} {bs : List Block} → b.parent ≤ length bs → is_one_part b.name ≡ true → is_opened b.parent b.name bs ≡ false → Opening bs → Opening (b ∷ bs)
