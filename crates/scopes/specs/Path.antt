-- What the tries of a use find among the entries of the symbols, by the numbers of families. Assumes nothing.
use Rattle.std.specs.Prelude.{◌≡◌, Bool, ◌&&◌, cond, List, [], ◌∷◌, ℕ, ltb, length, Option, None, is_some}
use Rattle.std.specs.Option.{option_or}
use Rattle.policy.specs.Basics.{Name}
use Rattle.policy.specs.Words.{dotless}
use Rattle.policy.specs.Names.{full}
use Rattle.policy.specs.Encode.{NameEntry}
use Rattle.symbols.specs.Lookup.{first_named}
use Rattle.symbols.specs.declared.Symbol.{Symbol}
use Rattle.name_chains.specs.Compared.{compared_in}
use Rattle.name_chains.specs.declared.Tried.{Tried}

-- the full name of the innermost block of a path; empty at the whole-text level
abbrev pub scope_of : List Name → Name
scope_of [] = []
scope_of (b ∷ path) = full path b

-- "the first hit of the family decides"
unfoldable pub found_first : ℕ → List Name → List NameEntry → Option Symbol
found_first f [] es = None
found_first f (w ∷ ws) es = option_or (first_named f w es) (found_first f ws es)

-- the full name whose try decides: the first that hits; where none does, the last
unfoldable pub deciding : ℕ → List Name → List NameEntry → Name
deciding f [] es = []
deciding f (w ∷ []) es = w
deciding f (w ∷ v ∷ ws) es = cond (is_some (first_named f w es)) w (deciding f (v ∷ ws) es)

-- what the tries at some names decide, in the family f and among the entries es: what is found, and what the try that decides compared. Of the tries
-- before it each has its own count, compared_in of its name
pub record Decides (f : ℕ) (ws : List Name) (es : List NameEntry) (r : Tried) : Type 0 where
  pub finds : r.found ≡ found_first f ws es
  pub counts : r.compared ≡ compared_in f (deciding f ws es) es

-- a block's name is one part: at least a byte, and no dot
abbrev pub is_one_part : Name → Bool
is_one_part b = ltb 0 (length b) && dotless b
