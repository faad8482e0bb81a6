-- The scope in the memory of the symbols, after their index: at 188648 the length of the innermost block's full name, then its bytes, at most 64.
-- Assumes nothing.
use Rattle.std.specs.Prelude.{◌≡◌, Bool, true, false, not, cond, List, [], ◌∷◌, ◌++◌, ℕ, ◌+◌, ◌<◌, ◌≤◌, leb, length, get_or, Option, Some, None, IfSome}
use Rattle.lexer.specs.Spell.{bytes}
use Rattle.byte_slices.specs.Parts.{part}
use Rattle.policy.specs.Basics.{Name, every}
use Rattle.policy.specs.Words.{dotless}
use Rattle.policy.specs.Names.{full, has_dot_in_front, tries}
use Rattle.policy.specs.Encode.{NameEntry}
use Rattle.name_chains.specs.Chains.{Chained}
use Rattle.name_chains.specs.declared.Tried.{Tried}
use Rattle.scopes.specs.Path.{scope_of, Decides, is_one_part}
use Rattle.name_index.specs.Index.{index_bytes}

-- the memory of the symbols with their index and the scope
abbrev pub symbol_bytes : ℕ
symbol_bytes = 188713

unfoldable pub scope_length : List ℕ → ℕ
scope_length t = get_or t index_bytes 0

unfoldable pub scope_in : List ℕ → ℕ → Name
scope_in t n = part t 188649 n

-- the memory t has the full name of the innermost block of a path
pub record InScope (t : List ℕ) (path : List Name) : Type 0 where
  pub room : symbol_bytes ≤ length t
  pub fits : scope_length t ≤ 64
  pub stands : scope_in t (scope_length t) ≡ scope_of path
  pub parts : every is_one_part path ≡ true

abbrev pub is_open : List Name → Bool
is_open [] = false
is_open (b ∷ path) = true

-- whether a block is open, in whatever blocks the memory t has
pub record InBlock (t : List ℕ) (r : Bool) : Type 0 where
  pub answers : (path : List Name) → InScope t path → r ≡ is_open path

-- where the last dot stands, or 0
unfoldable pub last_dot : Name → ℕ
last_dot [] = 0
last_dot (c ∷ s) = cond (dotless s) 0 (1 + last_dot s)

-- ---- full names

-- a name in the block of a full name; the empty name is the whole text's
abbrev pub within : Name → Name → Name
within [] w = w
within (c ∷ s) w = (c ∷ s) ++ bytes "." ++ w

-- the name v is in front of the memory, or it has more than 64 bytes
abbrev pub ComposedBy : Name → List ℕ → Option ℕ → Type 0
ComposedBy v after (Some m) = (part after 0 m ≡ v) × (m ≡ length v) × (m ≤ 64)
ComposedBy v after None = 64 < length v

pub record Composes (v : Name) (before after : List ℕ) (r : Option ℕ) : Type 0 where
  pub is : ComposedBy v after r
  pub long : length after ≡ length before

-- the full name of w in whatever blocks the memory t has. A length that is told is that of a name, whatever the memory has
pub record Names (t : List ℕ) (w : Name) (before after : List ℕ) (r : Option ℕ) : Type 0 where
  pub is : (path : List Name) → InScope t path → ComposedBy (full path w) after r
  pub short : IfSome r (λ m. m ≤ 64)
  pub long : length after ≡ length before

-- ---- uses

-- at the whole-text level a use with no dot in front is tried once, as it stands
abbrev pub is_plain : List Name → Name → Bool
is_plain [] w = not (has_dot_in_front w)
is_plain (b ∷ path) w = false

pub record TriedOnce (t : List ℕ) (w : Name) (r : Bool) : Type 0 where
  pub answers : (path : List Name) → InScope t path → r ≡ is_plain path w

-- a use is resolved in whatever blocks and among whatever entries the memory t has
pub record Resolves (t : List ℕ) (f : ℕ) (w : Name) (r : Tried) : Type 0 where
  pub resolves : (end : ℕ) (es : List NameEntry) (path : List Name) → Chained t end es → InScope t path → Decides f (tries path w) es r

-- ---- blocks opened and closed

-- the memory before the scope, the symbols and their index, is as it was
pub record SymbolsKept (before after : List ℕ) : Type 0 where
  pub long : length after ≡ length before
  pub front : (p w : ℕ) → p + w ≤ index_bytes → part after p w ≡ part before p w

-- at the whole-text level
pub record Starts (before after : List ℕ) : Type 0 where
  pub kept : SymbolsKept before after
  pub starts : InScope after []

-- in the block b of those that were open, or as before where its full name would be longer than 64 bytes
pub record EntersBlock (before after : List ℕ) (b : Name) (r : Bool) : Type 0 where
  pub kept : SymbolsKept before after
  pub answers : (path : List Name) → InScope before path → r ≡ leb (length (full path b)) 64
  pub enters : (path : List Name) → InScope before path → is_one_part b ≡ true → r ≡ true → InScope after (b ∷ path)
  pub stays : r ≡ false → after ≡ before

-- in the blocks around the innermost
pub record LeavesBlock (before after : List ℕ) : Type 0 where
  pub kept : SymbolsKept before after
  pub leaves : (b : Name) (path : List Name) → InScope before (b ∷ path) → InScope after path
