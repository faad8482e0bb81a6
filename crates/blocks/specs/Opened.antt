-- W-203: "4 for a block opened twice under one full name". The blocks that were opened have numbers from 1 on; 0 is the whole text. Each is kept as the number
-- of the block around it and the length and the place of its own name in the text: since a part has no dot, these say the full name (opened-exactly).
-- Assumes nothing.
use Rattle.std.specs.Prelude.{◌≡◌, Bool, true, false, not, ◌&&◌, List, [], ◌∷◌, ℕ, zero, suc, ◌+◌, ◌*◌, ◌/◌, ◌%◌, ◌<◌, eqb, length, get_or}
use Rattle.byte_slices.specs.Parts.{part}
use Rattle.policy.specs.Basics.{Name, same, any}
use Rattle.bloom_filter.specs.Filter.{is_marked, marked, Covers}

-- a block: the number of the one around it, and its own name
pub record Block : Type 0 where
  pub parent : ℕ
  pub name : Name

abbrev pub block_of : ℕ → Name → Block
block_of p w = record { parent = p; name = w }

-- a block as one number: the one around it, the length of the name, its place, each cut to two bytes
abbrev pub key : ℕ → ℕ → ℕ → ℕ
key parent at len = parent % 65536 + 65536 * (len % 65536) + 4294967296 * (at % 65536)

abbrev pub block_in : List ℕ → ℕ → Block
block_in text k = block_of (k % 65536) (part text (k / 4294967296) (k / 65536 % 65536))

-- the first n blocks that the memory has, the last first
unfoldable pub opened_in : List ℕ → List ℕ → ℕ → List Block
opened_in text keys zero = []
opened_in text keys (suc n) = block_in text (get_or keys n 0) ∷ opened_in text keys n

-- the block around and the name are these
abbrev pub is_block : ℕ → Name → Block → Bool
is_block p w b = eqb b.parent p && same w b.name

unfoldable pub is_opened : ℕ → Name → List Block → Bool
is_opened p w bs = any (is_block p w) bs

-- ---- the filter of the blocks: a block without its marks was not opened

-- the filter covers blocks: inside each block around, it has the marks of each name among them
pub record CoversBlocks (filter : List ℕ) (bs : List Block) : Type 0 where
  pub inside : (p : ℕ) → Covers filter p (λ (w : Name). is_opened p w bs)

-- the marks of a hash are put in, and the answer is whether they were there before
pub record Marks (filter filterAfter : List ℕ) (h : ℕ) (r : Bool) : Type 0 where
  pub answers : 0 < length filter → r ≡ is_marked filter h
  pub marks : 0 < length filter → filterAfter ≡ marked filter h
  pub long : length filterAfter ≡ length filter

-- a block is asked for, and marked
pub record Asks (filter filterAfter : List ℕ) (bs : List Block) (parent : ℕ) (w : Name) (r : Bool) : Type 0 where
  pub answers : CoversBlocks filter bs → r ≡ is_opened parent w bs
  pub covers : CoversBlocks filter bs → CoversBlocks filterAfter (block_of parent w ∷ bs)
  pub long : length filterAfter ≡ length filter

-- ---- one more

-- the parts of a key fit it
pub record Fits (parent at len : ℕ) : Type 0 where
  pub few : parent < 65536
  pub near : at < 65536
  pub short : len < 65536

-- a block is added where it is new, and then it is the last of those opened. What the filter covers after a no is free
pub record Adds (text before after filter filterAfter : List ℕ) (count parent at len : ℕ) (r : Bool) : Type 0 where
  pub answers : CoversBlocks filter (opened_in text before count) → count < length before
      → r ≡ not (is_opened parent (part text at len) (opened_in text before count))
  pub adds : r ≡ true → Fits parent at len → opened_in text after (count + 1) ≡ block_of parent (part text at len) ∷ opened_in text before count
  pub room : r ≡ true → count < length before
  pub stays : r ≡ false → after ≡ before
  pub long : length after ≡ length before
  pub covers : CoversBlocks filter (opened_in text before count) → r ≡ true → Fits parent at len
      → CoversBlocks filterAfter (opened_in text after (count + 1))
  pub filter-long : length filterAfter ≡ length filter
