-- Document 02, W-203: the statements and blocks of a text, each with the blocks around it. Assumes nothing.
use Rattle.std.specs.Prelude.{ℕ, List, [], ◌∷◌, ◌++◌}
use Rattle.std.proofs.Math.Option.{Option, none, some}
use Rattle.lexer.specs.Forms.{Forms, closed, ended, word, part}
use Rattle.policy.specs.Basics.{Name, ◌>>=◌, gather}
use Rattle.policy.specs.Names.{full}
use Rattle.policy.specs.Grammar.{block_in}

-- a statement or a block: its place, the names of the blocks around it, the innermost first, and what its parentheses hold
pub record Scoped : Type 0 where
  pub place : ℕ
  pub path : List Name
  pub form : Forms

abbrev pub scoped : ℕ → List Name → Forms → Scoped
scoped at path f = record { place = at; path = path; form = f }

-- "A block is tried before the statements in it": the parts of a row in text order, and after each block that is of its form those in it. What is in a block of
-- no form is not read
unfoldable pub scoped_in : List Name → Forms → List Scoped
scoped_in path closed = []
scoped_in path ended = []
scoped_in path (word at w after) = scoped_in path after
scoped_in path (part at inner after) =
    scoped at path inner ∷ (elim (block_in inner) [ none ↦ [] | some b ↦ scoped_in (b ∷ path) inner ] ++ scoped_in path after)

-- the full name of a block
abbrev pub block_of : Scoped → Option Name
block_of x = block_in x.form >>= λ b. some (full x.path b)

-- the full names of the blocks among them
unfoldable pub blocks_in : List Scoped → List Name
blocks_in xs = gather block_of xs
