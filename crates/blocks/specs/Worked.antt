-- Reading 41 on blocks written out by hand. Assumes nothing.
use Rattle.std.specs.Prelude.{◌≡◌, refl, true, false, [], ◌∷◌}
use Rattle.lexer.specs.Spell.{bytes}
use Rattle.policy.specs.Basics.{same, any}
use Rattle.blocks.specs.Opened.{block_of, is_opened}

pub record Worked : Type 0 where
  -- (block a(block a)): good
  pub inside-itself : is_opened 1 (bytes "a") (block_of 0 (bytes "a") ∷ []) ≡ false
  -- (block a(block b))(block b): good
  pub elsewhere : is_opened 0 (bytes "b") (block_of 1 (bytes "b") ∷ block_of 0 (bytes "a") ∷ []) ≡ false
  -- (block b)(block b): 4
  pub twice : is_opened 0 (bytes "b") (block_of 0 (bytes "b") ∷ []) ≡ true
  -- (block a(block b)(block c)(block b)): 4
  pub twice-inside : is_opened 1 (bytes "b") (block_of 1 (bytes "c") ∷ block_of 1 (bytes "b") ∷ block_of 0 (bytes "a") ∷ []) ≡ true

pub worked : Worked
unfolding is_opened any same
worked = record { inside-itself = refl; elsewhere = refl; twice = refl; twice-inside = refl }
