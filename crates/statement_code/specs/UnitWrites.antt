-- Units written into the code from a place on. The code's memory is lent, so what is written there is said for the case that it has room. Assumes
-- nothing.
use Rattle.std.specs.Prelude.{◌≡◌, List, [], ◌∷◌, ℕ, ◌+◌, ◌≤◌, length, take}
use Rattle.byte_slices.specs.Parts.{put}

-- where there is room for the units they are from the place to on, nothing else is changed, and u is the place after them
pub record Wrote (before : List ℕ) (to : ℕ) (units after : List ℕ) (u : ℕ) : Type 0 where
  pub past : to + length units ≤ length before → u ≡ to + length units
  pub code : to + length units ≤ length before → after ≡ put before to units

-- room or not: the code is as long as it was, and as it was before the place to
pub record Keeps (before : List ℕ) (to : ℕ) (after : List ℕ) : Type 0 where
  pub long : length after ≡ length before
  pub front : take to after ≡ take to before

-- one unit is written
pub record Stored (before : List ℕ) (at unit : ℕ) (after : List ℕ) (u : ℕ) : Type 0 where
  pub wrote : Wrote before at (unit ∷ []) after u
  pub keeps : Keeps before at after
  pub ahead : at ≤ u
