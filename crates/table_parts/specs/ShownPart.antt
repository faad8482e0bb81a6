-- Document 01, "Questions": **Name of** is "the part of the lent table that holds the name; an empty part on refusal", **Entry** "the part of
-- the lent table that holds it; .. with an empty part". Assumes nothing.
use Rattle.std.specs.Prelude.{ℕ, List, []}
use Rattle.byte_slices.specs.Parts.{part}
use Rattle.policy.specs.Deciding.{Reply, answered, refused}
use Rattle.policy.specs.Questions.{Part}

-- "an empty part on refusal": it holds no bytes, and where it points is free
abbrev pub shown_part : Reply Part → List ℕ → List ℕ
shown_part (answered p) t = part t p.start p.size
shown_part (refused n k) t = []
