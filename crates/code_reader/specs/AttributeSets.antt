-- The sets of a family's attributes, one after the other, 64 bytes for each of 64. Document 01: "An attribute always stands for its final set".
-- Assumes nothing.
use Rattle.std.specs.Prelude.{ℕ, ◌*◌, List}
use Rattle.bitset.specs.Sets.{union_of}
use Rattle.byte_slices.specs.Parts.{part, put}
use Rattle.bitset.specs.Relations.{relation}
use Rattle.policy.specs.Statements.{Family, Policy}
use Rattle.policy.specs.Meaning.{final}

-- a set is added to the set of attribute a
abbrev pub added : List ℕ → ℕ → List ℕ → List ℕ
added rows a set = put rows (64 * a) (union_of (part rows (64 * a) 64) set)

-- the final sets of a family's attributes
abbrev pub final_sets : Policy → Family → List ℕ
final_sets p f = relation 64 64 (final p f)
