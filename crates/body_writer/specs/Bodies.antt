-- Document 01, "The table, contents first": the bodies 2 to 5 and 8 as they are written. What is written is said of the code and the final sets of a policy.
-- Assumes nothing.
use Rattle.std.specs.Prelude.{◌≡◌, List, ℕ, ◌+◌, ◌*◌, ◌≤◌, ◌<◌, length}
use Rattle.byte_slices.specs.Parts.{put}
use Rattle.bitset.specs.Relations.{joined}
use Rattle.policy.specs.Basics.{each}
use Rattle.policy.specs.Statements as statements
use Rattle.policy.specs.Statements.{Family, roles, types, from_of, to_of, Policy, transitions, Transition}
use Rattle.policy.specs.Meaning.{related, final}
use Rattle.policy.specs.Image as image
use Rattle.policy.specs.Image.{sets_of, transition_entry}
use Rattle.policy.specs.Encode.{transition_bytes}
use Rattle.policy.specs.Accepted.{Accepted}
use Rattle.policy.specs.Answers.{relation_of}
use Rattle.policy.specs.declared.Relation.{Relation}
use Rattle.statement_code.specs.Code.{code_of}
use Rattle.code_reader.specs.AttributeSets.{final_sets}
use Rattle.clashes.specs.Clashes.{Codes}
use Rattle.code_reader.specs.declared.CodedTransition.{CodedTransition}
use Rattle.body_writer.specs.WrittenBytes.{Appended}

-- "2. Roles of each user, 16 bytes each. 3. Types of each role, 64 each. 4. Roles each role may become, 16 each."
pub record WritesRelation (code : List ℕ) (relation : Relation) (fromSets toSets before : List ℕ) (at many width : ℕ) (after : List ℕ) : Type 0 where
  pub body : (p : Policy) (k : statements.Relation) → relation_of relation ≡ k → Accepted p → code ≡ code_of p
      → fromSets ≡ final_sets p (from_of k) → toSets ≡ final_sets p (to_of k) → many ≤ 128 → width ≡ image.width (to_of k)
      → at + many * width ≤ length before → after ≡ put before at (joined (sets_of many (to_of k) (related p k)))

-- "5. Transitions in text order: role set 16, type set 64, class 1, new role 1."
pub record WritesTransitions (code role_sets type_sets before : List ℕ) (at : ℕ) (after : List ℕ) : Type 0 where
  pub body : (p : Policy) → Accepted p → code ≡ code_of p → role_sets ≡ final_sets p roles → type_sets ≡ final_sets p types
      → at + 82 * length (transitions p) ≤ length before
      → after ≡ put before at (joined (each transition_bytes (each (transition_entry p) (transitions p))))

-- one of them, from its operands
pub record WritesTransition (m : CodedTransition) (role_sets type_sets before : List ℕ) (at : ℕ) (after : List ℕ) (r : ℕ) : Type 0 where
  pub entry : (p : Policy) (t : Transition) → Accepted p → Codes p t m → m.class < 256 → m.new < 256
      → role_sets ≡ final_sets p roles → type_sets ≡ final_sets p types → Appended (transition_bytes (transition_entry p t)) before at after r

-- "8. Sets of userattributes, roleattributes, typeattributes: 16, 16, 64 each."
pub record WritesSets (sets : List ℕ) (many width : ℕ) (before : List ℕ) (at : ℕ) (after : List ℕ) : Type 0 where
  pub body : (p : Policy) (f : Family) → sets ≡ final_sets p f → width ≡ image.width f → many ≤ 64
      → at + many * width ≤ length before → after ≡ put before at (joined (sets_of many f (final p f)))
