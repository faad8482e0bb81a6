-- What the bytes of a table say of a question's parts, whatever the bytes are. On a sound table it is what the image says. Assumes nothing.
use Rattle.std.specs.Prelude.{ℕ, ◌+◌, ◌*◌, ◌/◌, Bool, true, false, ◌&&◌, ◌||◌, cond, List, [], ◌∷◌, ltb, drop, Option, Some, None}
use Rattle.bitset.specs.Sets.{member}
use Rattle.byte_slices.specs.Parts.{part}
use Rattle.policy.specs.Meaning.{Context}
use Rattle.policy.specs.Image.{TransitionEntry}
use Rattle.policy.specs.Sound.{transition_at}
use Rattle.policy.specs.Deciding.{Question, Relabelling}
use Rattle.policy.specs.declared.NameCounts.{NameCounts}
use Rattle.policy.specs.declared.Denial.{Denial}
use Rattle.table_reader.specs.Records.{records, start_in, length_in}
use Rattle.table_names.specs.declared.SpecialNumbers.{SpecialNumbers}
use Rattle.table_names.specs.TableNames.{permission_in, is_found_name, is_object_by}

-- "number not declared in the table": a context's numbers are declared
unfoldable pub declares_context : NameCounts → Context → Bool
declares_context n c = ltb c.user n.users && ltb c.role n.roles && ltb c.type n.types

-- those of two contexts are
unfoldable pub declares_contexts : NameCounts → Context → Context → Bool
declares_contexts n a b = declares_context n a && declares_context n b

-- a question's numbers are declared
unfoldable pub declares_question : List ℕ → NameCounts → Question → Bool
declares_question t n q =
    declares_contexts n q.source q.target && ltb q.class n.classes && is_found_name (permission_in t q.class q.perm)

-- those of a relabelling are
unfoldable pub declares_relabelling : NameCounts → Relabelling → Bool
declares_relabelling n q = declares_contexts n q.old q.new && declares_context n q.process && ltb q.class n.classes

-- set k of the sets of w bytes of a body, counted from 0, has the number n; no sound table has 65,536 sets in a body
unfoldable pub set_has : List ℕ → ℕ → ℕ → ℕ → ℕ → Bool
set_has t b w k n = cond (ltb k 65536) (member (part t (start_in t b + w * k) w) n) false

-- "the role is among the user's, the type among the role's"
unfoldable pub is_given_in : List ℕ → Context → Bool
is_given_in t c = set_has t 1 16 c.user c.role && set_has t 2 64 c.role c.type

-- or the "role is named `object_r`" (document 02, W-201)
unfoldable pub is_valid_by : List ℕ → Option SpecialNumbers → Context → Bool
is_valid_by t x c = is_given_in t c || is_object_by t x c.role

-- "1 source not valid; 2 target not valid", "1 old, 2 new": the denial of the first of two contexts that is not valid
abbrev pub context_denial : Bool → Bool → Option Denial
context_denial false b = Some Denial.SourceNotValid
context_denial true false = Some Denial.TargetNotValid
context_denial true true = None

abbrev pub context_denial_by : List ℕ → Option SpecialNumbers → Context → Context → Option Denial
context_denial_by t x a b = context_denial (is_valid_by t x a) (is_valid_by t x b)

-- the nine numbers of three contexts, u1 u2 r1 r2 t1 t2 u3 r3 t3
abbrev pub sides_of_three : Context → Context → Context → List ℕ
sides_of_three a b c = a.user ∷ b.user ∷ a.role ∷ b.role ∷ a.type ∷ b.type ∷ c.user ∷ c.role ∷ c.type ∷ []

-- "Transitions in text order: role set 16, type set 64, class 1, new role 1"
abbrev pub transitions_in : List ℕ → List TransitionEntry
transitions_in t = records 82 transition_at (length_in t 4 / 82) (drop (start_in t 4) t)
