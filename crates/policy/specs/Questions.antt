-- Document 01, "Questions", and document 02, W-205: the questions on an image, and on the bytes of a table. Assumes nothing.
use Rattle.std.specs.Prelude.{ℕ, ◌+◌, ◌-◌, ◌*◌, ◌/◌, Bool, ◌&&◌, cond, List, [], ◌∷◌, eqb, ltb, length, get_or, take}
use Rattle.std.proofs.Math.Option.{Option, none, some}
use Rattle.bitset.specs.Relations.{joined}
use Rattle.policy.specs.Statements.{Family, users, roles, types, source, target, process, thing_of, count, class_names, Relation, userrole, roletype, roleallow}
use Rattle.policy.specs.Meaning.{Context, Contexts}
use Rattle.policy.specs.Deciding.{Given, Reply, answered, refused, valid_reply, Question, contexts_of, Relabelling, relabel_contexts, refuses, Answer}
use Rattle.policy.specs.Deciding.{unconsulted, first_failing, ruled_by, ruled_relabel}
use Rattle.bitset.specs.Sets.{bit, member}
use Rattle.policy.specs.Rows.{Row, View, run, top}
use Rattle.policy.specs.Image.{Image, TransitionEntry, ConstraintEntry}
use Rattle.policy.specs.Encode.{NameEntry, entries, entry_bytes, bodies, first_body}
use Rattle.policy.specs.Sound.{image_in, edition_in, of_comp}

-- whether n is in set k of a list of sets
abbrev pub in_set : List (List ℕ) → ℕ → ℕ → Bool
in_set ss k n = member (get_or ss k []) n

-- the sets of a relation: of each user its roles, of each role its types, of each role the roles that it may become
abbrev pub given_sets : Image → Relation → List (List ℕ)
given_sets i userrole = i.user_roles
given_sets i roletype = i.role_types
given_sets i roleallow = i.role_roles

-- what an image gives: its names, and what is in its sets
abbrev pub given_in : Image → Given
given_in i = record { names = i.names; gives = λ k x y. in_set (given_sets i k) x y }

-- **Valid context**
unfoldable pub valid : Image → Context → Reply Bool
valid i c = valid_reply (given_in i) c

-- the number of a component: u1 u2 r1 r2 t1 t2 as 0 to 5; W-205: u3 r3 t3 as 6 to 8
abbrev pub side_of : Contexts → ℕ → ℕ
side_of on c = get_or ((on source).user ∷ (on target).user ∷ (on source).role ∷ (on target).role ∷ (on source).type ∷ (on target).type
    ∷ (on process).user ∷ (on process).role ∷ (on process).type ∷ []) c 0

-- the sets of a family's attributes
abbrev pub sets_in : Image → Family → List (List ℕ)
sets_in i users = i.user_sets
sets_in i roles = i.role_sets
sets_in i types = i.type_sets

abbrev pub view_of : Image → Contexts → View
view_of i on = record { side = side_of on; inset = λ c a n. in_set (sets_in i (of_comp c)) a n }

-- rows leave true on the stack
abbrev pub rows_hold : Image → Contexts → List Row → Bool
rows_hold i on rows = top (run (view_of i on) rows [])

-- a constraint names the class and permission; it holds
abbrev pub entry_names : ℕ → ℕ → ConstraintEntry → Bool
entry_names c k x = eqb x.class c && bit x.mask k

abbrev pub entry_holds : Image → Contexts → ConstraintEntry → Bool
entry_holds i on x = rows_hold i on x.rows

-- **Change**
unfoldable pub change : Image → Question → Answer
change i q = ruled_by (given_in i) q
    (first_failing 4 (entry_names q.class q.perm) (entry_holds i (contexts_of q)) 0 i.constraints)

-- W-205: the question of relabelling
unfoldable pub relabel : Image → Relabelling → Answer
relabel i q = ruled_relabel (given_in i) q
    (first_failing 6 (λ x. eqb x.class q.class) (λ x. rows_hold i (relabel_contexts q) x.rows) 0 i.relabels)

-- **New role**: "that of the first matching transition, else the role given"
abbrev pub matches : ℕ → ℕ → ℕ → TransitionEntry → Bool
matches r t c m = member m.roles r && member m.types t && eqb m.class c

unfoldable pub first_transition : ℕ → ℕ → ℕ → List TransitionEntry → ℕ
first_transition r t c [] = r
first_transition r t c (m ∷ ms) = cond (matches r t c m) m.new (first_transition r t c ms)

unfoldable pub new_role : Image → ℕ → ℕ → ℕ → Reply ℕ
new_role i r t c =
    cond (ltb r (count (thing_of roles) i.names) && ltb t (count (thing_of types) i.names) && ltb c (length (class_names i.names)))
    (answered (first_transition r t c i.transitions))
    (refused 12 0)

-- a part of the lent table: its first byte's place and its length
pub record Part : Type 0 where
  pub start : ℕ
  pub size : ℕ

-- **Name of** a sort and number, among entries of which the first starts at o; the name follows an entry's four bytes
unfoldable pub name_from : ℕ → ℕ → ℕ → List NameEntry → Reply Part
name_from s n o [] = refused 12 0
name_from s n o (e ∷ es) = cond (eqb e.sort s && eqb e.number n)
    (answered (record { start = o + 4; size = length e.name }))
    (name_from s n (o + length (entry_bytes e)) es)

-- on a table of the edition e
unfoldable pub name_of : ℕ → Image → ℕ → ℕ → Reply Part
name_of e i s n = name_from s n (first_body e) (entries i.names)

-- so many records of one width
pub record Records : Type 0 where
  pub number : ℕ
  pub width : ℕ

abbrev pub records_of : ℕ → ℕ → Records
records_of n w = record { number = n; width = w }

-- the records of the bodies from 2 on; W-205: "Entry serves all later bodies too"; "in body 8 userattributes come first, then roleattributes, then typeattributes"
abbrev pub records : Image → List (List Records)
records i =
    []
    ∷ []
    ∷ (records_of (length i.user_roles) 16 ∷ [])
    ∷ (records_of (length i.role_types) 64 ∷ [])
    ∷ (records_of (length i.role_roles) 16 ∷ [])
    ∷ (records_of (length i.transitions) 82 ∷ [])
    ∷ (records_of (length i.constraints) 10 ∷ [])
    ∷ (records_of (length (get_or (bodies i) 6 []) / 6) 6 ∷ [])
    ∷ (records_of (length i.user_sets) 16 ∷ records_of (length i.role_sets) 16 ∷ records_of (length i.type_sets) 64 ∷ [])
    ∷ (records_of (length i.relabels) 4 ∷ [])
    ∷ (records_of (length (get_or (bodies i) 9 []) / 6) 6 ∷ [])
    ∷ []

-- the record at a place among runs of which the first starts at o
unfoldable pub record_from : ℕ → ℕ → List Records → Reply Part
record_from k o [] = refused 12 0
record_from k o (r ∷ rs) = cond (ltb k r.number)
    (answered (record { start = o + k * r.width; size = r.width }))
    (record_from (k - r.number) (o + r.number * r.width) rs)

-- **Entry** of a body from 2 on and its place there, on a table of the edition e; "no such body or entry is 12". A body that the edition does not have
-- has no entry
unfoldable pub entry_of : ℕ → Image → ℕ → ℕ → Reply Part
entry_of e i b k = record_from k (first_body e + length (joined (take (b - 1) (bodies i)))) (get_or (records i) b [])

-- "Each tries 11, then 12": a question on the bytes of a table
abbrev pub asked : {A : Type 0} → (Image → Reply A) → Option Image → Reply A
asked f none = refused 11 0
asked f (some i) = f i

unfoldable pub valid_on : List ℕ → Context → Reply Bool
valid_on t c = asked (λ i. valid i c) (image_in t)

unfoldable pub new_role_on : List ℕ → ℕ → ℕ → ℕ → Reply ℕ
new_role_on t r y c = asked (λ i. new_role i r y c) (image_in t)

unfoldable pub name_on : List ℕ → ℕ → ℕ → Reply Part
name_on t s n = asked (λ i. name_of (edition_in t) i s n) (image_in t)

unfoldable pub entry_on : List ℕ → ℕ → ℕ → Reply Part
entry_on t b k = asked (λ i. entry_of (edition_in t) i b k) (image_in t)

abbrev pub decided : (Image → Answer) → Option Image → Answer
decided f none = unconsulted (refuses 11 0)
decided f (some i) = f i

unfoldable pub change_on : List ℕ → Question → Answer
change_on t q = decided (λ i. change i q) (image_in t)

unfoldable pub relabel_on : List ℕ → Relabelling → Answer
relabel_on t q = decided (λ i. relabel i q) (image_in t)
