-- Document 01: "A table is **sound** when ..", and document 02, W-205: the image that a table holds, if it is sound. Assumes nothing.
use Rattle.std.specs.Prelude.{ℕ, zero, suc, ◌+◌, ◌*◌, ◌/◌, ◌^◌, Bool, true, false, not, ◌&&◌, ◌||◌, cond, List, [], ◌∷◌, ◌++◌, eqb, leb, ltb, length, get_or, take, drop}
use Rattle.std.proofs.Math.Option.{Option, none, some}
use Rattle.std.proofs.Math.ListN.{get_elem?}
use Rattle.bitset.specs.Relations.{joined}
use Rattle.policy.specs.Basics.{Name, ◌>>=◌, given, more, each, each_of, every, unle}
use Rattle.lexer.specs.Class.{max_name, is_part, parts, has_good_parts}
use Rattle.policy.specs.Words.{is_reserved}
use Rattle.policy.specs.Statements.{Family, users, roles, types, Sort, thing_of, attribute_of, Declaration, plain, class, count, class_names, permissions}
use Rattle.policy.specs.Maxima.{max_transitions, max_constraints, max_rows, max_relabels, max_relabel_rows, max_parts}
use Rattle.policy.specs.Reading.{is_new, has_room}
use Rattle.bitset.specs.Sets.{within}
use Rattle.policy.specs.Rows.{Row, row, balanced}
use Rattle.policy.specs.Image.{Image, TransitionEntry, ConstraintEntry, RelabelEntry, width}
use Rattle.policy.specs.Encode.{NameEntry, name_entry, entries, ConstraintRecord, RelabelRecord, sections_of, first_body}

-- WELL FORMED: what must hold of an image besides its layout

-- "names are good, not reserved"; W-203: "Tables, sound ones included, hold the full dotted name without leading dot, at most 64 bytes and nine parts"
abbrev pub is_good : Name → Bool
is_good w = has_good_parts w && leb (length w) max_name && leb (length (parts w)) max_parts && not (is_reserved w)

-- "a permission's one"
abbrev pub is_good_part : Name → Bool
is_good_part w = is_part w && leb (length w) max_name && not (is_reserved w)

abbrev pub good_permissions : List Name → Bool
good_permissions [] = false
good_permissions (w ∷ ws) = every is_good_part (w ∷ ws)

abbrev pub good_names : Declaration → Bool
good_names (plain s w) = is_good w
good_names (class w ps) = is_good w && good_permissions ps

-- "unique in their families", "its permissions differ", "counts agree with .. the maxima"
unfoldable pub good_from : List Declaration → List Declaration → Bool
good_from earlier [] = true
good_from earlier (d ∷ ds) = good_names d && is_new earlier d && has_room earlier d && good_from (earlier ++ (d ∷ [])) ds

-- so many sets of a family, of its width, and "no bit .. names something undeclared"
abbrev pub good_set : List Declaration → Family → List ℕ → Bool
good_set ds f s = eqb (length s) (width f) && within (count (thing_of f) ds) s

abbrev pub good_sets : List Declaration → ℕ → Family → List (List ℕ) → Bool
good_sets ds n f ss = eqb (length ss) n && every (good_set ds f) ss

abbrev pub good_transition : List Declaration → TransitionEntry → Bool
good_transition ds m =
    good_set ds roles m.roles && good_set ds types m.types
    && ltb m.class (length (class_names ds)) && ltb m.new (count (thing_of roles) ds)

-- the family of a component: u1 u2 r1 r2 t1 t2 as 0 to 5, u3 r3 t3 as 6 to 8
abbrev pub of_comp : ℕ → Family
of_comp c = cond (ltb c 2) users (cond (ltb c 4) roles (cond (ltb c 6) types (cond (ltb c 7) users (cond (ltb c 8) roles types))))

-- "operators are those the forms above allow (kinds 4 and 5 only eq and neq, and so for u and t)", "Unused fields are 0"
-- components are those below n: a constrain's six; W-205: "u3, r3, t3 as 6, 7, 8, legal only here"
abbrev pub good_row : ℕ → List Declaration → Row → Bool
good_row n ds r =
    cond (ltb r.kind 3) (eqb r.comp 0 && eqb r.op 0 && eqb r.num 0)
    (cond (eqb r.kind 3)
    ((eqb r.comp 0 || eqb r.comp 4) && ltb r.op 2 && eqb r.num 0 || eqb r.comp 2 && ltb r.op 5 && eqb r.num 0)
    (cond (eqb r.kind 4) (ltb r.comp n && ltb r.op 2 && ltb r.num (count (thing_of (of_comp r.comp)) ds))
    (cond (eqb r.kind 5) (ltb r.comp n && ltb r.op 2 && ltb r.num (count (attribute_of (of_comp r.comp)) ds))
    false)))

-- "masks are not 0"; "each constraint's rows, at least one, leave .." (no rows leave 0, and not 1)
abbrev pub good_constraint : List Declaration → ConstraintEntry → Bool
good_constraint ds c =
    ltb c.class (length (class_names ds)) && ltb 0 c.mask && ltb c.mask (2 ^ length (permissions ds c.class))
    && every (good_row 6 ds) c.rows && balanced c.rows 0

-- W-205: "sound as 6 and 7 are"
abbrev pub good_relabel : List Declaration → RelabelEntry → Bool
good_relabel ds c = ltb c.class (length (class_names ds)) && every (good_row 9 ds) c.rows && balanced c.rows 0

unfoldable pub well_formed : Image → Bool
well_formed i =
    let ds = i.names in
    good_from [] ds
    && good_sets ds (count (thing_of users) ds) roles i.user_roles
    && good_sets ds (count (thing_of roles) ds) types i.role_types
    && good_sets ds (count (thing_of roles) ds) roles i.role_roles
    && (leb (length i.transitions) max_transitions && every (good_transition ds) i.transitions)
    && (leb (length i.constraints) max_constraints && every (good_constraint ds) i.constraints)
    && leb (length (joined (each (λ c. c.rows) i.constraints))) max_rows
    && good_sets ds (count (attribute_of users) ds) users i.user_sets
    && good_sets ds (count (attribute_of roles) ds) roles i.role_sets
    && good_sets ds (count (attribute_of types) ds) types i.type_sets
    && (leb (length i.relabels) max_relabels && every (good_relabel ds) i.relabels)
    && leb (length (joined (each (λ c. c.rows) i.relabels))) max_relabel_rows

-- LAYOUT: "holds exactly"

-- the lengths of k bodies, if each offset is where the body before ends, the first being o
unfoldable pub body_lengths : ℕ → ℕ → List ℕ → Option (List ℕ)
body_lengths zero o t = some []
body_lengths (suc k) o t = cond (eqb (unle (take 4 t)) o)
    (more (some (unle (take 4 (drop 4 t)))) (body_lengths k (o + unle (take 4 (drop 4 t))) (drop 8 t)))
    none

-- the bytes cut into parts of these lengths, if there are enough. "Bytes after the last body are not read"
unfoldable pub split_bodies : List ℕ → List ℕ → Option (List (List ℕ))
split_bodies [] t = some []
split_bodies (n ∷ ns) t = cond (leb n (length t)) (more (some (take n t)) (split_bodies ns (drop n t))) none

-- "Bytes 0-1: edition"
abbrev pub edition_in : List ℕ → ℕ
edition_in t = unle (take 2 t)

-- an edition that there is, and as many sections as its tables have: "Bytes 2-3 say how many sections there are"
abbrev pub has_header : ℕ → List ℕ → Bool
has_header e t = ltb 0 (sections_of e) && leb (first_body e) (length t) && eqb (unle (take 2 (drop 2 t))) (sections_of e)

unfoldable pub bodies_in : List ℕ → Option (List (List ℕ))
bodies_in t =
    let e = edition_in t in
    cond (has_header e t) (body_lengths (sections_of e) (first_body e) (drop 4 t)) none >>= λ ns. split_bodies ns (drop (first_body e) t)

-- n parts of w bytes, one after the other
unfoldable pub pieces : ℕ → ℕ → List ℕ → List (List ℕ)
pieces zero w t = []
pieces (suc n) w t = take w t ∷ pieces n w (drop w t)

-- exactly n parts of w bytes; as many as there are
abbrev pub exactly : ℕ → ℕ → List ℕ → Option (List (List ℕ))
exactly n w t = given (eqb (length t) (n * w)) (pieces n w t)

-- the entries of body 1; k is at least the number of entries
unfoldable pub entries_in : ℕ → List ℕ → Option (List NameEntry)
entries_in zero [] = some []
entries_in zero (s ∷ t) = none
entries_in (suc k) [] = some []
entries_in (suc k) (s ∷ []) = none
entries_in (suc k) (s ∷ a ∷ []) = none
entries_in (suc k) (s ∷ a ∷ b ∷ []) = none
entries_in (suc k) (s ∷ a ∷ b ∷ n ∷ t) = cond (leb n (length t))
    (more (some (name_entry s (a + 256 * b) (take n t))) (entries_in k (drop n t)))
    none

-- permissions that wait for their class, and the declarations after them
pub record Grouped : Type 0 where
  pub waiting : List Name
  pub done : List Declaration

abbrev pub sort_of : ℕ → Option Sort
sort_of n = get_elem? (thing_of users ∷ thing_of roles ∷ thing_of types ∷ attribute_of users ∷ attribute_of roles ∷ attribute_of types ∷ []) n

-- an entry before what follows it: a thing or an attribute; a class, whose permissions follow it; a permission
abbrev pub grouping : NameEntry → Grouped → Option Grouped
grouping e g =
    cond (eqb e.sort 7) (some (record { waiting = e.name ∷ g.waiting; done = g.done }))
    (elim g.waiting [
      | [] ↦ sort_of e.sort >>= λ s. some (record { waiting = []; done = plain s e.name ∷ g.done })
      | p ∷ ps ↦ given (eqb e.sort 6) (record { waiting = []; done = class e.name (p ∷ ps) ∷ g.done })
    ])

unfoldable pub group : List NameEntry → Option Grouped
group [] = some (record { waiting = []; done = [] })
group (e ∷ es) = group es >>= grouping e

abbrev pub none_waits : Grouped → Option (List Declaration)
none_waits g = elim g.waiting [ [] ↦ some g.done | p ∷ ps ↦ none ]

-- "numbers in each sort (places in each class) rise from 0": they are the numbers that `entries` gives
unfoldable pub same_numbers : List NameEntry → List NameEntry → Bool
same_numbers [] [] = true
same_numbers [] (e ∷ es) = false
same_numbers (d ∷ ds) [] = false
same_numbers (d ∷ ds) (e ∷ es) = eqb d.number e.number && same_numbers ds es

unfoldable pub names_at : List ℕ → Option (List Declaration)
names_at t = entries_in (length t) t >>= λ es. group es >>= none_waits >>= λ ds. given (same_numbers es (entries ds)) ds

abbrev pub transition_at : List ℕ → TransitionEntry
transition_at t = record { roles = take 16 t; types = take 64 (drop 16 t); class = get_or (drop 80 t) 0 0; new = get_or (drop 81 t) 0 0 }

-- the fourth byte of a row is 0
abbrev pub row_at : List ℕ → Option Row
row_at t = given (eqb (get_or t 3 0) 0) (row (get_or t 0 0) (get_or t 1 0) (get_or t 2 0) (unle (take 2 (drop 4 t))))

abbrev pub constraint_at : List ℕ → ConstraintRecord
constraint_at t = record {
  class = unle (take 2 t);
  mask = unle (take 4 (drop 2 t));
  first = unle (take 2 (drop 6 t));
  rows = unle (take 2 (drop 8 t));
}

-- "constraints take up the rows in order with none left", from row r on
unfoldable pub assign_rows : ℕ → List ConstraintRecord → List Row → Option (List ConstraintEntry)
assign_rows r [] [] = some []
assign_rows r [] (x ∷ xs) = none
assign_rows r (h ∷ hs) rs = cond (eqb h.first r && leb h.rows (length rs))
    (more (some (record { class = h.class; mask = h.mask; rows = take h.rows rs })) (assign_rows (r + h.rows) hs (drop h.rows rs)))
    none

-- W-205: a record of body 9
abbrev pub relabel_at : List ℕ → RelabelRecord
relabel_at t = record { class = unle (take 2 t); rows = unle (take 2 (drop 2 t)) }

-- the statements of body 9 take up the rows of body 10 in order with none left
unfoldable pub assign_relabels : List RelabelRecord → List Row → Option (List RelabelEntry)
assign_relabels [] [] = some []
assign_relabels [] (x ∷ xs) = none
assign_relabels (h ∷ hs) rs = cond (leb h.rows (length rs))
    (more (some (record { class = h.class; rows = take h.rows rs })) (assign_relabels hs (drop h.rows rs)))
    none

-- the image of the bodies; one that the edition does not have is empty: "Readers take edition 1 as having none"
abbrev pub image_from : List (List ℕ) → Option Image
image_from bs =
    names_at (get_or bs 0 []) >>= λ ds.
    exactly (count (thing_of users) ds) 16 (get_or bs 1 []) >>= λ ur.
    exactly (count (thing_of roles) ds) 64 (get_or bs 2 []) >>= λ rt.
    exactly (count (thing_of roles) ds) 16 (get_or bs 3 []) >>= λ rr.
    exactly (length (get_or bs 4 []) / 82) 82 (get_or bs 4 []) >>= λ ms.
    exactly (length (get_or bs 5 []) / 10) 10 (get_or bs 5 []) >>= λ hs.
    exactly (length (get_or bs 6 []) / 6) 6 (get_or bs 6 []) >>= λ rs.
    each_of row_at rs >>= λ rs.
    assign_rows 0 (each constraint_at hs) rs >>= λ cs.
    let ua = 16 * count (attribute_of users) ds in
    let ra = 16 * count (attribute_of roles) ds in
    exactly (count (attribute_of users) ds) 16 (take ua (get_or bs 7 [])) >>= λ us.
    exactly (count (attribute_of roles) ds) 16 (take ra (drop ua (get_or bs 7 []))) >>= λ rss.
    exactly (count (attribute_of types) ds) 64 (drop ra (drop ua (get_or bs 7 []))) >>= λ ts.
    exactly (length (get_or bs 8 []) / 4) 4 (get_or bs 8 []) >>= λ vs.
    exactly (length (get_or bs 9 []) / 6) 6 (get_or bs 9 []) >>= λ ws.
    each_of row_at ws >>= λ ws.
    assign_relabels (each relabel_at vs) ws >>= λ vs.
    some (record {
      names = ds;
      user_roles = ur;
      role_types = rt;
      role_roles = rr;
      transitions = each transition_at ms;
      constraints = cs;
      user_sets = us;
      role_sets = rss;
      type_sets = ts;
      relabels = vs;
    })

-- the image that a table holds; none where it is not sound
unfoldable pub image_in : List ℕ → Option Image
image_in t = bodies_in t >>= λ bs. image_from bs >>= λ i. given (well_formed i) i
