-- The first unit of S tells its form, the first unit of a statement its tag, and what is after it is the code of its parts: one step of a reader
-- that goes through the code from left to right. By cases. Assumes nothing.
use Prim.Native.Nat.{ℕ, ◌+◌, ◌-◌, ◌<◌, ◌≤◌}
use native.Mathlib.Omega.{arith}
use mathlib.Core.Path.{◌≡◌, refl, sym, ap, subst}
use mathlib.Core.List.{List, [], ◌∷◌, ◌++◌, append_assoc}
use lib.Dec.{eqb}
use borrow.Author.Tests.{lt-ltb, le-ltb, ne_eqb}
use Rattle.policy.specs.Statements.{Family, users, roles, types, Reference, thing, attribute, SetExpr, name_s, all_s, not_s, and_s, or_s, xor_s, union_s, empty_s}
use Rattle.policy.specs.Statements.{Relation, userrole, roletype, roleallow}
use Rattle.statement_code.specs.Code.{reference_unit, all_unit, not_unit, and_unit, or_unit, xor_unit, union_unit, end_unit, set_code, row_code, attribute_tag, set_tag}
use Rattle.statement_code.specs.Code.{relation_tag, transition_tag}
use Rattle.code_laws.specs.Shape.{IsRow, Rowed}
use Rattle.statement_code.specs.Numbered.{NumberedR, Numbered}
use Rattle.statement_code.proofs.Numbers.{family-few, relation-few, reference-below}
use Rattle.code_laws.specs.Kinds.{Readable, reference_of, name_k, kind_of, Two, PartsS, StartsS, PartsRow, StartsRow, attribute_t, set_t, relation_t, tag_of}
use Rattle.code_laws.specs.Coded.{Coded, attribute_at, set_at, relation_at, transition_at, coded_units, CodedReadable, PartsC, StartsC}

-- REFERENCES
pub reference-back : (r : Reference) → NumberedR r → reference_of (reference_unit r) ≡ r
reference-back (thing n) h = rw (lt-ltb n 1024 h)
reference-back (attribute a) h =
    let e : 1024 + a - 1024 ≡ a = omega arith in
    rw (le-ltb (1024 + a) 1024 (omega arith), e)

pub reference-kind : (r : Reference) → NumberedR r → kind_of (reference_unit r) ≡ name_k r
reference-kind r h = rw (lt-ltb (reference_unit r) 2048 (reference-below r h)) (ap name_k (reference-back r h))

-- S
-- small numbers, and rows
pub readable : (s : SetExpr Reference) → Numbered s → Rowed s → Readable s
readable (name_s r) h k = h
readable all_s h k = tt
readable (not_s x) h k = readable x h k
readable (and_s x y) h k = (readable x h.0 k.0, readable y h.1 k.1)
readable (or_s x y) h k = (readable x h.0 k.0, readable y h.1 k.1)
readable (xor_s x y) h k = (readable x h.0 k.0, readable y h.1 k.1)
readable (union_s x y) h k = (readable x h.0 k.0, k.1, readable y h.1 k.2)
readable empty_s h k = tt

-- the first unit
abbrev pub first_unit : SetExpr Reference → ℕ
first_unit (name_s r) = reference_unit r
first_unit all_s = all_unit
first_unit (not_s x) = not_unit
first_unit (and_s x y) = and_unit
first_unit (or_s x y) = or_unit
first_unit (xor_s x y) = xor_unit
first_unit (union_s x y) = union_unit
first_unit empty_s = union_unit

-- there is one
pub set_first : (s : SetExpr Reference) → (us : List ℕ) × (set_code s ≡ first_unit s ∷ us)
unfolding set_code
set_first (name_s r) = (_, refl)
set_first all_s = (_, refl)
set_first (not_s x) = (_, refl)
set_first (and_s x y) = (_, refl)
set_first (or_s x y) = (_, refl)
set_first (xor_s x y) = (_, refl)
set_first (union_s x y) = (_, refl)
set_first empty_s = (_, refl)

-- and it is not the end mark
pub first_below : (s : SetExpr Reference) → Readable s → first_unit s < end_unit
first_below (name_s r) h = omega (arith, reference-below r h)
first_below all_s h = omega arith
first_below (not_s x) h = omega arith
first_below (and_s x y) h = omega arith
first_below (or_s x y) h = omega arith
first_below (xor_s x y) h = omega arith
first_below (union_s x y) h = omega arith
first_below empty_s h = omega arith

-- what S is, by its first unit
two : (op : SetExpr Reference → SetExpr Reference → SetExpr Reference) (x y : SetExpr Reference) (rest : List ℕ) → Readable x × Readable y
    → Two op (op x y) ((set_code x ++ (set_code y ++ (end_unit ∷ []))) ++ rest) rest
two op x y rest h = record { left = x; right = y; is = refl; readable = h; units = simp append_assoc }

pub set-starts : (s : SetExpr Reference) → Readable s → (rest : List ℕ) → StartsS s rest (set_code s ++ rest)
unfolding set_code
set-starts (name_s r) h rest = rw (reference-kind r h) (refl, refl)
set-starts all_s h rest = (refl, refl)
set-starts (not_s x) h rest = record { operand = x; is = refl; readable = h; units = simp append_assoc }
set-starts (and_s x y) h rest = two and_s x y rest h
set-starts (or_s x y) h rest = two or_s x y rest h
set-starts (xor_s x y) h rest = two xor_s x y rest h
set-starts (union_s x y) h rest = (tt, refl)
set-starts empty_s h rest = (tt, refl)

-- for a reader that has the first unit u and those after it
pub set-parts : (s : SetExpr Reference) (u : ℕ) (us rest : List ℕ) → Readable s → u ∷ us ≡ set_code s ++ rest → PartsS (kind_of u) s us rest
set-parts s u us rest h e = subst (StartsS s rest) (sym e) (set-starts s h rest)

-- no S starts with the end mark
pub never-end : (s : SetExpr Reference) (us rest : List ℕ) → Readable s → end_unit ∷ us ≡ set_code s ++ rest → ⊥
never-end s us rest h e = set-parts s end_unit us rest h e

-- what a row of operands is, by its first unit
row_union : (x y : SetExpr Reference) (rest : List ℕ) → Readable x × IsRow y × Readable y → StartsRow (union_s x y) rest ((set_code x ++ row_code y) ++ rest)
row_union x y rest h =
    let us = (set_first x).0 in
    let e = (set_first x).1 in
    let same : set_code x ++ (row_code y ++ rest) ≡ first_unit x ∷ ((us ++ row_code y) ++ rest) = rw (e, append_assoc us (row_code y) rest) in
    rw (append_assoc (set_code x) (row_code y) rest, same, ne_eqb (first_unit x) end_unit (λ k. omega (arith, first_below x h.0)))
    (record { first = x; others = y; is = refl; readable = h; units = sym same })

pub row-starts : (y : SetExpr Reference) → IsRow y → Readable y → (rest : List ℕ) → StartsRow y rest (row_code y ++ rest)
unfolding set_code
row-starts (name_s r) w h rest = absurd w
row-starts all_s w h rest = absurd w
row-starts (not_s x) w h rest = absurd w
row-starts (and_s x y) w h rest = absurd w
row-starts (or_s x y) w h rest = absurd w
row-starts (xor_s x y) w h rest = absurd w
row-starts (union_s x y) w h rest = row_union x y rest h
row-starts empty_s w h rest = (refl, refl)

pub row-parts : (y : SetExpr Reference) (u : ℕ) (us rest : List ℕ) → IsRow y → Readable y → u ∷ us ≡ row_code y ++ rest → PartsRow (eqb u end_unit) y u us rest
row-parts y u us rest w h e = subst (StartsRow y rest) (sym e) (row-starts y w h rest)

-- STATEMENTS
-- a tag is from 4096 to 4105
abbrev pub first_tag : Coded → ℕ
first_tag (attribute_at f at) = attribute_tag f
first_tag (set_at f at a s) = set_tag f
first_tag (relation_at k at x y) = relation_tag k
first_tag (transition_at at r t c n) = transition_tag

pub coded-first : (c : Coded) → (us : List ℕ) × (coded_units c ≡ first_tag c ∷ us)
coded-first (attribute_at f at) = (_, refl)
coded-first (set_at f at a s) = (_, refl)
coded-first (relation_at k at x y) = (_, refl)
coded-first (transition_at at r t c n) = (_, refl)

pub tag-range : (c : Coded) → (4096 ≤ first_tag c) × (first_tag c ≤ 4105)
tag-range (attribute_at f at) = (omega arith, omega (arith, family-few f))
tag-range (set_at f at a s) = (omega arith, omega (arith, family-few f))
tag-range (relation_at k at x y) = (omega arith, omega (arith, relation-few k))
tag-range (transition_at at r t c n) = (omega arith, omega arith)

-- what a tag says
pub attribute-tag : (f : Family) → tag_of (attribute_tag f) ≡ attribute_t f
attribute-tag users = refl
attribute-tag roles = refl
attribute-tag types = refl

pub set-tag : (f : Family) → tag_of (set_tag f) ≡ set_t f
set-tag users = refl
set-tag roles = refl
set-tag types = refl

pub relation-tag : (k : Relation) → tag_of (relation_tag k) ≡ relation_t k
relation-tag userrole = refl
relation-tag roletype = refl
relation-tag roleallow = refl

-- what the statement is, by its tag
pub coded-starts : (c : Coded) → CodedReadable c → (rest : List ℕ) → StartsC c rest (coded_units c ++ rest)
coded-starts (attribute_at f at) h rest = rw (attribute-tag f) (record { place = at; is = refl; units = refl })
coded-starts (set_at f at a s) h rest = rw (set-tag f) (record { place = at; to = a; set = s; is = refl; readable = h; units = refl })
coded-starts (relation_at k at x y) h rest = rw (relation-tag k) (record { place = at; from = x; to = y; is = refl; readable = h; units = refl })
coded-starts (transition_at at r t c n) h rest = record { place = at; role = r; type = t; class = c; new = n; is = refl; readable = h; units = refl }

pub coded-parts : (c : Coded) (u : ℕ) (us rest : List ℕ) → CodedReadable c → u ∷ us ≡ coded_units c ++ rest → PartsC (tag_of u) c us rest
coded-parts c u us rest h e = subst (StartsC c rest) (sym e) (coded-starts c h rest)
