-- Document 01, "Statements", and document 02, W-203: full names, and what a name stands for where it is used. Assumes nothing.
use Rattle.std.specs.Prelude.{ℕ, Bool, false, ◌&&◌, cond, List, [], ◌∷◌, ◌++◌, drop}
use Rattle.std.proofs.Math.Option.{Option, none, some}
use Rattle.lexer.specs.Class.{is}
use Rattle.lexer.specs.Spell.{bytes}
use Rattle.policy.specs.Basics.{Name, same, ◌>>=◌, or_else, given, index_of}
use Rattle.policy.specs.Statements.{Family, Sort, thing_of, attribute_of, Declaration, plain, class, Reference, thing, attribute, same_family, same_sort}
use Rattle.policy.specs.Statements.{family_of, class_names, permissions, count}

-- ---- W-203: full names. A path is the names of the blocks around a statement, the innermost first

-- "`(block b ...)` puts the names declared inside under `b.`": the full name of w in the blocks of a path
unfoldable pub full : List Name → Name → Name
full [] w = w
full (b ∷ path) w = full path b ++ bytes "." ++ w

-- in the innermost block, then outward, last at the whole-text level
unfoldable pub outward : List Name → Name → List Name
outward [] w = w ∷ []
outward (b ∷ path) w = full (b ∷ path) w ∷ outward path w

abbrev pub has_dot_in_front : Name → Bool
has_dot_in_front [] = false
has_dot_in_front (b ∷ w) = is "." b

-- "A leading dot means the whole-text level; any other use is tried in the innermost block, then outward": the full names that a use is tried as
unfoldable pub tries : List Name → Name → List Name
tries path w = cond (has_dot_in_front w) (drop 1 w ∷ []) (outward path w)

-- "the first hit of the family decides"
unfoldable pub first_hit : {A : Type 0} → (Name → Option A) → List Name → Option A
first_hit find [] = none
first_hit find (w ∷ ws) = or_else (find w) (first_hit find ws)

-- ---- what names stand for

-- what a name is declared as: a sort, and the number within it
pub record Named : Type 0 where
  pub sort : Sort
  pub number : ℕ

-- Names are looked up in an environment. It is functions and no list of declarations: what holds in every environment rests on what the names stand
-- for alone, and not on how that was found
pub record Environment : Type 0 where
  pub find : Family → Name → Option Named
  pub class : Name → Option ℕ
  pub permission : ℕ → Name → Option ℕ

-- the first of the family that has the name, whatever its sort; "Things are numbered from 0 in text order within their sort"
unfoldable pub first_from : List Declaration → List Declaration → Family → Name → Option Named
first_from earlier [] f w = none
first_from earlier (class v ps ∷ ds) f w = first_from (earlier ++ (class v ps ∷ [])) ds f w
first_from earlier (plain s v ∷ ds) f w =
    cond (same_family f (family_of s) && same w v) (some (record { sort = s; number = count s earlier })) (first_from (earlier ++ (plain s v ∷ [])) ds f w)

-- what the names stand for that are declared in ds, under their full names, where they are used in the blocks of a path: "A name must be declared earlier in
-- the text than its use". "Permissions take no block's name"
unfoldable pub environment_of : List Declaration → List Name → Environment
environment_of ds path = record {
  find = λ f w. first_hit (first_from [] ds f) (tries path w);
  class = λ w. first_hit (λ v. index_of v (class_names ds)) (tries path w);
  permission = λ c w. index_of w (permissions ds c);
}

-- "each place takes a thing or an attribute of the family"
abbrev pub reference_of : Named → Reference
reference_of d = elim d.sort [
  | thing_of f ↦ thing d.number
  | attribute_of f ↦ attribute d.number
]

unfoldable pub refer : Environment → Family → Name → Option Reference
refer env f w = env.find f w >>= λ d. some (reference_of d)

-- where a place takes one sort alone: none if the name is "of the wrong sort"
unfoldable pub number_in : Environment → Sort → Name → Option ℕ
number_in env s w = env.find (family_of s) w >>= λ d. given (same_sort s d.sort) d.number
