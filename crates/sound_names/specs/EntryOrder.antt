-- Section 1 entry by entry: what is declared so far, and which entries may follow. Assumes nothing.
use Rattle.std.specs.Prelude.{Bool, true, false, not, ◌&&◌, List, [], ◌∷◌, ◌++◌, ℕ, ◌+◌, ◌*◌, eqb, ltb, length, get_or}
use Rattle.std.proofs.Math.Option.{Option, some}
use Rattle.policy.specs.Basics.{Name, is_in, ◌>>=◌, given}
use Rattle.policy.specs.Statements.{users, roles, types, Sort, thing_of, attribute_of, Declaration, plain, class, family_of, count, class_names, family_names}
use Rattle.policy.specs.Maxima.{max_of, max_classes, max_permissions}
use Rattle.policy.specs.Encode.{NameEntry}
use Rattle.policy.specs.Sound.{is_good, is_good_part}

-- "sort in 1 byte (0 user, 1 role, 2 type, 3 to 5 their attributes, 6 class, 7 permission)"
pub data Kind : Type 0 where
  of_thing : Sort → Kind
  of_class of_permission of_nothing : Kind

abbrev pub kind_of : ℕ → Kind
kind_of n = get_or (
    of_thing (thing_of users)
    ∷ of_thing (thing_of roles)
    ∷ of_thing (thing_of types)
    ∷ of_thing (attribute_of users)
    ∷ of_thing (attribute_of roles)
    ∷ of_thing (attribute_of types)
    ∷ of_class
    ∷ of_permission
    ∷ []) n of_nothing

-- what the entries so far declare: declarations; or declarations and then a class, to which more permissions may be added
pub data Declaring : Type 0 where
  complete : List Declaration → Declaring
  opened : List Declaration → Name → List Name → Declaring

abbrev pub declared : Declaring → List Declaration
declared (complete ds) = ds
declared (opened ds v ps) = ds ++ (class v ps ∷ [])

-- "each class is followed by at least one permission"
abbrev pub closes : Declaring → Bool
closes (complete ds) = true
closes (opened ds v []) = false
closes (opened ds v (p ∷ ps)) = true

-- "numbers in each sort (places in each class) rise from 0", below the maxima; "permissions directly after their class"
abbrev pub is_placed : Kind → Declaring → ℕ → Bool
is_placed (of_thing s) d n = closes d && (eqb n (count s (declared d)) && ltb n (max_of s))
is_placed of_class d n = closes d && (eqb n (length (class_names (declared d))) && ltb n max_classes)
is_placed of_permission (complete ds) n = false
is_placed of_permission (opened ds v ps) n = ltb (length ps) max_permissions && eqb n (length (class_names ds) * 32 + length ps)
is_placed of_nothing d n = false

-- "names are good, not reserved"; W-203: "at most .. nine parts, a permission's one"
abbrev pub is_good_for : Kind → Name → Bool
is_good_for (of_thing s) w = is_good w
is_good_for of_class w = is_good w
is_good_for of_permission w = is_good_part w
is_good_for of_nothing w = is_good w

-- "unique in their families", "its permissions differ"
abbrev pub is_unused : Kind → Declaring → Name → Bool
is_unused (of_thing s) d w = not (is_in w (family_names (family_of s) (declared d)))
is_unused of_class d w = not (is_in w (class_names (declared d)))
is_unused of_permission (complete ds) w = true
is_unused of_permission (opened ds v ps) w = not (is_in w ps)
is_unused of_nothing d w = true

abbrev pub extended : Kind → Declaring → Name → Declaring
extended (of_thing s) d w = complete (declared d ++ (plain s w ∷ []))
extended of_class d w = opened (declared d) w []
extended of_permission (complete ds) w = complete ds
extended of_permission (opened ds v ps) w = opened ds v (ps ++ (w ∷ []))
extended of_nothing d w = d

-- an entry may follow; what is declared with it
unfoldable pub may_follow : Declaring → NameEntry → Bool
may_follow d e = is_placed (kind_of e.sort) d e.number && (is_good_for (kind_of e.sort) e.name && is_unused (kind_of e.sort) d e.name)

abbrev pub after_entry : Declaring → NameEntry → Option Declaring
after_entry d e = given (may_follow d e) (extended (kind_of e.sort) d e.name)

unfoldable pub declaring : Declaring → List NameEntry → Option Declaring
declaring d [] = some d
declaring d (e ∷ es) = after_entry d e >>= λ d. declaring d es

-- no class is left without a permission
abbrev pub finished : Declaring → Option (List Declaration)
finished d = given (closes d) (declared d)

abbrev pub declares : List NameEntry → Option (List Declaration)
declares es = declaring (complete []) es >>= finished
