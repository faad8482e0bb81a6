-- The codes of sorts and components: each is its own, and within its bounds; and how many of a sort there may be. By cases. Assumes nothing.
use mathlib.Core.Path.{◌≡◌, refl, sym, ap, ◌∙◌}
use mathlib.Core.Option.{some, some-injective}
use Prim.Native.Nat.{◌≤◌, ◌<◌}
use native.Mathlib.Omega.{arith}
use Rattle.policy.specs.Statements.{Family, users, roles, types, Side, source, target, process, Sort, thing_of, attribute_of}
use Rattle.policy.specs.Maxima.{max_of}
use Rattle.policy.specs.Encode.{sort_code}
use Rattle.policy.specs.Rows.{comp_code}
use Rattle.policy.specs.Sound.{of_comp, sort_of}

-- things have the codes below 3, attributes the others below 6
pub thing-sort : (f : Family) → sort_code (thing_of f) < 3
thing-sort users = omega arith
thing-sort roles = omega arith
thing-sort types = omega arith

pub attribute-sort : (f : Family) → 3 ≤ sort_code (attribute_of f)
attribute-sort users = omega arith
attribute-sort roles = omega arith
attribute-sort types = omega arith

pub code_below : (s : Sort) → sort_code s < 6
code_below (thing_of users) = omega arith
code_below (thing_of roles) = omega arith
code_below (thing_of types) = omega arith
code_below (attribute_of users) = omega arith
code_below (attribute_of roles) = omega arith
code_below (attribute_of types) = omega arith

-- the code of a sort is its own
pub sort-back : (s : Sort) → sort_of (sort_code s) ≡ some s
sort-back (thing_of users) = refl
sort-back (thing_of roles) = refl
sort-back (thing_of types) = refl
sort-back (attribute_of users) = refl
sort-back (attribute_of roles) = refl
sort-back (attribute_of types) = refl

pub code-sort : (s t : Sort) → sort_code s ≡ sort_code t → s ≡ t
code-sort s t e = some-injective s t (sym (sort-back s) ∙ ap sort_of e ∙ sort-back t)

-- the code of a component tells its family
pub comp-family : (f : Family) (s : Side) → of_comp (comp_code f s) ≡ f
comp-family users source = refl
comp-family users target = refl
comp-family roles source = refl
comp-family roles target = refl
comp-family types source = refl
comp-family types target = refl
comp-family users process = refl
comp-family roles process = refl
comp-family types process = refl

-- "types 512", and of no other sort are there more
pub max-small : (s : Sort) → max_of s ≤ 512
max-small (thing_of users) = omega arith
max-small (thing_of roles) = omega arith
max-small (thing_of types) = omega arith
max-small (attribute_of f) = omega arith
