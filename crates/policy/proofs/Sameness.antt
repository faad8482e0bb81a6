-- The tests for the same family, sort and relation pass exactly for the same. By cases. Assumes nothing.
use mathlib.Core.Path.{◌≡◌, refl, ap}
use mathlib.Core.Bool.{true, false≢true}
use Rattle.policy.specs.Statements.{Family, users, roles, types, Sort, thing_of, attribute_of, same_family, same_sort, Relation, userrole, roletype, roleallow}
use Rattle.policy.specs.Meaning.{same_relation}

pub family-same : (f g : Family) → same_family f g ≡ true → f ≡ g
family-same users users h = refl
family-same users roles h = absurd (false≢true h)
family-same users types h = absurd (false≢true h)
family-same roles users h = absurd (false≢true h)
family-same roles roles h = refl
family-same roles types h = absurd (false≢true h)
family-same types users h = absurd (false≢true h)
family-same types roles h = absurd (false≢true h)
family-same types types h = refl

pub family-self : (f : Family) → same_family f f ≡ true
family-self users = refl
family-self roles = refl
family-self types = refl

family-turned : (f g : Family) → same_family f g ≡ same_family g f
family-turned users users = refl
family-turned users roles = refl
family-turned users types = refl
family-turned roles users = refl
family-turned roles roles = refl
family-turned roles types = refl
family-turned types users = refl
family-turned types roles = refl
family-turned types types = refl

pub sort-same : (s t : Sort) → same_sort s t ≡ true → s ≡ t
sort-same (thing_of f) (thing_of g) h = ap thing_of (family-same f g h)
sort-same (thing_of f) (attribute_of g) h = absurd (false≢true h)
sort-same (attribute_of f) (thing_of g) h = absurd (false≢true h)
sort-same (attribute_of f) (attribute_of g) h = ap attribute_of (family-same f g h)

pub sort-self : (s : Sort) → same_sort s s ≡ true
sort-self (thing_of f) = family-self f
sort-self (attribute_of f) = family-self f

pub sort-turned : (s t : Sort) → same_sort s t ≡ same_sort t s
sort-turned (thing_of f) (thing_of g) = family-turned f g
sort-turned (thing_of f) (attribute_of g) = refl
sort-turned (attribute_of f) (thing_of g) = refl
sort-turned (attribute_of f) (attribute_of g) = family-turned f g

pub relation-same : (k j : Relation) → same_relation k j ≡ true → k ≡ j
relation-same userrole userrole h = refl
relation-same userrole roletype h = absurd (false≢true h)
relation-same userrole roleallow h = absurd (false≢true h)
relation-same roletype userrole h = absurd (false≢true h)
relation-same roletype roletype h = refl
relation-same roletype roleallow h = absurd (false≢true h)
relation-same roleallow userrole h = absurd (false≢true h)
relation-same roleallow roletype h = absurd (false≢true h)
relation-same roleallow roleallow h = refl
