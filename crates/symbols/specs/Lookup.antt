-- Finding an entry by its family and name, and by its sort and number. Assumes nothing.
use Rattle.std.specs.Prelude.{Bool, ◌&&◌, cond, List, [], ◌∷◌, ℕ, ◌+◌, ◌-◌, ◌/◌, eqb, ltb, Option, Some, None}
use Rattle.byte_slices.specs.declared.Span.{Span}
use Rattle.policy.specs.Basics.{Name, same}
use Rattle.policy.specs.Statements.{users, roles, types, thing_of, attribute_of}
use Rattle.policy.specs.Maxima.{max_of, max_classes}
use Rattle.policy.specs.Encode.{NameEntry}
use Rattle.policy.specs.Deciding.{Reply, answered, refused}
use Rattle.policy.specs.Questions.{Part}
use Rattle.symbols.specs.declared.Symbol.{Symbol}

-- "Four families of names: users with userattributes; roles with roleattributes; types with typeattributes; classes", and the permissions
-- of each class. Their numbers: users 0, roles 1, types 2, classes 3, permissions of class c 4 + c. The sorts 0 to 2 are things,
-- 3 to 5 their attributes, 6 is class, 7 permission (no other is in a sound table); a permission's number is "class x 32 + its place"
abbrev pub family_number : ℕ → ℕ → ℕ
family_number sort number = cond (ltb sort 3) sort (cond (ltb sort 6) (sort - 3) (cond (eqb sort 6) 3 (4 + number / 32)))

-- "Users 128, roles 128, types 512, attributes 64 per family, classes 32", by the sort's number
abbrev pub most_of : ℕ → ℕ
most_of sort =
    cond (eqb sort 0) (max_of (thing_of users))
    (cond (eqb sort 1) (max_of (thing_of roles))
    (cond (eqb sort 2) (max_of (thing_of types))
    (cond (ltb sort 6) (max_of (attribute_of users)) max_classes)))

-- an entry of the family f with the name w
abbrev pub is_named : ℕ → Name → NameEntry → Bool
is_named f w e = eqb (family_number e.sort e.number) f && same w e.name

-- the symbol of a sort and a number, where it is found
abbrev pub found_at : ℕ → ℕ → Option Symbol
found_at sort number = Some (record { sort = sort; number = number })

-- the first of them
unfoldable pub first_named : ℕ → Name → List NameEntry → Option Symbol
first_named f w [] = None
first_named f w (e ∷ es) = cond (is_named f w e) (found_at e.sort e.number) (first_named f w es)

-- "**Name of** a sort and number: the part of the lent table that holds the name", as policy's question answers it
abbrev pub reply_of : Option Span → Reply Part
reply_of (Some span) = answered (record { start = span.start; size = span.length })
reply_of None = refused 12 0

-- "Things are numbered from 0 in text order within their sort": how many entries have a sort
unfoldable pub count_sort : ℕ → List NameEntry → ℕ
count_sort s [] = 0
count_sort s (e ∷ es) = cond (eqb e.sort s) (1 + count_sort s es) (count_sort s es)
