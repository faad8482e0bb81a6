-- Document 01, faults 8 and 9 of a policy that passed 1 to 7. Assumes nothing.
use Rattle.std.specs.Prelude.{ℕ, zero, suc, ◌+◌, Bool, true, false, not, ◌&&◌, ◌||◌, List, [], ◌∷◌, ◌++◌, eqb}
use Rattle.std.proofs.Math.Option.{Option, none, some}
use Rattle.bitset.specs.Sets.{meet}
use Rattle.bitset.specs.Relations.{joined}
use Rattle.policy.specs.Basics.{any, ◌>>=◌, gather, given, is_among, each, or_else}
use Rattle.policy.specs.Statements.{Family, users, roles, types, attribute_of, Declaration, plain, class, same_sort, Reference, thing, attribute, SetExpr}
use Rattle.policy.specs.Statements.{name_s, all_s, not_s, and_s, or_s, xor_s, union_s, empty_s, Line, as_declaration}
use Rattle.policy.specs.Statements.{Policy, count, declarations, sets_for, Transition, transitions}
use Rattle.policy.specs.Meaning.{stands, count_in}

-- the attributes that S mentions, by its text
abbrev pub mentions_r : Reference → List ℕ
mentions_r (thing n) = []
mentions_r (attribute a) = a ∷ []

unfoldable pub mentions_s : SetExpr Reference → List ℕ
mentions_s (name_s r) = mentions_r r
mentions_s all_s = []
mentions_s (not_s x) = mentions_s x
mentions_s (and_s x y) = mentions_s x ++ mentions_s y
mentions_s (or_s x y) = mentions_s x ++ mentions_s y
mentions_s (xor_s x y) = mentions_s x ++ mentions_s y
mentions_s (union_s x y) = mentions_s x ++ mentions_s y
mentions_s empty_s = []

-- the attributes that the sets of attribute a mention
unfoldable pub mentions : Policy → Family → ℕ → List ℕ
mentions p f a = joined (each mentions_s (sets_for f a p))

-- how many attributes a family has
unfoldable pub attributes_in : Policy → Family → ℕ
attributes_in p f = count (attribute_of f) (declarations p)

-- the numbers below n
unfoldable pub below : ℕ → List ℕ
below zero = []
below (suc n) = n ∷ below n

-- these attributes and what they mention
unfoldable pub mentioned_by : Policy → Family → List ℕ → List ℕ
mentioned_by p f xs = gather (λ b. given (is_among b xs || any (λ a. is_among b (mentions p f a)) xs) b) (below (attributes_in p f))

unfoldable pub reach : ℕ → Policy → Family → List ℕ → List ℕ
reach zero p f xs = xs
reach (suc k) p f xs = reach k p f (mentioned_by p f xs)

-- "an attribute's sets mention it, directly or through others"
unfoldable pub on_cycle : Policy → Family → ℕ → Bool
on_cycle p f a = is_among a (reach (attributes_in p f) p f (mentions p f a))

-- the places of the declarations of a family's attributes
abbrev pub declares_a : Family → ℕ → Declaration → Option ℕ
declares_a f at (plain s w) = given (same_sort s (attribute_of f)) at
declares_a f at (class w ps) = none

abbrev pub place_of : Family → Line → Option ℕ
place_of f l = as_declaration l.says >>= declares_a f l.place

unfoldable pub places : Policy → Family → List ℕ
places p f = gather (place_of f) p

-- the first of the places, those of attributes a, a + 1, .., whose attribute is on a cycle: "the lowest-numbered attribute on a cycle"
unfoldable pub first_cycle : Policy → Family → ℕ → List ℕ → Option ℕ
first_cycle p f a [] = none
first_cycle p f a (at ∷ ats) = elim (on_cycle p f a) [ true ↦ some at | false ↦ first_cycle p f (a + 1) ats ]

abbrev pub family_cycle : Policy → Family → Option ℕ
family_cycle p f = first_cycle p f 0 (places p f)

-- FAULT 8: "users, then roles, then types"
unfoldable pub cycle : Policy → Option ℕ
cycle p = or_else (family_cycle p users) (or_else (family_cycle p roles) (family_cycle p types))

-- "two transitions share a role, a type and the class, new roles differ", by final sets
unfoldable pub clashes : Policy → Transition → Transition → Bool
clashes p a b =
    eqb a.class b.class && not (eqb a.new b.new)
    && meet (count_in p roles) (stands p roles a.role) (stands p roles b.role)
    && meet (count_in p types) (stands p types a.type) (stands p types b.type)

unfoldable pub first_clash : Policy → List Transition → List Transition → Option ℕ
first_clash p earlier [] = none
first_clash p earlier (t ∷ ts) = elim (any (clashes p t) earlier) [ true ↦ some t.place | false ↦ first_clash p (earlier ++ (t ∷ [])) ts ]

-- FAULT 9: "the first statement in the text that clashes with an earlier one"
unfoldable pub clash : Policy → Option ℕ
clash p = first_clash p [] (transitions p)
