-- What one statement of the code says: of an attribute's set, of an attribute's declaration, of the transitions, of a relation. Assumes nothing.
use Rattle.std.specs.Prelude.{ℕ, Bool, false, ◌&&◌, cond, eqb}
use Rattle.std.proofs.Math.Option.{Option, none, some}
use Rattle.policy.specs.Basics.{given}
use Rattle.policy.specs.Statements.{Family, Reference, SetExpr, Relation, from_of, to_of, Transition, same_family}
use Rattle.policy.specs.Meaning.{Denotation, same_relation}
use Rattle.code_laws.specs.Coded.{Coded, attribute_at, set_at, relation_at, transition_at}

-- the S that it gives to attribute a
abbrev pub coded_set : Family → ℕ → Coded → Option (SetExpr Reference)
coded_set f a (attribute_at g at) = none
coded_set f a (set_at g at b s) = cond (same_family f g && eqb a b) (some s) none
coded_set f a (relation_at k at x y) = none
coded_set f a (transition_at at r t c n) = none

-- the place where it declares an attribute of the family
abbrev pub coded_place : Family → Coded → Option ℕ
coded_place f (attribute_at g at) = given (same_family g f) at
coded_place f (set_at g at b s) = none
coded_place f (relation_at k at x y) = none
coded_place f (transition_at at r t c n) = none

-- the transition that it is
abbrev pub coded_transition : Coded → Option Transition
coded_transition (attribute_at g at) = none
coded_transition (set_at g at b s) = none
coded_transition (relation_at k at x y) = none
coded_transition (transition_at at r t c n) = some (record { place = at; role = r; type = t; class = c; new = n })

-- whether it gives y to x
abbrev pub coded_gives : Denotation → Relation → ℕ → ℕ → Coded → Bool
coded_gives for k x y (attribute_at g at) = false
coded_gives for k x y (set_at g at b s) = false
coded_gives for k x y (relation_at j at a b) = same_relation k j && (for (from_of k) a x && for (to_of k) b y)
coded_gives for k x y (transition_at at r t c n) = false
