-- A statement that a projection of specs/Statements takes is of that kind, and says what the projection says: the only laws that go through the kinds, so
-- that a proof about statements of one kind need not. Assumes nothing.
use Prim.Native.Nat.{ℕ}
use mathlib.Core.Path.{◌≡◌, refl}
use Rattle.policy.specs.Statements.{Statement, declare, attributeset, gives, roletransition, constrain, validatetrans}
use Rattle.policy.specs.Statements.{as_declaration, as_set, as_gives, as_transition, as_constrain, as_relabel}
use Rattle.policy.proofs.IfAny.{IfAny, nothing, just}

pub declaration-says : (s : Statement) → IfAny (λ d. s ≡ declare d) (as_declaration s)
declaration-says (declare d) = just refl
declaration-says (attributeset f a s) = nothing
declaration-says (gives k x y) = nothing
declaration-says (roletransition r t c n) = nothing
declaration-says (constrain c ps e) = nothing
declaration-says (validatetrans c e) = nothing

pub set_says : (s : Statement) → IfAny (λ x. s ≡ attributeset x.family x.attribute x.set) (as_set s)
set_says (declare d) = nothing
set_says (attributeset f a s) = just refl
set_says (gives k x y) = nothing
set_says (roletransition r t c n) = nothing
set_says (constrain c ps e) = nothing
set_says (validatetrans c e) = nothing

pub gives-says : (s : Statement) → IfAny (λ g. s ≡ gives g.relation g.from g.to) (as_gives s)
gives-says (declare d) = nothing
gives-says (attributeset f a s) = nothing
gives-says (gives k x y) = just refl
gives-says (roletransition r t c n) = nothing
gives-says (constrain c ps e) = nothing
gives-says (validatetrans c e) = nothing

pub transition-says : (at : ℕ) (s : Statement)
    → IfAny (λ t. (s ≡ roletransition t.role t.type t.class t.new) × (t.place ≡ at)) (as_transition at s)
transition-says at (declare d) = nothing
transition-says at (attributeset f a s) = nothing
transition-says at (gives k x y) = nothing
transition-says at (roletransition r t c n) = just (refl, refl)
transition-says at (constrain c ps e) = nothing
transition-says at (validatetrans c e) = nothing

pub constrain-says : (s : Statement) → IfAny (λ c. s ≡ constrain c.class c.perms c.body) (as_constrain s)
constrain-says (declare d) = nothing
constrain-says (attributeset f a s) = nothing
constrain-says (gives k x y) = nothing
constrain-says (roletransition r t c n) = nothing
constrain-says (constrain c ps e) = just refl
constrain-says (validatetrans c e) = nothing

pub relabel-says : (s : Statement) → IfAny (λ c. s ≡ validatetrans c.class c.body) (as_relabel s)
relabel-says (declare d) = nothing
relabel-says (attributeset f a s) = nothing
relabel-says (gives k x y) = nothing
relabel-says (roletransition r t c n) = nothing
relabel-says (constrain c ps e) = nothing
relabel-says (validatetrans c e) = just refl
