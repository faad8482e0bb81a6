-- Document 02, W-201: worked examples of `object_r`, proved of the rules themselves as one list under one claim. Assumes nothing.
use Rattle.std.specs.Prelude.{ℕ, ◌≡◌, refl, true, false, List, [], ◌∷◌, eqb, drop, replicate}
use Rattle.lexer.specs.Spell.{bytes}
use Rattle.policy.specs.Statements.{users, roles, types, thing_of, attribute_of, Declaration, plain, class}
use Rattle.policy.specs.Deciding.{Given, valid_by, Question, Answer, denied, refuses, unconsulted, ruled_by, answered}
use Rattle.policy.specs.Questions.{valid_on}
use Rattle.policy.specs.Worked.{table_of, context}
use Rattle.policy.specs.Computing.{computing}

-- role 1 is named `object_r`
abbrev lease : List Declaration
lease =
    plain (thing_of users) (bytes "u")
    ∷ plain (thing_of roles) (bytes "a")
    ∷ plain (thing_of roles) (bytes "object_r")
    ∷ plain (thing_of types) (bytes "t")
    ∷ class (bytes "process") (bytes "transition" ∷ bytes "fork" ∷ [])
    ∷ []

-- no role is: a user, a roleattribute, a type, a class and a permission are, and two roles nearly so
abbrev nearly : List Declaration
nearly =
    plain (thing_of users) (bytes "object_r")
    ∷ plain (attribute_of roles) (bytes "object_r")
    ∷ plain (thing_of roles) (bytes "Object_r")
    ∷ plain (thing_of roles) (bytes "object_r-")
    ∷ plain (thing_of types) (bytes "object_r")
    ∷ class (bytes "object_r") (bytes "object_r" ∷ [])
    ∷ []

-- nothing is given; every user has role 0 and it every type, and no role may become `object_r`
abbrev nothing : List Declaration → Given
nothing ds = record { names = ds; gives = λ k x y. false }

abbrev role_zero : List Declaration → Given
role_zero ds = record { names = ds; gives = λ k x y. eqb y 0 }

-- user 0 from role r to role s, with type 0; in class 0, by a permission
abbrev change : ℕ → ℕ → ℕ → Question
change r s k = record { source = context 0 r 0; target = context 0 s 0; class = 0; perm = k }

-- the same from an undeclared user
abbrev from_nobody : Question
from_nobody = record { source = context 1 1 0; target = context 0 1 0; class = 0; perm = 1 }

pub record Objects : Type 0 where
  -- "a context whose role is named `object_r` is valid with any declared user and any declared type", whatever the role's number
  pub named : (u t : ℕ) → valid_by (nothing lease) (context u 1 t) ≡ true
  pub other-role : valid_by (nothing lease) (context 0 0 0) ≡ false
  pub other-names : (valid_by (nothing nearly) (context 0 0 0) ≡ false) × (valid_by (nothing nearly) (context 0 1 0) ≡ false)
  pub in-a-table : valid_on (table_of (bytes "(user u)(role object_r)(type t)")) (context 0 0 0) ≡ answered true
  -- "Denials 1 and 2 .. follow this"; 12 is tried before them
  pub both-sides : (rest : Answer) → ruled_by (nothing lease) (change 1 1 0) rest ≡ rest
  pub from-other : (rest : Answer) → ruled_by (nothing lease) (change 0 1 1) rest ≡ unconsulted (denied 1)
  pub to-other : (rest : Answer) → ruled_by (nothing lease) (change 1 0 1) rest ≡ unconsulted (denied 2)
  pub undeclared : (rest : Answer) → ruled_by (nothing lease) from_nobody rest ≡ unconsulted (refuses 12 0)
  -- "Elsewhere `object_r` is a role like any other": a role allow is asked, constraints decide, and no bit of a set is written for it
  pub role-allow : (rest : Answer) → ruled_by (role_zero lease) (change 0 1 0) rest ≡ unconsulted (denied 3)
  pub no-role-allow : (rest : Answer) → ruled_by (role_zero lease) (change 0 1 1) rest ≡ rest
  pub nothing_written : drop 96 (table_of (bytes "(role object_r)")) ≡ replicate 80 0

pub objects : Objects
unfolding computing
objects = record {
  named = λ u t. refl;
  other-role = refl;
  other-names = (refl, refl);
  in-a-table = refl;
  both-sides = λ rest. refl;
  from-other = λ rest. refl;
  to-other = λ rest. refl;
  undeclared = λ rest. refl;
  role-allow = λ rest. refl;
  no-role-allow = λ rest. refl;
  nothing_written = refl;
}
