-- What the statements answer to the question new role: no table, rows or stack. Assumes nothing.
use Rattle.std.specs.Prelude.{ℕ, Bool, ◌&&◌, cond, List, [], ◌∷◌, eqb, ltb, length}
use Rattle.policy.specs.Statements.{roles, types, thing_of, Policy, count, class_names, declarations, Transition, transitions}
use Rattle.policy.specs.Meaning.{stands}
use Rattle.policy.specs.Deciding.{Reply, answered, refused}

-- a roletransition is for a role, a type and a class
abbrev pub is_for : Policy → ℕ → ℕ → ℕ → Transition → Bool
is_for p r y c t = stands p roles t.role r && stands p types t.type y && eqb t.class c

-- **New role**: "that of the first matching transition, else the role given"
unfoldable pub first_for : Policy → ℕ → ℕ → ℕ → List Transition → ℕ
first_for p r y c [] = r
first_for p r y c (t ∷ ts) = cond (is_for p r y c t) t.new (first_for p r y c ts)

unfoldable pub new_role_by : Policy → ℕ → ℕ → ℕ → Reply ℕ
new_role_by p r y c =
    cond (ltb r (count (thing_of roles) (declarations p)) && ltb y (count (thing_of types) (declarations p)) && ltb c (length (class_names (declarations p))))
    (answered (first_for p r y c (transitions p)))
    (refused 12 0)
