-- What reading a text without fault 1 to 7 gives of its statements: every reference is to something declared, every operator is one that
-- the form allows, and every maximum holds. These words carry facts from the reading to the passes after it and to the table; what the library promises of
-- texts and tables does not use them.
-- Assumes nothing.
use Rattle.std.specs.Prelude.{◌<◌, ◌≤◌, ◌≡◌, Bool, true, false, ◌||◌, List, [], length}
use Rattle.policy.specs.Basics.{Name, All, every}
use Rattle.policy.specs.Statements.{Family, roles, types, Reference, thing, attribute, SetExpr, name_s, all_s, not_s, and_s, or_s, xor_s, union_s, empty_s}
use Rattle.policy.specs.Statements.{Constraint, sides_e, name_e, not_e, and_e, or_e, thing_of, attribute_of, Declaration, Statement, declare, attributeset}
use Rattle.policy.specs.Statements.{gives, roletransition, constrain, validatetrans, Side, source, target, process, from_of, to_of, Line, Policy, count, class_names, permissions, declarations}
use Rattle.policy.specs.Statements.{transitions, constrains, constrain_body, relabels, relabel_body, need}
use Rattle.policy.specs.Maxima.{max_transitions, max_constraints, max_rows, max_relabels, max_relabel_rows, max_stack, max_depth}
use Rattle.policy.specs.Words.{is_plain, Sides, two_sides, three_sides}
use Rattle.policy.specs.Grammar.{is_roles}
use Rattle.policy.specs.Reading.{row_count}
use Rattle.policy.specs.Sound.{is_good_part, good_from}

-- a side that an E may name
abbrev pub is_side : Sides → Side → Bool
is_side two_sides source = true
is_side two_sides target = true
is_side two_sides process = false
is_side three_sides s = true

module _ (ds : List Declaration) where
  -- a thing or an attribute that ds declares
  abbrev pub ReferenceIn : Family → Reference → Type 0
  ReferenceIn f (thing n) = n < count (thing_of f) ds
  ReferenceIn f (attribute a) = a < count (attribute_of f) ds

  -- S names only those
  abbrev pub SetIn : Family → SetExpr Reference → Type 0
  SetIn f (name_s r) = ReferenceIn f r
  SetIn f all_s = Unit {0}
  SetIn f (not_s x) = SetIn f x
  SetIn f (and_s x y) = SetIn f x × SetIn f y
  SetIn f (or_s x y) = SetIn f x × SetIn f y
  SetIn f (xor_s x y) = SetIn f x × SetIn f y
  SetIn f (union_s x y) = SetIn f x × SetIn f y
  SetIn f empty_s = Unit {0}

  -- E names only those, by operators that its forms allow, and of sides that it may name
  abbrev pub ConstraintIn : Sides → Constraint Reference → Type 0
  ConstraintIn n (sides_e f o) = (is_plain o || is_roles f) ≡ true
  ConstraintIn n (name_e f s o r) = (is_plain o ≡ true) × ReferenceIn f r × (is_side n s ≡ true)
  ConstraintIn n (not_e x) = ConstraintIn n x
  ConstraintIn n (and_e x y) = ConstraintIn n x × ConstraintIn n y
  ConstraintIn n (or_e x y) = ConstraintIn n x × ConstraintIn n y

  abbrev pub StatementIn : Statement → Type 0
  StatementIn (declare d) = Unit {0}
  StatementIn (attributeset f a s) = (a < count (attribute_of f) ds) × SetIn f s
  StatementIn (gives k x y) = ReferenceIn (from_of k) x × ReferenceIn (to_of k) y
  StatementIn (roletransition r t c n) =
      ReferenceIn roles r × ReferenceIn types t × (c < length (class_names ds)) × (n < count (thing_of roles) ds)
  StatementIn (constrain c ps e) =
      (c < length (class_names ds)) × (0 < length ps) × All (λ k. k < length (permissions ds c)) ps
      × ConstraintIn two_sides e × (need e ≤ max_stack)
  StatementIn (validatetrans c e) = (c < length (class_names ds)) × ConstraintIn three_sides e × (need e ≤ max_stack)

-- the statements of p are as reading leaves them
pub record Accepted (p : Policy) : Type 0 where
  pub names : good_from [] (declarations p) ≡ true
  pub statements : All (λ (l : Line). StatementIn (declarations p) l.says) p
  pub few-transitions : length (transitions p) ≤ max_transitions
  pub few-constrains : length (constrains p) ≤ max_constraints
  pub few-rows : row_count constrain_body (constrains p) ≤ max_rows
  pub few-relabels : length (relabels p) ≤ max_relabels
  pub few-relabel-rows : row_count relabel_body (relabels p) ≤ max_relabel_rows

-- the blocks around a statement are as reading leaves them: each has a good name, and they are not too many
pub record GoodPath (path : List Name) : Type 0 where
  pub names : every is_good_part path ≡ true
  pub few : length path ≤ max_depth
