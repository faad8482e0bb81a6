-- Document 01, "Slips we have seen", and "Both sides": worked examples that each slip would break, as one list under one claim. Assumes nothing.
use Rattle.std.specs.Prelude.{ℕ, zero, suc, ◌+◌, ◌/◌, ◌%◌, ◌≡◌, refl, false, List, [], ◌∷◌, ◌++◌, eqb, ltb, length}
use Rattle.lexer.specs.Spell.{bytes}
use Rattle.bitset.specs.Sets.{set_of, tabulate}
use Rattle.bitset.specs.Relations.{joined}
use Rattle.policy.specs.Statements.{users, neq, Constraint, sides_e, and_e, Reference}
use Rattle.policy.specs.Reading.{policy, refused, read_policy, Read}
use Rattle.policy.specs.Meaning.{related}
use Rattle.policy.specs.Statements.{userrole}
use Rattle.policy.specs.Deciding.{Question, Answer, granted, denied, refuses, unconsulted}
use Rattle.policy.specs.Answer.{answer}
use Rattle.policy.specs.Rows.{View, rows_of, run}
use Rattle.policy.specs.Questions.{change_on, side_of}
use Rattle.policy.specs.Outcome.{of_text, refuses, policy_of}
use Rattle.policy.specs.Worked.{first_set, table_of, to_right, context}
use Rattle.policy.specs.Computing.{computing}

-- what the statements of a text answer, and what its table answers
abbrev from_text : List ℕ → Question → Answer
from_text text q = elim (policy_of (of_text text)) [ policy p ↦ answer p q | refused n at ↦ unconsulted (refuses n at) ]

abbrev from_table : List ℕ → Question → Answer
from_table text q = change_on (table_of text) q

-- the roles of user 0 of a text, in 16 bytes
abbrev roles_of_first : List ℕ → List ℕ
roles_of_first text = elim (policy_of (of_text text)) [ policy p ↦ set_of 16 (related p userrole 0) | refused n at ↦ [] ]

-- user u may be in the roles a and b, either with type t; no role allow is said
abbrev office : List ℕ
office = bytes "(user u)(role a)(role b)(type t)(userrole u a)(userrole u b)(roletype a t)(roletype b t)(class process (transition fork))(class file (transition))"

-- from role r to role s, in a class and permission
abbrev asking : ℕ → ℕ → ℕ → ℕ → Question
asking r s c k = record { source = context 0 r 0; target = context 0 s 0; class = c; perm = k }

-- six comparisons joined to the right: false and true and true and true and true and true
abbrev six : Constraint Reference
six = and_e (sides_e users neq) (to_right 4)

abbrev one-context : View
one-context = record { side = side_of (λ x. context 0 0 0); inset = λ c a n. false }

-- "(constrain (c (p)) E)" with n + 1 comparisons joined by `and` to the right
abbrev nested_right : ℕ → List ℕ
nested_right zero = bytes "(eq u1 u2)"
nested_right (suc n) = bytes "(and (eq u1 u2) " ++ (nested_right n ++ bytes ")")

abbrev constrained : ℕ → List ℕ
constrained n = bytes "(class c (p))(constrain (c (p)) " ++ (nested_right n ++ bytes ")")

-- n roles, named by two letters
abbrev letters : ℕ → List ℕ
letters k = (97 + k / 16) ∷ (97 + k % 16) ∷ []

abbrev many_roles : ℕ → List ℕ
many_roles n = joined (tabulate n (λ k. bytes "(role " ++ (letters k ++ bytes ")")))

-- the number and place of a refusal of reading; 0 and the number of statements where there is none
abbrev reading : Read → ℕ × ℕ
reading (policy p) = (0, length p)
reading (refused n at) = (n, at)

pub record Slips : Type 0 where
  -- "Filling an attribute as its line is read": members that come later reach the set above, and the user above
  pub late-member : first_set (bytes "(role a)(role b)(roleattribute x)(roleattribute y)(roleattributeset x (y))(roleattributeset y (a b))") ≡ set_of 16 (λ n. ltb n 2)
  pub late-set : roles_of_first (bytes "(user u)(role a)(roleattribute x)(userrole u x)(roleattributeset x (a))") ≡ set_of 16 (λ n. eqb n 0)
  -- "Taking `not` within the roles declared so far"
  pub late-role : first_set (bytes "(role a)(roleattribute x)(roleattributeset x (not a))(role b)") ≡ set_of 16 (λ n. eqb n 1)
  pub late-all : first_set (bytes "(role a)(roleattribute x)(roleattributeset x (all))(role b)") ≡ set_of 16 (λ n. ltb n 2)
  -- "Dropping the oldest operand on a full stack instead of refusing 7"
  pub five-on-stack : reading (read_policy (constrained 4)) ≡ (0, 2)
  pub six-on-stack : reading (read_policy (constrained 5)) ≡ (7, 13)
  pub oldest-kept : run one-context (rows_of six) [] ≡ false ∷ []
  -- "Asking a role allow where the role stays the same, or on a class other than `process`"
  pub same-role : (from_text office (asking 0 0 0 0) ≡ unconsulted granted) × (from_table office (asking 0 0 0 0) ≡ unconsulted granted)
  pub other-class : (from_text office (asking 0 1 1 0) ≡ unconsulted granted) × (from_table office (asking 0 1 1 0) ≡ unconsulted granted)
  pub other-permission : (from_text office (asking 0 1 0 1) ≡ unconsulted granted) × (from_table office (asking 0 1 0 1) ≡ unconsulted granted)
  pub asked-role : (from_text office (asking 0 1 0 0) ≡ unconsulted (denied 3)) × (from_table office (asking 0 1 0 0) ≡ unconsulted (denied 3))
  -- "Both sides: 128 roles and 129"
  pub roles-128 : reading (read_policy (many_roles 128)) ≡ (0, 128)
  pub roles-129 : reading (read_policy (many_roles 129)) ≡ (6, 1152)

pub slips : Slips
unfolding computing
slips = record {
  late-member = refl;
  late-set = refl;
  late-role = refl;
  late-all = refl;
  five-on-stack = refl;
  six-on-stack = refl;
  oldest-kept = refl;
  same-role = (refl, refl);
  other-class = (refl, refl);
  other-permission = (refl, refl);
  asked-role = (refl, refl);
  roles-128 = refl;
  roles-129 = refl;
}
