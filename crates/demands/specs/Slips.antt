-- Document 01, "Slips we have seen", tried against the promise of compile: what a compiler that keeps the promise must answer on texts where each slip
-- answers something else. Assumes nothing.
use Rattle.std.specs.Prelude.{ℕ, ◌+◌, ◌/◌, ◌%◌, ◌≡◌, List, ◌∷◌, ◌++◌, take, Result, Ok}
use Rattle.lexer.specs.Spell.{bytes}
use Rattle.bitset.specs.Relations.{joined}
use Rattle.bitset.specs.Sets.{tabulate}
use Rattle.policy.specs.declared.Fault.{Fault}
use Rattle.policy.specs.declared.Refusal as theRefusal
use Rattle.policy.specs.Deciding.{Question, Answer, granted, denied, unconsulted}
use Rattle.policy.specs.Answers.{compiling_of}
use Rattle.policy.specs.Questions.{change_on}
use Rattle.policy.specs.Outcome.{of_text, refusal_at, rejected}
use Rattle.policy.specs.Worked.{context}
use Rattle.compiler.specs.Promise.{Compiles}

-- every table that compile can write for the text answers so, whatever the memory held and whatever is after the table
abbrev pub Answers : List ℕ → Question → Answer → Type 0
Answers text q a = (before now behind : List ℕ) (n : ℕ) → Compiles (of_text text) before now (Ok n) → change_on (take n now ++ behind) q ≡ a

-- user 0 from role r to role s, with type 0, in a class and permission
abbrev pub asking : ℕ → ℕ → ℕ → ℕ → Question
asking r s c k = record { source = context 0 r 0; target = context 0 s 0; class = c; perm = k }

-- the role is given to an attribute further down
abbrev pub late_member : List ℕ
late_member = bytes "(user u)(role a)(type t)(class c (p))(roleattribute x)(userrole u x)(roletype x t)(roleattributeset x (a))"

-- role b is declared after the statement that it is a member by
abbrev pub late_role : List ℕ
late_role = bytes "(user u)(role a)(type t)(class c (p))(roleattribute x)(roleattributeset x (not a))(role b)(userrole u x)(roletype b t)"

-- 65 roles named by two letters, of which the user has the last alone, "ea"; the first has the type
abbrev pub role64 : List ℕ
role64 =
    bytes "(user u)(type t)(class c (p))" ++ (joined (tabulate 65 (λ k. bytes "(role " ++ ((97 + k / 16) ∷ (97 + k % 16) ∷ bytes ")")))
    ++ bytes "(userrole u ea)(roletype aa t)(roletype ea t)")

-- no role allow is said
abbrev pub office : List ℕ
office = bytes "(user u)(role a)(role b)(type t)(userrole u a)(userrole u b)(roletype a t)(roletype b t)(class process (transition fork))(class file (transition))"

-- six comparisons joined to the right
abbrev pub six_deep : List ℕ
six_deep = bytes "(class c (p))(constrain (c (p)) (and (eq u1 u2) (and (eq u1 u2) (and (eq u1 u2) (and (eq u1 u2) (and (eq u1 u2) (eq u1 u2)))))))"

pub record NoSlip : Type 0 where
  -- "Filling an attribute as its line is read": it would deny, 1
  pub late-member : Answers late_member (asking 0 0 0 0) (unconsulted granted)
  -- "Taking `not` within the roles declared so far": it would deny, 1
  pub late-role : Answers late_role (asking 1 1 0 0) (unconsulted granted)
  -- "Letting role 64 share a bit with role 0": it would grant
  pub role-64 : Answers role64 (asking 0 0 0 0) (unconsulted (denied 1))
  pub role-64-itself : Answers role64 (asking 64 64 0 0) (unconsulted granted)
  -- "Dropping the oldest operand on a full stack instead of refusing 7": it would accept
  pub six-deep : (before now : List ℕ) (r : Result ℕ (theRefusal.Refusal Fault)) → Compiles (of_text six_deep) before now r → compiling_of r ≡ rejected (refusal_at 7 13 1)
  -- "Asking a role allow where the role stays the same": it would deny, 3
  pub same-role : Answers office (asking 0 0 0 0) (unconsulted granted)
  -- "or on a class other than `process`": it would deny, 3
  pub other-class : Answers office (asking 0 1 1 0) (unconsulted granted)
  -- and where it is to be asked it is
  pub asked-role : Answers office (asking 0 1 0 0) (unconsulted (denied 3))
