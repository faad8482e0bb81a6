-- Document 01, fault 9, in plain statements: what it is that two transitions clash, and which place is given. Assumes nothing.
use Rattle.std.specs.Prelude.{ℕ, ◌≡◌, true, ◌∷◌, ◌++◌}
use Rattle.std.proofs.Math.Option.{some}
use Rattle.policy.specs.Statements.{Family, roles, types, Reference, Line, Policy, Transition, transition}
use Rattle.policy.specs.Meaning.{stands}
use Rattle.meaning_laws.specs.Mentions.{Some}

-- both references stand for one thing
abbrev pub Share : Policy → Family → Reference → Reference → Type 0
Share p f x y = (n : ℕ) × (stands p f x n ≡ true) × (stands p f y n ≡ true)

-- "two transitions share a role, a type and the class, new roles differ"
pub record Clash (p : Policy) (t u : Transition) : Type 0 where
  pub role : Share p roles t.role u.role
  pub type : Share p types t.type u.type
  pub class : t.class ≡ u.class
  pub new : ¬ (t.new ≡ u.new)

-- two lines are transitions that clash
abbrev pub LinesClash : Policy → Line → Line → Type 0
LinesClash p l k = (t u : Transition) × (transition l ≡ some t) × (transition k ≡ some u) × Clash p t u

-- none of these lines clashes with a line before it
abbrev pub ClashFree : Policy → Policy → Type 0
ClashFree p lines = (before : Policy) (l : Line) (after : Policy) → lines ≡ before ++ (l ∷ after) → ¬ Some (LinesClash p l) before

-- "opening parenthesis of the first statement in the text that clashes with an earlier one"
pub record ClashAt (p : Policy) (at : ℕ) : Type 0 where
  pub before : Policy
  pub line : Line
  pub after : Policy
  pub text : p ≡ before ++ (line ∷ after)
  pub place : line.place ≡ at
  pub clashes : Some (LinesClash p line) before
  pub first : ClashFree p before
