-- Document 01, fault 8, in plain statements: what it is to mention an attribute, to be on a cycle, and which place is given. None of the
-- words that compute the fault is here; proofs/ shows that those words decide these statements. Assumes nothing.
use Rattle.std.specs.Prelude.{ℕ, ◌<◌, ◌≡◌, ◌⊎◌, List, [], ◌∷◌, ◌++◌}
use Rattle.std.proofs.Math.Option.{Option, none, some}
use Rattle.policy.specs.Basics.{Name}
use Rattle.policy.specs.Statements.{Family, users, roles, types, attribute_of, plain, Reference, thing, attribute, SetExpr, name_s, all_s, not_s, and_s, or_s, xor_s}
use Rattle.policy.specs.Statements.{union_s, empty_s, Statement, declare, AttributeSet, as_set, Line, Policy, count, declarations}

-- a property of one element of a list at least
abbrev pub Some : {A : Type 0} → (A → Type 0) → List A → Type 0
Some P [] = ⊥
Some P (x ∷ xs) = P x ⊎ Some P xs

-- S mentions attribute b, by its form
abbrev pub MentionsS : ℕ → SetExpr Reference → Type 0
MentionsS b (name_s (thing n)) = ⊥
MentionsS b (name_s (attribute a)) = b ≡ a
MentionsS b all_s = ⊥
MentionsS b (not_s x) = MentionsS b x
MentionsS b (and_s x y) = MentionsS b x ⊎ MentionsS b y
MentionsS b (or_s x y) = MentionsS b x ⊎ MentionsS b y
MentionsS b (xor_s x y) = MentionsS b x ⊎ MentionsS b y
MentionsS b (union_s x y) = MentionsS b x ⊎ MentionsS b y
MentionsS b empty_s = ⊥

-- a statement gives attribute a of the family an S that mentions b
abbrev pub MentionsIn : Family → ℕ → ℕ → Option AttributeSet → Type 0
MentionsIn f a b none = ⊥
MentionsIn f a b (some x) = (x.family ≡ f) × (x.attribute ≡ a) × MentionsS b x.set

abbrev pub SetMentions : Family → ℕ → ℕ → Statement → Type 0
SetMentions f a b s = MentionsIn f a b (as_set s)

abbrev pub MentionsDirectly : Policy → Family → ℕ → ℕ → Type 0
MentionsDirectly p f a b = Some (λ (l : Line). SetMentions f a b l.says) p

-- "an attribute's sets mention it, directly or through others"
pub data Mentions (p : Policy) (f : Family) : ℕ → ℕ → Type 0 where
  directly : {a b : ℕ} → MentionsDirectly p f a b → Mentions p f a b
  through : {a b c : ℕ} → Mentions p f a b → Mentions p f b c → Mentions p f a c

-- attribute a of the family is declared by the statement whose opening parenthesis is at this place: a of them are declared before it
pub record DeclaredAt (p : Policy) (f : Family) (a at : ℕ) : Type 0 where
  pub before : Policy
  pub name : Name
  pub after : Policy
  pub text : p ≡ before ++ (record { place = at; says = declare (plain (attribute_of f) name) } ∷ after)
  pub number : count (attribute_of f) (declarations before) ≡ a

-- "users, then roles, then types"
abbrev pub turn : Family → ℕ
turn users = 0
turn roles = 1
turn types = 2

-- "opening parenthesis of the declaration of the lowest-numbered attribute on a cycle; users, then roles, then types"
pub record CycleAt (p : Policy) (at : ℕ) : Type 0 where
  pub family : Family
  pub number : ℕ
  pub declared : DeclaredAt p family number at
  pub on-cycle : Mentions p family number number
  pub lowest : (b : ℕ) → b < number → ¬ Mentions p family b b
  pub first : (g : Family) → turn g < turn family → (b : ℕ) → ¬ Mentions p g b b

-- no attribute is on a cycle
abbrev pub NoCycle : Policy → Type 0
NoCycle p = (f : Family) (a : ℕ) → ¬ Mentions p f a a
