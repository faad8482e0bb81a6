-- Demand 3 in its own words: when the statements grant a change, and which number goes with the answer; and when they grant a relabelling, W-205. Assumes
-- nothing.
use Rattle.std.specs.Prelude.{ℕ, ◌+◌, ◌<◌, ◌≡◌, ◌⊎◌, Bool, true, false, cond, List, [], ◌∷◌, length, take}
use Rattle.std.proofs.Math.Option.{some}
use Rattle.std.proofs.Math.ListN.{get_elem?}
use Rattle.policy.specs.Basics.{Name, All}
use Rattle.policy.specs.Statements.{roles, thing_of, Declaration, names_of, Policy, declarations, Constrain, constrains, Relabel}
use Rattle.policy.specs.Statements.{relabels, roleallow}
use Rattle.policy.specs.Meaning.{stands, related, holds}
use Rattle.policy.specs.Deciding.{valid_by, contexts_of, Question, asks_role, Relabelling, relabel_contexts, declared_relabel}
use Rattle.policy.specs.Answer.{given_by, names_asked}

-- "It grants exactly when by the statements both contexts are valid, the role change is allowed where process transition or
-- dyntransition asks it, and every constraint on that class and permission is true as written"
pub record Grants (p : Policy) (q : Question) : Type 0 where
  pub source-valid : valid_by (given_by p) q.source ≡ true
  pub target-valid : valid_by (given_by p) q.target ≡ true
  pub role-allowed : asks_role (declarations p) q.class q.perm ≡ true
      → (q.source.role ≡ q.target.role) ⊎ (related p roleallow q.source.role q.target.role ≡ true)
  pub constraints-hold : All (λ (c : Constrain). names_asked q.class q.perm c ≡ true → holds (stands p) (contexts_of q) c.body ≡ true) (constrains p)

-- W-205: it grants a relabelling exactly when the numbers are declared, all three contexts are valid, and every validatetrans of the class is true as
-- written. No role allow is asked
pub record GrantsRelabel (p : Policy) (q : Relabelling) : Type 0 where
  pub declared : declared_relabel (declarations p) q ≡ true
  pub old-valid : valid_by (given_by p) q.old ≡ true
  pub new-valid : valid_by (given_by p) q.new ≡ true
  pub process-valid : valid_by (given_by p) q.process ≡ true
  pub statements-hold : All (λ (c : Relabel). c.class ≡ q.class → holds (stands p) (relabel_contexts q) c.body ≡ true) (relabels p)

-- role r is named w
abbrev pub RoleNamed : List Declaration → ℕ → Name → Type 0
RoleNamed ds r w = get_elem? (names_of (thing_of roles) ds) r ≡ some w

-- how many of them pass a test
unfoldable pub how_many : {A : Type 0} → (A → Bool) → List A → ℕ
how_many f [] = 0
how_many f (x ∷ xs) = cond (f x) 1 0 + how_many f xs

-- k is the number of the first that is named and fails: those before it hold where they are named
pub record FirstFailing {A : Type 0} (names holds : A → Bool) (xs : List A) (k : ℕ) : Type 0 where
  pub inside : k < length xs
  pub before : All (λ x. names x ≡ true → holds x ≡ true) (take k xs)
  pub there : (x : A) → get_elem? xs k ≡ some x → (names x ≡ true) × (holds x ≡ false)
