-- Faults 8 and 9 in their order, from what the two searches answer. Assumes nothing.
use Prim.Native.Nat.{ℕ}
use mathlib.Core.Path.{◌≡◌, refl, ap, ap₂, ◌∙◌}
use mathlib.Core.Option.{none, some}
use mathlib.Core.Option as maybe
use Rattle.std.specs.Option.{option_or}
use Rattle.std.specs.Prelude.{Option, Some, None}
use Rattle.policy.specs.Statements.{Policy, users, roles, types}
use Rattle.policy.specs.Faults.{family_cycle, cycle, clash}
use Rattle.policy.specs.Basics.{or_else}
use Rattle.policy.specs.Reading.{Read, policy, refused}
use Rattle.policy.specs.Outcome.{accept}
use Rattle.code_reader.specs.Reading.{found_of}

-- the first of three places, if there is one
first_of : (a b c : Option ℕ) → found_of (option_or (option_or a b) c) ≡ or_else (found_of a) (or_else (found_of b) (found_of c))
first_of (Some x) b c = refl
first_of None (Some y) c = refl
first_of None None c = refl

module _ (p : Policy) where
  abbrev judged : maybe.Option ℕ → maybe.Option ℕ → Read
  judged o q = elim o as (λ _. Read) [ some at ↦ refused 8 at | none ↦ elim q as (λ _. Read) [ some at ↦ refused 9 at | none ↦ policy p ] ]

  judges : judged (cycle p) (clash p) ≡ accept p
  unfolding accept
  judges = refl

  -- the families in their order
  pub cycle-found : (a b c o : Option ℕ) → o ≡ option_or (option_or a b) c
      → found_of a ≡ family_cycle p users → found_of b ≡ family_cycle p roles → found_of c ≡ family_cycle p types → found_of o ≡ cycle p
  unfolding cycle
  cycle-found a b c o e x y z = rw (e, first_of a b c, x, y, z)

  pub cycle-first : (at : ℕ) → some at ≡ cycle p → refused 8 at ≡ accept p
  cycle-first at h = ap (λ (o : maybe.Option ℕ). judged o (clash p)) h ∙ judges

  pub clash-next : (at : ℕ) → none ≡ cycle p → some at ≡ clash p → refused 9 at ≡ accept p
  clash-next at h k = ap₂ judged h k ∙ judges

  pub sound-last : none ≡ cycle p → none ≡ clash p → policy p ≡ accept p
  sound-last h k = ap₂ judged h k ∙ judges
