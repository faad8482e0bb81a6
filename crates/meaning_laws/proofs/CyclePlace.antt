-- Fault 8 is given exactly where an attribute's sets mention it, directly or through others, and at exactly the place that document 01
-- names. By cases of the three families, each by proofs/FamilyCycle. Assumes nothing.
use Prim.Native.Nat.{ℕ, ◌<◌}
use native.Mathlib.Omega.{arith}
use mathlib.Core.Path.{◌≡◌, refl, ◌∙◌}
use mathlib.Core.Logic.{◌↔◌}
use mathlib.Core.Option.{Option, none, some, some-ne-none}
use Rattle.policy.specs.Statements.{Family, users, roles, types, Policy}
use Rattle.policy.specs.Faults.{family_cycle, cycle}
use Rattle.policy.specs.Basics.{or_else}
use Rattle.policy.specs.Accepted.{Accepted}
use Rattle.meaning_laws.specs.Mentions.{Mentions, turn, CycleAt, NoCycle}
use Rattle.meaning_laws.proofs.FamilyCycle.{CycleIn, none-acyclic, acyclic-none, some-cycle, cycle-some}

module _ (p : Policy) (ok : Accepted p) where
  -- no attribute of the families before f is on a cycle
  abbrev Before : Family → Type 0
  Before f = (g : Family) → turn g < turn f → (b : ℕ) → ¬ Mentions p g b b

  before-users : Before users
  before-users g l = absurd (omega (arith, l))

  before-roles : family_cycle p users ≡ none → Before roles
  before-roles u users l = none-acyclic p users ok u
  before-roles u roles l = absurd (omega (arith, l))
  before-roles u types l = absurd (omega (arith, l))

  before-types : family_cycle p users ≡ none → family_cycle p roles ≡ none → Before types
  before-types u r users l = none-acyclic p users ok u
  before-types u r roles l = none-acyclic p roles ok r
  before-types u r types l = absurd (omega (arith, l))

  cycle-of : (f : Family) (at : ℕ) → Before f → family_cycle p f ≡ some at → CycleAt p at
  cycle-of f at h e =
      let c = some-cycle p f ok at e in
      record { family = f; number = c.number; declared = c.declared; on-cycle = c.on-cycle; lowest = c.lowest; first = h }

  there : (at : ℕ) (u r t : Option ℕ) → family_cycle p users ≡ u → family_cycle p roles ≡ r → family_cycle p types ≡ t
      → or_else u (or_else r t) ≡ some at → CycleAt p at
  there at (some x) r t eu er et h = cycle-of users at before-users (eu ∙ h)
  there at none (some x) t eu er et h = cycle-of roles at (before-roles eu) (er ∙ h)
  there at none none t eu er et h = cycle-of types at (before-types eu er) (et ∙ h)

  back : (at : ℕ) (f : Family) → CycleIn p f ok at → Before f → cycle p ≡ some at
  unfolding cycle
  back at users c h = rw (cycle-some p users ok at c)
  back at roles c h = rw (acyclic-none p users ok (h users (omega arith)), cycle-some p roles ok at c)
  back at types c h = rw (acyclic-none p users ok (h users (omega arith)), acyclic-none p roles ok (h roles (omega arith)), cycle-some p types ok at c)

  -- FAULT 8'S PLACE is the one that document 01 names
  pub cycle-exactly : (at : ℕ) → (cycle p ≡ some at) ↔ CycleAt p at
  unfolding cycle
  cycle-exactly at = (
    there at (family_cycle p users) (family_cycle p roles) (family_cycle p types) refl refl refl,
    λ c. back at c.family (record { number = c.number; declared = c.declared; on-cycle = c.on-cycle; lowest = c.lowest }) c.first,
  )

  all_none : (u r t : Option ℕ) → family_cycle p users ≡ u → family_cycle p roles ≡ r → family_cycle p types ≡ t
      → or_else u (or_else r t) ≡ none → NoCycle p
  all_none (some x) r t eu er et h = absurd (some-ne-none x h)
  all_none none (some x) t eu er et h = absurd (some-ne-none x h)
  all_none none none t eu er et h = by
    where
      by : NoCycle p
      by users = none-acyclic p users ok eu
      by roles = none-acyclic p roles ok er
      by types = none-acyclic p types ok (et ∙ h)

  -- NO FAULT 8 exactly where no attribute is on a cycle
  pub no-cycle-exactly : (cycle p ≡ none) ↔ NoCycle p
  unfolding cycle
  no-cycle-exactly = (
    all_none (family_cycle p users) (family_cycle p roles) (family_cycle p types) refl refl refl,
    λ h. rw (acyclic-none p users ok (h users), acyclic-none p roles ok (h roles), acyclic-none p types ok (h types)),
  )
