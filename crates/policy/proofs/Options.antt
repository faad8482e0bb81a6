-- Answers that may be missing, and what a test makes of them. Assumes nothing.
use mathlib.Core.Path.{◌≡◌, refl}
use mathlib.Core.Bool.{Bool, true, false, cond}
use mathlib.Core.Option.{Option, none, some, none-ne-some, some-injective}
use Rattle.policy.specs.Basics.{or_else, given}

module _ {A : Type 0} where
  -- nothing after the first
  pub or-none : (o : Option A) → or_else o none ≡ o
  or-none none = refl
  or-none (some a) = refl

  -- what went before an answer that is there
  pub if_some : (t : Bool) (o : Option A) (a : A) → cond t o none ≡ some a → (t ≡ true) × (o ≡ some a)
  if_some true o a h = (refl, h)
  if_some false o a h = absurd (none-ne-some a h)

  pub given-some : (t : Bool) (a b : A) → given t a ≡ some b → (t ≡ true) × (a ≡ b)
  given-some true a b h = (refl, some-injective a b h)
  given-some false a b h = absurd (none-ne-some b h)

  -- a test that passes what is there, and nothing else
  pub given-passes : (f : Option A → Bool) (t : Bool) (a : A) → f none ≡ false → f (some a) ≡ true → f (given t a) ≡ t
  given-passes f true a n s = s
  given-passes f false a n s = n
