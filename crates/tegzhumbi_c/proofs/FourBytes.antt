-- THE NUMBERS OF EVERY ANSWER FIT INTO FOUR BYTES, for every text, every table and all numbers. Assumes nothing.
use Prim.Native.Nat.{ℕ, ◌≤◌}
use native.Mathlib.Omega.{arith}
use mathlib.Core.Path.{◌≡◌, sym, ap, subst, ◌∙◌}
use mathlib.Core.Bool.{Bool, true, false, cond}
use mathlib.Core.Option.{Option, none, some}
use mathlib.Core.List.{List}
use Rattle.policy.specs.Meaning.{Context}
use Rattle.policy.specs.Image.{Image}
use Rattle.policy.specs.Sound.{image_in}
use Rattle.policy.specs.Deciding.{valid_by, Question, Relabelling, Verdict, granted, denied, fails, refuses, declared_context, Reply, answered, refused}
use Rattle.policy.specs.Questions as replies
use Rattle.policy.specs.Questions.{asked, given_in, valid, valid_on, new_role_on, change_on, relabel_on, name_on, entry_on}
use Rattle.policy.specs.Outcome.{Input, Outcome, accepted, rejected, outcome}
use Rattle.bound_laws.proofs.Outcomes.{SmallOutcome, outcome-small}
use Rattle.bound_laws.proofs.Answers.{SmallVerdict, change-small, relabel-small, SmallRole, new-role-small, SmallPart, name-part-small, entry-part-small}
use Rattle.answer_numbers.specs.Numbers.{CompiledFits, Fits, PartFits, compiled_numbers, valid_numbers, verdict_numbers, change_numbers, new_role_numbers, part_numbers}

-- an answer as numbers is the definition's answer as numbers, where these fit
pub told : {A N : Type 0} (Fit : N → Type 0) (numbers : A → N) {r : N} {a b : A} → (Fit (numbers a) → r ≡ numbers a) → Fit (numbers b) → a ≡ b → r ≡ numbers b
told Fit numbers h f e = h (subst (λ x. Fit (numbers x)) (sym e) f) ∙ ap numbers e

small-fits : (o : Outcome) → SmallOutcome o → CompiledFits (compiled_numbers o)
small-fits (accepted n) s = record { number = omega arith; place = omega arith; line = omega arith }
small-fits (rejected r) s = record { number = omega (arith, s.0); place = omega (arith, s.1); line = omega (arith, s.2) }

pub outcome_fits : (x : Input) (lent : ℕ) → CompiledFits (compiled_numbers (outcome x lent))
outcome_fits x lent = small-fits (outcome x lent) (outcome-small x lent)

-- a small refusal's number
refused-fits : (n at : ℕ) → n ≤ 12 → Fits (valid_numbers (refused n at))
refused-fits n at s = record { number = omega arith; constraint = omega arith; consulted = omega arith }

answered-fits : (b : Bool) → Fits (valid_numbers (answered b))
answered-fits true = record { number = omega arith; constraint = omega arith; consulted = omega arith }
answered-fits false = record { number = omega arith; constraint = omega arith; consulted = omega arith }

pub valid-fits : (t : List ℕ) (c : Context) → Fits (valid_numbers (valid_on t c))
unfolding valid_on valid
valid-fits t c = by (image_in t)
  where
    declared : (i : Image) (d : Bool) → Fits (valid_numbers (cond d (answered (valid_by (given_in i) c)) (refused 12 0)))
    declared i true = answered-fits (valid_by (given_in i) c)
    declared i false = refused-fits 12 0 (omega arith)

    by : (o : Option Image) → Fits (valid_numbers (asked (λ i. valid i c) o))
    by none = refused-fits 11 0 (omega arith)
    by (some i) = declared i (declared_context i.names c)

verdict-fits : (v : Verdict) (k : ℕ) → SmallVerdict v → k ≤ 128 → Fits (verdict_numbers v k)
verdict-fits granted k s c = record { number = omega arith; constraint = omega arith; consulted = omega arith }
verdict-fits (denied n) k s c = record { number = omega arith; constraint = omega arith; consulted = omega arith }
verdict-fits (fails n i) k s c = record { number = omega (arith, s.0); constraint = omega (arith, s.1); consulted = omega arith }
verdict-fits (refuses n at) k s c = record { number = omega arith; constraint = omega arith; consulted = omega arith }

pub change-fits : (t : List ℕ) (q : Question) → Fits (change_numbers (change_on t q))
change-fits t q = verdict-fits (change_on t q).verdict (change_on t q).consulted (change-small t q).verdict (change-small t q).consulted

pub relabel-fits : (t : List ℕ) (q : Relabelling) → Fits (change_numbers (relabel_on t q))
relabel-fits t q = verdict-fits (relabel_on t q).verdict (relabel_on t q).consulted (relabel-small t q).verdict (relabel-small t q).consulted

role-fits : (r : Reply ℕ) → SmallRole r → Fits (new_role_numbers r)
role-fits (answered r) s = record { number = omega arith; constraint = omega arith; consulted = omega arith }
role-fits (refused n at) s = record { number = omega arith; constraint = omega arith; consulted = omega arith }

pub new-role-fits : (t : List ℕ) (r y c : ℕ) → Fits (new_role_numbers (new_role_on t r y c))
new-role-fits t r y c = role-fits (new_role_on t r y c) (new-role-small t r y c)

part-fits : (r : Reply replies.Part) → SmallPart r → PartFits (part_numbers r)
part-fits (answered p) s = record { number = omega arith; start = omega arith; length = omega arith }
part-fits (refused n at) s = record { number = omega arith; start = omega arith; length = omega arith }

pub name-fits : (t : List ℕ) (s n : ℕ) → PartFits (part_numbers (name_on t s n))
name-fits t s n = part-fits (name_on t s n) (name-part-small t s n)

pub entry-fits : (t : List ℕ) (b k : ℕ) → PartFits (part_numbers (entry_on t b k))
entry-fits t b k = part-fits (entry_on t b k) (entry-part-small t b k)
