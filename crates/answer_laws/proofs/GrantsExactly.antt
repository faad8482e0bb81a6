-- The statements grant a change exactly when document 00's third demand says, and a relabelling exactly when W-205 does; the number consulted is the number of
-- statements that name what is asked, up to and including the first that fails. By the four tests of a decision, and by induction on the statements.
-- Assumes nothing.
use Prim.Native.Nat.{ℕ, suc, ◌+◌}
use native.Mathlib.Omega.{arith}
use mathlib.Core.Path.{◌≡◌, refl, sym, ap, ◌∙◌}
use mathlib.Core.Logic.{◌⊎◌, inl, inr, ◌↔◌}
use mathlib.Core.Bool.{Bool, true, false, ◌||◌, cond, false≢true, or-true}
use mathlib.Core.List.{List, [], ◌∷◌}
use mathlib.Core.Option.{some}
use lib.Dec.{eqb}
use lib.ListN.{take}
use borrow.Author.Tests.{eqb-true, eq-eqb}
use Rattle.policy.specs.Statements.{Policy, declarations, constrains, Relabel, relabels}
use Rattle.policy.specs.Deciding.{may_become, ruled_by, Question, Verdict, granted, denied, fails, refuses, Answer, consult, first_failing, decide, declared_question}
use Rattle.policy.specs.Deciding.{role_may, Relabelling, decide_relabel, ruled_relabel}
use Rattle.policy.specs.Answer.{names_asked, answer, relabel_answer}
use Rattle.policy.specs.Basics.{All}
use Rattle.policy.proofs.Gathered.{all_map}
use Rattle.answer_laws.specs.Granting.{Grants, GrantsRelabel, how_many, FirstFailing}
use Rattle.answer_laws.proofs.FourTests.{is_grant, change-tests, relabel-tests, tests-granted}

-- the number of the statement that fails
abbrev failing : Verdict → ℕ
failing granted = 0
failing (denied n) = 0
failing (fails m n) = n
failing (refuses n at) = 0

abbrev is_failure : Verdict → Bool
is_failure granted = false
is_failure (denied n) = false
is_failure (fails m n) = true
is_failure (refuses n at) = false

-- one statement, named or not, true or not, before the answer of the later ones
ruling-grants : (m : ℕ) (n b : Bool) (i : ℕ) (later : Answer) → (n ≡ true → b ≡ true) → later.verdict ≡ granted → (consult m n b i later).verdict ≡ granted
ruling-grants m false b i later h k = k
ruling-grants m true false i later h k = absurd (false≢true (h refl))
ruling-grants m true true i later h k = k

ruling-granted : (m : ℕ) (n b : Bool) (i : ℕ) (later : Answer) → (consult m n b i later).verdict ≡ granted
    → (n ≡ true → b ≡ true) × (later.verdict ≡ granted) × ((consult m n b i later).consulted ≡ cond n 1 0 + later.consulted)
ruling-granted m false b i later h = ((λ y. absurd (false≢true y)), h, omega arith)
ruling-granted m true false i later h = absurd (false≢true (ap is_grant h))
ruling-granted m true true i later h = ((λ y. refl), h, refl)

-- it fails here, as the only one consulted; or it holds or is not named, and a later one fails
abbrev Here : Bool → Bool → ℕ → ℕ → ℕ → Type 0
Here n b i j k = (n ≡ true) × (b ≡ false) × (j ≡ i) × (k ≡ 1)

abbrev Later : ℕ → Bool → Bool → ℕ → Answer → ℕ → Type 0
Later m n b j later k = (n ≡ true → b ≡ true) × (later.verdict ≡ fails m j) × (k ≡ cond n 1 0 + later.consulted)

ruling-fails : (m : ℕ) (n b : Bool) (i j : ℕ) (later : Answer) → (consult m n b i later).verdict ≡ fails m j
    → Here n b i j (consult m n b i later).consulted ⊎ Later m n b j later (consult m n b i later).consulted
ruling-fails m false b i j later h = inr ((λ y. absurd (false≢true y)), h, omega arith)
ruling-fails m true false i j later h = inl (refl, refl, sym (ap failing h), refl)
ruling-fails m true true i j later h = inr ((λ y. refl), h, refl)

module _ {A : Type 0} (m : ℕ) (names holds : A → Bool) where
  abbrev Held : List A → Type 0
  Held xs = All (λ x. names x ≡ true → holds x ≡ true) xs

  held-grants : (i : ℕ) (xs : List A) → Held xs → (first_failing m names holds i xs).verdict ≡ granted
  unfolding first_failing
  held-grants i [] h = refl
  held-grants i (x ∷ xs) h = ruling-grants m (names x) (holds x) i (first_failing m names holds (i + 1) xs) h.0 (held-grants (i + 1) xs h.1)

  grants-held : (i : ℕ) (xs : List A) → (first_failing m names holds i xs).verdict ≡ granted → Held xs
  unfolding first_failing
  grants-held i [] h = tt
  grants-held i (x ∷ xs) h =
      let step = ruling-granted m (names x) (holds x) i (first_failing m names holds (i + 1) xs) h in
      (step.0, grants-held (i + 1) xs step.1)

  -- granted: every statement that names what is asked was consulted
  pub consulted-granted : (i : ℕ) (xs : List A) → (first_failing m names holds i xs).verdict ≡ granted → (first_failing m names holds i xs).consulted ≡ how_many names xs
  unfolding first_failing how_many
  consulted-granted i [] h = refl
  consulted-granted i (x ∷ xs) h =
      let step = ruling-granted m (names x) (holds x) i (first_failing m names holds (i + 1) xs) h in
      step.2 ∙ ap (λ (y : ℕ). cond (names x) 1 0 + y) (consulted-granted (i + 1) xs step.1)

  -- a failure, counted from the number i on: the first that is named and fails, and those consulted up to and including it
  pub record Failed (i j : ℕ) (xs : List A) (consulted : ℕ) : Type 0 where
    pub place : ℕ
    pub number : j ≡ i + place
    pub first : FirstFailing names holds xs place
    pub count : consulted ≡ how_many names (take (suc place) xs)

  failed-here : (i j : ℕ) (x : A) (xs : List A) (k : ℕ) → Here (names x) (holds x) i j k → Failed i j (x ∷ xs) k
  unfolding how_many
  failed-here i j x xs k h = record {
    place = 0;
    number = omega (arith, h.2);
    first = record { inside = omega arith; before = tt; there = λ y e. rw (sym (some_same x y e)) (h.0, h.1) };
    count = h.3 ∙ rw h.0;
  }
    where
      some_same : (x y : A) → some x ≡ some y → x ≡ y
      some_same x y e = cc

  failed-later : (i j : ℕ) (x : A) (xs : List A) (k : ℕ) → Later m (names x) (holds x) j (first_failing m names holds (i + 1) xs) k
      → Failed (i + 1) j xs (first_failing m names holds (i + 1) xs).consulted → Failed i j (x ∷ xs) k
  unfolding how_many
  failed-later i j x xs k h r = record {
    place = suc r.place;
    number = omega (arith, r.number);
    first = record { inside = omega (arith, r.first.inside); before = (h.0, r.first.before); there = r.first.there };
    count = h.2 ∙ ap (λ (y : ℕ). cond (names x) 1 0 + y) r.count;
  }

  pub failed : (i j : ℕ) (xs : List A) → (first_failing m names holds i xs).verdict ≡ fails m j → Failed i j xs (first_failing m names holds i xs).consulted
  unfolding first_failing
  failed i j [] h = absurd (false≢true (ap is_failure h))
  failed i j (x ∷ xs) h = by (ruling-fails m (names x) (holds x) i j (first_failing m names holds (i + 1) xs) h) (λ k. failed (i + 1) j xs k)
    where
      later : Answer
      later = first_failing m names holds (i + 1) xs

      by : Here (names x) (holds x) i j (consult m (names x) (holds x) i later).consulted ⊎ Later m (names x) (holds x) j later (consult m (names x) (holds x) i later).consulted
          → (later.verdict ≡ fails m j → Failed (i + 1) j xs later.consulted) → Failed i j (x ∷ xs) (consult m (names x) (holds x) i later).consulted
      by (inl g) rec = failed-here i j x xs _ g
      by (inr g) rec = failed-later i j x xs _ g (rec g.1)

-- a role change that is asked for and allowed: the same role, or one that it may become
may-change : (asks : Bool) (a b : ℕ) (may : Bool) → role_may asks a b may ≡ true → asks ≡ true → (a ≡ b) ⊎ (may ≡ true)
may-change false a b may h k = absurd (false≢true k)
may-change true a b may h k = by (eqb a b) refl h
  where
    by : (e : Bool) → eqb a b ≡ e → (e || may) ≡ true → (a ≡ b) ⊎ (may ≡ true)
    by true e g = inl (eqb-true a b e)
    by false e g = inr g

change-may : (asks : Bool) (a b : ℕ) (may : Bool) → (asks ≡ true → (a ≡ b) ⊎ (may ≡ true)) → role_may asks a b may ≡ true
change-may false a b may h = refl
change-may true a b may h = by (h refl)
  where
    by : (a ≡ b) ⊎ (may ≡ true) → role_may true a b may ≡ true
    by (inl e) = rw (eq-eqb a b e)
    by (inr e) = rw (e, or-true (eqb a b))

-- DEMAND 3: "It grants exactly when ..", for a question in numbers that the policy declares
pub grants-only : (p : Policy) (q : Question) → (answer p q).verdict ≡ granted → Grants p q
unfolding answer ruled_by may_become
grants-only p q h =
    let passed = tests-granted 3 _ change-tests _ _ _ _ _ h in
    record {
      source-valid = passed.1;
      target-valid = passed.2;
      role-allowed = may-change _ q.source.role q.target.role _ passed.3;
      constraints-hold = grants-held 4 (names_asked q.class q.perm) _ 0 (constrains p) passed.4;
    }

pub grants-when : (p : Policy) (q : Question) → declared_question (declarations p) q ≡ true → Grants p q → (answer p q).verdict ≡ granted
unfolding answer ruled_by may_become decide
grants-when p q d g =
    rw (d, g.source-valid, g.target-valid, change-may _ q.source.role q.target.role _ g.role-allowed)
    (held-grants 4 (names_asked q.class q.perm) _ 0 (constrains p) g.constraints-hold)

-- W-205: the same of a relabelling
pub relabel-grants-exactly : (p : Policy) (q : Relabelling) → ((relabel_answer p q).verdict ≡ granted) ↔ GrantsRelabel p q
unfolding relabel_answer ruled_relabel decide_relabel
relabel-grants-exactly p q = (only, when)
  where
    only : (relabel_answer p q).verdict ≡ granted → GrantsRelabel p q
    only h =
        let passed = tests-granted 5 _ relabel-tests _ _ _ _ _ h in
        record {
          declared = passed.0;
          old-valid = passed.1;
          new-valid = passed.2;
          process-valid = passed.3;
          statements-hold = all_map _ _ (λ c k e. k (eq-eqb c.class q.class e)) (relabels p) (grants-held 6 (λ (c : Relabel). eqb c.class q.class) _ 0 (relabels p) passed.4);
        }

    when : GrantsRelabel p q → (relabel_answer p q).verdict ≡ granted
    when g =
        rw (g.declared, g.old-valid, g.new-valid, g.process-valid)
        (held-grants 6 (λ (c : Relabel). eqb c.class q.class) _ 0 (relabels p)
        (all_map _ _ (λ c k e. k (eqb-true c.class q.class e)) (relabels p) g.statements-hold))
