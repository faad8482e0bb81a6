-- Closing rows of mentions adds exactly the mentions through others. Once every k below a bound is gone through, two mentions that meet
-- below it make a third; the bound 64 is past every attribute. By induction on the bound. Assumes nothing.
use Prim.Native.Nat.{ℕ, zero, suc, ◌*◌, ◌/◌, ◌%◌, ◌<◌, ◌≤◌}
use native.Mathlib.Omega.{arith}
use mathlib.Core.Path.{◌≡◌, refl, sym, ap, ap₂, ◌∙◌, subst}
use mathlib.Core.Logic.{◌⊎◌, inl, inr}
use mathlib.Core.Bool.{Bool, true, false, not, ◌&&◌, ◌||◌, or-false, and-false, false≢true}
use mathlib.Core.List.{List}
use lib.Dec.{eqb, ltb}
use lib.ListN.{length, get_or, take}
use borrow.Author.Tests.{lt-ltb, ltb-true, ltb-false, eqb-true, eqb-false, not-true}
use Rattle.bitset.specs.Sets.{member, set_of, all_below, within}
use Rattle.byte_slices.specs.Parts.{part}
use Rattle.bitset.specs.Relations.{relation, granted}
use Rattle.bitset.proofs.SetLaws.{set_of-ext, length-set_of, member-set_of, set-eq}
use Rattle.set_rows.proofs.GrantLaws.{member-take}
use Rattle.bitset.proofs.AllLaws.{all_below-at, within-below}
use Rattle.set_rows.proofs.RelationLaws.{relation-ext, granted-sets}
use Rattle.policy.specs.Basics.{is_among}
use Rattle.policy.specs.Statements.{Family, Policy}
use Rattle.policy.specs.Faults.{mentions, attributes_in, on_cycle}
use Rattle.policy.specs.Accepted.{Accepted}
use Rattle.policy.proofs.Lists.{both_true, true-both, same_tests}
use Rattle.set_code.specs.Evaluation.{sets_in}
use Rattle.meaning_laws.specs.Mentions.{Mentions, directly, through}
use Rattle.meaning_laws.proofs.ListLaws.{decided, or_left, or_right, from_either}
use Rattle.meaning_laws.proofs.CountLaws.{lower}
use Rattle.meaning_laws.proofs.DirectMention.{mentions-exactly, mentions-declared}
use Rattle.meaning_laws.proofs.Reachability.{on-cycle-exactly}
use Rattle.mentions.specs.Closure.{column_of, through_of, closed_of}
use Rattle.code_reader.proofs.Numbers.{few-attributes}
use Rattle.code_reader.proofs.RowLaws.{sets-in}

-- ---- rows by their rule

pub length-column : (rows : List ℕ) (k : ℕ) → length (column_of rows k) ≡ 64
unfolding column_of
length-column rows k = length-set_of 64 (λ a. ltb a 64 && sets_in rows a k)

module _ (R : ℕ → ℕ → Bool) where
  through-rule : (k : ℕ) → k < 64 → through_of (relation 64 64 R) k ≡ relation 64 64 (λ a b. R a b || (R a k && R k b))
  unfolding through_of column_of
  through-rule k l =
      ap (granted 64 (relation 64 64 R) (column_of (relation 64 64 R) k)) (set_of-ext 64 (sets_in (relation 64 64 R) k) (R k) (λ b j. sets-in R k b l j))
      ∙ granted-sets 64 64 64 64 R holds (R k) (omega arith) (omega arith)
      ∙ relation-ext 64 64 (λ a b. R a b || (holds a && R k b)) (λ a b. R a b || (R a k && R k b))
      (λ a b h j. ap (λ (t : Bool). R a b || (t && R k b)) (ap₂ ◌&&◌ (lt-ltb a 64 h) (sets-in R a k h (omega (arith, l)))))
    where
      holds : ℕ → Bool
      holds a = ltb a 64 && sets_in (relation 64 64 R) a k

-- ---- an empty row

-- gone through, it changes nothing
pub through_empty : (rows : List ℕ) (k : ℕ) → ((i : ℕ) → get_or rows i 0 < 256) → within 0 (part rows (64 * k) 64) ≡ true → through_of rows k ≡ rows
unfolding through_of granted sets_in
through_empty rows k small none =
    sym (set-eq rows (λ m. member rows m || gains m) small (λ m l. sym (ap (λ (b : Bool). member rows m || b) (nothing m) ∙ or-false (member rows m))))
  where
    gains : ℕ → Bool
    gains m = member (column_of rows k) (m / 512) && member (take 64 (set_of 64 (sets_in rows k))) (m % 512)

    nothing : (m : ℕ) → gains m ≡ false
    nothing m =
        ap (λ (b : Bool). member (column_of rows k) (m / 512) && b)
        (member-take 64 (set_of 64 (sets_in rows k)) (m % 512) (omega arith) ∙ member-set_of 64 (sets_in rows k) (m % 512) (omega arith)
        ∙ within-below 0 (part rows (64 * k) 64) none (m % 512) (omega arith))
        ∙ and-false (member (column_of rows k) (m / 512))

-- ---- the rule of closed rows

closed : ℕ → (ℕ → ℕ → Bool) → ℕ → ℕ → Bool
closed zero R a b = R a b
closed (suc k) R a b = closed k R a b || (closed k R a k && closed k R k b)

closed-rule : (R : ℕ → ℕ → Bool) (k : ℕ) → k ≤ 64 → closed_of k (relation 64 64 R) ≡ relation 64 64 (closed k R)
unfolding closed_of closed
closed-rule R zero l = refl
closed-rule R (suc k) l = ap (λ (t : List ℕ). through_of t k) (closed-rule R k (omega (arith, l))) ∙ through-rule (closed k R) k (omega (arith, l))

-- ---- two mentions that meet below the bound make a third

module _ (R : ℕ → ℕ → Bool) where
  -- a mentions b after k rounds
  abbrev To : ℕ → ℕ → ℕ → Type 0
  To k a b = closed k R a b ≡ true

  kept : (k a b : ℕ) → To k a b → To (suc k) a b
  unfolding closed
  kept k a b h = or_left (closed k R a b) (closed k R a k && closed k R k b) h

  joined : (k a b : ℕ) → To k a k → To k k b → To (suc k) a b
  unfolding closed
  joined k a b h j = or_right (closed k R a b) (closed k R a k && closed k R k b) (true-both (closed k R a k) (closed k R k b) h j)

  from-before : {P : Type 0} (k a b : ℕ) → To (suc k) a b → (To k a b → P) → (To k a k → To k k b → P) → P
  unfolding closed
  from-before k a b h f g = from_either (closed k R a b) (closed k R a k && closed k R k b) f
      (λ e. let both = both_true (closed k R a k) (closed k R k b) e in g both.0 both.1) h

  met : (k j a b : ℕ) → j < k → To k a j → To k j b → To k a b
  met zero j a b l h g = absurd (omega (arith, l))
  met (suc k) j a b l h g = by (met k j) (decided (eqb j k))
    where
      -- what leads to k or away from it is as before
      into : (x : ℕ) → To (suc k) x k → To k x k
      into x e = from-before k x k e (λ q. q) (λ q r. q)

      out_of : (y : ℕ) → To (suc k) k y → To k k y
      out_of y e = from-before k k y e (λ q. q) (λ q r. r)

      by : ((x y : ℕ) → j < k → To k x j → To k j y → To k x y) → (eqb j k ≡ true) ⊎ (eqb j k ≡ false) → To (suc k) a b
      by ih (inl e) =
          let same = eqb-true j k e in
          joined k a b (into a (subst (λ (x : ℕ). To (suc k) a x) same h)) (out_of b (subst (λ (x : ℕ). To (suc k) x b) same g))
      by ih (inr e) =
          let less = lower j k l (eqb-false j k e) in
          from-before k a j h
          (λ p. from-before k j b g
          (λ q. kept k a b (ih a b less p q))
          (λ q r. joined k a b (ih a k less p q) r))
          (λ p p'. from-before k j b g
          (λ q. joined k a b p (ih k b less p' q))
          (λ q r. joined k a b p r))

  first-kept : (k a b : ℕ) → R a b ≡ true → To k a b
  unfolding closed
  first-kept zero a b h = h
  first-kept (suc k) a b h = kept k a b (first-kept k a b h)

-- ---- of the mentions of a policy

module _ (p : Policy) (f : Family) (ok : Accepted p) where
  -- b is in the list of what a mentions
  abbrev pub names : ℕ → ℕ → Bool
  names a b = is_among b (mentions p f a)

  below_64 : (a b : ℕ) → Mentions p f a b → (a < 64) × (b < 64)
  unfolding attributes_in
  below_64 a b m = let d = mentions-declared p f ok m in (omega (arith, d.0, few-attributes p ok f), omega (arith, d.1, few-attributes p ok f))

  only-mentions : (k a b : ℕ) → closed k names a b ≡ true → Mentions p f a b
  unfolding closed
  only-mentions zero a b h = directly ((mentions-exactly p f a b).1 h)
  only-mentions (suc k) a b h = from-before names k a b h (only-mentions k a b) (λ x y. through (only-mentions k a k x) (only-mentions k k b y))

  all-mentions : {a b : ℕ} → Mentions p f a b → closed 64 names a b ≡ true
  all-mentions (directly {a} {b} m) = first-kept names 64 a b ((mentions-exactly p f a b).0 m)
  all-mentions (through {a} {b} {c} m n) = met names 64 b a c (below_64 a b m).1 (all-mentions m) (all-mentions n)

  -- ON A CYCLE is what is in its own closed row
  pub own_row : (rows : List ℕ) → rows ≡ closed_of 64 (relation 64 64 names) → (a : ℕ) → (ltb a 64 && sets_in rows a a) ≡ on_cycle p f a
  own_row rows e a = by (decided (ltb a 64))
    where
      on : closed 64 names a a ≡ on_cycle p f a
      on = same_tests (closed 64 names a a) (on_cycle p f a)
          (λ h. (on-cycle-exactly p f ok a).1 (only-mentions 64 a a h)) (λ h. all-mentions ((on-cycle-exactly p f ok a).0 h))

      off : 64 ≤ a → false ≡ on_cycle p f a
      off l = same_tests false (on_cycle p f a) (λ h. absurd (false≢true h))
          (λ h. absurd (omega (arith, l, (below_64 a a ((on-cycle-exactly p f ok a).0 h)).0)))

      by : (ltb a 64 ≡ true) ⊎ (ltb a 64 ≡ false) → (ltb a 64 && sets_in rows a a) ≡ on_cycle p f a
      by (inl h) =
          let l = ltb-true a 64 h in
          ap (λ (t : Bool). t && sets_in rows a a) h
          ∙ ap (λ (t : List ℕ). sets_in t a a) (e ∙ closed-rule names 64 (omega arith))
          ∙ sets-in (closed 64 names) a a l (omega (arith, l)) ∙ on
      by (inr h) = ap (λ (t : Bool). t && sets_in rows a a) h ∙ off (ltb-false a 64 h)

-- where no attribute below 64 is in its own row, no number at all is
pub no-own-row : (rows : List ℕ) → all_below 64 (λ a. not (sets_in rows a a)) ≡ true → (a : ℕ) → (ltb a 64 && sets_in rows a a) ≡ false
no-own-row rows h a = by (decided (ltb a 64))
  where
    by : (ltb a 64 ≡ true) ⊎ (ltb a 64 ≡ false) → (ltb a 64 && sets_in rows a a) ≡ false
    by (inl e) = ap (λ (t : Bool). t && sets_in rows a a) e ∙ not-true (sets_in rows a a) (all_below-at 64 (λ x. not (sets_in rows x x)) h a (ltb-true a 64 e))
    by (inr e) = ap (λ (t : Bool). t && sets_in rows a a) e
