-- Rounds of filling the attributes of a family: round k leaves the sets that are nested k deep, and once a round changes nothing no later one
-- does, so that these are the final sets. Assumes nothing.
use Prim.Native.Nat.{ℕ, zero, suc, ◌+◌, ◌-◌, ◌<◌, ◌≤◌}
use native.Mathlib.Nat.{suc-add}
use native.Mathlib.Numerals.{add-one}
use native.Mathlib.Omega.{arith}
use mathlib.Core.Path.{◌≡◌, refl, sym, ap, ◌∙◌}
use mathlib.Core.Bool.{Bool, true, false, false≢true}
use mathlib.Core.List.{List, [], ◌∷◌}
use lib.Dec.{eqb}
use lib.ListN.{length}
use borrow.Author.Tests.{eq-eqb}
use Rattle.bitset.specs.Sets.{set_of, emptied, equal}
use Rattle.bitset.specs.Relations.{relation}
use Rattle.set_rows.proofs.RelationLaws.{relation-ext, relation-empty, relation-equal}
use Rattle.policy.specs.Basics.{any, is_among, All}
use Rattle.policy.specs.Statements.{Family, Policy}
use Rattle.policy.specs.Meaning.{of_s, count_in, union_of, nested, final}
use Rattle.policy.specs.Faults.{mentions, attributes_in, on_cycle}
use Rattle.policy.specs.Accepted.{Accepted}
use Rattle.set_code.specs.Evaluation.{sets_in}
use Rattle.meaning_laws.specs.Mentions.{MentionsDirectly, Mentions, directly, through}
use Rattle.meaning_laws.proofs.ListLaws.{or_left, or_right}
use Rattle.meaning_laws.proofs.FinalSets.{same-union}
use Rattle.meaning_laws.proofs.DirectMention.{mentions-exactly, direct-declared}
use Rattle.meaning_laws.proofs.FamilyCycle as family
use Rattle.code_reader.proofs.Items.{items, sets-items}
use Rattle.code_reader.proofs.Numbers.{few-attributes}
use Rattle.code_reader.proofs.RowLaws.{rows_of, sets-in}

-- what holds of each number among these holds of all
all_among : (P : ℕ → Type 0) (xs : List ℕ) → ((b : ℕ) → is_among b xs ≡ true → P b) → All P xs
unfolding is_among any
all_among P [] h = tt
all_among P (x ∷ xs) h = (h x (or_left (eqb x x) (is_among x xs) (eq-eqb x x refl)), all_among P xs (λ b e. h b (or_right (eqb b x) (is_among b xs) e)))

-- what one round leaves is the union of the S of each attribute
pub round-rows : (p : Policy) (f : Family) (total : ℕ) (sets rows : List ℕ) → total ≡ count_in p f
    → rows ≡ rows_of f (of_s total (sets_in sets)) (items p) → rows ≡ relation 64 64 (union_of p f (sets_in sets))
unfolding union_of
round-rows p f total sets rows t e =
    e ∙ relation-ext 64 64 _ _ (λ a n h l. sym (sets-items f (of_s total (sets_in sets)) a n p) ∙ rw t)

module _ (p : Policy) (ok : Accepted p) (f : Family) where
  -- the rows after k rounds
  abbrev pub after : ℕ → List ℕ
  after k = relation 64 64 (nested k p f)

  -- what one round makes of rows
  abbrev turned : List ℕ → List ℕ
  turned rows = relation 64 64 (union_of p f (sets_in rows))

  all-mentioned : (P : ℕ → Type 0) (a : ℕ) → ((b : ℕ) → b < 64 → P b) → All P (mentions p f a)
  unfolding attributes_in
  all-mentioned P a h = all_among P (mentions p f a)
      (λ b e. h b (omega (arith, (direct-declared p f ok a b ((mentions-exactly p f a b).1 e)).1, few-attributes p ok f)))

  pub first_rows : (s : List ℕ) → length s ≡ 4096 → emptied s ≡ after 0
  unfolding emptied nested
  first_rows s h = ap (λ (w : ℕ). set_of w (λ n. false)) h ∙ sym (relation-empty 64 64)

  next-rows : (k : ℕ) → turned (after k) ≡ after (suc k)
  unfolding nested
  next-rows k = relation-ext 64 64 (union_of p f (sets_in (after k))) (union_of p f (nested k p f))
      (λ a n h l. same-union p f a n (sets_in (after k)) (nested k p f) (all-mentioned _ a (λ b d. sets-in (nested k p f) b n d l)))

  -- one round more
  pub more_rows : (k : ℕ) (sets rows : List ℕ) → sets ≡ after k → rows ≡ turned sets → rows ≡ after (k + 1)
  more_rows k sets rows h e = e ∙ ap turned h ∙ next-rows k ∙ ap after (sym (add-one k))

  -- a round that changes nothing is the last that counts
  rests : (k : ℕ) → after k ≡ after (suc k) → (j : ℕ) → after (j + k) ≡ after k
  rests k h zero = ap after zero-plus
    where
      zero-plus : zero + k ≡ k
      zero-plus = omega arith
  rests k h (suc j) = ap after (suc-add j k) ∙ sym (next-rows (j + k)) ∙ ap turned (rests k h j) ∙ next-rows k ∙ sym h

  pub last-rows : (k : ℕ) (sets rows : List ℕ) → k ≤ 64 → sets ≡ after k → rows ≡ after (k + 1) → equal sets rows ≡ true → sets ≡ relation 64 64 (final p f)
  unfolding final
  last-rows k sets rows l h e same =
      let still : after k ≡ after (suc k) = relation-equal 64 64 (nested k p f) (nested (suc k) p f) (rw (← h, ← add-one k, ← e) same) in
      let all : 64 - k + k ≡ 64 = omega (arith, l) in
      h ∙ sym (rests k still (64 - k)) ∙ ap after all

  pub all-rows : (k : ℕ) (sets : List ℕ) → k ≡ 64 → sets ≡ after k → sets ≡ relation 64 64 (final p f)
  unfolding final
  all-rows k sets e h = h ∙ ap after e

  -- ---- no attribute mentions another

  -- which attributes an attribute mentions itself
  abbrev direct : ℕ → ℕ → Bool
  direct a b = is_among b (mentions p f a)

  -- rows that are equal to rows of nothing
  pub none-mentioned : (rows sets : List ℕ) → rows ≡ relation 64 64 direct → sets ≡ after 0 → equal rows sets ≡ true → rows ≡ after 0
  none-mentioned rows sets h e same = h ∙ relation-equal 64 64 direct (nested 0 p f) (rw (← h, ← e) same)

  module _ (nothing : relation 64 64 direct ≡ after 0) where
    silent : (a b : ℕ) → a < 64 → b < 64 → is_among b (mentions p f a) ≡ false
    unfolding nested
    silent a b h l =
        let far : b < 512 = omega (arith, l) in
        sym (sets-in direct a b h far) ∙ ap (λ (r : List ℕ). sets_in r a b) nothing ∙ sets-in (nested 0 p f) a b h far

    none-directly : (a b : ℕ) → MentionsDirectly p f a b → ⊥
    unfolding attributes_in
    none-directly a b m =
        let d = direct-declared p f ok a b m in
        let few = few-attributes p ok f in
        false≢true (sym (silent a b (omega (arith, d.0, few)) (omega (arith, d.1, few))) ∙ (mentions-exactly p f a b).0 m)

    none-through : {a b : ℕ} → Mentions p f a b → ⊥
    none-through (directly {a} {b} m) = none-directly a b m
    none-through (through m n) = none-through m

    pub off-cycle : (a : ℕ) → on_cycle p f a ≡ false
    off-cycle a = family.off-cycle p f ok a none-through

    -- the sets do not depend on those before, so one round is all
    pub one-round : (rows sets : List ℕ) → rows ≡ after 0 → sets ≡ turned rows → sets ≡ relation 64 64 (final p f)
    unfolding final
    one-round rows sets z e =
        let still : after 1 ≡ after 2 =
        sym (next-rows 0)
        ∙ relation-ext 64 64 (union_of p f (sets_in (after 0))) (union_of p f (sets_in (after 1)))
        (λ a n h l. same-union p f a n (sets_in (after 0)) (sets_in (after 1))
        (all_among _ (mentions p f a) (λ b m. absurd (none-directly a b ((mentions-exactly p f a b).1 m)))))
        ∙ next-rows 1 in
        more_rows 0 rows sets z e ∙ sym (rests 1 still 63)
