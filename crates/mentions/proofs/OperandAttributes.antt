-- The attributes among the operands at a place: what a loop over them has collected. Those among the units of S are those that S mentions. By
-- induction on S. Assumes nothing.
use Prim.Native.Nat.{ℕ, ◌+◌, ◌-◌, ◌<◌, ◌≤◌}
use native.Mathlib.Omega.{arith}
use mathlib.Core.Path.{◌≡◌, refl, sym, ap, ◌∙◌, ap₂}
use mathlib.Core.Logic.{◌⊎◌, inl, inr}
use mathlib.Core.Bool.{Bool, true, false, ◌||◌, or_assoc, or-false}
use mathlib.Core.List.{List, [], ◌∷◌, ◌++◌}
use lib.Dec.{eqb}
use lib.ListN.{length, get_or, drop}
use borrow.Author.Tests.{eqb-true, eqb-false, eq-eqb, ne_eqb}
use Rattle.bitset.specs.Sets.{set_of, inserted, emptied}
use Rattle.bitset.proofs.SetLaws.{set_of-ext, inserted-set_of}
use Rattle.policy.specs.Basics.{any, is_among}
use Rattle.meaning_laws.proofs.ListLaws.{decided}
use Rattle.code_reader.specs.Reading.{operands_of}
use Rattle.policy.specs.Statements.{Reference, thing, attribute, SetExpr, name_s, all_s, not_s, and_s, or_s, xor_s, union_s, empty_s}
use Rattle.policy.specs.Faults.{mentions_r, mentions_s}
use Rattle.policy.proofs.Lists.{any_append}
use Rattle.statement_code.specs.Code.{reference_unit, end_unit, set_code, row_code}
use Rattle.statement_code.specs.Numbered.{NumberedR, Numbered}
use Rattle.code_reader.proofs.OperandLaws.{operands_next}

-- the attributes among them
pub attribute-unit : (b u : ℕ) → 1024 ≤ u → eqb b (u - 1024) ≡ eqb (1024 + b) u
attribute-unit b u h = by (decided (eqb (1024 + b) u))
  where
    by : (eqb (1024 + b) u ≡ true) ⊎ (eqb (1024 + b) u ≡ false) → eqb b (u - 1024) ≡ eqb (1024 + b) u
    by (inl e) = eq-eqb b (u - 1024) (omega (arith, eqb-true (1024 + b) u e)) ∙ sym e
    by (inr e) = ne_eqb b (u - 1024) (λ q. eqb-false (1024 + b) u e (omega (arith, h, q))) ∙ sym e

-- the set holds the attributes among the operands up to a place
pub record Collected (code : List ℕ) (from : ℕ) (out : List ℕ) (at : ℕ) : Type 0 where
  pub rule : ℕ → Bool
  pub made : out ≡ set_of 64 rule
  pub whole : (b : ℕ) → (rule b || is_among (1024 + b) (operands_of (drop at code))) ≡ is_among (1024 + b) (operands_of (drop from code))

module _ (code : List ℕ) (from : ℕ) where
  pub collected-none : (s : List ℕ) → length s ≡ 64 → Collected code from (emptied s) from
  unfolding emptied
  collected-none s h = record { rule = λ b. false; made = ap (λ (w : ℕ). set_of w (λ n. false)) h; whole = λ b. refl }

  module _ (out : List ℕ) (at : ℕ) (inside : at < length code) (operand : get_or code at 0 < 4096) (c : Collected code from out at) where
    -- a thing or an operator is passed over, an attribute is put in
    pub collected-over : get_or code at 0 < 1024 → Collected code from out (at + 1)
    unfolding is_among any
    collected-over l = record {
      rule = c.rule;
      made = c.made;
      whole = λ b. sym (ap (λ (t : Bool). c.rule b || t)
          (ap (is_among (1024 + b)) (operands_next code at inside operand)
          ∙ ap (λ (t : Bool). t || is_among (1024 + b) (operands_of (drop (at + 1) code))) (ne_eqb (1024 + b) (get_or code at 0) (omega (arith, l)))))
          ∙ c.whole b;
    }

    pub collected-more : 1024 ≤ get_or code at 0 → Collected code from (inserted out (get_or code at 0 - 1024)) (at + 1)
    unfolding is_among any
    collected-more l = record {
      rule = λ b. c.rule b || eqb b (get_or code at 0 - 1024);
      made = ap (λ (s : List ℕ). inserted s (get_or code at 0 - 1024)) c.made ∙ inserted-set_of 64 c.rule (get_or code at 0 - 1024);
      whole = λ b.
          ap (λ (t : Bool). (c.rule b || t) || is_among (1024 + b) (operands_of (drop (at + 1) code))) (attribute-unit b (get_or code at 0) l)
          ∙ or_assoc (c.rule b) (eqb (1024 + b) (get_or code at 0)) (is_among (1024 + b) (operands_of (drop (at + 1) code)))
          ∙ ap (λ (t : List ℕ). c.rule b || is_among (1024 + b) t) (sym (operands_next code at inside operand))
          ∙ c.whole b;
    }

  pub collected-all : (out : List ℕ) (at : ℕ) → operands_of (drop at code) ≡ [] → Collected code from out at
      → out ≡ set_of 64 (λ b. is_among (1024 + b) (operands_of (drop from code)))
  unfolding is_among any
  collected-all out at h c = c.made ∙ set_of-ext 64 c.rule (λ b. is_among (1024 + b) (operands_of (drop from code)))
      (λ b l. sym (or-false (c.rule b)) ∙ ap (λ (t : List ℕ). c.rule b || is_among (1024 + b) t) (sym h) ∙ c.whole b)

-- ---- the attributes among the units of S

module _ (b : ℕ) (l : b < 1024) where
  -- the unit of attribute b is among these
  abbrev Has : List ℕ → Bool
  Has us = is_among (1024 + b) us

  has-append : (xs ys : List ℕ) → Has (xs ++ ys) ≡ (Has xs || Has ys)
  unfolding is_among
  has-append xs ys = any_append (eqb (1024 + b)) xs ys

  among-append : (us vs : List ℕ) → is_among b (us ++ vs) ≡ (is_among b us || is_among b vs)
  unfolding is_among
  among-append us vs = any_append (eqb b) us vs

  -- no operator and no end mark has it
  has-over : (u : ℕ) (us : List ℕ) → 2048 ≤ u → Has (u ∷ us) ≡ Has us
  unfolding is_among any
  has-over u us h = rw (ne_eqb (1024 + b) u (omega (arith, l, h)))

  has_end : Has (end_unit ∷ []) ≡ false
  unfolding is_among any
  has_end = has-over end_unit [] (omega arith)

  has-ends : Has (end_unit ∷ end_unit ∷ []) ≡ false
  has-ends = has-over end_unit (end_unit ∷ []) (omega arith) ∙ has_end

  has-before : (xs es : List ℕ) → Has es ≡ false → Has (xs ++ es) ≡ Has xs
  has-before xs es h = has-append xs es ∙ ap (λ (t : Bool). Has xs || t) h ∙ or-false (Has xs)

  has_one : (op : ℕ) (xs es : List ℕ) → 2048 ≤ op → Has es ≡ false → Has (op ∷ (xs ++ es)) ≡ Has xs
  has_one op xs es h e = has-over op (xs ++ es) h ∙ has-before xs es e

  -- an operator with two operands mentions what they mention
  has-two : (op : ℕ) (xs ys es us vs : List ℕ) → 2048 ≤ op → Has es ≡ false → Has xs ≡ is_among b us → Has ys ≡ is_among b vs
      → Has (op ∷ (xs ++ (ys ++ es))) ≡ is_among b (us ++ vs)
  unfolding is_among
  has-two op xs ys es us vs h e x y =
      has-over op (xs ++ (ys ++ es)) h ∙ has-append xs (ys ++ es) ∙ ap₂ ◌||◌ x (has-before ys es e ∙ y) ∙ sym (among-append us vs)

  same_number : (a : ℕ) → eqb (1024 + b) (1024 + a) ≡ eqb b a
  same_number a = sym (attribute-unit b (1024 + a) (omega arith)) ∙ ap (eqb b) number
    where
      number : 1024 + a - 1024 ≡ a
      number = omega arith

  has-reference : (r : Reference) → NumberedR r → Has (reference_unit r ∷ []) ≡ is_among b (mentions_r r)
  unfolding is_among any
  has-reference (thing n) h = rw (ne_eqb (1024 + b) n (omega (arith, h)))
  has-reference (attribute a) h = rw (same_number a)

  -- of S as an operand, and as the further operands of a union
  has-S : (s : SetExpr Reference) → Numbered s → (Has (set_code s) ≡ is_among b (mentions_s s)) × (Has (row_code s) ≡ is_among b (mentions_s s))
  unfolding set_code mentions_s is_among any
  has-S (name_s r) h = (has-reference r h, has-before (reference_unit r ∷ []) (end_unit ∷ []) has_end ∙ has-reference r h)
  has-S all_s h = (has-over 2048 (end_unit ∷ []) (omega arith) ∙ has_end, has-over 2048 (end_unit ∷ end_unit ∷ []) (omega arith) ∙ has-ends)
  has-S (not_s x) h = (
    has_one 2049 (set_code x) (end_unit ∷ []) (omega arith) has_end ∙ (has-S x h).0,
    has_one 2049 (set_code x) (end_unit ∷ end_unit ∷ []) (omega arith) has-ends ∙ (has-S x h).0,
  )
  has-S (and_s x y) h = (
    has-two 2050 (set_code x) (set_code y) _ (mentions_s x) (mentions_s y) (omega arith) has_end (has-S x h.0).0 (has-S y h.1).0,
    has-two 2050 (set_code x) (set_code y) _ (mentions_s x) (mentions_s y) (omega arith) has-ends (has-S x h.0).0 (has-S y h.1).0,
  )
  has-S (or_s x y) h = (
    has-two 2051 (set_code x) (set_code y) _ (mentions_s x) (mentions_s y) (omega arith) has_end (has-S x h.0).0 (has-S y h.1).0,
    has-two 2051 (set_code x) (set_code y) _ (mentions_s x) (mentions_s y) (omega arith) has-ends (has-S x h.0).0 (has-S y h.1).0,
  )
  has-S (xor_s x y) h = (
    has-two 2052 (set_code x) (set_code y) _ (mentions_s x) (mentions_s y) (omega arith) has_end (has-S x h.0).0 (has-S y h.1).0,
    has-two 2052 (set_code x) (set_code y) _ (mentions_s x) (mentions_s y) (omega arith) has-ends (has-S x h.0).0 (has-S y h.1).0,
  )
  has-S (union_s x y) h =
      let both = has-append (set_code x) (row_code y) ∙ ap₂ ◌||◌ (has-S x h.0).0 (has-S y h.1).1 ∙ sym (among-append (mentions_s x) (mentions_s y)) in
      (has-over 2053 (set_code x ++ row_code y) (omega arith) ∙ both, both)
  has-S empty_s h = (has-over 2053 (end_unit ∷ []) (omega arith) ∙ has_end, has_end)

  -- THE ATTRIBUTES AMONG ITS UNITS are those that S mentions
  pub units-mention : (s : SetExpr Reference) → Numbered s → is_among (1024 + b) (set_code s) ≡ is_among b (mentions_s s)
  units-mention s h = (has-S s h).0
