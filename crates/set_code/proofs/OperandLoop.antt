-- The loop over an operator's operands: what it has read and made so far, and what is still to come, make the set of S. Assumes nothing.
use Prim.Native.Nat.{ℕ, ◌+◌, ◌<◌, ◌≤◌}
use native.Mathlib.Omega.{arith}
use mathlib.Core.Path.{◌≡◌, refl, ap, ◌∙◌}
use mathlib.Core.Logic.{◌⊎◌, inl, inr}
use mathlib.Core.Bool.{Bool, ◌||◌}
use mathlib.Core.List.{List, [], ◌∷◌, ◌++◌, append_assoc}
use lib.Dec.{ltb}
use lib.ListN.{length, get_or, drop, length-append, length-drop}
use Rattle.bitset.specs.Sets.{set_of, union_of}
use Rattle.bitset.proofs.SetLaws.{set_of-ext}
use Rattle.policy.specs.Statements.{Reference, SetExpr, name_s}
use Rattle.policy.specs.Meaning.{of_s}
use Rattle.policy.specs.Basics.{All}
use Rattle.statement_code.specs.Code.{reference_unit, all_unit, end_unit, set_code}
use Rattle.set_code.specs.Evaluation.{sets_in, value_of, start_of, join_of, joined_by, Evaluates}
use Rattle.statement_code.specs.Numbered.{NumberedR, Numbered}
use Rattle.set_code.proofs.Leaves.{value-of-reference, joined-sets, joined-union}
use Rattle.set_code.proofs.Nodes.{codes, folded, Node, node}
use Rattle.set_code.proofs.Places.{Here, here, behind}

-- what is at a place where the code of e stands: a reference, or an operator and its operands
data First (code : List ℕ) (at total : ℕ) (sets : List ℕ) (e : SetExpr Reference) (rest : List ℕ) : Type 0 where
  name : (r : Reference) → e ≡ name_s r → NumberedR r → Here code at (reference_unit r) rest → First code at total sets e rest
  operator : (m : Node total (sets_in sets) e) → Here code at m.op (codes m.xs ++ (end_unit ∷ rest)) → First code at total sets e rest

-- a reference's unit is below the operators
reference-below : (r : Reference) → NumberedR r → reference_unit r < all_unit
reference-below (Reference.thing n) h = omega (arith, h)
reference-below (Reference.attribute a) h = omega (arith, h)

module _ (code : List ℕ) (at total : ℕ) (sets : List ℕ) (e : SetExpr Reference) (rest : List ℕ) (small : Numbered e) (q : drop at code ≡ set_code e ++ rest) where
  first : First code at total sets e rest
  unfolding set_code
  first = go (node total (sets_in sets) e)
    where
      go : ((r : Reference) × (e ≡ name_s r)) ⊎ Node total (sets_in sets) e → First code at total sets e rest
      go (inl (r, p)) = name r p (rw p at small) (here code at (reference_unit r) rest (q ∙ ap (λ x. set_code x ++ rest) p))
      go (inr m) = operator m (here code at m.op (codes m.xs ++ (end_unit ∷ rest))
          (q ∙ ap (λ c. c ++ rest) m.code ∙ ap {B = List ℕ} (λ c. m.op ∷ c) (append_assoc (codes m.xs) (end_unit ∷ []) rest)))

  -- no code stands past the end, and none starts with the end mark
  pub none-past : length code ≤ at → ⊥
  none-past h = go first
    where
      go : First code at total sets e rest → ⊥
      go (name r p k w) = omega (arith, h, w.inside)
      go (operator m w) = omega (arith, h, w.inside)

  no_end : get_or code at 0 ≡ end_unit → ⊥
  no_end h = go first
    where
      go : First code at total sets e rest → ⊥
      go (name r p k w) = omega (arith, h, w.unit, reference-below r k)
      go (operator m w) = omega (arith, h, w.unit, m.operator)

module _ (code : List ℕ) (at total : ℕ) (sets : List ℕ) where
  -- what evaluating at this place is to leave and to answer
  abbrev Right : SetExpr Reference → List ℕ → ℕ → Type 0
  Right e out r = (out ≡ set_of 64 (of_s total (sets_in sets) e)) × (r ≡ at + length (set_code e))

  of-reference : (e : SetExpr Reference) (rest : List ℕ) → Numbered e → drop at code ≡ set_code e ++ rest
      → get_or code at 0 < all_unit → Right e (set_of 64 (value_of sets (get_or code at 0))) (at + 1)
  unfolding set_code of_s
  of-reference e rest small q h = go (first code at total sets e rest small q)
    where
      go : First code at total sets e rest → Right e (set_of 64 (value_of sets (get_or code at 0))) (at + 1)
      go (name r p k w) = rw (p, w.unit)
          (set_of-ext 64 (value_of sets (reference_unit r)) (of_s total (sets_in sets) (name_s r)) (λ n l. value-of-reference sets r k n), refl)
      go (operator m w) = absurd (omega (arith, h, w.unit, m.operator))

  pub evaluates-reference : get_or code at 0 < all_unit → Evaluates code at total sets (set_of 64 (value_of sets (get_or code at 0))) (at + 1)
  evaluates-reference h = record { forward = λ l. omega arith; right = λ e rest n q. of-reference e rest n q h }

module _ (code : List ℕ) (at total : ℕ) (sets : List ℕ) where
  -- whether n is in S
  abbrev the : ℕ → SetExpr Reference → Bool
  the n x = of_s total (sets_in sets) x n

  -- the code that is left from a place on is that of these operands; with them the set becomes that of e
  pub record Ahead (op : ℕ) (out : List ℕ) (place : ℕ) (e : SetExpr Reference) (rest : List ℕ) : Type 0 where
    pub xs : List (SetExpr Reference)
    pub numbered : All Numbered xs
    pub left : drop place code ≡ codes xs ++ (end_unit ∷ rest)
    pub till : place + length (codes xs) + 1 ≡ at + length (set_code e)
    pub rule : ℕ → Bool
    pub made : out ≡ set_of 64 rule
    pub value : (n : ℕ) → n < 512 → folded op (the n) (rule n) xs ≡ the n e

  pub started : (e : SetExpr Reference) (rest : List ℕ) → Numbered e → drop at code ≡ set_code e ++ rest
      → all_unit ≤ get_or code at 0 → Ahead (get_or code at 0) (set_of 64 (λ n. ltb n (start_of (get_or code at 0) total))) (at + 1) e rest
  started e rest small q h = go (first code at total sets e rest small q)
    where
      go : First code at total sets e rest → Ahead (get_or code at 0) (set_of 64 (λ n. ltb n (start_of (get_or code at 0) total))) (at + 1) e rest
      go (name r p k w) = absurd (omega (arith, h, w.unit, reference-below r k))
      go (operator m w) = rw w.unit (record {
        xs = m.xs;
        numbered = m.numbered small;
        left = w.tail;
        till = omega (arith, ap length m.code, length-append (codes m.xs) (end_unit ∷ []));
        rule = λ n. ltb n (start_of m.op total);
        made = refl;
        value = m.value;
      })

  module _ (op : ℕ) (out : List ℕ) (place : ℕ) (e : SetExpr Reference) (rest : List ℕ) (p : Ahead op out place e rest) where
    -- the end mark is still in the code
    pub not-past : length code ≤ place → ⊥
    not-past h = omega (arith, h, ap length p.left, length-drop place code, length-append (codes p.xs) (end_unit ∷ rest))

    -- at the end mark no operand is left
    pub ended : get_or code place 0 ≡ end_unit → Right code at total sets e out (place + 1)
    unfolding codes folded
    ended h = go p.xs p.numbered p.left p.till p.value
      where
        go : (xs : List (SetExpr Reference)) → All Numbered xs → drop place code ≡ codes xs ++ (end_unit ∷ rest)
            → place + length (codes xs) + 1 ≡ at + length (set_code e)
            → ((n : ℕ) → n < 512 → folded op (the n) (p.rule n) xs ≡ the n e) → Right code at total sets e out (place + 1)
        go [] k q t v = (p.made ∙ set_of-ext 64 p.rule (of_s total (sets_in sets) e) v, omega (arith, t))
        go (x ∷ xs) k q t v = absurd (no_end code place total sets x (codes xs ++ (end_unit ∷ rest)) k.0 (q ∙ append_assoc (set_code x) (codes xs) (end_unit ∷ rest)) h)

    -- elsewhere an operand is read, and joined to the set
    pub further : (get_or code place 0 ≡ end_unit → ⊥) → (operand : List ℕ) (r : ℕ) → Evaluates code place total sets operand r
        → Ahead op (joined_by op out operand) r e rest
    unfolding codes folded
    further h operand r v = go p.xs p.numbered p.left p.till p.value
      where
        go : (xs : List (SetExpr Reference)) → All Numbered xs → drop place code ≡ codes xs ++ (end_unit ∷ rest)
            → place + length (codes xs) + 1 ≡ at + length (set_code e)
            → ((n : ℕ) → n < 512 → folded op (the n) (p.rule n) xs ≡ the n e) → Ahead op (joined_by op out operand) r e rest
        go [] k q t u = absurd (h (here code place end_unit rest q).unit)
        go (x ∷ xs) k q t u =
            let q' = q ∙ append_assoc (set_code x) (codes xs) (end_unit ∷ rest) in
            let read = v.right x (codes xs ++ (end_unit ∷ rest)) k.0 q' in
            record {
              xs = xs;
              numbered = k.1;
              left = ap (λ (n : ℕ). drop n code) read.1 ∙ behind code place (set_code x) (codes xs ++ (end_unit ∷ rest)) q';
              till = omega (arith, t, read.1, length-append (set_code x) (codes xs));
              rule = λ n. join_of op (p.rule n) (the n x);
              made = rw (p.made, read.0) (joined-sets op p.rule (of_s total (sets_in sets) x));
              value = u;
            }

    -- where the operator only adds, a reference is added straight away
    pub further-reference : get_or code place 0 < all_unit → ((a b : Bool) → join_of op a b ≡ (a || b))
        → Ahead op (union_of out (set_of 64 (value_of sets (get_or code place 0)))) (place + 1) e rest
    further-reference h adds =
        let operand = set_of 64 (value_of sets (get_or code place 0)) in
        rw (← joined-union op out operand adds) (further (λ q. omega (arith, h, q)) operand (place + 1) (evaluates-reference code place total sets h))
