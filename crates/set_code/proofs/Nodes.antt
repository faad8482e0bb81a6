-- S is a reference, or an operator and its operands: its code is the operator, the operands' codes and the end mark, and its set is what the
-- operator makes of its first set and each operand in turn. By cases of S. Assumes nothing.
use Prim.Native.Nat.{ℕ, ◌<◌, ◌≤◌}
use native.Mathlib.Omega.{arith}
use mathlib.Core.Path.{◌≡◌, refl, sym, ◌∙◌}
use mathlib.Core.Logic.{◌⊎◌, inl, inr}
use mathlib.Core.Bool.{Bool, true, false, ◌||◌, xor, or_assoc, or-false}
use mathlib.Core.List.{List, [], ◌∷◌, ◌++◌, append-nil, append_assoc}
use lib.Dec.{ltb}
use borrow.Author.Tests.{lt-ltb, le-ltb}
use Rattle.policy.specs.Statements.{Reference, SetExpr, name_s, all_s, not_s, and_s, or_s, xor_s, union_s, empty_s}
use Rattle.policy.specs.Meaning.{Set, one_of, of_s}
use Rattle.policy.specs.Basics.{All}
use Rattle.statement_code.specs.Code.{all_unit, not_unit, and_unit, or_unit, xor_unit, union_unit, end_unit, set_code, row_code}
use Rattle.set_code.specs.Evaluation.{start_of, join_of}
use Rattle.statement_code.specs.Numbered.{Numbered}

-- the codes of operands, one after the other
unfoldable pub codes : List (SetExpr Reference) → List ℕ
codes [] = []
codes (x ∷ xs) = set_code x ++ codes xs

-- whether a number is in what an operator makes of its set and these operands, from whether it is in each
unfoldable pub folded : ℕ → (SetExpr Reference → Bool) → Bool → List (SetExpr Reference) → Bool
folded op holds b [] = b
folded op holds b (x ∷ xs) = folded op holds (join_of op b (holds x)) xs

-- the operands of a union from the second on
listed : SetExpr Reference → List (SetExpr Reference)
listed (union_s x y) = x ∷ listed y
listed empty_s = []
listed (name_s r) = name_s r ∷ []
listed all_s = all_s ∷ []
listed (not_s x) = not_s x ∷ []
listed (and_s x y) = and_s x y ∷ []
listed (or_s x y) = or_s x y ∷ []
listed (xor_s x y) = xor_s x y ∷ []

row_listed : (y : SetExpr Reference) → row_code y ≡ codes (listed y) ++ (end_unit ∷ [])
unfolding listed codes set_code
row_listed (union_s x y) = rw (append_assoc (set_code x) (codes (listed y)) (end_unit ∷ []), row_listed y)
row_listed empty_s = refl
row_listed (name_s r) = refl
row_listed all_s = refl
row_listed (not_s x) = simp (append-nil, append_assoc)
row_listed (and_s x y) = simp (append-nil, append_assoc)
row_listed (or_s x y) = simp (append-nil, append_assoc)
row_listed (xor_s x y) = simp (append-nil, append_assoc)

numbered-listed : (y : SetExpr Reference) → Numbered y → All Numbered (listed y)
unfolding listed
numbered-listed (union_s x y) h = (h.0, numbered-listed y h.1)
numbered-listed empty_s h = tt
numbered-listed (name_s r) h = (h, tt)
numbered-listed all_s h = (h, tt)
numbered-listed (not_s x) h = (h, tt)
numbered-listed (and_s x y) h = (h, tt)
numbered-listed (or_s x y) h = (h, tt)
numbered-listed (xor_s x y) h = (h, tt)

xor-one-of : (a b : Bool) → xor (xor false a) b ≡ one_of a b
unfolding xor
xor-one-of true true = refl
xor-one-of true false = refl
xor-one-of false true = refl
xor-one-of false false = refl

module _ (total : ℕ) (sets : ℕ → Set) where
  -- S as a test of n
  abbrev the : ℕ → SetExpr Reference → Bool
  the n x = of_s total sets x n

  union-listed : (n : ℕ) (b : Bool) (y : SetExpr Reference) → folded union_unit (the n) b (listed y) ≡ (b || the n y)
  unfolding folded listed of_s
  union-listed n b (union_s x y) = union-listed n (b || the n x) y ∙ or_assoc b (the n x) (the n y)
  union-listed n b empty_s = sym (or-false b)
  union-listed n b (name_s r) = refl
  union-listed n b all_s = refl
  union-listed n b (not_s x) = refl
  union-listed n b (and_s x y) = refl
  union-listed n b (or_s x y) = refl
  union-listed n b (xor_s x y) = refl

  -- an operator and its operands
  pub record Node (e : SetExpr Reference) : Type 0 where
    pub op : ℕ
    pub xs : List (SetExpr Reference)
    pub code : set_code e ≡ op ∷ (codes xs ++ (end_unit ∷ []))
    pub operator : (all_unit ≤ op) × (op < end_unit)
    pub numbered : Numbered e → All Numbered xs
    pub value : (n : ℕ) → n < 512 → folded op (the n) (ltb n (start_of op total)) xs ≡ the n e

  pub node : (e : SetExpr Reference) → ((r : Reference) × (e ≡ name_s r)) ⊎ Node e
  unfolding folded codes set_code of_s
  node (name_s r) = inl (r, refl)
  node all_s = inr (record { op = all_unit; xs = []; code = refl; operator = omega arith; numbered = λ h. tt; value = λ n l. refl })
  node (not_s x) = inr (record { op = not_unit; xs = x ∷ []; code = simp append-nil; operator = omega arith; numbered = λ h. (h, tt); value = λ n l. refl })
  node (and_s x y) = inr (record {
    op = and_unit;
    xs = x ∷ y ∷ [];
    code = simp (append-nil, append_assoc);
    operator = omega arith;
    numbered = λ h. (h.0, (h.1, tt));
    value = λ n l. rw (lt-ltb n 512 l);
  })
  node (or_s x y) = inr (record {
    op = or_unit;
    xs = x ∷ y ∷ [];
    code = simp (append-nil, append_assoc);
    operator = omega arith;
    numbered = λ h. (h.0, (h.1, tt));
    value = λ n l. rw (le-ltb n 0 (omega arith));
  })
  node (xor_s x y) = inr (record {
    op = xor_unit;
    xs = x ∷ y ∷ [];
    code = simp (append-nil, append_assoc);
    operator = omega arith;
    numbered = λ h. (h.0, (h.1, tt));
    value = λ n l. rw (le-ltb n 0 (omega arith)) (xor-one-of (the n x) (the n y));
  })
  node (union_s x y) = inr (record {
    op = union_unit;
    xs = x ∷ listed y;
    code = rw (row_listed y, append_assoc (set_code x) (codes (listed y)) (end_unit ∷ []));
    operator = omega arith;
    numbered = λ h. (h.0, numbered-listed y h.1);
    value = λ n l. rw (le-ltb n 0 (omega arith)) (union-listed n (the n x) y);
  })
  node empty_s = inr (record { op = union_unit; xs = []; code = refl; operator = omega arith; numbered = λ h. tt; value = λ n l. rw (le-ltb n 0 (omega arith)) })
