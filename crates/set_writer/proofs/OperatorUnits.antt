-- The units of an S by its operator and its operands: for each way that an S begins, the operands are in the row, and the code of S is the operator's
-- unit, the operands' and the end mark. Assumes nothing.
use mathlib.Core.Path.{◌≡◌, refl, sym, ap, ◌∙◌}
use mathlib.Core.List.{List, [], ◌∷◌, ◌++◌}
use mathlib.Core.Option.{Option, none, some, some-injective, none-ne-some}
use Prim.Native.Nat.{ℕ}
use borrow.Author.Tests.{eqb-false}
use Rattle.lexer.specs.Forms.{Forms, word, part}
use Rattle.policy.specs.Basics.{Name, ◌>>=◌, more, of_none, of_one, of_two}
use Rattle.policy.specs.Words.{as_name, Connective, all_c, not_c, and_c, or_c, xor_c, set_word}
use Rattle.policy.specs.Statements.{Family, Reference, SetExpr, name_s, all_s, not_s, and_s, or_s, xor_s, union_s}
use Rattle.policy.specs.Grammar.{operand_row, union_of, form_s, headed, operands, set_in}
use Rattle.policy.specs.Reading.{refer_s}
use Rattle.policy.specs.Names.{Environment}
use Rattle.words.specs.Numbers.{number_of, word_of}
use Rattle.words.proofs.Meaning.{set-number}
use Rattle.statement_code.specs.Code.{set_code, row_code, all_unit, not_unit, and_unit, or_unit, xor_unit, union_unit, end_unit}
use Rattle.set_writer.specs.Sets.{operator_unit, set_units, row_units, behind, Operands}

module _ (env : Environment) (f : Family) where
  -- ---- a union

  -- the further operands
  row-units : (xs : List (SetExpr Name)) → (refer_s env f (operand_row xs) >>= λ s. some (row_code s)) ≡ row_units env f xs
  unfolding operand_row refer_s row_code row_units
  row-units [] = refl
  row-units (x ∷ xs) = go (refer_s env f x) (refer_s env f (operand_row xs)) (row-units xs)
    where
      go : (o p : Option (SetExpr Reference)) → (p >>= λ s. some (row_code s)) ≡ row_units env f xs
          → ((o >>= λ a. p >>= λ b. some (union_s a b)) >>= λ s. some (row_code s)) ≡ (o >>= λ s. row_units env f xs >>= λ us. some (set_code s ++ us))
      go none p e = refl
      go (some a) none e = rw (← e)
      go (some a) (some b) e = rw (← e)

  union-units : (x : SetExpr Name) (xs : List (SetExpr Name)) → set_units env f (union_s x (operand_row xs)) ≡ behind (union_unit ∷ []) (row_units env f (x ∷ xs))
  unfolding refer_s set_code row_units
  union-units x xs = go (refer_s env f x) (refer_s env f (operand_row xs)) (row-units xs)
    where
      go : (o p : Option (SetExpr Reference)) → (p >>= λ s. some (row_code s)) ≡ row_units env f xs
          → ((o >>= λ a. p >>= λ b. some (union_s a b)) >>= λ s. some (set_code s)) ≡ behind (union_unit ∷ []) (o >>= λ s. row_units env f xs >>= λ us. some (set_code s ++ us))
      go none p e = refl
      go (some a) none e = rw (← e)
      go (some a) (some b) e = rw (← e)

  -- ---- the other operators

  all-units : set_units env f all_s ≡ behind (all_unit ∷ []) (row_units env f [])
  unfolding refer_s set_code row_units
  all-units = refl

  not-units : (x : SetExpr Name) → set_units env f (not_s x) ≡ behind (not_unit ∷ []) (row_units env f (x ∷ []))
  unfolding refer_s set_code row_units
  not-units x = go (refer_s env f x)
    where
      go : (o : Option (SetExpr Reference)) → ((o >>= λ a. some (not_s a)) >>= λ s. some (set_code s)) ≡ behind (not_unit ∷ []) (o >>= λ s. some (set_code s ++ (end_unit ∷ [])))
      go none = refl
      go (some a) = refl

  -- an operator with two operands
  both-units : (unit : ℕ) (op : SetExpr Reference → SetExpr Reference → SetExpr Reference)
      → ((a b : SetExpr Reference) → set_code (op a b) ≡ unit ∷ (set_code a ++ (set_code b ++ (end_unit ∷ []))))
      → (x y : SetExpr Name) → ((refer_s env f x >>= λ a. refer_s env f y >>= λ b. some (op a b)) >>= λ s. some (set_code s)) ≡ behind (unit ∷ []) (row_units env f (x ∷ y ∷ []))
  unfolding row_units
  both-units unit op code x y = go (refer_s env f x) (refer_s env f y)
    where
      go : (o p : Option (SetExpr Reference)) → ((o >>= λ a. p >>= λ b. some (op a b)) >>= λ s. some (set_code s))
          ≡ behind (unit ∷ []) (o >>= λ a. (p >>= λ b. some (set_code b ++ (end_unit ∷ []))) >>= λ us. some (set_code a ++ us))
      go none p = refl
      go (some a) none = refl
      go (some a) (some b) = ap some (code a b)

-- ---- the operands in the row

module _ (g : Forms) where
  pub union-operands : (x : Option (SetExpr Name)) (ys : Option (List (SetExpr Name))) (w : SetExpr Name) → operands g ≡ more x ys → union_of x ys ≡ some w → Operands union_unit g w
  union-operands none ys w e h = absurd (none-ne-some w h)
  union-operands (some x) none w e h = absurd (none-ne-some w h)
  union-operands (some x) (some ys) w e h = record {
    each = x ∷ ys;
    row = e;
    units = λ env f. ap (set_units env f) (sym (some-injective (union_s x (operand_row ys)) w h)) ∙ union-units env f x ys;
  }

  none-operands : (xs : List (SetExpr Name)) (w : SetExpr Name) → operands g ≡ some xs → of_none all_s xs ≡ some w → Operands all_unit g w
  none-operands [] w e h = record {
    each = [];
    row = e;
    units = λ env f. ap (set_units env f) (sym (some-injective all_s w h)) ∙ all-units env f;
  }
  none-operands (x ∷ xs) w e h = absurd (none-ne-some w h)

  one-operand : (xs : List (SetExpr Name)) (w : SetExpr Name) → operands g ≡ some xs → of_one not_s xs ≡ some w → Operands not_unit g w
  one-operand [] w e h = absurd (none-ne-some w h)
  one-operand (x ∷ []) w e h = record {
    each = x ∷ [];
    row = e;
    units = λ env f. ap (set_units env f) (sym (some-injective (not_s x) w h)) ∙ not-units env f x;
  }
  one-operand (x ∷ y ∷ xs) w e h = absurd (none-ne-some w h)

  two_operands : (unit : ℕ) (op : SetExpr Name → SetExpr Name → SetExpr Name)
      → ((env : Environment) (f : Family) (x y : SetExpr Name) → set_units env f (op x y) ≡ behind (unit ∷ []) (row_units env f (x ∷ y ∷ [])))
      → (xs : List (SetExpr Name)) (w : SetExpr Name) → operands g ≡ some xs → of_two op xs ≡ some w → Operands unit g w
  two_operands unit op code [] w e h = absurd (none-ne-some w h)
  two_operands unit op code (x ∷ []) w e h = absurd (none-ne-some w h)
  two_operands unit op code (x ∷ y ∷ []) w e h = record {
    each = x ∷ y ∷ [];
    row = e;
    units = λ env f. ap (set_units env f) (sym (some-injective (op x y) w h)) ∙ code env f x y;
  }
  two_operands unit op code (x ∷ y ∷ z ∷ xs) w e h = absurd (none-ne-some w h)

  form-operands : (c : Connective) (xs : List (SetExpr Name)) (w : SetExpr Name) → operands g ≡ some xs → form_s c xs ≡ some w → Operands (operator_unit (some c)) g w
  unfolding refer_s set_code
  form-operands all_c xs w e h = none-operands xs w e h
  form-operands not_c xs w e h = one-operand xs w e h
  form-operands and_c xs w e h = two_operands and_unit and_s (λ env f. both-units env f and_unit and_s (λ a b. refl)) xs w e h
  form-operands or_c xs w e h = two_operands or_unit or_s (λ env f. both-units env f or_unit or_s (λ a b. refl)) xs w e h
  form-operands xor_c xs w e h = two_operands xor_unit xor_s (λ env f. both-units env f xor_unit xor_s (λ a b. refl)) xs w e h

  pub operator-operands : (c : Connective) (w : SetExpr Name) → (operands g >>= form_s c) ≡ some w → Operands (operator_unit (some c)) g w
  operator-operands c w h = go (operands g) refl h
    where
      go : (o : Option (List (SetExpr Name))) → operands g ≡ o → (o >>= form_s c) ≡ some w → Operands (operator_unit (some c)) g w
      go none e k = absurd (none-ne-some w k)
      go (some xs) e k = form-operands c xs w e k

-- ---- how an S begins

-- the word w of the number k
word-is : (w : Name) (k unit : ℕ) → number_of w ≡ k → unit ≡ operator_unit (set_word (word_of k)) → unit ≡ operator_unit (set_word w)
word-is w k unit e h = h ∙ ap operator_unit (sym (set-number w ∙ ap (λ (n : ℕ). set_word (word_of n)) e))

-- with a word that is an operator: the operands follow it
pub operator-row : (w : Name) (s k unit : ℕ) (r : Forms) (x : SetExpr Name) → number_of w ≡ k → unit ≡ operator_unit (set_word (word_of k)) → (unit ≡ union_unit → ⊥)
    → set_in (word s w r) ≡ some x → Operands unit r x
unfolding set_in
operator-row w s k unit r x e h other g = go (set_word w) (word-is w k unit e h) g
  where
    go : (c : Option Connective) → unit ≡ operator_unit c → headed w c (operands r) ≡ some x → Operands unit r x
    go none d g = absurd (other d)
    go (some c) d g = rw d (operator-operands r c x g)

-- with one that is not: it is the first operand
pub name-row : (w : Name) (s k unit : ℕ) (r : Forms) (x : SetExpr Name) → number_of w ≡ k → unit ≡ operator_unit (set_word (word_of k)) → unit ≡ union_unit
    → set_in (word s w r) ≡ some x → Operands unit (word s w r) x
unfolding set_in
name-row w s k unit r x e h is g = rw is (go (set_word w) (sym is ∙ word-is w k unit e h) g)
  where
    go : (c : Option Connective) → union_unit ≡ operator_unit c → headed w c (operands r) ≡ some x → Operands union_unit (word s w r) x
    go none d g = union-operands (word s w r) (as_name w >>= λ n. some (name_s n)) (operands r) x refl g
    go (some all_c) d g = absurd (eqb-false 2053 2048 refl d)
    go (some not_c) d g = absurd (eqb-false 2053 2049 refl d)
    go (some and_c) d g = absurd (eqb-false 2053 2050 refl d)
    go (some or_c) d g = absurd (eqb-false 2053 2051 refl d)
    go (some xor_c) d g = absurd (eqb-false 2053 2052 refl d)

-- with a part: it is the first operand
pub part-row : (p : ℕ) (i r : Forms) (x : SetExpr Name) → set_in (part p i r) ≡ some x → Operands union_unit (part p i r) x
unfolding set_in
part-row p i r x h = union-operands (part p i r) (set_in i) (operands r) x refl h
