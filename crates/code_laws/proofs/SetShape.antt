-- S as it is read: rowed, and with no more units of code than the tokens that it was read from; numbers for names change neither. Each law
-- follows the definition that it speaks of. Assumes nothing.
use Prim.Native.Nat.{ℕ, ◌+◌, ◌≤◌, ◌<◌}
use native.Mathlib.Omega.{arith}
use mathlib.Core.Path.{◌≡◌, refl}
use mathlib.Core.List.{List, [], ◌∷◌}
use mathlib.Core.Option.{Option, none, some}
use lib.ListN.{length, length-append}
use Rattle.lexer.specs.Forms.{Forms, closed, ended, word, part}
use Rattle.policy.specs.Basics.{Name, ◌>>=◌, more, of_none, of_one, of_two, All}
use Rattle.policy.specs.Words.{as_name, Connective, all_c, not_c, and_c, or_c, xor_c, set_word}
use Rattle.policy.specs.Statements.{Family, Reference, SetExpr, name_s, all_s, not_s, and_s, or_s, xor_s, union_s, empty_s}
use Rattle.policy.specs.Grammar.{operand_row, union_of, form_s, headed, operands, set_in}
use Rattle.policy.specs.Names.{refer, Environment}
use Rattle.policy.specs.Reading.{refer_s}
use Rattle.policy.proofs.IfAny.{IfAny, nothing, just, and_then, whatever}
use Rattle.statement_code.specs.Code.{set_code, row_code}
use Rattle.code_laws.specs.Weight.{weight}
use Rattle.code_laws.specs.Shape.{IsRow, Rowed, units, units_in}

-- THE LENGTH OF THE CODE
mutual
  unfolding set_code units

  pub set-length : (s : SetExpr Reference) → Rowed s → length (set_code s) ≡ units s
  set-length (name_s r) h = refl
  set-length all_s h = refl
  set-length (not_s x) h = simp length-append (omega (arith, set-length x h))
  set-length (and_s x y) h = simp length-append (omega (arith, set-length x h.0, set-length y h.1))
  set-length (or_s x y) h = simp length-append (omega (arith, set-length x h.0, set-length y h.1))
  set-length (xor_s x y) h = simp length-append (omega (arith, set-length x h.0, set-length y h.1))
  set-length (union_s x y) h = simp length-append (omega (arith, set-length x h.0, row-length y h.1 h.2))
  set-length empty_s h = refl

  pub row-length : (s : SetExpr Reference) → IsRow s → Rowed s → length (row_code s) + 1 ≡ units s
  row-length (name_s r) w h = absurd w
  row-length all_s w h = absurd w
  row-length (not_s x) w h = absurd w
  row-length (and_s x y) w h = absurd w
  row-length (or_s x y) w h = absurd w
  row-length (xor_s x y) w h = absurd w
  row-length (union_s x y) w h = simp length-append (omega (arith, set-length x h.0, row-length y h.1 h.2))
  row-length empty_s w h = refl

-- AS IT IS WRITTEN
-- S with so many units at most; operands with fewer units than that
pub record Within (n : ℕ) (s : SetExpr Name) : Type 0 where
  pub rowed : Rowed s
  pub room : units s ≤ n

record EachWithin (n : ℕ) (xs : List (SetExpr Name)) : Type 0 where
  rowed : All Rowed xs
  room : units_in xs < n

row_is : (xs : List (SetExpr Name)) → IsRow (operand_row xs)
unfolding operand_row
row_is [] = tt
row_is (x ∷ xs) = tt

operands-rowed : (xs : List (SetExpr Name)) → All Rowed xs → Rowed (operand_row xs)
unfolding operand_row
operands-rowed [] h = tt
operands-rowed (x ∷ xs) h = (h.0, row_is xs, operands-rowed xs h.1)

row-units : (xs : List (SetExpr Name)) → units (operand_row xs) ≡ units_in xs + 2
unfolding operand_row units units_in
row-units [] = refl
row-units (x ∷ xs) = omega (arith, row-units xs)

name-within : (w : Name) → IfAny (Within 1) (as_name w >>= λ n. some (name_s n))
unfolding units
name-within w = whatever (as_name w) _ λ n. just (record { rowed = tt; room = omega arith })

no-operands : EachWithin 1 []
unfolding units_in
no-operands = record { rowed = tt; room = omega arith }

module _ {n m k : ℕ} where
  more_within : (x : Option (SetExpr Name)) (xs : Option (List (SetExpr Name))) → n + m ≤ k → IfAny (Within n) x → IfAny (EachWithin m) xs
      → IfAny (EachWithin k) (more x xs)
  unfolding units_in
  more_within none xs l h j = nothing
  more_within (some x) none l h j = nothing
  more_within (some x) (some xs) l h j =
      let a = h.has x refl in
      let b = j.has xs refl in
      just (record { rowed = (a.rowed, b.rowed); room = omega arith })

  union-within : (x : Option (SetExpr Name)) (xs : Option (List (SetExpr Name))) → n + m < k → IfAny (Within n) x → IfAny (EachWithin m) xs
      → IfAny (Within k) (union_of x xs)
  unfolding units
  union-within x xs l h j = and_then x _ h λ x a. and_then xs _ j λ xs b.
      just (record { rowed = (a.rowed, row_is xs, operands-rowed xs b.rowed); room = omega (arith, row-units xs) })

-- "`(all)`, `(not x)`, `(and x y)`, `(or x y)`, `(xor x y)`"
module _ {n k : ℕ} (l : n < k) where
  none_within : (xs : List (SetExpr Name)) → EachWithin n xs → IfAny (Within k) (of_none all_s xs)
  unfolding units
  none_within [] h = just (record { rowed = tt; room = omega arith })
  none_within (x ∷ xs) h = nothing

  one-within : (xs : List (SetExpr Name)) → EachWithin n xs → IfAny (Within k) (of_one not_s xs)
  unfolding units units_in
  one-within [] h = nothing
  one-within (x ∷ []) h = just (record { rowed = h.rowed.0; room = omega arith })
  one-within (x ∷ y ∷ xs) h = nothing

  two-within : (op : SetExpr Name → SetExpr Name → SetExpr Name) → ((x y : SetExpr Name) → Rowed x → Rowed y → (units x + units y < n) → Within k (op x y))
      → (xs : List (SetExpr Name)) → EachWithin n xs → IfAny (Within k) (of_two op xs)
  unfolding units_in
  two-within op make [] h = nothing
  two-within op make (x ∷ []) h = nothing
  two-within op make (x ∷ y ∷ []) h = just (make x y h.rowed.0 h.rowed.1.0 (omega arith))
  two-within op make (x ∷ y ∷ z ∷ xs) h = nothing

  form-within : (c : Connective) (xs : List (SetExpr Name)) → EachWithin n xs → IfAny (Within k) (form_s c xs)
  unfolding units
  form-within all_c xs h = none_within xs h
  form-within not_c xs h = one-within xs h
  form-within and_c xs h = two-within and_s (λ x y a b few. record { rowed = (a, b); room = omega arith }) xs h
  form-within or_c xs h = two-within or_s (λ x y a b few. record { rowed = (a, b); room = omega arith }) xs h
  form-within xor_c xs h = two-within xor_s (λ x y a b few. record { rowed = (a, b); room = omega arith }) xs h

headed-within : {n k : ℕ} (w : Name) (c : Option Connective) (xs : Option (List (SetExpr Name))) → n + 1 < k → IfAny (EachWithin n) xs → IfAny (Within k) (headed w c xs)
headed-within w none xs l h = union-within (as_name w >>= λ n. some (name_s n)) xs (omega arith) (name-within w) h
headed-within w (some c) xs l h = and_then xs _ h (form-within (omega arith) c)

mutual
  unfolding operands weight

  operands-within : (f : Forms) → IfAny (EachWithin (weight f)) (operands f)
  operands-within closed = just no-operands
  operands-within ended = nothing
  operands-within (word at w r) = more_within (as_name w >>= λ n. some (name_s n)) (operands r) (omega arith) (name-within w) (operands-within r)
  operands-within (part at i r) = more_within (set_in i) (operands r) (omega arith) (set-within i) (operands-within r)

  -- S in parentheses: one of them is not of the row in them
  pub set-within : (f : Forms) → IfAny (Within (weight f + 1)) (set_in f)
  set-within closed = nothing
  set-within ended = nothing
  set-within (word at w r) = headed-within w (set_word w) (operands r) (omega arith) (operands-within r)
  set-within (part at i r) = union-within (set_in i) (operands r) (omega arith) (set-within i) (operands-within r)

-- NUMBERS FOR NAMES
-- the same form with numbers
pub record SameShape (s : SetExpr Name) (t : SetExpr Reference) : Type 0 where
  pub as_many : units t ≡ units s
  pub rowed : Rowed s → Rowed t
  pub row : IsRow s → IsRow t

module _ (env : Environment) (f : Family) where
  two-shape : (x y s : SetExpr Name) (op : SetExpr Reference → SetExpr Reference → SetExpr Reference) → IfAny (SameShape x) (refer_s env f x) → IfAny (SameShape y) (refer_s env f y)
      → ((a b : SetExpr Reference) → SameShape x a → SameShape y b → SameShape s (op a b))
      → IfAny (SameShape s) (refer_s env f x >>= λ a. refer_s env f y >>= λ b. some (op a b))
  two-shape x y s op h j k = and_then _ _ h λ a i. and_then _ _ j λ b l. just (k a b i l)

  pub set-shape : (s : SetExpr Name) → IfAny (SameShape s) (refer_s env f s)
  unfolding refer_s units
  set-shape (name_s w) = whatever (refer env f w) _ λ r. just (record { as_many = refl; rowed = λ h. h; row = λ h. h })
  set-shape all_s = just (record { as_many = refl; rowed = λ h. h; row = λ h. h })
  set-shape (not_s x) = and_then _ _ (set-shape x) λ a i. just (record { as_many = omega arith; rowed = i.rowed; row = λ h. h })
  set-shape (and_s x y) = two-shape x y _ and_s (set-shape x) (set-shape y) λ a b i j. record { as_many = omega arith; rowed = λ h. (i.rowed h.0, j.rowed h.1); row = λ h. h }
  set-shape (or_s x y) = two-shape x y _ or_s (set-shape x) (set-shape y) λ a b i j. record { as_many = omega arith; rowed = λ h. (i.rowed h.0, j.rowed h.1); row = λ h. h }
  set-shape (xor_s x y) = two-shape x y _ xor_s (set-shape x) (set-shape y) λ a b i j. record { as_many = omega arith; rowed = λ h. (i.rowed h.0, j.rowed h.1); row = λ h. h }
  set-shape (union_s x y) = two-shape x y _ union_s (set-shape x) (set-shape y) λ a b i j.
      record { as_many = omega arith; rowed = λ h. (i.rowed h.0, j.row h.1, j.rowed h.2); row = λ h. h }
  set-shape empty_s = just (record { as_many = refl; rowed = λ h. h; row = λ h. h })
