-- The table of byte classes: the mark of each class, and the law that carries a test of the whole table to every byte.
-- Assumes nothing.
use mathlib.Core.Path.{◌≡◌, refl, sym, ap, ◌∙◌}
use mathlib.Core.Bool.{cond}
use mathlib.Core.List.{List, [], ◌∷◌}
use Prim.Native.Nat.{ℕ, zero, suc, ◌+◌, ◌<◌}
use native.Mathlib.Nat.{add-zero, zero-add, add-suc, suc-add, le_of_suc-le-suc, not-suc-le-zero}
use lib.Dec.{eqb, ltb}
use lib.ListN.{get_or}
use Rattle.lexer.specs.Class.{is, starts, goes_on, is_dot, in_word}
use Rattle.lexer.specs.Answers.{mark_of}
use Rattle.lexer.specs.declared.ByteClass.{ByteClass}
use Rattle.lexer.specs.declared.ByteClass.TheVariants.{Blank, LineFeed, Comment, Open, Close, Letter, Digit, Dot, Wrong}
use Rattle.lexer.proofs.Variants.{by-class}

-- ---- a table that holds f at each place

-- f at i, i + 1, and so on: n entries
abbrev pub tabulate : {A : Type 0} → (ℕ → A) → ℕ → ℕ → List A
tabulate f i zero = []
tabulate f i (suc n) = f i ∷ tabulate f (suc i) n

from : {A : Type 0} (d : A) (f : ℕ → A) (n i k : ℕ) → k < n → get_or (tabulate f i n) k d ≡ f (i + k)
from d f zero i k h = absurd (not-suc-le-zero h)
from d f (suc n) i zero h = rw add-zero
from d f (suc n) i (suc k) h = from d f n (suc i) k (le_of_suc-le-suc h) ∙ rw (add-suc, suc-add)

-- the whole table is f, so each entry is
pub entry : (f : ℕ → ℕ) (n : ℕ) (xs : List ℕ) → xs ≡ tabulate f 0 n → (k : ℕ) → k < n → get_or xs k 0 ≡ f k
entry f n xs e k h = rw e (from 0 f n 0 k h ∙ rw zero-add)

-- ---- the marks

-- the class of a mark
abbrev class_at : ℕ → ByteClass
class_at m =
    cond (is "b" m) Blank
    (cond (is "n" m) LineFeed
    (cond (is "s" m) Comment
    (cond (is "o" m) Open (cond (is "c" m) Close (cond (is "L" m) Letter (cond (is "D" m) Digit (cond (is "P" m) Dot Wrong)))))))

class-of-mark : (x : ByteClass) → class_at (mark_of x) ≡ x
class-of-mark x = by-class (λ x. class_at (mark_of x)) (λ x. x) refl x

-- a class whose mark is m
pub marked : (x : ByteClass) (k m : ℕ) → k ≡ mark_of x → k ≡ m → class_at m ≡ x
marked x k m e f = ap class_at (sym f ∙ e) ∙ class-of-mark x

-- a class that has none of the other marks
pub unmarked : (x : ByteClass) (k : ℕ) → k ≡ mark_of x → (k ≡ mark_of Blank → ⊥) → (k ≡ mark_of LineFeed → ⊥) → (k ≡ mark_of Comment → ⊥)
    → (k ≡ mark_of Open → ⊥) → (k ≡ mark_of Close → ⊥) → (k ≡ mark_of Letter → ⊥) → (k ≡ mark_of Digit → ⊥) → (k ≡ mark_of Dot → ⊥) → Wrong ≡ x
unmarked Blank k e a b c d f g h i = absurd (a e)
unmarked LineFeed k e a b c d f g h i = absurd (b e)
unmarked Comment k e a b c d f g h i = absurd (c e)
unmarked Open k e a b c d f g h i = absurd (d e)
unmarked Close k e a b c d f g h i = absurd (f e)
unmarked Letter k e a b c d f g h i = absurd (g e)
unmarked Digit k e a b c d f g h i = absurd (h e)
unmarked Dot k e a b c d f g h i = absurd (i e)
unmarked Wrong k e a b c d f g h i = refl

-- the marks below `a` are those of the classes of which names are made
pub capital : (x : ByteClass) (k : ℕ) → k ≡ mark_of x → ltb k 97 ≡ in_word x
capital x k e = ap (λ (m : ℕ). ltb m 97) e ∙ by-class (λ x. ltb (mark_of x) 97) in_word refl x

-- the marks below `P` are those of the classes with which a part goes on
pub part-mark : (x : ByteClass) (k : ℕ) → k ≡ mark_of x → ltb k 80 ≡ goes_on x
part-mark x k e = ap (λ (m : ℕ). ltb m 80) e ∙ by-class (λ x. ltb (mark_of x) 80) goes_on refl x

-- the mark `P` is that of the dot
pub dot-mark : (x : ByteClass) (k : ℕ) → k ≡ mark_of x → eqb k 80 ≡ is_dot x
dot-mark x k e = ap (λ (m : ℕ). eqb m 80) e ∙ by-class (λ x. eqb (mark_of x) 80) is_dot refl x

-- the mark `L` is that of the class with which a part starts
pub letter : (x : ByteClass) (k : ℕ) → k ≡ mark_of x → eqb k 76 ≡ starts x
letter x k e = ap (λ (m : ℕ). eqb m 76) e ∙ by-class (λ x. eqb (mark_of x) 76) starts refl x
