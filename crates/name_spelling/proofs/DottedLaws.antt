-- The parts of a name with no dot, and of bytes that are no name. Assumes nothing.
use mathlib.Core.Path.{◌≡◌, refl, ap, ◌∙◌}
use mathlib.Core.Bool.{Bool, true, false, ◌||◌, and-false}
use mathlib.Core.List.{List, [], ◌∷◌, ◌++◌}
use Prim.Native.Nat.{ℕ, ◌≤◌, ◌<◌}
use native.Mathlib.Omega.{arith}
use lib.ListN.{length}
use Rattle.lexer.specs.declared.ByteClass.{ByteClass}
use Rattle.lexer.specs.Class.{class_of, starts, goes_on, is_dot, on_first, parts, has_good_parts}
use Rattle.lexer.proofs.Names.{part-in-word, fits, parts_from, dotted-from, some-part}
use Rattle.lexer.proofs.Variants.{by-class}

-- ---- how many parts there are

first-length : (b : ℕ) (l : List (List ℕ)) → 0 < length l → length (on_first b l) ≡ length l
first-length b [] h = absurd (omega arith)
first-length b (p ∷ ps) h = refl

-- a name that has one part is that part
pub alone : (w : List ℕ) → length (parts w) ≤ 1 → parts w ≡ w ∷ []
unfolding parts
alone [] h = refl
alone (b ∷ bs) h = go (is_dot (class_of b)) h (alone bs)
  where
    go : (q : Bool) → length {A = List ℕ} (elim q [ true ↦ [] ∷ parts bs | false ↦ on_first b (parts bs) ]) ≤ 1 → (length (parts bs) ≤ 1 → parts bs ≡ bs ∷ [])
        → elim q [ true ↦ [] ∷ parts bs | false ↦ on_first b (parts bs) ] ≡ (b ∷ bs) ∷ []
    go true f i = absurd (omega (arith, some-part bs))
    go false f i = ap (on_first b) (i (omega (arith, first-length b (parts bs) (some-part bs))))

-- ---- a byte that no name has

no_start : (k : ByteClass) → goes_on k ≡ false → starts k ≡ false
no_start k e = rw e at (by-class (λ k. goes_on k || starts k) goes_on refl k)

no-fit : (k : ByteClass) (fresh : Bool) → goes_on k ≡ false → is_dot k ≡ false → fits fresh k ≡ false
no-fit k true g d = no_start k g
no-fit k false g d = part-in-word k d ∙ g

spoils : (w : List ℕ) (b : ℕ) (v : List ℕ) (fresh : Bool) → goes_on (class_of b) ≡ false → is_dot (class_of b) ≡ false → parts_from (w ++ (b ∷ v)) fresh ≡ false
unfolding parts_from
spoils [] b v fresh g d = rw (no-fit (class_of b) fresh g d)
spoils (c ∷ w) b v fresh g d = rw (spoils w b v (is_dot (class_of c)) g d) (and-false (fits fresh (class_of c)))

pub no_name : (w : List ℕ) (b : ℕ) (v : List ℕ) → goes_on (class_of b) ≡ false → is_dot (class_of b) ≡ false → has_good_parts (w ++ (b ∷ v)) ≡ false
no_name w b v g d = dotted-from (w ++ (b ∷ v)) ∙ spoils w b v true g d
