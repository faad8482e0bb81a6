-- The first eight bytes of the first names of a row. A name whose own are none of them is none of those names. Assumes nothing.
use mathlib.Core.Path.{◌≡◌, refl, sym, ap, ap₂, ◌∙◌}
use mathlib.Core.Bool.{Bool, true, false, ◌||◌, or-true, false≢true}
use mathlib.Core.List.{List, [], ◌∷◌, ◌++◌, append_assoc}
use Prim.Native.Nat.{ℕ, zero, suc, ◌+◌, ◌<◌, ◌≤◌}
use native.Mathlib.Omega.{arith}
use borrow.Author.Tests.{ltb-false, eq-eqb}
use Rattle.std.specs.List.{list_any}
use Rattle.std.proofs.lemmas.Bool.Decides.{nat_tests}
use lib.Dec.{eqb, ltb}
use lib.ListN.{length, take, drop, set, length-set, length-append}
use lib.Seq.{set_split, take_at, length-take-le}
use Rattle.policy.specs.Basics.{Name, same, any, each, is_in}
use Rattle.policy.proofs.Lists.{each_append, neither, same-is}
use Rattle.name_index.specs.Index.{front_of}
use Rattle.name_rows.specs.WordRows.{may_be_among}

-- ---- is a number among those of a list

eqb-swap : (x y : ℕ) → eqb y x ≡ eqb x y
eqb-swap x y = grind (arith, nat_tests)

-- std's test and that of the specs
pub among-are : (x : ℕ) (ys : List ℕ) → list_any (λ (y : ℕ). eqb y x) ys ≡ any (eqb x) ys
unfolding any
among-are x [] = refl
among-are x (y ∷ ys) = ap₂ (λ (a b : Bool). a || b) (eqb-swap x y) (among-are x ys)

-- a store past the end changes nothing
pub set_past : (fs : List ℕ) (k x : ℕ) → length fs ≤ k → set fs k x ≡ fs
set_past [] k x l = refl
set_past (y ∷ fs) zero x l = absurd (omega arith)
set_past (y ∷ fs) (suc k) x l = ap (λ (r : List ℕ). y ∷ r) (set_past fs k x (omega arith))

-- ---- the names by their first eight bytes

-- a name that is among some has its first eight bytes among theirs
among : (w : Name) (ws : List Name) → is_in w ws ≡ true → any (eqb (front_of w)) (each front_of ws) ≡ true
unfolding is_in any each
among w [] h = h
among w (v ∷ ws) h = by (same w v) refl (λ g. among w ws g) h
  where
    by : (q : Bool) → same w v ≡ q → (is_in w ws ≡ true → any (eqb (front_of w)) (each front_of ws) ≡ true) → (q || any (same w) ws) ≡ true
        → any (eqb (front_of w)) (each front_of (v ∷ ws)) ≡ true
    by true q ih h = rw (eq-eqb (front_of w) (front_of v) (ap front_of (same-is w v q)))
    by false q ih h = rw (ih h, or-true (eqb (front_of w) (front_of v)))

-- fs has the first eight bytes of the first k of the names, if it has room for so many
abbrev pub Keeps : List ℕ → ℕ → List Name → Type 0
Keeps fs k ws = k ≤ length fs → take k fs ≡ each front_of (take k ws)

pub keeps-none : (fs : List ℕ) (ws : List Name) → Keeps fs 0 ws
unfolding each
keeps-none fs ws l = refl

pub keeps-more : (fs : List ℕ) (k x : ℕ) (w : Name) (ws : List Name) → take (k + 1) ws ≡ take k ws ++ (w ∷ []) → x ≡ front_of w → Keeps fs k ws
    → Keeps (set fs k x) (k + 1) ws
unfolding each
keeps-more fs k x w ws more e h l =
    let room : k < length fs = omega (arith, length-set fs k x) in
    let split : set fs k x ≡ (take k fs ++ (x ∷ [])) ++ drop (suc k) fs =
    set_split fs k x room ∙ sym (append_assoc (take k fs) (x ∷ []) (drop (suc k) fs)) in
    let long : length (take k fs ++ (x ∷ [])) ≡ k + 1 = length-append (take k fs) (x ∷ []) ∙ omega (arith, length-take-le k fs (omega arith)) in
    ap (take (k + 1)) split ∙ take_at (take k fs ++ (x ∷ [])) (drop (suc k) fs) (k + 1) long
    ∙ ap₂ (λ (a : List ℕ) (b : ℕ). a ++ (b ∷ [])) (h (omega arith)) e
    ∙ sym (ap (each front_of) more ∙ each_append front_of (take k ws) (w ∷ []))

-- a name that may not be among them is not
pub not-among : (fs : List ℕ) (k x : ℕ) (w : Name) (ws : List Name) → x ≡ front_of w → Keeps fs k ws → false ≡ may_be_among fs k x → is_in w (take k ws) ≡ false
not-among fs k x w ws e h g = by (is_in w (take k ws)) refl
  where
    is : (ltb (length fs) k ≡ false) × (any (eqb x) (take k fs) ≡ false)
    is = neither (ltb (length fs) k) (any (eqb x) (take k fs)) (sym g)

    by : (b : Bool) → is_in w (take k ws) ≡ b → b ≡ false
    by false b = refl
    by true b =
        let here : any (eqb x) (take k fs) ≡ true =
        ap₂ (λ (n : ℕ) (l : List ℕ). any (eqb n) l) e (h (ltb-false (length fs) k is.0)) ∙ among w (take k ws) b in
        absurd (false≢true (sym is.1 ∙ here))
