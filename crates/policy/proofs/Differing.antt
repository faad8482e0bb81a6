-- Names of which no two are the same: none of them is one before it. Assumes nothing.
use mathlib.Core.Path.{◌≡◌, refl, sym, ◌∙◌}
use mathlib.Core.Bool.{Bool, true, false, ◌||◌, cond, false≢true}
use mathlib.Core.List.{List, [], ◌∷◌, ◌++◌}
use Prim.Native.Nat.{ℕ}
use borrow.Author.Tests.{eq-eqb, ne_eqb, eqb-true, eqb-false}
use lib.Dec.{eqb}
use Rattle.policy.specs.Basics.{Name, same, any, is_in, differ}
use Rattle.policy.proofs.Lists.{neither, any_append}

eqb-turned : (x y : ℕ) → eqb x y ≡ eqb y x
eqb-turned x y = by (eqb x y) refl
  where
    by : (q : Bool) → eqb x y ≡ q → q ≡ eqb y x
    by true h = sym (eq-eqb y x (sym (eqb-true x y h)))
    by false h = sym (ne_eqb y x (λ e. eqb-false x y h (sym e)))

-- which of two names comes first does not matter
pub same-turned : (v w : Name) → same v w ≡ same w v
unfolding same
same-turned [] [] = refl
same-turned [] (y ∷ w) = refl
same-turned (x ∷ v) [] = refl
same-turned (x ∷ v) (y ∷ w) = rw (eqb-turned x y, same-turned v w)

cond-true : (q r : Bool) → cond q false r ≡ true → (q ≡ false) × (r ≡ true)
cond-true true r h = absurd (false≢true h)
cond-true false r h = (refl, h)

-- one more that is none of them
pub differ-more : (ps : List Name) (w : Name) → differ ps ≡ true → is_in w ps ≡ false → differ (ps ++ (w ∷ [])) ≡ true
unfolding differ is_in any
differ-more [] w d h = refl
differ-more (x ∷ ps) w d h =
    let p = cond-true (is_in x ps) (differ ps) d in
    let q = neither (same w x) (any (same w) ps) h in
    rw (any_append (same x) ps (w ∷ []), p.0, same-turned x w, q.0) (differ-more ps w p.1 q.1)

-- none of them is one before it
pub differ_new : (qs : List Name) (p : Name) (ps : List Name) → differ (qs ++ (p ∷ ps)) ≡ true → is_in p qs ≡ false
unfolding differ is_in any
differ_new [] p ps d = refl
differ_new (x ∷ qs) p ps d =
    let h = cond-true (is_in x (qs ++ (p ∷ ps))) (differ (qs ++ (p ∷ ps))) d in
    let q = neither (any (same x) qs) (same x p || any (same x) ps) (sym (any_append (same x) qs (p ∷ ps)) ∙ h.0) in
    rw (same-turned p x, (neither (same x p) (any (same x) ps) q.1).0) (differ_new qs p ps h.1)
