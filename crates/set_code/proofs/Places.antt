-- Units at a place: what is at the front of the rest of a list is what is read there. Assumes nothing.
use Prim.Native.Nat.{ℕ, suc, ◌+◌, ◌<◌}
use native.Mathlib.Numerals.{add-one}
use native.Mathlib.Omega.{arith}
use mathlib.Core.Path.{◌≡◌, sym, ap, ◌∙◌}
use mathlib.Core.List.{List, ◌∷◌, ◌++◌}
use lib.ListN.{length, get_or, drop, length-drop}
use lib.Seq.{drop-cons, drop-drop, drop-append_seam}

-- the rest at a place is u and then us
pub record Here (s : List ℕ) (at u : ℕ) (us : List ℕ) : Type 0 where
  pub inside : at < length s
  pub unit : get_or s at 0 ≡ u
  pub tail : drop (at + 1) s ≡ us

pub here : (s : List ℕ) (at u : ℕ) (us : List ℕ) → drop at s ≡ u ∷ us → Here s at u us
here s at u us q =
    let long : length (drop at s) ≡ suc (length us) = ap length q in
    let less : at < length s = omega (arith, length-drop at s) in
    let split = drop-cons s at 0 less in
    record { inside = less; unit = cc; tail = rw (add-one at) (cc) }

-- after a list that is at a place
pub behind : (s : List ℕ) (at : ℕ) (us vs : List ℕ) → drop at s ≡ us ++ vs → drop (at + length us) s ≡ vs
behind s at us vs q = sym (drop-drop (length us) at s) ∙ ap (drop (length us)) q ∙ drop-append_seam us vs
