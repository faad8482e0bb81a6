-- The full name that was put together, in whatever blocks the memory has. Assumes nothing.
use mathlib.Core.Path.{◌≡◌, refl, sym, ap, subst, ◌∙◌}
use mathlib.Core.Bool.{Bool, true, false, not, false≢true}
use mathlib.Core.List.{List, [], ◌∷◌}
use Prim.Native.Nat.{ℕ, ◌<◌, ◌≤◌}
use native.Mathlib.Omega.{arith}
use lib.ListN.{length}
use borrow.Author.Tests.{not-true}
use Rattle.byte_slices.specs.Parts.{part}
use Rattle.policy.specs.Basics.{Name}
use Rattle.policy.specs.Names.{full}
use Rattle.policy.specs.Sound.{is_good_part}
use Rattle.table_laws.proofs.NamesFit.{part-is-good}
use Rattle.table_laws.proofs.NamesRoom.{name-short}
use Rattle.scopes.specs.Scope.{InScope, is_open, InBlock, ComposedBy, Names}
use Rattle.std.specs.Prelude.{Option, Some, None}

-- v is the full name of w, and short enough where w is a good part
pub record FullIs (t : List ℕ) (w v : Name) : Type 0 where
  pub is : (path : List Name) → InScope t path → v ≡ full path w
  pub short : (path : List Name) → InScope t path → is_good_part w ≡ true → length v ≤ 64

-- outside of blocks it is w itself
none-in-front : (path : List Name) (w : Name) → false ≡ is_open path → w ≡ full path w
unfolding full
none-in-front [] w h = refl
none-in-front (b ∷ path) w h = absurd (false≢true h)

pub whole_is : {t : List ℕ} {w v : Name} {q : Bool} → InBlock t q → not q ≡ true → v ≡ w → FullIs t w v
whole_is {t} {w} {v} {q} h o e = record {
  is = λ path sc. e ∙ none-in-front path w (sym (not-true q o) ∙ h.answers path sc);
  short = λ path sc g. omega (arith, ap length e, name-short w (part-is-good w g));
}

module _ {t z whole : List ℕ} {w : Name} {r : Option ℕ} (h : Names t w z whole r) where
  pub full_is : {m : ℕ} {v : Name} → r ≡ Some m → v ≡ part whole 0 m → FullIs t w v
  full_is {m} {v} e q = record {
    is = λ path sc. q ∙ (composed path sc).0;
    short = λ path sc g. omega (arith, ap length (q ∙ (composed path sc).0), (composed path sc).1, (composed path sc).2);
  }
    where
      composed : (path : List Name) → InScope t path → ComposedBy (full path w) whole (Some m)
      composed path sc = subst (ComposedBy (full path w) whole) e (h.is path sc)

  pub full-too-long : r ≡ None → (path : List Name) → InScope t path → 64 < length (full path w)
  full-too-long e path sc = subst (ComposedBy (full path w) whole) e (h.is path sc)
