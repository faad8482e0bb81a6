-- A full name put together in lent memory: the full name of a block, a dot, and the name; or the name alone. Assumes nothing.
use mathlib.Core.Path.{◌≡◌, refl, sym, ap, ap₂, subst, ◌∙◌}
use mathlib.Core.List.{List, ◌∷◌, ◌++◌}
use Prim.Native.Nat.{ℕ, suc, ◌+◌, ◌-◌, ◌<◌, ◌≤◌}
use native.Mathlib.Omega.{arith}
use lib.ListN.{length, set, length-set, length-append}
use Rattle.byte_slices.specs.Parts.{part, put}
use Rattle.byte_slices.proofs.PartLaws.{length-put, part-put-same, part-put-before, length_part, sets-put}
use Rattle.policy.specs.Basics.{Name}
use Rattle.byte_slices.proofs.PartLaws.{part-whole, part_join}
use Rattle.scopes.specs.Path.{scope_of}
use Rattle.scopes.specs.Scope.{scope_length, scope_in, within, ComposedBy, Composes, Names, symbol_bytes}
use Rattle.std.specs.Prelude.{Option, Some, None, IfSome}
use Rattle.scopes.proofs.PathLaws.{within-some, within-full}
use Rattle.scopes.proofs.Memory.{scope-long, scope-none}

-- a dot, and the bytes after it
dot-put : (u : List ℕ) (n : ℕ) (w : Name) → n + 1 + length w ≤ length u → put (set u n 46) (suc n) w ≡ put u n (46 ∷ w)
dot-put u n w h = sym (sets-put (set u n 46) (suc n) w (omega (arith, length-set u n 46))) ∙ sets-put u n (46 ∷ w) (omega arith)

-- they are after the first n bytes
dotted : (u : List ℕ) (n : ℕ) (w : Name) → n + 1 + length w ≤ length u → part (put (set u n 46) (n + 1) w) 0 (n + 1 + length w) ≡ part u 0 n ++ (46 ∷ w)
dotted u n w room =
    let next : n + 1 ≡ suc n = omega arith in
    let long : n + 1 + length w ≡ n + suc (length w) = omega arith in
    let here : 0 + n ≡ n = omega arith in
    let now : put (set u n 46) (n + 1) w ≡ put u n (46 ∷ w) = ap (λ (k : ℕ). put (set u n 46) k w) next ∙ dot-put u n w room in
    ap₂ (λ (l : List ℕ) (k : ℕ). part l 0 k) now long
    ∙ part_join (put u n (46 ∷ w)) 0 n (suc (length w))
    ∙ ap₂ ◌++◌ (part-put-before u n (46 ∷ w) (omega arith) 0 n (omega arith))
    (ap (λ (k : ℕ). part (put u n (46 ∷ w)) k (suc (length w))) here ∙ part-put-same u n (46 ∷ w) (omega arith))

module _ (t : List ℕ) (n : ℕ) (w : Name) (z : List ℕ) (short : n ≤ 64) (room : symbol_bytes ≤ length t) (lent : 64 ≤ length z) where
  -- ---- at the whole-text level

  alone-is : n ≡ 0 → within (scope_in t n) w ≡ w
  alone-is e = ap (λ (s : Name). within s w) (ap (scope_in t) e ∙ scope-none t)

  pub alone-too-long : n ≡ 0 → 64 < length w → Composes (within (scope_in t n) w) z z None
  alone-too-long e h = record { is = omega (arith, ap length (alone-is e)); long = refl }

  pub alone : n ≡ 0 → length w ≤ 64 → {u : List ℕ} → u ≡ put z 0 (part w 0 (length w)) → Composes (within (scope_in t n) w) z u (Some (length w))
  alone e h {u} q =
      let now : u ≡ put z 0 w = q ∙ ap (put z 0) (part-whole w) in
      record {
        is = (
          ap (λ (l : List ℕ). part l 0 (length w)) now ∙ part-put-same z 0 w (omega arith) ∙ sym (alone-is e),
          ap length (sym (alone-is e)),
          h,
        );
        long = ap length now ∙ length-put z 0 w (omega arith);
      }

  -- ---- in a block

  inner-is : 0 < n → within (scope_in t n) w ≡ scope_in t n ++ (46 ∷ w)
  inner-is some = within-some (scope_in t n) w (omega (arith, scope-long t n short room))

  inner-long : 0 < n → length (within (scope_in t n) w) ≡ n + 1 + length w
  inner-long some = ap length (inner-is some) ∙ omega (arith, length-append (scope_in t n) (46 ∷ w), scope-long t n short room)

  pub inner-too-long : 0 < n → 64 - n ≤ length w → Composes (within (scope_in t n) w) z z None
  inner-too-long some h = record { is = omega (arith, inner-long some); long = refl }

  -- the memory with the full name of the block in front
  front_long : length (part t 188649 n) ≡ n
  front_long = length_part t 188649 n (omega arith)

  pub length_front : length (put z 0 (part t 188649 n)) ≡ length z
  length_front = length-put z 0 (part t 188649 n) (omega (arith, front_long))

  front-is : part (put z 0 (part t 188649 n)) 0 n ≡ scope_in t n
  unfolding scope_in
  front-is = ap (part (put z 0 (part t 188649 n)) 0) (sym front_long) ∙ part-put-same z 0 (part t 188649 n) (omega (arith, front_long))

  pub inner : 0 < n → length w < 64 - n → {u : List ℕ} → u ≡ put (set (put z 0 (part t 188649 n)) n 46) (n + 1) (part w 0 (length w))
      → Composes (within (scope_in t n) w) z u (Some (n + 1 + length w))
  inner some fit {u} q =
      let front = put z 0 (part t 188649 n) in
      let now : u ≡ put (set front n 46) (n + 1) w = q ∙ ap (put (set front n 46) (n + 1)) (part-whole w) in
      record {
        is = (
          ap (λ (l : List ℕ). part l 0 (n + 1 + length w)) now ∙ dotted front n w (omega (arith, length_front)) ∙ ap (λ (s : Name). s ++ (46 ∷ w)) front-is
              ∙ sym (inner-is some),
          sym (inner-long some),
          omega arith,
        );
        long = ap length now ∙ length-put (set front n 46) (n + 1) w (omega (arith, length_front, length-set front n 46)) ∙ length-set front n 46 ∙ length_front;
      }

short-by : (v : Name) (u : List ℕ) (r : Option ℕ) → ComposedBy v u r → IfSome r (λ m. m ≤ 64)
short-by v u (Some m) h = h.2
short-by v u None h = tt

-- in the blocks that are open it is the full name
pub named : {t : List ℕ} {n : ℕ} {v w : Name} {z u : List ℕ} {r : Option ℕ} → (scope_length t ≤ 64 → n ≡ scope_length t) → v ≡ w
    → Composes (within (scope_in t n) v) z u r → Names t w z u r
named {t} {n} {v} {w} {z} {u} {r} e q h = record {
  is = λ path sc.
      let here : scope_in t n ≡ scope_of path = ap (scope_in t) (e sc.fits) ∙ sc.stands in
      subst (λ (x : Name). ComposedBy x u r) (ap₂ within here q ∙ within-full path w sc.parts) h.is;
  short = short-by (within (scope_in t n) v) u r h.is;
  long = h.long;
}
