-- Bytes copied one after the other are bytes put at a place: the turns of `copy`. Assumes nothing.
use mathlib.Core.Path.{◌≡◌, refl, sym, ap, ◌∙◌}
use mathlib.Core.List.{List, [], ◌∷◌, ◌++◌}
use Prim.Native.Nat.{ℕ, ◌+◌, ◌-◌, ◌≤◌, ◌<◌}
use native.Mathlib.Omega.{arith}
use lib.ListN.{length, get_or, set}
use lib.Seq.{sets}
use Rattle.byte_slices.specs.Parts.{part, put}
use Rattle.byte_slices.proofs.PartLaws.{length-part-min, part-cons, part_join, part_none, sets-append, sets-put}

long : (x : List ℕ) (from i : ℕ) → i ≤ length x - from → length (part x from i) ≡ i
long x from i h = length-part-min x from i ∙ omega arith

part-snoc : (x : List ℕ) (from i : ℕ) → from + i < length x → part x from (i + 1) ≡ part x from i ++ (get_or x (from + i) 0 ∷ [])
part-snoc x from i h =
    part_join x from i 1
    ∙ ap (λ (r : List ℕ). part x from i ++ r)
    (part-cons x (from + i) 1 (omega arith) h ∙ ap (λ (r : List ℕ). get_or x (from + i) 0 ∷ r) (part_none x (from + i + 1) (1 - 1) refl))

pub copy-turn : (t x : List ℕ) (at from i : ℕ) → i < length x - from
    → set (sets t at (part x from i)) (at + i) (get_or x (from + i) 0) ≡ sets t at (part x from (i + 1))
copy-turn t x at from i h =
    ap (λ (k : ℕ). set (sets t at (part x from i)) (at + k) (get_or x (from + i) 0)) (sym (long x from i (omega arith)))
    ∙ sets-append t at (part x from i) (get_or x (from + i) 0 ∷ [])
    ∙ ap (sets t at) (sym (part-snoc x from i (omega arith)))

pub copy-none : (t x : List ℕ) (at from : ℕ) → t ≡ sets t at (part x from 0)
copy-none t x at from = rw (part_none x from 0 refl)

pub copied : (t x : List ℕ) (at from i len : ℕ) → at + len ≤ length t → len ≤ length x - from → i ≡ len → sets t at (part x from i) ≡ put t at (part x from len)
copied t x at from i len h l e = rw e (sets-put t at (part x from len) (omega (arith, long x from len l)))
