-- Stores into the scope: what they keep, and what the scope is then. Assumes nothing.
use mathlib.Core.Path.{◌≡◌, refl, ap, ◌∙◌}
use mathlib.Core.List.{List, [], ◌∷◌}
use Prim.Native.Nat.{ℕ, ◌+◌, ◌<◌, ◌≤◌}
use native.Mathlib.Omega.{arith}
use lib.ListN.{length, take, set, length-set}
use lib.Seq.{get_or-set_same}
use Rattle.byte_slices.specs.Parts.{part, put}
use Rattle.byte_slices.proofs.PartLaws.{length_part, length-put, part-put-before, part-put-after, sets-put}
use Rattle.byte_slices.proofs.PartLaws.{take_part}
use Rattle.scopes.specs.Scope.{scope_length, scope_in, SymbolsKept, symbol_bytes}
use Rattle.name_index.specs.Index.{index_bytes}

-- a store of one byte puts it
pub set-put : (t : List ℕ) (i v : ℕ) → i < length t → set t i v ≡ put t i (v ∷ [])
set-put t i v h = sets-put t i (v ∷ []) (omega arith)

pub set_before : (t : List ℕ) (i v p w : ℕ) → i < length t → p + w ≤ i → part (set t i v) p w ≡ part t p w
set_before t i v p w h l = ap (λ (u : List ℕ). part u p w) (set-put t i v h) ∙ part-put-before t i (v ∷ []) (omega arith) p w l

pub set_after : (t : List ℕ) (i v p w : ℕ) → i < length t → i < p → part (set t i v) p w ≡ part t p w
set_after t i v p w h l = ap (λ (u : List ℕ). part u p w) (set-put t i v h) ∙ part-put-after t i (v ∷ []) (omega arith) p w (omega arith)

-- ---- what is kept before the scope

pub kept-none : (t : List ℕ) → SymbolsKept t t
kept-none t = record { long = refl; front = λ p w h. refl }

pub kept_on : {t u v : List ℕ} → SymbolsKept t u → SymbolsKept u v → SymbolsKept t v
kept_on h g = record { long = g.long ∙ h.long; front = λ p w l. g.front p w l ∙ h.front p w l }

pub kept_set : (t : List ℕ) (i v : ℕ) → index_bytes ≤ i → i < length t → SymbolsKept t (set t i v)
kept_set t i v l h = record { long = length-set t i v; front = λ p w g. set_before t i v p w h (omega arith) }

pub kept_put : (t : List ℕ) (o : ℕ) (s : List ℕ) → index_bytes ≤ o → o + length s ≤ length t → SymbolsKept t (put t o s)
kept_put t o s l h = record { long = length-put t o s h; front = λ p w g. part-put-before t o s h p w (omega arith) }

-- ---- the scope

pub long-set : (t : List ℕ) (v : ℕ) → symbol_bytes ≤ length t → scope_length (set t index_bytes v) ≡ v
unfolding scope_length
long-set t v h = get_or-set_same t index_bytes v 0 (omega arith)

pub scope-set : (t : List ℕ) (v n : ℕ) → symbol_bytes ≤ length t → scope_in (set t index_bytes v) n ≡ scope_in t n
unfolding scope_in
scope-set t v n h = set_after t index_bytes v 188649 n (omega arith) (omega arith)

pub scope-take : (t : List ℕ) (n m : ℕ) → m ≤ n → take m (scope_in t n) ≡ scope_in t m
unfolding scope_in
scope-take t n m h = take_part t 188649 n m h

pub scope-none : (t : List ℕ) → scope_in t 0 ≡ []
unfolding scope_in part
scope-none t = refl

module _ (t : List ℕ) (n : ℕ) (short : n ≤ 64) (room : symbol_bytes ≤ length t) where
  pub scope-long : length (scope_in t n) ≡ n
  unfolding scope_in
  scope-long = length_part t 188649 n (omega arith)
