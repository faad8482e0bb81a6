-- The operands at a place, one after the other. Assumes nothing.
use Prim.Native.Nat.{ℕ, ◌+◌, ◌<◌, ◌≤◌}
use native.Mathlib.Numerals.{add-one}
use native.Mathlib.Omega.{arith}
use mathlib.Core.Bool.{true, false, not}
use mathlib.Core.Logic.{◌⊎◌, inl, inr}
use mathlib.Core.Path.{◌≡◌, refl, ap}
use mathlib.Core.List.{List, [], ◌∷◌, ◌++◌}
use lib.Dec.{leb, ltb}
use lib.ListN.{length, get_or, drop, drop_of_length-le}
use lib.Seq.{drop-cons}
use borrow.Author.Tests.{lt-ltb, le-ltb, lt-leb, le-leb, ltb-true, ltb-false}
use Rattle.std.specs.List.{position, position_or_len}
use Rattle.std.specs.Option.{unwrap_or}
use Rattle.std.proofs.lemmas.List.Sums.{prefix_len-le-length}
use Rattle.policy.specs.Basics.{All}
use Rattle.meaning_laws.proofs.ListLaws.{decided}
use Rattle.code_reader.specs.Reading.{operands_of}

-- one operand more; a tag; the end of the code
pub operands_next : (code : List ℕ) (at : ℕ) → at < length code → get_or code at 0 < 4096 → operands_of (drop at code) ≡ get_or code at 0 ∷ operands_of (drop (at + 1) code)
unfolding operands_of
operands_next code at h l = rw (add-one at, drop-cons code at 0 h, lt-ltb (get_or code at 0) 4096 l)

pub operands-tag : (code : List ℕ) (at : ℕ) → at < length code → 4096 ≤ get_or code at 0 → operands_of (drop at code) ≡ []
unfolding operands_of
operands-tag code at h l = rw (drop-cons code at 0 h, le-ltb (get_or code at 0) 4096 l)

pub operands-past : (code : List ℕ) (at : ℕ) → length code ≤ at → operands_of (drop at code) ≡ []
unfolding operands_of
operands-past code at h = rw (drop_of_length-le code h)

-- they end at the first tag, or at the end of the code
operands-before : (us : List ℕ) → position_or_len (leb 4096) us ≡ length (operands_of us)
unfolding operands_of
operands-before [] = refl
operands-before (u ∷ us) = by (decided (ltb u 4096)) (operands-before us)
  where
    by : (ltb u 4096 ≡ true) ⊎ (ltb u 4096 ≡ false) → position_or_len (leb 4096) us ≡ length (operands_of us)
        → position_or_len (leb 4096) (u ∷ us) ≡ length (operands_of (u ∷ us))
    by (inl e) h = rw (e, lt-leb 4096 u (ltb-true u 4096 e)) (omega (arith, h))
    by (inr e) h = rw (e, le-leb 4096 u (ltb-false u 4096 e)) refl

pub operands-end : (us : List ℕ) → unwrap_or (position (leb 4096) us) (length us) ≡ length (operands_of us)
operands-end us = by (decided (ltb (position_or_len (leb 4096) us) (length us)))
  where
    by : (ltb (position_or_len (leb 4096) us) (length us) ≡ true) ⊎ (ltb (position_or_len (leb 4096) us) (length us) ≡ false)
        → unwrap_or (position (leb 4096) us) (length us) ≡ length (operands_of us)
    by (inl e) = rw e (operands-before us)
    by (inr e) = rw e
        (omega (arith, operands-before us, ltb-false (position_or_len (leb 4096) us) (length us) e, prefix_len-le-length (λ u. not (leb 4096 u)) us))

-- what a statement's operands are, before a tag or the end of the code
abbrev pub Tagged : List ℕ → Type 0
Tagged [] = Unit {0}
Tagged (u ∷ us) = 4096 ≤ u

pub operands_of_lem : (us vs : List ℕ) → All (λ u. u < 4096) us → Tagged vs → operands_of (us ++ vs) ≡ us
unfolding operands_of
operands_of_lem [] [] h k = refl
operands_of_lem [] (v ∷ vs) h k = rw (le-ltb v 4096 k)
operands_of_lem (u ∷ us) vs h k = rw (lt-ltb u 4096 h.0) (ap {B = List ℕ} (λ r. u ∷ r) (operands_of_lem us vs h.1 k))
