-- Units that are written one after the other: a store writes one, and what is written after what is written is written with it. Assumes nothing.
use mathlib.Core.Path.{◌≡◌, refl, sym, ap, ap₂, ◌∙◌}
use mathlib.Core.List.{List, ◌∷◌, ◌++◌}
use Prim.Native.Nat.{ℕ, ◌+◌, ◌<◌, ◌≤◌}
use native.Mathlib.Numerals.{add-one}
use native.Mathlib.Omega.{arith}
use lib.ListN.{length, take, drop, set, length-append, length-set}
use lib.Seq.{take-take, take-set-le, set_split}
use Rattle.byte_slices.specs.Parts.{put}
use Rattle.byte_slices.proofs.PartLaws.{put-put}
use Rattle.statement_code.specs.UnitWrites.{Wrote, Keeps, Stored}

pub wrote_then : {a b c : List ℕ} {i j k : ℕ} {us vs : List ℕ} → length b ≡ length a → Wrote a i us b j → Wrote b j vs c k → Wrote a i (us ++ vs) c k
wrote_then {a} {b} {c} {i} {j} {k} {us} {vs} e h g = record {
  past = λ l.
      let n = length-append us vs in
      let p : j ≡ i + length us = h.past (omega arith) in
      let q : k ≡ j + length vs = g.past (omega arith) in
      omega arith;
  code = λ l.
      let n = length-append us vs in
      let r : i + length us ≤ length a = omega arith in
      let p : j ≡ i + length us = h.past r in
      g.code (omega arith) ∙ ap₂ (λ (x : List ℕ) (y : ℕ). put x y vs) (h.code r) p ∙ put-put a i us vs r;
}

pub keeps_then : {a b c : List ℕ} {i j : ℕ} → i ≤ j → Keeps a i b → Keeps b j c → Keeps a i c
keeps_then {a} {b} {c} {i} {j} l h g = record {
  long = g.long ∙ h.long;
  front = sym (take-take i j c l) ∙ ap (take i) g.front ∙ take-take i j b l ∙ h.front;
}

-- nothing is changed
pub keeps-all : {a : List ℕ} {i : ℕ} → Keeps a i a
keeps-all = record { long = refl; front = refl }

module _ (a : List ℕ) (i v : ℕ) where
  -- a store
  pub stored : i < length a → Stored a i v (set a i v) (i + 1)
  unfolding put
  stored h = record {
    wrote = record { past = λ l. refl; code = λ l. set_split a i v h ∙ ap (λ (n : ℕ). take i a ++ (v ∷ drop n a)) (sym (add-one i)) };
    keeps = record { long = length-set a i v; front = take-set-le i a i v (omega arith) };
    ahead = omega arith;
  }

  -- no room
  pub unstored : length a ≤ i → Stored a i v a i
  unstored h = record {
    wrote = record { past = λ l. absurd (omega arith); code = λ l. absurd (omega arith) };
    keeps = keeps-all;
    ahead = omega arith;
  }
