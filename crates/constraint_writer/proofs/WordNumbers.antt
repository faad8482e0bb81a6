-- What a word means that is none of some numbers' words: nothing, if all words that mean something have those numbers. Assumes nothing.
use mathlib.Core.Path.{◌≡◌, refl, sym, ◌∙◌}
use mathlib.Core.Bool.{true, false}
use mathlib.Core.List.{List, [], ◌∷◌}
use mathlib.Core.Option.{Option, none}
use Prim.Native.Nat.{ℕ, ◌<◌}
use native.Mathlib.Omega.{arith}
use borrow.Author.Tests.{ne_eqb, leb-true}
use lib.Dec.{leb}
use Rattle.policy.specs.Basics.{Name, any, every, is_among}
use Rattle.policy.proofs.Lists.{both_true}
use Rattle.words.specs.Numbers.{word_of}
use Rattle.words.proofs.Meaning.{numbered, agreeing, agree}
use Rattle.items.proofs.Counts.{none_of}
use Rattle.items.specs.Reads.{is_some}

beyond : (ks : List ℕ) (n : ℕ) → every (λ k. leb k 40) ks ≡ true → 40 < n → is_among n ks ≡ false
unfolding every is_among any
beyond [] n e h = refl
beyond (k ∷ ks) n e h =
    let b = both_true (leb k 40) (every (λ k. leb k 40) ks) e in
    let g = leb-true k 40 b.0 in
    rw (ne_eqb n k (λ z. omega arith)) (beyond ks n b.1 h)

pub other-words : {A : Type 0} (meaning : Name → Option A) (ks : List ℕ)
    → agreeing (λ w. is_some (meaning w)) (λ n. is_among n ks) numbered 0 ≡ true
    → every (λ k. leb k 40) ks ≡ true
    → is_some (meaning []) ≡ false
    → (n : ℕ) → is_among n ks ≡ false → meaning (word_of n) ≡ none
other-words meaning ks e s m n h =
    none_of (meaning (word_of n))
    (sym (agree (λ w. is_some (meaning w)) (λ n. is_among n ks) e (λ n g. beyond ks n s g ∙ sym m) n) ∙ h)
