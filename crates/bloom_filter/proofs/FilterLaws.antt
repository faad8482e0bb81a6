-- The laws of the filter: it covers no names at first, then those whose marks are put into it. Assumes nothing.
use mathlib.Core.Path.{◌≡◌, refl, sym, ap, ap₂, ◌∙◌}
use mathlib.Core.Logic.{◌⊎◌, ⊎_elim}
use mathlib.Core.Bool.{Bool, true, false, false≢true}
use mathlib.Core.List.{List}
use Prim.Native.Nat.{ℕ, ◌+◌, ◌*◌, ◌/◌, ◌%◌, ◌<◌, max}
use native.Mathlib.Nat.{mod-lt}
use native.Mathlib.Decide.{ℕ_discrete}
use native.Mathlib.Omega.{arith}
use borrow.Author.Tests.{eq-eqb, eqb-true}
use lib.Arith.{bin_ind}
use lib.Bits.{bit_or, or_step, or_comm, or_self}
use lib.ListN.{length, get_or, length-set}
use lib.Seq.{get_or-set_same, get_or-set_other}
use Rattle.policy.specs.Basics.{Name}
use Rattle.bloom_filter.specs.Filter.{hash_of, mask_of, word_of, with_marks, is_marked, marked, Covers}

-- ---- the bits of a word

half : (a b : ℕ) → bit_or a b / 2 ≡ bit_or (a / 2) (b / 2)
half a b = let s = or_step a b in omega (arith, s)

odd : (a b : ℕ) → bit_or a b % 2 ≡ max (a % 2) (b % 2)
odd a b = let s = or_step a b in omega (arith, s)

or_assoc : (a b c : ℕ) → bit_or (bit_or a b) c ≡ bit_or a (bit_or b c)
or_assoc = bin_ind (λ (a : ℕ). (b c : ℕ) → bit_or (bit_or a b) c ≡ bit_or a (bit_or b c)) (λ b c. refl) step
  where
    step : (a : ℕ) → ((b c : ℕ) → bit_or (bit_or (a / 2) b) c ≡ bit_or (a / 2) (bit_or b c)) → (b c : ℕ) → bit_or (bit_or a b) c ≡ bit_or a (bit_or b c)
    step a ih b c =
        or_step (bit_or a b) c
        ∙ ap₂ (λ (x y : ℕ). x * 2 + y)
        (ap (λ (x : ℕ). bit_or x (c / 2)) (half a b) ∙ ih (b / 2) (c / 2) ∙ ap (bit_or (a / 2)) (sym (half b c)))
        (ap (λ (x : ℕ). max x (c % 2)) (odd a b) ∙ omega arith ∙ ap (max (a % 2)) (sym (odd b c)))
        ∙ sym (or_step a (bit_or b c))

-- bits that are in a word are in it with others too
bits-kept : (w m n : ℕ) → w ≡ bit_or w m → bit_or w n ≡ bit_or (bit_or w n) m
bits-kept w m n e =
    ap (λ (x : ℕ). bit_or x n) e ∙ or_assoc w m n ∙ ap (bit_or w) (or_comm m n) ∙ sym (or_assoc w n m)

bits_in : (w m : ℕ) → bit_or w m ≡ bit_or (bit_or w m) m
bits_in w m = ap (bit_or w) (sym (or_self m)) ∙ sym (or_assoc w m m)

-- ---- the marks

module _ (s : List ℕ) (h : ℕ) (some : 0 < length s) where
  inside : (k : ℕ) → word_of s k < length s
  inside k = mod-lt (k / 2097152) some

  pub marked-long : length (marked s h) ≡ length s
  unfolding marked
  marked-long = length-set s (word_of s h) (with_marks s h)

  -- the word of a hash, in the filter with the marks of another
  same_word : (k : ℕ) → word_of (marked s h) k ≡ word_of s k
  same_word k = ap (λ (n : ℕ). k / 2097152 % n) marked-long

  -- that word: with the marks, where it is the same one, and else as it was
  word-here : (k : ℕ) → word_of s h ≡ word_of s k → get_or (marked s h) (word_of (marked s h) k) 0 ≡ bit_or (get_or s (word_of s k) 0) (mask_of h)
  unfolding marked
  word-here k e = rw (same_word k, sym e) (get_or-set_same s (word_of s h) (with_marks s h) 0 (inside h))

  word-there : (k : ℕ) → (word_of s h ≡ word_of s k → ⊥) → get_or (marked s h) (word_of (marked s h) k) 0 ≡ get_or s (word_of s k) 0
  unfolding marked
  word-there k n = rw (same_word k) (get_or-set_other s (word_of s h) (word_of s k) (with_marks s h) 0 (λ e. n (sym e)))

  marks-here : is_marked (marked s h) h ≡ true
  unfolding is_marked
  marks-here = rw (word-here h refl) (eq-eqb _ _ (bits_in (get_or s (word_of s h) 0) (mask_of h)))

  marks-kept : (k : ℕ) → is_marked s k ≡ true → is_marked (marked s h) k ≡ true
  unfolding is_marked
  marks-kept k g = by (ℕ_discrete (word_of s h) (word_of s k))
    where
      held : get_or s (word_of s k) 0 ≡ with_marks s k
      held = eqb-true (get_or s (word_of s k) 0) (with_marks s k) g

      by : Dec (word_of s h ≡ word_of s k) → is_marked (marked s h) k ≡ true
      by (yes e) = rw (word-here k e) (eq-eqb _ _ (bits-kept (get_or s (word_of s k) 0) (mask_of k) (mask_of h) held))
      by (no n) = rw (word-there k n) g

-- ---- the names

pub covers-none : (s : List ℕ) (f : ℕ) (has : Name → Bool) → 0 < length s → ((w : Name) → has w ≡ false) → Covers s f has
covers-none s f has l none = record { some_words = l; covered = λ w h. absurd (false≢true (sym (none w) ∙ h)) }

-- with the marks of the name v of the family g the filter covers that name too
pub covers_more : (s : List ℕ) (f : ℕ) (before after : Name → Bool) (g : ℕ) (v : Name) → Covers s f before
    → ((w : Name) → after w ≡ true → (before w ≡ true) ⊎ ((g ≡ f) × (w ≡ v))) → Covers (marked s (hash_of g v)) f after
covers_more s f before after g v c more = record {
  some_words = omega (arith, marked-long s (hash_of g v) c.some_words, c.some_words);
  covered = λ w h.
      ⊎_elim (λ x. marks-kept s (hash_of g v) c.some_words (hash_of f w) (c.covered w x))
      (λ x. ap (is_marked (marked s (hash_of g v))) (ap₂ hash_of (sym x.0) x.1) ∙ marks-here s (hash_of g v) c.some_words) (more w h);
}

-- a name without its marks is none of them
pub unmarked : (s : List ℕ) (f : ℕ) (has : Name → Bool) (w : Name) (h : ℕ) → Covers s f has → h ≡ hash_of f w → is_marked s h ≡ false → has w ≡ false
unmarked s f has w h c e g = by (has w) refl
  where
    by : (q : Bool) → has w ≡ q → q ≡ false
    by false x = refl
    by true x = absurd (false≢true (sym g ∙ ap (is_marked s) e ∙ c.covered w x))
