-- What words mean, by their numbers. A word means what the word of its number means: one law for every meaning that words outside the list do not
-- have, and a case of it for each list of words that policy names. And what the words of some numbers mean, by one computation over the list.
-- Assumes nothing.
use mathlib.Core.Path.{◌≡◌, refl, sym, ap, subst, ◌∙◌}
use mathlib.Core.Bool.{Bool, true, false, not, ◌&&◌, cond}
use mathlib.Core.List.{List, [], ◌∷◌, ◌++◌, map}
use mathlib.Core.Option.{none, some}
use Prim.Native.Nat.{ℕ, zero, suc, ◌+◌, ◌-◌, ◌<◌, ◌≤◌}
use native.Mathlib.Nat.{add-zero, zero-add, le_of_suc-le-suc, not-suc-le-zero}
use native.Mathlib.Omega.{arith}
use borrow.Author.Tests.{ltb-true, ltb-false, not-true}
use lib.Dec.{eqb, ltb, leb}
use lib.ListN.{length, get_or, take, drop, replicate, get_or-replicate, get_or-map, get_or-eq_default}
use lib.Seq.{get_or-take, get_or-drop}
use Rattle.policy.specs.Basics.{Name, same, any, every, is_in, Under, lookup}
use Rattle.lexer.specs.Class.{class_of, parts}
use Rattle.policy.specs.Words.{reserved, is_reserved, block_word, keyword_of, set_word, expression_word, op_of, Sides, two_sides, three_sides, component_of}
use Rattle.policy.proofs.Lists.{both_true, neither, any_append, same-is}
use Rattle.words.specs.Numbers.{keywords, words, number_in, number_of, word_of}

-- how many there are
counted : length words ≡ 40
unfolding reserved keywords words
counted = refl

-- the words of the numbers from 0 on
abbrev pub numbered : List Name
numbered = [] ∷ words

-- ---- from a word to its number

-- what holds at 0 if w is none of them, and at the number of each of them that is w, holds at the number of w
by_cases : (P : ℕ → Type 0) (xs : List Name) (w : Name) (n : ℕ) → (is_in w xs ≡ false → P 0)
    → ((j : ℕ) → j < length xs → w ≡ get_or xs j [] → P (n + j)) → P (number_in xs w n)
unfolding number_in is_in any
by_cases P [] w n a b = a refl
by_cases P (x ∷ xs) w n a b = go (same w x) refl (λ h k. by_cases P xs w (n + 1) h k)
  where
    go : (q : Bool) → same w x ≡ q → ((is_in w xs ≡ false → P 0) → ((j : ℕ) → j < length xs → w ≡ get_or xs j [] → P (n + 1 + j)) → P (number_in xs w (n + 1)))
        → P (elim (same w x) [ true ↦ n | false ↦ number_in xs w (n + 1) ])
    go true e i = rw e (rw (add-zero n) at (b 0 (omega arith) (same-is w x e)))
    go false e i = rw e (i (λ h. a (rw e h)) (λ j l h. subst P (omega arith) (b (suc j) (omega arith) h)))

-- the word of a number of the list
word-listed : (j : ℕ) → word_of (1 + j) ≡ get_or words j []
unfolding word_of
word-listed j = let d : 1 + j ≡ suc j = omega arith in ap (λ (n : ℕ). get_or numbered n []) d

pub by_number : {B : Type 0} (meaning : Name → B) → ((v : Name) → is_in v words ≡ false → meaning v ≡ meaning []) → (w : Name)
    → meaning w ≡ meaning (word_of (number_of w))
unfolding number_of word_of
by_number meaning other w =
    by_cases (λ n. meaning w ≡ meaning (word_of n)) words w 1 (other w) (λ j l h. ap meaning (h ∙ sym (word-listed j)))

-- ---- the meanings that policy names

-- a word that fails a test is under no word of a list of words that pass it
pub missing : {A : Type 0} (test : Name → Bool) (v : Name) (xs : List (Under A)) → every (λ x. test x.word) xs ≡ true → test v ≡ false → lookup v xs ≡ none
unfolding every lookup
missing test v [] e h = refl
missing test v (x ∷ xs) e h =
    let b = both_true (test x.word) (every (λ x. test x.word) xs) e in
    go (same v x.word) refl b.0 (missing test v xs b.1 h)
  where
    go : (q : Bool) → same v x.word ≡ q → test x.word ≡ true → lookup v xs ≡ none → cond (same v x.word) (some x.value) (lookup v xs) ≡ none
    go true d i k =
        let z : ◌≡◌ {A = Bool} true false = sym (ap test (same-is v x.word d) ∙ i) ∙ h in
        absurd (let z : ◌≡◌ {A = ℕ} 0 1 = cc in omega arith)
    go false d i k = rw d k

-- so a word is under the same words of a list of some of them as the word of its number is
by-list : {A : Type 0} (xs : List (Under A)) → every (λ x. is_in x.word words) xs ≡ true → (w : Name) → lookup w xs ≡ lookup (word_of (number_of w)) xs
unfolding same any is_in reserved keywords words
by-list xs e w =
    by_number (λ v. lookup v xs) (λ v h. missing (λ v. is_in v words) v xs e h ∙ sym (missing (λ v. is_in v words) [] xs e refl)) w

module _ (w : Name) where
  pub keyword-number : keyword_of w ≡ keyword_of (word_of (number_of w))
  unfolding same any every is_in reserved keywords words keyword_of
  keyword-number = by-list _ refl w

  pub set-number : set_word w ≡ set_word (word_of (number_of w))
  unfolding same any every is_in reserved keywords words set_word
  set-number = by-list _ refl w

  pub expression-number : expression_word w ≡ expression_word (word_of (number_of w))
  unfolding same any every is_in reserved keywords words expression_word
  expression-number = by-list _ refl w

  pub op-number : op_of w ≡ op_of (word_of (number_of w))
  unfolding same any every is_in reserved keywords words op_of
  op-number = by-list _ refl w

  pub component-number : (n : Sides) → component_of n w ≡ component_of n (word_of (number_of w))
  unfolding same any every is_in reserved keywords words component_of
  component-number two_sides = by-list _ refl w
  component-number three_sides = by-list _ refl w

-- a name is no component
pub name-no-component : (n : Sides) (w : Name) → is_reserved w ≡ false → component_of n w ≡ none
unfolding same any every is_in class_of parts reserved is_reserved component_of
name-no-component two_sides w e = missing is_reserved w _ refl e
name-no-component three_sides w e = missing is_reserved w _ refl e

-- ---- from a number to its word

module _ {B : Type 0} (meaning : Name → B) (lo : ℕ) where
  -- what the words from a number on mean, in the order of their numbers
  abbrev pub meanings : List B
  meanings = drop lo (map meaning numbered)

  meant : (n : ℕ) → lo ≤ n → meaning (word_of n) ≡ get_or meanings (n - lo) (meaning [])
  unfolding word_of
  meant n h =
      let d : lo + (n - lo) ≡ n = omega arith in
      sym (get_or-map meaning numbered n [])
      ∙ ap (λ (k : ℕ). get_or (map meaning numbered) k (meaning [])) (sym d)
      ∙ sym (get_or-drop lo (map meaning numbered) (n - lo) (meaning []))

  -- what the words of a stretch of numbers all mean, the word of such a number means
  pub stretch : (size : ℕ) (b : B) → take size meanings ≡ replicate size b → (n : ℕ) → lo ≤ n → n < lo + size → meaning (word_of n) ≡ b
  stretch size b e n h g =
      meant n h
      ∙ sym (get_or-take size meanings (n - lo) (meaning []) (omega arith))
      ∙ ap (λ (l : List B). get_or l (n - lo) (meaning [])) e
      ∙ get_or-replicate size (n - lo) b (meaning []) (omega arith)

  -- where the words from a number on all mean what the empty word does, so does the word of every number from there on
  pub from_on : meanings ≡ replicate (41 - lo) (meaning []) → (n : ℕ) → lo ≤ n → meaning (word_of n) ≡ meaning []
  from_on e n h = meant n h ∙ ap (λ (l : List B). get_or l (n - lo) (meaning [])) e ∙ all_same (41 - lo) (n - lo)
    where
      all_same : (k i : ℕ) → get_or (replicate k (meaning [])) i (meaning []) ≡ meaning []
      all_same zero i = refl
      all_same (suc k) zero = refl
      all_same (suc k) (suc i) = all_same k i

-- a test of words and a test of numbers agree at each word of a list and its number, from a number on
abbrev alike : Bool → Bool → Bool
alike true b = b
alike false b = not b

unfoldable pub agreeing : (Name → Bool) → (ℕ → Bool) → List Name → ℕ → Bool
agreeing test f [] n = true
agreeing test f (w ∷ ws) n = alike (f n) (test w) && agreeing test f ws (n + 1)

alike_is : (a b : Bool) → alike a b ≡ true → a ≡ b
alike_is true b e = sym e
alike_is false b e = sym (not-true b e)

agreed : (test : Name → Bool) (f : ℕ → Bool) (ws : List Name) (n k : ℕ) → agreeing test f ws n ≡ true → k < length ws → f (n + k) ≡ test (get_or ws k [])
unfolding agreeing
agreed test f [] n k e h = absurd (not-suc-le-zero h)
agreed test f (w ∷ ws) n zero e h = ap f (add-zero n) ∙ alike_is (f n) (test w) (both_true (alike (f n) (test w)) (agreeing test f ws (n + 1)) e).0
agreed test f (w ∷ ws) n (suc k) e h =
    let d : n + suc k ≡ n + 1 + k = omega arith in
    ap f d ∙ agreed test f ws (n + 1) k (both_true (alike (f n) (test w)) (agreeing test f ws (n + 1)) e).1 (le_of_suc-le-suc h)

-- so they agree at every number and its word, if they do past the last
pub agree : (test : Name → Bool) (f : ℕ → Bool) → agreeing test f numbered 0 ≡ true → ((n : ℕ) → 40 < n → f n ≡ test []) → (n : ℕ) → f n ≡ test (word_of n)
unfolding word_of
agree test f e beyond n = go (ltb 40 n) refl
  where
    go : (q : Bool) → ltb 40 n ≡ q → f n ≡ test (get_or numbered n [])
    go true h =
        let g = ltb-true 40 n h in
        beyond n g ∙ ap test (sym (get_or-eq_default numbered [] {n = n} (rw counted g)))
    go false h =
        let d : 0 + n ≡ n = zero-add n in
        sym (ap f d) ∙ agreed test f numbered 0 n e (rw counted (let g = ltb-false 40 n h in omega arith))

-- ---- the reserved words

-- a word outside the list is not reserved
not-reserved : (w : Name) → is_in w words ≡ false → is_in w reserved ≡ false
unfolding is_in words
not-reserved w h = (neither (is_in w reserved) (is_in w keywords) (sym (any_append (same w) reserved keywords) ∙ h)).0

-- the reserved words have the first 23 numbers
pub reserved-number : (w : Name) → (ltb 0 (number_of w) && leb (number_of w) 23) ≡ is_in w reserved
unfolding same any is_in reserved keywords words agreeing number_of
reserved-number w =
    by_cases (λ n. (ltb 0 n && leb n 23) ≡ is_in w reserved) words w 1
    (λ h. sym (not-reserved w h))
    (λ j l h. agreed (λ v. is_in v reserved) (λ n. ltb 0 n && leb n 23) words 1 j refl l ∙ sym (ap (λ (v : Name). is_in v reserved) h))

-- ---- the word `block`

-- has the last number
pub block-number : (w : Name) → same w block_word ≡ eqb (number_of w) 40
unfolding same any is_in reserved keywords words number_of agreeing
block-number w =
    by_cases (λ n. same w block_word ≡ eqb n 40) words w 1
    (λ h. last (take 39 words) block_word h)
    (λ j l h. ap (λ (v : Name). same v block_word) h ∙ sym (agreed (λ v. same v block_word) (λ n. eqb n 40) words 1 j refl l))
  where
    last : (xs : List Name) (x : Name) → any (same w) (xs ++ (x ∷ [])) ≡ false → same w x ≡ false
    last xs x h = (neither (same w x) false (neither (any (same w) xs) (any (same w) (x ∷ [])) (sym (any_append (same w) xs (x ∷ [])) ∙ h)).1).0
