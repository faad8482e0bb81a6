-- Names: which byte is a dot, their parts read byte by byte, what a name that is under way asks of the bytes to come, how long names are, and their parts at
-- the dots. Assumes nothing.
use mathlib.Core.Path.{◌≡◌, refl, sym, ap, ◌∙◌}
use mathlib.Core.Bool.{Bool, true, false, not, ◌&&◌, ◌||◌, and-eq-true_iff, and_assoc, and-false, false≢true, cond}
use mathlib.Core.List.{List, [], ◌∷◌, ◌++◌, append_assoc, append-nil}
use Prim.Native.Nat.{ℕ, suc, ◌+◌, ◌≤◌, ◌<◌}
use native.Mathlib.Omega.{arith}
use borrow.Author.Tests.{leb-true, le-leb, lt-leb, eqb-true}
use lib.Dec.{leb}
use lib.ListN.{length}
use Rattle.lexer.specs.Class.{class_of, starts, goes_on, is_dot, in_word, max_name, all_go_on, is_part, all_parts, on_first, parts, has_good_parts, after_leading_dot}
use Rattle.lexer.specs.Class.{is_name, is, is_blank, is_letter, is_digit}
use Rattle.lexer.specs.Answers.{part_starts}
use Rattle.lexer.specs.declared.ByteClass.{ByteClass}
use Rattle.lexer.proofs.Variants.{by-class}

-- ---- classes

-- a dot starts no part; what starts a part is no dot; but for the dot, names are made of what goes on a part
pub dot-starts-none : (k : ByteClass) → is_dot k ≡ true → starts k ≡ false
dot-starts-none k e = rw e at (by-class (λ k. is_dot k && starts k) (λ k. false) refl k)

pub start-no-dot : (k : ByteClass) → starts k ≡ true → is_dot k ≡ false
start-no-dot k e = rw e at (by-class (λ k. starts k && is_dot k) (λ k. false) refl k)

pub dot-in-word : (k : ByteClass) → is_dot k ≡ true → in_word k ≡ true
dot-in-word k e = rw e at (by-class (λ k. is_dot k && in_word k) is_dot refl k)

pub part-in-word : (k : ByteClass) → is_dot k ≡ false → in_word k ≡ goes_on k
part-in-word k e = rw e at (by-class (λ k. is_dot k || in_word k) (λ k. is_dot k || goes_on k) refl k)

pub part-byte : (k : ByteClass) → goes_on k ≡ true → in_word k ≡ true
part-byte k e = rw e at (by-class (λ k. goes_on k && in_word k) goes_on refl k)

unless : (q : Bool) (j k : ByteClass) → is_dot j ≡ false → is_dot k ≡ false → is_dot (cond q j k) ≡ false
unless true j k e f = e
unless false j k e f = f

-- the byte of the dot, and no other, is in the class of the dot
pub dot-byte : (b : ℕ) → is_dot (class_of b) ≡ is "." b
unfolding class_of
dot-byte b = go (is "." b) refl
  where
    go : (q : Bool) → is "." b ≡ q → is_dot (class_of b) ≡ q
    go true e = ap (λ (k : ℕ). is_dot (class_of k)) (eqb-true b 46 e)
    go false e =
        rw e
        (unless (is_blank b) _ _ refl
        (unless (is ";" b) _ _ refl
        (unless (is "(" b) _ _ refl
        (unless (is ")" b) _ _ refl
        (unless (is_letter b) _ _ refl
        (unless (is_digit b) _ _ refl
        (unless (is "\n" b) _ _ refl refl)))))))

-- ---- parts, byte by byte

-- what may stand next in a name: where a part must start only what starts one
abbrev pub fits : Bool → ByteClass → Bool
fits true k = starts k
fits false k = in_word k

-- bytes that are parts with one dot between, from the start of a part on or from within one
unfoldable pub parts_from : List ℕ → Bool → Bool
parts_from [] fresh = not fresh
parts_from (b ∷ bs) fresh = fits fresh (class_of b) && parts_from bs (is_dot (class_of b))

-- the first goes on a part that is under way, and the others are parts
abbrev go_on : List (List ℕ) → Bool
go_on [] = true
go_on (p ∷ ps) = all_go_on p && all_parts ps

on-first : (b : ℕ) (l : List (List ℕ))
    → (all_parts (on_first b l) ≡ starts (class_of b) && go_on l) × (go_on (on_first b l) ≡ goes_on (class_of b) && go_on l)
unfolding all_parts is_part all_go_on
on-first b [] = (and_assoc (starts (class_of b)) true true, and_assoc (goes_on (class_of b)) true true)
on-first b (p ∷ ps) = (and_assoc (starts (class_of b)) (all_go_on p) (all_parts ps), and_assoc (goes_on (class_of b)) (all_go_on p) (all_parts ps))

by_bytes : (w : List ℕ) → (all_parts (parts w) ≡ parts_from w true) × (go_on (parts w) ≡ parts_from w false)
unfolding parts all_parts is_part all_go_on parts_from
by_bytes [] = (refl, refl)
by_bytes (b ∷ bs) = go (is_dot (class_of b)) refl (by_bytes bs)
  where
    go : (q : Bool) → is_dot (class_of b) ≡ q → (all_parts (parts bs) ≡ parts_from bs true) × (go_on (parts bs) ≡ parts_from bs false)
        → (all_parts (elim (is_dot (class_of b)) [ true ↦ [] ∷ parts bs | false ↦ on_first b (parts bs) ]) ≡ starts (class_of b) && parts_from bs (is_dot (class_of b)))
        × (go_on (elim (is_dot (class_of b)) [ true ↦ [] ∷ parts bs | false ↦ on_first b (parts bs) ]) ≡ in_word (class_of b) && parts_from bs (is_dot (class_of b)))
    go true e i = (rw (e, dot-starts-none (class_of b) e), rw (e, dot-in-word (class_of b) e) i.0)
    go false e i =
        let f = on-first b (parts bs) in (
          rw e (f.0 ∙ ap (λ (q : Bool). starts (class_of b) && q) i.1),
          rw (e, part-in-word (class_of b) e) (f.1 ∙ ap (λ (q : Bool). goes_on (class_of b) && q) i.1),
        )

pub dotted-from : (w : List ℕ) → has_good_parts w ≡ parts_from w true
unfolding has_good_parts
dotted-from w = (by_bytes w).0

-- where a part must start and none does there is no name
pub no_part : (bs : List ℕ) → part_starts bs ≡ false → parts_from bs true ≡ false
unfolding parts_from
no_part [] e = refl
no_part (b ∷ bs) e = rw e

-- ---- a name that is under way

-- the bytes w, c of them counted, are a name together with those to come exactly if those fit
pub record SoFar (w : List ℕ) (c : ℕ) (fresh : Bool) : Type 0 where
  pub with_rest : (rest : List ℕ) → is_name (w ++ rest) ≡ parts_from rest fresh && leb (c + length rest) max_name

pub letter-first : (b : ℕ) → starts (class_of b) ≡ true → SoFar (b ∷ []) 1 false
unfolding is_name parts_from
letter-first b e = record {
  with_rest = λ rest.
      let n = start-no-dot (class_of b) e in
      let l : suc (length rest) ≡ 1 + length rest = omega arith in
      rw (n, dotted-from (b ∷ rest), e, n, l);
}

pub dot-first : (b : ℕ) → is_dot (class_of b) ≡ true → SoFar (b ∷ []) 0 true
unfolding is_name
dot-first b e = record {
  with_rest = λ rest.
      let l : length rest ≡ 0 + length rest = omega arith in
      rw (e, dotted-from rest) (ap (λ (n : ℕ). parts_from rest true && leb n max_name) l);
}

module _ (w : List ℕ) (c : ℕ) (fresh : Bool) (x : SoFar w c fresh) (b : ℕ) where
  -- a byte more
  pub grown : fits fresh (class_of b) ≡ true → SoFar (w ++ b ∷ []) (c + 1) (is_dot (class_of b))
  unfolding parts_from
  grown e = record {
    with_rest = λ rest.
        let l : c + suc (length rest) ≡ c + 1 + length rest = omega arith in
        ap is_name (append_assoc w (b ∷ []) rest) ∙ x.with_rest (b ∷ rest) ∙ rw (e, l);
  }

  -- a byte that makes it no name, whatever comes: the 65th, and a dot with no part after it
  pub one-too-many : max_name ≤ c → (rest : List ℕ) → is_name (w ++ b ∷ rest) ≡ false
  one-too-many h rest = x.with_rest (b ∷ rest) ∙ rw (lt-leb (c + suc (length rest)) max_name (omega arith), and-false)

  pub spoiled : is_dot (class_of b) ≡ true → (rest : List ℕ) → part_starts rest ≡ false → is_name (w ++ b ∷ rest) ≡ false
  unfolding parts_from
  spoiled d rest e = x.with_rest (b ∷ rest) ∙ rw (d, no_part rest e, and-false)

-- no byte more
pub finished : (w : List ℕ) (c : ℕ) (fresh : Bool) → SoFar w c fresh → c ≤ max_name → is_name w ≡ not fresh
unfolding parts_from
finished w c fresh x h =
    ap is_name (sym (append-nil w)) ∙ x.with_rest [] ∙ rw (le-leb (c + 0) max_name (omega arith)) (go fresh)
  where
    go : (q : Bool) → not q && true ≡ not q
    go true = refl
    go false = refl

-- ---- how long a name is

-- "more than 64 bytes not counting a leading dot" is no name
pub name-counted : (w : List ℕ) → is_name w ≡ true → length (after_leading_dot w) ≤ max_name
unfolding is_name
name-counted w e = leb-true (length (after_leading_dot w)) max_name ((and-eq-true_iff (has_good_parts (after_leading_dot w)) (leb (length (after_leading_dot w)) max_name)).0 e).1

-- at least a byte, and with a leading dot at most 65
pub name-length : (w : List ℕ) → is_name w ≡ true → (0 < length w) × (length w ≤ max_name + 1)
unfolding is_name has_good_parts parts all_parts is_part
name-length [] e =
    let z : ◌≡◌ {A = ℕ} 0 1 = cc in
    absurd (omega arith)
name-length (b ∷ bs) e = (omega arith, go (is_dot (class_of b)) refl)
  where
    go : (q : Bool) → is_dot (class_of b) ≡ q → suc (length bs) ≤ max_name + 1
    go true f =
        let h : length bs ≤ max_name = rw f at (name-counted (b ∷ bs) e) in
        omega arith
    go false f =
        let h : suc (length bs) ≤ max_name = rw f at (name-counted (b ∷ bs) e) in
        omega arith

-- ---- the parts of a name that is cut at a dot

first_some : (b : ℕ) (l : List (List ℕ)) → 0 < length (on_first b l)
first_some b [] = omega arith
first_some b (p ∷ ps) = omega arith

pub some-part : (w : List ℕ) → 0 < length (parts w)
unfolding parts
some-part [] = omega arith
some-part (b ∷ bs) = go (is_dot (class_of b))
  where
    go : (q : Bool) → 0 < length {A = List ℕ} (elim q [ true ↦ [] ∷ parts bs | false ↦ on_first b (parts bs) ])
    go true = omega arith
    go false = first_some b (parts bs)

first-append : (b : ℕ) (l m : List (List ℕ)) → 0 < length l → on_first b (l ++ m) ≡ on_first b l ++ m
first-append b [] m h = absurd (omega arith)
first-append b (p ∷ ps) m h = refl

-- the parts before a dot, and those after it
pub cut-at-dot : (w : List ℕ) (b : ℕ) (v : List ℕ) → is_dot (class_of b) ≡ true → parts (w ++ (b ∷ v)) ≡ parts w ++ parts v
unfolding parts
cut-at-dot [] b v d = ap (λ (q : Bool). elim q [ true ↦ [] ∷ parts v | false ↦ on_first b (parts v) ]) d
cut-at-dot (c ∷ w) b v d = go (is_dot (class_of c)) (cut-at-dot w b v d)
  where
    go : (q : Bool) → parts (w ++ (b ∷ v)) ≡ parts w ++ parts v
        → elim q [ true ↦ [] ∷ parts (w ++ (b ∷ v)) | false ↦ on_first c (parts (w ++ (b ∷ v))) ]
        ≡ elim q [ true ↦ [] ∷ parts w | false ↦ on_first c (parts w) ] ++ parts v
    go true i = ap (λ (l : List (List ℕ)). [] ∷ l) i
    go false i = ap (on_first c) i ∙ first-append c (parts w) (parts v) (some-part w)

-- ---- a name of one part, for those that take no dot

part-no-dot : (k : ByteClass) → goes_on k ≡ true → is_dot k ≡ false
part-no-dot k e = rw e at (by-class (λ k. goes_on k && is_dot k) (λ k. false) refl k)

dot-parts : (b : ℕ) (bs : List ℕ) (q : Bool) → is_dot (class_of b) ≡ q → parts (b ∷ bs) ≡ elim q [ true ↦ [] ∷ parts bs | false ↦ on_first b (parts bs) ]
unfolding parts
dot-parts b bs q e = ap (λ (x : Bool). elim x [ true ↦ [] ∷ parts bs | false ↦ on_first b (parts bs) ]) e

-- what goes on a part has no dot in it
one-part : (w : List ℕ) → all_go_on w ≡ true → parts w ≡ w ∷ []
unfolding all_go_on parts
one-part [] e = refl
one-part (b ∷ bs) e =
    let p = (and-eq-true_iff (goes_on (class_of b)) (all_go_on bs)).0 e in
    dot-parts b bs false (part-no-dot (class_of b) p.0) ∙ ap (on_first b) (one-part bs p.1)

-- nor has a part
pub only_part : (w : List ℕ) → is_part w ≡ true → parts w ≡ w ∷ []
unfolding is_part
only_part [] e = absurd (false≢true e)
only_part (b ∷ bs) e =
    let p = (and-eq-true_iff (starts (class_of b)) (all_go_on bs)).0 e in
    dot-parts b bs false (start-no-dot (class_of b) p.0) ∙ ap (on_first b) (one-part bs p.1)

-- how long the first is
abbrev first_length : List (List ℕ) → ℕ
first_length [] = 0
first_length (p ∷ ps) = length p

-- and a name with no dot is a part
pub name-part : (w : List ℕ) → is_name w ≡ true → parts w ≡ w ∷ [] → (is_part w ≡ true) × (length w ≤ max_name)
unfolding is_name has_good_parts is_part all_parts
name-part [] e f = absurd (omega (arith, (name-length [] e).0))
name-part (b ∷ bs) e f = go (is_dot (class_of b)) refl
  where
    go : (q : Bool) → is_dot (class_of b) ≡ q → (starts (class_of b) && all_go_on bs ≡ true) × (suc (length bs) ≤ max_name)
    go true g =
        let z : 0 ≡ suc (length bs) = ap first_length (sym (dot-parts b bs true g) ∙ f) in
        absurd (omega arith)
    go false g =
        let h : all_parts (parts (b ∷ bs)) && leb (suc (length bs)) max_name ≡ true = rw g at e in
        let i = (and-eq-true_iff (all_parts (parts (b ∷ bs))) (leb (suc (length bs)) max_name)).0 h in
        let j : (starts (class_of b) && all_go_on bs) && true ≡ true = sym (ap all_parts f) ∙ i.0 in
        (((and-eq-true_iff (starts (class_of b) && all_go_on bs) true).0 j).0, leb-true (suc (length bs)) max_name i.1)
