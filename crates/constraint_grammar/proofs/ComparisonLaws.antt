-- Which three words a comparison may have, by their numbers and whether the last is a name. Assumes nothing.
use mathlib.Core.Path.{◌≡◌, refl, sym, ap, ◌∙◌}
use mathlib.Core.Bool.{Bool, true, false, not, ◌&&◌, ◌||◌, and-false, and-true}
use mathlib.Core.List.{[]}
use mathlib.Core.Option.{Option, none, some}
use Prim.Native.Nat.{ℕ, ◌<◌, ◌≤◌}
use native.Mathlib.Omega.{arith}
use borrow.Author.Tests.{ne_eqb, lt-leb, not-true, not-false, le-leb, leb-true, eqb-false}
use lib.Dec.{eqb, leb}
use Rattle.lexer.specs.Forms.{Forms, closed, ended, word, part, trim}
use Rattle.lexer.proofs.Trim.{cut-or-whole}
use Rattle.policy.specs.Basics.{Name, same, lookup, ◌>>=◌}
use Rattle.policy.specs.Words.{reserved, is_reserved, is_plain, op_of, Sides, two_sides, three_sides, Component, component, component_of}
use Rattle.policy.specs.Statements.{Family, users, roles, types, Side, source, target, process, Op, eq, neq, dom, domby, incomp, Constraint, sides_e, name_e}
use Rattle.policy.specs.Grammar.{are_sides, is_roles, compared, comparison}
use Rattle.policy.proofs.Lists.{both_true}
use Rattle.policy.proofs.Options.{given-passes}
use Rattle.words.specs.Numbers.{keywords, words, number_of, word_of}
use Rattle.words.proofs.Meaning.{numbered, agreeing, agree, name-no-component, op-number, component-number}
use Rattle.items.specs.Reads.{is_some}
use Rattle.items.proofs.Rows.{trim-closed}
use Rattle.constraint_grammar.specs.Comparisons.{plain_op, pair_of, comparison_of, comparing, second_side, both_sides}

never : {X : Type 0} → true ≡ false → X
never e = absurd (let z : ◌≡◌ {A = ℕ} 0 1 = cc in omega arith)

-- ---- the last word is a name, or a reserved word

by_name : (n : Sides) (o : Option Op) (v : Option Component) (w : Name) → is_reserved w ≡ false → is_some (comparison_of n o v w) ≡ is_some v && plain_op o
by_name n none none w e = refl
by_name n none (some x) w e = refl
by_name n (some o) none w e = refl
by_name n (some o) (some x) w e = rw (name-no-component n w e, e) (given-passes is_some (is_plain o) (name_e x.family x.side o w) refl refl)

-- "op: `eq neq`; rop: also `dom domby incomp`"
abbrev any_op : Option Op → Option Component → Bool
any_op none v = false
any_op (some o) none = false
any_op (some o) (some x) = is_plain o || is_roles x.family

by-sides : (n : Sides) (o : Option Op) (v : Option Component) (w : Name) → is_reserved w ≡ true → is_some (comparison_of n o v w) ≡ pair_of v (component_of n w) && any_op o v
by-sides n none v w e = sym (and-false (pair_of v (component_of n w)))
by-sides n (some o) none w e = refl
by-sides n (some o) (some x) w e = go (component_of n w) refl
  where
    go : (y : Option Component) → component_of n w ≡ y → is_some (compared o x w (component_of n w)) ≡ pair_of (some x) (component_of n w) && (is_plain o || is_roles x.family)
    go none d = rw (d, e)
    go (some y) d = rw d (given-passes is_some (are_sides x y && (is_plain o || is_roles x.family)) (sides_e x.family o) refl refl)

-- ---- what numbers say

-- a stretch of the words' numbers
module _ (test : Name → Bool) (lo hi : ℕ) (e : agreeing test (λ n. leb n hi && leb lo n) numbered 0 ≡ true) (f : test [] ≡ false) (h : hi < 40) where
  numbers : (n : ℕ) → leb n hi && leb lo n ≡ test (word_of n)
  numbers n = agree test (λ n. leb n hi && leb lo n) e (λ n g. rw (lt-leb n hi (omega arith), f)) n

  within : (n : ℕ) → lo ≤ n → n ≤ hi → true ≡ test (word_of n)
  within n a b = rw (le-leb n hi b, le-leb lo n a) at (numbers n)

  outside : (n : ℕ) → (lo ≤ n → n ≤ hi → ⊥) → false ≡ test (word_of n)
  outside n a = go (test (word_of n)) (numbers n)
    where
      go : (b : Bool) → leb n hi && leb lo n ≡ b → false ≡ b
      go false e = refl
      go true e =
          let p = both_true (leb n hi) (leb lo n) e in
          absurd (a (leb-true lo n p.1) (leb-true n hi p.0))

abbrev is_plain_word : Name → Bool
is_plain_word w = plain_op (op_of w)

abbrev is_op_word : Name → Bool
is_op_word w = is_some (op_of w)

abbrev is_component : Sides → Name → Bool
is_component n w = is_some (component_of n w)

module _ (n : ℕ) where
  -- eq neq
  pub plain : 6 ≤ n → n ≤ 7 → true ≡ plain_op (op_of (word_of n))
  unfolding same lookup reserved keywords words op_of agreeing
  plain a b = within is_plain_word 6 7 refl refl (omega arith) n a b

  pub not-plain : (6 ≤ n → n ≤ 7 → ⊥) → false ≡ plain_op (op_of (word_of n))
  unfolding same lookup reserved keywords words op_of agreeing
  not-plain a = outside is_plain_word 6 7 refl refl (omega arith) n a

  -- eq neq dom domby incomp
  pub operator : 6 ≤ n → n ≤ 10 → true ≡ is_some (op_of (word_of n))
  unfolding same lookup reserved keywords words op_of agreeing
  operator a b = within is_op_word 6 10 refl refl (omega arith) n a b

  pub no-operator : (6 ≤ n → n ≤ 10 → ⊥) → false ≡ is_some (op_of (word_of n))
  unfolding same lookup reserved keywords words op_of agreeing
  no-operator a = outside is_op_word 6 10 refl refl (omega arith) n a

  -- "x also u3, r3 or t3"
  pub of-three : 11 ≤ n → n ≤ 19 → true ≡ is_some (component_of three_sides (word_of n))
  unfolding same lookup reserved keywords words component_of agreeing
  of-three a b = within (is_component three_sides) 11 19 refl refl (omega arith) n a b

  pub not-of-three : (11 ≤ n → n ≤ 19 → ⊥) → false ≡ is_some (component_of three_sides (word_of n))
  unfolding same lookup reserved keywords words component_of agreeing
  not-of-three a = outside (is_component three_sides) 11 19 refl refl (omega arith) n a

-- "x one of u1 u2 r1 r2 t1 t2"
two-numbers : (n : ℕ) → not (eqb n 13) && (not (eqb n 16) && (leb n 18 && leb 11 n)) ≡ is_some (component_of two_sides (word_of n))
unfolding same lookup reserved keywords words component_of agreeing
two-numbers n =
    agree (is_component two_sides) (λ n. not (eqb n 13) && (not (eqb n 16) && (leb n 18 && leb 11 n))) refl
    (λ n h. rw (ne_eqb n 13 (λ z. omega arith), ne_eqb n 16 (λ z. omega arith), lt-leb n 18 (omega arith))) n

module _ (n : ℕ) where
  pub of-two : 11 ≤ n → n ≤ 18 → (n ≡ 13 → ⊥) → (n ≡ 16 → ⊥) → true ≡ is_some (component_of two_sides (word_of n))
  of-two a b c d = rw (ne_eqb n 13 c, ne_eqb n 16 d, le-leb n 18 b, le-leb 11 n a) at (two-numbers n)

  pub not-of-two : (11 ≤ n → n ≤ 18 → (n ≡ 13 → ⊥) → (n ≡ 16 → ⊥) → ⊥) → false ≡ is_some (component_of two_sides (word_of n))
  not-of-two a = go (is_some (component_of two_sides (word_of n))) (two-numbers n)
    where
      go : (b : Bool) → not (eqb n 13) && (not (eqb n 16) && (leb n 18 && leb 11 n)) ≡ b → false ≡ b
      go false e = refl
      go true e =
          let p = both_true (not (eqb n 13)) (not (eqb n 16) && (leb n 18 && leb 11 n)) e in
          let q = both_true (not (eqb n 16)) (leb n 18 && leb 11 n) p.1 in
          let r = both_true (leb n 18) (leb 11 n) q.1 in
          absurd (a (leb-true 11 n r.1) (leb-true n 18 r.0) (eqb-false n 13 (not-true _ p.0)) (eqb-false n 16 (not-true _ q.0)))

-- the second side of a family
second-numbers : (n : Sides) (f : Family) (k : ℕ) → agreeing (λ w. pair_of (some (component f source)) (component_of n w)) (λ y. eqb y k) numbered 0 ≡ true
    → pair_of (some (component f source)) (component_of n []) ≡ false → k < 40
    → (y : ℕ) → eqb y k ≡ pair_of (some (component f source)) (component_of n (word_of y))
second-numbers n f k e z h y =
    agree (λ w. pair_of (some (component f source)) (component_of n w)) (λ y. eqb y k) e (λ y g. ne_eqb y k (λ z. omega arith) ∙ sym z) y

pub users-pair : (n : Sides) (y : ℕ) → eqb y 12 ≡ pair_of (component_of n (word_of 11)) (component_of n (word_of y))
unfolding same lookup reserved keywords words word_of component_of agreeing
users-pair two_sides y = second-numbers two_sides users 12 refl refl (omega arith) y
users-pair three_sides y = second-numbers three_sides users 12 refl refl (omega arith) y

pub roles-pair : (n : Sides) (y : ℕ) → eqb y 15 ≡ pair_of (component_of n (word_of 14)) (component_of n (word_of y))
unfolding same lookup reserved keywords words word_of component_of agreeing
roles-pair two_sides y = second-numbers two_sides roles 15 refl refl (omega arith) y
roles-pair three_sides y = second-numbers three_sides roles 15 refl refl (omega arith) y

pub types-pair : (n : Sides) (y : ℕ) → eqb y 18 ≡ pair_of (component_of n (word_of 17)) (component_of n (word_of y))
unfolding same lookup reserved keywords words word_of component_of agreeing
types-pair two_sides y = second-numbers two_sides types 18 refl refl (omega arith) y
types-pair three_sides y = second-numbers three_sides types 18 refl refl (omega arith) y

abbrev is_source : Side → Bool
is_source source = true
is_source target = false
is_source process = false

abbrev source_of : Option Component → Bool
source_of none = false
source_of (some x) = is_source x.side

abbrev role_source : Option Component → Bool
role_source none = false
role_source (some x) = is_roles x.family && is_source x.side

by-source : (n : Sides) → agreeing (λ w. source_of (component_of n w)) (λ x. eqb x 11 || (eqb x 14 || eqb x 17)) numbered 0 ≡ true
    → source_of (component_of n []) ≡ false → (x : ℕ) → eqb x 11 || (eqb x 14 || eqb x 17) ≡ source_of (component_of n (word_of x))
by-source n e z x =
    agree (λ w. source_of (component_of n w)) (λ x. eqb x 11 || (eqb x 14 || eqb x 17)) e
    (λ x h. rw (ne_eqb x 11 (λ z. omega arith), ne_eqb x 14 (λ z. omega arith), ne_eqb x 17 (λ z. omega arith)) (sym z)) x

source-numbers : (n : Sides) (x : ℕ) → eqb x 11 || (eqb x 14 || eqb x 17) ≡ source_of (component_of n (word_of x))
unfolding same lookup reserved keywords words component_of agreeing
source-numbers two_sides x = by-source two_sides refl refl x
source-numbers three_sides x = by-source three_sides refl refl x

role-numbers : (n : Sides) (x : ℕ) → eqb x 14 ≡ role_source (component_of n (word_of x))
unfolding same lookup reserved keywords words component_of agreeing
role-numbers two_sides x = agree (λ w. role_source (component_of two_sides w)) (λ n. eqb n 14) refl (λ n h. ne_eqb n 14 (λ z. omega arith)) x
role-numbers three_sides x = agree (λ w. role_source (component_of three_sides w)) (λ n. eqb n 14) refl (λ n h. ne_eqb n 14 (λ z. omega arith)) x

-- the first of two sides is a source
no_source : (v c : Option Component) → source_of v ≡ false → pair_of v c ≡ false
no_source none c e = refl
no_source (some x) none e = refl
no_source (some x) (some y) e = go x.side refl
  where
    go : (s : Side) → x.side ≡ s → are_sides x y ≡ false
    go source d = never (rw d at e)
    go target d = rw d
    go process d = rw d

pub not_first : (n : Sides) (x : ℕ) (c : Option Component) → (x ≡ 11 → ⊥) → (x ≡ 14 → ⊥) → (x ≡ 17 → ⊥) → pair_of (component_of n (word_of x)) c ≡ false
not_first n x c a b d = no_source (component_of n (word_of x)) c (sym (source-numbers n x) ∙ rw (ne_eqb x 11 a, ne_eqb x 14 b, ne_eqb x 17 d))

-- ---- the operators that two sides may have

role-op : (o : Option Op) → any_op o (some (component roles source)) ≡ is_some o
role-op none = refl
role-op (some eq) = refl
role-op (some neq) = refl
role-op (some dom) = refl
role-op (some domby) = refl
role-op (some incomp) = refl

or-false : (b : Bool) → b || false ≡ b
or-false true = refl
or-false false = refl

other-op : (o : Option Op) (v c : Option Component) → pair_of v c ≡ true → role_source v ≡ false → any_op o v ≡ plain_op o
other-op none v c e f = refl
other-op (some o) none c e f = never (sym e)
other-op (some o) (some x) c e f = go x.side refl (is_roles x.family) refl
  where
    go : (s : Side) → x.side ≡ s → (r : Bool) → is_roles x.family ≡ r → is_plain o || is_roles x.family ≡ is_plain o
    go target d r g = never (sym e ∙ no_source (some x) c (rw d))
    go process d r g = never (sym e ∙ no_source (some x) c (rw d))
    go source d false g = rw g (or-false (is_plain o))
    go source d true g = never (rw (g, d) at f)

-- ---- comparisons by the numbers of their words

module _ (n : Sides) (op x : ℕ) (w : Name) where
  name-last : true ≡ not (is_reserved w) → comparing n op x w ≡ is_some (component_of n (word_of x)) && plain_op (op_of (word_of op))
  unfolding comparing
  name-last e = by_name n (op_of (word_of op)) (component_of n (word_of x)) w (not-true _ (sym e))

  pub compares-name : true ≡ not (is_reserved w) → is_some (component_of n (word_of x)) ≡ true → comparing n op x w ≡ plain_op (op_of (word_of op))
  compares-name e f = name-last e ∙ rw f

  pub compares-nothing : true ≡ not (is_reserved w) → is_some (component_of n (word_of x)) ≡ false → comparing n op x w ≡ false
  compares-nothing e f = name-last e ∙ rw f

-- a word may be the second side of a family by its number
sides-by : (n : Sides) (v : Option Component) (w : Name) (y : ℕ) → number_of w ≡ y → pair_of v (component_of n w) ≡ pair_of v (component_of n (word_of y))
sides-by n v w y e = ap (pair_of v) (component-number w n ∙ ap (λ (k : ℕ). component_of n (word_of k)) e)

module _ (n : Sides) (op x y : ℕ) (w : Name) (k : number_of w ≡ y) where
  sides_first : false ≡ not (is_reserved w)
      → comparing n op x w ≡ pair_of (component_of n (word_of x)) (component_of n (word_of y)) && any_op (op_of (word_of op)) (component_of n (word_of x))
  unfolding comparing
  sides_first e =
      by-sides n (op_of (word_of op)) (component_of n (word_of x)) w (not-false _ (sym e))
      ∙ ap (λ (b : Bool). b && any_op (op_of (word_of op)) (component_of n (word_of x))) (sides-by n (component_of n (word_of x)) w y k)

  pub compares-not : false ≡ not (is_reserved w) → pair_of (component_of n (word_of x)) (component_of n (word_of y)) ≡ false → comparing n op x w ≡ false
  compares-not e f = sides_first e ∙ rw f

  first-role : (m : Sides) → any_op (op_of (word_of op)) (component_of m (word_of 14)) ≡ is_some (op_of (word_of op))
  unfolding same lookup reserved keywords words word_of component_of
  first-role two_sides = role-op (op_of (word_of op))
  first-role three_sides = role-op (op_of (word_of op))

  pub compares-roles : false ≡ not (is_reserved w) → x ≡ 14 → comparing n op x w ≡ eqb y 15 && is_some (op_of (word_of op))
  compares-roles e g =
      sides_first e
      ∙ ap (λ (k : ℕ). pair_of (component_of n (word_of k)) (component_of n (word_of y)) && any_op (op_of (word_of op)) (component_of n (word_of k))) g
      ∙ ap (λ (b : Bool). b && any_op (op_of (word_of op)) (component_of n (word_of 14))) (sym (roles-pair n y))
      ∙ ap (λ (b : Bool). eqb y 15 && b) (first-role n)

  pub compares-others : false ≡ not (is_reserved w) → pair_of (component_of n (word_of x)) (component_of n (word_of y)) ≡ true → (x ≡ 14 → ⊥)
      → comparing n op x w ≡ plain_op (op_of (word_of op))
  compares-others e f g =
      sides_first e
      ∙ ap (λ (b : Bool). b && any_op (op_of (word_of op)) (component_of n (word_of x))) f
      ∙ other-op (op_of (word_of op)) (component_of n (word_of x)) (component_of n (word_of y)) f (sym (role-numbers n x) ∙ ne_eqb x 14 g)

by-numbers : (n : Sides) (o v w : Name) → is_some (comparison_of n (op_of o) (component_of n v) w) ≡ comparing n (number_of o) (number_of v) w
unfolding comparing
by-numbers n o v w =
    ap (λ (x : Option Op). is_some (comparison_of n x (component_of n v) w)) (op-number o)
    ∙ ap (λ (x : Option Component). is_some (comparison_of n (op_of (word_of (number_of o))) x w)) (component-number v n)

-- ---- the row of a comparison

wrong : (o : Option Op) → is_some {A = Constraint Name} (o >>= λ x. none) ≡ false
wrong none = refl
wrong (some o) = refl

-- a comparison by the number of its first word
pub compare-is : (n : Sides) (w : Name) (f : Forms) → is_some (comparison n w f) ≡ both_sides n (number_of w) f
compare-is n w closed = wrong (op_of w)
compare-is n w ended = wrong (op_of w)
compare-is n w (part p f g) = wrong (op_of w)
compare-is n w (word s v closed) = wrong (op_of w)
compare-is n w (word s v ended) = wrong (op_of w)
compare-is n w (word s v (part p f g)) = wrong (op_of w)
compare-is n w (word s v (word r u closed)) = by-numbers n w v u ∙ sym (and-true (comparing n (number_of w) (number_of v) u))
compare-is n w (word s v (word r u ended)) = wrong (op_of w) ∙ sym (and-false (comparing n (number_of w) (number_of v) u))
compare-is n w (word s v (word r u (word q x f))) = wrong (op_of w) ∙ sym (and-false (comparing n (number_of w) (number_of v) u))
compare-is n w (word s v (word r u (part p f g))) = wrong (op_of w) ∙ sym (and-false (comparing n (number_of w) (number_of v) u))

-- ---- a cut changes nothing in a comparison

module _ (n : Sides) where
  trim-second : (f : Forms) (k op x : ℕ) → second_side n op x (trim f k) ≡ second_side n op x f
  unfolding trim
  trim-second closed k op x = refl
  trim-second ended k op x = refl
  trim-second (word s b f) k op x = ap (λ (c : Bool). comparing n op x b && c) (trim-closed f k)
  trim-second (part p f g) k op x = cut-or-whole p f g k (second_side n op x) refl (λ a b. refl)

  pub trim-sides : (f : Forms) (k op : ℕ) → both_sides n op (trim f k) ≡ both_sides n op f
  unfolding trim
  trim-sides closed k op = refl
  trim-sides ended k op = refl
  trim-sides (word s b f) k op = trim-second f k op (number_of b)
  trim-sides (part p f g) k op = cut-or-whole p f g k (both_sides n op) refl (λ a b. refl)
