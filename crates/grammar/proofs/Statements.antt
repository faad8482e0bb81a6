-- The law that ties the reader's forms to policy's: there is something `written` exactly if the row is of the form that its keyword asks for.
-- Assumes nothing.
use mathlib.Core.Path.{◌≡◌, refl, sym, ap, ◌∙◌}
use mathlib.Core.Bool.{Bool, true, false, not, ◌&&◌, and-false, and-true}
use mathlib.Core.List.{List, [], ◌∷◌}
use mathlib.Core.Option.{Option, none, some}
use Prim.Native.Nat.{ℕ, suc, ◌+◌}
use native.Mathlib.Omega.{arith}
use borrow.Author.Tests.{lt-ltb, ne_eqb}
use lib.ListN.{length, take, drop}
use Rattle.lexer.specs.Forms.{Forms, closed, ended, word, part, frames_at, trim}
use Rattle.policy.specs.Basics.{Name, ◌>>=◌}
use Rattle.policy.specs.Words.{is_reserved, as_name, as_part, Keyword, declare_k, class_k, set_k, relation_k, transition_k, constrain_k, relabel_k, keyword_of, two_sides, three_sides}
use Rattle.policy.specs.Statements.{SetExpr, plain, class, declare, attributeset, gives, constrain, validatetrans, Constraint, Written}
use Rattle.policy.specs.Grammar.{word_and_part, set_in, expression_in, row_of, one_or_more, class_in, of_four, formed, written}
use Rattle.words.specs.Numbers.{word_of, may_be, taken_as}
use Rattle.words.specs.declared.NameKind.{NameKind}
use Rattle.policy.specs.declared.Sides.{Sides}
use Rattle.words.proofs.Meaning.{keyword-number}
use Rattle.items.specs.Reads.{is_some, counted}
use Rattle.items.specs.declared.Item.{Item}
use Rattle.items.specs.declared.Wanted.{Wanted}
use Rattle.items.proofs.Items as items
use Rattle.items.proofs.Items.{Looked}
use Rattle.items.proofs.Counts.{of_one_lem, of_two_lem}
use Rattle.grammar.specs.Shapes.{is_statement, content_of, name_and_part, class_and_constraint, by_keyword, by_word}
use Rattle.grammar.specs.declared.Content.{Content}

-- ---- what is written

-- a word, a part and a close, of which g asks what is asked of a name of a kind and a part, and b besides
module _ {A : Type 0} (g : Name → Forms → Option A) (n : NameKind) (k : Content) (b : Bool)
    (asks : (w : Name) (i : Forms) → is_some (g w i) ≡ (may_be n w && content_of k i) && b) where
  word-and-part : (f : Forms) → is_some (word_and_part f g) ≡ name_and_part n k f && b
  word-and-part closed = refl
  word-and-part ended = refl
  word-and-part (part p f h) = refl
  word-and-part (word s w closed) = rw (and-false (may_be n w))
  word-and-part (word s w ended) = rw (and-false (may_be n w))
  word-and-part (word s w (word r v f)) = rw (and-false (may_be n w))
  word-and-part (word s w (part p i closed)) = rw (and-true (content_of k i)) (asks w i)
  word-and-part (word s w (part p i ended)) = rw (and-false (content_of k i), and-false (may_be n w))
  word-and-part (word s w (part p i (word r v f))) = rw (and-false (content_of k i), and-false (may_be n w))
  word-and-part (word s w (part p i (part r v f))) = rw (and-false (content_of k i), and-false (may_be n w))

-- a class and its permissions
module _ {A : Type 0} (n : NameKind) (h : Name → List Name → Option A) (b : Bool) (then : (c : Name) (ps : List Name) → is_some (h c ps) ≡ b) where
  some-permissions : (c : Name) (ps : Option (List Name)) → is_some (ps >>= λ ps. one_or_more ps >>= λ ps. h c ps) ≡ counted Wanted.OneOrMore 0 ps && b
  unfolding counted
  some-permissions c none = refl
  some-permissions c (some []) = refl
  some-permissions c (some (p ∷ ps)) = rw (lt-ltb 0 (0 + suc (length ps)) (omega arith)) (then c (p ∷ ps))

  abbrev class-then : Name → Forms → Option A
  class-then w i = taken_as n w >>= λ c. row_of as_part i >>= λ ps. one_or_more ps >>= λ ps. h c ps

  class-asks : (w : Name) (i : Forms) → is_some (class-then w i) ≡ (may_be n w && content_of Content.Permissions i) && b
  class-asks w i = go (may_be n w) refl
    where
      go : (q : Bool) → may_be n w ≡ q → is_some (class-then w i) ≡ (may_be n w && content_of Content.Permissions i) && b
      go true e = rw e (some-permissions w (row_of as_part i))
      go false e = rw e

  class-is : (f : Forms) → is_some (class_in (taken_as n) f h) ≡ name_and_part n Content.Permissions f && b
  class-is f = word-and-part class-then n Content.Permissions b class-asks f

-- a name and an S
set_then : {A : Type 0} (s : Option (SetExpr Name)) (h : SetExpr Name → A) → is_some (s >>= λ s. some (h s)) ≡ is_some s && true
set_then none h = refl
set_then (some s) h = refl

set-asks : {A : Type 0} (h : Name → SetExpr Name → A) (w : Name) (i : Forms) → is_some (as_name w >>= λ w. set_in i >>= λ s. some (h w s))
    ≡ (may_be NameKind.Name w && content_of Content.Set i) && true
set-asks h w i = go (not (is_reserved w)) refl
  where
    go : (q : Bool) → not (is_reserved w) ≡ q → is_some (as_name w >>= λ w. set_in i >>= λ s. some (h w s)) ≡ (not (is_reserved w) && content_of Content.Set i) && true
    go true e = rw e (set_then (set_in i) (h w))
    go false e = rw e

-- a class and an E
relabel-asks : (w : Name) (i : Forms) → is_some (as_name w >>= λ c. expression_in three_sides i >>= λ e. some (validatetrans c e))
    ≡ (may_be NameKind.Name w && content_of (Content.Constraint Sides.Three) i) && true
relabel-asks w i = go (not (is_reserved w)) refl
  where
    saying : Name → Constraint Name → Written
    saying c e = validatetrans c e

    then : (e : Option (Constraint Name)) → is_some (e >>= λ e. some (saying w e)) ≡ is_some e && true
    then none = refl
    then (some e) = refl

    go : (q : Bool) → not (is_reserved w) ≡ q
        → is_some (as_name w >>= λ c. expression_in three_sides i >>= λ e. some (saying c e))
        ≡ (not (is_reserved w) && content_of (Content.Constraint Sides.Three) i) && true
    go true e = rw e (then (expression_in three_sides i))
    go false e = rw e

-- a class with permissions, and an E
then-expression : {A B : Type 0} (h : B → A) (e : Option B) → is_some (e >>= λ e. some (h e)) ≡ is_some e
then-expression h none = refl
then-expression h (some e) = refl

constrain-is : (f : Forms) → is_some (formed constrain_k f) ≡ class_and_constraint f
constrain-is closed = refl
constrain-is ended = refl
constrain-is (word s w f) = refl
constrain-is (part p i closed) = sym (and-false (name_and_part NameKind.Name Content.Permissions i))
constrain-is (part p i ended) = sym (and-false (name_and_part NameKind.Name Content.Permissions i))
constrain-is (part p i (word s w f)) = sym (and-false (name_and_part NameKind.Name Content.Permissions i))
constrain-is (part p i (part q j closed)) =
    class-is NameKind.Name (λ c ps. expression_in two_sides j >>= λ e. some (constrain c ps e)) (is_some (expression_in two_sides j)) (λ c ps. then-expression (constrain c ps) (expression_in two_sides j)) i
    ∙ ap (λ (b : Bool). name_and_part NameKind.Name Content.Permissions i && b) (sym (and-true (is_some (expression_in two_sides j))))
constrain-is (part p i (part q j ended)) = rw (and-false (is_some (expression_in two_sides j)), and-false (name_and_part NameKind.Name Content.Permissions i))
constrain-is (part p i (part q j (word s w f))) = rw (and-false (is_some (expression_in two_sides j)), and-false (name_and_part NameKind.Name Content.Permissions i))
constrain-is (part p i (part q j (part r f g))) = rw (and-false (is_some (expression_in two_sides j)), and-false (name_and_part NameKind.Name Content.Permissions i))

four : (xs : Option (List Name)) → counted (Wanted.Exactly 4) 0 xs ≡ is_some (xs >>= of_four)
unfolding counted
four none = refl
four (some []) = refl
four (some (r ∷ [])) = refl
four (some (r ∷ t ∷ [])) = refl
four (some (r ∷ t ∷ c ∷ [])) = refl
four (some (r ∷ t ∷ c ∷ n ∷ [])) = refl
four (some (r ∷ t ∷ c ∷ n ∷ x ∷ xs)) = ne_eqb (0 + suc (suc (suc (suc (suc (length xs)))))) 4 (λ z. omega arith)

-- what follows a keyword
formed-is : (k : Keyword) (f : Forms) → is_some (formed k f) ≡ by_keyword k f
formed-is (declare_k s) f = sym (of_one_lem (λ w. declare (plain s w)) (row_of as_part f))
formed-is class_k f = class-is NameKind.Part (λ c ps. some (declare (class c ps))) true (λ c ps. refl) f ∙ and-true (name_and_part NameKind.Part Content.Permissions f)
formed-is (set_k a) f =
    word-and-part (λ w i. as_name w >>= λ w. set_in i >>= λ s. some (attributeset a w s)) NameKind.Name Content.Set true (set-asks (attributeset a)) f
    ∙ and-true (name_and_part NameKind.Name Content.Set f)
formed-is (relation_k r) f = sym (of_two_lem (gives r) (row_of as_name f))
formed-is transition_k f = sym (four (row_of as_name f))
formed-is constrain_k f = constrain-is f
formed-is relabel_k f =
    word-and-part (λ c i. as_name c >>= λ c. expression_in three_sides i >>= λ e. some (validatetrans c e)) NameKind.Name (Content.Constraint Sides.Three) true relabel-asks f
    ∙ and-true (name_and_part NameKind.Name (Content.Constraint Sides.Three) f)

by-word : (k : Option Keyword) (f : Forms) → is_some (k >>= λ k. formed k f) ≡ by_word k f
by-word none f = refl
by-word (some k) f = formed-is k f

-- what the parentheses of a statement hold
pub statement-is : (f : Forms) → is_some (written f) ≡ is_statement f
statement-is closed = refl
statement-is ended = refl
statement-is (word s w f) = by-word (keyword_of w) f
statement-is (part p f g) = refl

-- the same at a place, by the keyword that the first word is
pub statement-row : {t : List ℕ} {i s n k j : ℕ} (levels : ℕ) → Looked t i (Item.Word s n k j) → (o : Option Keyword) → keyword_of (word_of k) ≡ o
    → is_some (written (trim (frames_at t i).here levels)) ≡ by_word o (trim (frames_at t j).here levels)
statement-row {t} {i} {s} {n} {k} {j} levels l o e =
    statement-is (trim (frames_at t i).here levels)
    ∙ items.by_word is_statement levels l
    ∙ ap (λ (x : Option Keyword). by_word x (trim (frames_at t j).here levels))
    (keyword-number (take n (drop s t)) ∙ ap (λ (m : ℕ). keyword_of (word_of m)) l.ahead.2 ∙ e)
