-- What a row of a text says does not depend on the places of its words and parts: with other places it is of the same form. Each law follows the
-- definition of the grammar that it speaks of. Assumes nothing.
use Prim.Native.Nat.{ℕ}
use mathlib.Core.Path.{◌≡◌, refl, ap}
use mathlib.Core.List.{List}
use mathlib.Core.Option.{Option, none, some}
use Rattle.lexer.specs.Forms.{Forms, closed, ended, word, part}
use Rattle.policy.specs.Basics.{Name, ◌>>=◌, more}
use Rattle.policy.specs.Words.{as_name, as_part, Keyword, declare_k, class_k, set_k, relation_k, transition_k, constrain_k, relabel_k, Connective, keyword_of, expression_word, op_of, component_of}
use Rattle.policy.specs.Words.{Sides, two_sides, three_sides}
use Rattle.policy.specs.Grammar.{operands, set_in, compared, at_close, word_then, part_then, two_words, two_parts, word_and_part, comparison, connected, expressions}
use Rattle.policy.specs.Grammar.{expression_in, row_of, class_in, formed, written}
use Rattle.policy.specs.Statements.{Constraint}

-- the same row at other places
abbrev pub placed : (ℕ → ℕ) → Forms → Forms
placed g closed = closed
placed g ended = ended
placed g (word at w r) = word (g at) w (placed g r)
placed g (part at i r) = part (g at) (placed g i) (placed g r)

module _ (g : ℕ → ℕ) where
  -- ROWS
  module _ {A : Type 0} where
    close-placed : (f : Forms) (o : Option A) → at_close (placed g f) o ≡ at_close f o
    close-placed closed o = refl
    close-placed ended o = refl
    close-placed (word at w r) o = refl
    close-placed (part at i r) o = refl

    word-placed : (f : Forms) (h k : Name → Forms → Option A) → ((w : Name) (r : Forms) → h w (placed g r) ≡ k w r) → word_then (placed g f) h ≡ word_then f k
    word-placed closed h k e = refl
    word-placed ended h k e = refl
    word-placed (word at w r) h k e = e w r
    word-placed (part at i r) h k e = refl

    part_placed : (f : Forms) (h k : Forms → Forms → Option A) → ((i r : Forms) → h (placed g i) (placed g r) ≡ k i r) → part_then (placed g f) h ≡ part_then f k
    part_placed closed h k e = refl
    part_placed ended h k e = refl
    part_placed (word at w r) h k e = refl
    part_placed (part at i r) h k e = e i r

    two-words-placed : (f : Forms) (h : Name → Name → Option A) → two_words (placed g f) h ≡ two_words f h
    two-words-placed f h = word-placed f _ _ λ v r. word-placed r _ _ λ w r. close-placed r (h v w)

    word-and-part-placed : (f : Forms) (h : Name → Forms → Option A) → ((w : Name) (i : Forms) → h w (placed g i) ≡ h w i) → word_and_part (placed g f) h ≡ word_and_part f h
    word-and-part-placed f h e = word-placed f _ _ λ w r. part_placed r _ _ λ i r. rw (e w i) (close-placed r (h w i))

    two-parts-placed : (f : Forms) (h : Forms → Forms → Option A) → ((i j : Forms) → h (placed g i) (placed g j) ≡ h i j) → two_parts (placed g f) h ≡ two_parts f h
    two-parts-placed f h e = part_placed f _ _ λ i r. part_placed r _ _ λ j r. rw (e i j) (close-placed r (h i j))

  -- NAMES AND CLASSES
  names-placed : (taken : Name → Option Name) (f : Forms) → row_of taken (placed g f) ≡ row_of taken f
  unfolding row_of
  names-placed taken closed = refl
  names-placed taken ended = refl
  names-placed taken (word at w r) = ap (more (taken w)) (names-placed taken r)
  names-placed taken (part at i r) = refl

  class-placed : {A : Type 0} (taken : Name → Option Name) (f : Forms) (h : Name → List Name → Option A) → class_in taken (placed g f) h ≡ class_in taken f h
  class-placed taken f h = word-and-part-placed f _ λ c i. rw (names-placed as_part i)

  -- SETS
  mutual
    unfolding operands

    operands-placed : (f : Forms) → operands (placed g f) ≡ operands f
    operands-placed closed = refl
    operands-placed ended = refl
    operands-placed (word at w r) = rw (operands-placed r)
    operands-placed (part at i r) = rw (set-placed i, operands-placed r)

    set-placed : (f : Forms) → set_in (placed g f) ≡ set_in f
    set-placed closed = refl
    set-placed ended = refl
    set-placed (word at w r) = rw (operands-placed r)
    set-placed (part at i r) = rw (set-placed i, operands-placed r)

  -- EXPRESSIONS
  comparison-placed : (n : Sides) (w : Name) (f : Forms) → comparison n w (placed g f) ≡ comparison n w f
  comparison-placed n w f = go (op_of w)
    where
      go : (o : Option _) → (o >>= λ o. two_words (placed g f) (λ v w. component_of n v >>= λ x. compared o x w (component_of n w)))
          ≡ (o >>= λ o. two_words f (λ v w. component_of n v >>= λ x. compared o x w (component_of n w)))
      go none = refl
      go (some o) = two-words-placed f _

  connected-placed : (n : Sides) (w : Name) (f : Forms) (c : Option Connective) (es : Option (List (Constraint Name)))
      → connected n w (placed g f) c es ≡ connected n w f c es
  connected-placed n w f none es = comparison-placed n w f
  connected-placed n w f (some c) es = refl

  mutual
    unfolding expressions

    expressions-placed : (n : Sides) (f : Forms) → expressions n (placed g f) ≡ expressions n f
    expressions-placed n closed = refl
    expressions-placed n ended = refl
    expressions-placed n (word at w r) = refl
    expressions-placed n (part at i r) = rw (expression-placed n i, expressions-placed n r)

    expression-placed : (n : Sides) (f : Forms) → expression_in n (placed g f) ≡ expression_in n f
    expression-placed n closed = refl
    expression-placed n ended = refl
    expression-placed n (word at w r) = rw (expressions-placed n r) (connected-placed n w r (expression_word w) (expressions n r))
    expression-placed n (part at i r) = refl

  -- STATEMENTS
  formed-placed : (k : Keyword) (f : Forms) → formed k (placed g f) ≡ formed k f
  formed-placed (declare_k s) f = rw (names-placed as_part f)
  formed-placed class_k f = class-placed as_part f _
  formed-placed (set_k a) f = word-and-part-placed f _ λ w i. rw (set-placed i)
  formed-placed (relation_k r) f = rw (names-placed as_name f)
  formed-placed transition_k f = rw (names-placed as_name f)
  formed-placed constrain_k f = two-parts-placed f _ λ i j. rw (expression-placed two_sides j) (class-placed as_name i _)
  formed-placed relabel_k f = word-and-part-placed f _ λ w i. rw (expression-placed three_sides i)

  pub written-placed : (f : Forms) → written (placed g f) ≡ written f
  written-placed closed = refl
  written-placed ended = refl
  written-placed (part at i r) = refl
  written-placed (word at w r) = go (keyword_of w)
    where
      go : (k : Option Keyword) → (k >>= λ k. formed k (placed g r)) ≡ (k >>= λ k. formed k r)
      go none = refl
      go (some k) = formed-placed k r
