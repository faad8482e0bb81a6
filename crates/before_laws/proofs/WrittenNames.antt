-- The names of a statement as it is written are words of its row: what every word of the row has, every name has. Each law follows the
-- definition of the grammar that it speaks of. Assumes nothing.
use mathlib.Core.Bool.{not, ◌&&◌, ◌||◌}
use mathlib.Core.List.{List, [], ◌∷◌}
use mathlib.Core.Option.{Option, none, some}
use Rattle.lexer.specs.Forms.{Forms, closed, ended, word, part}
use Rattle.policy.specs.Basics.{Name, ◌>>=◌, All}
use Rattle.policy.specs.Words.{is_reserved, dotless, as_name, as_part, Keyword, declare_k, class_k, set_k, relation_k, transition_k, constrain_k, relabel_k, keyword_of}
use Rattle.policy.specs.Words.{Connective, all_c, not_c, and_c, or_c, xor_c, set_word, expression_word, op_of, is_plain, Sides, two_sides, three_sides, Component, component_of}
use Rattle.policy.specs.Statements.{plain, class, declare, attributeset, gives, roletransition, constrain, validatetrans, Written}
use Rattle.policy.specs.Statements.{SetExpr, name_s, all_s, not_s, and_s, or_s, xor_s, union_s, empty_s, Op, Constraint, sides_e, name_e, not_e, and_e, or_e}
use Rattle.policy.specs.Grammar.{word_then, part_then, two_words, word_and_part, row_of, one_or_more, class_in, of_four, formed, written}
use Rattle.policy.specs.Grammar.{operand_row, union_of, form_s, headed, operands, set_in}
use Rattle.policy.specs.Grammar.{are_sides, is_roles, compared, comparison, form_e, connected, expressions, expression_in}
use Rattle.policy.proofs.IfAny.{IfAny, nothing, just, and_then, whatever, if-given, if-one, if-two, if-more, at-close}
use Rattle.before_laws.proofs.PlainWords.{Words}

-- ---- what it is for every name to have a property

abbrev pub NamesS : (Name → Type 0) → SetExpr Name → Type 0
NamesS P (name_s w) = P w
NamesS P all_s = Unit {0}
NamesS P (not_s x) = NamesS P x
NamesS P (and_s x y) = NamesS P x × NamesS P y
NamesS P (or_s x y) = NamesS P x × NamesS P y
NamesS P (xor_s x y) = NamesS P x × NamesS P y
NamesS P (union_s x y) = NamesS P x × NamesS P y
NamesS P empty_s = Unit {0}

abbrev pub NamesE : (Name → Type 0) → Constraint Name → Type 0
NamesE P (sides_e f o) = Unit {0}
NamesE P (name_e f s o w) = P w
NamesE P (not_e x) = NamesE P x
NamesE P (and_e x y) = NamesE P x × NamesE P y
NamesE P (or_e x y) = NamesE P x × NamesE P y

-- permissions are left out: they are looked up in their class, with dots or without
abbrev pub Names : (Name → Type 0) → Written → Type 0
Names P (declare (plain s w)) = P w
Names P (declare (class w ps)) = P w
Names P (attributeset f a s) = P a × NamesS P s
Names P (gives r x y) = P x × P y
Names P (roletransition r t c n) = P r × P t × P c × P n
Names P (constrain c ps e) = P c × NamesE P e
Names P (validatetrans c e) = P c × NamesE P e

module _ (P : Name → Type 0) where
  -- ---- rows

  -- what takes a word as a name, if it is one
  abbrev Takes : (Name → Option Name) → Type 0
  Takes taken = (w : Name) → P w → IfAny P (taken w)

  -- both ways of the grammar do
  as-name : Takes as_name
  as-name w x = if-given (not (is_reserved w)) w λ _. x

  as-part : Takes as_part
  as-part w x = if-given (dotless w && not (is_reserved w)) w λ _. x

  row-names : (taken : Name → Option Name) → Takes taken → (f : Forms) → Words P f → IfAny (All P) (row_of taken f)
  unfolding row_of
  row-names taken k closed x = just tt
  row-names taken k ended x = nothing
  row-names taken k (word at w after) x = if-more _ _ (k w x.0) (row-names taken k after x.1)
  row-names taken k (part at inner after) x = nothing

  module _ {A : Type 0} {Q : A → Type 0} where
    -- the ends and beginnings of rows
    word-then : (f : Forms) (g : Name → Forms → Option A) → Words P f → ((w : Name) (r : Forms) → P w → Words P r → IfAny Q (g w r))
        → IfAny Q (word_then f g)
    word-then closed g x k = nothing
    word-then ended g x k = nothing
    word-then (word at w after) g x k = k w after x.0 x.1
    word-then (part at inner after) g x k = nothing

    part_then_lem : (f : Forms) (g : Forms → Forms → Option A) → Words P f → ((i r : Forms) → Words P i → Words P r → IfAny Q (g i r))
        → IfAny Q (part_then f g)
    part_then_lem closed g x k = nothing
    part_then_lem ended g x k = nothing
    part_then_lem (word at w after) g x k = nothing
    part_then_lem (part at inner after) g x k = k inner after x.0 x.1

  module _ {A : Type 0} {Q : A → Type 0} where
    -- and what is made of them; the first of two words is no name
    two-words : (f : Forms) (g : Name → Name → Option A) → Words P f → ((v w : Name) → P w → IfAny Q (g v w)) → IfAny Q (two_words f g)
    two-words f g x k = word-then f _ x λ v r _ y. word-then r _ y λ w r p _. at-close r _ (k v w p)

    word-and-part : (f : Forms) (g : Name → Forms → Option A) → Words P f → ((w : Name) (i : Forms) → P w → Words P i → IfAny Q (g w i))
        → IfAny Q (word_and_part f g)
    word-and-part f g x k = word-then f _ x λ w r p y. part_then_lem r _ y λ i r z _. at-close r _ (k w i p z)

    class-in : (taken : Name → Option Name) → Takes taken → (f : Forms) (g : Name → List Name → Option A) → Words P f
        → ((c : Name) (ps : List Name) → P c → IfAny Q (g c ps)) → IfAny Q (class_in taken f g)
    class-in taken t f g x k = word-and-part f _ x λ c i p y.
        and_then _ _ (t c p) λ c q. whatever (row_of as_part i) _ λ ps. whatever (one_or_more ps) _ λ ps. k c ps q

  -- ---- set expressions

  operand-row : (xs : List (SetExpr Name)) → All (NamesS P) xs → NamesS P (operand_row xs)
  unfolding operand_row
  operand-row [] x = tt
  operand-row (s ∷ ss) x = (x.0, operand-row ss x.1)

  union-names : (o : Option (SetExpr Name)) (os : Option (List (SetExpr Name))) → IfAny (NamesS P) o → IfAny (All (NamesS P)) os
      → IfAny (NamesS P) (union_of o os)
  union-names o os h k = and_then o _ h λ x p. and_then os _ k λ xs q. just (p, operand-row xs q)

  form-s : (c : Connective) (xs : List (SetExpr Name)) → All (NamesS P) xs → IfAny (NamesS P) (form_s c xs)
  form-s all_c [] x = just tt
  form-s all_c (s ∷ ss) x = nothing
  form-s not_c xs x = if-one not_s xs x λ a p. p
  form-s and_c xs x = if-two and_s xs x λ a b p q. (p, q)
  form-s or_c xs x = if-two or_s xs x λ a b p q. (p, q)
  form-s xor_c xs x = if-two xor_s xs x λ a b p q. (p, q)

  name-s : (w : Name) → P w → IfAny (NamesS P) (as_name w >>= λ n. some (name_s n))
  name-s w x = and_then (as_name w) _ (as-name w x) λ n p. just p

  headed-names : (w : Name) (c : Option Connective) (os : Option (List (SetExpr Name))) → P w → IfAny (All (NamesS P)) os
      → IfAny (NamesS P) (headed w c os)
  headed-names w none os x h = union-names _ os (name-s w x) h
  headed-names w (some c) os x h = and_then os _ h (form-s c)

  mutual
    unfolding operands

    operands-names : (f : Forms) → Words P f → IfAny (All (NamesS P)) (operands f)
    operands-names closed x = just tt
    operands-names ended x = nothing
    operands-names (word at w after) x = if-more _ _ (name-s w x.0) (operands-names after x.1)
    operands-names (part at inner after) x = if-more _ _ (set-names inner x.0) (operands-names after x.1)

    set-names : (f : Forms) → Words P f → IfAny (NamesS P) (set_in f)
    set-names closed x = nothing
    set-names ended x = nothing
    set-names (word at w after) x = headed-names w (set_word w) (operands after) x.0 (operands-names after x.1)
    set-names (part at inner after) x = union-names (set_in inner) (operands after) (set-names inner x.0) (operands-names after x.1)

  -- ---- constraint expressions

  compared-names : (o : Op) (y : Component) (w : Name) (c : Option Component) → P w → IfAny (NamesE P) (compared o y w c)
  compared-names o y w none x = and_then (as_name w) _ (as-name w x) λ n p. if-given (is_plain o) _ λ _. p
  compared-names o y w (some z) x = if-given (are_sides y z && (is_plain o || is_roles y.family)) (sides_e y.family o) λ _. tt

  comparison-names : (n : Sides) (w : Name) (f : Forms) → Words P f → IfAny (NamesE P) (comparison n w f)
  comparison-names n w f x = whatever (op_of w) _ λ o. two-words f _ x λ v w p. whatever (component_of n v) _ λ y. compared-names o y w (component_of n w) p

  form-e : (c : Connective) (xs : List (Constraint Name)) → All (NamesE P) xs → IfAny (NamesE P) (form_e c xs)
  form-e all_c xs x = nothing
  form-e not_c xs x = if-one not_e xs x λ a p. p
  form-e and_c xs x = if-two and_e xs x λ a b p q. (p, q)
  form-e or_c xs x = if-two or_e xs x λ a b p q. (p, q)
  form-e xor_c xs x = nothing

  connected-names : (n : Sides) (w : Name) (f : Forms) (c : Option Connective) (os : Option (List (Constraint Name))) → Words P f
      → IfAny (All (NamesE P)) os → IfAny (NamesE P) (connected n w f c os)
  connected-names n w f none os x h = comparison-names n w f x
  connected-names n w f (some c) os x h = and_then os _ h (form-e c)

  mutual
    unfolding expressions

    expressions-names : (n : Sides) (f : Forms) → Words P f → IfAny (All (NamesE P)) (expressions n f)
    expressions-names n closed x = just tt
    expressions-names n ended x = nothing
    expressions-names n (word at w after) x = nothing
    expressions-names n (part at inner after) x = if-more _ _ (expression-names n inner x.0) (expressions-names n after x.1)

    expression-names : (n : Sides) (f : Forms) → Words P f → IfAny (NamesE P) (expression_in n f)
    expression-names n closed x = nothing
    expression-names n ended x = nothing
    expression-names n (word at w after) x = connected-names n w after (expression_word w) (expressions n after) x.1 (expressions-names n after x.1)
    expression-names n (part at inner after) x = nothing

  -- ---- statements

  four-names : (ws : List Name) → All P ws → IfAny (Names P) (of_four ws)
  four-names [] x = nothing
  four-names (r ∷ []) x = nothing
  four-names (r ∷ t ∷ []) x = nothing
  four-names (r ∷ t ∷ c ∷ []) x = nothing
  four-names (r ∷ t ∷ c ∷ n ∷ []) x = just (x.0, x.1.0, x.1.1.0, x.1.1.1.0)
  four-names (r ∷ t ∷ c ∷ n ∷ w ∷ ws) x = nothing

  formed-names : (k : Keyword) (f : Forms) → Words P f → IfAny (Names P) (formed k f)
  formed-names (declare_k s) f x = and_then _ _ (row-names as_part as-part f x) λ ws y. if-one _ ws y λ w p. p
  formed-names class_k f x = class-in as_part as-part f _ x λ c ps p. just p
  formed-names (set_k a) f x = word-and-part f _ x λ w i p y. and_then _ _ (as-name w p) λ w p. and_then _ _ (set-names i y) λ s q. just (p, q)
  formed-names (relation_k r) f x = and_then _ _ (row-names as_name as-name f x) λ ws y. if-two _ ws y λ v w p q. (p, q)
  formed-names transition_k f x = and_then _ _ (row-names as_name as-name f x) four-names
  formed-names constrain_k f x = part_then_lem f _ x λ i r y z. part_then_lem r _ z λ j r u _. at-close r _
      (class-in as_name as-name i _ y λ c ps p. and_then _ _ (expression-names two_sides j u) λ e q. just (p, q))
  formed-names relabel_k f x = word-and-part f _ x λ w i p y. and_then _ _ (as-name w p) λ w p. and_then _ _ (expression-names three_sides i y) λ e q. just (p, q)

  -- a statement starts with its keyword, which is no name
  pub written-names : (f : Forms) → Words P f → IfAny (Names P) (written f)
  written-names closed x = nothing
  written-names ended x = nothing
  written-names (part at inner after) x = nothing
  written-names (word at w after) x = whatever (keyword_of w) _ λ k. formed-names k after x.1
