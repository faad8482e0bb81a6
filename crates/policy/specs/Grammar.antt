-- Document 01, "Statements", and document 02, W-203 and W-205: the forms of the statements, as they are written, with their names, and of blocks; none where
-- a statement or a block is of no form, fault 3.
-- A row that the end of the text cuts short (`ended`) is of no form; a text that the scan finds clean has no such row inside a statement.
-- Assumes nothing.
use Rattle.std.specs.Prelude.{Bool, true, false, ◌&&◌, ◌||◌, cond, List, [], ◌∷◌}
use Rattle.std.proofs.Math.Option.{Option, none, some}
use Rattle.lexer.specs.Forms.{Forms, closed, ended, word, part}
use Rattle.policy.specs.Basics.{Name, same, ◌>>=◌, given, more, of_none, of_one, of_two}
use Rattle.policy.specs.Words.{as_name, as_part, block_word, Keyword, declare_k, class_k, set_k, relation_k, transition_k, constrain_k, relabel_k, keyword_of, Connective}
use Rattle.policy.specs.Words.{all_c, not_c, and_c, or_c, xor_c, set_word, expression_word, op_of, is_plain, Sides, two_sides, three_sides, Component, component_of}
use Rattle.policy.specs.Statements.{Family, roles, plain, class, SetExpr, name_s, all_s, not_s, and_s, or_s, xor_s, union_s, empty_s, source, target, process, Op}
use Rattle.policy.specs.Statements.{Constraint, sides_e, name_e, not_e, and_e, or_e, declare, attributeset, gives, roletransition, constrain, validatetrans}
use Rattle.policy.specs.Statements.{Written, same_family}

-- "one or more operands (their union)": an operand, and those after it
unfoldable pub operand_row : List (SetExpr Name) → SetExpr Name
operand_row [] = empty_s
operand_row (x ∷ xs) = union_s x (operand_row xs)

abbrev pub union_of : Option (SetExpr Name) → Option (List (SetExpr Name)) → Option (SetExpr Name)
union_of x ys = x >>= λ x. ys >>= λ ys. some (union_s x (operand_row ys))

-- "`(all)`, `(not x)`, `(and x y)`, `(or x y)`, `(xor x y)`"
abbrev pub form_s : Connective → List (SetExpr Name) → Option (SetExpr Name)
form_s all_c xs = of_none all_s xs
form_s not_c xs = of_one not_s xs
form_s and_c xs = of_two and_s xs
form_s or_c xs = of_two or_s xs
form_s xor_c xs = of_two xor_s xs

-- S by its first word and the operands after it
abbrev pub headed : Name → Option Connective → Option (List (SetExpr Name)) → Option (SetExpr Name)
headed w none xs = union_of (as_name w >>= λ n. some (name_s n)) xs
headed w (some c) xs = xs >>= form_s c

-- "An operand is a name of the family or again such an S"; S by what its parentheses hold
unfoldable mutual
  pub operands : Forms → Option (List (SetExpr Name))
  operands closed = some []
  operands ended = none
  operands (word at w after) = more (as_name w >>= λ n. some (name_s n)) (operands after)
  operands (part p inner after) = more (set_in inner) (operands after)

  pub set_in : Forms → Option (SetExpr Name)
  set_in closed = none
  set_in ended = none
  set_in (word at w after) = headed w (set_word w) (operands after)
  set_in (part p inner after) = union_of (set_in inner) (operands after)

-- "`(op u1 u2)`, `(op t1 t2)`, `(rop r1 r2)`": the second side of the same family after the first; W-205: "no pair with side 3"
abbrev pub are_sides : Component → Component → Bool
are_sides x y = elim x.side [
  | source ↦ elim y.side [ source ↦ false | target ↦ same_family x.family y.family | process ↦ false ]
  | target ↦ false
  | process ↦ false
]

abbrev pub is_roles : Family → Bool
is_roles f = same_family roles f

-- a comparison's last word: a side, or else a name ("`(op x name)`", op: eq neq)
abbrev pub compared : Op → Component → Name → Option Component → Option (Constraint Name)
compared o x w none = as_name w >>= λ n. given (is_plain o) (name_e x.family x.side o n)
compared o x w (some y) = given (are_sides x y && (is_plain o || is_roles x.family)) (sides_e x.family o)

-- nothing more before the close
abbrev pub at_close : {A : Type 0} → Forms → Option A → Option A
at_close closed r = r
at_close ended r = none
at_close (word at w after) r = none
at_close (part p i after) r = none

-- a word, and what follows it; a part, and what follows it
abbrev pub word_then : {A : Type 0} → Forms → (Name → Forms → Option A) → Option A
word_then closed f = none
word_then ended f = none
word_then (word at w after) f = f w after
word_then (part p i after) f = none

abbrev pub part_then : {A : Type 0} → Forms → (Forms → Forms → Option A) → Option A
part_then closed f = none
part_then ended f = none
part_then (word at w after) f = none
part_then (part p i after) f = f i after

-- exactly two words; exactly two parts; exactly a word and a part
abbrev pub two_words : {A : Type 0} → Forms → (Name → Name → Option A) → Option A
two_words r f = word_then r (λ v r. word_then r (λ w r. at_close r (f v w)))

abbrev pub two_parts : {A : Type 0} → Forms → (Forms → Forms → Option A) → Option A
two_parts r f = part_then r (λ i r. part_then r (λ j r. at_close r (f i j)))

abbrev pub word_and_part : {A : Type 0} → Forms → (Name → Forms → Option A) → Option A
word_and_part r f = word_then r (λ w r. part_then r (λ i r. at_close r (f w i)))

abbrev pub comparison : Sides → Name → Forms → Option (Constraint Name)
comparison n o f = op_of o >>= λ o. two_words f (λ v w. component_of n v >>= λ x. compared o x w (component_of n w))

-- "`(and E E)`, `(or E E)`, `(not E)`"
abbrev pub form_e : Connective → List (Constraint Name) → Option (Constraint Name)
form_e all_c xs = none
form_e not_c xs = of_one not_e xs
form_e and_c xs = of_two and_e xs
form_e or_c xs = of_two or_e xs
form_e xor_c xs = none

abbrev pub connected : Sides → Name → Forms → Option Connective → Option (List (Constraint Name)) → Option (Constraint Name)
connected n w after none es = comparison n w after
connected n w after (some c) es = es >>= form_e c

-- Es one after the other; E by what its parentheses hold, where it may name the sides n
unfoldable mutual
  pub expressions : Sides → Forms → Option (List (Constraint Name))
  expressions n closed = some []
  expressions n ended = none
  expressions n (word at w after) = none
  expressions n (part p inner after) = more (expression_in n inner) (expressions n after)

  pub expression_in : Sides → Forms → Option (Constraint Name)
  expression_in n closed = none
  expression_in n ended = none
  expression_in n (word at w after) = connected n w after (expression_word w) (expressions n after)
  expression_in n (part p inner after) = none

-- words and nothing else, each taken as a name
unfoldable pub row_of : (Name → Option Name) → Forms → Option (List Name)
row_of taken closed = some []
row_of taken ended = none
row_of taken (word at w after) = more (taken w) (row_of taken after)
row_of taken (part p i after) = none

-- "at least one permission"
abbrev pub one_or_more : List Name → Option (List Name)
one_or_more [] = none
one_or_more (x ∷ xs) = some (x ∷ xs)

-- a class, declared or used, then one or more permissions in parentheses: "C (P ...)"
abbrev pub class_in : {A : Type 0} → (Name → Option Name) → Forms → (Name → List Name → Option A) → Option A
class_in taken f g = word_and_part f (λ c ps. taken c >>= λ c. row_of as_part ps >>= λ ps. one_or_more ps >>= λ ps. g c ps)

-- "`(roletransition R T C R)`": exactly four names
abbrev pub of_four : List Name → Option Written
of_four [] = none
of_four (r ∷ []) = none
of_four (r ∷ t ∷ []) = none
of_four (r ∷ t ∷ c ∷ []) = none
of_four (r ∷ t ∷ c ∷ n ∷ []) = some (roletransition r t c n)
of_four (r ∷ t ∷ c ∷ n ∷ x ∷ xs) = none

-- W-205: "`(validatetrans C E)`", whose E may name the third side too
abbrev pub relabel_form : Forms → Option Written
relabel_form f = word_and_part f (λ c i. as_name c >>= λ c. expression_in three_sides i >>= λ e. some (validatetrans c e))

-- the forms of "Statements", by the keyword and what follows it
abbrev pub formed : Keyword → Forms → Option Written
formed (declare_k s) f = row_of as_part f >>= of_one (λ w. declare (plain s w))
formed class_k f = class_in as_part f (λ c ps. some (declare (class c ps)))
formed (set_k a) f = word_and_part f (λ w i. as_name w >>= λ w. set_in i >>= λ s. some (attributeset a w s))
formed (relation_k r) f = row_of as_name f >>= of_two (gives r)
formed transition_k f = row_of as_name f >>= of_four
formed constrain_k f = two_parts f (λ i j. class_in as_name i (λ c ps. expression_in two_sides j >>= λ e. some (constrain c ps e)))
formed relabel_k f = relabel_form f

-- what the parentheses of a statement hold
abbrev pub written : Forms → Option Written
written closed = none
written ended = none
written (part p i after) = none
written (word at w after) = keyword_of w >>= λ k. formed k after

-- W-203: what starts with the word `block` is a block
abbrev pub is_block : Forms → Bool
is_block closed = false
is_block ended = false
is_block (part p i after) = false
is_block (word at w after) = same w block_word

-- "only parts in parentheses, or nothing"
unfoldable pub parts_alone : Forms → Bool
parts_alone closed = true
parts_alone ended = false
parts_alone (word at w after) = false
parts_alone (part p i after) = parts_alone after

-- "A block .. is of its form if only parts in parentheses, or nothing, follow its name": its name, by what follows the word `block`
abbrev pub header_in : Forms → Option Name
header_in f = word_then f (λ b after. as_part b >>= λ b. given (parts_alone after) b)

-- the name of the block whose parentheses hold f, if it is one and is of its form
abbrev pub block_in : Forms → Option Name
block_in closed = none
block_in ended = none
block_in (part p i after) = none
block_in (word at w after) = cond (same w block_word) (header_in after) none
