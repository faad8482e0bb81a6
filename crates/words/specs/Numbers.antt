-- The words that mean something, and the number of a word. What they mean is said in policy's Words; a number only stands for the word.
-- Assumes nothing.
use Rattle.std.specs.Prelude.{ℕ, ◌+◌, Bool, true, false, not, ◌&&◌, List, [], ◌∷◌, ◌++◌, get_or}
use Rattle.std.proofs.Math.Option.{Option}
use Rattle.lexer.specs.Spell.{bytes}
use Rattle.policy.specs.Basics.{Name, same, given}
use Rattle.policy.specs.Words.{reserved, is_reserved, dotless, block_word}
use Rattle.words.specs.declared.NameKind.{NameKind}

-- "Statement keywords are not reserved: `(role role)` is good."
unfoldable pub keywords : List Name
keywords =
    bytes "user" ∷ bytes "role" ∷ bytes "type"
    ∷ bytes "userattribute" ∷ bytes "roleattribute" ∷ bytes "typeattribute"
    ∷ bytes "class"
    ∷ bytes "userattributeset" ∷ bytes "roleattributeset" ∷ bytes "typeattributeset"
    ∷ bytes "userrole" ∷ bytes "roletype" ∷ bytes "roleallow"
    ∷ bytes "roletransition" ∷ bytes "constrain" ∷ bytes "validatetrans"
    ∷ block_word ∷ []

-- in the order of their numbers, from 1
unfoldable pub words : List Name
words = reserved ++ keywords

-- the number of w among xs, which are numbered from n on; 0 where it is none of them
unfoldable pub number_in : List Name → Name → ℕ → ℕ
number_in [] w n = 0
number_in (x ∷ xs) w n = elim (same w x) [ true ↦ n | false ↦ number_in xs w (n + 1) ]

-- the number of a word: 0 for a word that means nothing
unfoldable pub number_of : Name → ℕ
number_of w = number_in words w 1

-- the word of a number; the empty word, which means nothing, stands for 0 and for a number of no word
unfoldable pub word_of : ℕ → Name
word_of n = get_or ([] ∷ words) n []

-- a word may be a name of the kind, and taken as one: as_name and as_part of policy's Words
abbrev pub may_be : NameKind → Name → Bool
may_be NameKind.Name w = not (is_reserved w)
may_be NameKind.Part w = dotless w && not (is_reserved w)

abbrev pub taken_as : NameKind → Name → Option Name
taken_as k w = given (may_be k w) w
