-- Document 01, "The printed roll", with the line of document 02, W-202: what the program writes for a text. Assumes nothing.
use Rattle.std.specs.Prelude.{ℕ, zero, suc, ◌+◌, ◌/◌, ◌%◌, true, false, List, [], ◌∷◌, ◌++◌, ltb, length}
use Rattle.lexer.specs.Spell.{bytes}
use Rattle.bitset.specs.Relations.{joined}
use Rattle.policy.specs.Basics.{Name}
use Rattle.policy.specs.Statements.{users, roles, thing_of, names_of}
use Rattle.bitset.specs.Sets.{count}
use Rattle.policy.specs.Image.{Image}
use Rattle.policy.specs.Encode.{encode, newest}
use Rattle.policy.specs.Outcome.{Input, compiles, refuses, compiled, Refusal, refusal_of}

-- a number in decimal digits, at most k of them
unfoldable pub digits : ℕ → ℕ → List ℕ
digits zero n = []
digits (suc k) n = elim (ltb n 10) [ true ↦ (48 + n) ∷ [] | false ↦ digits k (n / 10) ++ ((48 + n % 10) ∷ []) ]

abbrev pub decimal : ℕ → List ℕ
decimal n = digits 20 n

-- `user u roles 1`: "each line says how many members its set has"
abbrev pub roll_line : List ℕ → Name → List ℕ → List ℕ → List ℕ
roll_line kind w of s = joined (kind ∷ w ∷ of ∷ decimal (count s) ∷ (10 ∷ []) ∷ [])

unfoldable pub roll_lines : List ℕ → List ℕ → List Name → List (List ℕ) → List ℕ
roll_lines kind of [] ss = []
roll_lines kind of (w ∷ ws) [] = []
roll_lines kind of (w ∷ ws) (s ∷ ss) = roll_line kind w of s ++ roll_lines kind of ws ss

-- "Users first, then roles, by number"
unfoldable pub roll_of : Image → List ℕ
roll_of i =
    roll_lines (bytes "user ") (bytes " roles ") (names_of (thing_of users) i.names) i.user_roles
    ++ roll_lines (bytes "role ") (bytes " types ") (names_of (thing_of roles) i.names) i.role_types

-- a word and a number after it
abbrev pub labelled : List ℕ → ℕ → List ℕ
labelled w n = w ++ decimal n

-- "A refusal prints one line"; W-202: "The program prints `refused 5 at 8 line 1`"
abbrev pub refusal : Refusal → List ℕ
refusal r = joined (labelled (bytes "refused ") r.number ∷ labelled (bytes " at ") r.place ∷ labelled (bytes " line ") r.line ∷ (10 ∷ []) ∷ [])

-- `accepted 280 bytes`, then the lines
abbrev pub roll : Image → List ℕ
roll i = joined (bytes "accepted " ∷ decimal (length (encode newest i)) ∷ bytes " bytes" ∷ (10 ∷ []) ∷ roll_of i ∷ [])

-- "with a table memory of 65,536 bytes"
unfoldable pub printed : Input → List ℕ
printed x = elim (compiled x 65536) [ refuses n at ↦ refusal (refusal_of x n at) | compiles i ↦ roll i ]
