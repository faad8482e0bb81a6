-- Questions and what the independent second program says of them, held to the definitions by computation. Written by reference/regenerate.
-- Assumes nothing.
use Rattle.std.specs.Prelude.{◌≡◌, refl, List, [], ◌∷◌, ◌++◌, ℕ, true, false}
use Rattle.std.proofs.Math.Option.{none, some}
use Rattle.lexer.specs.Spell.{bytes}
use Rattle.policy.specs.Basics.{each}
use Rattle.policy.specs.Reading.{policy, refused}
use Rattle.policy.specs.Deciding.{Question, Answer, granted, denied, fails, refuses, answered, refused}
use Rattle.policy.specs.Answer.{answer}
use Rattle.policy.specs.Questions.{change, decided, change_on, relabel_on, valid_on, new_role_on, name_on, entry_on}
use Rattle.policy.specs.Sound.{image_in}
use Rattle.policy.specs.Outcome.{of_text, policy_of}
use Rattle.policy.specs.Worked.{table_of, context}
use Rattle.policy.specs.Computing.{computing}

-- what the statements of a text answer
abbrev from_text : List ℕ → List Question → List Answer
from_text text qs = elim (policy_of (of_text text)) [ policy p ↦ each (answer p) qs | refused n at ↦ [] ]

-- `change_on` for each question
abbrev changes_on : List ℕ → List Question → List Answer
changes_on t qs = elim (image_in t) [ some i ↦ each (change i) qs | none ↦ each (λ q. decided (λ i. change i q) none) qs ]

-- new role through attributes
abbrev asked-24 : List ℕ
asked-24 = bytes "(role a)(role b)(type s)(type t)(roleattribute x)(typeattribute y)(class c(p))(roletransition x y c b)(roleattributeset " ++
    bytes "x(all))(typeattributeset y(not s))"

abbrev asked-24-table : List ℕ
asked-24-table = 2 ∷ 0 ∷ 10 ∷ 0 ∷ 84 ∷ 0 ∷ 0 ∷ 0 ∷ 40 ∷ 0 ∷ 0 ∷ 0 ∷ 124 ∷ 0 ∷ 0 ∷ 0 ∷ 0 ∷ 0 ∷ 0 ∷ 0 ∷ 124 ∷ 0 ∷ 0 ∷ 0 ∷ 128 ∷ 0 ∷ 0 ∷ 0 ∷ 252 ∷ 0
    ∷ 0 ∷ 0 ∷ 32 ∷ 0 ∷ 0 ∷ 0 ∷ 28 ∷ 1 ∷ 0 ∷ 0 ∷ 82 ∷ 0 ∷ 0 ∷ 0 ∷ 110 ∷ 1 ∷ 0 ∷ 0 ∷ 0 ∷ 0 ∷ 0 ∷ 0 ∷ 110 ∷ 1 ∷ 0 ∷ 0 ∷ 0 ∷ 0 ∷ 0 ∷ 0 ∷ 110 ∷ 1 ∷ 0 ∷ 0 ∷
    80 ∷ 0 ∷ 0 ∷ 0 ∷ 190 ∷ 1 ∷ 0 ∷ 0 ∷ 0 ∷ 0 ∷ 0 ∷ 0 ∷ 190 ∷ 1 ∷ 0 ∷ 0 ∷ 0 ∷ 0 ∷ 0 ∷ 0 ∷ 1 ∷ 0 ∷ 0 ∷ 1 ∷ 97 ∷ 1 ∷ 1 ∷ 0 ∷ 1 ∷ 98 ∷ 2 ∷ 0 ∷ 0 ∷ 1 ∷ 115
    ∷ 2 ∷ 1 ∷ 0 ∷ 1 ∷ 116 ∷ 4 ∷ 0 ∷ 0 ∷ 1 ∷ 120 ∷ 5 ∷ 0 ∷ 0 ∷ 1 ∷ 121 ∷ 6 ∷ 0 ∷ 0 ∷ 1 ∷ 99 ∷ 7 ∷ 0 ∷ 0 ∷ 1 ∷ 112 ∷ 0 ∷ 0 ∷ 0 ∷ 0 ∷ 0 ∷ 0 ∷ 0 ∷ 0 ∷ 0 ∷
    0 ∷ 0 ∷ 0 ∷ 0 ∷ 0 ∷ 0 ∷ 0 ∷ 0 ∷ 0 ∷ 0 ∷ 0 ∷ 0 ∷ 0 ∷ 0 ∷ 0 ∷ 0 ∷ 0 ∷ 0 ∷ 0 ∷ 0 ∷ 0 ∷ 0 ∷ 0 ∷ 0 ∷ 0 ∷ 0 ∷ 0 ∷ 0 ∷ 0 ∷ 0 ∷ 0 ∷ 0 ∷ 0 ∷ 0 ∷ 0 ∷ 0 ∷ 0
    ∷ 0 ∷ 0 ∷ 0 ∷ 0 ∷ 0 ∷ 0 ∷ 0 ∷ 0 ∷ 0 ∷ 0 ∷ 0 ∷ 0 ∷ 0 ∷ 0 ∷ 0 ∷ 0 ∷ 0 ∷ 0 ∷ 0 ∷ 0 ∷ 0 ∷ 0 ∷ 0 ∷ 0 ∷ 0 ∷ 0 ∷ 0 ∷ 0 ∷ 0 ∷ 0 ∷ 0 ∷ 0 ∷ 0 ∷ 0 ∷ 0 ∷ 0 ∷
    0 ∷ 0 ∷ 0 ∷ 0 ∷ 0 ∷ 0 ∷ 0 ∷ 0 ∷ 0 ∷ 0 ∷ 0 ∷ 0 ∷ 0 ∷ 0 ∷ 0 ∷ 0 ∷ 0 ∷ 0 ∷ 0 ∷ 0 ∷ 0 ∷ 0 ∷ 0 ∷ 0 ∷ 0 ∷ 0 ∷ 0 ∷ 0 ∷ 0 ∷ 0 ∷ 0 ∷ 0 ∷ 0 ∷ 0 ∷ 0 ∷ 0 ∷ 0
    ∷ 0 ∷ 0 ∷ 0 ∷ 0 ∷ 0 ∷ 0 ∷ 0 ∷ 0 ∷ 0 ∷ 0 ∷ 0 ∷ 0 ∷ 0 ∷ 0 ∷ 0 ∷ 0 ∷ 0 ∷ 0 ∷ 0 ∷ 0 ∷ 0 ∷ 0 ∷ 0 ∷ 0 ∷ 0 ∷ 0 ∷ 0 ∷ 0 ∷ 0 ∷ 0 ∷ 0 ∷ 0 ∷ 0 ∷ 0 ∷ 0 ∷ 0 ∷
    0 ∷ 0 ∷ 0 ∷ 0 ∷ 0 ∷ 3 ∷ 0 ∷ 0 ∷ 0 ∷ 0 ∷ 0 ∷ 0 ∷ 0 ∷ 0 ∷ 0 ∷ 0 ∷ 0 ∷ 0 ∷ 0 ∷ 0 ∷ 0 ∷ 2 ∷ 0 ∷ 0 ∷ 0 ∷ 0 ∷ 0 ∷ 0 ∷ 0 ∷ 0 ∷ 0 ∷ 0 ∷ 0 ∷ 0 ∷ 0 ∷ 0 ∷ 0
    ∷ 0 ∷ 0 ∷ 0 ∷ 0 ∷ 0 ∷ 0 ∷ 0 ∷ 0 ∷ 0 ∷ 0 ∷ 0 ∷ 0 ∷ 0 ∷ 0 ∷ 0 ∷ 0 ∷ 0 ∷ 0 ∷ 0 ∷ 0 ∷ 0 ∷ 0 ∷ 0 ∷ 0 ∷ 0 ∷ 0 ∷ 0 ∷ 0 ∷ 0 ∷ 0 ∷ 0 ∷ 0 ∷ 0 ∷ 0 ∷ 0 ∷ 0 ∷
    0 ∷ 0 ∷ 0 ∷ 0 ∷ 0 ∷ 0 ∷ 0 ∷ 0 ∷ 0 ∷ 0 ∷ 0 ∷ 0 ∷ 0 ∷ 1 ∷ 3 ∷ 0 ∷ 0 ∷ 0 ∷ 0 ∷ 0 ∷ 0 ∷ 0 ∷ 0 ∷ 0 ∷ 0 ∷ 0 ∷ 0 ∷ 0 ∷ 0 ∷ 0 ∷ 2 ∷ 0 ∷ 0 ∷ 0 ∷ 0 ∷ 0 ∷ 0
    ∷ 0 ∷ 0 ∷ 0 ∷ 0 ∷ 0 ∷ 0 ∷ 0 ∷ 0 ∷ 0 ∷ 0 ∷ 0 ∷ 0 ∷ 0 ∷ 0 ∷ 0 ∷ 0 ∷ 0 ∷ 0 ∷ 0 ∷ 0 ∷ 0 ∷ 0 ∷ 0 ∷ 0 ∷ 0 ∷ 0 ∷ 0 ∷ 0 ∷ 0 ∷ 0 ∷ 0 ∷ 0 ∷ 0 ∷ 0 ∷ 0 ∷ 0 ∷
    0 ∷ 0 ∷ 0 ∷ 0 ∷ 0 ∷ 0 ∷ 0 ∷ 0 ∷ 0 ∷ 0 ∷ 0 ∷ 0 ∷ 0 ∷ 0 ∷ 0 ∷ 0 ∷ 0 ∷ 0 ∷ 0 ∷ 0 ∷ 0 ∷ []

asked-24-written : table_of asked-24 ≡ asked-24-table
unfolding computing
asked-24-written = refl

asked-24-0 : new_role_on asked-24-table 0 1 0 ≡ answered 1
unfolding computing
asked-24-0 = refl

asked-24-1 : new_role_on asked-24-table 1 1 0 ≡ answered 1
unfolding computing
asked-24-1 = refl

asked-24-2 : new_role_on asked-24-table 0 0 0 ≡ answered 0
unfolding computing
asked-24-2 = refl

-- name of
abbrev asked-25 : List ℕ
asked-25 = bytes "(user ab)(role a)(class long(p q))(type t)(userattribute x1)(roleattribute x)(typeattribute x)(class d(r))(user c)"

abbrev asked-25-table : List ℕ
asked-25-table = 2 ∷ 0 ∷ 10 ∷ 0 ∷ 84 ∷ 0 ∷ 0 ∷ 0 ∷ 65 ∷ 0 ∷ 0 ∷ 0 ∷ 149 ∷ 0 ∷ 0 ∷ 0 ∷ 32 ∷ 0 ∷ 0 ∷ 0 ∷ 181 ∷ 0 ∷ 0 ∷ 0 ∷ 64 ∷ 0 ∷ 0 ∷ 0 ∷ 245 ∷ 0
    ∷ 0 ∷ 0 ∷ 16 ∷ 0 ∷ 0 ∷ 0 ∷ 5 ∷ 1 ∷ 0 ∷ 0 ∷ 0 ∷ 0 ∷ 0 ∷ 0 ∷ 5 ∷ 1 ∷ 0 ∷ 0 ∷ 0 ∷ 0 ∷ 0 ∷ 0 ∷ 5 ∷ 1 ∷ 0 ∷ 0 ∷ 0 ∷ 0 ∷ 0 ∷ 0 ∷ 5 ∷ 1 ∷ 0 ∷ 0 ∷ 96 ∷ 0
    ∷ 0 ∷ 0 ∷ 101 ∷ 1 ∷ 0 ∷ 0 ∷ 0 ∷ 0 ∷ 0 ∷ 0 ∷ 101 ∷ 1 ∷ 0 ∷ 0 ∷ 0 ∷ 0 ∷ 0 ∷ 0 ∷ 0 ∷ 0 ∷ 0 ∷ 2 ∷ 97 ∷ 98 ∷ 1 ∷ 0 ∷ 0 ∷ 1 ∷ 97 ∷ 6 ∷ 0 ∷ 0 ∷ 4 ∷ 108 ∷
    111 ∷ 110 ∷ 103 ∷ 7 ∷ 0 ∷ 0 ∷ 1 ∷ 112 ∷ 7 ∷ 1 ∷ 0 ∷ 1 ∷ 113 ∷ 2 ∷ 0 ∷ 0 ∷ 1 ∷ 116 ∷ 3 ∷ 0 ∷ 0 ∷ 2 ∷ 120 ∷ 49 ∷ 4 ∷ 0 ∷ 0 ∷ 1 ∷ 120 ∷ 5 ∷ 0 ∷ 0 ∷ 1
    ∷ 120 ∷ 6 ∷ 1 ∷ 0 ∷ 1 ∷ 100 ∷ 7 ∷ 32 ∷ 0 ∷ 1 ∷ 114 ∷ 0 ∷ 1 ∷ 0 ∷ 1 ∷ 99 ∷ 0 ∷ 0 ∷ 0 ∷ 0 ∷ 0 ∷ 0 ∷ 0 ∷ 0 ∷ 0 ∷ 0 ∷ 0 ∷ 0 ∷ 0 ∷ 0 ∷ 0 ∷ 0 ∷ 0 ∷ 0 ∷
    0 ∷ 0 ∷ 0 ∷ 0 ∷ 0 ∷ 0 ∷ 0 ∷ 0 ∷ 0 ∷ 0 ∷ 0 ∷ 0 ∷ 0 ∷ 0 ∷ 0 ∷ 0 ∷ 0 ∷ 0 ∷ 0 ∷ 0 ∷ 0 ∷ 0 ∷ 0 ∷ 0 ∷ 0 ∷ 0 ∷ 0 ∷ 0 ∷ 0 ∷ 0 ∷ 0 ∷ 0 ∷ 0 ∷ 0 ∷ 0 ∷ 0 ∷ 0
    ∷ 0 ∷ 0 ∷ 0 ∷ 0 ∷ 0 ∷ 0 ∷ 0 ∷ 0 ∷ 0 ∷ 0 ∷ 0 ∷ 0 ∷ 0 ∷ 0 ∷ 0 ∷ 0 ∷ 0 ∷ 0 ∷ 0 ∷ 0 ∷ 0 ∷ 0 ∷ 0 ∷ 0 ∷ 0 ∷ 0 ∷ 0 ∷ 0 ∷ 0 ∷ 0 ∷ 0 ∷ 0 ∷ 0 ∷ 0 ∷ 0 ∷ 0 ∷
    0 ∷ 0 ∷ 0 ∷ 0 ∷ 0 ∷ 0 ∷ 0 ∷ 0 ∷ 0 ∷ 0 ∷ 0 ∷ 0 ∷ 0 ∷ 0 ∷ 0 ∷ 0 ∷ 0 ∷ 0 ∷ 0 ∷ 0 ∷ 0 ∷ 0 ∷ 0 ∷ 0 ∷ 0 ∷ 0 ∷ 0 ∷ 0 ∷ 0 ∷ 0 ∷ 0 ∷ 0 ∷ 0 ∷ 0 ∷ 0 ∷ 0 ∷ 0
    ∷ 0 ∷ 0 ∷ 0 ∷ 0 ∷ 0 ∷ 0 ∷ 0 ∷ 0 ∷ 0 ∷ 0 ∷ 0 ∷ 0 ∷ 0 ∷ 0 ∷ 0 ∷ 0 ∷ 0 ∷ 0 ∷ 0 ∷ 0 ∷ 0 ∷ 0 ∷ 0 ∷ 0 ∷ 0 ∷ 0 ∷ 0 ∷ 0 ∷ 0 ∷ 0 ∷ 0 ∷ 0 ∷ 0 ∷ 0 ∷ 0 ∷ 0 ∷
    0 ∷ 0 ∷ 0 ∷ 0 ∷ 0 ∷ 0 ∷ 0 ∷ 0 ∷ 0 ∷ 0 ∷ 0 ∷ 0 ∷ 0 ∷ 0 ∷ 0 ∷ 0 ∷ 0 ∷ 0 ∷ 0 ∷ 0 ∷ 0 ∷ 0 ∷ 0 ∷ 0 ∷ 0 ∷ 0 ∷ 0 ∷ 0 ∷ 0 ∷ 0 ∷ 0 ∷ 0 ∷ 0 ∷ 0 ∷ 0 ∷ 0 ∷ 0
    ∷ 0 ∷ 0 ∷ 0 ∷ 0 ∷ 0 ∷ 0 ∷ 0 ∷ []

asked-25-written : table_of asked-25 ≡ asked-25-table
unfolding computing
asked-25-written = refl

asked-25-0 : name_on asked-25-table 0 0 ≡ answered (record { start = 88; size = 2 })
unfolding computing
asked-25-0 = refl

asked-25-1 : name_on asked-25-table 0 1 ≡ answered (record { start = 148; size = 1 })
unfolding computing
asked-25-1 = refl

asked-25-2 : name_on asked-25-table 1 0 ≡ answered (record { start = 94; size = 1 })
unfolding computing
asked-25-2 = refl

asked-25-3 : name_on asked-25-table 2 0 ≡ answered (record { start = 117; size = 1 })
unfolding computing
asked-25-3 = refl

asked-25-4 : name_on asked-25-table 3 0 ≡ answered (record { start = 122; size = 2 })
unfolding computing
asked-25-4 = refl

asked-25-5 : name_on asked-25-table 4 0 ≡ answered (record { start = 128; size = 1 })
unfolding computing
asked-25-5 = refl

asked-25-6 : name_on asked-25-table 5 0 ≡ answered (record { start = 133; size = 1 })
unfolding computing
asked-25-6 = refl

asked-25-7 : name_on asked-25-table 6 1 ≡ answered (record { start = 138; size = 1 })
unfolding computing
asked-25-7 = refl

asked-25-8 : name_on asked-25-table 7 1 ≡ answered (record { start = 112; size = 1 })
unfolding computing
asked-25-8 = refl

asked-25-9 : name_on asked-25-table 7 32 ≡ answered (record { start = 143; size = 1 })
unfolding computing
asked-25-9 = refl

asked-25-10 : name_on asked-25-table 0 2 ≡ refused 12 0
unfolding computing
asked-25-10 = refl

asked-25-11 : name_on asked-25-table 6 2 ≡ refused 12 0
unfolding computing
asked-25-11 = refl

asked-25-12 : name_on asked-25-table 7 2 ≡ refused 12 0
unfolding computing
asked-25-12 = refl

asked-25-13 : name_on asked-25-table 7 33 ≡ refused 12 0
unfolding computing
asked-25-13 = refl

asked-25-14 : name_on asked-25-table 8 0 ≡ refused 12 0
unfolding computing
asked-25-14 = refl

asked-25-15 : name_on asked-25-table 256 0 ≡ refused 12 0
unfolding computing
asked-25-15 = refl

asked-25-16 : name_on asked-25-table 0 18446744073709551615 ≡ refused 12 0
unfolding computing
asked-25-16 = refl

-- entry of
abbrev asked-26 : List ℕ
asked-26 = bytes "(user u)(user v)(role a)(role b)(type t)(class c(p))(typeattribute z)(roleattribute y)(userattribute x)(userattribute w)" ++
    bytes "(roletransition a t c b)(roletransition b t c b)(constrain(c(p))(not(eq u1 u2)))(constrain(c(p))(eq t1 t2))"

abbrev asked-26-table : List ℕ
asked-26-table = 2 ∷ 0 ∷ 10 ∷ 0 ∷ 84 ∷ 0 ∷ 0 ∷ 0 ∷ 55 ∷ 0 ∷ 0 ∷ 0 ∷ 139 ∷ 0 ∷ 0 ∷ 0 ∷ 32 ∷ 0 ∷ 0 ∷ 0 ∷ 171 ∷ 0 ∷ 0 ∷ 0 ∷ 128 ∷ 0 ∷ 0 ∷ 0 ∷ 43 ∷ 1
    ∷ 0 ∷ 0 ∷ 32 ∷ 0 ∷ 0 ∷ 0 ∷ 75 ∷ 1 ∷ 0 ∷ 0 ∷ 164 ∷ 0 ∷ 0 ∷ 0 ∷ 239 ∷ 1 ∷ 0 ∷ 0 ∷ 20 ∷ 0 ∷ 0 ∷ 0 ∷ 3 ∷ 2 ∷ 0 ∷ 0 ∷ 18 ∷ 0 ∷ 0 ∷ 0 ∷ 21 ∷ 2 ∷ 0 ∷ 0 ∷
    112 ∷ 0 ∷ 0 ∷ 0 ∷ 133 ∷ 2 ∷ 0 ∷ 0 ∷ 0 ∷ 0 ∷ 0 ∷ 0 ∷ 133 ∷ 2 ∷ 0 ∷ 0 ∷ 0 ∷ 0 ∷ 0 ∷ 0 ∷ 0 ∷ 0 ∷ 0 ∷ 1 ∷ 117 ∷ 0 ∷ 1 ∷ 0 ∷ 1 ∷ 118 ∷ 1 ∷ 0 ∷ 0 ∷ 1 ∷
    97 ∷ 1 ∷ 1 ∷ 0 ∷ 1 ∷ 98 ∷ 2 ∷ 0 ∷ 0 ∷ 1 ∷ 116 ∷ 6 ∷ 0 ∷ 0 ∷ 1 ∷ 99 ∷ 7 ∷ 0 ∷ 0 ∷ 1 ∷ 112 ∷ 5 ∷ 0 ∷ 0 ∷ 1 ∷ 122 ∷ 4 ∷ 0 ∷ 0 ∷ 1 ∷ 121 ∷ 3 ∷ 0 ∷ 0 ∷
    1 ∷ 120 ∷ 3 ∷ 1 ∷ 0 ∷ 1 ∷ 119 ∷ 0 ∷ 0 ∷ 0 ∷ 0 ∷ 0 ∷ 0 ∷ 0 ∷ 0 ∷ 0 ∷ 0 ∷ 0 ∷ 0 ∷ 0 ∷ 0 ∷ 0 ∷ 0 ∷ 0 ∷ 0 ∷ 0 ∷ 0 ∷ 0 ∷ 0 ∷ 0 ∷ 0 ∷ 0 ∷ 0 ∷ 0 ∷ 0 ∷ 0
    ∷ 0 ∷ 0 ∷ 0 ∷ 0 ∷ 0 ∷ 0 ∷ 0 ∷ 0 ∷ 0 ∷ 0 ∷ 0 ∷ 0 ∷ 0 ∷ 0 ∷ 0 ∷ 0 ∷ 0 ∷ 0 ∷ 0 ∷ 0 ∷ 0 ∷ 0 ∷ 0 ∷ 0 ∷ 0 ∷ 0 ∷ 0 ∷ 0 ∷ 0 ∷ 0 ∷ 0 ∷ 0 ∷ 0 ∷ 0 ∷ 0 ∷ 0 ∷
    0 ∷ 0 ∷ 0 ∷ 0 ∷ 0 ∷ 0 ∷ 0 ∷ 0 ∷ 0 ∷ 0 ∷ 0 ∷ 0 ∷ 0 ∷ 0 ∷ 0 ∷ 0 ∷ 0 ∷ 0 ∷ 0 ∷ 0 ∷ 0 ∷ 0 ∷ 0 ∷ 0 ∷ 0 ∷ 0 ∷ 0 ∷ 0 ∷ 0 ∷ 0 ∷ 0 ∷ 0 ∷ 0 ∷ 0 ∷ 0 ∷ 0 ∷ 0
    ∷ 0 ∷ 0 ∷ 0 ∷ 0 ∷ 0 ∷ 0 ∷ 0 ∷ 0 ∷ 0 ∷ 0 ∷ 0 ∷ 0 ∷ 0 ∷ 0 ∷ 0 ∷ 0 ∷ 0 ∷ 0 ∷ 0 ∷ 0 ∷ 0 ∷ 0 ∷ 0 ∷ 0 ∷ 0 ∷ 0 ∷ 0 ∷ 0 ∷ 0 ∷ 0 ∷ 0 ∷ 0 ∷ 0 ∷ 0 ∷ 0 ∷ 0 ∷
    0 ∷ 0 ∷ 0 ∷ 0 ∷ 0 ∷ 0 ∷ 0 ∷ 0 ∷ 0 ∷ 0 ∷ 0 ∷ 0 ∷ 0 ∷ 0 ∷ 0 ∷ 0 ∷ 0 ∷ 0 ∷ 0 ∷ 0 ∷ 0 ∷ 0 ∷ 0 ∷ 0 ∷ 0 ∷ 0 ∷ 0 ∷ 0 ∷ 0 ∷ 0 ∷ 0 ∷ 0 ∷ 0 ∷ 0 ∷ 0 ∷ 0 ∷ 0
    ∷ 0 ∷ 0 ∷ 0 ∷ 0 ∷ 0 ∷ 0 ∷ 0 ∷ 0 ∷ 0 ∷ 0 ∷ 0 ∷ 0 ∷ 0 ∷ 0 ∷ 0 ∷ 0 ∷ 0 ∷ 1 ∷ 0 ∷ 0 ∷ 0 ∷ 0 ∷ 0 ∷ 0 ∷ 0 ∷ 0 ∷ 0 ∷ 0 ∷ 0 ∷ 0 ∷ 0 ∷ 0 ∷ 0 ∷ 1 ∷ 0 ∷ 0 ∷
    0 ∷ 0 ∷ 0 ∷ 0 ∷ 0 ∷ 0 ∷ 0 ∷ 0 ∷ 0 ∷ 0 ∷ 0 ∷ 0 ∷ 0 ∷ 0 ∷ 0 ∷ 0 ∷ 0 ∷ 0 ∷ 0 ∷ 0 ∷ 0 ∷ 0 ∷ 0 ∷ 0 ∷ 0 ∷ 0 ∷ 0 ∷ 0 ∷ 0 ∷ 0 ∷ 0 ∷ 0 ∷ 0 ∷ 0 ∷ 0 ∷ 0 ∷ 0
    ∷ 0 ∷ 0 ∷ 0 ∷ 0 ∷ 0 ∷ 0 ∷ 0 ∷ 0 ∷ 0 ∷ 0 ∷ 0 ∷ 0 ∷ 0 ∷ 0 ∷ 0 ∷ 0 ∷ 0 ∷ 0 ∷ 0 ∷ 0 ∷ 0 ∷ 0 ∷ 0 ∷ 0 ∷ 0 ∷ 1 ∷ 2 ∷ 0 ∷ 0 ∷ 0 ∷ 0 ∷ 0 ∷ 0 ∷ 0 ∷ 0 ∷ 0 ∷
    0 ∷ 0 ∷ 0 ∷ 0 ∷ 0 ∷ 0 ∷ 1 ∷ 0 ∷ 0 ∷ 0 ∷ 0 ∷ 0 ∷ 0 ∷ 0 ∷ 0 ∷ 0 ∷ 0 ∷ 0 ∷ 0 ∷ 0 ∷ 0 ∷ 0 ∷ 0 ∷ 0 ∷ 0 ∷ 0 ∷ 0 ∷ 0 ∷ 0 ∷ 0 ∷ 0 ∷ 0 ∷ 0 ∷ 0 ∷ 0 ∷ 0 ∷ 0
    ∷ 0 ∷ 0 ∷ 0 ∷ 0 ∷ 0 ∷ 0 ∷ 0 ∷ 0 ∷ 0 ∷ 0 ∷ 0 ∷ 0 ∷ 0 ∷ 0 ∷ 0 ∷ 0 ∷ 0 ∷ 0 ∷ 0 ∷ 0 ∷ 0 ∷ 0 ∷ 0 ∷ 0 ∷ 0 ∷ 0 ∷ 0 ∷ 0 ∷ 0 ∷ 0 ∷ 0 ∷ 0 ∷ 0 ∷ 0 ∷ 1 ∷ 0 ∷
    0 ∷ 1 ∷ 0 ∷ 0 ∷ 0 ∷ 0 ∷ 0 ∷ 2 ∷ 0 ∷ 0 ∷ 0 ∷ 1 ∷ 0 ∷ 0 ∷ 0 ∷ 2 ∷ 0 ∷ 1 ∷ 0 ∷ 3 ∷ 0 ∷ 0 ∷ 0 ∷ 0 ∷ 0 ∷ 0 ∷ 0 ∷ 0 ∷ 0 ∷ 0 ∷ 0 ∷ 3 ∷ 4 ∷ 0 ∷ 0 ∷ 0 ∷ 0
    ∷ 0 ∷ 0 ∷ 0 ∷ 0 ∷ 0 ∷ 0 ∷ 0 ∷ 0 ∷ 0 ∷ 0 ∷ 0 ∷ 0 ∷ 0 ∷ 0 ∷ 0 ∷ 0 ∷ 0 ∷ 0 ∷ 0 ∷ 0 ∷ 0 ∷ 0 ∷ 0 ∷ 0 ∷ 0 ∷ 0 ∷ 0 ∷ 0 ∷ 0 ∷ 0 ∷ 0 ∷ 0 ∷ 0 ∷ 0 ∷ 0 ∷ 0 ∷
    0 ∷ 0 ∷ 0 ∷ 0 ∷ 0 ∷ 0 ∷ 0 ∷ 0 ∷ 0 ∷ 0 ∷ 0 ∷ 0 ∷ 0 ∷ 0 ∷ 0 ∷ 0 ∷ 0 ∷ 0 ∷ 0 ∷ 0 ∷ 0 ∷ 0 ∷ 0 ∷ 0 ∷ 0 ∷ 0 ∷ 0 ∷ 0 ∷ 0 ∷ 0 ∷ 0 ∷ 0 ∷ 0 ∷ 0 ∷ 0 ∷ 0 ∷ 0
    ∷ 0 ∷ 0 ∷ 0 ∷ 0 ∷ 0 ∷ 0 ∷ 0 ∷ 0 ∷ 0 ∷ 0 ∷ 0 ∷ 0 ∷ 0 ∷ 0 ∷ 0 ∷ 0 ∷ 0 ∷ 0 ∷ 0 ∷ 0 ∷ 0 ∷ 0 ∷ 0 ∷ 0 ∷ 0 ∷ 0 ∷ 0 ∷ 0 ∷ 0 ∷ 0 ∷ 0 ∷ 0 ∷ 0 ∷ 0 ∷ 0 ∷ 0 ∷
    0 ∷ 0 ∷ 0 ∷ []

asked-26-written : table_of asked-26 ≡ asked-26-table
unfolding computing
asked-26-written = refl

asked-26-0 : entry_on asked-26-table 2 1 ≡ answered (record { start = 155; size = 16 })
unfolding computing
asked-26-0 = refl

asked-26-1 : entry_on asked-26-table 3 0 ≡ answered (record { start = 171; size = 64 })
unfolding computing
asked-26-1 = refl

asked-26-2 : entry_on asked-26-table 3 1 ≡ answered (record { start = 235; size = 64 })
unfolding computing
asked-26-2 = refl

asked-26-3 : entry_on asked-26-table 4 1 ≡ answered (record { start = 315; size = 16 })
unfolding computing
asked-26-3 = refl

asked-26-4 : entry_on asked-26-table 5 1 ≡ answered (record { start = 413; size = 82 })
unfolding computing
asked-26-4 = refl

asked-26-5 : entry_on asked-26-table 6 1 ≡ answered (record { start = 505; size = 10 })
unfolding computing
asked-26-5 = refl

asked-26-6 : entry_on asked-26-table 7 2 ≡ answered (record { start = 527; size = 6 })
unfolding computing
asked-26-6 = refl

asked-26-7 : entry_on asked-26-table 8 1 ≡ answered (record { start = 549; size = 16 })
unfolding computing
asked-26-7 = refl

asked-26-8 : entry_on asked-26-table 8 2 ≡ answered (record { start = 565; size = 16 })
unfolding computing
asked-26-8 = refl

asked-26-9 : entry_on asked-26-table 8 3 ≡ answered (record { start = 581; size = 64 })
unfolding computing
asked-26-9 = refl

asked-26-10 : entry_on asked-26-table 2 2 ≡ refused 12 0
unfolding computing
asked-26-10 = refl

asked-26-11 : entry_on asked-26-table 4 2 ≡ refused 12 0
unfolding computing
asked-26-11 = refl

asked-26-12 : entry_on asked-26-table 5 2 ≡ refused 12 0
unfolding computing
asked-26-12 = refl

asked-26-13 : entry_on asked-26-table 6 2 ≡ refused 12 0
unfolding computing
asked-26-13 = refl

asked-26-14 : entry_on asked-26-table 7 3 ≡ refused 12 0
unfolding computing
asked-26-14 = refl

asked-26-15 : entry_on asked-26-table 8 4 ≡ refused 12 0
unfolding computing
asked-26-15 = refl

asked-26-16 : entry_on asked-26-table 0 0 ≡ refused 12 0
unfolding computing
asked-26-16 = refl

asked-26-17 : entry_on asked-26-table 1 0 ≡ refused 12 0
unfolding computing
asked-26-17 = refl

asked-26-18 : entry_on asked-26-table 9 0 ≡ refused 12 0
unfolding computing
asked-26-18 = refl

asked-26-19 : entry_on asked-26-table 10 0 ≡ refused 12 0
unfolding computing
asked-26-19 = refl

asked-26-20 : entry_on asked-26-table 11 0 ≡ refused 12 0
unfolding computing
asked-26-20 = refl

asked-26-21 : entry_on asked-26-table 18446744073709551615 0 ≡ refused 12 0
unfolding computing
asked-26-21 = refl

asked-26-22 : entry_on asked-26-table 8 18446744073709551615 ≡ refused 12 0
unfolding computing
asked-26-22 = refl

-- 12 before any denial
abbrev asked-27 : List ℕ
asked-27 = bytes "(user u)(role a)(type t)(class c(p))(class d(p q))"

abbrev asked-27-table : List ℕ
asked-27-table = 2 ∷ 0 ∷ 10 ∷ 0 ∷ 84 ∷ 0 ∷ 0 ∷ 0 ∷ 40 ∷ 0 ∷ 0 ∷ 0 ∷ 124 ∷ 0 ∷ 0 ∷ 0 ∷ 16 ∷ 0 ∷ 0 ∷ 0 ∷ 140 ∷ 0 ∷ 0 ∷ 0 ∷ 64 ∷ 0 ∷ 0 ∷ 0 ∷ 204 ∷ 0
    ∷ 0 ∷ 0 ∷ 16 ∷ 0 ∷ 0 ∷ 0 ∷ 220 ∷ 0 ∷ 0 ∷ 0 ∷ 0 ∷ 0 ∷ 0 ∷ 0 ∷ 220 ∷ 0 ∷ 0 ∷ 0 ∷ 0 ∷ 0 ∷ 0 ∷ 0 ∷ 220 ∷ 0 ∷ 0 ∷ 0 ∷ 0 ∷ 0 ∷ 0 ∷ 0 ∷ 220 ∷ 0 ∷ 0 ∷ 0 ∷
    0 ∷ 0 ∷ 0 ∷ 0 ∷ 220 ∷ 0 ∷ 0 ∷ 0 ∷ 0 ∷ 0 ∷ 0 ∷ 0 ∷ 220 ∷ 0 ∷ 0 ∷ 0 ∷ 0 ∷ 0 ∷ 0 ∷ 0 ∷ 0 ∷ 0 ∷ 0 ∷ 1 ∷ 117 ∷ 1 ∷ 0 ∷ 0 ∷ 1 ∷ 97 ∷ 2 ∷ 0 ∷ 0 ∷ 1 ∷ 116
    ∷ 6 ∷ 0 ∷ 0 ∷ 1 ∷ 99 ∷ 7 ∷ 0 ∷ 0 ∷ 1 ∷ 112 ∷ 6 ∷ 1 ∷ 0 ∷ 1 ∷ 100 ∷ 7 ∷ 32 ∷ 0 ∷ 1 ∷ 112 ∷ 7 ∷ 33 ∷ 0 ∷ 1 ∷ 113 ∷ 0 ∷ 0 ∷ 0 ∷ 0 ∷ 0 ∷ 0 ∷ 0 ∷ 0 ∷ 0
    ∷ 0 ∷ 0 ∷ 0 ∷ 0 ∷ 0 ∷ 0 ∷ 0 ∷ 0 ∷ 0 ∷ 0 ∷ 0 ∷ 0 ∷ 0 ∷ 0 ∷ 0 ∷ 0 ∷ 0 ∷ 0 ∷ 0 ∷ 0 ∷ 0 ∷ 0 ∷ 0 ∷ 0 ∷ 0 ∷ 0 ∷ 0 ∷ 0 ∷ 0 ∷ 0 ∷ 0 ∷ 0 ∷ 0 ∷ 0 ∷ 0 ∷ 0 ∷
    0 ∷ 0 ∷ 0 ∷ 0 ∷ 0 ∷ 0 ∷ 0 ∷ 0 ∷ 0 ∷ 0 ∷ 0 ∷ 0 ∷ 0 ∷ 0 ∷ 0 ∷ 0 ∷ 0 ∷ 0 ∷ 0 ∷ 0 ∷ 0 ∷ 0 ∷ 0 ∷ 0 ∷ 0 ∷ 0 ∷ 0 ∷ 0 ∷ 0 ∷ 0 ∷ 0 ∷ 0 ∷ 0 ∷ 0 ∷ 0 ∷ 0 ∷ 0
    ∷ 0 ∷ 0 ∷ 0 ∷ 0 ∷ 0 ∷ 0 ∷ 0 ∷ 0 ∷ 0 ∷ 0 ∷ 0 ∷ 0 ∷ 0 ∷ 0 ∷ []

asked-27-written : table_of asked-27 ≡ asked-27-table
unfolding computing
asked-27-written = refl

asked-27-10 : valid_on asked-27-table (context 0 0 1) ≡ refused 12 0
unfolding computing
asked-27-10 = refl

asked-27-11 : valid_on asked-27-table (context 1 0 0) ≡ refused 12 0
unfolding computing
asked-27-11 = refl

asked-27-12 : valid_on asked-27-table (context 0 256 0) ≡ refused 12 0
unfolding computing
asked-27-12 = refl

asked-27-13 : valid_on asked-27-table (context 18446744073709551615 0 0) ≡ refused 12 0
unfolding computing
asked-27-13 = refl

asked-27-15 : new_role_on asked-27-table 65536 0 0 ≡ refused 12 0
unfolding computing
asked-27-15 = refl

asked-27-changes : changes_on asked-27-table ((record { source = context 1 0 0; target = context 0 0 0; class = 0; perm = 0 }) ∷ (record
    { source = context 0 1 0; target = context 0 0 0; class = 0; perm = 0 }) ∷ (record
    { source = context 0 0 1; target = context 0 0 0; class = 0; perm = 0 }) ∷ (record
    { source = context 0 0 0; target = context 1 0 0; class = 0; perm = 0 }) ∷ (record
    { source = context 0 0 0; target = context 0 1 0; class = 0; perm = 0 }) ∷ (record
    { source = context 0 0 0; target = context 0 0 1; class = 0; perm = 0 }) ∷ (record
    { source = context 0 0 0; target = context 0 0 0; class = 2; perm = 0 }) ∷ (record
    { source = context 0 0 0; target = context 0 0 0; class = 0; perm = 1 }) ∷ (record
    { source = context 0 0 0; target = context 0 0 0; class = 1; perm = 2 }) ∷ (record
    { source = context 0 0 0; target = context 0 0 0; class = 1; perm = 1 }) ∷ (record
    { source = context 0 0 0; target = context 0 0 0; class = 0; perm = 4294967296 }) ∷ []) ≡ record { verdict = refuses 12 0; consulted = 0 } ∷
    record { verdict = refuses 12 0; consulted = 0 } ∷ record { verdict = refuses 12 0; consulted = 0 } ∷ record
    { verdict = refuses 12 0; consulted = 0 } ∷ record { verdict = refuses 12 0; consulted = 0 } ∷ record { verdict = refuses 12 0; consulted = 0 } ∷
    record { verdict = refuses 12 0; consulted = 0 } ∷ record { verdict = refuses 12 0; consulted = 0 } ∷ record
    { verdict = refuses 12 0; consulted = 0 } ∷ record { verdict = denied 1; consulted = 0 } ∷ record { verdict = refuses 12 0; consulted = 0 } ∷ []
unfolding computing
asked-27-changes = refl

asked-27-statements : from_text asked-27 ((record { source = context 0 0 0; target = context 0 0 0; class = 1; perm = 1 }) ∷ []) ≡ record
    { verdict = denied 1; consulted = 0 } ∷ []
unfolding computing
asked-27-statements = refl

-- object_r is valid and needs a role allow as others do; constraints apply
abbrev asked-28 : List ℕ
asked-28 = bytes "(user u)(role a)(role object_r)(role b)(type t)(userrole u a)(roletype a t)(class process(transition fork))(class file(r" ++
    bytes "ead write))(constrain(file(write))(neq r2 object_r))"

abbrev asked-28-table : List ℕ
asked-28-table = 2 ∷ 0 ∷ 10 ∷ 0 ∷ 84 ∷ 0 ∷ 0 ∷ 0 ∷ 90 ∷ 0 ∷ 0 ∷ 0 ∷ 174 ∷ 0 ∷ 0 ∷ 0 ∷ 16 ∷ 0 ∷ 0 ∷ 0 ∷ 190 ∷ 0 ∷ 0 ∷ 0 ∷ 192 ∷ 0 ∷ 0 ∷ 0 ∷ 126 ∷ 1
    ∷ 0 ∷ 0 ∷ 48 ∷ 0 ∷ 0 ∷ 0 ∷ 174 ∷ 1 ∷ 0 ∷ 0 ∷ 0 ∷ 0 ∷ 0 ∷ 0 ∷ 174 ∷ 1 ∷ 0 ∷ 0 ∷ 10 ∷ 0 ∷ 0 ∷ 0 ∷ 184 ∷ 1 ∷ 0 ∷ 0 ∷ 6 ∷ 0 ∷ 0 ∷ 0 ∷ 190 ∷ 1 ∷ 0 ∷ 0
    ∷ 0 ∷ 0 ∷ 0 ∷ 0 ∷ 190 ∷ 1 ∷ 0 ∷ 0 ∷ 0 ∷ 0 ∷ 0 ∷ 0 ∷ 190 ∷ 1 ∷ 0 ∷ 0 ∷ 0 ∷ 0 ∷ 0 ∷ 0 ∷ 0 ∷ 0 ∷ 0 ∷ 1 ∷ 117 ∷ 1 ∷ 0 ∷ 0 ∷ 1 ∷ 97 ∷ 1 ∷ 1 ∷ 0 ∷ 8 ∷
    111 ∷ 98 ∷ 106 ∷ 101 ∷ 99 ∷ 116 ∷ 95 ∷ 114 ∷ 1 ∷ 2 ∷ 0 ∷ 1 ∷ 98 ∷ 2 ∷ 0 ∷ 0 ∷ 1 ∷ 116 ∷ 6 ∷ 0 ∷ 0 ∷ 7 ∷ 112 ∷ 114 ∷ 111 ∷ 99 ∷ 101 ∷ 115 ∷ 115 ∷ 7
    ∷ 0 ∷ 0 ∷ 10 ∷ 116 ∷ 114 ∷ 97 ∷ 110 ∷ 115 ∷ 105 ∷ 116 ∷ 105 ∷ 111 ∷ 110 ∷ 7 ∷ 1 ∷ 0 ∷ 4 ∷ 102 ∷ 111 ∷ 114 ∷ 107 ∷ 6 ∷ 1 ∷ 0 ∷ 4 ∷ 102 ∷ 105 ∷ 108
    ∷ 101 ∷ 7 ∷ 32 ∷ 0 ∷ 4 ∷ 114 ∷ 101 ∷ 97 ∷ 100 ∷ 7 ∷ 33 ∷ 0 ∷ 5 ∷ 119 ∷ 114 ∷ 105 ∷ 116 ∷ 101 ∷ 1 ∷ 0 ∷ 0 ∷ 0 ∷ 0 ∷ 0 ∷ 0 ∷ 0 ∷ 0 ∷ 0 ∷ 0 ∷ 0 ∷ 0 ∷
    0 ∷ 0 ∷ 0 ∷ 1 ∷ 0 ∷ 0 ∷ 0 ∷ 0 ∷ 0 ∷ 0 ∷ 0 ∷ 0 ∷ 0 ∷ 0 ∷ 0 ∷ 0 ∷ 0 ∷ 0 ∷ 0 ∷ 0 ∷ 0 ∷ 0 ∷ 0 ∷ 0 ∷ 0 ∷ 0 ∷ 0 ∷ 0 ∷ 0 ∷ 0 ∷ 0 ∷ 0 ∷ 0 ∷ 0 ∷ 0 ∷ 0 ∷ 0
    ∷ 0 ∷ 0 ∷ 0 ∷ 0 ∷ 0 ∷ 0 ∷ 0 ∷ 0 ∷ 0 ∷ 0 ∷ 0 ∷ 0 ∷ 0 ∷ 0 ∷ 0 ∷ 0 ∷ 0 ∷ 0 ∷ 0 ∷ 0 ∷ 0 ∷ 0 ∷ 0 ∷ 0 ∷ 0 ∷ 0 ∷ 0 ∷ 0 ∷ 0 ∷ 0 ∷ 0 ∷ 0 ∷ 0 ∷ 0 ∷ 0 ∷ 0 ∷
    0 ∷ 0 ∷ 0 ∷ 0 ∷ 0 ∷ 0 ∷ 0 ∷ 0 ∷ 0 ∷ 0 ∷ 0 ∷ 0 ∷ 0 ∷ 0 ∷ 0 ∷ 0 ∷ 0 ∷ 0 ∷ 0 ∷ 0 ∷ 0 ∷ 0 ∷ 0 ∷ 0 ∷ 0 ∷ 0 ∷ 0 ∷ 0 ∷ 0 ∷ 0 ∷ 0 ∷ 0 ∷ 0 ∷ 0 ∷ 0 ∷ 0 ∷ 0
    ∷ 0 ∷ 0 ∷ 0 ∷ 0 ∷ 0 ∷ 0 ∷ 0 ∷ 0 ∷ 0 ∷ 0 ∷ 0 ∷ 0 ∷ 0 ∷ 0 ∷ 0 ∷ 0 ∷ 0 ∷ 0 ∷ 0 ∷ 0 ∷ 0 ∷ 0 ∷ 0 ∷ 0 ∷ 0 ∷ 0 ∷ 0 ∷ 0 ∷ 0 ∷ 0 ∷ 0 ∷ 0 ∷ 0 ∷ 0 ∷ 0 ∷ 0 ∷
    0 ∷ 0 ∷ 0 ∷ 0 ∷ 0 ∷ 0 ∷ 0 ∷ 0 ∷ 0 ∷ 0 ∷ 0 ∷ 0 ∷ 0 ∷ 0 ∷ 0 ∷ 0 ∷ 0 ∷ 0 ∷ 0 ∷ 0 ∷ 0 ∷ 0 ∷ 0 ∷ 0 ∷ 0 ∷ 0 ∷ 0 ∷ 0 ∷ 0 ∷ 0 ∷ 0 ∷ 0 ∷ 0 ∷ 0 ∷ 0 ∷ 0 ∷ 0
    ∷ 0 ∷ 0 ∷ 0 ∷ 0 ∷ 0 ∷ 0 ∷ 0 ∷ 0 ∷ 0 ∷ 0 ∷ 0 ∷ 0 ∷ 0 ∷ 0 ∷ 0 ∷ 0 ∷ 0 ∷ 0 ∷ 0 ∷ 0 ∷ 0 ∷ 0 ∷ 0 ∷ 0 ∷ 0 ∷ 0 ∷ 0 ∷ 0 ∷ 0 ∷ 0 ∷ 0 ∷ 0 ∷ 0 ∷ 0 ∷ 0 ∷ 0 ∷
    0 ∷ 0 ∷ 0 ∷ 0 ∷ 0 ∷ 0 ∷ 0 ∷ 0 ∷ 0 ∷ 0 ∷ 0 ∷ 0 ∷ 0 ∷ 0 ∷ 0 ∷ 0 ∷ 0 ∷ 0 ∷ 0 ∷ 0 ∷ 0 ∷ 0 ∷ 0 ∷ 0 ∷ 1 ∷ 0 ∷ 2 ∷ 0 ∷ 0 ∷ 0 ∷ 0 ∷ 0 ∷ 1 ∷ 0 ∷ 4 ∷ 3 ∷ 1
    ∷ 0 ∷ 1 ∷ 0 ∷ []

asked-28-written : table_of asked-28 ≡ asked-28-table
unfolding computing
asked-28-written = refl

asked-28-0 : valid_on asked-28-table (context 0 1 0) ≡ answered true
unfolding computing
asked-28-0 = refl

asked-28-1 : valid_on asked-28-table (context 0 2 0) ≡ answered false
unfolding computing
asked-28-1 = refl

asked-28-changes : changes_on asked-28-table ((record { source = context 0 1 0; target = context 0 0 0; class = 1; perm = 0 }) ∷ (record
    { source = context 0 0 0; target = context 0 1 0; class = 1; perm = 0 }) ∷ (record
    { source = context 0 1 0; target = context 0 1 0; class = 1; perm = 0 }) ∷ (record
    { source = context 0 2 0; target = context 0 1 0; class = 1; perm = 0 }) ∷ (record
    { source = context 0 1 0; target = context 0 2 0; class = 1; perm = 0 }) ∷ (record
    { source = context 0 0 0; target = context 0 1 0; class = 0; perm = 0 }) ∷ (record
    { source = context 0 1 0; target = context 0 0 0; class = 0; perm = 0 }) ∷ (record
    { source = context 0 0 0; target = context 0 1 0; class = 0; perm = 1 }) ∷ (record
    { source = context 0 1 0; target = context 0 1 0; class = 0; perm = 0 }) ∷ (record
    { source = context 0 0 0; target = context 0 1 0; class = 1; perm = 1 }) ∷ []) ≡ record { verdict = granted; consulted = 0 } ∷ record
    { verdict = granted; consulted = 0 } ∷ record { verdict = granted; consulted = 0 } ∷ record { verdict = denied 1; consulted = 0 } ∷ record
    { verdict = denied 2; consulted = 0 } ∷ record { verdict = denied 3; consulted = 0 } ∷ record { verdict = denied 3; consulted = 0 } ∷ record
    { verdict = granted; consulted = 0 } ∷ record { verdict = granted; consulted = 0 } ∷ record { verdict = fails 4 0; consulted = 1 } ∷ []
unfolding computing
asked-28-changes = refl

asked-28-statements : from_text asked-28 ((record { source = context 0 1 0; target = context 0 0 0; class = 1; perm = 0 }) ∷ (record
    { source = context 0 0 0; target = context 0 1 0; class = 1; perm = 0 }) ∷ (record
    { source = context 0 1 0; target = context 0 1 0; class = 1; perm = 0 }) ∷ (record
    { source = context 0 2 0; target = context 0 1 0; class = 1; perm = 0 }) ∷ (record
    { source = context 0 1 0; target = context 0 2 0; class = 1; perm = 0 }) ∷ (record
    { source = context 0 0 0; target = context 0 1 0; class = 0; perm = 0 }) ∷ (record
    { source = context 0 1 0; target = context 0 0 0; class = 0; perm = 0 }) ∷ (record
    { source = context 0 0 0; target = context 0 1 0; class = 0; perm = 1 }) ∷ (record
    { source = context 0 1 0; target = context 0 1 0; class = 0; perm = 0 }) ∷ (record
    { source = context 0 0 0; target = context 0 1 0; class = 1; perm = 1 }) ∷ []) ≡ record { verdict = granted; consulted = 0 } ∷ record
    { verdict = granted; consulted = 0 } ∷ record { verdict = granted; consulted = 0 } ∷ record { verdict = denied 1; consulted = 0 } ∷ record
    { verdict = denied 2; consulted = 0 } ∷ record { verdict = denied 3; consulted = 0 } ∷ record { verdict = denied 3; consulted = 0 } ∷ record
    { verdict = granted; consulted = 0 } ∷ record { verdict = granted; consulted = 0 } ∷ record { verdict = fails 4 0; consulted = 1 } ∷ []
unfolding computing
asked-28-statements = refl

-- object_r where its role allow is said, one way only
abbrev asked-29 : List ℕ
asked-29 = bytes "(user u)(role a)(role object_r)(type t)(userrole u a)(roletype a t)(roleallow a object_r)(class process(dyntransition))(" ++
    bytes "constrain(process(dyntransition))(not(eq r1 object_r)))"

abbrev asked-29-table : List ℕ
asked-29-table = 2 ∷ 0 ∷ 10 ∷ 0 ∷ 84 ∷ 0 ∷ 0 ∷ 0 ∷ 55 ∷ 0 ∷ 0 ∷ 0 ∷ 139 ∷ 0 ∷ 0 ∷ 0 ∷ 16 ∷ 0 ∷ 0 ∷ 0 ∷ 155 ∷ 0 ∷ 0 ∷ 0 ∷ 128 ∷ 0 ∷ 0 ∷ 0 ∷ 27 ∷ 1
    ∷ 0 ∷ 0 ∷ 32 ∷ 0 ∷ 0 ∷ 0 ∷ 59 ∷ 1 ∷ 0 ∷ 0 ∷ 0 ∷ 0 ∷ 0 ∷ 0 ∷ 59 ∷ 1 ∷ 0 ∷ 0 ∷ 10 ∷ 0 ∷ 0 ∷ 0 ∷ 69 ∷ 1 ∷ 0 ∷ 0 ∷ 12 ∷ 0 ∷ 0 ∷ 0 ∷ 81 ∷ 1 ∷ 0 ∷ 0 ∷ 0
    ∷ 0 ∷ 0 ∷ 0 ∷ 81 ∷ 1 ∷ 0 ∷ 0 ∷ 0 ∷ 0 ∷ 0 ∷ 0 ∷ 81 ∷ 1 ∷ 0 ∷ 0 ∷ 0 ∷ 0 ∷ 0 ∷ 0 ∷ 0 ∷ 0 ∷ 0 ∷ 1 ∷ 117 ∷ 1 ∷ 0 ∷ 0 ∷ 1 ∷ 97 ∷ 1 ∷ 1 ∷ 0 ∷ 8 ∷ 111 ∷
    98 ∷ 106 ∷ 101 ∷ 99 ∷ 116 ∷ 95 ∷ 114 ∷ 2 ∷ 0 ∷ 0 ∷ 1 ∷ 116 ∷ 6 ∷ 0 ∷ 0 ∷ 7 ∷ 112 ∷ 114 ∷ 111 ∷ 99 ∷ 101 ∷ 115 ∷ 115 ∷ 7 ∷ 0 ∷ 0 ∷ 13 ∷ 100 ∷ 121 ∷
    110 ∷ 116 ∷ 114 ∷ 97 ∷ 110 ∷ 115 ∷ 105 ∷ 116 ∷ 105 ∷ 111 ∷ 110 ∷ 1 ∷ 0 ∷ 0 ∷ 0 ∷ 0 ∷ 0 ∷ 0 ∷ 0 ∷ 0 ∷ 0 ∷ 0 ∷ 0 ∷ 0 ∷ 0 ∷ 0 ∷ 0 ∷ 1 ∷ 0 ∷ 0 ∷ 0 ∷ 0
    ∷ 0 ∷ 0 ∷ 0 ∷ 0 ∷ 0 ∷ 0 ∷ 0 ∷ 0 ∷ 0 ∷ 0 ∷ 0 ∷ 0 ∷ 0 ∷ 0 ∷ 0 ∷ 0 ∷ 0 ∷ 0 ∷ 0 ∷ 0 ∷ 0 ∷ 0 ∷ 0 ∷ 0 ∷ 0 ∷ 0 ∷ 0 ∷ 0 ∷ 0 ∷ 0 ∷ 0 ∷ 0 ∷ 0 ∷ 0 ∷ 0 ∷ 0 ∷
    0 ∷ 0 ∷ 0 ∷ 0 ∷ 0 ∷ 0 ∷ 0 ∷ 0 ∷ 0 ∷ 0 ∷ 0 ∷ 0 ∷ 0 ∷ 0 ∷ 0 ∷ 0 ∷ 0 ∷ 0 ∷ 0 ∷ 0 ∷ 0 ∷ 0 ∷ 0 ∷ 0 ∷ 0 ∷ 0 ∷ 0 ∷ 0 ∷ 0 ∷ 0 ∷ 0 ∷ 0 ∷ 0 ∷ 0 ∷ 0 ∷ 0 ∷ 0
    ∷ 0 ∷ 0 ∷ 0 ∷ 0 ∷ 0 ∷ 0 ∷ 0 ∷ 0 ∷ 0 ∷ 0 ∷ 0 ∷ 0 ∷ 0 ∷ 0 ∷ 0 ∷ 0 ∷ 0 ∷ 0 ∷ 0 ∷ 0 ∷ 0 ∷ 0 ∷ 0 ∷ 0 ∷ 0 ∷ 0 ∷ 0 ∷ 0 ∷ 0 ∷ 0 ∷ 0 ∷ 0 ∷ 0 ∷ 0 ∷ 0 ∷ 0 ∷
    0 ∷ 0 ∷ 0 ∷ 0 ∷ 0 ∷ 0 ∷ 0 ∷ 0 ∷ 0 ∷ 0 ∷ 0 ∷ 0 ∷ 0 ∷ 0 ∷ 2 ∷ 0 ∷ 0 ∷ 0 ∷ 0 ∷ 0 ∷ 0 ∷ 0 ∷ 0 ∷ 0 ∷ 0 ∷ 0 ∷ 0 ∷ 0 ∷ 0 ∷ 0 ∷ 0 ∷ 0 ∷ 0 ∷ 0 ∷ 0 ∷ 0 ∷ 0
    ∷ 0 ∷ 0 ∷ 0 ∷ 0 ∷ 0 ∷ 0 ∷ 0 ∷ 0 ∷ 0 ∷ 0 ∷ 0 ∷ 1 ∷ 0 ∷ 0 ∷ 0 ∷ 0 ∷ 0 ∷ 2 ∷ 0 ∷ 4 ∷ 2 ∷ 0 ∷ 0 ∷ 1 ∷ 0 ∷ 0 ∷ 0 ∷ 0 ∷ 0 ∷ 0 ∷ 0 ∷ []

asked-29-written : table_of asked-29 ≡ asked-29-table
unfolding computing
asked-29-written = refl

asked-29-changes : changes_on asked-29-table ((record { source = context 0 0 0; target = context 0 1 0; class = 0; perm = 0 }) ∷ (record
    { source = context 0 1 0; target = context 0 0 0; class = 0; perm = 0 }) ∷ (record
    { source = context 0 1 0; target = context 0 1 0; class = 0; perm = 0 }) ∷ (record
    { source = context 0 0 0; target = context 0 0 0; class = 0; perm = 0 }) ∷ []) ≡ record { verdict = granted; consulted = 1 } ∷ record
    { verdict = denied 3; consulted = 0 } ∷ record { verdict = fails 4 0; consulted = 1 } ∷ record { verdict = granted; consulted = 1 } ∷ []
unfolding computing
asked-29-changes = refl

asked-29-statements : from_text asked-29 ((record { source = context 0 0 0; target = context 0 1 0; class = 0; perm = 0 }) ∷ (record
    { source = context 0 1 0; target = context 0 0 0; class = 0; perm = 0 }) ∷ (record
    { source = context 0 1 0; target = context 0 1 0; class = 0; perm = 0 }) ∷ (record
    { source = context 0 0 0; target = context 0 0 0; class = 0; perm = 0 }) ∷ []) ≡ record { verdict = granted; consulted = 1 } ∷ record
    { verdict = denied 3; consulted = 0 } ∷ record { verdict = fails 4 0; consulted = 1 } ∷ record { verdict = granted; consulted = 1 } ∷ []
unfolding computing
asked-29-statements = refl

-- object_r by its name, whatever its number; 12 before
abbrev asked-30 : List ℕ
asked-30 = bytes "(user u)(user v)(role object_r)(type s)(type t)(class c(p))"

abbrev asked-30-table : List ℕ
asked-30-table = 2 ∷ 0 ∷ 10 ∷ 0 ∷ 84 ∷ 0 ∷ 0 ∷ 0 ∷ 42 ∷ 0 ∷ 0 ∷ 0 ∷ 126 ∷ 0 ∷ 0 ∷ 0 ∷ 32 ∷ 0 ∷ 0 ∷ 0 ∷ 158 ∷ 0 ∷ 0 ∷ 0 ∷ 64 ∷ 0 ∷ 0 ∷ 0 ∷ 222 ∷ 0
    ∷ 0 ∷ 0 ∷ 16 ∷ 0 ∷ 0 ∷ 0 ∷ 238 ∷ 0 ∷ 0 ∷ 0 ∷ 0 ∷ 0 ∷ 0 ∷ 0 ∷ 238 ∷ 0 ∷ 0 ∷ 0 ∷ 0 ∷ 0 ∷ 0 ∷ 0 ∷ 238 ∷ 0 ∷ 0 ∷ 0 ∷ 0 ∷ 0 ∷ 0 ∷ 0 ∷ 238 ∷ 0 ∷ 0 ∷ 0 ∷
    0 ∷ 0 ∷ 0 ∷ 0 ∷ 238 ∷ 0 ∷ 0 ∷ 0 ∷ 0 ∷ 0 ∷ 0 ∷ 0 ∷ 238 ∷ 0 ∷ 0 ∷ 0 ∷ 0 ∷ 0 ∷ 0 ∷ 0 ∷ 0 ∷ 0 ∷ 0 ∷ 1 ∷ 117 ∷ 0 ∷ 1 ∷ 0 ∷ 1 ∷ 118 ∷ 1 ∷ 0 ∷ 0 ∷ 8 ∷
    111 ∷ 98 ∷ 106 ∷ 101 ∷ 99 ∷ 116 ∷ 95 ∷ 114 ∷ 2 ∷ 0 ∷ 0 ∷ 1 ∷ 115 ∷ 2 ∷ 1 ∷ 0 ∷ 1 ∷ 116 ∷ 6 ∷ 0 ∷ 0 ∷ 1 ∷ 99 ∷ 7 ∷ 0 ∷ 0 ∷ 1 ∷ 112 ∷ 0 ∷ 0 ∷ 0 ∷ 0
    ∷ 0 ∷ 0 ∷ 0 ∷ 0 ∷ 0 ∷ 0 ∷ 0 ∷ 0 ∷ 0 ∷ 0 ∷ 0 ∷ 0 ∷ 0 ∷ 0 ∷ 0 ∷ 0 ∷ 0 ∷ 0 ∷ 0 ∷ 0 ∷ 0 ∷ 0 ∷ 0 ∷ 0 ∷ 0 ∷ 0 ∷ 0 ∷ 0 ∷ 0 ∷ 0 ∷ 0 ∷ 0 ∷ 0 ∷ 0 ∷ 0 ∷ 0 ∷
    0 ∷ 0 ∷ 0 ∷ 0 ∷ 0 ∷ 0 ∷ 0 ∷ 0 ∷ 0 ∷ 0 ∷ 0 ∷ 0 ∷ 0 ∷ 0 ∷ 0 ∷ 0 ∷ 0 ∷ 0 ∷ 0 ∷ 0 ∷ 0 ∷ 0 ∷ 0 ∷ 0 ∷ 0 ∷ 0 ∷ 0 ∷ 0 ∷ 0 ∷ 0 ∷ 0 ∷ 0 ∷ 0 ∷ 0 ∷ 0 ∷ 0 ∷ 0
    ∷ 0 ∷ 0 ∷ 0 ∷ 0 ∷ 0 ∷ 0 ∷ 0 ∷ 0 ∷ 0 ∷ 0 ∷ 0 ∷ 0 ∷ 0 ∷ 0 ∷ 0 ∷ 0 ∷ 0 ∷ 0 ∷ 0 ∷ 0 ∷ 0 ∷ 0 ∷ 0 ∷ 0 ∷ 0 ∷ 0 ∷ 0 ∷ 0 ∷ 0 ∷ 0 ∷ 0 ∷ 0 ∷ 0 ∷ 0 ∷ 0 ∷ []

asked-30-written : table_of asked-30 ≡ asked-30-table
unfolding computing
asked-30-written = refl

asked-30-0 : valid_on asked-30-table (context 0 0 0) ≡ answered true
unfolding computing
asked-30-0 = refl

asked-30-1 : valid_on asked-30-table (context 1 0 1) ≡ answered true
unfolding computing
asked-30-1 = refl

asked-30-2 : valid_on asked-30-table (context 2 0 0) ≡ refused 12 0
unfolding computing
asked-30-2 = refl

asked-30-3 : valid_on asked-30-table (context 0 0 2) ≡ refused 12 0
unfolding computing
asked-30-3 = refl

asked-30-change : change_on asked-30-table (record { source = context 0 0 1; target = context 1 0 0; class = 0; perm = 0 }) ≡ record
    { verdict = granted; consulted = 0 }
unfolding computing
asked-30-change = refl

asked-30-statements : from_text asked-30 ((record { source = context 0 0 1; target = context 1 0 0; class = 0; perm = 0 }) ∷ []) ≡ record
    { verdict = granted; consulted = 0 } ∷ []
unfolding computing
asked-30-statements = refl

-- no role is named object_r, but all else is
abbrev asked-31 : List ℕ
asked-31 = bytes "(user object_r)(roleattribute object_r)(role Object_r)(role object_r-)(type object_r)(class object_r(object_r))(roleattr" ++
    bytes "ibuteset object_r(all))"

abbrev asked-31-table : List ℕ
asked-31-table = 2 ∷ 0 ∷ 10 ∷ 0 ∷ 84 ∷ 0 ∷ 0 ∷ 0 ∷ 85 ∷ 0 ∷ 0 ∷ 0 ∷ 169 ∷ 0 ∷ 0 ∷ 0 ∷ 16 ∷ 0 ∷ 0 ∷ 0 ∷ 185 ∷ 0 ∷ 0 ∷ 0 ∷ 128 ∷ 0 ∷ 0 ∷ 0 ∷ 57 ∷ 1
    ∷ 0 ∷ 0 ∷ 32 ∷ 0 ∷ 0 ∷ 0 ∷ 89 ∷ 1 ∷ 0 ∷ 0 ∷ 0 ∷ 0 ∷ 0 ∷ 0 ∷ 89 ∷ 1 ∷ 0 ∷ 0 ∷ 0 ∷ 0 ∷ 0 ∷ 0 ∷ 89 ∷ 1 ∷ 0 ∷ 0 ∷ 0 ∷ 0 ∷ 0 ∷ 0 ∷ 89 ∷ 1 ∷ 0 ∷ 0 ∷ 16
    ∷ 0 ∷ 0 ∷ 0 ∷ 105 ∷ 1 ∷ 0 ∷ 0 ∷ 0 ∷ 0 ∷ 0 ∷ 0 ∷ 105 ∷ 1 ∷ 0 ∷ 0 ∷ 0 ∷ 0 ∷ 0 ∷ 0 ∷ 0 ∷ 0 ∷ 0 ∷ 8 ∷ 111 ∷ 98 ∷ 106 ∷ 101 ∷ 99 ∷ 116 ∷ 95 ∷ 114 ∷ 4 ∷
    0 ∷ 0 ∷ 8 ∷ 111 ∷ 98 ∷ 106 ∷ 101 ∷ 99 ∷ 116 ∷ 95 ∷ 114 ∷ 1 ∷ 0 ∷ 0 ∷ 8 ∷ 79 ∷ 98 ∷ 106 ∷ 101 ∷ 99 ∷ 116 ∷ 95 ∷ 114 ∷ 1 ∷ 1 ∷ 0 ∷ 9 ∷ 111 ∷ 98 ∷
    106 ∷ 101 ∷ 99 ∷ 116 ∷ 95 ∷ 114 ∷ 45 ∷ 2 ∷ 0 ∷ 0 ∷ 8 ∷ 111 ∷ 98 ∷ 106 ∷ 101 ∷ 99 ∷ 116 ∷ 95 ∷ 114 ∷ 6 ∷ 0 ∷ 0 ∷ 8 ∷ 111 ∷ 98 ∷ 106 ∷ 101 ∷ 99 ∷
    116 ∷ 95 ∷ 114 ∷ 7 ∷ 0 ∷ 0 ∷ 8 ∷ 111 ∷ 98 ∷ 106 ∷ 101 ∷ 99 ∷ 116 ∷ 95 ∷ 114 ∷ 0 ∷ 0 ∷ 0 ∷ 0 ∷ 0 ∷ 0 ∷ 0 ∷ 0 ∷ 0 ∷ 0 ∷ 0 ∷ 0 ∷ 0 ∷ 0 ∷ 0 ∷ 0 ∷ 0 ∷
    0 ∷ 0 ∷ 0 ∷ 0 ∷ 0 ∷ 0 ∷ 0 ∷ 0 ∷ 0 ∷ 0 ∷ 0 ∷ 0 ∷ 0 ∷ 0 ∷ 0 ∷ 0 ∷ 0 ∷ 0 ∷ 0 ∷ 0 ∷ 0 ∷ 0 ∷ 0 ∷ 0 ∷ 0 ∷ 0 ∷ 0 ∷ 0 ∷ 0 ∷ 0 ∷ 0 ∷ 0 ∷ 0 ∷ 0 ∷ 0 ∷ 0 ∷ 0
    ∷ 0 ∷ 0 ∷ 0 ∷ 0 ∷ 0 ∷ 0 ∷ 0 ∷ 0 ∷ 0 ∷ 0 ∷ 0 ∷ 0 ∷ 0 ∷ 0 ∷ 0 ∷ 0 ∷ 0 ∷ 0 ∷ 0 ∷ 0 ∷ 0 ∷ 0 ∷ 0 ∷ 0 ∷ 0 ∷ 0 ∷ 0 ∷ 0 ∷ 0 ∷ 0 ∷ 0 ∷ 0 ∷ 0 ∷ 0 ∷ 0 ∷ 0 ∷
    0 ∷ 0 ∷ 0 ∷ 0 ∷ 0 ∷ 0 ∷ 0 ∷ 0 ∷ 0 ∷ 0 ∷ 0 ∷ 0 ∷ 0 ∷ 0 ∷ 0 ∷ 0 ∷ 0 ∷ 0 ∷ 0 ∷ 0 ∷ 0 ∷ 0 ∷ 0 ∷ 0 ∷ 0 ∷ 0 ∷ 0 ∷ 0 ∷ 0 ∷ 0 ∷ 0 ∷ 0 ∷ 0 ∷ 0 ∷ 0 ∷ 0 ∷ 0
    ∷ 0 ∷ 0 ∷ 0 ∷ 0 ∷ 0 ∷ 0 ∷ 0 ∷ 0 ∷ 0 ∷ 0 ∷ 0 ∷ 0 ∷ 0 ∷ 0 ∷ 0 ∷ 0 ∷ 0 ∷ 0 ∷ 0 ∷ 0 ∷ 0 ∷ 0 ∷ 0 ∷ 0 ∷ 0 ∷ 0 ∷ 0 ∷ 0 ∷ 0 ∷ 0 ∷ 0 ∷ 0 ∷ 0 ∷ 0 ∷ 0 ∷ 0 ∷
    0 ∷ 0 ∷ 0 ∷ 0 ∷ 0 ∷ 0 ∷ 0 ∷ 0 ∷ 0 ∷ 0 ∷ 0 ∷ 0 ∷ 0 ∷ 3 ∷ 0 ∷ 0 ∷ 0 ∷ 0 ∷ 0 ∷ 0 ∷ 0 ∷ 0 ∷ 0 ∷ 0 ∷ 0 ∷ 0 ∷ 0 ∷ 0 ∷ 0 ∷ []

asked-31-written : table_of asked-31 ≡ asked-31-table
unfolding computing
asked-31-written = refl

asked-31-0 : valid_on asked-31-table (context 0 0 0) ≡ answered false
unfolding computing
asked-31-0 = refl

asked-31-1 : valid_on asked-31-table (context 0 1 0) ≡ answered false
unfolding computing
asked-31-1 = refl

asked-31-change : change_on asked-31-table (record { source = context 0 0 0; target = context 0 1 0; class = 0; perm = 0 }) ≡ record
    { verdict = denied 1; consulted = 0 }
unfolding computing
asked-31-change = refl

asked-31-statements : from_text asked-31 ((record { source = context 0 0 0; target = context 0 1 0; class = 0; perm = 0 }) ∷ []) ≡ record
    { verdict = denied 1; consulted = 0 } ∷ []
unfolding computing
asked-31-statements = refl

-- only the full names process and object_r are treated apart
abbrev asked-32 : List ℕ
asked-32 = bytes "(user u)(type t)(role a)(block b(role object_r)(class process(transition)))(role object_r)(class process(transition))(us" ++
    bytes "errole u a)(roletype a t)"

abbrev asked-32-table : List ℕ
asked-32-table = 2 ∷ 0 ∷ 10 ∷ 0 ∷ 84 ∷ 0 ∷ 0 ∷ 0 ∷ 93 ∷ 0 ∷ 0 ∷ 0 ∷ 177 ∷ 0 ∷ 0 ∷ 0 ∷ 16 ∷ 0 ∷ 0 ∷ 0 ∷ 193 ∷ 0 ∷ 0 ∷ 0 ∷ 192 ∷ 0 ∷ 0 ∷ 0 ∷ 129 ∷ 1
    ∷ 0 ∷ 0 ∷ 48 ∷ 0 ∷ 0 ∷ 0 ∷ 177 ∷ 1 ∷ 0 ∷ 0 ∷ 0 ∷ 0 ∷ 0 ∷ 0 ∷ 177 ∷ 1 ∷ 0 ∷ 0 ∷ 0 ∷ 0 ∷ 0 ∷ 0 ∷ 177 ∷ 1 ∷ 0 ∷ 0 ∷ 0 ∷ 0 ∷ 0 ∷ 0 ∷ 177 ∷ 1 ∷ 0 ∷ 0 ∷
    0 ∷ 0 ∷ 0 ∷ 0 ∷ 177 ∷ 1 ∷ 0 ∷ 0 ∷ 0 ∷ 0 ∷ 0 ∷ 0 ∷ 177 ∷ 1 ∷ 0 ∷ 0 ∷ 0 ∷ 0 ∷ 0 ∷ 0 ∷ 0 ∷ 0 ∷ 0 ∷ 1 ∷ 117 ∷ 2 ∷ 0 ∷ 0 ∷ 1 ∷ 116 ∷ 1 ∷ 0 ∷ 0 ∷ 1 ∷ 97
    ∷ 1 ∷ 1 ∷ 0 ∷ 10 ∷ 98 ∷ 46 ∷ 111 ∷ 98 ∷ 106 ∷ 101 ∷ 99 ∷ 116 ∷ 95 ∷ 114 ∷ 6 ∷ 0 ∷ 0 ∷ 9 ∷ 98 ∷ 46 ∷ 112 ∷ 114 ∷ 111 ∷ 99 ∷ 101 ∷ 115 ∷ 115 ∷ 7 ∷ 0
    ∷ 0 ∷ 10 ∷ 116 ∷ 114 ∷ 97 ∷ 110 ∷ 115 ∷ 105 ∷ 116 ∷ 105 ∷ 111 ∷ 110 ∷ 1 ∷ 2 ∷ 0 ∷ 8 ∷ 111 ∷ 98 ∷ 106 ∷ 101 ∷ 99 ∷ 116 ∷ 95 ∷ 114 ∷ 6 ∷ 1 ∷ 0 ∷ 7 ∷
    112 ∷ 114 ∷ 111 ∷ 99 ∷ 101 ∷ 115 ∷ 115 ∷ 7 ∷ 32 ∷ 0 ∷ 10 ∷ 116 ∷ 114 ∷ 97 ∷ 110 ∷ 115 ∷ 105 ∷ 116 ∷ 105 ∷ 111 ∷ 110 ∷ 1 ∷ 0 ∷ 0 ∷ 0 ∷ 0 ∷ 0 ∷ 0 ∷
    0 ∷ 0 ∷ 0 ∷ 0 ∷ 0 ∷ 0 ∷ 0 ∷ 0 ∷ 0 ∷ 1 ∷ 0 ∷ 0 ∷ 0 ∷ 0 ∷ 0 ∷ 0 ∷ 0 ∷ 0 ∷ 0 ∷ 0 ∷ 0 ∷ 0 ∷ 0 ∷ 0 ∷ 0 ∷ 0 ∷ 0 ∷ 0 ∷ 0 ∷ 0 ∷ 0 ∷ 0 ∷ 0 ∷ 0 ∷ 0 ∷ 0 ∷ 0
    ∷ 0 ∷ 0 ∷ 0 ∷ 0 ∷ 0 ∷ 0 ∷ 0 ∷ 0 ∷ 0 ∷ 0 ∷ 0 ∷ 0 ∷ 0 ∷ 0 ∷ 0 ∷ 0 ∷ 0 ∷ 0 ∷ 0 ∷ 0 ∷ 0 ∷ 0 ∷ 0 ∷ 0 ∷ 0 ∷ 0 ∷ 0 ∷ 0 ∷ 0 ∷ 0 ∷ 0 ∷ 0 ∷ 0 ∷ 0 ∷ 0 ∷ 0 ∷
    0 ∷ 0 ∷ 0 ∷ 0 ∷ 0 ∷ 0 ∷ 0 ∷ 0 ∷ 0 ∷ 0 ∷ 0 ∷ 0 ∷ 0 ∷ 0 ∷ 0 ∷ 0 ∷ 0 ∷ 0 ∷ 0 ∷ 0 ∷ 0 ∷ 0 ∷ 0 ∷ 0 ∷ 0 ∷ 0 ∷ 0 ∷ 0 ∷ 0 ∷ 0 ∷ 0 ∷ 0 ∷ 0 ∷ 0 ∷ 0 ∷ 0 ∷ 0
    ∷ 0 ∷ 0 ∷ 0 ∷ 0 ∷ 0 ∷ 0 ∷ 0 ∷ 0 ∷ 0 ∷ 0 ∷ 0 ∷ 0 ∷ 0 ∷ 0 ∷ 0 ∷ 0 ∷ 0 ∷ 0 ∷ 0 ∷ 0 ∷ 0 ∷ 0 ∷ 0 ∷ 0 ∷ 0 ∷ 0 ∷ 0 ∷ 0 ∷ 0 ∷ 0 ∷ 0 ∷ 0 ∷ 0 ∷ 0 ∷ 0 ∷ 0 ∷
    0 ∷ 0 ∷ 0 ∷ 0 ∷ 0 ∷ 0 ∷ 0 ∷ 0 ∷ 0 ∷ 0 ∷ 0 ∷ 0 ∷ 0 ∷ 0 ∷ 0 ∷ 0 ∷ 0 ∷ 0 ∷ 0 ∷ 0 ∷ 0 ∷ 0 ∷ 0 ∷ 0 ∷ 0 ∷ 0 ∷ 0 ∷ 0 ∷ 0 ∷ 0 ∷ 0 ∷ 0 ∷ 0 ∷ 0 ∷ 0 ∷ 0 ∷ 0
    ∷ 0 ∷ 0 ∷ 0 ∷ 0 ∷ 0 ∷ 0 ∷ 0 ∷ 0 ∷ 0 ∷ 0 ∷ 0 ∷ 0 ∷ 0 ∷ 0 ∷ 0 ∷ 0 ∷ 0 ∷ 0 ∷ 0 ∷ 0 ∷ 0 ∷ 0 ∷ 0 ∷ 0 ∷ 0 ∷ 0 ∷ 0 ∷ 0 ∷ 0 ∷ 0 ∷ 0 ∷ 0 ∷ 0 ∷ 0 ∷ 0 ∷ 0 ∷
    0 ∷ 0 ∷ 0 ∷ 0 ∷ 0 ∷ 0 ∷ 0 ∷ 0 ∷ 0 ∷ 0 ∷ 0 ∷ 0 ∷ 0 ∷ 0 ∷ 0 ∷ 0 ∷ 0 ∷ 0 ∷ 0 ∷ 0 ∷ 0 ∷ 0 ∷ 0 ∷ 0 ∷ 0 ∷ 0 ∷ 0 ∷ 0 ∷ 0 ∷ 0 ∷ []

asked-32-written : table_of asked-32 ≡ asked-32-table
unfolding computing
asked-32-written = refl

asked-32-0 : valid_on asked-32-table (context 0 1 0) ≡ answered false
unfolding computing
asked-32-0 = refl

asked-32-1 : valid_on asked-32-table (context 0 2 0) ≡ answered true
unfolding computing
asked-32-1 = refl

asked-32-6 : name_on asked-32-table 1 1 ≡ answered (record { start = 103; size = 10 })
unfolding computing
asked-32-6 = refl

asked-32-changes : changes_on asked-32-table ((record { source = context 0 0 0; target = context 0 1 0; class = 0; perm = 0 }) ∷ (record
    { source = context 0 0 0; target = context 0 2 0; class = 0; perm = 0 }) ∷ (record
    { source = context 0 0 0; target = context 0 2 0; class = 1; perm = 0 }) ∷ (record
    { source = context 0 2 0; target = context 0 2 0; class = 1; perm = 0 }) ∷ []) ≡ record { verdict = denied 2; consulted = 0 } ∷ record
    { verdict = granted; consulted = 0 } ∷ record { verdict = denied 3; consulted = 0 } ∷ record { verdict = granted; consulted = 0 } ∷ []
unfolding computing
asked-32-changes = refl

asked-32-statements : from_text asked-32 ((record { source = context 0 0 0; target = context 0 1 0; class = 0; perm = 0 }) ∷ (record
    { source = context 0 0 0; target = context 0 2 0; class = 0; perm = 0 }) ∷ (record
    { source = context 0 0 0; target = context 0 2 0; class = 1; perm = 0 }) ∷ (record
    { source = context 0 2 0; target = context 0 2 0; class = 1; perm = 0 }) ∷ []) ≡ record { verdict = denied 2; consulted = 0 } ∷ record
    { verdict = granted; consulted = 0 } ∷ record { verdict = denied 3; consulted = 0 } ∷ record { verdict = granted; consulted = 0 } ∷ []
unfolding computing
asked-32-statements = refl

-- W-205, readings 72 and 76: denials 1, 2, 5 in this order, 12 before, and no role allow
abbrev asked-33 : List ℕ
asked-33 = bytes "(user u)(role a)(role b)(type t)(userrole u a)(roletype a t)(class process(transition))"

abbrev asked-33-table : List ℕ
asked-33-table = 2 ∷ 0 ∷ 10 ∷ 0 ∷ 84 ∷ 0 ∷ 0 ∷ 0 ∷ 45 ∷ 0 ∷ 0 ∷ 0 ∷ 129 ∷ 0 ∷ 0 ∷ 0 ∷ 16 ∷ 0 ∷ 0 ∷ 0 ∷ 145 ∷ 0 ∷ 0 ∷ 0 ∷ 128 ∷ 0 ∷ 0 ∷ 0 ∷ 17 ∷ 1
    ∷ 0 ∷ 0 ∷ 32 ∷ 0 ∷ 0 ∷ 0 ∷ 49 ∷ 1 ∷ 0 ∷ 0 ∷ 0 ∷ 0 ∷ 0 ∷ 0 ∷ 49 ∷ 1 ∷ 0 ∷ 0 ∷ 0 ∷ 0 ∷ 0 ∷ 0 ∷ 49 ∷ 1 ∷ 0 ∷ 0 ∷ 0 ∷ 0 ∷ 0 ∷ 0 ∷ 49 ∷ 1 ∷ 0 ∷ 0 ∷ 0 ∷
    0 ∷ 0 ∷ 0 ∷ 49 ∷ 1 ∷ 0 ∷ 0 ∷ 0 ∷ 0 ∷ 0 ∷ 0 ∷ 49 ∷ 1 ∷ 0 ∷ 0 ∷ 0 ∷ 0 ∷ 0 ∷ 0 ∷ 0 ∷ 0 ∷ 0 ∷ 1 ∷ 117 ∷ 1 ∷ 0 ∷ 0 ∷ 1 ∷ 97 ∷ 1 ∷ 1 ∷ 0 ∷ 1 ∷ 98 ∷ 2 ∷
    0 ∷ 0 ∷ 1 ∷ 116 ∷ 6 ∷ 0 ∷ 0 ∷ 7 ∷ 112 ∷ 114 ∷ 111 ∷ 99 ∷ 101 ∷ 115 ∷ 115 ∷ 7 ∷ 0 ∷ 0 ∷ 10 ∷ 116 ∷ 114 ∷ 97 ∷ 110 ∷ 115 ∷ 105 ∷ 116 ∷ 105 ∷ 111 ∷
    110 ∷ 1 ∷ 0 ∷ 0 ∷ 0 ∷ 0 ∷ 0 ∷ 0 ∷ 0 ∷ 0 ∷ 0 ∷ 0 ∷ 0 ∷ 0 ∷ 0 ∷ 0 ∷ 0 ∷ 1 ∷ 0 ∷ 0 ∷ 0 ∷ 0 ∷ 0 ∷ 0 ∷ 0 ∷ 0 ∷ 0 ∷ 0 ∷ 0 ∷ 0 ∷ 0 ∷ 0 ∷ 0 ∷ 0 ∷ 0 ∷ 0 ∷
    0 ∷ 0 ∷ 0 ∷ 0 ∷ 0 ∷ 0 ∷ 0 ∷ 0 ∷ 0 ∷ 0 ∷ 0 ∷ 0 ∷ 0 ∷ 0 ∷ 0 ∷ 0 ∷ 0 ∷ 0 ∷ 0 ∷ 0 ∷ 0 ∷ 0 ∷ 0 ∷ 0 ∷ 0 ∷ 0 ∷ 0 ∷ 0 ∷ 0 ∷ 0 ∷ 0 ∷ 0 ∷ 0 ∷ 0 ∷ 0 ∷ 0 ∷ 0
    ∷ 0 ∷ 0 ∷ 0 ∷ 0 ∷ 0 ∷ 0 ∷ 0 ∷ 0 ∷ 0 ∷ 0 ∷ 0 ∷ 0 ∷ 0 ∷ 0 ∷ 0 ∷ 0 ∷ 0 ∷ 0 ∷ 0 ∷ 0 ∷ 0 ∷ 0 ∷ 0 ∷ 0 ∷ 0 ∷ 0 ∷ 0 ∷ 0 ∷ 0 ∷ 0 ∷ 0 ∷ 0 ∷ 0 ∷ 0 ∷ 0 ∷ 0 ∷
    0 ∷ 0 ∷ 0 ∷ 0 ∷ 0 ∷ 0 ∷ 0 ∷ 0 ∷ 0 ∷ 0 ∷ 0 ∷ 0 ∷ 0 ∷ 0 ∷ 0 ∷ 0 ∷ 0 ∷ 0 ∷ 0 ∷ 0 ∷ 0 ∷ 0 ∷ 0 ∷ 0 ∷ 0 ∷ 0 ∷ 0 ∷ 0 ∷ 0 ∷ 0 ∷ 0 ∷ 0 ∷ 0 ∷ 0 ∷ 0 ∷ 0 ∷ 0
    ∷ 0 ∷ 0 ∷ 0 ∷ 0 ∷ 0 ∷ 0 ∷ 0 ∷ 0 ∷ 0 ∷ 0 ∷ 0 ∷ 0 ∷ 0 ∷ 0 ∷ 0 ∷ 0 ∷ 0 ∷ 0 ∷ 0 ∷ 0 ∷ 0 ∷ 0 ∷ 0 ∷ 0 ∷ 0 ∷ 0 ∷ 0 ∷ 0 ∷ 0 ∷ 0 ∷ 0 ∷ []

asked-33-written : table_of asked-33 ≡ asked-33-table
unfolding computing
asked-33-written = refl

asked-33-0 : relabel_on asked-33-table (record { class = 0; old = context 0 0 0; new = context 0 0 0; process = context 0 0 0 }) ≡ record
    { verdict = granted; consulted = 0 }
unfolding computing
asked-33-0 = refl

asked-33-1 : relabel_on asked-33-table (record { class = 0; old = context 0 1 0; new = context 0 1 0; process = context 0 1 0 }) ≡ record
    { verdict = denied 1; consulted = 0 }
unfolding computing
asked-33-1 = refl

asked-33-2 : relabel_on asked-33-table (record { class = 0; old = context 0 0 0; new = context 0 1 0; process = context 0 1 0 }) ≡ record
    { verdict = denied 2; consulted = 0 }
unfolding computing
asked-33-2 = refl

asked-33-3 : relabel_on asked-33-table (record { class = 0; old = context 0 0 0; new = context 0 0 0; process = context 0 1 0 }) ≡ record
    { verdict = denied 5; consulted = 0 }
unfolding computing
asked-33-3 = refl

asked-33-4 : relabel_on asked-33-table (record { class = 0; old = context 0 1 0; new = context 0 1 0; process = context 0 0 1 }) ≡ record
    { verdict = refuses 12 0; consulted = 0 }
unfolding computing
asked-33-4 = refl

asked-33-5 : relabel_on asked-33-table (record { class = 1; old = context 0 0 0; new = context 0 0 0; process = context 0 0 0 }) ≡ record
    { verdict = refuses 12 0; consulted = 0 }
unfolding computing
asked-33-5 = refl

-- W-205, readings 73 and 74: the number among all validatetrans, consulted those of the class, each side
abbrev asked-34 : List ℕ
asked-34 = bytes "(user u)(user v)(role a)(role b)(role n)(type s)(type t)(userrole u a)(userrole v b)(roletype a s)(roletype b t)(class f" ++
    bytes "ile(read))(class d(p))(validatetrans d(eq u3 v))(validatetrans file(eq u1 u))(constrain(file(read))(neq u1 u))(validatet" ++ bytes
    "rans file(neq t3 s))"

abbrev asked-34-table : List ℕ
asked-34-table = 2 ∷ 0 ∷ 10 ∷ 0 ∷ 84 ∷ 0 ∷ 0 ∷ 0 ∷ 61 ∷ 0 ∷ 0 ∷ 0 ∷ 145 ∷ 0 ∷ 0 ∷ 0 ∷ 32 ∷ 0 ∷ 0 ∷ 0 ∷ 177 ∷ 0 ∷ 0 ∷ 0 ∷ 192 ∷ 0 ∷ 0 ∷ 0 ∷ 113 ∷ 1
    ∷ 0 ∷ 0 ∷ 48 ∷ 0 ∷ 0 ∷ 0 ∷ 161 ∷ 1 ∷ 0 ∷ 0 ∷ 0 ∷ 0 ∷ 0 ∷ 0 ∷ 161 ∷ 1 ∷ 0 ∷ 0 ∷ 10 ∷ 0 ∷ 0 ∷ 0 ∷ 171 ∷ 1 ∷ 0 ∷ 0 ∷ 6 ∷ 0 ∷ 0 ∷ 0 ∷ 177 ∷ 1 ∷ 0 ∷ 0
    ∷ 0 ∷ 0 ∷ 0 ∷ 0 ∷ 177 ∷ 1 ∷ 0 ∷ 0 ∷ 12 ∷ 0 ∷ 0 ∷ 0 ∷ 189 ∷ 1 ∷ 0 ∷ 0 ∷ 18 ∷ 0 ∷ 0 ∷ 0 ∷ 0 ∷ 0 ∷ 0 ∷ 1 ∷ 117 ∷ 0 ∷ 1 ∷ 0 ∷ 1 ∷ 118 ∷ 1 ∷ 0 ∷ 0 ∷ 1
    ∷ 97 ∷ 1 ∷ 1 ∷ 0 ∷ 1 ∷ 98 ∷ 1 ∷ 2 ∷ 0 ∷ 1 ∷ 110 ∷ 2 ∷ 0 ∷ 0 ∷ 1 ∷ 115 ∷ 2 ∷ 1 ∷ 0 ∷ 1 ∷ 116 ∷ 6 ∷ 0 ∷ 0 ∷ 4 ∷ 102 ∷ 105 ∷ 108 ∷ 101 ∷ 7 ∷ 0 ∷ 0 ∷
    4 ∷ 114 ∷ 101 ∷ 97 ∷ 100 ∷ 6 ∷ 1 ∷ 0 ∷ 1 ∷ 100 ∷ 7 ∷ 32 ∷ 0 ∷ 1 ∷ 112 ∷ 1 ∷ 0 ∷ 0 ∷ 0 ∷ 0 ∷ 0 ∷ 0 ∷ 0 ∷ 0 ∷ 0 ∷ 0 ∷ 0 ∷ 0 ∷ 0 ∷ 0 ∷ 0 ∷ 2 ∷ 0 ∷ 0
    ∷ 0 ∷ 0 ∷ 0 ∷ 0 ∷ 0 ∷ 0 ∷ 0 ∷ 0 ∷ 0 ∷ 0 ∷ 0 ∷ 0 ∷ 0 ∷ 1 ∷ 0 ∷ 0 ∷ 0 ∷ 0 ∷ 0 ∷ 0 ∷ 0 ∷ 0 ∷ 0 ∷ 0 ∷ 0 ∷ 0 ∷ 0 ∷ 0 ∷ 0 ∷ 0 ∷ 0 ∷ 0 ∷ 0 ∷ 0 ∷ 0 ∷ 0 ∷
    0 ∷ 0 ∷ 0 ∷ 0 ∷ 0 ∷ 0 ∷ 0 ∷ 0 ∷ 0 ∷ 0 ∷ 0 ∷ 0 ∷ 0 ∷ 0 ∷ 0 ∷ 0 ∷ 0 ∷ 0 ∷ 0 ∷ 0 ∷ 0 ∷ 0 ∷ 0 ∷ 0 ∷ 0 ∷ 0 ∷ 0 ∷ 0 ∷ 0 ∷ 0 ∷ 0 ∷ 0 ∷ 0 ∷ 0 ∷ 0 ∷ 0 ∷ 0
    ∷ 0 ∷ 0 ∷ 0 ∷ 0 ∷ 2 ∷ 0 ∷ 0 ∷ 0 ∷ 0 ∷ 0 ∷ 0 ∷ 0 ∷ 0 ∷ 0 ∷ 0 ∷ 0 ∷ 0 ∷ 0 ∷ 0 ∷ 0 ∷ 0 ∷ 0 ∷ 0 ∷ 0 ∷ 0 ∷ 0 ∷ 0 ∷ 0 ∷ 0 ∷ 0 ∷ 0 ∷ 0 ∷ 0 ∷ 0 ∷ 0 ∷ 0 ∷
    0 ∷ 0 ∷ 0 ∷ 0 ∷ 0 ∷ 0 ∷ 0 ∷ 0 ∷ 0 ∷ 0 ∷ 0 ∷ 0 ∷ 0 ∷ 0 ∷ 0 ∷ 0 ∷ 0 ∷ 0 ∷ 0 ∷ 0 ∷ 0 ∷ 0 ∷ 0 ∷ 0 ∷ 0 ∷ 0 ∷ 0 ∷ 0 ∷ 0 ∷ 0 ∷ 0 ∷ 0 ∷ 0 ∷ 0 ∷ 0 ∷ 0 ∷ 0
    ∷ 0 ∷ 0 ∷ 0 ∷ 0 ∷ 0 ∷ 0 ∷ 0 ∷ 0 ∷ 0 ∷ 0 ∷ 0 ∷ 0 ∷ 0 ∷ 0 ∷ 0 ∷ 0 ∷ 0 ∷ 0 ∷ 0 ∷ 0 ∷ 0 ∷ 0 ∷ 0 ∷ 0 ∷ 0 ∷ 0 ∷ 0 ∷ 0 ∷ 0 ∷ 0 ∷ 0 ∷ 0 ∷ 0 ∷ 0 ∷ 0 ∷ 0 ∷
    0 ∷ 0 ∷ 0 ∷ 0 ∷ 0 ∷ 0 ∷ 0 ∷ 0 ∷ 0 ∷ 0 ∷ 0 ∷ 0 ∷ 0 ∷ 0 ∷ 0 ∷ 0 ∷ 0 ∷ 0 ∷ 0 ∷ 0 ∷ 0 ∷ 0 ∷ 0 ∷ 0 ∷ 0 ∷ 0 ∷ 0 ∷ 0 ∷ 0 ∷ 0 ∷ 0 ∷ 0 ∷ 0 ∷ 0 ∷ 0 ∷ 0 ∷ 0
    ∷ 0 ∷ 0 ∷ 0 ∷ 0 ∷ 0 ∷ 0 ∷ 0 ∷ 0 ∷ 0 ∷ 0 ∷ 0 ∷ 0 ∷ 0 ∷ 0 ∷ 0 ∷ 0 ∷ 0 ∷ 0 ∷ 0 ∷ 0 ∷ 0 ∷ 0 ∷ 0 ∷ 0 ∷ 0 ∷ 0 ∷ 0 ∷ 0 ∷ 0 ∷ 0 ∷ 0 ∷ 0 ∷ 0 ∷ 0 ∷ 0 ∷ 0 ∷
    1 ∷ 0 ∷ 0 ∷ 0 ∷ 0 ∷ 0 ∷ 1 ∷ 0 ∷ 4 ∷ 0 ∷ 1 ∷ 0 ∷ 0 ∷ 0 ∷ 1 ∷ 0 ∷ 1 ∷ 0 ∷ 0 ∷ 0 ∷ 1 ∷ 0 ∷ 0 ∷ 0 ∷ 1 ∷ 0 ∷ 4 ∷ 6 ∷ 0 ∷ 0 ∷ 1 ∷ 0 ∷ 4 ∷ 0 ∷ 0 ∷ 0 ∷ 0
    ∷ 0 ∷ 4 ∷ 8 ∷ 1 ∷ 0 ∷ 0 ∷ 0 ∷ []

asked-34-written : table_of asked-34 ≡ asked-34-table
unfolding computing
asked-34-written = refl

asked-34-0 : relabel_on asked-34-table (record { class = 0; old = context 0 0 0; new = context 1 1 1; process = context 1 1 1 }) ≡ record
    { verdict = granted; consulted = 2 }
unfolding computing
asked-34-0 = refl

asked-34-1 : relabel_on asked-34-table (record { class = 0; old = context 1 1 1; new = context 0 0 0; process = context 1 1 1 }) ≡ record
    { verdict = fails 6 1; consulted = 1 }
unfolding computing
asked-34-1 = refl

asked-34-2 : relabel_on asked-34-table (record { class = 0; old = context 0 0 0; new = context 1 1 1; process = context 0 0 0 }) ≡ record
    { verdict = fails 6 2; consulted = 2 }
unfolding computing
asked-34-2 = refl

asked-34-3 : relabel_on asked-34-table (record { class = 1; old = context 0 0 0; new = context 1 1 1; process = context 0 0 0 }) ≡ record
    { verdict = fails 6 0; consulted = 1 }
unfolding computing
asked-34-3 = refl

asked-34-change : change_on asked-34-table (record { source = context 0 0 0; target = context 0 0 0; class = 0; perm = 0 }) ≡ record
    { verdict = fails 4 0; consulted = 1 }
unfolding computing
asked-34-change = refl

asked-34-statements : from_text asked-34 ((record { source = context 0 0 0; target = context 0 0 0; class = 0; perm = 0 }) ∷ []) ≡ record
    { verdict = fails 4 0; consulted = 1 } ∷ []
unfolding computing
asked-34-statements = refl

-- W-205, reading 74: object_r is valid on each side
abbrev asked-35 : List ℕ
asked-35 = bytes "(user u)(role object_r)(role a)(type t)(class file(read))(validatetrans file(eq r3 object_r))"

abbrev asked-35-table : List ℕ
asked-35-table = 2 ∷ 0 ∷ 10 ∷ 0 ∷ 84 ∷ 0 ∷ 0 ∷ 0 ∷ 43 ∷ 0 ∷ 0 ∷ 0 ∷ 127 ∷ 0 ∷ 0 ∷ 0 ∷ 16 ∷ 0 ∷ 0 ∷ 0 ∷ 143 ∷ 0 ∷ 0 ∷ 0 ∷ 128 ∷ 0 ∷ 0 ∷ 0 ∷ 15 ∷ 1
    ∷ 0 ∷ 0 ∷ 32 ∷ 0 ∷ 0 ∷ 0 ∷ 47 ∷ 1 ∷ 0 ∷ 0 ∷ 0 ∷ 0 ∷ 0 ∷ 0 ∷ 47 ∷ 1 ∷ 0 ∷ 0 ∷ 0 ∷ 0 ∷ 0 ∷ 0 ∷ 47 ∷ 1 ∷ 0 ∷ 0 ∷ 0 ∷ 0 ∷ 0 ∷ 0 ∷ 47 ∷ 1 ∷ 0 ∷ 0 ∷ 0 ∷
    0 ∷ 0 ∷ 0 ∷ 47 ∷ 1 ∷ 0 ∷ 0 ∷ 4 ∷ 0 ∷ 0 ∷ 0 ∷ 51 ∷ 1 ∷ 0 ∷ 0 ∷ 6 ∷ 0 ∷ 0 ∷ 0 ∷ 0 ∷ 0 ∷ 0 ∷ 1 ∷ 117 ∷ 1 ∷ 0 ∷ 0 ∷ 8 ∷ 111 ∷ 98 ∷ 106 ∷ 101 ∷ 99 ∷
    116 ∷ 95 ∷ 114 ∷ 1 ∷ 1 ∷ 0 ∷ 1 ∷ 97 ∷ 2 ∷ 0 ∷ 0 ∷ 1 ∷ 116 ∷ 6 ∷ 0 ∷ 0 ∷ 4 ∷ 102 ∷ 105 ∷ 108 ∷ 101 ∷ 7 ∷ 0 ∷ 0 ∷ 4 ∷ 114 ∷ 101 ∷ 97 ∷ 100 ∷ 0 ∷ 0 ∷
    0 ∷ 0 ∷ 0 ∷ 0 ∷ 0 ∷ 0 ∷ 0 ∷ 0 ∷ 0 ∷ 0 ∷ 0 ∷ 0 ∷ 0 ∷ 0 ∷ 0 ∷ 0 ∷ 0 ∷ 0 ∷ 0 ∷ 0 ∷ 0 ∷ 0 ∷ 0 ∷ 0 ∷ 0 ∷ 0 ∷ 0 ∷ 0 ∷ 0 ∷ 0 ∷ 0 ∷ 0 ∷ 0 ∷ 0 ∷ 0 ∷ 0 ∷ 0
    ∷ 0 ∷ 0 ∷ 0 ∷ 0 ∷ 0 ∷ 0 ∷ 0 ∷ 0 ∷ 0 ∷ 0 ∷ 0 ∷ 0 ∷ 0 ∷ 0 ∷ 0 ∷ 0 ∷ 0 ∷ 0 ∷ 0 ∷ 0 ∷ 0 ∷ 0 ∷ 0 ∷ 0 ∷ 0 ∷ 0 ∷ 0 ∷ 0 ∷ 0 ∷ 0 ∷ 0 ∷ 0 ∷ 0 ∷ 0 ∷ 0 ∷ 0 ∷
    0 ∷ 0 ∷ 0 ∷ 0 ∷ 0 ∷ 0 ∷ 0 ∷ 0 ∷ 0 ∷ 0 ∷ 0 ∷ 0 ∷ 0 ∷ 0 ∷ 0 ∷ 0 ∷ 0 ∷ 0 ∷ 0 ∷ 0 ∷ 0 ∷ 0 ∷ 0 ∷ 0 ∷ 0 ∷ 0 ∷ 0 ∷ 0 ∷ 0 ∷ 0 ∷ 0 ∷ 0 ∷ 0 ∷ 0 ∷ 0 ∷ 0 ∷ 0
    ∷ 0 ∷ 0 ∷ 0 ∷ 0 ∷ 0 ∷ 0 ∷ 0 ∷ 0 ∷ 0 ∷ 0 ∷ 0 ∷ 0 ∷ 0 ∷ 0 ∷ 0 ∷ 0 ∷ 0 ∷ 0 ∷ 0 ∷ 0 ∷ 0 ∷ 0 ∷ 0 ∷ 0 ∷ 0 ∷ 0 ∷ 0 ∷ 0 ∷ 0 ∷ 0 ∷ 0 ∷ 0 ∷ 0 ∷ 0 ∷ 0 ∷ 0 ∷
    0 ∷ 0 ∷ 0 ∷ 0 ∷ 0 ∷ 0 ∷ 0 ∷ 0 ∷ 0 ∷ 0 ∷ 0 ∷ 0 ∷ 0 ∷ 0 ∷ 0 ∷ 0 ∷ 0 ∷ 0 ∷ 0 ∷ 0 ∷ 0 ∷ 0 ∷ 0 ∷ 0 ∷ 0 ∷ 0 ∷ 0 ∷ 0 ∷ 0 ∷ 0 ∷ 1 ∷ 0 ∷ 4 ∷ 7 ∷ 0 ∷ 0 ∷ 0
    ∷ 0 ∷ []

asked-35-written : table_of asked-35 ≡ asked-35-table
unfolding computing
asked-35-written = refl

asked-35-0 : relabel_on asked-35-table (record { class = 0; old = context 0 0 0; new = context 0 0 0; process = context 0 0 0 }) ≡ record
    { verdict = granted; consulted = 1 }
unfolding computing
asked-35-0 = refl

asked-35-1 : relabel_on asked-35-table (record { class = 0; old = context 0 0 0; new = context 0 0 0; process = context 0 1 0 }) ≡ record
    { verdict = denied 5; consulted = 0 }
unfolding computing
asked-35-1 = refl

-- W-205, reading 71: entries of bodies 9 and 10
abbrev asked-36 : List ℕ
asked-36 = bytes "(class c(p))(user u)(validatetrans c(eq u3 u))(validatetrans c(not(eq u1 u2)))"

abbrev asked-36-table : List ℕ
asked-36-table = 2 ∷ 0 ∷ 10 ∷ 0 ∷ 84 ∷ 0 ∷ 0 ∷ 0 ∷ 15 ∷ 0 ∷ 0 ∷ 0 ∷ 99 ∷ 0 ∷ 0 ∷ 0 ∷ 16 ∷ 0 ∷ 0 ∷ 0 ∷ 115 ∷ 0 ∷ 0 ∷ 0 ∷ 0 ∷ 0 ∷ 0 ∷ 0 ∷ 115 ∷ 0 ∷
    0 ∷ 0 ∷ 0 ∷ 0 ∷ 0 ∷ 0 ∷ 115 ∷ 0 ∷ 0 ∷ 0 ∷ 0 ∷ 0 ∷ 0 ∷ 0 ∷ 115 ∷ 0 ∷ 0 ∷ 0 ∷ 0 ∷ 0 ∷ 0 ∷ 0 ∷ 115 ∷ 0 ∷ 0 ∷ 0 ∷ 0 ∷ 0 ∷ 0 ∷ 0 ∷ 115 ∷ 0 ∷ 0 ∷ 0 ∷ 0
    ∷ 0 ∷ 0 ∷ 0 ∷ 115 ∷ 0 ∷ 0 ∷ 0 ∷ 8 ∷ 0 ∷ 0 ∷ 0 ∷ 123 ∷ 0 ∷ 0 ∷ 0 ∷ 18 ∷ 0 ∷ 0 ∷ 0 ∷ 6 ∷ 0 ∷ 0 ∷ 1 ∷ 99 ∷ 7 ∷ 0 ∷ 0 ∷ 1 ∷ 112 ∷ 0 ∷ 0 ∷ 0 ∷ 1 ∷ 117
    ∷ 0 ∷ 0 ∷ 0 ∷ 0 ∷ 0 ∷ 0 ∷ 0 ∷ 0 ∷ 0 ∷ 0 ∷ 0 ∷ 0 ∷ 0 ∷ 0 ∷ 0 ∷ 0 ∷ 0 ∷ 0 ∷ 1 ∷ 0 ∷ 0 ∷ 0 ∷ 2 ∷ 0 ∷ 4 ∷ 6 ∷ 0 ∷ 0 ∷ 0 ∷ 0 ∷ 3 ∷ 0 ∷ 0 ∷ 0 ∷ 0 ∷ 0 ∷
    0 ∷ 0 ∷ 0 ∷ 0 ∷ 0 ∷ 0 ∷ []

asked-36-written : table_of asked-36 ≡ asked-36-table
unfolding computing
asked-36-written = refl

asked-36-0 : entry_on asked-36-table 9 1 ≡ answered (record { start = 119; size = 4 })
unfolding computing
asked-36-0 = refl

asked-36-1 : entry_on asked-36-table 9 2 ≡ refused 12 0
unfolding computing
asked-36-1 = refl

asked-36-2 : entry_on asked-36-table 10 0 ≡ answered (record { start = 123; size = 6 })
unfolding computing
asked-36-2 = refl

asked-36-3 : entry_on asked-36-table 10 2 ≡ answered (record { start = 135; size = 6 })
unfolding computing
asked-36-3 = refl

asked-36-4 : entry_on asked-36-table 10 3 ≡ refused 12 0
unfolding computing
asked-36-4 = refl

asked-36-5 : entry_on asked-36-table 11 0 ≡ refused 12 0
unfolding computing
asked-36-5 = refl

-- a random policy and random questions
abbrev asked-37 : List ℕ
asked-37 = bytes "(user d2)(userattribute a6)(role f9)(type a3)(typeattribute a6)(class process(dyntransition c1))(roleallow f9 f9)(constr" ++
    bytes "ain(process(dyntransition))(not(or(and(or(eq r2 f9)(neq t1 t2))(or(eq t1 t2)(neq u2 d2)))(neq t1 a6))))(userattributeset" ++ bytes
    " a6(d2(not d2)))(roletype f9 a3)(roletransition f9 a3 process f9)(userattribute b2)(typeattributeset a6(not a3))(userrol" ++ bytes
    "e d2 f9)(constrain(process(c1))(not(or(neq u2 d2)(eq t1 t2))))"

abbrev asked-37-table : List ℕ
asked-37-table = 2 ∷ 0 ∷ 10 ∷ 0 ∷ 84 ∷ 0 ∷ 0 ∷ 0 ∷ 70 ∷ 0 ∷ 0 ∷ 0 ∷ 154 ∷ 0 ∷ 0 ∷ 0 ∷ 16 ∷ 0 ∷ 0 ∷ 0 ∷ 170 ∷ 0 ∷ 0 ∷ 0 ∷ 64 ∷ 0 ∷ 0 ∷ 0 ∷ 234 ∷ 0
    ∷ 0 ∷ 0 ∷ 16 ∷ 0 ∷ 0 ∷ 0 ∷ 250 ∷ 0 ∷ 0 ∷ 0 ∷ 82 ∷ 0 ∷ 0 ∷ 0 ∷ 76 ∷ 1 ∷ 0 ∷ 0 ∷ 20 ∷ 0 ∷ 0 ∷ 0 ∷ 96 ∷ 1 ∷ 0 ∷ 0 ∷ 84 ∷ 0 ∷ 0 ∷ 0 ∷ 180 ∷ 1 ∷ 0 ∷ 0
    ∷ 96 ∷ 0 ∷ 0 ∷ 0 ∷ 20 ∷ 2 ∷ 0 ∷ 0 ∷ 0 ∷ 0 ∷ 0 ∷ 0 ∷ 20 ∷ 2 ∷ 0 ∷ 0 ∷ 0 ∷ 0 ∷ 0 ∷ 0 ∷ 0 ∷ 0 ∷ 0 ∷ 2 ∷ 100 ∷ 50 ∷ 3 ∷ 0 ∷ 0 ∷ 2 ∷ 97 ∷ 54 ∷ 1 ∷ 0 ∷
    0 ∷ 2 ∷ 102 ∷ 57 ∷ 2 ∷ 0 ∷ 0 ∷ 2 ∷ 97 ∷ 51 ∷ 5 ∷ 0 ∷ 0 ∷ 2 ∷ 97 ∷ 54 ∷ 6 ∷ 0 ∷ 0 ∷ 7 ∷ 112 ∷ 114 ∷ 111 ∷ 99 ∷ 101 ∷ 115 ∷ 115 ∷ 7 ∷ 0 ∷ 0 ∷ 13 ∷
    100 ∷ 121 ∷ 110 ∷ 116 ∷ 114 ∷ 97 ∷ 110 ∷ 115 ∷ 105 ∷ 116 ∷ 105 ∷ 111 ∷ 110 ∷ 7 ∷ 1 ∷ 0 ∷ 2 ∷ 99 ∷ 49 ∷ 3 ∷ 1 ∷ 0 ∷ 2 ∷ 98 ∷ 50 ∷ 1 ∷ 0 ∷ 0 ∷ 0 ∷ 0
    ∷ 0 ∷ 0 ∷ 0 ∷ 0 ∷ 0 ∷ 0 ∷ 0 ∷ 0 ∷ 0 ∷ 0 ∷ 0 ∷ 1 ∷ 0 ∷ 0 ∷ 0 ∷ 0 ∷ 0 ∷ 0 ∷ 0 ∷ 0 ∷ 0 ∷ 0 ∷ 0 ∷ 0 ∷ 0 ∷ 0 ∷ 0 ∷ 0 ∷ 0 ∷ 0 ∷ 0 ∷ 0 ∷ 0 ∷ 0 ∷ 0 ∷ 0 ∷
    0 ∷ 0 ∷ 0 ∷ 0 ∷ 0 ∷ 0 ∷ 0 ∷ 0 ∷ 0 ∷ 0 ∷ 0 ∷ 0 ∷ 0 ∷ 0 ∷ 0 ∷ 0 ∷ 0 ∷ 0 ∷ 0 ∷ 0 ∷ 0 ∷ 0 ∷ 0 ∷ 0 ∷ 0 ∷ 0 ∷ 0 ∷ 0 ∷ 0 ∷ 0 ∷ 0 ∷ 0 ∷ 0 ∷ 0 ∷ 0 ∷ 0 ∷ 0
    ∷ 0 ∷ 0 ∷ 1 ∷ 0 ∷ 0 ∷ 0 ∷ 0 ∷ 0 ∷ 0 ∷ 0 ∷ 0 ∷ 0 ∷ 0 ∷ 0 ∷ 0 ∷ 0 ∷ 0 ∷ 0 ∷ 1 ∷ 0 ∷ 0 ∷ 0 ∷ 0 ∷ 0 ∷ 0 ∷ 0 ∷ 0 ∷ 0 ∷ 0 ∷ 0 ∷ 0 ∷ 0 ∷ 0 ∷ 0 ∷ 1 ∷ 0 ∷
    0 ∷ 0 ∷ 0 ∷ 0 ∷ 0 ∷ 0 ∷ 0 ∷ 0 ∷ 0 ∷ 0 ∷ 0 ∷ 0 ∷ 0 ∷ 0 ∷ 0 ∷ 0 ∷ 0 ∷ 0 ∷ 0 ∷ 0 ∷ 0 ∷ 0 ∷ 0 ∷ 0 ∷ 0 ∷ 0 ∷ 0 ∷ 0 ∷ 0 ∷ 0 ∷ 0 ∷ 0 ∷ 0 ∷ 0 ∷ 0 ∷ 0 ∷ 0
    ∷ 0 ∷ 0 ∷ 0 ∷ 0 ∷ 0 ∷ 0 ∷ 0 ∷ 0 ∷ 0 ∷ 0 ∷ 0 ∷ 0 ∷ 0 ∷ 0 ∷ 0 ∷ 0 ∷ 0 ∷ 0 ∷ 0 ∷ 0 ∷ 0 ∷ 0 ∷ 0 ∷ 0 ∷ 0 ∷ 0 ∷ 0 ∷ 0 ∷ 0 ∷ 1 ∷ 0 ∷ 0 ∷ 0 ∷ 0 ∷ 0 ∷ 10 ∷
    0 ∷ 0 ∷ 0 ∷ 2 ∷ 0 ∷ 0 ∷ 0 ∷ 10 ∷ 0 ∷ 4 ∷ 0 ∷ 4 ∷ 3 ∷ 0 ∷ 0 ∷ 0 ∷ 0 ∷ 3 ∷ 4 ∷ 1 ∷ 0 ∷ 0 ∷ 0 ∷ 2 ∷ 0 ∷ 0 ∷ 0 ∷ 0 ∷ 0 ∷ 3 ∷ 4 ∷ 0 ∷ 0 ∷ 0 ∷ 0 ∷ 4 ∷ 1
    ∷ 1 ∷ 0 ∷ 0 ∷ 0 ∷ 2 ∷ 0 ∷ 0 ∷ 0 ∷ 0 ∷ 0 ∷ 1 ∷ 0 ∷ 0 ∷ 0 ∷ 0 ∷ 0 ∷ 5 ∷ 4 ∷ 1 ∷ 0 ∷ 0 ∷ 0 ∷ 2 ∷ 0 ∷ 0 ∷ 0 ∷ 0 ∷ 0 ∷ 0 ∷ 0 ∷ 0 ∷ 0 ∷ 0 ∷ 0 ∷ 4 ∷ 1 ∷
    1 ∷ 0 ∷ 0 ∷ 0 ∷ 3 ∷ 4 ∷ 0 ∷ 0 ∷ 0 ∷ 0 ∷ 2 ∷ 0 ∷ 0 ∷ 0 ∷ 0 ∷ 0 ∷ 0 ∷ 0 ∷ 0 ∷ 0 ∷ 0 ∷ 0 ∷ 1 ∷ 0 ∷ 0 ∷ 0 ∷ 0 ∷ 0 ∷ 0 ∷ 0 ∷ 0 ∷ 0 ∷ 0 ∷ 0 ∷ 0 ∷ 0 ∷ 0
    ∷ 0 ∷ 0 ∷ 0 ∷ 0 ∷ 0 ∷ 0 ∷ 0 ∷ 0 ∷ 0 ∷ 0 ∷ 0 ∷ 0 ∷ 0 ∷ 0 ∷ 0 ∷ 0 ∷ 0 ∷ 0 ∷ 0 ∷ 0 ∷ 0 ∷ 0 ∷ 0 ∷ 0 ∷ 0 ∷ 0 ∷ 0 ∷ 0 ∷ 0 ∷ 0 ∷ 0 ∷ 0 ∷ 0 ∷ 0 ∷ 0 ∷ 0 ∷
    0 ∷ 0 ∷ 0 ∷ 0 ∷ 0 ∷ 0 ∷ 0 ∷ 0 ∷ 0 ∷ 0 ∷ 0 ∷ 0 ∷ 0 ∷ 0 ∷ 0 ∷ 0 ∷ 0 ∷ 0 ∷ 0 ∷ 0 ∷ 0 ∷ 0 ∷ 0 ∷ 0 ∷ 0 ∷ 0 ∷ 0 ∷ 0 ∷ 0 ∷ 0 ∷ 0 ∷ 0 ∷ 0 ∷ 0 ∷ 0 ∷ 0 ∷ 0
    ∷ 0 ∷ 0 ∷ 0 ∷ 0 ∷ 0 ∷ 0 ∷ 0 ∷ 0 ∷ []

asked-37-written : table_of asked-37 ≡ asked-37-table
unfolding computing
asked-37-written = refl

asked-37-0 : new_role_on asked-37-table 0 0 0 ≡ answered 0
unfolding computing
asked-37-0 = refl

asked-37-2 : name_on asked-37-table 1 0 ≡ answered (record { start = 100; size = 2 })
unfolding computing
asked-37-2 = refl

asked-37-5 : name_on asked-37-table 3 0 ≡ answered (record { start = 94; size = 2 })
unfolding computing
asked-37-5 = refl

asked-37-changes : changes_on asked-37-table ((record { source = context 0 0 0; target = context 0 0 0; class = 0; perm = 0 }) ∷ (record
    { source = context 0 0 0; target = context 0 0 0; class = 0; perm = 1 }) ∷ (record
    { source = context 0 0 0; target = context 0 0 0; class = 0; perm = 1 }) ∷ []) ≡ record { verdict = fails 4 0; consulted = 1 } ∷ record
    { verdict = fails 4 1; consulted = 1 } ∷ record { verdict = fails 4 1; consulted = 1 } ∷ []
unfolding computing
asked-37-changes = refl

asked-37-statements : from_text asked-37 ((record { source = context 0 0 0; target = context 0 0 0; class = 0; perm = 0 }) ∷ (record
    { source = context 0 0 0; target = context 0 0 0; class = 0; perm = 1 }) ∷ (record
    { source = context 0 0 0; target = context 0 0 0; class = 0; perm = 1 }) ∷ []) ≡ record { verdict = fails 4 0; consulted = 1 } ∷ record
    { verdict = fails 4 1; consulted = 1 } ∷ record { verdict = fails 4 1; consulted = 1 } ∷ []
unfolding computing
asked-37-statements = refl

-- a random policy and random questions
abbrev asked-38 : List ℕ
asked-38 = bytes "(user a0)(userattribute c6)(role b6)(type e2)(class process(transition dyntransition f1))(roletype b6 e2)(userrole c6 b6" ++
    bytes ")(roletransition b6 e2 process b6)(class f9(f1 b3))(roletype b6 e2)(roletype b6 e2)(roletransition b6 e2 process b6)(rol" ++ bytes
    "etype b6 e2)(typeattribute c9)(constrain(f9(f1 b3))(and(and(or(neq r1 r2)(neq u1 u2))(and(dom r1 r2)(neq u1 c6)))(not(eq" ++ bytes
    " u1 u2))))(user b9)"

abbrev asked-38-table : List ℕ
asked-38-table = 2 ∷ 0 ∷ 10 ∷ 0 ∷ 84 ∷ 0 ∷ 0 ∷ 0 ∷ 102 ∷ 0 ∷ 0 ∷ 0 ∷ 186 ∷ 0 ∷ 0 ∷ 0 ∷ 32 ∷ 0 ∷ 0 ∷ 0 ∷ 218 ∷ 0 ∷ 0 ∷ 0 ∷ 64 ∷ 0 ∷ 0 ∷ 0 ∷ 26 ∷ 1
    ∷ 0 ∷ 0 ∷ 16 ∷ 0 ∷ 0 ∷ 0 ∷ 42 ∷ 1 ∷ 0 ∷ 0 ∷ 164 ∷ 0 ∷ 0 ∷ 0 ∷ 206 ∷ 1 ∷ 0 ∷ 0 ∷ 10 ∷ 0 ∷ 0 ∷ 0 ∷ 216 ∷ 1 ∷ 0 ∷ 0 ∷ 60 ∷ 0 ∷ 0 ∷ 0 ∷ 20 ∷ 2 ∷ 0 ∷ 0
    ∷ 80 ∷ 0 ∷ 0 ∷ 0 ∷ 100 ∷ 2 ∷ 0 ∷ 0 ∷ 0 ∷ 0 ∷ 0 ∷ 0 ∷ 100 ∷ 2 ∷ 0 ∷ 0 ∷ 0 ∷ 0 ∷ 0 ∷ 0 ∷ 0 ∷ 0 ∷ 0 ∷ 2 ∷ 97 ∷ 48 ∷ 3 ∷ 0 ∷ 0 ∷ 2 ∷ 99 ∷ 54 ∷ 1 ∷ 0 ∷
    0 ∷ 2 ∷ 98 ∷ 54 ∷ 2 ∷ 0 ∷ 0 ∷ 2 ∷ 101 ∷ 50 ∷ 6 ∷ 0 ∷ 0 ∷ 7 ∷ 112 ∷ 114 ∷ 111 ∷ 99 ∷ 101 ∷ 115 ∷ 115 ∷ 7 ∷ 0 ∷ 0 ∷ 10 ∷ 116 ∷ 114 ∷ 97 ∷ 110 ∷ 115
    ∷ 105 ∷ 116 ∷ 105 ∷ 111 ∷ 110 ∷ 7 ∷ 1 ∷ 0 ∷ 13 ∷ 100 ∷ 121 ∷ 110 ∷ 116 ∷ 114 ∷ 97 ∷ 110 ∷ 115 ∷ 105 ∷ 116 ∷ 105 ∷ 111 ∷ 110 ∷ 7 ∷ 2 ∷ 0 ∷ 2 ∷ 102
    ∷ 49 ∷ 6 ∷ 1 ∷ 0 ∷ 2 ∷ 102 ∷ 57 ∷ 7 ∷ 32 ∷ 0 ∷ 2 ∷ 102 ∷ 49 ∷ 7 ∷ 33 ∷ 0 ∷ 2 ∷ 98 ∷ 51 ∷ 5 ∷ 0 ∷ 0 ∷ 2 ∷ 99 ∷ 57 ∷ 0 ∷ 1 ∷ 0 ∷ 2 ∷ 98 ∷ 57 ∷ 0 ∷ 0
    ∷ 0 ∷ 0 ∷ 0 ∷ 0 ∷ 0 ∷ 0 ∷ 0 ∷ 0 ∷ 0 ∷ 0 ∷ 0 ∷ 0 ∷ 0 ∷ 0 ∷ 0 ∷ 0 ∷ 0 ∷ 0 ∷ 0 ∷ 0 ∷ 0 ∷ 0 ∷ 0 ∷ 0 ∷ 0 ∷ 0 ∷ 0 ∷ 0 ∷ 0 ∷ 0 ∷ 1 ∷ 0 ∷ 0 ∷ 0 ∷ 0 ∷ 0 ∷
    0 ∷ 0 ∷ 0 ∷ 0 ∷ 0 ∷ 0 ∷ 0 ∷ 0 ∷ 0 ∷ 0 ∷ 0 ∷ 0 ∷ 0 ∷ 0 ∷ 0 ∷ 0 ∷ 0 ∷ 0 ∷ 0 ∷ 0 ∷ 0 ∷ 0 ∷ 0 ∷ 0 ∷ 0 ∷ 0 ∷ 0 ∷ 0 ∷ 0 ∷ 0 ∷ 0 ∷ 0 ∷ 0 ∷ 0 ∷ 0 ∷ 0 ∷ 0
    ∷ 0 ∷ 0 ∷ 0 ∷ 0 ∷ 0 ∷ 0 ∷ 0 ∷ 0 ∷ 0 ∷ 0 ∷ 0 ∷ 0 ∷ 0 ∷ 0 ∷ 0 ∷ 0 ∷ 0 ∷ 0 ∷ 0 ∷ 0 ∷ 0 ∷ 0 ∷ 0 ∷ 0 ∷ 0 ∷ 0 ∷ 0 ∷ 0 ∷ 0 ∷ 0 ∷ 0 ∷ 0 ∷ 0 ∷ 0 ∷ 0 ∷ 0 ∷
    0 ∷ 1 ∷ 0 ∷ 0 ∷ 0 ∷ 0 ∷ 0 ∷ 0 ∷ 0 ∷ 0 ∷ 0 ∷ 0 ∷ 0 ∷ 0 ∷ 0 ∷ 0 ∷ 0 ∷ 1 ∷ 0 ∷ 0 ∷ 0 ∷ 0 ∷ 0 ∷ 0 ∷ 0 ∷ 0 ∷ 0 ∷ 0 ∷ 0 ∷ 0 ∷ 0 ∷ 0 ∷ 0 ∷ 0 ∷ 0 ∷ 0 ∷ 0
    ∷ 0 ∷ 0 ∷ 0 ∷ 0 ∷ 0 ∷ 0 ∷ 0 ∷ 0 ∷ 0 ∷ 0 ∷ 0 ∷ 0 ∷ 0 ∷ 0 ∷ 0 ∷ 0 ∷ 0 ∷ 0 ∷ 0 ∷ 0 ∷ 0 ∷ 0 ∷ 0 ∷ 0 ∷ 0 ∷ 0 ∷ 0 ∷ 0 ∷ 0 ∷ 0 ∷ 0 ∷ 0 ∷ 0 ∷ 0 ∷ 0 ∷ 0 ∷
    0 ∷ 0 ∷ 0 ∷ 0 ∷ 0 ∷ 0 ∷ 0 ∷ 0 ∷ 0 ∷ 0 ∷ 1 ∷ 0 ∷ 0 ∷ 0 ∷ 0 ∷ 0 ∷ 0 ∷ 0 ∷ 0 ∷ 0 ∷ 0 ∷ 0 ∷ 0 ∷ 0 ∷ 0 ∷ 0 ∷ 1 ∷ 0 ∷ 0 ∷ 0 ∷ 0 ∷ 0 ∷ 0 ∷ 0 ∷ 0 ∷ 0 ∷ 0
    ∷ 0 ∷ 0 ∷ 0 ∷ 0 ∷ 0 ∷ 0 ∷ 0 ∷ 0 ∷ 0 ∷ 0 ∷ 0 ∷ 0 ∷ 0 ∷ 0 ∷ 0 ∷ 0 ∷ 0 ∷ 0 ∷ 0 ∷ 0 ∷ 0 ∷ 0 ∷ 0 ∷ 0 ∷ 0 ∷ 0 ∷ 0 ∷ 0 ∷ 0 ∷ 0 ∷ 0 ∷ 0 ∷ 0 ∷ 0 ∷ 0 ∷ 0 ∷
    0 ∷ 0 ∷ 0 ∷ 0 ∷ 0 ∷ 0 ∷ 0 ∷ 0 ∷ 0 ∷ 0 ∷ 0 ∷ 0 ∷ 0 ∷ 0 ∷ 0 ∷ 0 ∷ 0 ∷ 0 ∷ 0 ∷ 1 ∷ 0 ∷ 3 ∷ 0 ∷ 0 ∷ 0 ∷ 0 ∷ 0 ∷ 10 ∷ 0 ∷ 3 ∷ 2 ∷ 1 ∷ 0 ∷ 0 ∷ 0 ∷ 3 ∷ 0
    ∷ 1 ∷ 0 ∷ 0 ∷ 0 ∷ 2 ∷ 0 ∷ 0 ∷ 0 ∷ 0 ∷ 0 ∷ 3 ∷ 2 ∷ 2 ∷ 0 ∷ 0 ∷ 0 ∷ 5 ∷ 0 ∷ 1 ∷ 0 ∷ 0 ∷ 0 ∷ 1 ∷ 0 ∷ 0 ∷ 0 ∷ 0 ∷ 0 ∷ 1 ∷ 0 ∷ 0 ∷ 0 ∷ 0 ∷ 0 ∷ 3 ∷ 0 ∷
    0 ∷ 0 ∷ 0 ∷ 0 ∷ 0 ∷ 0 ∷ 0 ∷ 0 ∷ 0 ∷ 0 ∷ 1 ∷ 0 ∷ 0 ∷ 0 ∷ 0 ∷ 0 ∷ 0 ∷ 0 ∷ 0 ∷ 0 ∷ 0 ∷ 0 ∷ 0 ∷ 0 ∷ 0 ∷ 0 ∷ 0 ∷ 0 ∷ 0 ∷ 0 ∷ 0 ∷ 0 ∷ 0 ∷ 0 ∷ 0 ∷ 0 ∷ 0
    ∷ 0 ∷ 0 ∷ 0 ∷ 0 ∷ 0 ∷ 0 ∷ 0 ∷ 0 ∷ 0 ∷ 0 ∷ 0 ∷ 0 ∷ 0 ∷ 0 ∷ 0 ∷ 0 ∷ 0 ∷ 0 ∷ 0 ∷ 0 ∷ 0 ∷ 0 ∷ 0 ∷ 0 ∷ 0 ∷ 0 ∷ 0 ∷ 0 ∷ 0 ∷ 0 ∷ 0 ∷ 0 ∷ 0 ∷ 0 ∷ 0 ∷ 0 ∷
    0 ∷ 0 ∷ 0 ∷ 0 ∷ 0 ∷ 0 ∷ 0 ∷ 0 ∷ 0 ∷ 0 ∷ 0 ∷ 0 ∷ 0 ∷ 0 ∷ 0 ∷ 0 ∷ 0 ∷ 0 ∷ 0 ∷ 0 ∷ 0 ∷ 0 ∷ 0 ∷ []

asked-38-written : table_of asked-38 ≡ asked-38-table
unfolding computing
asked-38-written = refl

asked-38-1 : name_on asked-38-table 2 18446744073709551614 ≡ refused 12 0
unfolding computing
asked-38-1 = refl

asked-38-2 : name_on asked-38-table 2 0 ≡ answered (record { start = 106; size = 2 })
unfolding computing
asked-38-2 = refl

asked-38-3 : new_role_on asked-38-table 0 0 1 ≡ answered 0
unfolding computing
asked-38-3 = refl

asked-38-4 : valid_on asked-38-table (context 1 0 0) ≡ answered false
unfolding computing
asked-38-4 = refl

asked-38-changes : changes_on asked-38-table ((record { source = context 0 0 0; target = context 0 0 0; class = 0; perm = 1 }) ∷ (record
    { source = context 1 0 0; target = context 0 0 0; class = 1; perm = 1 }) ∷ []) ≡ record { verdict = denied 1; consulted = 0 } ∷ record
    { verdict = denied 1; consulted = 0 } ∷ []
unfolding computing
asked-38-changes = refl

asked-38-statements : from_text asked-38 ((record { source = context 0 0 0; target = context 0 0 0; class = 0; perm = 1 }) ∷ (record
    { source = context 1 0 0; target = context 0 0 0; class = 1; perm = 1 }) ∷ []) ≡ record { verdict = denied 1; consulted = 0 } ∷ record
    { verdict = denied 1; consulted = 0 } ∷ []
unfolding computing
asked-38-statements = refl

-- a random policy and random questions
abbrev asked-39 : List ℕ
asked-39 = bytes "(user b9)(userattribute d7)(role a0)(roleattribute b3)(type u4)(typeattribute d6)(class process(transition dyntransition" ++
    bytes " f7 b3))(constrain(process(f7 dyntransition transition dyntransition))(or(eq u1 d7)(and(eq r2 a0)(and(neq t1 t2)(or(neq " ++ bytes
    "u1 u2)(eq r1 b3))))))(typeattributeset d6(all))(type f1)(roletype a0 u4)(roletransition a0 f1 process a0)(typeattributes" ++ bytes
    "et d6(all))(roleattributeset b3(a0 a0))(roletype a0 u4)(roleattributeset b3(xor a0 a0))(typeattributeset d6(all))(roleat" ++ bytes
    "tributeset b3(not a0))(userrole d7 a0)(roletype a0 f1)"

abbrev asked-39-table : List ℕ
asked-39-table = 2 ∷ 0 ∷ 10 ∷ 0 ∷ 84 ∷ 0 ∷ 0 ∷ 0 ∷ 96 ∷ 0 ∷ 0 ∷ 0 ∷ 180 ∷ 0 ∷ 0 ∷ 0 ∷ 16 ∷ 0 ∷ 0 ∷ 0 ∷ 196 ∷ 0 ∷ 0 ∷ 0 ∷ 64 ∷ 0 ∷ 0 ∷ 0 ∷ 4 ∷ 1 ∷
    0 ∷ 0 ∷ 16 ∷ 0 ∷ 0 ∷ 0 ∷ 20 ∷ 1 ∷ 0 ∷ 0 ∷ 82 ∷ 0 ∷ 0 ∷ 0 ∷ 102 ∷ 1 ∷ 0 ∷ 0 ∷ 10 ∷ 0 ∷ 0 ∷ 0 ∷ 112 ∷ 1 ∷ 0 ∷ 0 ∷ 54 ∷ 0 ∷ 0 ∷ 0 ∷ 166 ∷ 1 ∷ 0 ∷ 0 ∷
    96 ∷ 0 ∷ 0 ∷ 0 ∷ 6 ∷ 2 ∷ 0 ∷ 0 ∷ 0 ∷ 0 ∷ 0 ∷ 0 ∷ 6 ∷ 2 ∷ 0 ∷ 0 ∷ 0 ∷ 0 ∷ 0 ∷ 0 ∷ 0 ∷ 0 ∷ 0 ∷ 2 ∷ 98 ∷ 57 ∷ 3 ∷ 0 ∷ 0 ∷ 2 ∷ 100 ∷ 55 ∷ 1 ∷ 0 ∷ 0 ∷
    2 ∷ 97 ∷ 48 ∷ 4 ∷ 0 ∷ 0 ∷ 2 ∷ 98 ∷ 51 ∷ 2 ∷ 0 ∷ 0 ∷ 2 ∷ 117 ∷ 52 ∷ 5 ∷ 0 ∷ 0 ∷ 2 ∷ 100 ∷ 54 ∷ 6 ∷ 0 ∷ 0 ∷ 7 ∷ 112 ∷ 114 ∷ 111 ∷ 99 ∷ 101 ∷ 115 ∷
    115 ∷ 7 ∷ 0 ∷ 0 ∷ 10 ∷ 116 ∷ 114 ∷ 97 ∷ 110 ∷ 115 ∷ 105 ∷ 116 ∷ 105 ∷ 111 ∷ 110 ∷ 7 ∷ 1 ∷ 0 ∷ 13 ∷ 100 ∷ 121 ∷ 110 ∷ 116 ∷ 114 ∷ 97 ∷ 110 ∷ 115 ∷
    105 ∷ 116 ∷ 105 ∷ 111 ∷ 110 ∷ 7 ∷ 2 ∷ 0 ∷ 2 ∷ 102 ∷ 55 ∷ 7 ∷ 3 ∷ 0 ∷ 2 ∷ 98 ∷ 51 ∷ 2 ∷ 1 ∷ 0 ∷ 2 ∷ 102 ∷ 49 ∷ 0 ∷ 0 ∷ 0 ∷ 0 ∷ 0 ∷ 0 ∷ 0 ∷ 0 ∷ 0 ∷
    0 ∷ 0 ∷ 0 ∷ 0 ∷ 0 ∷ 0 ∷ 0 ∷ 3 ∷ 0 ∷ 0 ∷ 0 ∷ 0 ∷ 0 ∷ 0 ∷ 0 ∷ 0 ∷ 0 ∷ 0 ∷ 0 ∷ 0 ∷ 0 ∷ 0 ∷ 0 ∷ 0 ∷ 0 ∷ 0 ∷ 0 ∷ 0 ∷ 0 ∷ 0 ∷ 0 ∷ 0 ∷ 0 ∷ 0 ∷ 0 ∷ 0 ∷ 0
    ∷ 0 ∷ 0 ∷ 0 ∷ 0 ∷ 0 ∷ 0 ∷ 0 ∷ 0 ∷ 0 ∷ 0 ∷ 0 ∷ 0 ∷ 0 ∷ 0 ∷ 0 ∷ 0 ∷ 0 ∷ 0 ∷ 0 ∷ 0 ∷ 0 ∷ 0 ∷ 0 ∷ 0 ∷ 0 ∷ 0 ∷ 0 ∷ 0 ∷ 0 ∷ 0 ∷ 0 ∷ 0 ∷ 0 ∷ 0 ∷ 0 ∷ 0 ∷
    0 ∷ 0 ∷ 0 ∷ 0 ∷ 0 ∷ 0 ∷ 0 ∷ 0 ∷ 0 ∷ 0 ∷ 0 ∷ 0 ∷ 0 ∷ 0 ∷ 1 ∷ 0 ∷ 0 ∷ 0 ∷ 0 ∷ 0 ∷ 0 ∷ 0 ∷ 0 ∷ 0 ∷ 0 ∷ 0 ∷ 0 ∷ 0 ∷ 0 ∷ 0 ∷ 2 ∷ 0 ∷ 0 ∷ 0 ∷ 0 ∷ 0 ∷ 0
    ∷ 0 ∷ 0 ∷ 0 ∷ 0 ∷ 0 ∷ 0 ∷ 0 ∷ 0 ∷ 0 ∷ 0 ∷ 0 ∷ 0 ∷ 0 ∷ 0 ∷ 0 ∷ 0 ∷ 0 ∷ 0 ∷ 0 ∷ 0 ∷ 0 ∷ 0 ∷ 0 ∷ 0 ∷ 0 ∷ 0 ∷ 0 ∷ 0 ∷ 0 ∷ 0 ∷ 0 ∷ 0 ∷ 0 ∷ 0 ∷ 0 ∷ 0 ∷
    0 ∷ 0 ∷ 0 ∷ 0 ∷ 0 ∷ 0 ∷ 0 ∷ 0 ∷ 0 ∷ 0 ∷ 0 ∷ 0 ∷ 0 ∷ 0 ∷ 0 ∷ 0 ∷ 0 ∷ 0 ∷ 0 ∷ 0 ∷ 0 ∷ 0 ∷ 0 ∷ 0 ∷ 0 ∷ 7 ∷ 0 ∷ 0 ∷ 0 ∷ 0 ∷ 0 ∷ 9 ∷ 0 ∷ 5 ∷ 0 ∷ 0 ∷ 0
    ∷ 0 ∷ 0 ∷ 4 ∷ 3 ∷ 0 ∷ 0 ∷ 0 ∷ 0 ∷ 3 ∷ 4 ∷ 1 ∷ 0 ∷ 0 ∷ 0 ∷ 3 ∷ 0 ∷ 1 ∷ 0 ∷ 0 ∷ 0 ∷ 5 ∷ 2 ∷ 0 ∷ 0 ∷ 0 ∷ 0 ∷ 2 ∷ 0 ∷ 0 ∷ 0 ∷ 0 ∷ 0 ∷ 1 ∷ 0 ∷ 0 ∷ 0 ∷
    0 ∷ 0 ∷ 1 ∷ 0 ∷ 0 ∷ 0 ∷ 0 ∷ 0 ∷ 2 ∷ 0 ∷ 0 ∷ 0 ∷ 0 ∷ 0 ∷ 0 ∷ 0 ∷ 0 ∷ 0 ∷ 0 ∷ 0 ∷ 0 ∷ 0 ∷ 0 ∷ 0 ∷ 0 ∷ 0 ∷ 0 ∷ 0 ∷ 0 ∷ 0 ∷ 1 ∷ 0 ∷ 0 ∷ 0 ∷ 0 ∷ 0 ∷ 0
    ∷ 0 ∷ 0 ∷ 0 ∷ 0 ∷ 0 ∷ 0 ∷ 0 ∷ 0 ∷ 0 ∷ 3 ∷ 0 ∷ 0 ∷ 0 ∷ 0 ∷ 0 ∷ 0 ∷ 0 ∷ 0 ∷ 0 ∷ 0 ∷ 0 ∷ 0 ∷ 0 ∷ 0 ∷ 0 ∷ 0 ∷ 0 ∷ 0 ∷ 0 ∷ 0 ∷ 0 ∷ 0 ∷ 0 ∷ 0 ∷ 0 ∷ 0 ∷
    0 ∷ 0 ∷ 0 ∷ 0 ∷ 0 ∷ 0 ∷ 0 ∷ 0 ∷ 0 ∷ 0 ∷ 0 ∷ 0 ∷ 0 ∷ 0 ∷ 0 ∷ 0 ∷ 0 ∷ 0 ∷ 0 ∷ 0 ∷ 0 ∷ 0 ∷ 0 ∷ 0 ∷ 0 ∷ 0 ∷ 0 ∷ 0 ∷ 0 ∷ 0 ∷ 0 ∷ 0 ∷ 0 ∷ 0 ∷ 0 ∷ 0 ∷ 0
    ∷ []

asked-39-written : table_of asked-39 ≡ asked-39-table
unfolding computing
asked-39-written = refl

asked-39-2 : valid_on asked-39-table (context 0 0 0) ≡ answered false
unfolding computing
asked-39-2 = refl

asked-39-4 : valid_on asked-39-table (context 0 0 1) ≡ answered false
unfolding computing
asked-39-4 = refl

asked-39-changes : changes_on asked-39-table ((record { source = context 0 0 0; target = context 0 0 1; class = 0; perm = 0 }) ∷ (record
    { source = context 0 0 0; target = context 0 0 1; class = 0; perm = 1 }) ∷ (record
    { source = context 0 0 1; target = context 0 0 0; class = 0; perm = 2 }) ∷ (record
    { source = context 0 0 0; target = context 0 0 0; class = 0; perm = 0 }) ∷ []) ≡ record { verdict = denied 1; consulted = 0 } ∷ record
    { verdict = denied 1; consulted = 0 } ∷ record { verdict = denied 1; consulted = 0 } ∷ record { verdict = denied 1; consulted = 0 } ∷ []
unfolding computing
asked-39-changes = refl

asked-39-statements : from_text asked-39 ((record { source = context 0 0 0; target = context 0 0 1; class = 0; perm = 0 }) ∷ (record
    { source = context 0 0 0; target = context 0 0 1; class = 0; perm = 1 }) ∷ (record
    { source = context 0 0 1; target = context 0 0 0; class = 0; perm = 2 }) ∷ (record
    { source = context 0 0 0; target = context 0 0 0; class = 0; perm = 0 }) ∷ []) ≡ record { verdict = denied 1; consulted = 0 } ∷ record
    { verdict = denied 1; consulted = 0 } ∷ record { verdict = denied 1; consulted = 0 } ∷ record { verdict = denied 1; consulted = 0 } ∷ []
unfolding computing
asked-39-statements = refl

-- W-205, readings 70, 71 and 73: a table of edition 1
abbrev asked-40-table : List ℕ
asked-40-table = 1 ∷ 0 ∷ 8 ∷ 0 ∷ 68 ∷ 0 ∷ 0 ∷ 0 ∷ 30 ∷ 0 ∷ 0 ∷ 0 ∷ 98 ∷ 0 ∷ 0 ∷ 0 ∷ 16 ∷ 0 ∷ 0 ∷ 0 ∷ 114 ∷ 0 ∷ 0 ∷ 0 ∷ 128 ∷ 0 ∷ 0 ∷ 0 ∷ 242 ∷ 0 ∷
    0 ∷ 0 ∷ 32 ∷ 0 ∷ 0 ∷ 0 ∷ 18 ∷ 1 ∷ 0 ∷ 0 ∷ 0 ∷ 0 ∷ 0 ∷ 0 ∷ 18 ∷ 1 ∷ 0 ∷ 0 ∷ 10 ∷ 0 ∷ 0 ∷ 0 ∷ 28 ∷ 1 ∷ 0 ∷ 0 ∷ 6 ∷ 0 ∷ 0 ∷ 0 ∷ 34 ∷ 1 ∷ 0 ∷ 0 ∷ 0 ∷
    0 ∷ 0 ∷ 0 ∷ 0 ∷ 0 ∷ 0 ∷ 1 ∷ 117 ∷ 1 ∷ 0 ∷ 0 ∷ 1 ∷ 97 ∷ 1 ∷ 1 ∷ 0 ∷ 1 ∷ 98 ∷ 2 ∷ 0 ∷ 0 ∷ 1 ∷ 116 ∷ 6 ∷ 0 ∷ 0 ∷ 1 ∷ 99 ∷ 7 ∷ 0 ∷ 0 ∷ 1 ∷ 112 ∷ 1 ∷ 0
    ∷ 0 ∷ 0 ∷ 0 ∷ 0 ∷ 0 ∷ 0 ∷ 0 ∷ 0 ∷ 0 ∷ 0 ∷ 0 ∷ 0 ∷ 0 ∷ 0 ∷ 1 ∷ 0 ∷ 0 ∷ 0 ∷ 0 ∷ 0 ∷ 0 ∷ 0 ∷ 0 ∷ 0 ∷ 0 ∷ 0 ∷ 0 ∷ 0 ∷ 0 ∷ 0 ∷ 0 ∷ 0 ∷ 0 ∷ 0 ∷ 0 ∷ 0 ∷
    0 ∷ 0 ∷ 0 ∷ 0 ∷ 0 ∷ 0 ∷ 0 ∷ 0 ∷ 0 ∷ 0 ∷ 0 ∷ 0 ∷ 0 ∷ 0 ∷ 0 ∷ 0 ∷ 0 ∷ 0 ∷ 0 ∷ 0 ∷ 0 ∷ 0 ∷ 0 ∷ 0 ∷ 0 ∷ 0 ∷ 0 ∷ 0 ∷ 0 ∷ 0 ∷ 0 ∷ 0 ∷ 0 ∷ 0 ∷ 0 ∷ 0 ∷ 0
    ∷ 0 ∷ 0 ∷ 0 ∷ 0 ∷ 0 ∷ 0 ∷ 0 ∷ 0 ∷ 0 ∷ 0 ∷ 0 ∷ 0 ∷ 0 ∷ 0 ∷ 0 ∷ 0 ∷ 0 ∷ 0 ∷ 0 ∷ 0 ∷ 0 ∷ 0 ∷ 0 ∷ 0 ∷ 0 ∷ 0 ∷ 0 ∷ 0 ∷ 0 ∷ 0 ∷ 0 ∷ 0 ∷ 0 ∷ 0 ∷ 0 ∷ 0 ∷
    0 ∷ 0 ∷ 0 ∷ 0 ∷ 0 ∷ 0 ∷ 0 ∷ 0 ∷ 0 ∷ 0 ∷ 0 ∷ 0 ∷ 0 ∷ 0 ∷ 0 ∷ 0 ∷ 0 ∷ 0 ∷ 0 ∷ 0 ∷ 0 ∷ 0 ∷ 0 ∷ 0 ∷ 0 ∷ 0 ∷ 0 ∷ 0 ∷ 0 ∷ 0 ∷ 0 ∷ 0 ∷ 0 ∷ 0 ∷ 0 ∷ 0 ∷ 0
    ∷ 0 ∷ 0 ∷ 0 ∷ 0 ∷ 0 ∷ 0 ∷ 0 ∷ 0 ∷ 0 ∷ 0 ∷ 0 ∷ 0 ∷ 0 ∷ 0 ∷ 0 ∷ 0 ∷ 0 ∷ 0 ∷ 0 ∷ 0 ∷ 0 ∷ 0 ∷ 0 ∷ 0 ∷ 0 ∷ 0 ∷ 0 ∷ 0 ∷ 0 ∷ 0 ∷ 1 ∷ 0 ∷ 0 ∷ 0 ∷ 0 ∷ 0 ∷
    1 ∷ 0 ∷ 3 ∷ 0 ∷ 1 ∷ 0 ∷ 0 ∷ 0 ∷ []

asked-40-0 : change_on asked-40-table (record { source = context 0 0 0; target = context 0 0 0; class = 0; perm = 0 }) ≡ record
    { verdict = fails 4 0; consulted = 1 }
unfolding computing
asked-40-0 = refl

asked-40-1 : relabel_on asked-40-table (record { class = 0; old = context 0 0 0; new = context 0 0 0; process = context 0 0 0 }) ≡ record
    { verdict = granted; consulted = 0 }
unfolding computing
asked-40-1 = refl

asked-40-2 : relabel_on asked-40-table (record { class = 0; old = context 0 0 0; new = context 0 0 0; process = context 0 1 0 }) ≡ record
    { verdict = denied 5; consulted = 0 }
unfolding computing
asked-40-2 = refl

asked-40-3 : relabel_on asked-40-table (record { class = 0; old = context 0 1 0; new = context 0 0 0; process = context 0 0 0 }) ≡ record
    { verdict = denied 1; consulted = 0 }
unfolding computing
asked-40-3 = refl

asked-40-4 : valid_on asked-40-table (context 0 0 0) ≡ answered true
unfolding computing
asked-40-4 = refl

asked-40-5 : entry_on asked-40-table 7 0 ≡ answered (record { start = 284; size = 6 })
unfolding computing
asked-40-5 = refl

asked-40-6 : entry_on asked-40-table 9 0 ≡ refused 12 0
unfolding computing
asked-40-6 = refl

asked-40-7 : entry_on asked-40-table 10 0 ≡ refused 12 0
unfolding computing
asked-40-7 = refl
