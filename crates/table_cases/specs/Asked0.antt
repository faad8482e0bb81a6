-- Questions and what the independent second program says of them, held to the definitions by computation. Written by reference/regenerate.
-- Assumes nothing.
use Rattle.std.specs.Prelude.{◌≡◌, refl, List, [], ◌∷◌, ◌++◌, ℕ, true, false}
use Rattle.std.proofs.Math.Option.{none, some}
use Rattle.lexer.specs.Spell.{bytes}
use Rattle.policy.specs.Basics.{each}
use Rattle.policy.specs.Reading.{policy, refused}
use Rattle.policy.specs.Deciding.{Question, Answer, granted, denied, fails, refuses, answered, refused}
use Rattle.policy.specs.Answer.{answer}
use Rattle.policy.specs.Questions.{change, decided, change_on, relabel_on, valid_on, new_role_on, name_on, entry_on}
use Rattle.policy.specs.Sound.{image_in}
use Rattle.policy.specs.Outcome.{of_text, policy_of}
use Rattle.policy.specs.Worked.{table_of, context}
use Rattle.policy.specs.Computing.{computing}

-- what the statements of a text answer
abbrev from_text : List ℕ → List Question → List Answer
from_text text qs = elim (policy_of (of_text text)) [ policy p ↦ each (answer p) qs | refused n at ↦ [] ]

-- `change_on` for each question
abbrev changes_on : List ℕ → List Question → List Answer
changes_on t qs = elim (image_in t) [ some i ↦ each (change i) qs | none ↦ each (λ q. decided (λ i. change i q) none) qs ]

-- P11
abbrev asked-0 : List ℕ
asked-0 = bytes "(user u)(role a)(role b)(type t)(userrole u a)(roletype a t)(class c(p))"

abbrev asked-0-table : List ℕ
asked-0-table = 2 ∷ 0 ∷ 10 ∷ 0 ∷ 84 ∷ 0 ∷ 0 ∷ 0 ∷ 30 ∷ 0 ∷ 0 ∷ 0 ∷ 114 ∷ 0 ∷ 0 ∷ 0 ∷ 16 ∷ 0 ∷ 0 ∷ 0 ∷ 130 ∷ 0 ∷ 0 ∷ 0 ∷ 128 ∷ 0 ∷ 0 ∷ 0 ∷ 2 ∷ 1 ∷
    0 ∷ 0 ∷ 32 ∷ 0 ∷ 0 ∷ 0 ∷ 34 ∷ 1 ∷ 0 ∷ 0 ∷ 0 ∷ 0 ∷ 0 ∷ 0 ∷ 34 ∷ 1 ∷ 0 ∷ 0 ∷ 0 ∷ 0 ∷ 0 ∷ 0 ∷ 34 ∷ 1 ∷ 0 ∷ 0 ∷ 0 ∷ 0 ∷ 0 ∷ 0 ∷ 34 ∷ 1 ∷ 0 ∷ 0 ∷ 0 ∷ 0
    ∷ 0 ∷ 0 ∷ 34 ∷ 1 ∷ 0 ∷ 0 ∷ 0 ∷ 0 ∷ 0 ∷ 0 ∷ 34 ∷ 1 ∷ 0 ∷ 0 ∷ 0 ∷ 0 ∷ 0 ∷ 0 ∷ 0 ∷ 0 ∷ 0 ∷ 1 ∷ 117 ∷ 1 ∷ 0 ∷ 0 ∷ 1 ∷ 97 ∷ 1 ∷ 1 ∷ 0 ∷ 1 ∷ 98 ∷ 2 ∷ 0
    ∷ 0 ∷ 1 ∷ 116 ∷ 6 ∷ 0 ∷ 0 ∷ 1 ∷ 99 ∷ 7 ∷ 0 ∷ 0 ∷ 1 ∷ 112 ∷ 1 ∷ 0 ∷ 0 ∷ 0 ∷ 0 ∷ 0 ∷ 0 ∷ 0 ∷ 0 ∷ 0 ∷ 0 ∷ 0 ∷ 0 ∷ 0 ∷ 0 ∷ 0 ∷ 1 ∷ 0 ∷ 0 ∷ 0 ∷ 0 ∷ 0 ∷
    0 ∷ 0 ∷ 0 ∷ 0 ∷ 0 ∷ 0 ∷ 0 ∷ 0 ∷ 0 ∷ 0 ∷ 0 ∷ 0 ∷ 0 ∷ 0 ∷ 0 ∷ 0 ∷ 0 ∷ 0 ∷ 0 ∷ 0 ∷ 0 ∷ 0 ∷ 0 ∷ 0 ∷ 0 ∷ 0 ∷ 0 ∷ 0 ∷ 0 ∷ 0 ∷ 0 ∷ 0 ∷ 0 ∷ 0 ∷ 0 ∷ 0 ∷ 0
    ∷ 0 ∷ 0 ∷ 0 ∷ 0 ∷ 0 ∷ 0 ∷ 0 ∷ 0 ∷ 0 ∷ 0 ∷ 0 ∷ 0 ∷ 0 ∷ 0 ∷ 0 ∷ 0 ∷ 0 ∷ 0 ∷ 0 ∷ 0 ∷ 0 ∷ 0 ∷ 0 ∷ 0 ∷ 0 ∷ 0 ∷ 0 ∷ 0 ∷ 0 ∷ 0 ∷ 0 ∷ 0 ∷ 0 ∷ 0 ∷ 0 ∷ 0 ∷
    0 ∷ 0 ∷ 0 ∷ 0 ∷ 0 ∷ 0 ∷ 0 ∷ 0 ∷ 0 ∷ 0 ∷ 0 ∷ 0 ∷ 0 ∷ 0 ∷ 0 ∷ 0 ∷ 0 ∷ 0 ∷ 0 ∷ 0 ∷ 0 ∷ 0 ∷ 0 ∷ 0 ∷ 0 ∷ 0 ∷ 0 ∷ 0 ∷ 0 ∷ 0 ∷ 0 ∷ 0 ∷ 0 ∷ 0 ∷ 0 ∷ 0 ∷ 0
    ∷ 0 ∷ 0 ∷ 0 ∷ 0 ∷ 0 ∷ 0 ∷ 0 ∷ 0 ∷ 0 ∷ 0 ∷ 0 ∷ 0 ∷ 0 ∷ 0 ∷ 0 ∷ 0 ∷ 0 ∷ 0 ∷ 0 ∷ 0 ∷ 0 ∷ 0 ∷ 0 ∷ 0 ∷ 0 ∷ 0 ∷ 0 ∷ 0 ∷ 0 ∷ 0 ∷ 0 ∷ 0 ∷ 0 ∷ 0 ∷ 0 ∷ 0 ∷
    0 ∷ 0 ∷ 0 ∷ 0 ∷ 0 ∷ 0 ∷ 0 ∷ 0 ∷ []

asked-0-written : table_of asked-0 ≡ asked-0-table
unfolding computing
asked-0-written = refl

asked-0-3 : valid_on asked-0-table (context 0 0 0) ≡ answered true
unfolding computing
asked-0-3 = refl

asked-0-4 : valid_on asked-0-table (context 0 1 0) ≡ answered false
unfolding computing
asked-0-4 = refl

asked-0-changes : changes_on asked-0-table ((record { source = context 0 0 0; target = context 0 1 0; class = 0; perm = 0 }) ∷ (record
    { source = context 0 1 0; target = context 0 0 0; class = 0; perm = 0 }) ∷ (record
    { source = context 0 0 0; target = context 0 0 0; class = 0; perm = 0 }) ∷ []) ≡ record { verdict = denied 2; consulted = 0 } ∷ record
    { verdict = denied 1; consulted = 0 } ∷ record { verdict = granted; consulted = 0 } ∷ []
unfolding computing
asked-0-changes = refl

asked-0-statements : from_text asked-0 ((record { source = context 0 0 0; target = context 0 1 0; class = 0; perm = 0 }) ∷ (record
    { source = context 0 1 0; target = context 0 0 0; class = 0; perm = 0 }) ∷ (record
    { source = context 0 0 0; target = context 0 0 0; class = 0; perm = 0 }) ∷ []) ≡ record { verdict = denied 2; consulted = 0 } ∷ record
    { verdict = denied 1; consulted = 0 } ∷ record { verdict = granted; consulted = 0 } ∷ []
unfolding computing
asked-0-statements = refl

-- the user's role, the role's type; denial 1 before 2
abbrev asked-1 : List ℕ
asked-1 = bytes "(user u)(user v)(role a)(role b)(type s)(type t)(userrole u b)(userrole v a)(roletype a s)(roletype b t)(class c(p))"

abbrev asked-1-table : List ℕ
asked-1-table = 2 ∷ 0 ∷ 10 ∷ 0 ∷ 84 ∷ 0 ∷ 0 ∷ 0 ∷ 40 ∷ 0 ∷ 0 ∷ 0 ∷ 124 ∷ 0 ∷ 0 ∷ 0 ∷ 32 ∷ 0 ∷ 0 ∷ 0 ∷ 156 ∷ 0 ∷ 0 ∷ 0 ∷ 128 ∷ 0 ∷ 0 ∷ 0 ∷ 28 ∷ 1 ∷
    0 ∷ 0 ∷ 32 ∷ 0 ∷ 0 ∷ 0 ∷ 60 ∷ 1 ∷ 0 ∷ 0 ∷ 0 ∷ 0 ∷ 0 ∷ 0 ∷ 60 ∷ 1 ∷ 0 ∷ 0 ∷ 0 ∷ 0 ∷ 0 ∷ 0 ∷ 60 ∷ 1 ∷ 0 ∷ 0 ∷ 0 ∷ 0 ∷ 0 ∷ 0 ∷ 60 ∷ 1 ∷ 0 ∷ 0 ∷ 0 ∷ 0
    ∷ 0 ∷ 0 ∷ 60 ∷ 1 ∷ 0 ∷ 0 ∷ 0 ∷ 0 ∷ 0 ∷ 0 ∷ 60 ∷ 1 ∷ 0 ∷ 0 ∷ 0 ∷ 0 ∷ 0 ∷ 0 ∷ 0 ∷ 0 ∷ 0 ∷ 1 ∷ 117 ∷ 0 ∷ 1 ∷ 0 ∷ 1 ∷ 118 ∷ 1 ∷ 0 ∷ 0 ∷ 1 ∷ 97 ∷ 1 ∷ 1
    ∷ 0 ∷ 1 ∷ 98 ∷ 2 ∷ 0 ∷ 0 ∷ 1 ∷ 115 ∷ 2 ∷ 1 ∷ 0 ∷ 1 ∷ 116 ∷ 6 ∷ 0 ∷ 0 ∷ 1 ∷ 99 ∷ 7 ∷ 0 ∷ 0 ∷ 1 ∷ 112 ∷ 2 ∷ 0 ∷ 0 ∷ 0 ∷ 0 ∷ 0 ∷ 0 ∷ 0 ∷ 0 ∷ 0 ∷ 0 ∷
    0 ∷ 0 ∷ 0 ∷ 0 ∷ 0 ∷ 1 ∷ 0 ∷ 0 ∷ 0 ∷ 0 ∷ 0 ∷ 0 ∷ 0 ∷ 0 ∷ 0 ∷ 0 ∷ 0 ∷ 0 ∷ 0 ∷ 0 ∷ 0 ∷ 1 ∷ 0 ∷ 0 ∷ 0 ∷ 0 ∷ 0 ∷ 0 ∷ 0 ∷ 0 ∷ 0 ∷ 0 ∷ 0 ∷ 0 ∷ 0 ∷ 0 ∷ 0
    ∷ 0 ∷ 0 ∷ 0 ∷ 0 ∷ 0 ∷ 0 ∷ 0 ∷ 0 ∷ 0 ∷ 0 ∷ 0 ∷ 0 ∷ 0 ∷ 0 ∷ 0 ∷ 0 ∷ 0 ∷ 0 ∷ 0 ∷ 0 ∷ 0 ∷ 0 ∷ 0 ∷ 0 ∷ 0 ∷ 0 ∷ 0 ∷ 0 ∷ 0 ∷ 0 ∷ 0 ∷ 0 ∷ 0 ∷ 0 ∷ 0 ∷ 0 ∷
    0 ∷ 0 ∷ 0 ∷ 0 ∷ 0 ∷ 0 ∷ 0 ∷ 0 ∷ 0 ∷ 0 ∷ 0 ∷ 0 ∷ 2 ∷ 0 ∷ 0 ∷ 0 ∷ 0 ∷ 0 ∷ 0 ∷ 0 ∷ 0 ∷ 0 ∷ 0 ∷ 0 ∷ 0 ∷ 0 ∷ 0 ∷ 0 ∷ 0 ∷ 0 ∷ 0 ∷ 0 ∷ 0 ∷ 0 ∷ 0 ∷ 0 ∷ 0
    ∷ 0 ∷ 0 ∷ 0 ∷ 0 ∷ 0 ∷ 0 ∷ 0 ∷ 0 ∷ 0 ∷ 0 ∷ 0 ∷ 0 ∷ 0 ∷ 0 ∷ 0 ∷ 0 ∷ 0 ∷ 0 ∷ 0 ∷ 0 ∷ 0 ∷ 0 ∷ 0 ∷ 0 ∷ 0 ∷ 0 ∷ 0 ∷ 0 ∷ 0 ∷ 0 ∷ 0 ∷ 0 ∷ 0 ∷ 0 ∷ 0 ∷ 0 ∷
    0 ∷ 0 ∷ 0 ∷ 0 ∷ 0 ∷ 0 ∷ 0 ∷ 0 ∷ 0 ∷ 0 ∷ 0 ∷ 0 ∷ 0 ∷ 0 ∷ 0 ∷ 0 ∷ 0 ∷ 0 ∷ 0 ∷ 0 ∷ 0 ∷ 0 ∷ 0 ∷ 0 ∷ 0 ∷ 0 ∷ 0 ∷ 0 ∷ 0 ∷ 0 ∷ 0 ∷ 0 ∷ 0 ∷ 0 ∷ 0 ∷ []

asked-1-written : table_of asked-1 ≡ asked-1-table
unfolding computing
asked-1-written = refl

asked-1-0 : valid_on asked-1-table (context 0 1 1) ≡ answered true
unfolding computing
asked-1-0 = refl

asked-1-1 : valid_on asked-1-table (context 0 0 0) ≡ answered false
unfolding computing
asked-1-1 = refl

asked-1-2 : valid_on asked-1-table (context 1 0 1) ≡ answered false
unfolding computing
asked-1-2 = refl

asked-1-3 : valid_on asked-1-table (context 0 1 0) ≡ answered false
unfolding computing
asked-1-3 = refl

asked-1-changes : changes_on asked-1-table ((record { source = context 0 0 0; target = context 1 1 0; class = 0; perm = 0 }) ∷ (record
    { source = context 0 1 1; target = context 1 1 0; class = 0; perm = 0 }) ∷ (record
    { source = context 0 1 1; target = context 1 0 0; class = 0; perm = 0 }) ∷ (record
    { source = context 1 0 0; target = context 1 0 1; class = 0; perm = 0 }) ∷ []) ≡ record { verdict = denied 1; consulted = 0 } ∷ record
    { verdict = denied 2; consulted = 0 } ∷ record { verdict = granted; consulted = 0 } ∷ record { verdict = denied 2; consulted = 0 } ∷ []
unfolding computing
asked-1-changes = refl

asked-1-statements : from_text asked-1 ((record { source = context 0 0 0; target = context 1 1 0; class = 0; perm = 0 }) ∷ (record
    { source = context 0 1 1; target = context 1 1 0; class = 0; perm = 0 }) ∷ (record
    { source = context 0 1 1; target = context 1 0 0; class = 0; perm = 0 }) ∷ (record
    { source = context 1 0 0; target = context 1 0 1; class = 0; perm = 0 }) ∷ []) ≡ record { verdict = denied 1; consulted = 0 } ∷ record
    { verdict = denied 2; consulted = 0 } ∷ record { verdict = granted; consulted = 0 } ∷ record { verdict = denied 2; consulted = 0 } ∷ []
unfolding computing
asked-1-statements = refl

-- a role of number 8 is bit 0 of byte 1
abbrev asked-2 : List ℕ
asked-2 = bytes "(role a)(role b)(role c)(role d)(role e)(role f)(role g)(role h)(role i)(user u)(userrole u i)(type t)(roletype i t)"

abbrev asked-2-table : List ℕ
asked-2-table = 2 ∷ 0 ∷ 10 ∷ 0 ∷ 84 ∷ 0 ∷ 0 ∷ 0 ∷ 55 ∷ 0 ∷ 0 ∷ 0 ∷ 139 ∷ 0 ∷ 0 ∷ 0 ∷ 16 ∷ 0 ∷ 0 ∷ 0 ∷ 155 ∷ 0 ∷ 0 ∷ 0 ∷ 64 ∷ 2 ∷ 0 ∷ 0 ∷ 219 ∷ 2 ∷
    0 ∷ 0 ∷ 144 ∷ 0 ∷ 0 ∷ 0 ∷ 107 ∷ 3 ∷ 0 ∷ 0 ∷ 0 ∷ 0 ∷ 0 ∷ 0 ∷ 107 ∷ 3 ∷ 0 ∷ 0 ∷ 0 ∷ 0 ∷ 0 ∷ 0 ∷ 107 ∷ 3 ∷ 0 ∷ 0 ∷ 0 ∷ 0 ∷ 0 ∷ 0 ∷ 107 ∷ 3 ∷ 0 ∷ 0 ∷
    0 ∷ 0 ∷ 0 ∷ 0 ∷ 107 ∷ 3 ∷ 0 ∷ 0 ∷ 0 ∷ 0 ∷ 0 ∷ 0 ∷ 107 ∷ 3 ∷ 0 ∷ 0 ∷ 0 ∷ 0 ∷ 0 ∷ 0 ∷ 1 ∷ 0 ∷ 0 ∷ 1 ∷ 97 ∷ 1 ∷ 1 ∷ 0 ∷ 1 ∷ 98 ∷ 1 ∷ 2 ∷ 0 ∷ 1 ∷ 99 ∷
    1 ∷ 3 ∷ 0 ∷ 1 ∷ 100 ∷ 1 ∷ 4 ∷ 0 ∷ 1 ∷ 101 ∷ 1 ∷ 5 ∷ 0 ∷ 1 ∷ 102 ∷ 1 ∷ 6 ∷ 0 ∷ 1 ∷ 103 ∷ 1 ∷ 7 ∷ 0 ∷ 1 ∷ 104 ∷ 1 ∷ 8 ∷ 0 ∷ 1 ∷ 105 ∷ 0 ∷ 0 ∷ 0 ∷ 1
    ∷ 117 ∷ 2 ∷ 0 ∷ 0 ∷ 1 ∷ 116 ∷ 0 ∷ 1 ∷ 0 ∷ 0 ∷ 0 ∷ 0 ∷ 0 ∷ 0 ∷ 0 ∷ 0 ∷ 0 ∷ 0 ∷ 0 ∷ 0 ∷ 0 ∷ 0 ∷ 0 ∷ 0 ∷ 0 ∷ 0 ∷ 0 ∷ 0 ∷ 0 ∷ 0 ∷ 0 ∷ 0 ∷ 0 ∷ 0 ∷ 0 ∷
    0 ∷ 0 ∷ 0 ∷ 0 ∷ 0 ∷ 0 ∷ 0 ∷ 0 ∷ 0 ∷ 0 ∷ 0 ∷ 0 ∷ 0 ∷ 0 ∷ 0 ∷ 0 ∷ 0 ∷ 0 ∷ 0 ∷ 0 ∷ 0 ∷ 0 ∷ 0 ∷ 0 ∷ 0 ∷ 0 ∷ 0 ∷ 0 ∷ 0 ∷ 0 ∷ 0 ∷ 0 ∷ 0 ∷ 0 ∷ 0 ∷ 0 ∷ 0
    ∷ 0 ∷ 0 ∷ 0 ∷ 0 ∷ 0 ∷ 0 ∷ 0 ∷ 0 ∷ 0 ∷ 0 ∷ 0 ∷ 0 ∷ 0 ∷ 0 ∷ 0 ∷ 0 ∷ 0 ∷ 0 ∷ 0 ∷ 0 ∷ 0 ∷ 0 ∷ 0 ∷ 0 ∷ 0 ∷ 0 ∷ 0 ∷ 0 ∷ 0 ∷ 0 ∷ 0 ∷ 0 ∷ 0 ∷ 0 ∷ 0 ∷ 0 ∷
    0 ∷ 0 ∷ 0 ∷ 0 ∷ 0 ∷ 0 ∷ 0 ∷ 0 ∷ 0 ∷ 0 ∷ 0 ∷ 0 ∷ 0 ∷ 0 ∷ 0 ∷ 0 ∷ 0 ∷ 0 ∷ 0 ∷ 0 ∷ 0 ∷ 0 ∷ 0 ∷ 0 ∷ 0 ∷ 0 ∷ 0 ∷ 0 ∷ 0 ∷ 0 ∷ 0 ∷ 0 ∷ 0 ∷ 0 ∷ 0 ∷ 0 ∷ 0
    ∷ 0 ∷ 0 ∷ 0 ∷ 0 ∷ 0 ∷ 0 ∷ 0 ∷ 0 ∷ 0 ∷ 0 ∷ 0 ∷ 0 ∷ 0 ∷ 0 ∷ 0 ∷ 0 ∷ 0 ∷ 0 ∷ 0 ∷ 0 ∷ 0 ∷ 0 ∷ 0 ∷ 0 ∷ 0 ∷ 0 ∷ 0 ∷ 0 ∷ 0 ∷ 0 ∷ 0 ∷ 0 ∷ 0 ∷ 0 ∷ 0 ∷ 0 ∷
    0 ∷ 0 ∷ 0 ∷ 0 ∷ 0 ∷ 0 ∷ 0 ∷ 0 ∷ 0 ∷ 0 ∷ 0 ∷ 0 ∷ 0 ∷ 0 ∷ 0 ∷ 0 ∷ 0 ∷ 0 ∷ 0 ∷ 0 ∷ 0 ∷ 0 ∷ 0 ∷ 0 ∷ 0 ∷ 0 ∷ 0 ∷ 0 ∷ 0 ∷ 0 ∷ 0 ∷ 0 ∷ 0 ∷ 0 ∷ 0 ∷ 0 ∷ 0
    ∷ 0 ∷ 0 ∷ 0 ∷ 0 ∷ 0 ∷ 0 ∷ 0 ∷ 0 ∷ 0 ∷ 0 ∷ 0 ∷ 0 ∷ 0 ∷ 0 ∷ 0 ∷ 0 ∷ 0 ∷ 0 ∷ 0 ∷ 0 ∷ 0 ∷ 0 ∷ 0 ∷ 0 ∷ 0 ∷ 0 ∷ 0 ∷ 0 ∷ 0 ∷ 0 ∷ 0 ∷ 0 ∷ 0 ∷ 0 ∷ 0 ∷ 0 ∷
    0 ∷ 0 ∷ 0 ∷ 0 ∷ 0 ∷ 0 ∷ 0 ∷ 0 ∷ 0 ∷ 0 ∷ 0 ∷ 0 ∷ 0 ∷ 0 ∷ 0 ∷ 0 ∷ 0 ∷ 0 ∷ 0 ∷ 0 ∷ 0 ∷ 0 ∷ 0 ∷ 0 ∷ 0 ∷ 0 ∷ 0 ∷ 0 ∷ 0 ∷ 0 ∷ 0 ∷ 0 ∷ 0 ∷ 0 ∷ 0 ∷ 0 ∷ 0
    ∷ 0 ∷ 0 ∷ 0 ∷ 0 ∷ 0 ∷ 0 ∷ 0 ∷ 0 ∷ 0 ∷ 0 ∷ 0 ∷ 0 ∷ 0 ∷ 0 ∷ 0 ∷ 0 ∷ 0 ∷ 0 ∷ 0 ∷ 0 ∷ 0 ∷ 0 ∷ 0 ∷ 0 ∷ 0 ∷ 0 ∷ 0 ∷ 0 ∷ 0 ∷ 0 ∷ 0 ∷ 0 ∷ 0 ∷ 0 ∷ 0 ∷ 0 ∷
    0 ∷ 0 ∷ 0 ∷ 0 ∷ 0 ∷ 0 ∷ 0 ∷ 0 ∷ 0 ∷ 0 ∷ 0 ∷ 0 ∷ 0 ∷ 0 ∷ 0 ∷ 0 ∷ 0 ∷ 0 ∷ 0 ∷ 0 ∷ 0 ∷ 0 ∷ 0 ∷ 0 ∷ 0 ∷ 0 ∷ 0 ∷ 0 ∷ 0 ∷ 0 ∷ 0 ∷ 0 ∷ 0 ∷ 0 ∷ 0 ∷ 0 ∷ 0
    ∷ 0 ∷ 0 ∷ 0 ∷ 0 ∷ 0 ∷ 0 ∷ 0 ∷ 0 ∷ 0 ∷ 0 ∷ 0 ∷ 0 ∷ 0 ∷ 0 ∷ 0 ∷ 0 ∷ 0 ∷ 0 ∷ 0 ∷ 0 ∷ 0 ∷ 0 ∷ 0 ∷ 0 ∷ 0 ∷ 0 ∷ 0 ∷ 0 ∷ 0 ∷ 0 ∷ 0 ∷ 0 ∷ 0 ∷ 0 ∷ 0 ∷ 0 ∷
    0 ∷ 0 ∷ 0 ∷ 0 ∷ 0 ∷ 0 ∷ 0 ∷ 0 ∷ 0 ∷ 0 ∷ 0 ∷ 0 ∷ 0 ∷ 0 ∷ 0 ∷ 0 ∷ 0 ∷ 0 ∷ 0 ∷ 0 ∷ 0 ∷ 0 ∷ 0 ∷ 0 ∷ 0 ∷ 0 ∷ 0 ∷ 0 ∷ 0 ∷ 0 ∷ 0 ∷ 0 ∷ 0 ∷ 0 ∷ 0 ∷ 0 ∷ 0
    ∷ 0 ∷ 0 ∷ 0 ∷ 0 ∷ 0 ∷ 0 ∷ 0 ∷ 0 ∷ 0 ∷ 0 ∷ 0 ∷ 0 ∷ 0 ∷ 0 ∷ 0 ∷ 0 ∷ 0 ∷ 0 ∷ 0 ∷ 0 ∷ 0 ∷ 0 ∷ 0 ∷ 0 ∷ 0 ∷ 0 ∷ 0 ∷ 0 ∷ 0 ∷ 0 ∷ 0 ∷ 0 ∷ 0 ∷ 0 ∷ 0 ∷ 0 ∷
    0 ∷ 0 ∷ 0 ∷ 0 ∷ 0 ∷ 0 ∷ 0 ∷ 0 ∷ 0 ∷ 0 ∷ 0 ∷ 0 ∷ 0 ∷ 0 ∷ 0 ∷ 0 ∷ 0 ∷ 0 ∷ 0 ∷ 0 ∷ 0 ∷ 0 ∷ 0 ∷ 0 ∷ 0 ∷ 0 ∷ 0 ∷ 0 ∷ 0 ∷ 0 ∷ 0 ∷ 0 ∷ 0 ∷ 0 ∷ 0 ∷ 0 ∷ 0
    ∷ 0 ∷ 0 ∷ 0 ∷ 0 ∷ 0 ∷ 0 ∷ 0 ∷ 0 ∷ 0 ∷ 0 ∷ 0 ∷ 0 ∷ 0 ∷ 0 ∷ 0 ∷ 0 ∷ 0 ∷ 0 ∷ 0 ∷ 0 ∷ 0 ∷ 0 ∷ 0 ∷ 0 ∷ 1 ∷ 0 ∷ 0 ∷ 0 ∷ 0 ∷ 0 ∷ 0 ∷ 0 ∷ 0 ∷ 0 ∷ 0 ∷ 0 ∷
    0 ∷ 0 ∷ 0 ∷ 0 ∷ 0 ∷ 0 ∷ 0 ∷ 0 ∷ 0 ∷ 0 ∷ 0 ∷ 0 ∷ 0 ∷ 0 ∷ 0 ∷ 0 ∷ 0 ∷ 0 ∷ 0 ∷ 0 ∷ 0 ∷ 0 ∷ 0 ∷ 0 ∷ 0 ∷ 0 ∷ 0 ∷ 0 ∷ 0 ∷ 0 ∷ 0 ∷ 0 ∷ 0 ∷ 0 ∷ 0 ∷ 0 ∷ 0
    ∷ 0 ∷ 0 ∷ 0 ∷ 0 ∷ 0 ∷ 0 ∷ 0 ∷ 0 ∷ 0 ∷ 0 ∷ 0 ∷ 0 ∷ 0 ∷ 0 ∷ 0 ∷ 0 ∷ 0 ∷ 0 ∷ 0 ∷ 0 ∷ 0 ∷ 0 ∷ 0 ∷ 0 ∷ 0 ∷ 0 ∷ 0 ∷ 0 ∷ 0 ∷ 0 ∷ 0 ∷ 0 ∷ 0 ∷ 0 ∷ 0 ∷ 0 ∷
    0 ∷ 0 ∷ 0 ∷ 0 ∷ 0 ∷ 0 ∷ 0 ∷ 0 ∷ 0 ∷ 0 ∷ 0 ∷ 0 ∷ 0 ∷ 0 ∷ 0 ∷ 0 ∷ 0 ∷ 0 ∷ 0 ∷ 0 ∷ 0 ∷ 0 ∷ 0 ∷ 0 ∷ 0 ∷ 0 ∷ 0 ∷ 0 ∷ 0 ∷ 0 ∷ 0 ∷ 0 ∷ 0 ∷ 0 ∷ 0 ∷ 0 ∷ 0
    ∷ 0 ∷ 0 ∷ 0 ∷ 0 ∷ 0 ∷ 0 ∷ 0 ∷ 0 ∷ 0 ∷ 0 ∷ 0 ∷ 0 ∷ 0 ∷ 0 ∷ 0 ∷ 0 ∷ 0 ∷ 0 ∷ 0 ∷ 0 ∷ 0 ∷ 0 ∷ 0 ∷ 0 ∷ 0 ∷ 0 ∷ 0 ∷ 0 ∷ 0 ∷ 0 ∷ 0 ∷ 0 ∷ 0 ∷ 0 ∷ 0 ∷ 0 ∷
    0 ∷ 0 ∷ 0 ∷ 0 ∷ 0 ∷ 0 ∷ 0 ∷ 0 ∷ 0 ∷ 0 ∷ 0 ∷ 0 ∷ 0 ∷ 0 ∷ 0 ∷ 0 ∷ 0 ∷ 0 ∷ 0 ∷ 0 ∷ 0 ∷ 0 ∷ 0 ∷ 0 ∷ 0 ∷ 0 ∷ 0 ∷ 0 ∷ 0 ∷ 0 ∷ 0 ∷ 0 ∷ 0 ∷ 0 ∷ 0 ∷ 0 ∷ 0
    ∷ 0 ∷ 0 ∷ 0 ∷ 0 ∷ 0 ∷ 0 ∷ 0 ∷ 0 ∷ 0 ∷ 0 ∷ 0 ∷ 0 ∷ 0 ∷ []

asked-2-written : table_of asked-2 ≡ asked-2-table
unfolding computing
asked-2-written = refl

asked-2-0 : valid_on asked-2-table (context 0 8 0) ≡ answered true
unfolding computing
asked-2-0 = refl

asked-2-1 : valid_on asked-2-table (context 0 0 0) ≡ answered false
unfolding computing
asked-2-1 = refl

-- denial 3: not where the role stays the same, not for another permission
abbrev asked-3 : List ℕ
asked-3 = bytes "(user u)(role a)(role b)(type t)(userrole u a)(userrole u b)(roletype a t)(roletype b t)(class process(transition dyntra" ++
    bytes "nsition fork))"

abbrev asked-3-table : List ℕ
asked-3-table = 2 ∷ 0 ∷ 10 ∷ 0 ∷ 84 ∷ 0 ∷ 0 ∷ 0 ∷ 70 ∷ 0 ∷ 0 ∷ 0 ∷ 154 ∷ 0 ∷ 0 ∷ 0 ∷ 16 ∷ 0 ∷ 0 ∷ 0 ∷ 170 ∷ 0 ∷ 0 ∷ 0 ∷ 128 ∷ 0 ∷ 0 ∷ 0 ∷ 42 ∷ 1 ∷
    0 ∷ 0 ∷ 32 ∷ 0 ∷ 0 ∷ 0 ∷ 74 ∷ 1 ∷ 0 ∷ 0 ∷ 0 ∷ 0 ∷ 0 ∷ 0 ∷ 74 ∷ 1 ∷ 0 ∷ 0 ∷ 0 ∷ 0 ∷ 0 ∷ 0 ∷ 74 ∷ 1 ∷ 0 ∷ 0 ∷ 0 ∷ 0 ∷ 0 ∷ 0 ∷ 74 ∷ 1 ∷ 0 ∷ 0 ∷ 0 ∷ 0
    ∷ 0 ∷ 0 ∷ 74 ∷ 1 ∷ 0 ∷ 0 ∷ 0 ∷ 0 ∷ 0 ∷ 0 ∷ 74 ∷ 1 ∷ 0 ∷ 0 ∷ 0 ∷ 0 ∷ 0 ∷ 0 ∷ 0 ∷ 0 ∷ 0 ∷ 1 ∷ 117 ∷ 1 ∷ 0 ∷ 0 ∷ 1 ∷ 97 ∷ 1 ∷ 1 ∷ 0 ∷ 1 ∷ 98 ∷ 2 ∷ 0
    ∷ 0 ∷ 1 ∷ 116 ∷ 6 ∷ 0 ∷ 0 ∷ 7 ∷ 112 ∷ 114 ∷ 111 ∷ 99 ∷ 101 ∷ 115 ∷ 115 ∷ 7 ∷ 0 ∷ 0 ∷ 10 ∷ 116 ∷ 114 ∷ 97 ∷ 110 ∷ 115 ∷ 105 ∷ 116 ∷ 105 ∷ 111 ∷ 110
    ∷ 7 ∷ 1 ∷ 0 ∷ 13 ∷ 100 ∷ 121 ∷ 110 ∷ 116 ∷ 114 ∷ 97 ∷ 110 ∷ 115 ∷ 105 ∷ 116 ∷ 105 ∷ 111 ∷ 110 ∷ 7 ∷ 2 ∷ 0 ∷ 4 ∷ 102 ∷ 111 ∷ 114 ∷ 107 ∷ 3 ∷ 0 ∷ 0
    ∷ 0 ∷ 0 ∷ 0 ∷ 0 ∷ 0 ∷ 0 ∷ 0 ∷ 0 ∷ 0 ∷ 0 ∷ 0 ∷ 0 ∷ 0 ∷ 1 ∷ 0 ∷ 0 ∷ 0 ∷ 0 ∷ 0 ∷ 0 ∷ 0 ∷ 0 ∷ 0 ∷ 0 ∷ 0 ∷ 0 ∷ 0 ∷ 0 ∷ 0 ∷ 0 ∷ 0 ∷ 0 ∷ 0 ∷ 0 ∷ 0 ∷ 0 ∷
    0 ∷ 0 ∷ 0 ∷ 0 ∷ 0 ∷ 0 ∷ 0 ∷ 0 ∷ 0 ∷ 0 ∷ 0 ∷ 0 ∷ 0 ∷ 0 ∷ 0 ∷ 0 ∷ 0 ∷ 0 ∷ 0 ∷ 0 ∷ 0 ∷ 0 ∷ 0 ∷ 0 ∷ 0 ∷ 0 ∷ 0 ∷ 0 ∷ 0 ∷ 0 ∷ 0 ∷ 0 ∷ 0 ∷ 0 ∷ 0 ∷ 0 ∷ 0
    ∷ 0 ∷ 0 ∷ 0 ∷ 0 ∷ 1 ∷ 0 ∷ 0 ∷ 0 ∷ 0 ∷ 0 ∷ 0 ∷ 0 ∷ 0 ∷ 0 ∷ 0 ∷ 0 ∷ 0 ∷ 0 ∷ 0 ∷ 0 ∷ 0 ∷ 0 ∷ 0 ∷ 0 ∷ 0 ∷ 0 ∷ 0 ∷ 0 ∷ 0 ∷ 0 ∷ 0 ∷ 0 ∷ 0 ∷ 0 ∷ 0 ∷ 0 ∷
    0 ∷ 0 ∷ 0 ∷ 0 ∷ 0 ∷ 0 ∷ 0 ∷ 0 ∷ 0 ∷ 0 ∷ 0 ∷ 0 ∷ 0 ∷ 0 ∷ 0 ∷ 0 ∷ 0 ∷ 0 ∷ 0 ∷ 0 ∷ 0 ∷ 0 ∷ 0 ∷ 0 ∷ 0 ∷ 0 ∷ 0 ∷ 0 ∷ 0 ∷ 0 ∷ 0 ∷ 0 ∷ 0 ∷ 0 ∷ 0 ∷ 0 ∷ 0
    ∷ 0 ∷ 0 ∷ 0 ∷ 0 ∷ 0 ∷ 0 ∷ 0 ∷ 0 ∷ 0 ∷ 0 ∷ 0 ∷ 0 ∷ 0 ∷ 0 ∷ 0 ∷ 0 ∷ 0 ∷ 0 ∷ 0 ∷ 0 ∷ 0 ∷ 0 ∷ 0 ∷ 0 ∷ 0 ∷ 0 ∷ 0 ∷ []

asked-3-written : table_of asked-3 ≡ asked-3-table
unfolding computing
asked-3-written = refl

asked-3-changes : changes_on asked-3-table ((record { source = context 0 0 0; target = context 0 1 0; class = 0; perm = 0 }) ∷ (record
    { source = context 0 1 0; target = context 0 0 0; class = 0; perm = 1 }) ∷ (record
    { source = context 0 0 0; target = context 0 0 0; class = 0; perm = 0 }) ∷ (record
    { source = context 0 1 0; target = context 0 1 0; class = 0; perm = 1 }) ∷ (record
    { source = context 0 0 0; target = context 0 1 0; class = 0; perm = 2 }) ∷ []) ≡ record { verdict = denied 3; consulted = 0 } ∷ record
    { verdict = denied 3; consulted = 0 } ∷ record { verdict = granted; consulted = 0 } ∷ record { verdict = granted; consulted = 0 } ∷ record
    { verdict = granted; consulted = 0 } ∷ []
unfolding computing
asked-3-changes = refl

asked-3-statements : from_text asked-3 ((record { source = context 0 0 0; target = context 0 1 0; class = 0; perm = 0 }) ∷ (record
    { source = context 0 1 0; target = context 0 0 0; class = 0; perm = 1 }) ∷ (record
    { source = context 0 0 0; target = context 0 0 0; class = 0; perm = 0 }) ∷ (record
    { source = context 0 1 0; target = context 0 1 0; class = 0; perm = 1 }) ∷ (record
    { source = context 0 0 0; target = context 0 1 0; class = 0; perm = 2 }) ∷ []) ≡ record { verdict = denied 3; consulted = 0 } ∷ record
    { verdict = denied 3; consulted = 0 } ∷ record { verdict = granted; consulted = 0 } ∷ record { verdict = granted; consulted = 0 } ∷ record
    { verdict = granted; consulted = 0 } ∷ []
unfolding computing
asked-3-statements = refl

-- roleallow
abbrev asked-4 : List ℕ
asked-4 = bytes "(user u)(role a)(role b)(type t)(userrole u a)(userrole u b)(roletype a t)(roletype b t)(class process(fork transition))" ++
    bytes "(roleallow a b)"

abbrev asked-4-table : List ℕ
asked-4-table = 2 ∷ 0 ∷ 10 ∷ 0 ∷ 84 ∷ 0 ∷ 0 ∷ 0 ∷ 53 ∷ 0 ∷ 0 ∷ 0 ∷ 137 ∷ 0 ∷ 0 ∷ 0 ∷ 16 ∷ 0 ∷ 0 ∷ 0 ∷ 153 ∷ 0 ∷ 0 ∷ 0 ∷ 128 ∷ 0 ∷ 0 ∷ 0 ∷ 25 ∷ 1 ∷
    0 ∷ 0 ∷ 32 ∷ 0 ∷ 0 ∷ 0 ∷ 57 ∷ 1 ∷ 0 ∷ 0 ∷ 0 ∷ 0 ∷ 0 ∷ 0 ∷ 57 ∷ 1 ∷ 0 ∷ 0 ∷ 0 ∷ 0 ∷ 0 ∷ 0 ∷ 57 ∷ 1 ∷ 0 ∷ 0 ∷ 0 ∷ 0 ∷ 0 ∷ 0 ∷ 57 ∷ 1 ∷ 0 ∷ 0 ∷ 0 ∷ 0
    ∷ 0 ∷ 0 ∷ 57 ∷ 1 ∷ 0 ∷ 0 ∷ 0 ∷ 0 ∷ 0 ∷ 0 ∷ 57 ∷ 1 ∷ 0 ∷ 0 ∷ 0 ∷ 0 ∷ 0 ∷ 0 ∷ 0 ∷ 0 ∷ 0 ∷ 1 ∷ 117 ∷ 1 ∷ 0 ∷ 0 ∷ 1 ∷ 97 ∷ 1 ∷ 1 ∷ 0 ∷ 1 ∷ 98 ∷ 2 ∷ 0
    ∷ 0 ∷ 1 ∷ 116 ∷ 6 ∷ 0 ∷ 0 ∷ 7 ∷ 112 ∷ 114 ∷ 111 ∷ 99 ∷ 101 ∷ 115 ∷ 115 ∷ 7 ∷ 0 ∷ 0 ∷ 4 ∷ 102 ∷ 111 ∷ 114 ∷ 107 ∷ 7 ∷ 1 ∷ 0 ∷ 10 ∷ 116 ∷ 114 ∷ 97 ∷
    110 ∷ 115 ∷ 105 ∷ 116 ∷ 105 ∷ 111 ∷ 110 ∷ 3 ∷ 0 ∷ 0 ∷ 0 ∷ 0 ∷ 0 ∷ 0 ∷ 0 ∷ 0 ∷ 0 ∷ 0 ∷ 0 ∷ 0 ∷ 0 ∷ 0 ∷ 0 ∷ 1 ∷ 0 ∷ 0 ∷ 0 ∷ 0 ∷ 0 ∷ 0 ∷ 0 ∷ 0 ∷ 0 ∷
    0 ∷ 0 ∷ 0 ∷ 0 ∷ 0 ∷ 0 ∷ 0 ∷ 0 ∷ 0 ∷ 0 ∷ 0 ∷ 0 ∷ 0 ∷ 0 ∷ 0 ∷ 0 ∷ 0 ∷ 0 ∷ 0 ∷ 0 ∷ 0 ∷ 0 ∷ 0 ∷ 0 ∷ 0 ∷ 0 ∷ 0 ∷ 0 ∷ 0 ∷ 0 ∷ 0 ∷ 0 ∷ 0 ∷ 0 ∷ 0 ∷ 0 ∷ 0
    ∷ 0 ∷ 0 ∷ 0 ∷ 0 ∷ 0 ∷ 0 ∷ 0 ∷ 0 ∷ 0 ∷ 0 ∷ 0 ∷ 0 ∷ 0 ∷ 0 ∷ 0 ∷ 0 ∷ 0 ∷ 1 ∷ 0 ∷ 0 ∷ 0 ∷ 0 ∷ 0 ∷ 0 ∷ 0 ∷ 0 ∷ 0 ∷ 0 ∷ 0 ∷ 0 ∷ 0 ∷ 0 ∷ 0 ∷ 0 ∷ 0 ∷ 0 ∷
    0 ∷ 0 ∷ 0 ∷ 0 ∷ 0 ∷ 0 ∷ 0 ∷ 0 ∷ 0 ∷ 0 ∷ 0 ∷ 0 ∷ 0 ∷ 0 ∷ 0 ∷ 0 ∷ 0 ∷ 0 ∷ 0 ∷ 0 ∷ 0 ∷ 0 ∷ 0 ∷ 0 ∷ 0 ∷ 0 ∷ 0 ∷ 0 ∷ 0 ∷ 0 ∷ 0 ∷ 0 ∷ 0 ∷ 0 ∷ 0 ∷ 0 ∷ 0
    ∷ 0 ∷ 0 ∷ 0 ∷ 0 ∷ 0 ∷ 0 ∷ 0 ∷ 0 ∷ 2 ∷ 0 ∷ 0 ∷ 0 ∷ 0 ∷ 0 ∷ 0 ∷ 0 ∷ 0 ∷ 0 ∷ 0 ∷ 0 ∷ 0 ∷ 0 ∷ 0 ∷ 0 ∷ 0 ∷ 0 ∷ 0 ∷ 0 ∷ 0 ∷ 0 ∷ 0 ∷ 0 ∷ 0 ∷ 0 ∷ 0 ∷ 0 ∷
    0 ∷ 0 ∷ 0 ∷ 0 ∷ []

asked-4-written : table_of asked-4 ≡ asked-4-table
unfolding computing
asked-4-written = refl

asked-4-changes : changes_on asked-4-table ((record { source = context 0 0 0; target = context 0 1 0; class = 0; perm = 1 }) ∷ (record
    { source = context 0 1 0; target = context 0 0 0; class = 0; perm = 1 }) ∷ []) ≡ record { verdict = granted; consulted = 0 } ∷ record
    { verdict = denied 3; consulted = 0 } ∷ []
unfolding computing
asked-4-changes = refl

asked-4-statements : from_text asked-4 ((record { source = context 0 0 0; target = context 0 1 0; class = 0; perm = 1 }) ∷ (record
    { source = context 0 1 0; target = context 0 0 0; class = 0; perm = 1 }) ∷ []) ≡ record { verdict = granted; consulted = 0 } ∷ record
    { verdict = denied 3; consulted = 0 } ∷ []
unfolding computing
asked-4-statements = refl

-- roleallow through an attribute
abbrev asked-5 : List ℕ
asked-5 = bytes "(user u)(role a)(role b)(type t)(userrole u a)(userrole u b)(roletype a t)(roletype b t)(class process(transition))(role" ++
    bytes "attribute x)(roleallow x x)(roleattributeset x(not a))"

abbrev asked-5-table : List ℕ
asked-5-table = 2 ∷ 0 ∷ 10 ∷ 0 ∷ 84 ∷ 0 ∷ 0 ∷ 0 ∷ 50 ∷ 0 ∷ 0 ∷ 0 ∷ 134 ∷ 0 ∷ 0 ∷ 0 ∷ 16 ∷ 0 ∷ 0 ∷ 0 ∷ 150 ∷ 0 ∷ 0 ∷ 0 ∷ 128 ∷ 0 ∷ 0 ∷ 0 ∷ 22 ∷ 1 ∷
    0 ∷ 0 ∷ 32 ∷ 0 ∷ 0 ∷ 0 ∷ 54 ∷ 1 ∷ 0 ∷ 0 ∷ 0 ∷ 0 ∷ 0 ∷ 0 ∷ 54 ∷ 1 ∷ 0 ∷ 0 ∷ 0 ∷ 0 ∷ 0 ∷ 0 ∷ 54 ∷ 1 ∷ 0 ∷ 0 ∷ 0 ∷ 0 ∷ 0 ∷ 0 ∷ 54 ∷ 1 ∷ 0 ∷ 0 ∷ 16 ∷
    0 ∷ 0 ∷ 0 ∷ 70 ∷ 1 ∷ 0 ∷ 0 ∷ 0 ∷ 0 ∷ 0 ∷ 0 ∷ 70 ∷ 1 ∷ 0 ∷ 0 ∷ 0 ∷ 0 ∷ 0 ∷ 0 ∷ 0 ∷ 0 ∷ 0 ∷ 1 ∷ 117 ∷ 1 ∷ 0 ∷ 0 ∷ 1 ∷ 97 ∷ 1 ∷ 1 ∷ 0 ∷ 1 ∷ 98 ∷ 2 ∷
    0 ∷ 0 ∷ 1 ∷ 116 ∷ 6 ∷ 0 ∷ 0 ∷ 7 ∷ 112 ∷ 114 ∷ 111 ∷ 99 ∷ 101 ∷ 115 ∷ 115 ∷ 7 ∷ 0 ∷ 0 ∷ 10 ∷ 116 ∷ 114 ∷ 97 ∷ 110 ∷ 115 ∷ 105 ∷ 116 ∷ 105 ∷ 111 ∷
    110 ∷ 4 ∷ 0 ∷ 0 ∷ 1 ∷ 120 ∷ 3 ∷ 0 ∷ 0 ∷ 0 ∷ 0 ∷ 0 ∷ 0 ∷ 0 ∷ 0 ∷ 0 ∷ 0 ∷ 0 ∷ 0 ∷ 0 ∷ 0 ∷ 0 ∷ 1 ∷ 0 ∷ 0 ∷ 0 ∷ 0 ∷ 0 ∷ 0 ∷ 0 ∷ 0 ∷ 0 ∷ 0 ∷ 0 ∷ 0 ∷ 0
    ∷ 0 ∷ 0 ∷ 0 ∷ 0 ∷ 0 ∷ 0 ∷ 0 ∷ 0 ∷ 0 ∷ 0 ∷ 0 ∷ 0 ∷ 0 ∷ 0 ∷ 0 ∷ 0 ∷ 0 ∷ 0 ∷ 0 ∷ 0 ∷ 0 ∷ 0 ∷ 0 ∷ 0 ∷ 0 ∷ 0 ∷ 0 ∷ 0 ∷ 0 ∷ 0 ∷ 0 ∷ 0 ∷ 0 ∷ 0 ∷ 0 ∷ 0 ∷
    0 ∷ 0 ∷ 0 ∷ 0 ∷ 0 ∷ 0 ∷ 0 ∷ 0 ∷ 0 ∷ 0 ∷ 0 ∷ 0 ∷ 0 ∷ 0 ∷ 1 ∷ 0 ∷ 0 ∷ 0 ∷ 0 ∷ 0 ∷ 0 ∷ 0 ∷ 0 ∷ 0 ∷ 0 ∷ 0 ∷ 0 ∷ 0 ∷ 0 ∷ 0 ∷ 0 ∷ 0 ∷ 0 ∷ 0 ∷ 0 ∷ 0 ∷ 0
    ∷ 0 ∷ 0 ∷ 0 ∷ 0 ∷ 0 ∷ 0 ∷ 0 ∷ 0 ∷ 0 ∷ 0 ∷ 0 ∷ 0 ∷ 0 ∷ 0 ∷ 0 ∷ 0 ∷ 0 ∷ 0 ∷ 0 ∷ 0 ∷ 0 ∷ 0 ∷ 0 ∷ 0 ∷ 0 ∷ 0 ∷ 0 ∷ 0 ∷ 0 ∷ 0 ∷ 0 ∷ 0 ∷ 0 ∷ 0 ∷ 0 ∷ 0 ∷
    0 ∷ 0 ∷ 0 ∷ 0 ∷ 0 ∷ 0 ∷ 0 ∷ 0 ∷ 0 ∷ 0 ∷ 0 ∷ 0 ∷ 0 ∷ 0 ∷ 0 ∷ 0 ∷ 0 ∷ 0 ∷ 0 ∷ 0 ∷ 0 ∷ 2 ∷ 0 ∷ 0 ∷ 0 ∷ 0 ∷ 0 ∷ 0 ∷ 0 ∷ 0 ∷ 0 ∷ 0 ∷ 0 ∷ 0 ∷ 0 ∷ 0 ∷ 0
    ∷ 2 ∷ 0 ∷ 0 ∷ 0 ∷ 0 ∷ 0 ∷ 0 ∷ 0 ∷ 0 ∷ 0 ∷ 0 ∷ 0 ∷ 0 ∷ 0 ∷ 0 ∷ 0 ∷ []

asked-5-written : table_of asked-5 ≡ asked-5-table
unfolding computing
asked-5-written = refl

asked-5-changes : changes_on asked-5-table ((record { source = context 0 0 0; target = context 0 1 0; class = 0; perm = 0 }) ∷ (record
    { source = context 0 1 0; target = context 0 0 0; class = 0; perm = 0 }) ∷ (record
    { source = context 0 1 0; target = context 0 1 0; class = 0; perm = 0 }) ∷ []) ≡ record { verdict = denied 3; consulted = 0 } ∷ record
    { verdict = denied 3; consulted = 0 } ∷ record { verdict = granted; consulted = 0 } ∷ []
unfolding computing
asked-5-changes = refl

asked-5-statements : from_text asked-5 ((record { source = context 0 0 0; target = context 0 1 0; class = 0; perm = 0 }) ∷ (record
    { source = context 0 1 0; target = context 0 0 0; class = 0; perm = 0 }) ∷ (record
    { source = context 0 1 0; target = context 0 1 0; class = 0; perm = 0 }) ∷ []) ≡ record { verdict = denied 3; consulted = 0 } ∷ record
    { verdict = denied 3; consulted = 0 } ∷ record { verdict = granted; consulted = 0 } ∷ []
unfolding computing
asked-5-statements = refl

-- no role allow on another class, or for a name that only begins alike
abbrev asked-6 : List ℕ
asked-6 = bytes "(user u)(role a)(role b)(type t)(userrole u a)(userrole u b)(roletype a t)(roletype b t)(class file(transition))(class P" ++
    bytes "rocess(transition))(class process(p transitions dyntransition-))"

abbrev asked-6-table : List ℕ
asked-6-table = 2 ∷ 0 ∷ 10 ∷ 0 ∷ 84 ∷ 0 ∷ 0 ∷ 0 ∷ 116 ∷ 0 ∷ 0 ∷ 0 ∷ 200 ∷ 0 ∷ 0 ∷ 0 ∷ 16 ∷ 0 ∷ 0 ∷ 0 ∷ 216 ∷ 0 ∷ 0 ∷ 0 ∷ 128 ∷ 0 ∷ 0 ∷ 0 ∷ 88 ∷ 1
    ∷ 0 ∷ 0 ∷ 32 ∷ 0 ∷ 0 ∷ 0 ∷ 120 ∷ 1 ∷ 0 ∷ 0 ∷ 0 ∷ 0 ∷ 0 ∷ 0 ∷ 120 ∷ 1 ∷ 0 ∷ 0 ∷ 0 ∷ 0 ∷ 0 ∷ 0 ∷ 120 ∷ 1 ∷ 0 ∷ 0 ∷ 0 ∷ 0 ∷ 0 ∷ 0 ∷ 120 ∷ 1 ∷ 0 ∷ 0 ∷
    0 ∷ 0 ∷ 0 ∷ 0 ∷ 120 ∷ 1 ∷ 0 ∷ 0 ∷ 0 ∷ 0 ∷ 0 ∷ 0 ∷ 120 ∷ 1 ∷ 0 ∷ 0 ∷ 0 ∷ 0 ∷ 0 ∷ 0 ∷ 0 ∷ 0 ∷ 0 ∷ 1 ∷ 117 ∷ 1 ∷ 0 ∷ 0 ∷ 1 ∷ 97 ∷ 1 ∷ 1 ∷ 0 ∷ 1 ∷ 98
    ∷ 2 ∷ 0 ∷ 0 ∷ 1 ∷ 116 ∷ 6 ∷ 0 ∷ 0 ∷ 4 ∷ 102 ∷ 105 ∷ 108 ∷ 101 ∷ 7 ∷ 0 ∷ 0 ∷ 10 ∷ 116 ∷ 114 ∷ 97 ∷ 110 ∷ 115 ∷ 105 ∷ 116 ∷ 105 ∷ 111 ∷ 110 ∷ 6 ∷ 1
    ∷ 0 ∷ 7 ∷ 80 ∷ 114 ∷ 111 ∷ 99 ∷ 101 ∷ 115 ∷ 115 ∷ 7 ∷ 32 ∷ 0 ∷ 10 ∷ 116 ∷ 114 ∷ 97 ∷ 110 ∷ 115 ∷ 105 ∷ 116 ∷ 105 ∷ 111 ∷ 110 ∷ 6 ∷ 2 ∷ 0 ∷ 7 ∷ 112
    ∷ 114 ∷ 111 ∷ 99 ∷ 101 ∷ 115 ∷ 115 ∷ 7 ∷ 64 ∷ 0 ∷ 1 ∷ 112 ∷ 7 ∷ 65 ∷ 0 ∷ 11 ∷ 116 ∷ 114 ∷ 97 ∷ 110 ∷ 115 ∷ 105 ∷ 116 ∷ 105 ∷ 111 ∷ 110 ∷ 115 ∷ 7 ∷
    66 ∷ 0 ∷ 14 ∷ 100 ∷ 121 ∷ 110 ∷ 116 ∷ 114 ∷ 97 ∷ 110 ∷ 115 ∷ 105 ∷ 116 ∷ 105 ∷ 111 ∷ 110 ∷ 45 ∷ 3 ∷ 0 ∷ 0 ∷ 0 ∷ 0 ∷ 0 ∷ 0 ∷ 0 ∷ 0 ∷ 0 ∷ 0 ∷ 0 ∷ 0
    ∷ 0 ∷ 0 ∷ 0 ∷ 1 ∷ 0 ∷ 0 ∷ 0 ∷ 0 ∷ 0 ∷ 0 ∷ 0 ∷ 0 ∷ 0 ∷ 0 ∷ 0 ∷ 0 ∷ 0 ∷ 0 ∷ 0 ∷ 0 ∷ 0 ∷ 0 ∷ 0 ∷ 0 ∷ 0 ∷ 0 ∷ 0 ∷ 0 ∷ 0 ∷ 0 ∷ 0 ∷ 0 ∷ 0 ∷ 0 ∷ 0 ∷ 0 ∷
    0 ∷ 0 ∷ 0 ∷ 0 ∷ 0 ∷ 0 ∷ 0 ∷ 0 ∷ 0 ∷ 0 ∷ 0 ∷ 0 ∷ 0 ∷ 0 ∷ 0 ∷ 0 ∷ 0 ∷ 0 ∷ 0 ∷ 0 ∷ 0 ∷ 0 ∷ 0 ∷ 0 ∷ 0 ∷ 0 ∷ 0 ∷ 0 ∷ 0 ∷ 0 ∷ 0 ∷ 1 ∷ 0 ∷ 0 ∷ 0 ∷ 0 ∷ 0
    ∷ 0 ∷ 0 ∷ 0 ∷ 0 ∷ 0 ∷ 0 ∷ 0 ∷ 0 ∷ 0 ∷ 0 ∷ 0 ∷ 0 ∷ 0 ∷ 0 ∷ 0 ∷ 0 ∷ 0 ∷ 0 ∷ 0 ∷ 0 ∷ 0 ∷ 0 ∷ 0 ∷ 0 ∷ 0 ∷ 0 ∷ 0 ∷ 0 ∷ 0 ∷ 0 ∷ 0 ∷ 0 ∷ 0 ∷ 0 ∷ 0 ∷ 0 ∷
    0 ∷ 0 ∷ 0 ∷ 0 ∷ 0 ∷ 0 ∷ 0 ∷ 0 ∷ 0 ∷ 0 ∷ 0 ∷ 0 ∷ 0 ∷ 0 ∷ 0 ∷ 0 ∷ 0 ∷ 0 ∷ 0 ∷ 0 ∷ 0 ∷ 0 ∷ 0 ∷ 0 ∷ 0 ∷ 0 ∷ 0 ∷ 0 ∷ 0 ∷ 0 ∷ 0 ∷ 0 ∷ 0 ∷ 0 ∷ 0 ∷ 0 ∷ 0
    ∷ 0 ∷ 0 ∷ 0 ∷ 0 ∷ 0 ∷ 0 ∷ 0 ∷ 0 ∷ 0 ∷ 0 ∷ 0 ∷ 0 ∷ 0 ∷ 0 ∷ 0 ∷ 0 ∷ 0 ∷ []

asked-6-written : table_of asked-6 ≡ asked-6-table
unfolding computing
asked-6-written = refl

asked-6-changes : changes_on asked-6-table ((record { source = context 0 0 0; target = context 0 1 0; class = 0; perm = 0 }) ∷ (record
    { source = context 0 0 0; target = context 0 1 0; class = 1; perm = 0 }) ∷ (record
    { source = context 0 0 0; target = context 0 1 0; class = 2; perm = 0 }) ∷ (record
    { source = context 0 0 0; target = context 0 1 0; class = 2; perm = 1 }) ∷ (record
    { source = context 0 1 0; target = context 0 0 0; class = 2; perm = 2 }) ∷ []) ≡ record { verdict = granted; consulted = 0 } ∷ record
    { verdict = granted; consulted = 0 } ∷ record { verdict = granted; consulted = 0 } ∷ record { verdict = granted; consulted = 0 } ∷ record
    { verdict = granted; consulted = 0 } ∷ []
unfolding computing
asked-6-changes = refl

asked-6-statements : from_text asked-6 ((record { source = context 0 0 0; target = context 0 1 0; class = 0; perm = 0 }) ∷ (record
    { source = context 0 0 0; target = context 0 1 0; class = 1; perm = 0 }) ∷ (record
    { source = context 0 0 0; target = context 0 1 0; class = 2; perm = 0 }) ∷ (record
    { source = context 0 0 0; target = context 0 1 0; class = 2; perm = 1 }) ∷ (record
    { source = context 0 1 0; target = context 0 0 0; class = 2; perm = 2 }) ∷ []) ≡ record { verdict = granted; consulted = 0 } ∷ record
    { verdict = granted; consulted = 0 } ∷ record { verdict = granted; consulted = 0 } ∷ record { verdict = granted; consulted = 0 } ∷ record
    { verdict = granted; consulted = 0 } ∷ []
unfolding computing
asked-6-statements = refl

-- denial 3 before 4
abbrev asked-7 : List ℕ
asked-7 = bytes "(user u)(role a)(role b)(type t)(userrole u a)(userrole u b)(roletype a t)(roletype b t)(class process(transition))(cons" ++
    bytes "train(process(transition))(neq u1 u2))"

abbrev asked-7-table : List ℕ
asked-7-table = 2 ∷ 0 ∷ 10 ∷ 0 ∷ 84 ∷ 0 ∷ 0 ∷ 0 ∷ 45 ∷ 0 ∷ 0 ∷ 0 ∷ 129 ∷ 0 ∷ 0 ∷ 0 ∷ 16 ∷ 0 ∷ 0 ∷ 0 ∷ 145 ∷ 0 ∷ 0 ∷ 0 ∷ 128 ∷ 0 ∷ 0 ∷ 0 ∷ 17 ∷ 1 ∷
    0 ∷ 0 ∷ 32 ∷ 0 ∷ 0 ∷ 0 ∷ 49 ∷ 1 ∷ 0 ∷ 0 ∷ 0 ∷ 0 ∷ 0 ∷ 0 ∷ 49 ∷ 1 ∷ 0 ∷ 0 ∷ 10 ∷ 0 ∷ 0 ∷ 0 ∷ 59 ∷ 1 ∷ 0 ∷ 0 ∷ 6 ∷ 0 ∷ 0 ∷ 0 ∷ 65 ∷ 1 ∷ 0 ∷ 0 ∷ 0 ∷
    0 ∷ 0 ∷ 0 ∷ 65 ∷ 1 ∷ 0 ∷ 0 ∷ 0 ∷ 0 ∷ 0 ∷ 0 ∷ 65 ∷ 1 ∷ 0 ∷ 0 ∷ 0 ∷ 0 ∷ 0 ∷ 0 ∷ 0 ∷ 0 ∷ 0 ∷ 1 ∷ 117 ∷ 1 ∷ 0 ∷ 0 ∷ 1 ∷ 97 ∷ 1 ∷ 1 ∷ 0 ∷ 1 ∷ 98 ∷ 2 ∷
    0 ∷ 0 ∷ 1 ∷ 116 ∷ 6 ∷ 0 ∷ 0 ∷ 7 ∷ 112 ∷ 114 ∷ 111 ∷ 99 ∷ 101 ∷ 115 ∷ 115 ∷ 7 ∷ 0 ∷ 0 ∷ 10 ∷ 116 ∷ 114 ∷ 97 ∷ 110 ∷ 115 ∷ 105 ∷ 116 ∷ 105 ∷ 111 ∷
    110 ∷ 3 ∷ 0 ∷ 0 ∷ 0 ∷ 0 ∷ 0 ∷ 0 ∷ 0 ∷ 0 ∷ 0 ∷ 0 ∷ 0 ∷ 0 ∷ 0 ∷ 0 ∷ 0 ∷ 1 ∷ 0 ∷ 0 ∷ 0 ∷ 0 ∷ 0 ∷ 0 ∷ 0 ∷ 0 ∷ 0 ∷ 0 ∷ 0 ∷ 0 ∷ 0 ∷ 0 ∷ 0 ∷ 0 ∷ 0 ∷ 0 ∷
    0 ∷ 0 ∷ 0 ∷ 0 ∷ 0 ∷ 0 ∷ 0 ∷ 0 ∷ 0 ∷ 0 ∷ 0 ∷ 0 ∷ 0 ∷ 0 ∷ 0 ∷ 0 ∷ 0 ∷ 0 ∷ 0 ∷ 0 ∷ 0 ∷ 0 ∷ 0 ∷ 0 ∷ 0 ∷ 0 ∷ 0 ∷ 0 ∷ 0 ∷ 0 ∷ 0 ∷ 0 ∷ 0 ∷ 0 ∷ 0 ∷ 0 ∷ 0
    ∷ 0 ∷ 0 ∷ 0 ∷ 0 ∷ 0 ∷ 0 ∷ 0 ∷ 0 ∷ 1 ∷ 0 ∷ 0 ∷ 0 ∷ 0 ∷ 0 ∷ 0 ∷ 0 ∷ 0 ∷ 0 ∷ 0 ∷ 0 ∷ 0 ∷ 0 ∷ 0 ∷ 0 ∷ 0 ∷ 0 ∷ 0 ∷ 0 ∷ 0 ∷ 0 ∷ 0 ∷ 0 ∷ 0 ∷ 0 ∷ 0 ∷ 0 ∷
    0 ∷ 0 ∷ 0 ∷ 0 ∷ 0 ∷ 0 ∷ 0 ∷ 0 ∷ 0 ∷ 0 ∷ 0 ∷ 0 ∷ 0 ∷ 0 ∷ 0 ∷ 0 ∷ 0 ∷ 0 ∷ 0 ∷ 0 ∷ 0 ∷ 0 ∷ 0 ∷ 0 ∷ 0 ∷ 0 ∷ 0 ∷ 0 ∷ 0 ∷ 0 ∷ 0 ∷ 0 ∷ 0 ∷ 0 ∷ 0 ∷ 0 ∷ 0
    ∷ 0 ∷ 0 ∷ 0 ∷ 0 ∷ 0 ∷ 0 ∷ 0 ∷ 0 ∷ 0 ∷ 0 ∷ 0 ∷ 0 ∷ 0 ∷ 0 ∷ 0 ∷ 0 ∷ 0 ∷ 0 ∷ 0 ∷ 0 ∷ 0 ∷ 0 ∷ 0 ∷ 0 ∷ 0 ∷ 0 ∷ 0 ∷ 0 ∷ 0 ∷ 0 ∷ 0 ∷ 0 ∷ 0 ∷ 1 ∷ 0 ∷ 0 ∷
    0 ∷ 0 ∷ 0 ∷ 1 ∷ 0 ∷ 3 ∷ 0 ∷ 1 ∷ 0 ∷ 0 ∷ 0 ∷ []

asked-7-written : table_of asked-7 ≡ asked-7-table
unfolding computing
asked-7-written = refl

asked-7-changes : changes_on asked-7-table ((record { source = context 0 0 0; target = context 0 1 0; class = 0; perm = 0 }) ∷ (record
    { source = context 0 0 0; target = context 0 0 0; class = 0; perm = 0 }) ∷ []) ≡ record { verdict = denied 3; consulted = 0 } ∷ record
    { verdict = fails 4 0; consulted = 1 } ∷ []
unfolding computing
asked-7-changes = refl

asked-7-statements : from_text asked-7 ((record { source = context 0 0 0; target = context 0 1 0; class = 0; perm = 0 }) ∷ (record
    { source = context 0 0 0; target = context 0 0 0; class = 0; perm = 0 }) ∷ []) ≡ record { verdict = denied 3; consulted = 0 } ∷ record
    { verdict = fails 4 0; consulted = 1 } ∷ []
unfolding computing
asked-7-statements = refl

-- consulted: those that name class and permission, up to the first that fails
abbrev asked-8 : List ℕ
asked-8 = bytes "(user u)(role a)(role b)(type t)(userrole u a)(userrole u b)(roletype a t)(roletype b t)(class c(p q))(class d(p))(const" ++
    bytes "rain(d(p))(neq u1 u2))(constrain(c(p))(eq u1 u2))(constrain(c(q))(neq u1 u2))(constrain(c(p q))(eq r1 r2))(constrain(c(p" ++ bytes
    "))(neq t1 t2))"

abbrev asked-8-table : List ℕ
asked-8-table = 2 ∷ 0 ∷ 10 ∷ 0 ∷ 84 ∷ 0 ∷ 0 ∷ 0 ∷ 45 ∷ 0 ∷ 0 ∷ 0 ∷ 129 ∷ 0 ∷ 0 ∷ 0 ∷ 16 ∷ 0 ∷ 0 ∷ 0 ∷ 145 ∷ 0 ∷ 0 ∷ 0 ∷ 128 ∷ 0 ∷ 0 ∷ 0 ∷ 17 ∷ 1 ∷
    0 ∷ 0 ∷ 32 ∷ 0 ∷ 0 ∷ 0 ∷ 49 ∷ 1 ∷ 0 ∷ 0 ∷ 0 ∷ 0 ∷ 0 ∷ 0 ∷ 49 ∷ 1 ∷ 0 ∷ 0 ∷ 50 ∷ 0 ∷ 0 ∷ 0 ∷ 99 ∷ 1 ∷ 0 ∷ 0 ∷ 30 ∷ 0 ∷ 0 ∷ 0 ∷ 129 ∷ 1 ∷ 0 ∷ 0 ∷ 0
    ∷ 0 ∷ 0 ∷ 0 ∷ 129 ∷ 1 ∷ 0 ∷ 0 ∷ 0 ∷ 0 ∷ 0 ∷ 0 ∷ 129 ∷ 1 ∷ 0 ∷ 0 ∷ 0 ∷ 0 ∷ 0 ∷ 0 ∷ 0 ∷ 0 ∷ 0 ∷ 1 ∷ 117 ∷ 1 ∷ 0 ∷ 0 ∷ 1 ∷ 97 ∷ 1 ∷ 1 ∷ 0 ∷ 1 ∷ 98 ∷
    2 ∷ 0 ∷ 0 ∷ 1 ∷ 116 ∷ 6 ∷ 0 ∷ 0 ∷ 1 ∷ 99 ∷ 7 ∷ 0 ∷ 0 ∷ 1 ∷ 112 ∷ 7 ∷ 1 ∷ 0 ∷ 1 ∷ 113 ∷ 6 ∷ 1 ∷ 0 ∷ 1 ∷ 100 ∷ 7 ∷ 32 ∷ 0 ∷ 1 ∷ 112 ∷ 3 ∷ 0 ∷ 0 ∷ 0
    ∷ 0 ∷ 0 ∷ 0 ∷ 0 ∷ 0 ∷ 0 ∷ 0 ∷ 0 ∷ 0 ∷ 0 ∷ 0 ∷ 0 ∷ 1 ∷ 0 ∷ 0 ∷ 0 ∷ 0 ∷ 0 ∷ 0 ∷ 0 ∷ 0 ∷ 0 ∷ 0 ∷ 0 ∷ 0 ∷ 0 ∷ 0 ∷ 0 ∷ 0 ∷ 0 ∷ 0 ∷ 0 ∷ 0 ∷ 0 ∷ 0 ∷ 0 ∷
    0 ∷ 0 ∷ 0 ∷ 0 ∷ 0 ∷ 0 ∷ 0 ∷ 0 ∷ 0 ∷ 0 ∷ 0 ∷ 0 ∷ 0 ∷ 0 ∷ 0 ∷ 0 ∷ 0 ∷ 0 ∷ 0 ∷ 0 ∷ 0 ∷ 0 ∷ 0 ∷ 0 ∷ 0 ∷ 0 ∷ 0 ∷ 0 ∷ 0 ∷ 0 ∷ 0 ∷ 0 ∷ 0 ∷ 0 ∷ 0 ∷ 0 ∷ 0
    ∷ 0 ∷ 0 ∷ 0 ∷ 1 ∷ 0 ∷ 0 ∷ 0 ∷ 0 ∷ 0 ∷ 0 ∷ 0 ∷ 0 ∷ 0 ∷ 0 ∷ 0 ∷ 0 ∷ 0 ∷ 0 ∷ 0 ∷ 0 ∷ 0 ∷ 0 ∷ 0 ∷ 0 ∷ 0 ∷ 0 ∷ 0 ∷ 0 ∷ 0 ∷ 0 ∷ 0 ∷ 0 ∷ 0 ∷ 0 ∷ 0 ∷ 0 ∷
    0 ∷ 0 ∷ 0 ∷ 0 ∷ 0 ∷ 0 ∷ 0 ∷ 0 ∷ 0 ∷ 0 ∷ 0 ∷ 0 ∷ 0 ∷ 0 ∷ 0 ∷ 0 ∷ 0 ∷ 0 ∷ 0 ∷ 0 ∷ 0 ∷ 0 ∷ 0 ∷ 0 ∷ 0 ∷ 0 ∷ 0 ∷ 0 ∷ 0 ∷ 0 ∷ 0 ∷ 0 ∷ 0 ∷ 0 ∷ 0 ∷ 0 ∷ 0
    ∷ 0 ∷ 0 ∷ 0 ∷ 0 ∷ 0 ∷ 0 ∷ 0 ∷ 0 ∷ 0 ∷ 0 ∷ 0 ∷ 0 ∷ 0 ∷ 0 ∷ 0 ∷ 0 ∷ 0 ∷ 0 ∷ 0 ∷ 0 ∷ 0 ∷ 0 ∷ 0 ∷ 0 ∷ 0 ∷ 0 ∷ 1 ∷ 0 ∷ 1 ∷ 0 ∷ 0 ∷ 0 ∷ 0 ∷ 0 ∷ 1 ∷ 0 ∷
    0 ∷ 0 ∷ 1 ∷ 0 ∷ 0 ∷ 0 ∷ 1 ∷ 0 ∷ 1 ∷ 0 ∷ 0 ∷ 0 ∷ 2 ∷ 0 ∷ 0 ∷ 0 ∷ 2 ∷ 0 ∷ 1 ∷ 0 ∷ 0 ∷ 0 ∷ 3 ∷ 0 ∷ 0 ∷ 0 ∷ 3 ∷ 0 ∷ 1 ∷ 0 ∷ 0 ∷ 0 ∷ 1 ∷ 0 ∷ 0 ∷ 0 ∷ 4
    ∷ 0 ∷ 1 ∷ 0 ∷ 3 ∷ 0 ∷ 1 ∷ 0 ∷ 0 ∷ 0 ∷ 3 ∷ 0 ∷ 0 ∷ 0 ∷ 0 ∷ 0 ∷ 3 ∷ 0 ∷ 1 ∷ 0 ∷ 0 ∷ 0 ∷ 3 ∷ 2 ∷ 0 ∷ 0 ∷ 0 ∷ 0 ∷ 3 ∷ 4 ∷ 1 ∷ 0 ∷ 0 ∷ 0 ∷ []

asked-8-written : table_of asked-8 ≡ asked-8-table
unfolding computing
asked-8-written = refl

asked-8-changes : changes_on asked-8-table ((record { source = context 0 0 0; target = context 0 1 0; class = 0; perm = 0 }) ∷ (record
    { source = context 0 0 0; target = context 0 0 0; class = 0; perm = 0 }) ∷ (record
    { source = context 0 0 0; target = context 0 0 0; class = 0; perm = 1 }) ∷ (record
    { source = context 0 0 0; target = context 0 1 0; class = 1; perm = 0 }) ∷ []) ≡ record { verdict = fails 4 3; consulted = 2 } ∷ record
    { verdict = fails 4 4; consulted = 3 } ∷ record { verdict = fails 4 2; consulted = 1 } ∷ record { verdict = fails 4 0; consulted = 1 } ∷ []
unfolding computing
asked-8-changes = refl

asked-8-statements : from_text asked-8 ((record { source = context 0 0 0; target = context 0 1 0; class = 0; perm = 0 }) ∷ (record
    { source = context 0 0 0; target = context 0 0 0; class = 0; perm = 0 }) ∷ (record
    { source = context 0 0 0; target = context 0 0 0; class = 0; perm = 1 }) ∷ (record
    { source = context 0 0 0; target = context 0 1 0; class = 1; perm = 0 }) ∷ []) ≡ record { verdict = fails 4 3; consulted = 2 } ∷ record
    { verdict = fails 4 4; consulted = 3 } ∷ record { verdict = fails 4 2; consulted = 1 } ∷ record { verdict = fails 4 0; consulted = 1 } ∷ []
unfolding computing
asked-8-statements = refl

-- none names the permission
abbrev asked-9 : List ℕ
asked-9 = bytes "(user u)(role a)(role b)(type t)(userrole u a)(userrole u b)(roletype a t)(roletype b t)(class c(p q))(class d(p))(const" ++
    bytes "rain(c(p))(neq u1 u2))"

abbrev asked-9-table : List ℕ
asked-9-table = 2 ∷ 0 ∷ 10 ∷ 0 ∷ 84 ∷ 0 ∷ 0 ∷ 0 ∷ 45 ∷ 0 ∷ 0 ∷ 0 ∷ 129 ∷ 0 ∷ 0 ∷ 0 ∷ 16 ∷ 0 ∷ 0 ∷ 0 ∷ 145 ∷ 0 ∷ 0 ∷ 0 ∷ 128 ∷ 0 ∷ 0 ∷ 0 ∷ 17 ∷ 1 ∷
    0 ∷ 0 ∷ 32 ∷ 0 ∷ 0 ∷ 0 ∷ 49 ∷ 1 ∷ 0 ∷ 0 ∷ 0 ∷ 0 ∷ 0 ∷ 0 ∷ 49 ∷ 1 ∷ 0 ∷ 0 ∷ 10 ∷ 0 ∷ 0 ∷ 0 ∷ 59 ∷ 1 ∷ 0 ∷ 0 ∷ 6 ∷ 0 ∷ 0 ∷ 0 ∷ 65 ∷ 1 ∷ 0 ∷ 0 ∷ 0 ∷
    0 ∷ 0 ∷ 0 ∷ 65 ∷ 1 ∷ 0 ∷ 0 ∷ 0 ∷ 0 ∷ 0 ∷ 0 ∷ 65 ∷ 1 ∷ 0 ∷ 0 ∷ 0 ∷ 0 ∷ 0 ∷ 0 ∷ 0 ∷ 0 ∷ 0 ∷ 1 ∷ 117 ∷ 1 ∷ 0 ∷ 0 ∷ 1 ∷ 97 ∷ 1 ∷ 1 ∷ 0 ∷ 1 ∷ 98 ∷ 2 ∷
    0 ∷ 0 ∷ 1 ∷ 116 ∷ 6 ∷ 0 ∷ 0 ∷ 1 ∷ 99 ∷ 7 ∷ 0 ∷ 0 ∷ 1 ∷ 112 ∷ 7 ∷ 1 ∷ 0 ∷ 1 ∷ 113 ∷ 6 ∷ 1 ∷ 0 ∷ 1 ∷ 100 ∷ 7 ∷ 32 ∷ 0 ∷ 1 ∷ 112 ∷ 3 ∷ 0 ∷ 0 ∷ 0 ∷ 0
    ∷ 0 ∷ 0 ∷ 0 ∷ 0 ∷ 0 ∷ 0 ∷ 0 ∷ 0 ∷ 0 ∷ 0 ∷ 0 ∷ 1 ∷ 0 ∷ 0 ∷ 0 ∷ 0 ∷ 0 ∷ 0 ∷ 0 ∷ 0 ∷ 0 ∷ 0 ∷ 0 ∷ 0 ∷ 0 ∷ 0 ∷ 0 ∷ 0 ∷ 0 ∷ 0 ∷ 0 ∷ 0 ∷ 0 ∷ 0 ∷ 0 ∷ 0 ∷
    0 ∷ 0 ∷ 0 ∷ 0 ∷ 0 ∷ 0 ∷ 0 ∷ 0 ∷ 0 ∷ 0 ∷ 0 ∷ 0 ∷ 0 ∷ 0 ∷ 0 ∷ 0 ∷ 0 ∷ 0 ∷ 0 ∷ 0 ∷ 0 ∷ 0 ∷ 0 ∷ 0 ∷ 0 ∷ 0 ∷ 0 ∷ 0 ∷ 0 ∷ 0 ∷ 0 ∷ 0 ∷ 0 ∷ 0 ∷ 0 ∷ 0 ∷ 0
    ∷ 0 ∷ 0 ∷ 1 ∷ 0 ∷ 0 ∷ 0 ∷ 0 ∷ 0 ∷ 0 ∷ 0 ∷ 0 ∷ 0 ∷ 0 ∷ 0 ∷ 0 ∷ 0 ∷ 0 ∷ 0 ∷ 0 ∷ 0 ∷ 0 ∷ 0 ∷ 0 ∷ 0 ∷ 0 ∷ 0 ∷ 0 ∷ 0 ∷ 0 ∷ 0 ∷ 0 ∷ 0 ∷ 0 ∷ 0 ∷ 0 ∷ 0 ∷
    0 ∷ 0 ∷ 0 ∷ 0 ∷ 0 ∷ 0 ∷ 0 ∷ 0 ∷ 0 ∷ 0 ∷ 0 ∷ 0 ∷ 0 ∷ 0 ∷ 0 ∷ 0 ∷ 0 ∷ 0 ∷ 0 ∷ 0 ∷ 0 ∷ 0 ∷ 0 ∷ 0 ∷ 0 ∷ 0 ∷ 0 ∷ 0 ∷ 0 ∷ 0 ∷ 0 ∷ 0 ∷ 0 ∷ 0 ∷ 0 ∷ 0 ∷ 0
    ∷ 0 ∷ 0 ∷ 0 ∷ 0 ∷ 0 ∷ 0 ∷ 0 ∷ 0 ∷ 0 ∷ 0 ∷ 0 ∷ 0 ∷ 0 ∷ 0 ∷ 0 ∷ 0 ∷ 0 ∷ 0 ∷ 0 ∷ 0 ∷ 0 ∷ 0 ∷ 0 ∷ 0 ∷ 0 ∷ 0 ∷ 0 ∷ 1 ∷ 0 ∷ 0 ∷ 0 ∷ 0 ∷ 0 ∷ 1 ∷ 0 ∷ 3 ∷
    0 ∷ 1 ∷ 0 ∷ 0 ∷ 0 ∷ []

asked-9-written : table_of asked-9 ≡ asked-9-table
unfolding computing
asked-9-written = refl

asked-9-changes : changes_on asked-9-table ((record { source = context 0 0 0; target = context 0 0 0; class = 0; perm = 1 }) ∷ (record
    { source = context 0 0 0; target = context 0 0 0; class = 1; perm = 0 }) ∷ []) ≡ record { verdict = granted; consulted = 0 } ∷ record
    { verdict = granted; consulted = 0 } ∷ []
unfolding computing
asked-9-changes = refl

asked-9-statements : from_text asked-9 ((record { source = context 0 0 0; target = context 0 0 0; class = 0; perm = 1 }) ∷ (record
    { source = context 0 0 0; target = context 0 0 0; class = 1; perm = 0 }) ∷ []) ≡ record { verdict = granted; consulted = 0 } ∷ record
    { verdict = granted; consulted = 0 } ∷ []
unfolding computing
asked-9-statements = refl

-- granted: all of them
abbrev asked-10 : List ℕ
asked-10 = bytes "(user u)(role a)(role b)(type t)(userrole u a)(userrole u b)(roletype a t)(roletype b t)(class c(p q))(class d(p))(const" ++
    bytes "rain(c(p))(eq u1 u2))(constrain(c(q p q))(eq t1 t2))(constrain(c(p))(eq u2 u))"

abbrev asked-10-table : List ℕ
asked-10-table = 2 ∷ 0 ∷ 10 ∷ 0 ∷ 84 ∷ 0 ∷ 0 ∷ 0 ∷ 45 ∷ 0 ∷ 0 ∷ 0 ∷ 129 ∷ 0 ∷ 0 ∷ 0 ∷ 16 ∷ 0 ∷ 0 ∷ 0 ∷ 145 ∷ 0 ∷ 0 ∷ 0 ∷ 128 ∷ 0 ∷ 0 ∷ 0 ∷ 17 ∷ 1
    ∷ 0 ∷ 0 ∷ 32 ∷ 0 ∷ 0 ∷ 0 ∷ 49 ∷ 1 ∷ 0 ∷ 0 ∷ 0 ∷ 0 ∷ 0 ∷ 0 ∷ 49 ∷ 1 ∷ 0 ∷ 0 ∷ 30 ∷ 0 ∷ 0 ∷ 0 ∷ 79 ∷ 1 ∷ 0 ∷ 0 ∷ 18 ∷ 0 ∷ 0 ∷ 0 ∷ 97 ∷ 1 ∷ 0 ∷ 0 ∷ 0
    ∷ 0 ∷ 0 ∷ 0 ∷ 97 ∷ 1 ∷ 0 ∷ 0 ∷ 0 ∷ 0 ∷ 0 ∷ 0 ∷ 97 ∷ 1 ∷ 0 ∷ 0 ∷ 0 ∷ 0 ∷ 0 ∷ 0 ∷ 0 ∷ 0 ∷ 0 ∷ 1 ∷ 117 ∷ 1 ∷ 0 ∷ 0 ∷ 1 ∷ 97 ∷ 1 ∷ 1 ∷ 0 ∷ 1 ∷ 98 ∷ 2
    ∷ 0 ∷ 0 ∷ 1 ∷ 116 ∷ 6 ∷ 0 ∷ 0 ∷ 1 ∷ 99 ∷ 7 ∷ 0 ∷ 0 ∷ 1 ∷ 112 ∷ 7 ∷ 1 ∷ 0 ∷ 1 ∷ 113 ∷ 6 ∷ 1 ∷ 0 ∷ 1 ∷ 100 ∷ 7 ∷ 32 ∷ 0 ∷ 1 ∷ 112 ∷ 3 ∷ 0 ∷ 0 ∷ 0 ∷
    0 ∷ 0 ∷ 0 ∷ 0 ∷ 0 ∷ 0 ∷ 0 ∷ 0 ∷ 0 ∷ 0 ∷ 0 ∷ 0 ∷ 1 ∷ 0 ∷ 0 ∷ 0 ∷ 0 ∷ 0 ∷ 0 ∷ 0 ∷ 0 ∷ 0 ∷ 0 ∷ 0 ∷ 0 ∷ 0 ∷ 0 ∷ 0 ∷ 0 ∷ 0 ∷ 0 ∷ 0 ∷ 0 ∷ 0 ∷ 0 ∷ 0 ∷ 0
    ∷ 0 ∷ 0 ∷ 0 ∷ 0 ∷ 0 ∷ 0 ∷ 0 ∷ 0 ∷ 0 ∷ 0 ∷ 0 ∷ 0 ∷ 0 ∷ 0 ∷ 0 ∷ 0 ∷ 0 ∷ 0 ∷ 0 ∷ 0 ∷ 0 ∷ 0 ∷ 0 ∷ 0 ∷ 0 ∷ 0 ∷ 0 ∷ 0 ∷ 0 ∷ 0 ∷ 0 ∷ 0 ∷ 0 ∷ 0 ∷ 0 ∷ 0 ∷
    0 ∷ 0 ∷ 0 ∷ 1 ∷ 0 ∷ 0 ∷ 0 ∷ 0 ∷ 0 ∷ 0 ∷ 0 ∷ 0 ∷ 0 ∷ 0 ∷ 0 ∷ 0 ∷ 0 ∷ 0 ∷ 0 ∷ 0 ∷ 0 ∷ 0 ∷ 0 ∷ 0 ∷ 0 ∷ 0 ∷ 0 ∷ 0 ∷ 0 ∷ 0 ∷ 0 ∷ 0 ∷ 0 ∷ 0 ∷ 0 ∷ 0 ∷ 0
    ∷ 0 ∷ 0 ∷ 0 ∷ 0 ∷ 0 ∷ 0 ∷ 0 ∷ 0 ∷ 0 ∷ 0 ∷ 0 ∷ 0 ∷ 0 ∷ 0 ∷ 0 ∷ 0 ∷ 0 ∷ 0 ∷ 0 ∷ 0 ∷ 0 ∷ 0 ∷ 0 ∷ 0 ∷ 0 ∷ 0 ∷ 0 ∷ 0 ∷ 0 ∷ 0 ∷ 0 ∷ 0 ∷ 0 ∷ 0 ∷ 0 ∷ 0 ∷
    0 ∷ 0 ∷ 0 ∷ 0 ∷ 0 ∷ 0 ∷ 0 ∷ 0 ∷ 0 ∷ 0 ∷ 0 ∷ 0 ∷ 0 ∷ 0 ∷ 0 ∷ 0 ∷ 0 ∷ 0 ∷ 0 ∷ 0 ∷ 0 ∷ 0 ∷ 0 ∷ 0 ∷ 0 ∷ 0 ∷ 0 ∷ 0 ∷ 1 ∷ 0 ∷ 0 ∷ 0 ∷ 0 ∷ 0 ∷ 1 ∷ 0 ∷ 0
    ∷ 0 ∷ 3 ∷ 0 ∷ 0 ∷ 0 ∷ 1 ∷ 0 ∷ 1 ∷ 0 ∷ 0 ∷ 0 ∷ 1 ∷ 0 ∷ 0 ∷ 0 ∷ 2 ∷ 0 ∷ 1 ∷ 0 ∷ 3 ∷ 0 ∷ 0 ∷ 0 ∷ 0 ∷ 0 ∷ 3 ∷ 4 ∷ 0 ∷ 0 ∷ 0 ∷ 0 ∷ 4 ∷ 1 ∷ 0 ∷ 0 ∷ 0 ∷
    0 ∷ []

asked-10-written : table_of asked-10 ≡ asked-10-table
unfolding computing
asked-10-written = refl

asked-10-changes : changes_on asked-10-table ((record { source = context 0 0 0; target = context 0 1 0; class = 0; perm = 0 }) ∷ (record
    { source = context 0 0 0; target = context 0 1 0; class = 0; perm = 1 }) ∷ []) ≡ record { verdict = granted; consulted = 3 } ∷ record
    { verdict = granted; consulted = 1 } ∷ []
unfolding computing
asked-10-changes = refl

asked-10-statements : from_text asked-10 ((record { source = context 0 0 0; target = context 0 1 0; class = 0; perm = 0 }) ∷ (record
    { source = context 0 0 0; target = context 0 1 0; class = 0; perm = 1 }) ∷ []) ≡ record { verdict = granted; consulted = 3 } ∷ record
    { verdict = granted; consulted = 1 } ∷ []
unfolding computing
asked-10-statements = refl

-- the first of several that fail
abbrev asked-11 : List ℕ
asked-11 = bytes "(user u)(role a)(role b)(type t)(userrole u a)(userrole u b)(roletype a t)(roletype b t)(class c(p q))(class d(p))(const" ++
    bytes "rain(c(q))(eq r1 r2))(constrain(c(p))(eq t1 t2))(constrain(c(p q))(incomp r1 r2))"

abbrev asked-11-table : List ℕ
asked-11-table = 2 ∷ 0 ∷ 10 ∷ 0 ∷ 84 ∷ 0 ∷ 0 ∷ 0 ∷ 45 ∷ 0 ∷ 0 ∷ 0 ∷ 129 ∷ 0 ∷ 0 ∷ 0 ∷ 16 ∷ 0 ∷ 0 ∷ 0 ∷ 145 ∷ 0 ∷ 0 ∷ 0 ∷ 128 ∷ 0 ∷ 0 ∷ 0 ∷ 17 ∷ 1
    ∷ 0 ∷ 0 ∷ 32 ∷ 0 ∷ 0 ∷ 0 ∷ 49 ∷ 1 ∷ 0 ∷ 0 ∷ 0 ∷ 0 ∷ 0 ∷ 0 ∷ 49 ∷ 1 ∷ 0 ∷ 0 ∷ 30 ∷ 0 ∷ 0 ∷ 0 ∷ 79 ∷ 1 ∷ 0 ∷ 0 ∷ 18 ∷ 0 ∷ 0 ∷ 0 ∷ 97 ∷ 1 ∷ 0 ∷ 0 ∷ 0
    ∷ 0 ∷ 0 ∷ 0 ∷ 97 ∷ 1 ∷ 0 ∷ 0 ∷ 0 ∷ 0 ∷ 0 ∷ 0 ∷ 97 ∷ 1 ∷ 0 ∷ 0 ∷ 0 ∷ 0 ∷ 0 ∷ 0 ∷ 0 ∷ 0 ∷ 0 ∷ 1 ∷ 117 ∷ 1 ∷ 0 ∷ 0 ∷ 1 ∷ 97 ∷ 1 ∷ 1 ∷ 0 ∷ 1 ∷ 98 ∷ 2
    ∷ 0 ∷ 0 ∷ 1 ∷ 116 ∷ 6 ∷ 0 ∷ 0 ∷ 1 ∷ 99 ∷ 7 ∷ 0 ∷ 0 ∷ 1 ∷ 112 ∷ 7 ∷ 1 ∷ 0 ∷ 1 ∷ 113 ∷ 6 ∷ 1 ∷ 0 ∷ 1 ∷ 100 ∷ 7 ∷ 32 ∷ 0 ∷ 1 ∷ 112 ∷ 3 ∷ 0 ∷ 0 ∷ 0 ∷
    0 ∷ 0 ∷ 0 ∷ 0 ∷ 0 ∷ 0 ∷ 0 ∷ 0 ∷ 0 ∷ 0 ∷ 0 ∷ 0 ∷ 1 ∷ 0 ∷ 0 ∷ 0 ∷ 0 ∷ 0 ∷ 0 ∷ 0 ∷ 0 ∷ 0 ∷ 0 ∷ 0 ∷ 0 ∷ 0 ∷ 0 ∷ 0 ∷ 0 ∷ 0 ∷ 0 ∷ 0 ∷ 0 ∷ 0 ∷ 0 ∷ 0 ∷ 0
    ∷ 0 ∷ 0 ∷ 0 ∷ 0 ∷ 0 ∷ 0 ∷ 0 ∷ 0 ∷ 0 ∷ 0 ∷ 0 ∷ 0 ∷ 0 ∷ 0 ∷ 0 ∷ 0 ∷ 0 ∷ 0 ∷ 0 ∷ 0 ∷ 0 ∷ 0 ∷ 0 ∷ 0 ∷ 0 ∷ 0 ∷ 0 ∷ 0 ∷ 0 ∷ 0 ∷ 0 ∷ 0 ∷ 0 ∷ 0 ∷ 0 ∷ 0 ∷
    0 ∷ 0 ∷ 0 ∷ 1 ∷ 0 ∷ 0 ∷ 0 ∷ 0 ∷ 0 ∷ 0 ∷ 0 ∷ 0 ∷ 0 ∷ 0 ∷ 0 ∷ 0 ∷ 0 ∷ 0 ∷ 0 ∷ 0 ∷ 0 ∷ 0 ∷ 0 ∷ 0 ∷ 0 ∷ 0 ∷ 0 ∷ 0 ∷ 0 ∷ 0 ∷ 0 ∷ 0 ∷ 0 ∷ 0 ∷ 0 ∷ 0 ∷ 0
    ∷ 0 ∷ 0 ∷ 0 ∷ 0 ∷ 0 ∷ 0 ∷ 0 ∷ 0 ∷ 0 ∷ 0 ∷ 0 ∷ 0 ∷ 0 ∷ 0 ∷ 0 ∷ 0 ∷ 0 ∷ 0 ∷ 0 ∷ 0 ∷ 0 ∷ 0 ∷ 0 ∷ 0 ∷ 0 ∷ 0 ∷ 0 ∷ 0 ∷ 0 ∷ 0 ∷ 0 ∷ 0 ∷ 0 ∷ 0 ∷ 0 ∷ 0 ∷
    0 ∷ 0 ∷ 0 ∷ 0 ∷ 0 ∷ 0 ∷ 0 ∷ 0 ∷ 0 ∷ 0 ∷ 0 ∷ 0 ∷ 0 ∷ 0 ∷ 0 ∷ 0 ∷ 0 ∷ 0 ∷ 0 ∷ 0 ∷ 0 ∷ 0 ∷ 0 ∷ 0 ∷ 0 ∷ 0 ∷ 0 ∷ 0 ∷ 2 ∷ 0 ∷ 0 ∷ 0 ∷ 0 ∷ 0 ∷ 1 ∷ 0 ∷ 0
    ∷ 0 ∷ 1 ∷ 0 ∷ 0 ∷ 0 ∷ 1 ∷ 0 ∷ 1 ∷ 0 ∷ 0 ∷ 0 ∷ 3 ∷ 0 ∷ 0 ∷ 0 ∷ 2 ∷ 0 ∷ 1 ∷ 0 ∷ 3 ∷ 2 ∷ 0 ∷ 0 ∷ 0 ∷ 0 ∷ 3 ∷ 4 ∷ 0 ∷ 0 ∷ 0 ∷ 0 ∷ 3 ∷ 2 ∷ 4 ∷ 0 ∷ 0 ∷
    0 ∷ []

asked-11-written : table_of asked-11 ≡ asked-11-table
unfolding computing
asked-11-written = refl

asked-11-changes : changes_on asked-11-table ((record { source = context 0 0 0; target = context 0 0 0; class = 0; perm = 0 }) ∷ (record
    { source = context 0 0 0; target = context 0 0 0; class = 0; perm = 1 }) ∷ (record
    { source = context 0 0 0; target = context 0 1 0; class = 0; perm = 1 }) ∷ []) ≡ record { verdict = fails 4 2; consulted = 2 } ∷ record
    { verdict = fails 4 2; consulted = 2 } ∷ record { verdict = fails 4 0; consulted = 1 } ∷ []
unfolding computing
asked-11-changes = refl

asked-11-statements : from_text asked-11 ((record { source = context 0 0 0; target = context 0 0 0; class = 0; perm = 0 }) ∷ (record
    { source = context 0 0 0; target = context 0 0 0; class = 0; perm = 1 }) ∷ (record
    { source = context 0 0 0; target = context 0 1 0; class = 0; perm = 1 }) ∷ []) ≡ record { verdict = fails 4 2; consulted = 2 } ∷ record
    { verdict = fails 4 2; consulted = 2 } ∷ record { verdict = fails 4 0; consulted = 1 } ∷ []
unfolding computing
asked-11-statements = refl

-- the highest permission of a class
abbrev asked-12 : List ℕ
asked-12 = bytes "(user u)(role a)(role b)(type t)(userrole u a)(userrole u b)(roletype a t)(roletype b t)(class c(a b c d e f g h i))(con" ++
    bytes "strain(c(i))(neq u1 u2))(constrain(c(a))(eq u1 u2))"

abbrev asked-12-table : List ℕ
asked-12-table = 2 ∷ 0 ∷ 10 ∷ 0 ∷ 84 ∷ 0 ∷ 0 ∷ 0 ∷ 70 ∷ 0 ∷ 0 ∷ 0 ∷ 154 ∷ 0 ∷ 0 ∷ 0 ∷ 16 ∷ 0 ∷ 0 ∷ 0 ∷ 170 ∷ 0 ∷ 0 ∷ 0 ∷ 128 ∷ 0 ∷ 0 ∷ 0 ∷ 42 ∷ 1
    ∷ 0 ∷ 0 ∷ 32 ∷ 0 ∷ 0 ∷ 0 ∷ 74 ∷ 1 ∷ 0 ∷ 0 ∷ 0 ∷ 0 ∷ 0 ∷ 0 ∷ 74 ∷ 1 ∷ 0 ∷ 0 ∷ 20 ∷ 0 ∷ 0 ∷ 0 ∷ 94 ∷ 1 ∷ 0 ∷ 0 ∷ 12 ∷ 0 ∷ 0 ∷ 0 ∷ 106 ∷ 1 ∷ 0 ∷ 0 ∷
    0 ∷ 0 ∷ 0 ∷ 0 ∷ 106 ∷ 1 ∷ 0 ∷ 0 ∷ 0 ∷ 0 ∷ 0 ∷ 0 ∷ 106 ∷ 1 ∷ 0 ∷ 0 ∷ 0 ∷ 0 ∷ 0 ∷ 0 ∷ 0 ∷ 0 ∷ 0 ∷ 1 ∷ 117 ∷ 1 ∷ 0 ∷ 0 ∷ 1 ∷ 97 ∷ 1 ∷ 1 ∷ 0 ∷ 1 ∷ 98
    ∷ 2 ∷ 0 ∷ 0 ∷ 1 ∷ 116 ∷ 6 ∷ 0 ∷ 0 ∷ 1 ∷ 99 ∷ 7 ∷ 0 ∷ 0 ∷ 1 ∷ 97 ∷ 7 ∷ 1 ∷ 0 ∷ 1 ∷ 98 ∷ 7 ∷ 2 ∷ 0 ∷ 1 ∷ 99 ∷ 7 ∷ 3 ∷ 0 ∷ 1 ∷ 100 ∷ 7 ∷ 4 ∷ 0 ∷ 1 ∷
    101 ∷ 7 ∷ 5 ∷ 0 ∷ 1 ∷ 102 ∷ 7 ∷ 6 ∷ 0 ∷ 1 ∷ 103 ∷ 7 ∷ 7 ∷ 0 ∷ 1 ∷ 104 ∷ 7 ∷ 8 ∷ 0 ∷ 1 ∷ 105 ∷ 3 ∷ 0 ∷ 0 ∷ 0 ∷ 0 ∷ 0 ∷ 0 ∷ 0 ∷ 0 ∷ 0 ∷ 0 ∷ 0 ∷ 0 ∷
    0 ∷ 0 ∷ 0 ∷ 1 ∷ 0 ∷ 0 ∷ 0 ∷ 0 ∷ 0 ∷ 0 ∷ 0 ∷ 0 ∷ 0 ∷ 0 ∷ 0 ∷ 0 ∷ 0 ∷ 0 ∷ 0 ∷ 0 ∷ 0 ∷ 0 ∷ 0 ∷ 0 ∷ 0 ∷ 0 ∷ 0 ∷ 0 ∷ 0 ∷ 0 ∷ 0 ∷ 0 ∷ 0 ∷ 0 ∷ 0 ∷ 0 ∷ 0
    ∷ 0 ∷ 0 ∷ 0 ∷ 0 ∷ 0 ∷ 0 ∷ 0 ∷ 0 ∷ 0 ∷ 0 ∷ 0 ∷ 0 ∷ 0 ∷ 0 ∷ 0 ∷ 0 ∷ 0 ∷ 0 ∷ 0 ∷ 0 ∷ 0 ∷ 0 ∷ 0 ∷ 0 ∷ 0 ∷ 0 ∷ 0 ∷ 0 ∷ 0 ∷ 0 ∷ 1 ∷ 0 ∷ 0 ∷ 0 ∷ 0 ∷ 0 ∷
    0 ∷ 0 ∷ 0 ∷ 0 ∷ 0 ∷ 0 ∷ 0 ∷ 0 ∷ 0 ∷ 0 ∷ 0 ∷ 0 ∷ 0 ∷ 0 ∷ 0 ∷ 0 ∷ 0 ∷ 0 ∷ 0 ∷ 0 ∷ 0 ∷ 0 ∷ 0 ∷ 0 ∷ 0 ∷ 0 ∷ 0 ∷ 0 ∷ 0 ∷ 0 ∷ 0 ∷ 0 ∷ 0 ∷ 0 ∷ 0 ∷ 0 ∷ 0
    ∷ 0 ∷ 0 ∷ 0 ∷ 0 ∷ 0 ∷ 0 ∷ 0 ∷ 0 ∷ 0 ∷ 0 ∷ 0 ∷ 0 ∷ 0 ∷ 0 ∷ 0 ∷ 0 ∷ 0 ∷ 0 ∷ 0 ∷ 0 ∷ 0 ∷ 0 ∷ 0 ∷ 0 ∷ 0 ∷ 0 ∷ 0 ∷ 0 ∷ 0 ∷ 0 ∷ 0 ∷ 0 ∷ 0 ∷ 0 ∷ 0 ∷ 0 ∷
    0 ∷ 0 ∷ 0 ∷ 0 ∷ 0 ∷ 0 ∷ 0 ∷ 0 ∷ 0 ∷ 0 ∷ 0 ∷ 0 ∷ 0 ∷ 0 ∷ 0 ∷ 0 ∷ 0 ∷ 0 ∷ 0 ∷ 0 ∷ 1 ∷ 0 ∷ 0 ∷ 0 ∷ 0 ∷ 1 ∷ 0 ∷ 0 ∷ 0 ∷ 1 ∷ 0 ∷ 0 ∷ 0 ∷ 1 ∷ 0 ∷ 1 ∷ 0
    ∷ 3 ∷ 0 ∷ 1 ∷ 0 ∷ 0 ∷ 0 ∷ 3 ∷ 0 ∷ 0 ∷ 0 ∷ 0 ∷ 0 ∷ []

asked-12-written : table_of asked-12 ≡ asked-12-table
unfolding computing
asked-12-written = refl

asked-12-changes : changes_on asked-12-table ((record { source = context 0 0 0; target = context 0 0 0; class = 0; perm = 8 }) ∷ (record
    { source = context 0 0 0; target = context 0 0 0; class = 0; perm = 0 }) ∷ (record
    { source = context 0 0 0; target = context 0 0 0; class = 0; perm = 7 }) ∷ []) ≡ record { verdict = fails 4 0; consulted = 1 } ∷ record
    { verdict = granted; consulted = 1 } ∷ record { verdict = granted; consulted = 0 } ∷ []
unfolding computing
asked-12-changes = refl

asked-12-statements : from_text asked-12 ((record { source = context 0 0 0; target = context 0 0 0; class = 0; perm = 8 }) ∷ (record
    { source = context 0 0 0; target = context 0 0 0; class = 0; perm = 0 }) ∷ (record
    { source = context 0 0 0; target = context 0 0 0; class = 0; perm = 7 }) ∷ []) ≡ record { verdict = fails 4 0; consulted = 1 } ∷ record
    { verdict = granted; consulted = 1 } ∷ record { verdict = granted; consulted = 0 } ∷ []
unfolding computing
asked-12-statements = refl

-- users and types on both sides
abbrev asked-13 : List ℕ
asked-13 = bytes "(user u)(user v)(role a)(role b)(type s)(type t)(userrole u a)(userrole v b)(roletype a s)(roletype b t)(class c(a b c d" ++
    bytes "))(constrain(c(a))(eq u1 u2))(constrain(c(b))(neq u1 u2))(constrain(c(c))(eq t1 t2))(constrain(c(d))(neq t1 t2))"

abbrev asked-13-table : List ℕ
asked-13-table = 2 ∷ 0 ∷ 10 ∷ 0 ∷ 84 ∷ 0 ∷ 0 ∷ 0 ∷ 55 ∷ 0 ∷ 0 ∷ 0 ∷ 139 ∷ 0 ∷ 0 ∷ 0 ∷ 32 ∷ 0 ∷ 0 ∷ 0 ∷ 171 ∷ 0 ∷ 0 ∷ 0 ∷ 128 ∷ 0 ∷ 0 ∷ 0 ∷ 43 ∷ 1
    ∷ 0 ∷ 0 ∷ 32 ∷ 0 ∷ 0 ∷ 0 ∷ 75 ∷ 1 ∷ 0 ∷ 0 ∷ 0 ∷ 0 ∷ 0 ∷ 0 ∷ 75 ∷ 1 ∷ 0 ∷ 0 ∷ 40 ∷ 0 ∷ 0 ∷ 0 ∷ 115 ∷ 1 ∷ 0 ∷ 0 ∷ 24 ∷ 0 ∷ 0 ∷ 0 ∷ 139 ∷ 1 ∷ 0 ∷ 0 ∷
    0 ∷ 0 ∷ 0 ∷ 0 ∷ 139 ∷ 1 ∷ 0 ∷ 0 ∷ 0 ∷ 0 ∷ 0 ∷ 0 ∷ 139 ∷ 1 ∷ 0 ∷ 0 ∷ 0 ∷ 0 ∷ 0 ∷ 0 ∷ 0 ∷ 0 ∷ 0 ∷ 1 ∷ 117 ∷ 0 ∷ 1 ∷ 0 ∷ 1 ∷ 118 ∷ 1 ∷ 0 ∷ 0 ∷ 1 ∷ 97
    ∷ 1 ∷ 1 ∷ 0 ∷ 1 ∷ 98 ∷ 2 ∷ 0 ∷ 0 ∷ 1 ∷ 115 ∷ 2 ∷ 1 ∷ 0 ∷ 1 ∷ 116 ∷ 6 ∷ 0 ∷ 0 ∷ 1 ∷ 99 ∷ 7 ∷ 0 ∷ 0 ∷ 1 ∷ 97 ∷ 7 ∷ 1 ∷ 0 ∷ 1 ∷ 98 ∷ 7 ∷ 2 ∷ 0 ∷ 1 ∷
    99 ∷ 7 ∷ 3 ∷ 0 ∷ 1 ∷ 100 ∷ 1 ∷ 0 ∷ 0 ∷ 0 ∷ 0 ∷ 0 ∷ 0 ∷ 0 ∷ 0 ∷ 0 ∷ 0 ∷ 0 ∷ 0 ∷ 0 ∷ 0 ∷ 0 ∷ 2 ∷ 0 ∷ 0 ∷ 0 ∷ 0 ∷ 0 ∷ 0 ∷ 0 ∷ 0 ∷ 0 ∷ 0 ∷ 0 ∷ 0 ∷ 0 ∷
    0 ∷ 0 ∷ 1 ∷ 0 ∷ 0 ∷ 0 ∷ 0 ∷ 0 ∷ 0 ∷ 0 ∷ 0 ∷ 0 ∷ 0 ∷ 0 ∷ 0 ∷ 0 ∷ 0 ∷ 0 ∷ 0 ∷ 0 ∷ 0 ∷ 0 ∷ 0 ∷ 0 ∷ 0 ∷ 0 ∷ 0 ∷ 0 ∷ 0 ∷ 0 ∷ 0 ∷ 0 ∷ 0 ∷ 0 ∷ 0 ∷ 0 ∷ 0
    ∷ 0 ∷ 0 ∷ 0 ∷ 0 ∷ 0 ∷ 0 ∷ 0 ∷ 0 ∷ 0 ∷ 0 ∷ 0 ∷ 0 ∷ 0 ∷ 0 ∷ 0 ∷ 0 ∷ 0 ∷ 0 ∷ 0 ∷ 0 ∷ 0 ∷ 0 ∷ 0 ∷ 0 ∷ 0 ∷ 0 ∷ 0 ∷ 0 ∷ 0 ∷ 2 ∷ 0 ∷ 0 ∷ 0 ∷ 0 ∷ 0 ∷ 0 ∷
    0 ∷ 0 ∷ 0 ∷ 0 ∷ 0 ∷ 0 ∷ 0 ∷ 0 ∷ 0 ∷ 0 ∷ 0 ∷ 0 ∷ 0 ∷ 0 ∷ 0 ∷ 0 ∷ 0 ∷ 0 ∷ 0 ∷ 0 ∷ 0 ∷ 0 ∷ 0 ∷ 0 ∷ 0 ∷ 0 ∷ 0 ∷ 0 ∷ 0 ∷ 0 ∷ 0 ∷ 0 ∷ 0 ∷ 0 ∷ 0 ∷ 0 ∷ 0
    ∷ 0 ∷ 0 ∷ 0 ∷ 0 ∷ 0 ∷ 0 ∷ 0 ∷ 0 ∷ 0 ∷ 0 ∷ 0 ∷ 0 ∷ 0 ∷ 0 ∷ 0 ∷ 0 ∷ 0 ∷ 0 ∷ 0 ∷ 0 ∷ 0 ∷ 0 ∷ 0 ∷ 0 ∷ 0 ∷ 0 ∷ 0 ∷ 0 ∷ 0 ∷ 0 ∷ 0 ∷ 0 ∷ 0 ∷ 0 ∷ 0 ∷ 0 ∷
    0 ∷ 0 ∷ 0 ∷ 0 ∷ 0 ∷ 0 ∷ 0 ∷ 0 ∷ 0 ∷ 0 ∷ 0 ∷ 0 ∷ 0 ∷ 0 ∷ 0 ∷ 0 ∷ 0 ∷ 0 ∷ 1 ∷ 0 ∷ 0 ∷ 0 ∷ 0 ∷ 0 ∷ 1 ∷ 0 ∷ 0 ∷ 0 ∷ 2 ∷ 0 ∷ 0 ∷ 0 ∷ 1 ∷ 0 ∷ 1 ∷ 0 ∷ 0
    ∷ 0 ∷ 4 ∷ 0 ∷ 0 ∷ 0 ∷ 2 ∷ 0 ∷ 1 ∷ 0 ∷ 0 ∷ 0 ∷ 8 ∷ 0 ∷ 0 ∷ 0 ∷ 3 ∷ 0 ∷ 1 ∷ 0 ∷ 3 ∷ 0 ∷ 0 ∷ 0 ∷ 0 ∷ 0 ∷ 3 ∷ 0 ∷ 1 ∷ 0 ∷ 0 ∷ 0 ∷ 3 ∷ 4 ∷ 0 ∷ 0 ∷ 0 ∷
    0 ∷ 3 ∷ 4 ∷ 1 ∷ 0 ∷ 0 ∷ 0 ∷ []

asked-13-written : table_of asked-13 ≡ asked-13-table
unfolding computing
asked-13-written = refl

asked-13-changes : changes_on asked-13-table ((record { source = context 0 0 0; target = context 1 1 1; class = 0; perm = 0 }) ∷ (record
    { source = context 0 0 0; target = context 0 0 0; class = 0; perm = 0 }) ∷ (record
    { source = context 0 0 0; target = context 1 1 1; class = 0; perm = 1 }) ∷ (record
    { source = context 0 0 0; target = context 0 0 0; class = 0; perm = 1 }) ∷ (record
    { source = context 0 0 0; target = context 1 1 1; class = 0; perm = 2 }) ∷ (record
    { source = context 0 0 0; target = context 0 0 0; class = 0; perm = 2 }) ∷ (record
    { source = context 0 0 0; target = context 1 1 1; class = 0; perm = 3 }) ∷ (record
    { source = context 0 0 0; target = context 0 0 0; class = 0; perm = 3 }) ∷ []) ≡ record { verdict = fails 4 0; consulted = 1 } ∷ record
    { verdict = granted; consulted = 1 } ∷ record { verdict = granted; consulted = 1 } ∷ record { verdict = fails 4 1; consulted = 1 } ∷ record
    { verdict = fails 4 2; consulted = 1 } ∷ record { verdict = granted; consulted = 1 } ∷ record { verdict = granted; consulted = 1 } ∷ record
    { verdict = fails 4 3; consulted = 1 } ∷ []
unfolding computing
asked-13-changes = refl

asked-13-statements : from_text asked-13 ((record { source = context 0 0 0; target = context 1 1 1; class = 0; perm = 0 }) ∷ (record
    { source = context 0 0 0; target = context 0 0 0; class = 0; perm = 0 }) ∷ (record
    { source = context 0 0 0; target = context 1 1 1; class = 0; perm = 1 }) ∷ (record
    { source = context 0 0 0; target = context 0 0 0; class = 0; perm = 1 }) ∷ (record
    { source = context 0 0 0; target = context 1 1 1; class = 0; perm = 2 }) ∷ (record
    { source = context 0 0 0; target = context 0 0 0; class = 0; perm = 2 }) ∷ (record
    { source = context 0 0 0; target = context 1 1 1; class = 0; perm = 3 }) ∷ (record
    { source = context 0 0 0; target = context 0 0 0; class = 0; perm = 3 }) ∷ []) ≡ record { verdict = fails 4 0; consulted = 1 } ∷ record
    { verdict = granted; consulted = 1 } ∷ record { verdict = granted; consulted = 1 } ∷ record { verdict = fails 4 1; consulted = 1 } ∷ record
    { verdict = fails 4 2; consulted = 1 } ∷ record { verdict = granted; consulted = 1 } ∷ record { verdict = granted; consulted = 1 } ∷ record
    { verdict = fails 4 3; consulted = 1 } ∷ []
unfolding computing
asked-13-statements = refl

-- roles on both sides: dom and domby read as eq, incomp as neq
abbrev asked-14 : List ℕ
asked-14 = bytes "(user u)(user v)(role a)(role b)(type s)(type t)(userrole u a)(userrole v b)(roletype a s)(roletype b t)(class c(a b c d" ++
    bytes " e))(constrain(c(a))(eq r1 r2))(constrain(c(b))(neq r1 r2))(constrain(c(c))(dom r1 r2))(constrain(c(d))(domby r1 r2))(co" ++ bytes
    "nstrain(c(e))(incomp r1 r2))"

abbrev asked-14-table : List ℕ
asked-14-table = 2 ∷ 0 ∷ 10 ∷ 0 ∷ 84 ∷ 0 ∷ 0 ∷ 0 ∷ 60 ∷ 0 ∷ 0 ∷ 0 ∷ 144 ∷ 0 ∷ 0 ∷ 0 ∷ 32 ∷ 0 ∷ 0 ∷ 0 ∷ 176 ∷ 0 ∷ 0 ∷ 0 ∷ 128 ∷ 0 ∷ 0 ∷ 0 ∷ 48 ∷ 1
    ∷ 0 ∷ 0 ∷ 32 ∷ 0 ∷ 0 ∷ 0 ∷ 80 ∷ 1 ∷ 0 ∷ 0 ∷ 0 ∷ 0 ∷ 0 ∷ 0 ∷ 80 ∷ 1 ∷ 0 ∷ 0 ∷ 50 ∷ 0 ∷ 0 ∷ 0 ∷ 130 ∷ 1 ∷ 0 ∷ 0 ∷ 30 ∷ 0 ∷ 0 ∷ 0 ∷ 160 ∷ 1 ∷ 0 ∷ 0 ∷
    0 ∷ 0 ∷ 0 ∷ 0 ∷ 160 ∷ 1 ∷ 0 ∷ 0 ∷ 0 ∷ 0 ∷ 0 ∷ 0 ∷ 160 ∷ 1 ∷ 0 ∷ 0 ∷ 0 ∷ 0 ∷ 0 ∷ 0 ∷ 0 ∷ 0 ∷ 0 ∷ 1 ∷ 117 ∷ 0 ∷ 1 ∷ 0 ∷ 1 ∷ 118 ∷ 1 ∷ 0 ∷ 0 ∷ 1 ∷ 97
    ∷ 1 ∷ 1 ∷ 0 ∷ 1 ∷ 98 ∷ 2 ∷ 0 ∷ 0 ∷ 1 ∷ 115 ∷ 2 ∷ 1 ∷ 0 ∷ 1 ∷ 116 ∷ 6 ∷ 0 ∷ 0 ∷ 1 ∷ 99 ∷ 7 ∷ 0 ∷ 0 ∷ 1 ∷ 97 ∷ 7 ∷ 1 ∷ 0 ∷ 1 ∷ 98 ∷ 7 ∷ 2 ∷ 0 ∷ 1 ∷
    99 ∷ 7 ∷ 3 ∷ 0 ∷ 1 ∷ 100 ∷ 7 ∷ 4 ∷ 0 ∷ 1 ∷ 101 ∷ 1 ∷ 0 ∷ 0 ∷ 0 ∷ 0 ∷ 0 ∷ 0 ∷ 0 ∷ 0 ∷ 0 ∷ 0 ∷ 0 ∷ 0 ∷ 0 ∷ 0 ∷ 0 ∷ 2 ∷ 0 ∷ 0 ∷ 0 ∷ 0 ∷ 0 ∷ 0 ∷ 0 ∷ 0
    ∷ 0 ∷ 0 ∷ 0 ∷ 0 ∷ 0 ∷ 0 ∷ 0 ∷ 1 ∷ 0 ∷ 0 ∷ 0 ∷ 0 ∷ 0 ∷ 0 ∷ 0 ∷ 0 ∷ 0 ∷ 0 ∷ 0 ∷ 0 ∷ 0 ∷ 0 ∷ 0 ∷ 0 ∷ 0 ∷ 0 ∷ 0 ∷ 0 ∷ 0 ∷ 0 ∷ 0 ∷ 0 ∷ 0 ∷ 0 ∷ 0 ∷ 0 ∷
    0 ∷ 0 ∷ 0 ∷ 0 ∷ 0 ∷ 0 ∷ 0 ∷ 0 ∷ 0 ∷ 0 ∷ 0 ∷ 0 ∷ 0 ∷ 0 ∷ 0 ∷ 0 ∷ 0 ∷ 0 ∷ 0 ∷ 0 ∷ 0 ∷ 0 ∷ 0 ∷ 0 ∷ 0 ∷ 0 ∷ 0 ∷ 0 ∷ 0 ∷ 0 ∷ 0 ∷ 0 ∷ 0 ∷ 0 ∷ 0 ∷ 2 ∷ 0
    ∷ 0 ∷ 0 ∷ 0 ∷ 0 ∷ 0 ∷ 0 ∷ 0 ∷ 0 ∷ 0 ∷ 0 ∷ 0 ∷ 0 ∷ 0 ∷ 0 ∷ 0 ∷ 0 ∷ 0 ∷ 0 ∷ 0 ∷ 0 ∷ 0 ∷ 0 ∷ 0 ∷ 0 ∷ 0 ∷ 0 ∷ 0 ∷ 0 ∷ 0 ∷ 0 ∷ 0 ∷ 0 ∷ 0 ∷ 0 ∷ 0 ∷ 0 ∷
    0 ∷ 0 ∷ 0 ∷ 0 ∷ 0 ∷ 0 ∷ 0 ∷ 0 ∷ 0 ∷ 0 ∷ 0 ∷ 0 ∷ 0 ∷ 0 ∷ 0 ∷ 0 ∷ 0 ∷ 0 ∷ 0 ∷ 0 ∷ 0 ∷ 0 ∷ 0 ∷ 0 ∷ 0 ∷ 0 ∷ 0 ∷ 0 ∷ 0 ∷ 0 ∷ 0 ∷ 0 ∷ 0 ∷ 0 ∷ 0 ∷ 0 ∷ 0
    ∷ 0 ∷ 0 ∷ 0 ∷ 0 ∷ 0 ∷ 0 ∷ 0 ∷ 0 ∷ 0 ∷ 0 ∷ 0 ∷ 0 ∷ 0 ∷ 0 ∷ 0 ∷ 0 ∷ 0 ∷ 0 ∷ 0 ∷ 0 ∷ 0 ∷ 0 ∷ 0 ∷ 1 ∷ 0 ∷ 0 ∷ 0 ∷ 0 ∷ 0 ∷ 1 ∷ 0 ∷ 0 ∷ 0 ∷ 2 ∷ 0 ∷ 0 ∷
    0 ∷ 1 ∷ 0 ∷ 1 ∷ 0 ∷ 0 ∷ 0 ∷ 4 ∷ 0 ∷ 0 ∷ 0 ∷ 2 ∷ 0 ∷ 1 ∷ 0 ∷ 0 ∷ 0 ∷ 8 ∷ 0 ∷ 0 ∷ 0 ∷ 3 ∷ 0 ∷ 1 ∷ 0 ∷ 0 ∷ 0 ∷ 16 ∷ 0 ∷ 0 ∷ 0 ∷ 4 ∷ 0 ∷ 1 ∷ 0 ∷ 3 ∷ 2
    ∷ 0 ∷ 0 ∷ 0 ∷ 0 ∷ 3 ∷ 2 ∷ 1 ∷ 0 ∷ 0 ∷ 0 ∷ 3 ∷ 2 ∷ 2 ∷ 0 ∷ 0 ∷ 0 ∷ 3 ∷ 2 ∷ 3 ∷ 0 ∷ 0 ∷ 0 ∷ 3 ∷ 2 ∷ 4 ∷ 0 ∷ 0 ∷ 0 ∷ []

asked-14-written : table_of asked-14 ≡ asked-14-table
unfolding computing
asked-14-written = refl

asked-14-changes : changes_on asked-14-table ((record { source = context 0 0 0; target = context 1 1 1; class = 0; perm = 0 }) ∷ (record
    { source = context 0 0 0; target = context 0 0 0; class = 0; perm = 0 }) ∷ (record
    { source = context 0 0 0; target = context 1 1 1; class = 0; perm = 1 }) ∷ (record
    { source = context 0 0 0; target = context 0 0 0; class = 0; perm = 1 }) ∷ (record
    { source = context 0 0 0; target = context 1 1 1; class = 0; perm = 2 }) ∷ (record
    { source = context 0 0 0; target = context 0 0 0; class = 0; perm = 2 }) ∷ (record
    { source = context 0 0 0; target = context 1 1 1; class = 0; perm = 3 }) ∷ (record
    { source = context 0 0 0; target = context 0 0 0; class = 0; perm = 3 }) ∷ (record
    { source = context 0 0 0; target = context 1 1 1; class = 0; perm = 4 }) ∷ (record
    { source = context 0 0 0; target = context 0 0 0; class = 0; perm = 4 }) ∷ []) ≡ record { verdict = fails 4 0; consulted = 1 } ∷ record
    { verdict = granted; consulted = 1 } ∷ record { verdict = granted; consulted = 1 } ∷ record { verdict = fails 4 1; consulted = 1 } ∷ record
    { verdict = fails 4 2; consulted = 1 } ∷ record { verdict = granted; consulted = 1 } ∷ record { verdict = fails 4 3; consulted = 1 } ∷ record
    { verdict = granted; consulted = 1 } ∷ record { verdict = granted; consulted = 1 } ∷ record { verdict = fails 4 4; consulted = 1 } ∷ []
unfolding computing
asked-14-changes = refl

asked-14-statements : from_text asked-14 ((record { source = context 0 0 0; target = context 1 1 1; class = 0; perm = 0 }) ∷ (record
    { source = context 0 0 0; target = context 0 0 0; class = 0; perm = 0 }) ∷ (record
    { source = context 0 0 0; target = context 1 1 1; class = 0; perm = 1 }) ∷ (record
    { source = context 0 0 0; target = context 0 0 0; class = 0; perm = 1 }) ∷ (record
    { source = context 0 0 0; target = context 1 1 1; class = 0; perm = 2 }) ∷ (record
    { source = context 0 0 0; target = context 0 0 0; class = 0; perm = 2 }) ∷ (record
    { source = context 0 0 0; target = context 1 1 1; class = 0; perm = 3 }) ∷ (record
    { source = context 0 0 0; target = context 0 0 0; class = 0; perm = 3 }) ∷ (record
    { source = context 0 0 0; target = context 1 1 1; class = 0; perm = 4 }) ∷ (record
    { source = context 0 0 0; target = context 0 0 0; class = 0; perm = 4 }) ∷ []) ≡ record { verdict = fails 4 0; consulted = 1 } ∷ record
    { verdict = granted; consulted = 1 } ∷ record { verdict = granted; consulted = 1 } ∷ record { verdict = fails 4 1; consulted = 1 } ∷ record
    { verdict = fails 4 2; consulted = 1 } ∷ record { verdict = granted; consulted = 1 } ∷ record { verdict = fails 4 3; consulted = 1 } ∷ record
    { verdict = granted; consulted = 1 } ∷ record { verdict = granted; consulted = 1 } ∷ record { verdict = fails 4 4; consulted = 1 } ∷ []
unfolding computing
asked-14-statements = refl

-- a side and a thing
abbrev asked-15 : List ℕ
asked-15 = bytes "(user u)(user v)(role a)(role b)(type s)(type t)(userrole u a)(userrole v b)(roletype a s)(roletype b t)(class c(a b c d" ++
    bytes " e f))(constrain(c(a))(eq u1 u))(constrain(c(b))(neq u2 u))(constrain(c(c))(neq r1 a))(constrain(c(d))(eq r2 a))(constra" ++ bytes
    "in(c(e))(eq t1 t))(constrain(c(f))(neq t2 s))"

abbrev asked-15-table : List ℕ
asked-15-table = 2 ∷ 0 ∷ 10 ∷ 0 ∷ 84 ∷ 0 ∷ 0 ∷ 0 ∷ 65 ∷ 0 ∷ 0 ∷ 0 ∷ 149 ∷ 0 ∷ 0 ∷ 0 ∷ 32 ∷ 0 ∷ 0 ∷ 0 ∷ 181 ∷ 0 ∷ 0 ∷ 0 ∷ 128 ∷ 0 ∷ 0 ∷ 0 ∷ 53 ∷ 1
    ∷ 0 ∷ 0 ∷ 32 ∷ 0 ∷ 0 ∷ 0 ∷ 85 ∷ 1 ∷ 0 ∷ 0 ∷ 0 ∷ 0 ∷ 0 ∷ 0 ∷ 85 ∷ 1 ∷ 0 ∷ 0 ∷ 60 ∷ 0 ∷ 0 ∷ 0 ∷ 145 ∷ 1 ∷ 0 ∷ 0 ∷ 36 ∷ 0 ∷ 0 ∷ 0 ∷ 181 ∷ 1 ∷ 0 ∷ 0 ∷
    0 ∷ 0 ∷ 0 ∷ 0 ∷ 181 ∷ 1 ∷ 0 ∷ 0 ∷ 0 ∷ 0 ∷ 0 ∷ 0 ∷ 181 ∷ 1 ∷ 0 ∷ 0 ∷ 0 ∷ 0 ∷ 0 ∷ 0 ∷ 0 ∷ 0 ∷ 0 ∷ 1 ∷ 117 ∷ 0 ∷ 1 ∷ 0 ∷ 1 ∷ 118 ∷ 1 ∷ 0 ∷ 0 ∷ 1 ∷ 97
    ∷ 1 ∷ 1 ∷ 0 ∷ 1 ∷ 98 ∷ 2 ∷ 0 ∷ 0 ∷ 1 ∷ 115 ∷ 2 ∷ 1 ∷ 0 ∷ 1 ∷ 116 ∷ 6 ∷ 0 ∷ 0 ∷ 1 ∷ 99 ∷ 7 ∷ 0 ∷ 0 ∷ 1 ∷ 97 ∷ 7 ∷ 1 ∷ 0 ∷ 1 ∷ 98 ∷ 7 ∷ 2 ∷ 0 ∷ 1 ∷
    99 ∷ 7 ∷ 3 ∷ 0 ∷ 1 ∷ 100 ∷ 7 ∷ 4 ∷ 0 ∷ 1 ∷ 101 ∷ 7 ∷ 5 ∷ 0 ∷ 1 ∷ 102 ∷ 1 ∷ 0 ∷ 0 ∷ 0 ∷ 0 ∷ 0 ∷ 0 ∷ 0 ∷ 0 ∷ 0 ∷ 0 ∷ 0 ∷ 0 ∷ 0 ∷ 0 ∷ 0 ∷ 2 ∷ 0 ∷ 0 ∷
    0 ∷ 0 ∷ 0 ∷ 0 ∷ 0 ∷ 0 ∷ 0 ∷ 0 ∷ 0 ∷ 0 ∷ 0 ∷ 0 ∷ 0 ∷ 1 ∷ 0 ∷ 0 ∷ 0 ∷ 0 ∷ 0 ∷ 0 ∷ 0 ∷ 0 ∷ 0 ∷ 0 ∷ 0 ∷ 0 ∷ 0 ∷ 0 ∷ 0 ∷ 0 ∷ 0 ∷ 0 ∷ 0 ∷ 0 ∷ 0 ∷ 0 ∷ 0
    ∷ 0 ∷ 0 ∷ 0 ∷ 0 ∷ 0 ∷ 0 ∷ 0 ∷ 0 ∷ 0 ∷ 0 ∷ 0 ∷ 0 ∷ 0 ∷ 0 ∷ 0 ∷ 0 ∷ 0 ∷ 0 ∷ 0 ∷ 0 ∷ 0 ∷ 0 ∷ 0 ∷ 0 ∷ 0 ∷ 0 ∷ 0 ∷ 0 ∷ 0 ∷ 0 ∷ 0 ∷ 0 ∷ 0 ∷ 0 ∷ 0 ∷ 0 ∷
    0 ∷ 0 ∷ 0 ∷ 0 ∷ 2 ∷ 0 ∷ 0 ∷ 0 ∷ 0 ∷ 0 ∷ 0 ∷ 0 ∷ 0 ∷ 0 ∷ 0 ∷ 0 ∷ 0 ∷ 0 ∷ 0 ∷ 0 ∷ 0 ∷ 0 ∷ 0 ∷ 0 ∷ 0 ∷ 0 ∷ 0 ∷ 0 ∷ 0 ∷ 0 ∷ 0 ∷ 0 ∷ 0 ∷ 0 ∷ 0 ∷ 0 ∷ 0
    ∷ 0 ∷ 0 ∷ 0 ∷ 0 ∷ 0 ∷ 0 ∷ 0 ∷ 0 ∷ 0 ∷ 0 ∷ 0 ∷ 0 ∷ 0 ∷ 0 ∷ 0 ∷ 0 ∷ 0 ∷ 0 ∷ 0 ∷ 0 ∷ 0 ∷ 0 ∷ 0 ∷ 0 ∷ 0 ∷ 0 ∷ 0 ∷ 0 ∷ 0 ∷ 0 ∷ 0 ∷ 0 ∷ 0 ∷ 0 ∷ 0 ∷ 0 ∷
    0 ∷ 0 ∷ 0 ∷ 0 ∷ 0 ∷ 0 ∷ 0 ∷ 0 ∷ 0 ∷ 0 ∷ 0 ∷ 0 ∷ 0 ∷ 0 ∷ 0 ∷ 0 ∷ 0 ∷ 0 ∷ 0 ∷ 0 ∷ 0 ∷ 0 ∷ 0 ∷ 0 ∷ 0 ∷ 0 ∷ 0 ∷ 0 ∷ 0 ∷ 1 ∷ 0 ∷ 0 ∷ 0 ∷ 0 ∷ 0 ∷ 1 ∷ 0
    ∷ 0 ∷ 0 ∷ 2 ∷ 0 ∷ 0 ∷ 0 ∷ 1 ∷ 0 ∷ 1 ∷ 0 ∷ 0 ∷ 0 ∷ 4 ∷ 0 ∷ 0 ∷ 0 ∷ 2 ∷ 0 ∷ 1 ∷ 0 ∷ 0 ∷ 0 ∷ 8 ∷ 0 ∷ 0 ∷ 0 ∷ 3 ∷ 0 ∷ 1 ∷ 0 ∷ 0 ∷ 0 ∷ 16 ∷ 0 ∷ 0 ∷ 0 ∷
    4 ∷ 0 ∷ 1 ∷ 0 ∷ 0 ∷ 0 ∷ 32 ∷ 0 ∷ 0 ∷ 0 ∷ 5 ∷ 0 ∷ 1 ∷ 0 ∷ 4 ∷ 0 ∷ 0 ∷ 0 ∷ 0 ∷ 0 ∷ 4 ∷ 1 ∷ 1 ∷ 0 ∷ 0 ∷ 0 ∷ 4 ∷ 2 ∷ 1 ∷ 0 ∷ 0 ∷ 0 ∷ 4 ∷ 3 ∷ 0 ∷ 0 ∷ 0
    ∷ 0 ∷ 4 ∷ 4 ∷ 0 ∷ 0 ∷ 1 ∷ 0 ∷ 4 ∷ 5 ∷ 1 ∷ 0 ∷ 0 ∷ 0 ∷ []

asked-15-written : table_of asked-15 ≡ asked-15-table
unfolding computing
asked-15-written = refl

asked-15-changes : changes_on asked-15-table ((record { source = context 0 0 0; target = context 1 1 1; class = 0; perm = 0 }) ∷ (record
    { source = context 1 1 1; target = context 0 0 0; class = 0; perm = 0 }) ∷ (record
    { source = context 0 0 0; target = context 1 1 1; class = 0; perm = 1 }) ∷ (record
    { source = context 1 1 1; target = context 0 0 0; class = 0; perm = 1 }) ∷ (record
    { source = context 0 0 0; target = context 1 1 1; class = 0; perm = 2 }) ∷ (record
    { source = context 1 1 1; target = context 0 0 0; class = 0; perm = 2 }) ∷ (record
    { source = context 0 0 0; target = context 1 1 1; class = 0; perm = 3 }) ∷ (record
    { source = context 1 1 1; target = context 0 0 0; class = 0; perm = 3 }) ∷ (record
    { source = context 0 0 0; target = context 1 1 1; class = 0; perm = 4 }) ∷ (record
    { source = context 1 1 1; target = context 0 0 0; class = 0; perm = 4 }) ∷ (record
    { source = context 0 0 0; target = context 1 1 1; class = 0; perm = 5 }) ∷ (record
    { source = context 1 1 1; target = context 0 0 0; class = 0; perm = 5 }) ∷ []) ≡ record { verdict = granted; consulted = 1 } ∷ record
    { verdict = fails 4 0; consulted = 1 } ∷ record { verdict = granted; consulted = 1 } ∷ record { verdict = fails 4 1; consulted = 1 } ∷ record
    { verdict = fails 4 2; consulted = 1 } ∷ record { verdict = granted; consulted = 1 } ∷ record { verdict = fails 4 3; consulted = 1 } ∷ record
    { verdict = granted; consulted = 1 } ∷ record { verdict = fails 4 4; consulted = 1 } ∷ record { verdict = granted; consulted = 1 } ∷ record
    { verdict = granted; consulted = 1 } ∷ record { verdict = fails 4 5; consulted = 1 } ∷ []
unfolding computing
asked-15-changes = refl

asked-15-statements : from_text asked-15 ((record { source = context 0 0 0; target = context 1 1 1; class = 0; perm = 0 }) ∷ (record
    { source = context 1 1 1; target = context 0 0 0; class = 0; perm = 0 }) ∷ (record
    { source = context 0 0 0; target = context 1 1 1; class = 0; perm = 1 }) ∷ (record
    { source = context 1 1 1; target = context 0 0 0; class = 0; perm = 1 }) ∷ (record
    { source = context 0 0 0; target = context 1 1 1; class = 0; perm = 2 }) ∷ (record
    { source = context 1 1 1; target = context 0 0 0; class = 0; perm = 2 }) ∷ (record
    { source = context 0 0 0; target = context 1 1 1; class = 0; perm = 3 }) ∷ (record
    { source = context 1 1 1; target = context 0 0 0; class = 0; perm = 3 }) ∷ (record
    { source = context 0 0 0; target = context 1 1 1; class = 0; perm = 4 }) ∷ (record
    { source = context 1 1 1; target = context 0 0 0; class = 0; perm = 4 }) ∷ (record
    { source = context 0 0 0; target = context 1 1 1; class = 0; perm = 5 }) ∷ (record
    { source = context 1 1 1; target = context 0 0 0; class = 0; perm = 5 }) ∷ []) ≡ record { verdict = granted; consulted = 1 } ∷ record
    { verdict = fails 4 0; consulted = 1 } ∷ record { verdict = granted; consulted = 1 } ∷ record { verdict = fails 4 1; consulted = 1 } ∷ record
    { verdict = fails 4 2; consulted = 1 } ∷ record { verdict = granted; consulted = 1 } ∷ record { verdict = fails 4 3; consulted = 1 } ∷ record
    { verdict = granted; consulted = 1 } ∷ record { verdict = fails 4 4; consulted = 1 } ∷ record { verdict = granted; consulted = 1 } ∷ record
    { verdict = granted; consulted = 1 } ∷ record { verdict = fails 4 5; consulted = 1 } ∷ []
unfolding computing
asked-15-statements = refl

-- a side and an attribute
abbrev asked-16 : List ℕ
asked-16 = bytes "(user u)(user v)(role a)(role b)(type s)(type t)(userattribute x)(userattributeset x(u))(roleattribute w)(roleattribute " ++
    bytes "y)(roleattributeset y(b))(typeattribute z)(typeattributeset z(all))(userrole u a)(userrole v b)(roletype a s)(roletype b" ++ bytes
    " t)(class c(a b c d e f))(constrain(c(a))(neq u1 x))(constrain(c(b))(eq u2 x))(constrain(c(c))(neq r1 y))(constrain(c(d)" ++ bytes
    ")(eq r2 y))(constrain(c(e))(eq t2 z))(constrain(c(f))(neq t1 z))"

abbrev asked-16-table : List ℕ
asked-16-table = 2 ∷ 0 ∷ 10 ∷ 0 ∷ 84 ∷ 0 ∷ 0 ∷ 0 ∷ 85 ∷ 0 ∷ 0 ∷ 0 ∷ 169 ∷ 0 ∷ 0 ∷ 0 ∷ 32 ∷ 0 ∷ 0 ∷ 0 ∷ 201 ∷ 0 ∷ 0 ∷ 0 ∷ 128 ∷ 0 ∷ 0 ∷ 0 ∷ 73 ∷ 1
    ∷ 0 ∷ 0 ∷ 32 ∷ 0 ∷ 0 ∷ 0 ∷ 105 ∷ 1 ∷ 0 ∷ 0 ∷ 0 ∷ 0 ∷ 0 ∷ 0 ∷ 105 ∷ 1 ∷ 0 ∷ 0 ∷ 60 ∷ 0 ∷ 0 ∷ 0 ∷ 165 ∷ 1 ∷ 0 ∷ 0 ∷ 36 ∷ 0 ∷ 0 ∷ 0 ∷ 201 ∷ 1 ∷ 0 ∷ 0
    ∷ 112 ∷ 0 ∷ 0 ∷ 0 ∷ 57 ∷ 2 ∷ 0 ∷ 0 ∷ 0 ∷ 0 ∷ 0 ∷ 0 ∷ 57 ∷ 2 ∷ 0 ∷ 0 ∷ 0 ∷ 0 ∷ 0 ∷ 0 ∷ 0 ∷ 0 ∷ 0 ∷ 1 ∷ 117 ∷ 0 ∷ 1 ∷ 0 ∷ 1 ∷ 118 ∷ 1 ∷ 0 ∷ 0 ∷ 1 ∷
    97 ∷ 1 ∷ 1 ∷ 0 ∷ 1 ∷ 98 ∷ 2 ∷ 0 ∷ 0 ∷ 1 ∷ 115 ∷ 2 ∷ 1 ∷ 0 ∷ 1 ∷ 116 ∷ 3 ∷ 0 ∷ 0 ∷ 1 ∷ 120 ∷ 4 ∷ 0 ∷ 0 ∷ 1 ∷ 119 ∷ 4 ∷ 1 ∷ 0 ∷ 1 ∷ 121 ∷ 5 ∷ 0 ∷ 0
    ∷ 1 ∷ 122 ∷ 6 ∷ 0 ∷ 0 ∷ 1 ∷ 99 ∷ 7 ∷ 0 ∷ 0 ∷ 1 ∷ 97 ∷ 7 ∷ 1 ∷ 0 ∷ 1 ∷ 98 ∷ 7 ∷ 2 ∷ 0 ∷ 1 ∷ 99 ∷ 7 ∷ 3 ∷ 0 ∷ 1 ∷ 100 ∷ 7 ∷ 4 ∷ 0 ∷ 1 ∷ 101 ∷ 7 ∷ 5
    ∷ 0 ∷ 1 ∷ 102 ∷ 1 ∷ 0 ∷ 0 ∷ 0 ∷ 0 ∷ 0 ∷ 0 ∷ 0 ∷ 0 ∷ 0 ∷ 0 ∷ 0 ∷ 0 ∷ 0 ∷ 0 ∷ 0 ∷ 2 ∷ 0 ∷ 0 ∷ 0 ∷ 0 ∷ 0 ∷ 0 ∷ 0 ∷ 0 ∷ 0 ∷ 0 ∷ 0 ∷ 0 ∷ 0 ∷ 0 ∷ 0 ∷ 1
    ∷ 0 ∷ 0 ∷ 0 ∷ 0 ∷ 0 ∷ 0 ∷ 0 ∷ 0 ∷ 0 ∷ 0 ∷ 0 ∷ 0 ∷ 0 ∷ 0 ∷ 0 ∷ 0 ∷ 0 ∷ 0 ∷ 0 ∷ 0 ∷ 0 ∷ 0 ∷ 0 ∷ 0 ∷ 0 ∷ 0 ∷ 0 ∷ 0 ∷ 0 ∷ 0 ∷ 0 ∷ 0 ∷ 0 ∷ 0 ∷ 0 ∷ 0 ∷
    0 ∷ 0 ∷ 0 ∷ 0 ∷ 0 ∷ 0 ∷ 0 ∷ 0 ∷ 0 ∷ 0 ∷ 0 ∷ 0 ∷ 0 ∷ 0 ∷ 0 ∷ 0 ∷ 0 ∷ 0 ∷ 0 ∷ 0 ∷ 0 ∷ 0 ∷ 0 ∷ 0 ∷ 0 ∷ 0 ∷ 0 ∷ 2 ∷ 0 ∷ 0 ∷ 0 ∷ 0 ∷ 0 ∷ 0 ∷ 0 ∷ 0 ∷ 0
    ∷ 0 ∷ 0 ∷ 0 ∷ 0 ∷ 0 ∷ 0 ∷ 0 ∷ 0 ∷ 0 ∷ 0 ∷ 0 ∷ 0 ∷ 0 ∷ 0 ∷ 0 ∷ 0 ∷ 0 ∷ 0 ∷ 0 ∷ 0 ∷ 0 ∷ 0 ∷ 0 ∷ 0 ∷ 0 ∷ 0 ∷ 0 ∷ 0 ∷ 0 ∷ 0 ∷ 0 ∷ 0 ∷ 0 ∷ 0 ∷ 0 ∷ 0 ∷
    0 ∷ 0 ∷ 0 ∷ 0 ∷ 0 ∷ 0 ∷ 0 ∷ 0 ∷ 0 ∷ 0 ∷ 0 ∷ 0 ∷ 0 ∷ 0 ∷ 0 ∷ 0 ∷ 0 ∷ 0 ∷ 0 ∷ 0 ∷ 0 ∷ 0 ∷ 0 ∷ 0 ∷ 0 ∷ 0 ∷ 0 ∷ 0 ∷ 0 ∷ 0 ∷ 0 ∷ 0 ∷ 0 ∷ 0 ∷ 0 ∷ 0 ∷ 0
    ∷ 0 ∷ 0 ∷ 0 ∷ 0 ∷ 0 ∷ 0 ∷ 0 ∷ 0 ∷ 0 ∷ 0 ∷ 0 ∷ 0 ∷ 0 ∷ 0 ∷ 0 ∷ 1 ∷ 0 ∷ 0 ∷ 0 ∷ 0 ∷ 0 ∷ 1 ∷ 0 ∷ 0 ∷ 0 ∷ 2 ∷ 0 ∷ 0 ∷ 0 ∷ 1 ∷ 0 ∷ 1 ∷ 0 ∷ 0 ∷ 0 ∷ 4 ∷
    0 ∷ 0 ∷ 0 ∷ 2 ∷ 0 ∷ 1 ∷ 0 ∷ 0 ∷ 0 ∷ 8 ∷ 0 ∷ 0 ∷ 0 ∷ 3 ∷ 0 ∷ 1 ∷ 0 ∷ 0 ∷ 0 ∷ 16 ∷ 0 ∷ 0 ∷ 0 ∷ 4 ∷ 0 ∷ 1 ∷ 0 ∷ 0 ∷ 0 ∷ 32 ∷ 0 ∷ 0 ∷ 0 ∷ 5 ∷ 0 ∷ 1 ∷
    0 ∷ 5 ∷ 0 ∷ 1 ∷ 0 ∷ 0 ∷ 0 ∷ 5 ∷ 1 ∷ 0 ∷ 0 ∷ 0 ∷ 0 ∷ 5 ∷ 2 ∷ 1 ∷ 0 ∷ 1 ∷ 0 ∷ 5 ∷ 3 ∷ 0 ∷ 0 ∷ 1 ∷ 0 ∷ 5 ∷ 5 ∷ 0 ∷ 0 ∷ 0 ∷ 0 ∷ 5 ∷ 4 ∷ 1 ∷ 0 ∷ 0 ∷ 0
    ∷ 1 ∷ 0 ∷ 0 ∷ 0 ∷ 0 ∷ 0 ∷ 0 ∷ 0 ∷ 0 ∷ 0 ∷ 0 ∷ 0 ∷ 0 ∷ 0 ∷ 0 ∷ 0 ∷ 0 ∷ 0 ∷ 0 ∷ 0 ∷ 0 ∷ 0 ∷ 0 ∷ 0 ∷ 0 ∷ 0 ∷ 0 ∷ 0 ∷ 0 ∷ 0 ∷ 0 ∷ 0 ∷ 2 ∷ 0 ∷ 0 ∷ 0 ∷
    0 ∷ 0 ∷ 0 ∷ 0 ∷ 0 ∷ 0 ∷ 0 ∷ 0 ∷ 0 ∷ 0 ∷ 0 ∷ 0 ∷ 3 ∷ 0 ∷ 0 ∷ 0 ∷ 0 ∷ 0 ∷ 0 ∷ 0 ∷ 0 ∷ 0 ∷ 0 ∷ 0 ∷ 0 ∷ 0 ∷ 0 ∷ 0 ∷ 0 ∷ 0 ∷ 0 ∷ 0 ∷ 0 ∷ 0 ∷ 0 ∷ 0 ∷ 0
    ∷ 0 ∷ 0 ∷ 0 ∷ 0 ∷ 0 ∷ 0 ∷ 0 ∷ 0 ∷ 0 ∷ 0 ∷ 0 ∷ 0 ∷ 0 ∷ 0 ∷ 0 ∷ 0 ∷ 0 ∷ 0 ∷ 0 ∷ 0 ∷ 0 ∷ 0 ∷ 0 ∷ 0 ∷ 0 ∷ 0 ∷ 0 ∷ 0 ∷ 0 ∷ 0 ∷ 0 ∷ 0 ∷ 0 ∷ 0 ∷ 0 ∷ 0 ∷
    0 ∷ 0 ∷ 0 ∷ []

asked-16-written : table_of asked-16 ≡ asked-16-table
unfolding computing
asked-16-written = refl

asked-16-changes : changes_on asked-16-table ((record { source = context 0 0 0; target = context 1 1 1; class = 0; perm = 0 }) ∷ (record
    { source = context 1 1 1; target = context 0 0 0; class = 0; perm = 0 }) ∷ (record
    { source = context 0 0 0; target = context 1 1 1; class = 0; perm = 1 }) ∷ (record
    { source = context 1 1 1; target = context 0 0 0; class = 0; perm = 1 }) ∷ (record
    { source = context 0 0 0; target = context 1 1 1; class = 0; perm = 2 }) ∷ (record
    { source = context 1 1 1; target = context 0 0 0; class = 0; perm = 2 }) ∷ (record
    { source = context 0 0 0; target = context 1 1 1; class = 0; perm = 3 }) ∷ (record
    { source = context 1 1 1; target = context 0 0 0; class = 0; perm = 3 }) ∷ (record
    { source = context 0 0 0; target = context 1 1 1; class = 0; perm = 4 }) ∷ (record
    { source = context 1 1 1; target = context 0 0 0; class = 0; perm = 4 }) ∷ (record
    { source = context 0 0 0; target = context 1 1 1; class = 0; perm = 5 }) ∷ (record
    { source = context 1 1 1; target = context 0 0 0; class = 0; perm = 5 }) ∷ []) ≡ record { verdict = fails 4 0; consulted = 1 } ∷ record
    { verdict = granted; consulted = 1 } ∷ record { verdict = fails 4 1; consulted = 1 } ∷ record { verdict = granted; consulted = 1 } ∷ record
    { verdict = granted; consulted = 1 } ∷ record { verdict = fails 4 2; consulted = 1 } ∷ record { verdict = granted; consulted = 1 } ∷ record
    { verdict = fails 4 3; consulted = 1 } ∷ record { verdict = granted; consulted = 1 } ∷ record { verdict = granted; consulted = 1 } ∷ record
    { verdict = fails 4 5; consulted = 1 } ∷ record { verdict = fails 4 5; consulted = 1 } ∷ []
unfolding computing
asked-16-changes = refl

asked-16-statements : from_text asked-16 ((record { source = context 0 0 0; target = context 1 1 1; class = 0; perm = 0 }) ∷ (record
    { source = context 1 1 1; target = context 0 0 0; class = 0; perm = 0 }) ∷ (record
    { source = context 0 0 0; target = context 1 1 1; class = 0; perm = 1 }) ∷ (record
    { source = context 1 1 1; target = context 0 0 0; class = 0; perm = 1 }) ∷ (record
    { source = context 0 0 0; target = context 1 1 1; class = 0; perm = 2 }) ∷ (record
    { source = context 1 1 1; target = context 0 0 0; class = 0; perm = 2 }) ∷ (record
    { source = context 0 0 0; target = context 1 1 1; class = 0; perm = 3 }) ∷ (record
    { source = context 1 1 1; target = context 0 0 0; class = 0; perm = 3 }) ∷ (record
    { source = context 0 0 0; target = context 1 1 1; class = 0; perm = 4 }) ∷ (record
    { source = context 1 1 1; target = context 0 0 0; class = 0; perm = 4 }) ∷ (record
    { source = context 0 0 0; target = context 1 1 1; class = 0; perm = 5 }) ∷ (record
    { source = context 1 1 1; target = context 0 0 0; class = 0; perm = 5 }) ∷ []) ≡ record { verdict = fails 4 0; consulted = 1 } ∷ record
    { verdict = granted; consulted = 1 } ∷ record { verdict = fails 4 1; consulted = 1 } ∷ record { verdict = granted; consulted = 1 } ∷ record
    { verdict = granted; consulted = 1 } ∷ record { verdict = fails 4 2; consulted = 1 } ∷ record { verdict = granted; consulted = 1 } ∷ record
    { verdict = fails 4 3; consulted = 1 } ∷ record { verdict = granted; consulted = 1 } ∷ record { verdict = granted; consulted = 1 } ∷ record
    { verdict = fails 4 5; consulted = 1 } ∷ record { verdict = fails 4 5; consulted = 1 } ∷ []
unfolding computing
asked-16-statements = refl

-- and, or, not
abbrev asked-17 : List ℕ
asked-17 = bytes "(user u)(user v)(role a)(role b)(type s)(type t)(userrole u a)(userrole v b)(roletype a s)(roletype b t)(class c(a b c d" ++
    bytes " e f g h))(constrain(c(a))(and(neq u1 u2)(neq r1 r2)))(constrain(c(b))(and(neq u1 u2)(eq r1 r2)))(constrain(c(c))(and(eq" ++ bytes
    " u1 u2)(neq r1 r2)))(constrain(c(d))(or(eq u1 u2)(neq r1 r2)))(constrain(c(e))(or(neq u1 u2)(eq r1 r2)))(constrain(c(f))" ++ bytes
    "(or(eq u1 u2)(eq r1 r2)))(constrain(c(g))(not(eq u1 u2)))(constrain(c(h))(not(not(eq u1 u2))))"

abbrev asked-17-table : List ℕ
asked-17-table = 2 ∷ 0 ∷ 10 ∷ 0 ∷ 84 ∷ 0 ∷ 0 ∷ 0 ∷ 75 ∷ 0 ∷ 0 ∷ 0 ∷ 159 ∷ 0 ∷ 0 ∷ 0 ∷ 32 ∷ 0 ∷ 0 ∷ 0 ∷ 191 ∷ 0 ∷ 0 ∷ 0 ∷ 128 ∷ 0 ∷ 0 ∷ 0 ∷ 63 ∷ 1
    ∷ 0 ∷ 0 ∷ 32 ∷ 0 ∷ 0 ∷ 0 ∷ 95 ∷ 1 ∷ 0 ∷ 0 ∷ 0 ∷ 0 ∷ 0 ∷ 0 ∷ 95 ∷ 1 ∷ 0 ∷ 0 ∷ 80 ∷ 0 ∷ 0 ∷ 0 ∷ 175 ∷ 1 ∷ 0 ∷ 0 ∷ 138 ∷ 0 ∷ 0 ∷ 0 ∷ 57 ∷ 2 ∷ 0 ∷ 0 ∷
    0 ∷ 0 ∷ 0 ∷ 0 ∷ 57 ∷ 2 ∷ 0 ∷ 0 ∷ 0 ∷ 0 ∷ 0 ∷ 0 ∷ 57 ∷ 2 ∷ 0 ∷ 0 ∷ 0 ∷ 0 ∷ 0 ∷ 0 ∷ 0 ∷ 0 ∷ 0 ∷ 1 ∷ 117 ∷ 0 ∷ 1 ∷ 0 ∷ 1 ∷ 118 ∷ 1 ∷ 0 ∷ 0 ∷ 1 ∷ 97 ∷
    1 ∷ 1 ∷ 0 ∷ 1 ∷ 98 ∷ 2 ∷ 0 ∷ 0 ∷ 1 ∷ 115 ∷ 2 ∷ 1 ∷ 0 ∷ 1 ∷ 116 ∷ 6 ∷ 0 ∷ 0 ∷ 1 ∷ 99 ∷ 7 ∷ 0 ∷ 0 ∷ 1 ∷ 97 ∷ 7 ∷ 1 ∷ 0 ∷ 1 ∷ 98 ∷ 7 ∷ 2 ∷ 0 ∷ 1 ∷ 99
    ∷ 7 ∷ 3 ∷ 0 ∷ 1 ∷ 100 ∷ 7 ∷ 4 ∷ 0 ∷ 1 ∷ 101 ∷ 7 ∷ 5 ∷ 0 ∷ 1 ∷ 102 ∷ 7 ∷ 6 ∷ 0 ∷ 1 ∷ 103 ∷ 7 ∷ 7 ∷ 0 ∷ 1 ∷ 104 ∷ 1 ∷ 0 ∷ 0 ∷ 0 ∷ 0 ∷ 0 ∷ 0 ∷ 0 ∷ 0
    ∷ 0 ∷ 0 ∷ 0 ∷ 0 ∷ 0 ∷ 0 ∷ 0 ∷ 2 ∷ 0 ∷ 0 ∷ 0 ∷ 0 ∷ 0 ∷ 0 ∷ 0 ∷ 0 ∷ 0 ∷ 0 ∷ 0 ∷ 0 ∷ 0 ∷ 0 ∷ 0 ∷ 1 ∷ 0 ∷ 0 ∷ 0 ∷ 0 ∷ 0 ∷ 0 ∷ 0 ∷ 0 ∷ 0 ∷ 0 ∷ 0 ∷ 0 ∷
    0 ∷ 0 ∷ 0 ∷ 0 ∷ 0 ∷ 0 ∷ 0 ∷ 0 ∷ 0 ∷ 0 ∷ 0 ∷ 0 ∷ 0 ∷ 0 ∷ 0 ∷ 0 ∷ 0 ∷ 0 ∷ 0 ∷ 0 ∷ 0 ∷ 0 ∷ 0 ∷ 0 ∷ 0 ∷ 0 ∷ 0 ∷ 0 ∷ 0 ∷ 0 ∷ 0 ∷ 0 ∷ 0 ∷ 0 ∷ 0 ∷ 0 ∷ 0
    ∷ 0 ∷ 0 ∷ 0 ∷ 0 ∷ 0 ∷ 0 ∷ 0 ∷ 0 ∷ 0 ∷ 0 ∷ 0 ∷ 0 ∷ 0 ∷ 0 ∷ 2 ∷ 0 ∷ 0 ∷ 0 ∷ 0 ∷ 0 ∷ 0 ∷ 0 ∷ 0 ∷ 0 ∷ 0 ∷ 0 ∷ 0 ∷ 0 ∷ 0 ∷ 0 ∷ 0 ∷ 0 ∷ 0 ∷ 0 ∷ 0 ∷ 0 ∷
    0 ∷ 0 ∷ 0 ∷ 0 ∷ 0 ∷ 0 ∷ 0 ∷ 0 ∷ 0 ∷ 0 ∷ 0 ∷ 0 ∷ 0 ∷ 0 ∷ 0 ∷ 0 ∷ 0 ∷ 0 ∷ 0 ∷ 0 ∷ 0 ∷ 0 ∷ 0 ∷ 0 ∷ 0 ∷ 0 ∷ 0 ∷ 0 ∷ 0 ∷ 0 ∷ 0 ∷ 0 ∷ 0 ∷ 0 ∷ 0 ∷ 0 ∷ 0
    ∷ 0 ∷ 0 ∷ 0 ∷ 0 ∷ 0 ∷ 0 ∷ 0 ∷ 0 ∷ 0 ∷ 0 ∷ 0 ∷ 0 ∷ 0 ∷ 0 ∷ 0 ∷ 0 ∷ 0 ∷ 0 ∷ 0 ∷ 0 ∷ 0 ∷ 0 ∷ 0 ∷ 0 ∷ 0 ∷ 0 ∷ 0 ∷ 0 ∷ 0 ∷ 0 ∷ 0 ∷ 0 ∷ 0 ∷ 0 ∷ 0 ∷ 0 ∷
    0 ∷ 0 ∷ 0 ∷ 1 ∷ 0 ∷ 0 ∷ 0 ∷ 0 ∷ 0 ∷ 3 ∷ 0 ∷ 0 ∷ 0 ∷ 2 ∷ 0 ∷ 0 ∷ 0 ∷ 3 ∷ 0 ∷ 3 ∷ 0 ∷ 0 ∷ 0 ∷ 4 ∷ 0 ∷ 0 ∷ 0 ∷ 6 ∷ 0 ∷ 3 ∷ 0 ∷ 0 ∷ 0 ∷ 8 ∷ 0 ∷ 0 ∷ 0
    ∷ 9 ∷ 0 ∷ 3 ∷ 0 ∷ 0 ∷ 0 ∷ 16 ∷ 0 ∷ 0 ∷ 0 ∷ 12 ∷ 0 ∷ 3 ∷ 0 ∷ 0 ∷ 0 ∷ 32 ∷ 0 ∷ 0 ∷ 0 ∷ 15 ∷ 0 ∷ 3 ∷ 0 ∷ 0 ∷ 0 ∷ 64 ∷ 0 ∷ 0 ∷ 0 ∷ 18 ∷ 0 ∷ 2 ∷ 0 ∷ 0
    ∷ 0 ∷ 128 ∷ 0 ∷ 0 ∷ 0 ∷ 20 ∷ 0 ∷ 3 ∷ 0 ∷ 3 ∷ 0 ∷ 1 ∷ 0 ∷ 0 ∷ 0 ∷ 3 ∷ 2 ∷ 1 ∷ 0 ∷ 0 ∷ 0 ∷ 1 ∷ 0 ∷ 0 ∷ 0 ∷ 0 ∷ 0 ∷ 3 ∷ 0 ∷ 1 ∷ 0 ∷ 0 ∷ 0 ∷ 3 ∷ 2 ∷ 0
    ∷ 0 ∷ 0 ∷ 0 ∷ 1 ∷ 0 ∷ 0 ∷ 0 ∷ 0 ∷ 0 ∷ 3 ∷ 0 ∷ 0 ∷ 0 ∷ 0 ∷ 0 ∷ 3 ∷ 2 ∷ 1 ∷ 0 ∷ 0 ∷ 0 ∷ 1 ∷ 0 ∷ 0 ∷ 0 ∷ 0 ∷ 0 ∷ 3 ∷ 0 ∷ 0 ∷ 0 ∷ 0 ∷ 0 ∷ 3 ∷ 2 ∷ 1 ∷
    0 ∷ 0 ∷ 0 ∷ 2 ∷ 0 ∷ 0 ∷ 0 ∷ 0 ∷ 0 ∷ 3 ∷ 0 ∷ 1 ∷ 0 ∷ 0 ∷ 0 ∷ 3 ∷ 2 ∷ 0 ∷ 0 ∷ 0 ∷ 0 ∷ 2 ∷ 0 ∷ 0 ∷ 0 ∷ 0 ∷ 0 ∷ 3 ∷ 0 ∷ 0 ∷ 0 ∷ 0 ∷ 0 ∷ 3 ∷ 2 ∷ 0 ∷ 0
    ∷ 0 ∷ 0 ∷ 2 ∷ 0 ∷ 0 ∷ 0 ∷ 0 ∷ 0 ∷ 3 ∷ 0 ∷ 0 ∷ 0 ∷ 0 ∷ 0 ∷ 0 ∷ 0 ∷ 0 ∷ 0 ∷ 0 ∷ 0 ∷ 3 ∷ 0 ∷ 0 ∷ 0 ∷ 0 ∷ 0 ∷ 0 ∷ 0 ∷ 0 ∷ 0 ∷ 0 ∷ 0 ∷ 0 ∷ 0 ∷ 0 ∷ 0 ∷
    0 ∷ 0 ∷ []

asked-17-written : table_of asked-17 ≡ asked-17-table
unfolding computing
asked-17-written = refl

asked-17-changes : changes_on asked-17-table ((record { source = context 0 0 0; target = context 1 1 1; class = 0; perm = 0 }) ∷ (record
    { source = context 0 0 0; target = context 1 1 1; class = 0; perm = 1 }) ∷ (record
    { source = context 0 0 0; target = context 1 1 1; class = 0; perm = 2 }) ∷ (record
    { source = context 0 0 0; target = context 1 1 1; class = 0; perm = 3 }) ∷ (record
    { source = context 0 0 0; target = context 1 1 1; class = 0; perm = 4 }) ∷ (record
    { source = context 0 0 0; target = context 1 1 1; class = 0; perm = 5 }) ∷ (record
    { source = context 0 0 0; target = context 1 1 1; class = 0; perm = 6 }) ∷ (record
    { source = context 0 0 0; target = context 1 1 1; class = 0; perm = 7 }) ∷ []) ≡ record { verdict = granted; consulted = 1 } ∷ record
    { verdict = fails 4 1; consulted = 1 } ∷ record { verdict = fails 4 2; consulted = 1 } ∷ record { verdict = granted; consulted = 1 } ∷ record
    { verdict = granted; consulted = 1 } ∷ record { verdict = fails 4 5; consulted = 1 } ∷ record { verdict = granted; consulted = 1 } ∷ record
    { verdict = fails 4 7; consulted = 1 } ∷ []
unfolding computing
asked-17-changes = refl

asked-17-statements : from_text asked-17 ((record { source = context 0 0 0; target = context 1 1 1; class = 0; perm = 0 }) ∷ (record
    { source = context 0 0 0; target = context 1 1 1; class = 0; perm = 1 }) ∷ (record
    { source = context 0 0 0; target = context 1 1 1; class = 0; perm = 2 }) ∷ (record
    { source = context 0 0 0; target = context 1 1 1; class = 0; perm = 3 }) ∷ (record
    { source = context 0 0 0; target = context 1 1 1; class = 0; perm = 4 }) ∷ (record
    { source = context 0 0 0; target = context 1 1 1; class = 0; perm = 5 }) ∷ (record
    { source = context 0 0 0; target = context 1 1 1; class = 0; perm = 6 }) ∷ (record
    { source = context 0 0 0; target = context 1 1 1; class = 0; perm = 7 }) ∷ []) ≡ record { verdict = granted; consulted = 1 } ∷ record
    { verdict = fails 4 1; consulted = 1 } ∷ record { verdict = fails 4 2; consulted = 1 } ∷ record { verdict = granted; consulted = 1 } ∷ record
    { verdict = granted; consulted = 1 } ∷ record { verdict = fails 4 5; consulted = 1 } ∷ record { verdict = granted; consulted = 1 } ∷ record
    { verdict = fails 4 7; consulted = 1 } ∷ []
unfolding computing
asked-17-statements = refl

-- up to five on the stack
abbrev asked-18 : List ℕ
asked-18 = bytes "(user u)(user v)(role a)(role b)(type s)(type t)(userrole u a)(userrole v b)(roletype a s)(roletype b t)(class c(a b c d" ++
    bytes "))(constrain(c(a))(not(and(or(eq u1 u2)(neq t1 t2))(not(or(eq u1 u2)(eq t1 t2))))))(constrain(c(b))(or(eq u1 u2)(or(eq r" ++ bytes
    "1 r2)(and(neq t1 t2)(or(eq u1 v)(eq u1 u))))))(constrain(c(c))(and(eq u1 u2)(and(eq u1 u)(and(eq u2 v)(and(eq r1 a)(eq r" ++ bytes
    "2 b))))))(constrain(c(d))(and(and(and(and(and(eq u1 u)(eq u2 v))(eq r1 a))(eq r2 b))(eq t1 s))(neq t2 t)))"

abbrev asked-18-table : List ℕ
asked-18-table = 2 ∷ 0 ∷ 10 ∷ 0 ∷ 84 ∷ 0 ∷ 0 ∷ 0 ∷ 55 ∷ 0 ∷ 0 ∷ 0 ∷ 139 ∷ 0 ∷ 0 ∷ 0 ∷ 32 ∷ 0 ∷ 0 ∷ 0 ∷ 171 ∷ 0 ∷ 0 ∷ 0 ∷ 128 ∷ 0 ∷ 0 ∷ 0 ∷ 43 ∷ 1
    ∷ 0 ∷ 0 ∷ 32 ∷ 0 ∷ 0 ∷ 0 ∷ 75 ∷ 1 ∷ 0 ∷ 0 ∷ 0 ∷ 0 ∷ 0 ∷ 0 ∷ 75 ∷ 1 ∷ 0 ∷ 0 ∷ 40 ∷ 0 ∷ 0 ∷ 0 ∷ 115 ∷ 1 ∷ 0 ∷ 0 ∷ 228 ∷ 0 ∷ 0 ∷ 0 ∷ 87 ∷ 2 ∷ 0 ∷ 0 ∷
    0 ∷ 0 ∷ 0 ∷ 0 ∷ 87 ∷ 2 ∷ 0 ∷ 0 ∷ 0 ∷ 0 ∷ 0 ∷ 0 ∷ 87 ∷ 2 ∷ 0 ∷ 0 ∷ 0 ∷ 0 ∷ 0 ∷ 0 ∷ 0 ∷ 0 ∷ 0 ∷ 1 ∷ 117 ∷ 0 ∷ 1 ∷ 0 ∷ 1 ∷ 118 ∷ 1 ∷ 0 ∷ 0 ∷ 1 ∷ 97 ∷
    1 ∷ 1 ∷ 0 ∷ 1 ∷ 98 ∷ 2 ∷ 0 ∷ 0 ∷ 1 ∷ 115 ∷ 2 ∷ 1 ∷ 0 ∷ 1 ∷ 116 ∷ 6 ∷ 0 ∷ 0 ∷ 1 ∷ 99 ∷ 7 ∷ 0 ∷ 0 ∷ 1 ∷ 97 ∷ 7 ∷ 1 ∷ 0 ∷ 1 ∷ 98 ∷ 7 ∷ 2 ∷ 0 ∷ 1 ∷ 99
    ∷ 7 ∷ 3 ∷ 0 ∷ 1 ∷ 100 ∷ 1 ∷ 0 ∷ 0 ∷ 0 ∷ 0 ∷ 0 ∷ 0 ∷ 0 ∷ 0 ∷ 0 ∷ 0 ∷ 0 ∷ 0 ∷ 0 ∷ 0 ∷ 0 ∷ 2 ∷ 0 ∷ 0 ∷ 0 ∷ 0 ∷ 0 ∷ 0 ∷ 0 ∷ 0 ∷ 0 ∷ 0 ∷ 0 ∷ 0 ∷ 0 ∷ 0
    ∷ 0 ∷ 1 ∷ 0 ∷ 0 ∷ 0 ∷ 0 ∷ 0 ∷ 0 ∷ 0 ∷ 0 ∷ 0 ∷ 0 ∷ 0 ∷ 0 ∷ 0 ∷ 0 ∷ 0 ∷ 0 ∷ 0 ∷ 0 ∷ 0 ∷ 0 ∷ 0 ∷ 0 ∷ 0 ∷ 0 ∷ 0 ∷ 0 ∷ 0 ∷ 0 ∷ 0 ∷ 0 ∷ 0 ∷ 0 ∷ 0 ∷ 0 ∷
    0 ∷ 0 ∷ 0 ∷ 0 ∷ 0 ∷ 0 ∷ 0 ∷ 0 ∷ 0 ∷ 0 ∷ 0 ∷ 0 ∷ 0 ∷ 0 ∷ 0 ∷ 0 ∷ 0 ∷ 0 ∷ 0 ∷ 0 ∷ 0 ∷ 0 ∷ 0 ∷ 0 ∷ 0 ∷ 0 ∷ 0 ∷ 0 ∷ 0 ∷ 2 ∷ 0 ∷ 0 ∷ 0 ∷ 0 ∷ 0 ∷ 0 ∷ 0
    ∷ 0 ∷ 0 ∷ 0 ∷ 0 ∷ 0 ∷ 0 ∷ 0 ∷ 0 ∷ 0 ∷ 0 ∷ 0 ∷ 0 ∷ 0 ∷ 0 ∷ 0 ∷ 0 ∷ 0 ∷ 0 ∷ 0 ∷ 0 ∷ 0 ∷ 0 ∷ 0 ∷ 0 ∷ 0 ∷ 0 ∷ 0 ∷ 0 ∷ 0 ∷ 0 ∷ 0 ∷ 0 ∷ 0 ∷ 0 ∷ 0 ∷ 0 ∷
    0 ∷ 0 ∷ 0 ∷ 0 ∷ 0 ∷ 0 ∷ 0 ∷ 0 ∷ 0 ∷ 0 ∷ 0 ∷ 0 ∷ 0 ∷ 0 ∷ 0 ∷ 0 ∷ 0 ∷ 0 ∷ 0 ∷ 0 ∷ 0 ∷ 0 ∷ 0 ∷ 0 ∷ 0 ∷ 0 ∷ 0 ∷ 0 ∷ 0 ∷ 0 ∷ 0 ∷ 0 ∷ 0 ∷ 0 ∷ 0 ∷ 0 ∷ 0
    ∷ 0 ∷ 0 ∷ 0 ∷ 0 ∷ 0 ∷ 0 ∷ 0 ∷ 0 ∷ 0 ∷ 0 ∷ 0 ∷ 0 ∷ 0 ∷ 0 ∷ 0 ∷ 0 ∷ 0 ∷ 1 ∷ 0 ∷ 0 ∷ 0 ∷ 0 ∷ 0 ∷ 9 ∷ 0 ∷ 0 ∷ 0 ∷ 2 ∷ 0 ∷ 0 ∷ 0 ∷ 9 ∷ 0 ∷ 9 ∷ 0 ∷ 0 ∷
    0 ∷ 4 ∷ 0 ∷ 0 ∷ 0 ∷ 18 ∷ 0 ∷ 9 ∷ 0 ∷ 0 ∷ 0 ∷ 8 ∷ 0 ∷ 0 ∷ 0 ∷ 27 ∷ 0 ∷ 11 ∷ 0 ∷ 3 ∷ 0 ∷ 0 ∷ 0 ∷ 0 ∷ 0 ∷ 3 ∷ 4 ∷ 1 ∷ 0 ∷ 0 ∷ 0 ∷ 2 ∷ 0 ∷ 0 ∷ 0 ∷ 0 ∷
    0 ∷ 3 ∷ 0 ∷ 0 ∷ 0 ∷ 0 ∷ 0 ∷ 3 ∷ 4 ∷ 0 ∷ 0 ∷ 0 ∷ 0 ∷ 2 ∷ 0 ∷ 0 ∷ 0 ∷ 0 ∷ 0 ∷ 0 ∷ 0 ∷ 0 ∷ 0 ∷ 0 ∷ 0 ∷ 1 ∷ 0 ∷ 0 ∷ 0 ∷ 0 ∷ 0 ∷ 0 ∷ 0 ∷ 0 ∷ 0 ∷ 0 ∷ 0
    ∷ 3 ∷ 0 ∷ 0 ∷ 0 ∷ 0 ∷ 0 ∷ 3 ∷ 2 ∷ 0 ∷ 0 ∷ 0 ∷ 0 ∷ 3 ∷ 4 ∷ 1 ∷ 0 ∷ 0 ∷ 0 ∷ 4 ∷ 0 ∷ 0 ∷ 0 ∷ 1 ∷ 0 ∷ 4 ∷ 0 ∷ 0 ∷ 0 ∷ 0 ∷ 0 ∷ 2 ∷ 0 ∷ 0 ∷ 0 ∷ 0 ∷ 0 ∷
    1 ∷ 0 ∷ 0 ∷ 0 ∷ 0 ∷ 0 ∷ 2 ∷ 0 ∷ 0 ∷ 0 ∷ 0 ∷ 0 ∷ 2 ∷ 0 ∷ 0 ∷ 0 ∷ 0 ∷ 0 ∷ 3 ∷ 0 ∷ 0 ∷ 0 ∷ 0 ∷ 0 ∷ 4 ∷ 0 ∷ 0 ∷ 0 ∷ 0 ∷ 0 ∷ 4 ∷ 1 ∷ 0 ∷ 0 ∷ 1 ∷ 0 ∷ 4
    ∷ 2 ∷ 0 ∷ 0 ∷ 0 ∷ 0 ∷ 4 ∷ 3 ∷ 0 ∷ 0 ∷ 1 ∷ 0 ∷ 1 ∷ 0 ∷ 0 ∷ 0 ∷ 0 ∷ 0 ∷ 1 ∷ 0 ∷ 0 ∷ 0 ∷ 0 ∷ 0 ∷ 1 ∷ 0 ∷ 0 ∷ 0 ∷ 0 ∷ 0 ∷ 1 ∷ 0 ∷ 0 ∷ 0 ∷ 0 ∷ 0 ∷ 4 ∷
    0 ∷ 0 ∷ 0 ∷ 0 ∷ 0 ∷ 4 ∷ 1 ∷ 0 ∷ 0 ∷ 1 ∷ 0 ∷ 1 ∷ 0 ∷ 0 ∷ 0 ∷ 0 ∷ 0 ∷ 4 ∷ 2 ∷ 0 ∷ 0 ∷ 0 ∷ 0 ∷ 1 ∷ 0 ∷ 0 ∷ 0 ∷ 0 ∷ 0 ∷ 4 ∷ 3 ∷ 0 ∷ 0 ∷ 1 ∷ 0 ∷ 1 ∷ 0
    ∷ 0 ∷ 0 ∷ 0 ∷ 0 ∷ 4 ∷ 4 ∷ 0 ∷ 0 ∷ 0 ∷ 0 ∷ 1 ∷ 0 ∷ 0 ∷ 0 ∷ 0 ∷ 0 ∷ 4 ∷ 5 ∷ 1 ∷ 0 ∷ 1 ∷ 0 ∷ 1 ∷ 0 ∷ 0 ∷ 0 ∷ 0 ∷ 0 ∷ []

asked-18-written : table_of asked-18 ≡ asked-18-table
unfolding computing
asked-18-written = refl

asked-18-changes : changes_on asked-18-table ((record { source = context 0 0 0; target = context 1 1 1; class = 0; perm = 0 }) ∷ (record
    { source = context 0 0 0; target = context 1 1 1; class = 0; perm = 1 }) ∷ (record
    { source = context 0 0 0; target = context 1 1 1; class = 0; perm = 2 }) ∷ (record
    { source = context 0 0 0; target = context 1 1 1; class = 0; perm = 3 }) ∷ []) ≡ record { verdict = fails 4 0; consulted = 1 } ∷ record
    { verdict = granted; consulted = 1 } ∷ record { verdict = fails 4 2; consulted = 1 } ∷ record { verdict = fails 4 3; consulted = 1 } ∷ []
unfolding computing
asked-18-changes = refl

asked-18-statements : from_text asked-18 ((record { source = context 0 0 0; target = context 1 1 1; class = 0; perm = 0 }) ∷ (record
    { source = context 0 0 0; target = context 1 1 1; class = 0; perm = 1 }) ∷ (record
    { source = context 0 0 0; target = context 1 1 1; class = 0; perm = 2 }) ∷ (record
    { source = context 0 0 0; target = context 1 1 1; class = 0; perm = 3 }) ∷ []) ≡ record { verdict = fails 4 0; consulted = 1 } ∷ record
    { verdict = granted; consulted = 1 } ∷ record { verdict = fails 4 2; consulted = 1 } ∷ record { verdict = fails 4 3; consulted = 1 } ∷ []
unfolding computing
asked-18-statements = refl

-- an attribute filled after its use
abbrev asked-19 : List ℕ
asked-19 = bytes "(user u)(role a)(role b)(type t)(roleattribute x)(roleattribute y)(userrole u x)(roletype x t)(roleattributeset x(y))(cl" ++
    bytes "ass c(p))(constrain(c(p))(eq r1 x))(roleattributeset y(b))"

abbrev asked-19-table : List ℕ
asked-19-table = 2 ∷ 0 ∷ 10 ∷ 0 ∷ 84 ∷ 0 ∷ 0 ∷ 0 ∷ 40 ∷ 0 ∷ 0 ∷ 0 ∷ 124 ∷ 0 ∷ 0 ∷ 0 ∷ 16 ∷ 0 ∷ 0 ∷ 0 ∷ 140 ∷ 0 ∷ 0 ∷ 0 ∷ 128 ∷ 0 ∷ 0 ∷ 0 ∷ 12 ∷ 1
    ∷ 0 ∷ 0 ∷ 32 ∷ 0 ∷ 0 ∷ 0 ∷ 44 ∷ 1 ∷ 0 ∷ 0 ∷ 0 ∷ 0 ∷ 0 ∷ 0 ∷ 44 ∷ 1 ∷ 0 ∷ 0 ∷ 10 ∷ 0 ∷ 0 ∷ 0 ∷ 54 ∷ 1 ∷ 0 ∷ 0 ∷ 6 ∷ 0 ∷ 0 ∷ 0 ∷ 60 ∷ 1 ∷ 0 ∷ 0 ∷ 32
    ∷ 0 ∷ 0 ∷ 0 ∷ 92 ∷ 1 ∷ 0 ∷ 0 ∷ 0 ∷ 0 ∷ 0 ∷ 0 ∷ 92 ∷ 1 ∷ 0 ∷ 0 ∷ 0 ∷ 0 ∷ 0 ∷ 0 ∷ 0 ∷ 0 ∷ 0 ∷ 1 ∷ 117 ∷ 1 ∷ 0 ∷ 0 ∷ 1 ∷ 97 ∷ 1 ∷ 1 ∷ 0 ∷ 1 ∷ 98 ∷ 2
    ∷ 0 ∷ 0 ∷ 1 ∷ 116 ∷ 4 ∷ 0 ∷ 0 ∷ 1 ∷ 120 ∷ 4 ∷ 1 ∷ 0 ∷ 1 ∷ 121 ∷ 6 ∷ 0 ∷ 0 ∷ 1 ∷ 99 ∷ 7 ∷ 0 ∷ 0 ∷ 1 ∷ 112 ∷ 2 ∷ 0 ∷ 0 ∷ 0 ∷ 0 ∷ 0 ∷ 0 ∷ 0 ∷ 0 ∷ 0 ∷
    0 ∷ 0 ∷ 0 ∷ 0 ∷ 0 ∷ 0 ∷ 0 ∷ 0 ∷ 0 ∷ 0 ∷ 0 ∷ 0 ∷ 0 ∷ 0 ∷ 0 ∷ 0 ∷ 0 ∷ 0 ∷ 0 ∷ 0 ∷ 0 ∷ 0 ∷ 0 ∷ 0 ∷ 0 ∷ 0 ∷ 0 ∷ 0 ∷ 0 ∷ 0 ∷ 0 ∷ 0 ∷ 0 ∷ 0 ∷ 0 ∷ 0 ∷ 0
    ∷ 0 ∷ 0 ∷ 0 ∷ 0 ∷ 0 ∷ 0 ∷ 0 ∷ 0 ∷ 0 ∷ 0 ∷ 0 ∷ 0 ∷ 0 ∷ 0 ∷ 0 ∷ 0 ∷ 0 ∷ 0 ∷ 0 ∷ 0 ∷ 0 ∷ 0 ∷ 0 ∷ 0 ∷ 0 ∷ 0 ∷ 0 ∷ 0 ∷ 0 ∷ 0 ∷ 0 ∷ 0 ∷ 0 ∷ 1 ∷ 0 ∷ 0 ∷
    0 ∷ 0 ∷ 0 ∷ 0 ∷ 0 ∷ 0 ∷ 0 ∷ 0 ∷ 0 ∷ 0 ∷ 0 ∷ 0 ∷ 0 ∷ 0 ∷ 0 ∷ 0 ∷ 0 ∷ 0 ∷ 0 ∷ 0 ∷ 0 ∷ 0 ∷ 0 ∷ 0 ∷ 0 ∷ 0 ∷ 0 ∷ 0 ∷ 0 ∷ 0 ∷ 0 ∷ 0 ∷ 0 ∷ 0 ∷ 0 ∷ 0 ∷ 0
    ∷ 0 ∷ 0 ∷ 0 ∷ 0 ∷ 0 ∷ 0 ∷ 0 ∷ 0 ∷ 0 ∷ 0 ∷ 0 ∷ 0 ∷ 0 ∷ 0 ∷ 0 ∷ 0 ∷ 0 ∷ 0 ∷ 0 ∷ 0 ∷ 0 ∷ 0 ∷ 0 ∷ 0 ∷ 0 ∷ 0 ∷ 0 ∷ 0 ∷ 0 ∷ 0 ∷ 0 ∷ 0 ∷ 0 ∷ 0 ∷ 0 ∷ 0 ∷
    0 ∷ 0 ∷ 0 ∷ 0 ∷ 0 ∷ 0 ∷ 0 ∷ 0 ∷ 0 ∷ 0 ∷ 0 ∷ 0 ∷ 0 ∷ 0 ∷ 0 ∷ 0 ∷ 0 ∷ 0 ∷ 0 ∷ 0 ∷ 0 ∷ 0 ∷ 1 ∷ 0 ∷ 0 ∷ 0 ∷ 0 ∷ 0 ∷ 1 ∷ 0 ∷ 5 ∷ 2 ∷ 0 ∷ 0 ∷ 0 ∷ 0 ∷ 2
    ∷ 0 ∷ 0 ∷ 0 ∷ 0 ∷ 0 ∷ 0 ∷ 0 ∷ 0 ∷ 0 ∷ 0 ∷ 0 ∷ 0 ∷ 0 ∷ 0 ∷ 0 ∷ 2 ∷ 0 ∷ 0 ∷ 0 ∷ 0 ∷ 0 ∷ 0 ∷ 0 ∷ 0 ∷ 0 ∷ 0 ∷ 0 ∷ 0 ∷ 0 ∷ 0 ∷ 0 ∷ []

asked-19-written : table_of asked-19 ≡ asked-19-table
unfolding computing
asked-19-written = refl

asked-19-changes : changes_on asked-19-table ((record { source = context 0 1 0; target = context 0 1 0; class = 0; perm = 0 }) ∷ (record
    { source = context 0 0 0; target = context 0 1 0; class = 0; perm = 0 }) ∷ []) ≡ record { verdict = granted; consulted = 1 } ∷ record
    { verdict = denied 1; consulted = 0 } ∷ []
unfolding computing
asked-19-changes = refl

asked-19-statements : from_text asked-19 ((record { source = context 0 1 0; target = context 0 1 0; class = 0; perm = 0 }) ∷ (record
    { source = context 0 0 0; target = context 0 1 0; class = 0; perm = 0 }) ∷ []) ≡ record { verdict = granted; consulted = 1 } ∷ record
    { verdict = denied 1; consulted = 0 } ∷ []
unfolding computing
asked-19-statements = refl

-- not within the whole text
abbrev asked-20 : List ℕ
asked-20 = bytes "(user u)(role a)(type t)(roleattribute x)(roleattributeset x(not a))(userrole u x)(role b)(roletype b t)(class c(p))(con" ++
    bytes "strain(c(p))(neq r2 x))"

abbrev asked-20-table : List ℕ
asked-20-table = 2 ∷ 0 ∷ 10 ∷ 0 ∷ 84 ∷ 0 ∷ 0 ∷ 0 ∷ 35 ∷ 0 ∷ 0 ∷ 0 ∷ 119 ∷ 0 ∷ 0 ∷ 0 ∷ 16 ∷ 0 ∷ 0 ∷ 0 ∷ 135 ∷ 0 ∷ 0 ∷ 0 ∷ 128 ∷ 0 ∷ 0 ∷ 0 ∷ 7 ∷ 1 ∷
    0 ∷ 0 ∷ 32 ∷ 0 ∷ 0 ∷ 0 ∷ 39 ∷ 1 ∷ 0 ∷ 0 ∷ 0 ∷ 0 ∷ 0 ∷ 0 ∷ 39 ∷ 1 ∷ 0 ∷ 0 ∷ 10 ∷ 0 ∷ 0 ∷ 0 ∷ 49 ∷ 1 ∷ 0 ∷ 0 ∷ 6 ∷ 0 ∷ 0 ∷ 0 ∷ 55 ∷ 1 ∷ 0 ∷ 0 ∷ 16 ∷
    0 ∷ 0 ∷ 0 ∷ 71 ∷ 1 ∷ 0 ∷ 0 ∷ 0 ∷ 0 ∷ 0 ∷ 0 ∷ 71 ∷ 1 ∷ 0 ∷ 0 ∷ 0 ∷ 0 ∷ 0 ∷ 0 ∷ 0 ∷ 0 ∷ 0 ∷ 1 ∷ 117 ∷ 1 ∷ 0 ∷ 0 ∷ 1 ∷ 97 ∷ 2 ∷ 0 ∷ 0 ∷ 1 ∷ 116 ∷ 4 ∷
    0 ∷ 0 ∷ 1 ∷ 120 ∷ 1 ∷ 1 ∷ 0 ∷ 1 ∷ 98 ∷ 6 ∷ 0 ∷ 0 ∷ 1 ∷ 99 ∷ 7 ∷ 0 ∷ 0 ∷ 1 ∷ 112 ∷ 2 ∷ 0 ∷ 0 ∷ 0 ∷ 0 ∷ 0 ∷ 0 ∷ 0 ∷ 0 ∷ 0 ∷ 0 ∷ 0 ∷ 0 ∷ 0 ∷ 0 ∷ 0 ∷
    0 ∷ 0 ∷ 0 ∷ 0 ∷ 0 ∷ 0 ∷ 0 ∷ 0 ∷ 0 ∷ 0 ∷ 0 ∷ 0 ∷ 0 ∷ 0 ∷ 0 ∷ 0 ∷ 0 ∷ 0 ∷ 0 ∷ 0 ∷ 0 ∷ 0 ∷ 0 ∷ 0 ∷ 0 ∷ 0 ∷ 0 ∷ 0 ∷ 0 ∷ 0 ∷ 0 ∷ 0 ∷ 0 ∷ 0 ∷ 0 ∷ 0 ∷ 0
    ∷ 0 ∷ 0 ∷ 0 ∷ 0 ∷ 0 ∷ 0 ∷ 0 ∷ 0 ∷ 0 ∷ 0 ∷ 0 ∷ 0 ∷ 0 ∷ 0 ∷ 0 ∷ 0 ∷ 0 ∷ 0 ∷ 0 ∷ 0 ∷ 0 ∷ 0 ∷ 0 ∷ 0 ∷ 0 ∷ 0 ∷ 0 ∷ 1 ∷ 0 ∷ 0 ∷ 0 ∷ 0 ∷ 0 ∷ 0 ∷ 0 ∷ 0 ∷
    0 ∷ 0 ∷ 0 ∷ 0 ∷ 0 ∷ 0 ∷ 0 ∷ 0 ∷ 0 ∷ 0 ∷ 0 ∷ 0 ∷ 0 ∷ 0 ∷ 0 ∷ 0 ∷ 0 ∷ 0 ∷ 0 ∷ 0 ∷ 0 ∷ 0 ∷ 0 ∷ 0 ∷ 0 ∷ 0 ∷ 0 ∷ 0 ∷ 0 ∷ 0 ∷ 0 ∷ 0 ∷ 0 ∷ 0 ∷ 0 ∷ 0 ∷ 0
    ∷ 0 ∷ 0 ∷ 0 ∷ 0 ∷ 0 ∷ 0 ∷ 0 ∷ 0 ∷ 0 ∷ 0 ∷ 0 ∷ 0 ∷ 0 ∷ 0 ∷ 0 ∷ 0 ∷ 0 ∷ 0 ∷ 0 ∷ 0 ∷ 0 ∷ 0 ∷ 0 ∷ 0 ∷ 0 ∷ 0 ∷ 0 ∷ 0 ∷ 0 ∷ 0 ∷ 0 ∷ 0 ∷ 0 ∷ 0 ∷ 0 ∷ 0 ∷
    0 ∷ 0 ∷ 0 ∷ 0 ∷ 0 ∷ 0 ∷ 0 ∷ 0 ∷ 0 ∷ 0 ∷ 0 ∷ 0 ∷ 0 ∷ 0 ∷ 0 ∷ 0 ∷ 1 ∷ 0 ∷ 0 ∷ 0 ∷ 0 ∷ 0 ∷ 1 ∷ 0 ∷ 5 ∷ 3 ∷ 1 ∷ 0 ∷ 0 ∷ 0 ∷ 2 ∷ 0 ∷ 0 ∷ 0 ∷ 0 ∷ 0 ∷ 0
    ∷ 0 ∷ 0 ∷ 0 ∷ 0 ∷ 0 ∷ 0 ∷ 0 ∷ 0 ∷ 0 ∷ []

asked-20-written : table_of asked-20 ≡ asked-20-table
unfolding computing
asked-20-written = refl

asked-20-1 : valid_on asked-20-table (context 0 0 0) ≡ answered false
unfolding computing
asked-20-1 = refl

asked-20-change : change_on asked-20-table (record { source = context 0 1 0; target = context 0 1 0; class = 0; perm = 0 }) ≡ record
    { verdict = fails 4 0; consulted = 1 }
unfolding computing
asked-20-change = refl

asked-20-statements : from_text asked-20 ((record { source = context 0 1 0; target = context 0 1 0; class = 0; perm = 0 }) ∷ []) ≡ record
    { verdict = fails 4 0; consulted = 1 } ∷ []
unfolding computing
asked-20-statements = refl

-- several statements add up
abbrev asked-21 : List ℕ
asked-21 = bytes "(user u)(type s)(type t)(role a)(userrole u a)(typeattribute z)(typeattributeset z(s))(roletype a z)(typeattributeset z(" ++
    bytes "t))(class c(p))(constrain(c(p))(and(eq t1 z)(eq t2 z)))"

abbrev asked-21-table : List ℕ
asked-21-table = 2 ∷ 0 ∷ 10 ∷ 0 ∷ 84 ∷ 0 ∷ 0 ∷ 0 ∷ 35 ∷ 0 ∷ 0 ∷ 0 ∷ 119 ∷ 0 ∷ 0 ∷ 0 ∷ 16 ∷ 0 ∷ 0 ∷ 0 ∷ 135 ∷ 0 ∷ 0 ∷ 0 ∷ 64 ∷ 0 ∷ 0 ∷ 0 ∷ 199 ∷ 0
    ∷ 0 ∷ 0 ∷ 16 ∷ 0 ∷ 0 ∷ 0 ∷ 215 ∷ 0 ∷ 0 ∷ 0 ∷ 0 ∷ 0 ∷ 0 ∷ 0 ∷ 215 ∷ 0 ∷ 0 ∷ 0 ∷ 10 ∷ 0 ∷ 0 ∷ 0 ∷ 225 ∷ 0 ∷ 0 ∷ 0 ∷ 18 ∷ 0 ∷ 0 ∷ 0 ∷ 243 ∷ 0 ∷ 0 ∷ 0
    ∷ 64 ∷ 0 ∷ 0 ∷ 0 ∷ 51 ∷ 1 ∷ 0 ∷ 0 ∷ 0 ∷ 0 ∷ 0 ∷ 0 ∷ 51 ∷ 1 ∷ 0 ∷ 0 ∷ 0 ∷ 0 ∷ 0 ∷ 0 ∷ 0 ∷ 0 ∷ 0 ∷ 1 ∷ 117 ∷ 2 ∷ 0 ∷ 0 ∷ 1 ∷ 115 ∷ 2 ∷ 1 ∷ 0 ∷ 1 ∷
    116 ∷ 1 ∷ 0 ∷ 0 ∷ 1 ∷ 97 ∷ 5 ∷ 0 ∷ 0 ∷ 1 ∷ 122 ∷ 6 ∷ 0 ∷ 0 ∷ 1 ∷ 99 ∷ 7 ∷ 0 ∷ 0 ∷ 1 ∷ 112 ∷ 1 ∷ 0 ∷ 0 ∷ 0 ∷ 0 ∷ 0 ∷ 0 ∷ 0 ∷ 0 ∷ 0 ∷ 0 ∷ 0 ∷ 0 ∷ 0
    ∷ 0 ∷ 0 ∷ 3 ∷ 0 ∷ 0 ∷ 0 ∷ 0 ∷ 0 ∷ 0 ∷ 0 ∷ 0 ∷ 0 ∷ 0 ∷ 0 ∷ 0 ∷ 0 ∷ 0 ∷ 0 ∷ 0 ∷ 0 ∷ 0 ∷ 0 ∷ 0 ∷ 0 ∷ 0 ∷ 0 ∷ 0 ∷ 0 ∷ 0 ∷ 0 ∷ 0 ∷ 0 ∷ 0 ∷ 0 ∷ 0 ∷ 0 ∷
    0 ∷ 0 ∷ 0 ∷ 0 ∷ 0 ∷ 0 ∷ 0 ∷ 0 ∷ 0 ∷ 0 ∷ 0 ∷ 0 ∷ 0 ∷ 0 ∷ 0 ∷ 0 ∷ 0 ∷ 0 ∷ 0 ∷ 0 ∷ 0 ∷ 0 ∷ 0 ∷ 0 ∷ 0 ∷ 0 ∷ 0 ∷ 0 ∷ 0 ∷ 0 ∷ 0 ∷ 0 ∷ 0 ∷ 0 ∷ 0 ∷ 0 ∷ 0
    ∷ 0 ∷ 0 ∷ 0 ∷ 0 ∷ 0 ∷ 0 ∷ 0 ∷ 0 ∷ 0 ∷ 0 ∷ 0 ∷ 1 ∷ 0 ∷ 0 ∷ 0 ∷ 0 ∷ 0 ∷ 3 ∷ 0 ∷ 5 ∷ 4 ∷ 0 ∷ 0 ∷ 0 ∷ 0 ∷ 5 ∷ 5 ∷ 0 ∷ 0 ∷ 0 ∷ 0 ∷ 1 ∷ 0 ∷ 0 ∷ 0 ∷ 0 ∷
    0 ∷ 3 ∷ 0 ∷ 0 ∷ 0 ∷ 0 ∷ 0 ∷ 0 ∷ 0 ∷ 0 ∷ 0 ∷ 0 ∷ 0 ∷ 0 ∷ 0 ∷ 0 ∷ 0 ∷ 0 ∷ 0 ∷ 0 ∷ 0 ∷ 0 ∷ 0 ∷ 0 ∷ 0 ∷ 0 ∷ 0 ∷ 0 ∷ 0 ∷ 0 ∷ 0 ∷ 0 ∷ 0 ∷ 0 ∷ 0 ∷ 0 ∷ 0
    ∷ 0 ∷ 0 ∷ 0 ∷ 0 ∷ 0 ∷ 0 ∷ 0 ∷ 0 ∷ 0 ∷ 0 ∷ 0 ∷ 0 ∷ 0 ∷ 0 ∷ 0 ∷ 0 ∷ 0 ∷ 0 ∷ 0 ∷ 0 ∷ 0 ∷ 0 ∷ 0 ∷ 0 ∷ 0 ∷ 0 ∷ 0 ∷ 0 ∷ []

asked-21-written : table_of asked-21 ≡ asked-21-table
unfolding computing
asked-21-written = refl

asked-21-change : change_on asked-21-table (record { source = context 0 0 0; target = context 0 0 1; class = 0; perm = 0 }) ≡ record
    { verdict = granted; consulted = 1 }
unfolding computing
asked-21-change = refl

asked-21-statements : from_text asked-21 ((record { source = context 0 0 0; target = context 0 0 1; class = 0; perm = 0 }) ∷ []) ≡ record
    { verdict = granted; consulted = 1 } ∷ []
unfolding computing
asked-21-statements = refl

-- an attribute without any set
abbrev asked-22 : List ℕ
asked-22 = bytes "(user u)(role a)(type t)(userrole u a)(roletype a t)(userattribute x)(class c(p))(constrain(c(p))(eq u1 x))"

abbrev asked-22-table : List ℕ
asked-22-table = 2 ∷ 0 ∷ 10 ∷ 0 ∷ 84 ∷ 0 ∷ 0 ∷ 0 ∷ 30 ∷ 0 ∷ 0 ∷ 0 ∷ 114 ∷ 0 ∷ 0 ∷ 0 ∷ 16 ∷ 0 ∷ 0 ∷ 0 ∷ 130 ∷ 0 ∷ 0 ∷ 0 ∷ 64 ∷ 0 ∷ 0 ∷ 0 ∷ 194 ∷ 0
    ∷ 0 ∷ 0 ∷ 16 ∷ 0 ∷ 0 ∷ 0 ∷ 210 ∷ 0 ∷ 0 ∷ 0 ∷ 0 ∷ 0 ∷ 0 ∷ 0 ∷ 210 ∷ 0 ∷ 0 ∷ 0 ∷ 10 ∷ 0 ∷ 0 ∷ 0 ∷ 220 ∷ 0 ∷ 0 ∷ 0 ∷ 6 ∷ 0 ∷ 0 ∷ 0 ∷ 226 ∷ 0 ∷ 0 ∷ 0
    ∷ 16 ∷ 0 ∷ 0 ∷ 0 ∷ 242 ∷ 0 ∷ 0 ∷ 0 ∷ 0 ∷ 0 ∷ 0 ∷ 0 ∷ 242 ∷ 0 ∷ 0 ∷ 0 ∷ 0 ∷ 0 ∷ 0 ∷ 0 ∷ 0 ∷ 0 ∷ 0 ∷ 1 ∷ 117 ∷ 1 ∷ 0 ∷ 0 ∷ 1 ∷ 97 ∷ 2 ∷ 0 ∷ 0 ∷ 1 ∷
    116 ∷ 3 ∷ 0 ∷ 0 ∷ 1 ∷ 120 ∷ 6 ∷ 0 ∷ 0 ∷ 1 ∷ 99 ∷ 7 ∷ 0 ∷ 0 ∷ 1 ∷ 112 ∷ 1 ∷ 0 ∷ 0 ∷ 0 ∷ 0 ∷ 0 ∷ 0 ∷ 0 ∷ 0 ∷ 0 ∷ 0 ∷ 0 ∷ 0 ∷ 0 ∷ 0 ∷ 0 ∷ 1 ∷ 0 ∷ 0 ∷
    0 ∷ 0 ∷ 0 ∷ 0 ∷ 0 ∷ 0 ∷ 0 ∷ 0 ∷ 0 ∷ 0 ∷ 0 ∷ 0 ∷ 0 ∷ 0 ∷ 0 ∷ 0 ∷ 0 ∷ 0 ∷ 0 ∷ 0 ∷ 0 ∷ 0 ∷ 0 ∷ 0 ∷ 0 ∷ 0 ∷ 0 ∷ 0 ∷ 0 ∷ 0 ∷ 0 ∷ 0 ∷ 0 ∷ 0 ∷ 0 ∷ 0 ∷ 0
    ∷ 0 ∷ 0 ∷ 0 ∷ 0 ∷ 0 ∷ 0 ∷ 0 ∷ 0 ∷ 0 ∷ 0 ∷ 0 ∷ 0 ∷ 0 ∷ 0 ∷ 0 ∷ 0 ∷ 0 ∷ 0 ∷ 0 ∷ 0 ∷ 0 ∷ 0 ∷ 0 ∷ 0 ∷ 0 ∷ 0 ∷ 0 ∷ 0 ∷ 0 ∷ 0 ∷ 0 ∷ 0 ∷ 0 ∷ 0 ∷ 0 ∷ 0 ∷
    0 ∷ 0 ∷ 0 ∷ 0 ∷ 0 ∷ 0 ∷ 1 ∷ 0 ∷ 0 ∷ 0 ∷ 0 ∷ 0 ∷ 1 ∷ 0 ∷ 5 ∷ 0 ∷ 0 ∷ 0 ∷ 0 ∷ 0 ∷ 0 ∷ 0 ∷ 0 ∷ 0 ∷ 0 ∷ 0 ∷ 0 ∷ 0 ∷ 0 ∷ 0 ∷ 0 ∷ 0 ∷ 0 ∷ 0 ∷ 0 ∷ 0 ∷ []

asked-22-written : table_of asked-22 ≡ asked-22-table
unfolding computing
asked-22-written = refl

asked-22-change : change_on asked-22-table (record { source = context 0 0 0; target = context 0 0 0; class = 0; perm = 0 }) ≡ record
    { verdict = fails 4 0; consulted = 1 }
unfolding computing
asked-22-change = refl

asked-22-statements : from_text asked-22 ((record { source = context 0 0 0; target = context 0 0 0; class = 0; perm = 0 }) ∷ []) ≡ record
    { verdict = fails 4 0; consulted = 1 } ∷ []
unfolding computing
asked-22-statements = refl

-- new role, or the role given
abbrev asked-23 : List ℕ
asked-23 = bytes "(role a)(role b)(role c)(type s)(type t)(class d(p))(class e(p))(roletransition a t d b)(roletransition a s e c)(roletra" ++
    bytes "nsition b t d c)"

abbrev asked-23-table : List ℕ
asked-23-table = 2 ∷ 0 ∷ 10 ∷ 0 ∷ 84 ∷ 0 ∷ 0 ∷ 0 ∷ 45 ∷ 0 ∷ 0 ∷ 0 ∷ 129 ∷ 0 ∷ 0 ∷ 0 ∷ 0 ∷ 0 ∷ 0 ∷ 0 ∷ 129 ∷ 0 ∷ 0 ∷ 0 ∷ 192 ∷ 0 ∷ 0 ∷ 0 ∷ 65 ∷ 1 ∷
    0 ∷ 0 ∷ 48 ∷ 0 ∷ 0 ∷ 0 ∷ 113 ∷ 1 ∷ 0 ∷ 0 ∷ 246 ∷ 0 ∷ 0 ∷ 0 ∷ 103 ∷ 2 ∷ 0 ∷ 0 ∷ 0 ∷ 0 ∷ 0 ∷ 0 ∷ 103 ∷ 2 ∷ 0 ∷ 0 ∷ 0 ∷ 0 ∷ 0 ∷ 0 ∷ 103 ∷ 2 ∷ 0 ∷ 0 ∷
    0 ∷ 0 ∷ 0 ∷ 0 ∷ 103 ∷ 2 ∷ 0 ∷ 0 ∷ 0 ∷ 0 ∷ 0 ∷ 0 ∷ 103 ∷ 2 ∷ 0 ∷ 0 ∷ 0 ∷ 0 ∷ 0 ∷ 0 ∷ 1 ∷ 0 ∷ 0 ∷ 1 ∷ 97 ∷ 1 ∷ 1 ∷ 0 ∷ 1 ∷ 98 ∷ 1 ∷ 2 ∷ 0 ∷ 1 ∷ 99 ∷
    2 ∷ 0 ∷ 0 ∷ 1 ∷ 115 ∷ 2 ∷ 1 ∷ 0 ∷ 1 ∷ 116 ∷ 6 ∷ 0 ∷ 0 ∷ 1 ∷ 100 ∷ 7 ∷ 0 ∷ 0 ∷ 1 ∷ 112 ∷ 6 ∷ 1 ∷ 0 ∷ 1 ∷ 101 ∷ 7 ∷ 32 ∷ 0 ∷ 1 ∷ 112 ∷ 0 ∷ 0 ∷ 0 ∷ 0
    ∷ 0 ∷ 0 ∷ 0 ∷ 0 ∷ 0 ∷ 0 ∷ 0 ∷ 0 ∷ 0 ∷ 0 ∷ 0 ∷ 0 ∷ 0 ∷ 0 ∷ 0 ∷ 0 ∷ 0 ∷ 0 ∷ 0 ∷ 0 ∷ 0 ∷ 0 ∷ 0 ∷ 0 ∷ 0 ∷ 0 ∷ 0 ∷ 0 ∷ 0 ∷ 0 ∷ 0 ∷ 0 ∷ 0 ∷ 0 ∷ 0 ∷ 0 ∷
    0 ∷ 0 ∷ 0 ∷ 0 ∷ 0 ∷ 0 ∷ 0 ∷ 0 ∷ 0 ∷ 0 ∷ 0 ∷ 0 ∷ 0 ∷ 0 ∷ 0 ∷ 0 ∷ 0 ∷ 0 ∷ 0 ∷ 0 ∷ 0 ∷ 0 ∷ 0 ∷ 0 ∷ 0 ∷ 0 ∷ 0 ∷ 0 ∷ 0 ∷ 0 ∷ 0 ∷ 0 ∷ 0 ∷ 0 ∷ 0 ∷ 0 ∷ 0
    ∷ 0 ∷ 0 ∷ 0 ∷ 0 ∷ 0 ∷ 0 ∷ 0 ∷ 0 ∷ 0 ∷ 0 ∷ 0 ∷ 0 ∷ 0 ∷ 0 ∷ 0 ∷ 0 ∷ 0 ∷ 0 ∷ 0 ∷ 0 ∷ 0 ∷ 0 ∷ 0 ∷ 0 ∷ 0 ∷ 0 ∷ 0 ∷ 0 ∷ 0 ∷ 0 ∷ 0 ∷ 0 ∷ 0 ∷ 0 ∷ 0 ∷ 0 ∷
    0 ∷ 0 ∷ 0 ∷ 0 ∷ 0 ∷ 0 ∷ 0 ∷ 0 ∷ 0 ∷ 0 ∷ 0 ∷ 0 ∷ 0 ∷ 0 ∷ 0 ∷ 0 ∷ 0 ∷ 0 ∷ 0 ∷ 0 ∷ 0 ∷ 0 ∷ 0 ∷ 0 ∷ 0 ∷ 0 ∷ 0 ∷ 0 ∷ 0 ∷ 0 ∷ 0 ∷ 0 ∷ 0 ∷ 0 ∷ 0 ∷ 0 ∷ 0
    ∷ 0 ∷ 0 ∷ 0 ∷ 0 ∷ 0 ∷ 0 ∷ 0 ∷ 0 ∷ 0 ∷ 0 ∷ 0 ∷ 0 ∷ 0 ∷ 0 ∷ 0 ∷ 0 ∷ 0 ∷ 0 ∷ 0 ∷ 0 ∷ 0 ∷ 0 ∷ 0 ∷ 0 ∷ 0 ∷ 0 ∷ 0 ∷ 0 ∷ 0 ∷ 0 ∷ 0 ∷ 0 ∷ 0 ∷ 0 ∷ 0 ∷ 0 ∷
    0 ∷ 0 ∷ 0 ∷ 0 ∷ 0 ∷ 0 ∷ 0 ∷ 0 ∷ 0 ∷ 0 ∷ 0 ∷ 0 ∷ 0 ∷ 0 ∷ 0 ∷ 0 ∷ 0 ∷ 0 ∷ 0 ∷ 0 ∷ 0 ∷ 0 ∷ 0 ∷ 0 ∷ 0 ∷ 0 ∷ 0 ∷ 0 ∷ 0 ∷ 0 ∷ 0 ∷ 0 ∷ 0 ∷ 0 ∷ 0 ∷ 0 ∷ 0
    ∷ 0 ∷ 0 ∷ 0 ∷ 0 ∷ 0 ∷ 0 ∷ 0 ∷ 0 ∷ 0 ∷ 0 ∷ 0 ∷ 0 ∷ 0 ∷ 0 ∷ 0 ∷ 0 ∷ 0 ∷ 1 ∷ 0 ∷ 0 ∷ 0 ∷ 0 ∷ 0 ∷ 0 ∷ 0 ∷ 0 ∷ 0 ∷ 0 ∷ 0 ∷ 0 ∷ 0 ∷ 0 ∷ 0 ∷ 2 ∷ 0 ∷ 0 ∷
    0 ∷ 0 ∷ 0 ∷ 0 ∷ 0 ∷ 0 ∷ 0 ∷ 0 ∷ 0 ∷ 0 ∷ 0 ∷ 0 ∷ 0 ∷ 0 ∷ 0 ∷ 0 ∷ 0 ∷ 0 ∷ 0 ∷ 0 ∷ 0 ∷ 0 ∷ 0 ∷ 0 ∷ 0 ∷ 0 ∷ 0 ∷ 0 ∷ 0 ∷ 0 ∷ 0 ∷ 0 ∷ 0 ∷ 0 ∷ 0 ∷ 0 ∷ 0
    ∷ 0 ∷ 0 ∷ 0 ∷ 0 ∷ 0 ∷ 0 ∷ 0 ∷ 0 ∷ 0 ∷ 0 ∷ 0 ∷ 0 ∷ 0 ∷ 0 ∷ 0 ∷ 0 ∷ 0 ∷ 0 ∷ 0 ∷ 0 ∷ 0 ∷ 0 ∷ 0 ∷ 0 ∷ 0 ∷ 1 ∷ 1 ∷ 0 ∷ 0 ∷ 0 ∷ 0 ∷ 0 ∷ 0 ∷ 0 ∷ 0 ∷ 0 ∷
    0 ∷ 0 ∷ 0 ∷ 0 ∷ 0 ∷ 0 ∷ 1 ∷ 0 ∷ 0 ∷ 0 ∷ 0 ∷ 0 ∷ 0 ∷ 0 ∷ 0 ∷ 0 ∷ 0 ∷ 0 ∷ 0 ∷ 0 ∷ 0 ∷ 0 ∷ 0 ∷ 0 ∷ 0 ∷ 0 ∷ 0 ∷ 0 ∷ 0 ∷ 0 ∷ 0 ∷ 0 ∷ 0 ∷ 0 ∷ 0 ∷ 0 ∷ 0
    ∷ 0 ∷ 0 ∷ 0 ∷ 0 ∷ 0 ∷ 0 ∷ 0 ∷ 0 ∷ 0 ∷ 0 ∷ 0 ∷ 0 ∷ 0 ∷ 0 ∷ 0 ∷ 0 ∷ 0 ∷ 0 ∷ 0 ∷ 0 ∷ 0 ∷ 0 ∷ 0 ∷ 0 ∷ 0 ∷ 0 ∷ 0 ∷ 0 ∷ 0 ∷ 0 ∷ 0 ∷ 0 ∷ 0 ∷ 1 ∷ 2 ∷ 2 ∷
    0 ∷ 0 ∷ 0 ∷ 0 ∷ 0 ∷ 0 ∷ 0 ∷ 0 ∷ 0 ∷ 0 ∷ 0 ∷ 0 ∷ 0 ∷ 0 ∷ 0 ∷ 2 ∷ 0 ∷ 0 ∷ 0 ∷ 0 ∷ 0 ∷ 0 ∷ 0 ∷ 0 ∷ 0 ∷ 0 ∷ 0 ∷ 0 ∷ 0 ∷ 0 ∷ 0 ∷ 0 ∷ 0 ∷ 0 ∷ 0 ∷ 0 ∷ 0
    ∷ 0 ∷ 0 ∷ 0 ∷ 0 ∷ 0 ∷ 0 ∷ 0 ∷ 0 ∷ 0 ∷ 0 ∷ 0 ∷ 0 ∷ 0 ∷ 0 ∷ 0 ∷ 0 ∷ 0 ∷ 0 ∷ 0 ∷ 0 ∷ 0 ∷ 0 ∷ 0 ∷ 0 ∷ 0 ∷ 0 ∷ 0 ∷ 0 ∷ 0 ∷ 0 ∷ 0 ∷ 0 ∷ 0 ∷ 0 ∷ 0 ∷ 0 ∷
    0 ∷ 0 ∷ 0 ∷ 0 ∷ 0 ∷ 0 ∷ 0 ∷ 2 ∷ []

asked-23-written : table_of asked-23 ≡ asked-23-table
unfolding computing
asked-23-written = refl

asked-23-0 : new_role_on asked-23-table 0 1 0 ≡ answered 1
unfolding computing
asked-23-0 = refl

asked-23-1 : new_role_on asked-23-table 0 0 1 ≡ answered 2
unfolding computing
asked-23-1 = refl

asked-23-2 : new_role_on asked-23-table 1 1 0 ≡ answered 2
unfolding computing
asked-23-2 = refl

asked-23-3 : new_role_on asked-23-table 0 0 0 ≡ answered 0
unfolding computing
asked-23-3 = refl

asked-23-4 : new_role_on asked-23-table 0 1 1 ≡ answered 0
unfolding computing
asked-23-4 = refl

asked-23-5 : new_role_on asked-23-table 2 1 0 ≡ answered 2
unfolding computing
asked-23-5 = refl

asked-23-6 : new_role_on asked-23-table 3 0 0 ≡ refused 12 0
unfolding computing
asked-23-6 = refl

asked-23-7 : new_role_on asked-23-table 0 2 0 ≡ refused 12 0
unfolding computing
asked-23-7 = refl

asked-23-8 : new_role_on asked-23-table 0 0 2 ≡ refused 12 0
unfolding computing
asked-23-8 = refl
