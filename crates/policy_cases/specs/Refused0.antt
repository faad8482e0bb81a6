-- Texts and what the independent second program says of them, held to the definitions by computation. Written by reference/regenerate.
-- Assumes nothing.
use Rattle.std.specs.Prelude.{◌≡◌, refl, List, [], ◌∷◌}
use Rattle.lexer.specs.Spell.{bytes}
use Rattle.policy.specs.Outcome.{of_text, refusal_at, rejected, outcome}
use Rattle.policy.specs.Computing.{computing}

-- P3
refused-0 : outcome (of_text (bytes "(role a)(role a)")) 65536 ≡ rejected (refusal_at 4 8 1)
unfolding computing
refused-0 = refl

-- P4
refused-1 : outcome (of_text (bytes "(role a)(roletype a t)")) 65536 ≡ rejected (refusal_at 5 8 1)
unfolding computing
refused-1 = refl

-- P5
refused-2 : outcome (of_text (bytes "(")) 65536 ≡ rejected (refusal_at 2 1 1)
unfolding computing
refused-2 = refl

-- P6
refused-3 : outcome (of_text (bytes "()")) 65536 ≡ rejected (refusal_at 3 0 1)
unfolding computing
refused-3 = refl

-- P7
refused-4 : outcome (of_text (bytes "(roleattribute x)(roleattributeset x (x))")) 65536 ≡ rejected (refusal_at 8 0 1)
unfolding computing
refused-4 = refl

-- the keyword is roletype
refused-5 : outcome (of_text (bytes "(role a)(type t)(role a t)")) 65536 ≡ rejected (refusal_at 3 16 1)
unfolding computing
refused-5 = refl

-- reading 2: a bad name
refused-6 : outcome (of_text (bytes "(role 1a)")) 65536 ≡ rejected (refusal_at 2 6 1)
unfolding computing
refused-6 = refl

-- reading 2: a bad name
refused-7 : outcome (of_text (bytes "(role -)")) 65536 ≡ rejected (refusal_at 2 6 1)
unfolding computing
refused-7 = refl

-- reading 2: a bad name
refused-8 : outcome (of_text (bytes "(role -a)")) 65536 ≡ rejected (refusal_at 2 6 1)
unfolding computing
refused-8 = refl

-- reading 2: a bad name before a wrong byte
refused-9 : outcome (of_text (bytes "(role 1a!)")) 65536 ≡ rejected (refusal_at 2 6 1)
unfolding computing
refused-9 = refl

-- reading 2: a bad name as keyword
refused-10 : outcome (of_text (bytes "(1role a)")) 65536 ≡ rejected (refusal_at 2 1 1)
unfolding computing
refused-10 = refl

-- reading 3: a wrong byte right after a good name
refused-11 : outcome (of_text (bytes "(role a!b)")) 65536 ≡ rejected (refusal_at 2 7 1)
unfolding computing
refused-11 = refl

-- reading 3: a wrong byte before a name
refused-12 : outcome (of_text (bytes "(role !a)")) 65536 ≡ rejected (refusal_at 2 6 1)
unfolding computing
refused-12 = refl

-- reading 5: a name outside parentheses
refused-13 : outcome (of_text (bytes "role")) 65536 ≡ rejected (refusal_at 2 0 1)
unfolding computing
refused-13 = refl

-- reading 5: a name outside parentheses
refused-14 : outcome (of_text (bytes "(role a)role a")) 65536 ≡ rejected (refusal_at 2 8 1)
unfolding computing
refused-14 = refl

-- reading 5: a reserved name outside parentheses
refused-15 : outcome (of_text (bytes "(role a)all")) 65536 ≡ rejected (refusal_at 2 8 1)
unfolding computing
refused-15 = refl

-- reading 5: a bad name outside parentheses
refused-16 : outcome (of_text (bytes "(role a)1a")) 65536 ≡ rejected (refusal_at 2 8 1)
unfolding computing
refused-16 = refl

-- reading 5: a bad name outside parentheses
refused-17 : outcome (of_text (bytes "-")) 65536 ≡ rejected (refusal_at 2 0 1)
unfolding computing
refused-17 = refl

-- reading 7: fault 2 before 4
refused-18 : outcome (of_text (bytes "(role a)(role a)!")) 65536 ≡ rejected (refusal_at 2 16 1)
unfolding computing
refused-18 = refl

-- reading 7: fault 2 before 3
refused-19 : outcome (of_text (bytes "())")) 65536 ≡ rejected (refusal_at 2 2 1)
unfolding computing
refused-19 = refl

-- reading 7: fault 2 before 5
refused-20 : outcome (of_text (bytes "(role a)(roletype a t)(")) 65536 ≡ rejected (refusal_at 2 23 1)
unfolding computing
refused-20 = refl

-- close without open
refused-21 : outcome (of_text (bytes ")")) 65536 ≡ rejected (refusal_at 2 0 1)
unfolding computing
refused-21 = refl

-- close without open
refused-22 : outcome (of_text (bytes "(role a))")) 65536 ≡ rejected (refusal_at 2 8 1)
unfolding computing
refused-22 = refl

-- unclosed at end
refused-23 : outcome (of_text (bytes "(role a")) 65536 ≡ rejected (refusal_at 2 7 1)
unfolding computing
refused-23 = refl

-- unclosed at end
refused-24 : outcome (of_text (bytes "((role a)")) 65536 ≡ rejected (refusal_at 2 9 1)
unfolding computing
refused-24 = refl

-- reading 8: closed only in a comment
refused-25 : outcome (of_text (bytes "(role a;)")) 65536 ≡ rejected (refusal_at 2 9 1)
unfolding computing
refused-25 = refl

-- reading 8: a comment parts tokens
refused-26 : outcome (of_text (bytes "(role a;b\nc)")) 65536 ≡ rejected (refusal_at 3 0 1)
unfolding computing
refused-26 = refl

-- reading 8: LF alone ends a comment
refused-27 : outcome (of_text (bytes "(role a;\r)")) 65536 ≡ rejected (refusal_at 2 10 1)
unfolding computing
refused-27 = refl

-- reading 9: a quote is wrong
refused-28 : outcome (of_text (bytes "(role \"a\")")) 65536 ≡ rejected (refusal_at 2 6 1)
unfolding computing
refused-28 = refl

-- reading 9: NUL is wrong
refused-29 : outcome (of_text (bytes "(role a\0)")) 65536 ≡ rejected (refusal_at 2 7 1)
unfolding computing
refused-29 = refl

-- reading 9: VT is wrong
refused-30 : outcome (of_text (bytes "(role\u{b}a)")) 65536 ≡ rejected (refusal_at 2 5 1)
unfolding computing
refused-30 = refl

-- reading 9: FF is wrong
refused-31 : outcome (of_text (bytes "(role\u{c}a)")) 65536 ≡ rejected (refusal_at 2 5 1)
unfolding computing
refused-31 = refl

-- a wrong byte
refused-32 : outcome (of_text (bytes "(role a)!")) 65536 ≡ rejected (refusal_at 2 8 1)
unfolding computing
refused-32 = refl

-- a wrong byte
refused-33 : outcome (of_text (bytes "#")) 65536 ≡ rejected (refusal_at 2 0 1)
unfolding computing
refused-33 = refl

-- a wrong byte
refused-34 : outcome (of_text (bytes "(role/a)")) 65536 ≡ rejected (refusal_at 2 5 1)
unfolding computing
refused-34 = refl

-- a wrong byte
refused-35 : outcome (of_text (bytes "(role a])")) 65536 ≡ rejected (refusal_at 2 7 1)
unfolding computing
refused-35 = refl

-- a wrong byte
refused-36 : outcome (of_text (bytes "{role a}")) 65536 ≡ rejected (refusal_at 2 0 1)
unfolding computing
refused-36 = refl

-- a wrong byte
refused-37 : outcome (of_text (bytes "(role a:b)")) 65536 ≡ rejected (refusal_at 2 7 1)
unfolding computing
refused-37 = refl

-- a wrong byte
refused-38 : outcome (of_text (bytes "(role a+)")) 65536 ≡ rejected (refusal_at 2 7 1)
unfolding computing
refused-38 = refl

-- a wrong byte
refused-39 : outcome (of_text (bytes "(role a~)")) 65536 ≡ rejected (refusal_at 2 7 1)
unfolding computing
refused-39 = refl

-- a wrong byte
refused-40 : outcome (of_text (bytes "(role `)")) 65536 ≡ rejected (refusal_at 2 6 1)
unfolding computing
refused-40 = refl

-- reading 11: form before 4
refused-41 : outcome (of_text (bytes "(class c (p p all))")) 65536 ≡ rejected (refusal_at 3 0 1)
unfolding computing
refused-41 = refl

-- reading 11: form before 5
refused-42 : outcome (of_text (bytes "(roletransition nope nope nope r1)")) 65536 ≡ rejected (refusal_at 3 0 1)
unfolding computing
refused-42 = refl

-- reading 11: form before 5
refused-43 : outcome (of_text (bytes "(role a)(class c (p))(constrain (c (nope)) (eq a u1))")) 65536 ≡ rejected (refusal_at 3 21 1)
unfolding computing
refused-43 = refl

-- reading 11: an earlier 4 beats a later 3
refused-44 : outcome (of_text (bytes "(role a)(role a)()")) 65536 ≡ rejected (refusal_at 4 8 1)
unfolding computing
refused-44 = refl

-- reading 11: an earlier 5 beats a later 3
refused-45 : outcome (of_text (bytes "(roletype a t)()")) 65536 ≡ rejected (refusal_at 5 0 1)
unfolding computing
refused-45 = refl

-- reading 12: the statement's own place
refused-46 : outcome (of_text (bytes "(role a)(roleattribute x)(roleattributeset x (or a (and a (not a a))))")) 65536 ≡ rejected (refusal_at 3 25
    1)
unfolding computing
refused-46 = refl

-- reading 12: the statement's own place
refused-47 : outcome (of_text (bytes "(class c (p))(constrain (c (p)) (not (and (eq u1 u2) (eq u2 u1))))")) 65536 ≡ rejected (refusal_at 3 13 1)
unfolding computing
refused-47 = refl

-- reading 17: S is parenthesised
refused-48 : outcome (of_text (bytes "(role a)(roleattribute x)(roleattributeset x a)")) 65536 ≡ rejected (refusal_at 3 25 1)
unfolding computing
refused-48 = refl

-- reading 17: () as S
refused-49 : outcome (of_text (bytes "(roleattribute x)(roleattributeset x ())")) 65536 ≡ rejected (refusal_at 3 17 1)
unfolding computing
refused-49 = refl

-- reading 17: () within S
refused-50 : outcome (of_text (bytes "(role a)(roleattribute x)(roleattributeset x (a ()))")) 65536 ≡ rejected (refusal_at 3 25 1)
unfolding computing
refused-50 = refl

-- one S only
refused-51 : outcome (of_text (bytes "(role a)(roleattribute x)(roleattributeset x (a) (a))")) 65536 ≡ rejected (refusal_at 3 25 1)
unfolding computing
refused-51 = refl

-- S is missing
refused-52 : outcome (of_text (bytes "(roleattribute x)(roleattributeset x)")) 65536 ≡ rejected (refusal_at 3 17 1)
unfolding computing
refused-52 = refl

-- A is a name
refused-53 : outcome (of_text (bytes "(role a)(roleattributeset (x) (a))")) 65536 ≡ rejected (refusal_at 3 8 1)
unfolding computing
refused-53 = refl

-- a reserved word for A
refused-54 : outcome (of_text (bytes "(roleattributeset all (a))")) 65536 ≡ rejected (refusal_at 3 0 1)
unfolding computing
refused-54 = refl

-- reading 19
refused-55 : outcome (of_text (bytes "(class c (p))(constrain (c p) (eq u1 u2))")) 65536 ≡ rejected (refusal_at 3 13 1)
unfolding computing
refused-55 = refl

-- reading 19
refused-56 : outcome (of_text (bytes "(class c (p))(constrain (c ()) (eq u1 u2))")) 65536 ≡ rejected (refusal_at 3 13 1)
unfolding computing
refused-56 = refl

-- reading 19
refused-57 : outcome (of_text (bytes "(class c (p q))(constrain (c (p) (q)) (eq u1 u2))")) 65536 ≡ rejected (refusal_at 3 15 1)
unfolding computing
refused-57 = refl

-- reading 19
refused-58 : outcome (of_text (bytes "(class c (p))(constrain c (p) (eq u1 u2))")) 65536 ≡ rejected (refusal_at 3 13 1)
unfolding computing
refused-58 = refl

-- reading 19
refused-59 : outcome (of_text (bytes "(class c (p))(constrain ((c) (p)) (eq u1 u2))")) 65536 ≡ rejected (refusal_at 3 13 1)
unfolding computing
refused-59 = refl
