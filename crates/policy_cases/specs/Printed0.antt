-- Texts and what the independent second program says of them, held to the definitions by computation. Written by reference/regenerate.
-- Assumes nothing.
use Rattle.std.specs.Prelude.{◌≡◌, refl, List, [], ◌∷◌, ◌++◌}
use Rattle.lexer.specs.Spell.{bytes}
use Rattle.policy.specs.Outcome.{of_text}
use Rattle.policy.specs.Roll.{printed}
use Rattle.policy.specs.Computing.{computing}

-- the roll of document 01
printed-0 : printed (of_text (bytes "(user u)(role a)(role b)(type t)(userrole u a)(roletype a t)")) ≡ bytes
    "accepted 280 bytes\nuser u roles 1\nrole a types 1\nrole b types 0\n"
unfolding computing
printed-0 = refl

-- the empty text
printed-1 : printed (of_text (bytes "")) ≡ bytes "accepted 84 bytes\n"
unfolding computing
printed-1 = refl

-- a refusal
printed-2 : printed (of_text (bytes "(role a)(roletype a t)")) ≡ bytes "refused 5 at 8 line 1\n"
unfolding computing
printed-2 = refl

-- a refusal at the end of the text
printed-3 : printed (of_text (bytes "(role a)(user ")) ≡ bytes "refused 2 at 14 line 1\n"
unfolding computing
printed-3 = refl

-- refusal 8
printed-4 : printed (of_text (bytes "(roleattribute x)(roleattributeset x(x))")) ≡ bytes "refused 8 at 0 line 1\n"
unfolding computing
printed-4 = refl

-- W-202: a refusal on a later line
printed-5 : printed (of_text (bytes "(role a)\n\n(roletype a t)")) ≡ bytes "refused 5 at 10 line 3\n"
unfolding computing
printed-5 = refl

-- W-202: the line in two digits
printed-6 : printed (of_text (bytes "\n\n\n\n\n\n\n\n\n!")) ≡ bytes "refused 2 at 9 line 10\n"
unfolding computing
printed-6 = refl

-- W-202: the lines before the end of the text
printed-7 : printed (of_text (bytes "(\n")) ≡ bytes "refused 2 at 2 line 2\n"
unfolding computing
printed-7 = refl

-- users first
printed-8 : printed (of_text (bytes "(role b)(user v)(role a)(user u)(userrole u b)")) ≡ bytes
    "accepted 296 bytes\nuser v roles 0\nuser u roles 1\nrole b types 0\nrole a types 0\n"
unfolding computing
printed-8 = refl

-- by number, not by name
printed-9 : printed (of_text (bytes "(user z)(user a)(role r)(userrole a r)")) ≡ bytes
    "accepted 211 bytes\nuser z roles 0\nuser a roles 1\nrole r types 0\n"
unfolding computing
printed-9 = refl

-- sets through attributes
printed-10 : printed (of_text (bytes "(user u)(role a)(role b)(roleattribute x)(userrole u x)(roleattributeset x(all))")) ≡ bytes
    "accepted 296 bytes\nuser u roles 2\nrole a types 0\nrole b types 0\n"
unfolding computing
printed-10 = refl

-- more than nine members
printed-11 : printed (of_text (bytes
    "(role a)(type a)(type b)(type c)(type d)(type e)(type f)(type g)(type h)(type i)(type j)(typeattribute x)(typeattributes" ++ bytes
    "et x(all))(roletype a x)")) ≡ bytes "accepted 288 bytes\nrole a types 10\n"
unfolding computing
printed-11 = refl

-- W-203: full names
printed-12 : printed (of_text (bytes "(block b(role a)(block c(user u)(userrole u a)))")) ≡ bytes
    "accepted 196 bytes\nuser b.c.u roles 1\nrole b.a types 0\n"
unfolding computing
printed-12 = refl

-- W-205: validatetrans prints nothing
printed-13 : printed (of_text (bytes "(user u)(role a)(class c(p))(validatetrans c(eq r3 a))")) ≡ bytes
    "accepted 210 bytes\nuser u roles 0\nrole a types 0\n"
unfolding computing
printed-13 = refl

-- attributes and classes print nothing
printed-14 : printed (of_text (bytes "(userattribute x)(class c(p))(type t)(role long-name_1)")) ≡ bytes
    "accepted 215 bytes\nrole long-name_1 types 0\n"
unfolding computing
printed-14 = refl
