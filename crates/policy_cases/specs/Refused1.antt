-- Texts and what the independent second program says of them, held to the definitions by computation. Written by reference/regenerate.
-- Assumes nothing.
use Rattle.std.specs.Prelude.{◌≡◌, refl, List, [], ◌∷◌}
use Rattle.lexer.specs.Spell.{bytes}
use Rattle.policy.specs.Outcome.{of_text, refusal_at, rejected, outcome}
use Rattle.policy.specs.Computing.{computing}

-- reading 19
refused-60 : outcome (of_text (bytes "(class c (p))(constrain (c ((p))) (eq u1 u2))")) 65536 ≡ rejected (refusal_at 3 13 1)
unfolding computing
refused-60 = refl

-- reading 19
refused-61 : outcome (of_text (bytes "(class c (p))(constrain (c) (eq u1 u2))")) 65536 ≡ rejected (refusal_at 3 13 1)
unfolding computing
refused-61 = refl

-- reading 19
refused-62 : outcome (of_text (bytes "(class c (p))(constrain () (eq u1 u2))")) 65536 ≡ rejected (refusal_at 3 13 1)
unfolding computing
refused-62 = refl

-- reading 19
refused-63 : outcome (of_text (bytes "(class c)")) 65536 ≡ rejected (refusal_at 3 0 1)
unfolding computing
refused-63 = refl

-- reading 19
refused-64 : outcome (of_text (bytes "(class c ())")) 65536 ≡ rejected (refusal_at 3 0 1)
unfolding computing
refused-64 = refl

-- reading 19
refused-65 : outcome (of_text (bytes "(class c p)")) 65536 ≡ rejected (refusal_at 3 0 1)
unfolding computing
refused-65 = refl

-- reading 19
refused-66 : outcome (of_text (bytes "(class c (p) (q))")) 65536 ≡ rejected (refusal_at 3 0 1)
unfolding computing
refused-66 = refl

-- reading 19
refused-67 : outcome (of_text (bytes "(class c ((p)))")) 65536 ≡ rejected (refusal_at 3 0 1)
unfolding computing
refused-67 = refl

-- reading 19
refused-68 : outcome (of_text (bytes "(class (c) (p))")) 65536 ≡ rejected (refusal_at 3 0 1)
unfolding computing
refused-68 = refl

-- reading 19
refused-69 : outcome (of_text (bytes "(class)")) 65536 ≡ rejected (refusal_at 3 0 1)
unfolding computing
refused-69 = refl

-- reading 20
refused-70 : outcome (of_text (bytes "(role a t)")) 65536 ≡ rejected (refusal_at 3 0 1)
unfolding computing
refused-70 = refl

-- reading 20
refused-71 : outcome (of_text (bytes "(role)")) 65536 ≡ rejected (refusal_at 3 0 1)
unfolding computing
refused-71 = refl

-- reading 20
refused-72 : outcome (of_text (bytes "(role (a))")) 65536 ≡ rejected (refusal_at 3 0 1)
unfolding computing
refused-72 = refl

-- reading 20
refused-73 : outcome (of_text (bytes "(role ())")) 65536 ≡ rejected (refusal_at 3 0 1)
unfolding computing
refused-73 = refl

-- reading 20: a statement that starts with a parenthesis
refused-74 : outcome (of_text (bytes "((role a))")) 65536 ≡ rejected (refusal_at 3 0 1)
unfolding computing
refused-74 = refl

-- reading 20: a statement that starts with a parenthesis
refused-75 : outcome (of_text (bytes "(() role a)")) 65536 ≡ rejected (refusal_at 3 0 1)
unfolding computing
refused-75 = refl

-- reading 20: left out
refused-76 : outcome (of_text (bytes "(typealias a)")) 65536 ≡ rejected (refusal_at 3 0 1)
unfolding computing
refused-76 = refl

-- reading 20: left out
refused-77 : outcome (of_text (bytes "(classmap c (p))")) 65536 ≡ rejected (refusal_at 3 0 1)
unfolding computing
refused-77 = refl

-- reading 20: left out
refused-78 : outcome (of_text (bytes "(classpermission c)")) 65536 ≡ rejected (refusal_at 3 0 1)
unfolding computing
refused-78 = refl

-- reading 20: left out
refused-79 : outcome (of_text (bytes "(rolebounds a a)")) 65536 ≡ rejected (refusal_at 3 0 1)
unfolding computing
refused-79 = refl

-- reading 20: left out
refused-80 : outcome (of_text (bytes "(sensitivity s)")) 65536 ≡ rejected (refusal_at 3 0 1)
unfolding computing
refused-80 = refl

-- reading 20: left out
refused-81 : outcome (of_text (bytes "(class c (p))(mlsconstrain (c (p)) (eq u1 u2))")) 65536 ≡ rejected (refusal_at 3 13 1)
unfolding computing
refused-81 = refl

-- reading 20: left out
refused-82 : outcome (of_text (bytes "(type t)(class c (p))(allow t t (c (p)))")) 65536 ≡ rejected (refusal_at 3 21 1)
unfolding computing
refused-82 = refl

-- reading 20: unknown keyword
refused-83 : outcome (of_text (bytes "(foo a)")) 65536 ≡ rejected (refusal_at 3 0 1)
unfolding computing
refused-83 = refl

-- reading 20: unknown keyword
refused-84 : outcome (of_text (bytes "(Role a)")) 65536 ≡ rejected (refusal_at 3 0 1)
unfolding computing
refused-84 = refl

-- reading 20: unknown keyword
refused-85 : outcome (of_text (bytes "(all)")) 65536 ≡ rejected (refusal_at 3 0 1)
unfolding computing
refused-85 = refl

-- reading 20
refused-86 : outcome (of_text (bytes "(user a)(role a)(userrole a)")) 65536 ≡ rejected (refusal_at 3 16 1)
unfolding computing
refused-86 = refl

-- reading 20
refused-87 : outcome (of_text (bytes "(user a)(role a)(userrole a a a)")) 65536 ≡ rejected (refusal_at 3 16 1)
unfolding computing
refused-87 = refl

-- reading 20
refused-88 : outcome (of_text (bytes "(user a)(role a)(userrole (a) a)")) 65536 ≡ rejected (refusal_at 3 16 1)
unfolding computing
refused-88 = refl

-- reading 20
refused-89 : outcome (of_text (bytes "(role a)(roletype a (all))")) 65536 ≡ rejected (refusal_at 3 8 1)
unfolding computing
refused-89 = refl

-- reading 20
refused-90 : outcome (of_text (bytes "(role a)(roleallow a)")) 65536 ≡ rejected (refusal_at 3 8 1)
unfolding computing
refused-90 = refl

-- reading 20
refused-91 : outcome (of_text (bytes "(role a)(type t)(class c (p))(roletransition a t c)")) 65536 ≡ rejected (refusal_at 3 29 1)
unfolding computing
refused-91 = refl

-- reading 20
refused-92 : outcome (of_text (bytes "(role a)(type t)(class c (p))(roletransition a t c a a)")) 65536 ≡ rejected (refusal_at 3 29 1)
unfolding computing
refused-92 = refl

-- reading 20
refused-93 : outcome (of_text (bytes "(role a)(type t)(class c (p))(roletransition (a) t c a)")) 65536 ≡ rejected (refusal_at 3 29 1)
unfolding computing
refused-93 = refl

-- reading 16
refused-94 : outcome (of_text (bytes "(role a)(roleattribute x)(roleattributeset x (all a))")) 65536 ≡ rejected (refusal_at 3 25 1)
unfolding computing
refused-94 = refl

-- reading 16
refused-95 : outcome (of_text (bytes "(role a)(roleattribute x)(roleattributeset x (a all))")) 65536 ≡ rejected (refusal_at 3 25 1)
unfolding computing
refused-95 = refl

-- reading 16
refused-96 : outcome (of_text (bytes "(role a)(role b)(roleattribute x)(roleattributeset x (a and b))")) 65536 ≡ rejected (refusal_at 3 33 1)
unfolding computing
refused-96 = refl

-- reading 16
refused-97 : outcome (of_text (bytes "(role a)(roleattribute x)(roleattributeset x (not all))")) 65536 ≡ rejected (refusal_at 3 25 1)
unfolding computing
refused-97 = refl

-- reading 16
refused-98 : outcome (of_text (bytes "(role a)(role b)(roleattribute x)(roleattributeset x (not a b))")) 65536 ≡ rejected (refusal_at 3 33 1)
unfolding computing
refused-98 = refl

-- reading 16
refused-99 : outcome (of_text (bytes "(role a)(roleattribute x)(roleattributeset x (and a))")) 65536 ≡ rejected (refusal_at 3 25 1)
unfolding computing
refused-99 = refl

-- reading 16
refused-100 : outcome (of_text (bytes "(role a)(roleattribute x)(roleattributeset x (and a a a))")) 65536 ≡ rejected (refusal_at 3 25 1)
unfolding computing
refused-100 = refl

-- reading 16
refused-101 : outcome (of_text (bytes "(role a)(roleattribute x)(roleattributeset x (or a))")) 65536 ≡ rejected (refusal_at 3 25 1)
unfolding computing
refused-101 = refl

-- reading 16
refused-102 : outcome (of_text (bytes "(role a)(roleattribute x)(roleattributeset x (xor a a a))")) 65536 ≡ rejected (refusal_at 3 25 1)
unfolding computing
refused-102 = refl

-- reading 16
refused-103 : outcome (of_text (bytes "(roleattribute x)(roleattributeset x (not))")) 65536 ≡ rejected (refusal_at 3 17 1)
unfolding computing
refused-103 = refl

-- reading 16
refused-104 : outcome (of_text (bytes "(roleattribute x)(roleattributeset x (and))")) 65536 ≡ rejected (refusal_at 3 17 1)
unfolding computing
refused-104 = refl

-- reading 16: eq is no operator of S
refused-105 : outcome (of_text (bytes "(role a)(roleattribute x)(roleattributeset x (eq a a))")) 65536 ≡ rejected (refusal_at 3 25 1)
unfolding computing
refused-105 = refl

-- reading 16: a reserved word as operand
refused-106 : outcome (of_text (bytes "(role a)(roleattribute x)(roleattributeset x (a r1))")) 65536 ≡ rejected (refusal_at 3 25 1)
unfolding computing
refused-106 = refl

-- reading 16: within S
refused-107 : outcome (of_text (bytes "(role a)(roleattribute x)(roleattributeset x (not (a or a)))")) 65536 ≡ rejected (refusal_at 3 25 1)
unfolding computing
refused-107 = refl

-- reading 16
refused-108 : outcome (of_text (bytes "(roleattribute x)(roleattributeset x ((all) all))")) 65536 ≡ rejected (refusal_at 3 17 1)
unfolding computing
refused-108 = refl

-- reading 14
refused-109 : outcome (of_text (bytes "(class c (p))(constrain (c (p)) (eq u1 r2))")) 65536 ≡ rejected (refusal_at 3 13 1)
unfolding computing
refused-109 = refl

-- reading 14
refused-110 : outcome (of_text (bytes "(class c (p))(constrain (c (p)) (eq u1 t1))")) 65536 ≡ rejected (refusal_at 3 13 1)
unfolding computing
refused-110 = refl

-- reading 14
refused-111 : outcome (of_text (bytes "(class c (p))(constrain (c (p)) (eq u1 u1))")) 65536 ≡ rejected (refusal_at 3 13 1)
unfolding computing
refused-111 = refl

-- reading 14
refused-112 : outcome (of_text (bytes "(class c (p))(constrain (c (p)) (eq u1 all))")) 65536 ≡ rejected (refusal_at 3 13 1)
unfolding computing
refused-112 = refl

-- reading 14
refused-113 : outcome (of_text (bytes "(class c (p))(constrain (c (p)) (eq u1 u3))")) 65536 ≡ rejected (refusal_at 3 13 1)
unfolding computing
refused-113 = refl

-- reading 14
refused-114 : outcome (of_text (bytes "(class c (p))(constrain (c (p)) (neq t2 h1))")) 65536 ≡ rejected (refusal_at 3 13 1)
unfolding computing
refused-114 = refl

-- reading 14
refused-115 : outcome (of_text (bytes "(userrole u1 a)")) 65536 ≡ rejected (refusal_at 3 0 1)
unfolding computing
refused-115 = refl

-- reading 14
refused-116 : outcome (of_text (bytes "(userrole u r2)")) 65536 ≡ rejected (refusal_at 3 0 1)
unfolding computing
refused-116 = refl

-- reading 14
refused-117 : outcome (of_text (bytes "(roletype not t)")) 65536 ≡ rejected (refusal_at 3 0 1)
unfolding computing
refused-117 = refl

-- reading 14
refused-118 : outcome (of_text (bytes "(roleallow a incomp)")) 65536 ≡ rejected (refusal_at 3 0 1)
unfolding computing
refused-118 = refl

-- reading 14
refused-119 : outcome (of_text (bytes "(roletransition r t eq r)")) 65536 ≡ rejected (refusal_at 3 0 1)
unfolding computing
refused-119 = refl
