-- Texts and what the independent second program says of them, held to the definitions by computation. Written by reference/regenerate.
-- Assumes nothing.
use Rattle.std.specs.Prelude.{◌≡◌, refl, List, [], ◌∷◌, ◌++◌}
use Rattle.lexer.specs.Spell.{bytes}
use Rattle.policy.specs.Outcome.{of_text, refusal_at, rejected, outcome}
use Rattle.policy.specs.Computing.{computing}

-- name not declared before: type
refused-180 : outcome (of_text (bytes "(role a)(class c (p))(roletransition a t c a)")) 65536 ≡ rejected (refusal_at 5 21 1)
unfolding computing
refused-180 = refl

-- name not declared before: role
refused-181 : outcome (of_text (bytes "(type t)(role b)(class c (p))(roletransition a t c b)")) 65536 ≡ rejected (refusal_at 5 29 1)
unfolding computing
refused-181 = refl

-- reading 22: P is not a permission of C
refused-182 : outcome (of_text (bytes "(class c (p))(constrain (c (q)) (eq u1 u2))")) 65536 ≡ rejected (refusal_at 5 13 1)
unfolding computing
refused-182 = refl

-- reading 22: P of another class
refused-183 : outcome (of_text (bytes "(class c (p))(class d (q))(constrain (c (q)) (eq u1 u2))")) 65536 ≡ rejected (refusal_at 5 26 1)
unfolding computing
refused-183 = refl

-- reading 22: one P of several
refused-184 : outcome (of_text (bytes "(class c (p))(constrain (c (p p q)) (eq u1 u2))")) 65536 ≡ rejected (refusal_at 5 13 1)
unfolding computing
refused-184 = refl

-- name not declared before: class
refused-185 : outcome (of_text (bytes "(constrain (c (p)) (eq u1 u2))")) 65536 ≡ rejected (refusal_at 5 0 1)
unfolding computing
refused-185 = refl

-- name not declared before, in E
refused-186 : outcome (of_text (bytes "(class c (p))(constrain (c (p)) (eq u1 a))")) 65536 ≡ rejected (refusal_at 5 13 1)
unfolding computing
refused-186 = refl

-- name of the wrong family, in E
refused-187 : outcome (of_text (bytes "(role a)(class c (p))(constrain (c (p)) (eq u1 a))")) 65536 ≡ rejected (refusal_at 5 21 1)
unfolding computing
refused-187 = refl

-- name of the wrong family, in E
refused-188 : outcome (of_text (bytes "(user a)(class c (p))(constrain (c (p)) (or (eq u1 a) (not (eq r1 a))))")) 65536 ≡ rejected (refusal_at 5
    21 1)
unfolding computing
refused-188 = refl

-- declared earlier in the text than its use
refused-189 : outcome (of_text (bytes "(constrain (c (p)) (eq u1 u2))(class c (p))")) 65536 ≡ rejected (refusal_at 5 0 1)
unfolding computing
refused-189 = refl

-- reading 25: mention is by text
refused-190 : outcome (of_text (bytes "(roleattribute x)(roleattributeset x (and x (not x)))")) 65536 ≡ rejected (refusal_at 8 0 1)
unfolding computing
refused-190 = refl

-- fault 8 of users
refused-191 : outcome (of_text (bytes "(userattribute x)(userattributeset x (not x))")) 65536 ≡ rejected (refusal_at 8 0 1)
unfolding computing
refused-191 = refl

-- fault 8 of types, second statement
refused-192 : outcome (of_text (bytes "(typeattribute x)(type t)(typeattributeset x (t))(typeattributeset x (t (x)))")) 65536 ≡ rejected
    (refusal_at 8 0 1)
unfolding computing
refused-192 = refl

-- through others, lowest number
refused-193 : outcome (of_text (bytes "(typeattribute x)(typeattribute y)(typeattributeset y (x))(typeattributeset x (y))")) 65536 ≡ rejected
    (refusal_at 8 0 1)
unfolding computing
refused-193 = refl

-- reading 25: x only leads to a cycle
refused-194 : outcome (of_text (bytes "(roleattribute x)(roleattribute y)(roleattributeset x (y))(roleattributeset y (y))")) 65536 ≡ rejected
    (refusal_at 8 17 1)
unfolding computing
refused-194 = refl

-- reading 25: users before roles
refused-195 : outcome (of_text (bytes "(roleattribute x)(roleattributeset x (x))(userattribute y)(userattributeset y (y))")) 65536 ≡ rejected
    (refusal_at 8 41 1)
unfolding computing
refused-195 = refl

-- reading 25: roles before types
refused-196 : outcome (of_text (bytes "(typeattribute x)(typeattributeset x (x))(roleattribute y)(roleattributeset y (y))")) 65536 ≡ rejected
    (refusal_at 8 41 1)
unfolding computing
refused-196 = refl

-- reading 25: users before types
refused-197 : outcome (of_text (bytes "(typeattribute x)(typeattributeset x (x))(userattribute y)(userattributeset y (y))")) 65536 ≡ rejected
    (refusal_at 8 41 1)
unfolding computing
refused-197 = refl

-- through others, lowest number
refused-198 : outcome (of_text (bytes
    "(userattribute a)(userattribute b)(userattribute c)(userattributeset b (c))(userattributeset c (a))(userattributeset a (" ++ bytes "b))")) 65536
    ≡ rejected (refusal_at 8 0 1)
unfolding computing
refused-198 = refl

-- reading 26: 8 only after every statement passed
refused-199 : outcome (of_text (bytes "(roleattribute x)(roleattributeset x (x))(role x)")) 65536 ≡ rejected (refusal_at 4 41 1)
unfolding computing
refused-199 = refl

-- reading 26: 8 only after every statement passed
refused-200 : outcome (of_text (bytes "(roleattribute x)(roleattributeset x (x))()")) 65536 ≡ rejected (refusal_at 3 41 1)
unfolding computing
refused-200 = refl

-- reading 26: 8 only after every statement passed
refused-201 : outcome (of_text (bytes "(roleattribute x)(roleattributeset x (x))(roleallow a x)")) 65536 ≡ rejected (refusal_at 5 41 1)
unfolding computing
refused-201 = refl

-- fault 9
refused-202 : outcome (of_text (bytes "(role a)(role b)(type t)(class c (p))(roletransition a t c a)(roletransition a t c b)")) 65536 ≡ rejected
    (refusal_at 9 61 1)
unfolding computing
refused-202 = refl

-- reading 26: the first later statement that clashes
refused-203 : outcome (of_text (bytes
    "(role a)(role b)(type t)(class c(p))(roletransition a t c a)(roletransition a t c a)(roletransition a t c b)(roletransit" ++ bytes
    "ion a t c b)")) 65536 ≡ rejected (refusal_at 9 84 1)
unfolding computing
refused-203 = refl

-- reading 26: by final sets
refused-204 : outcome (of_text (bytes
    "(role a)(role b)(roleattribute x)(type t)(class c(p))(roletransition x t c a)(roletransition a t c b)(roleattributeset x" ++ bytes "(all))"))
    65536 ≡ rejected (refusal_at 9 77 1)
unfolding computing
refused-204 = refl

-- reading 26: by final sets
refused-205 : outcome (of_text (bytes
    "(role a)(role b)(type t)(typeattribute y)(typeattributeset y(t))(class c(p))(roletransition a y c a)(roletransition a t " ++ bytes "c b)")) 65536
    ≡ rejected (refusal_at 9 100 1)
unfolding computing
refused-205 = refl

-- reading 26: with any earlier one
refused-206 : outcome (of_text (bytes
    "(role a)(role b)(type t)(type s)(class c(p))(roletransition a t c a)(roletransition a s c b)(roletransition a t c b)")) 65536 ≡ rejected
    (refusal_at 9 92 1)
unfolding computing
refused-206 = refl

-- 8 before 9
refused-207 : outcome (of_text (bytes
    "(role a)(role b)(type t)(class c(p))(roletransition a t c a)(roletransition a t c b)(userattribute x)(userattributeset x" ++ bytes "(x))")) 65536
    ≡ rejected (refusal_at 8 84 1)
unfolding computing
refused-207 = refl

-- 5 before 9
refused-208 : outcome (of_text (bytes "(role a)(role b)(type t)(class c(p))(roletransition a t c a)(roletransition a t c b)(roletype a s)")) 65536
    ≡ rejected (refusal_at 5 84 1)
unfolding computing
refused-208 = refl

-- a name of 65 bytes
refused-209 : outcome (of_text (bytes "(role nnnnnnnnnnnnnnnnnnnnnnnnnnnnnnnnnnnnnnnnnnnnnnnnnnnnnnnnnnnnnnnnn)")) 65536 ≡ rejected (refusal_at 2
    6 1)
unfolding computing
refused-209 = refl

-- reading 4: long name and then a wrong byte
refused-210 : outcome (of_text (bytes "(role nnnnnnnnnnnnnnnnnnnnnnnnnnnnnnnnnnnnnnnnnnnnnnnnnnnnnnnnnnnnnnnnn!)")) 65536 ≡ rejected (refusal_at 2
    6 1)
unfolding computing
refused-210 = refl

-- reading 4: 64 and then a wrong byte
refused-211 : outcome (of_text (bytes "(role nnnnnnnnnnnnnnnnnnnnnnnnnnnnnnnnnnnnnnnnnnnnnnnnnnnnnnnnnnnnnnnn!)")) 65536 ≡ rejected (refusal_at 2
    70 1)
unfolding computing
refused-211 = refl

-- reading 4: a long name that the text ends inside
refused-212 : outcome (of_text (bytes "(role nnnnnnnnnnnnnnnnnnnnnnnnnnnnnnnnnnnnnnnnnnnnnnnnnnnnnnnnnnnnnnnnn")) 65536 ≡ rejected (refusal_at 2 6
    1)
unfolding computing
refused-212 = refl

-- unclosed at end behind a name of 64 bytes
refused-213 : outcome (of_text (bytes "(role nnnnnnnnnnnnnnnnnnnnnnnnnnnnnnnnnnnnnnnnnnnnnnnnnnnnnnnnnnnnnnnn")) 65536 ≡ rejected (refusal_at 2 70
    1)
unfolding computing
refused-213 = refl

-- reading 5: a long name outside parentheses
refused-214 : outcome (of_text (bytes "nnnnnnnnnnnnnnnnnnnnnnnnnnnnnnnnnnnnnnnnnnnnnnnnnnnnnnnnnnnnnnnnn")) 65536 ≡ rejected (refusal_at 2 0 1)
unfolding computing
refused-214 = refl

-- reading 2: bad and long
refused-215 : outcome (of_text (bytes "(role 9nnnnnnnnnnnnnnnnnnnnnnnnnnnnnnnnnnnnnnnnnnnnnnnnnnnnnnnnnnnnnnnnnnnnnn)")) 65536 ≡ rejected
    (refusal_at 2 6 1)
unfolding computing
refused-215 = refl

-- reading 6: level 33
refused-216 : outcome (of_text (bytes "((((((((((((((((((((((((((((((((()))))))))))))))))))))))))))))))))")) 65536 ≡ rejected (refusal_at 2 32 1)
unfolding computing
refused-216 = refl

-- reading 6: 32 open and the text ends
refused-217 : outcome (of_text (bytes "((((((((((((((((((((((((((((((((")) 65536 ≡ rejected (refusal_at 2 32 1)
unfolding computing
refused-217 = refl

-- 32 levels
refused-218 : outcome (of_text (bytes "(((((((((((((((((((((((((((((((())))))))))))))))))))))))))))))))")) 65536 ≡ rejected (refusal_at 3 0 1)
unfolding computing
refused-218 = refl

-- close without open
refused-219 : outcome (of_text (bytes "(((((((((((((((((((((((((((((((()))))))))))))))))))))))))))))))))")) 65536 ≡ rejected (refusal_at 2 64 1)
unfolding computing
refused-219 = refl

-- P10 six to the right need 6
refused-220 : outcome (of_text (bytes
    "(class c(p))(constrain(c(p))(and(eq t1 t2)(and(eq t1 t2)(and(eq t1 t2)(and(eq t1 t2)(and(eq t1 t2)(eq t1 t2)))))))")) 65536 ≡ rejected
    (refusal_at 7 12 1)
unfolding computing
refused-220 = refl

-- stack need of or
refused-221 : outcome (of_text (bytes
    "(class c(p))(constrain(c(p))(or(eq t1 t2)(or(eq t1 t2)(or(eq t1 t2)(or(eq t1 t2)(or(eq t1 t2)(eq t1 t2)))))))")) 65536 ≡ rejected (refusal_at 7
    12 1)
unfolding computing
refused-221 = refl

-- stack need of not
refused-222 : outcome (of_text (bytes
    "(class c(p))(constrain(c(p))(or(not(eq t1 t2))(and(eq t1 t2)(and(eq t1 t2)(and(eq t1 t2)(and(eq t1 t2)(eq t1 t2)))))))")) 65536 ≡ rejected
    (refusal_at 7 12 1)
unfolding computing
refused-222 = refl

-- reading 23: 5 before 7
refused-223 : outcome (of_text (bytes
    "(class c(p))(constrain(c(p))(and(eq t1 nope)(and(eq t1 t2)(and(eq t1 t2)(and(eq t1 t2)(and(eq t1 t2)(eq t1 t2)))))))")) 65536 ≡ rejected
    (refusal_at 5 12 1)
unfolding computing
refused-223 = refl

-- reading 23: 5 before 7
refused-224 : outcome (of_text (bytes
    "(class c(p))(constrain(c(q))(or(eq t1 t2)(or(eq t1 t2)(or(eq t1 t2)(or(eq t1 t2)(or(eq t1 t2)(eq t1 t2)))))))")) 65536 ≡ rejected (refusal_at 5
    12 1)
unfolding computing
refused-224 = refl

-- 33 permissions
refused-225 : outcome (of_text (bytes "(class c(A B C D E F G H I J K L M N O P Q R S T U V W X Y Z a b c d e f g))")) 65536 ≡ rejected
    (refusal_at 6 0 1)
unfolding computing
refused-225 = refl

-- reading 23: 33 permissions with a repeat
refused-226 : outcome (of_text (bytes "(class c(A B C D E F G H I J K L M N O P Q R S T U V W X Y Z a b c d e f A))")) 65536 ≡ rejected
    (refusal_at 4 0 1)
unfolding computing
refused-226 = refl

-- reading 11: 33 permissions and a reserved word
refused-227 : outcome (of_text (bytes "(class c(A B C D E F G H I J K L M N O P Q R S T U V W X Y Z a b c d e f g all))")) 65536 ≡ rejected
    (refusal_at 3 0 1)
unfolding computing
refused-227 = refl

-- reading 13 and 14: a reserved word in a name's place
refused-228 : outcome (of_text (bytes "(type a)(type all)")) 65536 ≡ rejected (refusal_at 3 8 1)
unfolding computing
refused-228 = refl

-- reading 13 and 14: a reserved word in a name's place
refused-229 : outcome (of_text (bytes "(type a)(type and)")) 65536 ≡ rejected (refusal_at 3 8 1)
unfolding computing
refused-229 = refl

-- reading 13 and 14: a reserved word in a name's place
refused-230 : outcome (of_text (bytes "(type a)(type or)")) 65536 ≡ rejected (refusal_at 3 8 1)
unfolding computing
refused-230 = refl

-- reading 13 and 14: a reserved word in a name's place
refused-231 : outcome (of_text (bytes "(type a)(type xor)")) 65536 ≡ rejected (refusal_at 3 8 1)
unfolding computing
refused-231 = refl

-- reading 13 and 14: a reserved word in a name's place
refused-232 : outcome (of_text (bytes "(type a)(type not)")) 65536 ≡ rejected (refusal_at 3 8 1)
unfolding computing
refused-232 = refl

-- reading 13 and 14: a reserved word in a name's place
refused-233 : outcome (of_text (bytes "(type a)(type eq)")) 65536 ≡ rejected (refusal_at 3 8 1)
unfolding computing
refused-233 = refl

-- reading 13 and 14: a reserved word in a name's place
refused-234 : outcome (of_text (bytes "(type a)(type neq)")) 65536 ≡ rejected (refusal_at 3 8 1)
unfolding computing
refused-234 = refl

-- reading 13 and 14: a reserved word in a name's place
refused-235 : outcome (of_text (bytes "(type a)(type dom)")) 65536 ≡ rejected (refusal_at 3 8 1)
unfolding computing
refused-235 = refl

-- reading 13 and 14: a reserved word in a name's place
refused-236 : outcome (of_text (bytes "(type a)(type domby)")) 65536 ≡ rejected (refusal_at 3 8 1)
unfolding computing
refused-236 = refl

-- reading 13 and 14: a reserved word in a name's place
refused-237 : outcome (of_text (bytes "(type a)(type incomp)")) 65536 ≡ rejected (refusal_at 3 8 1)
unfolding computing
refused-237 = refl

-- reading 13 and 14: a reserved word in a name's place
refused-238 : outcome (of_text (bytes "(type a)(type u1)")) 65536 ≡ rejected (refusal_at 3 8 1)
unfolding computing
refused-238 = refl

-- reading 13 and 14: a reserved word in a name's place
refused-239 : outcome (of_text (bytes "(type a)(type u2)")) 65536 ≡ rejected (refusal_at 3 8 1)
unfolding computing
refused-239 = refl
