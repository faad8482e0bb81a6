-- Texts and what the independent second program says of them, held to the definitions by computation. Written by reference/regenerate.
-- Assumes nothing.
use Rattle.std.specs.Prelude.{◌≡◌, refl, List, [], ◌∷◌, ◌++◌}
use Rattle.lexer.specs.Spell.{bytes}
use Rattle.policy.specs.Outcome.{of_text, refusal_at, rejected, outcome}
use Rattle.policy.specs.Computing.{computing}

-- reading 13 and 14: a reserved word in a name's place
refused-240 : outcome (of_text (bytes "(type a)(type u3)")) 65536 ≡ rejected (refusal_at 3 8 1)
unfolding computing
refused-240 = refl

-- reading 13 and 14: a reserved word in a name's place
refused-241 : outcome (of_text (bytes "(type a)(type r1)")) 65536 ≡ rejected (refusal_at 3 8 1)
unfolding computing
refused-241 = refl

-- reading 13 and 14: a reserved word in a name's place
refused-242 : outcome (of_text (bytes "(type a)(type r2)")) 65536 ≡ rejected (refusal_at 3 8 1)
unfolding computing
refused-242 = refl

-- reading 13 and 14: a reserved word in a name's place
refused-243 : outcome (of_text (bytes "(type a)(type r3)")) 65536 ≡ rejected (refusal_at 3 8 1)
unfolding computing
refused-243 = refl

-- reading 13 and 14: a reserved word in a name's place
refused-244 : outcome (of_text (bytes "(type a)(type t1)")) 65536 ≡ rejected (refusal_at 3 8 1)
unfolding computing
refused-244 = refl

-- reading 13 and 14: a reserved word in a name's place
refused-245 : outcome (of_text (bytes "(type a)(type t2)")) 65536 ≡ rejected (refusal_at 3 8 1)
unfolding computing
refused-245 = refl

-- reading 13 and 14: a reserved word in a name's place
refused-246 : outcome (of_text (bytes "(type a)(type t3)")) 65536 ≡ rejected (refusal_at 3 8 1)
unfolding computing
refused-246 = refl

-- reading 13 and 14: a reserved word in a name's place
refused-247 : outcome (of_text (bytes "(type a)(type l1)")) 65536 ≡ rejected (refusal_at 3 8 1)
unfolding computing
refused-247 = refl

-- reading 13 and 14: a reserved word in a name's place
refused-248 : outcome (of_text (bytes "(type a)(type l2)")) 65536 ≡ rejected (refusal_at 3 8 1)
unfolding computing
refused-248 = refl

-- reading 13 and 14: a reserved word in a name's place
refused-249 : outcome (of_text (bytes "(type a)(type h1)")) 65536 ≡ rejected (refusal_at 3 8 1)
unfolding computing
refused-249 = refl

-- reading 13 and 14: a reserved word in a name's place
refused-250 : outcome (of_text (bytes "(type a)(type h2)")) 65536 ≡ rejected (refusal_at 3 8 1)
unfolding computing
refused-250 = refl

-- W-202, reading 19
refused-251 : outcome (of_text (bytes "\n(role a)\n(role a)")) 65536 ≡ rejected (refusal_at 4 10 3)
unfolding computing
refused-251 = refl

-- W-202, reading 19: LF directly before the place
refused-252 : outcome (of_text (bytes "(role a)\n(role a)")) 65536 ≡ rejected (refusal_at 4 9 2)
unfolding computing
refused-252 = refl

-- W-202, reading 19: LFs within the statement
refused-253 : outcome (of_text (bytes "(role a)(\nrole\na\n)")) 65536 ≡ rejected (refusal_at 4 8 1)
unfolding computing
refused-253 = refl

-- W-202, reading 19: LF directly behind the statement
refused-254 : outcome (of_text (bytes "(role a)(role a)\n")) 65536 ≡ rejected (refusal_at 4 8 1)
unfolding computing
refused-254 = refl

-- W-202, reading 19: several statements on a line
refused-255 : outcome (of_text (bytes "(role a)\n(role b)(role a)(role c)\n()")) 65536 ≡ rejected (refusal_at 4 17 2)
unfolding computing
refused-255 = refl

-- W-202, reading 19: LF of a comment
refused-256 : outcome (of_text (bytes ";x\n()")) 65536 ≡ rejected (refusal_at 3 3 2)
unfolding computing
refused-256 = refl

-- W-202, reading 19: LFs of comments
refused-257 : outcome (of_text (bytes ";(\n;)\n()")) 65536 ≡ rejected (refusal_at 3 6 3)
unfolding computing
refused-257 = refl

-- W-202, reading 19: LFs behind a comment
refused-258 : outcome (of_text (bytes ";\n\n\n()")) 65536 ≡ rejected (refusal_at 3 4 4)
unfolding computing
refused-258 = refl

-- W-202, reading 19: LF of a comment within an earlier statement
refused-259 : outcome (of_text (bytes "(role;a)\na)\n(role)")) 65536 ≡ rejected (refusal_at 3 12 3)
unfolding computing
refused-259 = refl

-- W-202, reading 19: LF of a comment within the statement
refused-260 : outcome (of_text (bytes "(role a)(role;\n\na)")) 65536 ≡ rejected (refusal_at 4 8 1)
unfolding computing
refused-260 = refl

-- W-202, reading 19: LF of a comment before a wrong byte
refused-261 : outcome (of_text (bytes ";!\n!;\n")) 65536 ≡ rejected (refusal_at 2 3 2)
unfolding computing
refused-261 = refl

-- W-202, reading 19: CR LF
refused-262 : outcome (of_text (bytes "\r\n\r\n()")) 65536 ≡ rejected (refusal_at 3 4 3)
unfolding computing
refused-262 = refl

-- W-202, reading 19: CR LF
refused-263 : outcome (of_text (bytes "(role a)\r\n(type t)\r\n(roletype a\r\ns)\r\n")) 65536 ≡ rejected (refusal_at 5 20 3)
unfolding computing
refused-263 = refl

-- W-202, reading 19: CR does not count
refused-264 : outcome (of_text (bytes "\r\r()")) 65536 ≡ rejected (refusal_at 3 2 1)
unfolding computing
refused-264 = refl

-- W-202, reading 19: CR does not count
refused-265 : outcome (of_text (bytes "\n\r()")) 65536 ≡ rejected (refusal_at 3 2 2)
unfolding computing
refused-265 = refl

-- W-202, reading 19: CR in a comment does not count
refused-266 : outcome (of_text (bytes ";\r!\r\n()")) 65536 ≡ rejected (refusal_at 3 5 2)
unfolding computing
refused-266 = refl

-- W-202, reading 19: VT and FF do not count
refused-267 : outcome (of_text (bytes ";\u{b}\u{c}\n()")) 65536 ≡ rejected (refusal_at 3 4 2)
unfolding computing
refused-267 = refl

-- W-202, reading 19: LF directly before a wrong byte
refused-268 : outcome (of_text (bytes "\n!")) 65536 ≡ rejected (refusal_at 2 1 2)
unfolding computing
refused-268 = refl

-- W-202, reading 19: LF directly behind a wrong byte
refused-269 : outcome (of_text (bytes "!\n")) 65536 ≡ rejected (refusal_at 2 0 1)
unfolding computing
refused-269 = refl

-- W-202, reading 19: a wrong byte within a statement
refused-270 : outcome (of_text (bytes "\n(role a\n!)")) 65536 ≡ rejected (refusal_at 2 9 3)
unfolding computing
refused-270 = refl

-- W-202, reading 19: a bad name
refused-271 : outcome (of_text (bytes "(role\n1a)")) 65536 ≡ rejected (refusal_at 2 6 2)
unfolding computing
refused-271 = refl

-- W-202, reading 19: LF directly behind a bad name
refused-272 : outcome (of_text (bytes "(role 1a\n)\n")) 65536 ≡ rejected (refusal_at 2 6 1)
unfolding computing
refused-272 = refl

-- W-202, reading 19: a name outside parentheses
refused-273 : outcome (of_text (bytes "(role a)\nrole\n(")) 65536 ≡ rejected (refusal_at 2 9 2)
unfolding computing
refused-273 = refl

-- W-202, reading 19: close without open
refused-274 : outcome (of_text (bytes "(role a)\n\n)\n")) 65536 ≡ rejected (refusal_at 2 10 3)
unfolding computing
refused-274 = refl

-- W-202: 2 on a later line before 4
refused-275 : outcome (of_text (bytes "(role a)\n(role a)\n!")) 65536 ≡ rejected (refusal_at 2 18 3)
unfolding computing
refused-275 = refl

-- W-202, reading 20
refused-276 : outcome (of_text (bytes "(\n")) 65536 ≡ rejected (refusal_at 2 2 2)
unfolding computing
refused-276 = refl

-- W-202, reading 20: LFs at the end
refused-277 : outcome (of_text (bytes "(\n\n\n")) 65536 ≡ rejected (refusal_at 2 4 4)
unfolding computing
refused-277 = refl

-- W-202, reading 20: LF at the end
refused-278 : outcome (of_text (bytes "\n((role a)\n")) 65536 ≡ rejected (refusal_at 2 11 3)
unfolding computing
refused-278 = refl

-- W-202, reading 20: a comment at the end
refused-279 : outcome (of_text (bytes "(role a\n;)\n")) 65536 ≡ rejected (refusal_at 2 11 3)
unfolding computing
refused-279 = refl

-- W-202, reading 20: CR LF at the end
refused-280 : outcome (of_text (bytes "(role a;)\r\n")) 65536 ≡ rejected (refusal_at 2 11 2)
unfolding computing
refused-280 = refl

-- W-202, reading 20: CR at the end
refused-281 : outcome (of_text (bytes "(role a;\r")) 65536 ≡ rejected (refusal_at 2 9 1)
unfolding computing
refused-281 = refl

-- W-202, reading 20: no LF at the end
refused-282 : outcome (of_text (bytes "(role\na")) 65536 ≡ rejected (refusal_at 2 7 2)
unfolding computing
refused-282 = refl

-- W-202: 3 on a later line
refused-283 : outcome (of_text (bytes "(role a)\n(role b)\n(\n)")) 65536 ≡ rejected (refusal_at 3 18 3)
unfolding computing
refused-283 = refl

-- W-202: 3 before later faults
refused-284 : outcome (of_text (bytes "(role a)\n(role a\nb)\n()\n(role a)")) 65536 ≡ rejected (refusal_at 3 9 2)
unfolding computing
refused-284 = refl

-- W-202: 4 on a later line
refused-285 : outcome (of_text (bytes "(user a)\n(role a)\n\n(role\na)")) 65536 ≡ rejected (refusal_at 4 19 4)
unfolding computing
refused-285 = refl

-- W-202: 4 on a later line
refused-286 : outcome (of_text (bytes "\n(class c\n(p\np))")) 65536 ≡ rejected (refusal_at 4 1 2)
unfolding computing
refused-286 = refl

-- W-202: 5 on a later line
refused-287 : outcome (of_text (bytes "\n(roletype a t)\n(role a)\n(type t)")) 65536 ≡ rejected (refusal_at 5 1 2)
unfolding computing
refused-287 = refl

-- W-202: 5 on a later line
refused-288 : outcome (of_text (bytes "(role a)\n(class c(p))\n(constrain\n(c(p))\n(eq r1\nb))\n(role b)")) 65536 ≡ rejected (refusal_at 5 22 3)
unfolding computing
refused-288 = refl

-- W-202, reading 24: 8 on a later line
refused-289 : outcome (of_text (bytes "\n(role a)\n(roleattribute x)\n(roleattributeset x\n(x))\n")) 65536 ≡ rejected (refusal_at 8 10 3)
unfolding computing
refused-289 = refl

-- W-202, reading 24: the line of the declaration
refused-290 : outcome (of_text (bytes "(typeattribute x)\n\n(typeattributeset x(x))\n")) 65536 ≡ rejected (refusal_at 8 0 1)
unfolding computing
refused-290 = refl

-- W-202, reading 24: the line of the declaration
refused-291 : outcome (of_text (bytes "(roleattribute x)\n(roleattribute y)\n(roleattributeset x(y))\n(roleattributeset y(y))")) 65536 ≡ rejected
    (refusal_at 8 18 2)
unfolding computing
refused-291 = refl

-- W-202, reading 24: users before roles
refused-292 : outcome (of_text (bytes "(roleattribute x)\n(roleattributeset x(x))\n(userattribute y)\n(userattributeset y(y))")) 65536 ≡ rejected
    (refusal_at 8 42 3)
unfolding computing
refused-292 = refl

-- W-202, reading 24: the line of the later transition
refused-293 : outcome (of_text (bytes "(role a)\n(role b)\n(type t)\n(class c(p))\n(roletransition a t c a)\n(roletransition\na t c b)\n")) 65536
    ≡ rejected (refusal_at 9 65 6)
unfolding computing
refused-293 = refl

-- W-202, reading 24: the first later transition that clashes
refused-294 : outcome (of_text (bytes
    "(role a)(role b)(type t)(class c(p))\n(roletransition a t c a)\n(roletransition a t c a)\n(roletransition a t c b)\n(roletra" ++ bytes
    "nsition a t c b)")) 65536 ≡ rejected (refusal_at 9 87 4)
unfolding computing
refused-294 = refl

-- W-203, readings 27 and 56: a dotted run is one name; once 2 at 7
refused-295 : outcome (of_text (bytes "(role a.b)")) 65536 ≡ rejected (refusal_at 3 0 1)
unfolding computing
refused-295 = refl

-- W-203, reading 28: at the name's first byte
refused-296 : outcome (of_text (bytes "(role a..b)")) 65536 ≡ rejected (refusal_at 2 6 1)
unfolding computing
refused-296 = refl

-- W-203, reading 28: not at the part
refused-297 : outcome (of_text (bytes "(role a.1b)")) 65536 ≡ rejected (refusal_at 2 6 1)
unfolding computing
refused-297 = refl

-- W-203, reading 29: the leading dot is the first byte
refused-298 : outcome (of_text (bytes "(roleallow .a. b)")) 65536 ≡ rejected (refusal_at 2 11 1)
unfolding computing
refused-298 = refl

-- W-203, reading 31: lowest place
refused-299 : outcome (of_text (bytes "(role a!.b)")) 65536 ≡ rejected (refusal_at 2 7 1)
unfolding computing
refused-299 = refl
