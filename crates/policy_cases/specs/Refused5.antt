-- Texts and what the independent second program says of them, held to the definitions by computation. Written by reference/regenerate.
-- Assumes nothing.
use Rattle.std.specs.Prelude.{◌≡◌, refl, List, [], ◌∷◌, ◌++◌}
use Rattle.lexer.specs.Spell.{bytes}
use Rattle.policy.specs.Outcome.{of_text, refusal_at, rejected, outcome}
use Rattle.policy.specs.Computing.{computing}

-- W-203, reading 32: two good names
refused-300 : outcome (of_text (bytes "(role a .b)")) 65536 ≡ rejected (refusal_at 3 0 1)
unfolding computing
refused-300 = refl

-- W-203, reading 33: a use of ten parts finds nothing
refused-301 : outcome (of_text (bytes "(roleallow a.b.c.d.e.f.g.h.i.j a)")) 65536 ≡ rejected (refusal_at 5 0 1)
unfolding computing
refused-301 = refl

-- W-203, reading 35: the header before anything in it
refused-302 : outcome (of_text (bytes "(block b(role a)(role a) x)")) 65536 ≡ rejected (refusal_at 3 0 1)
unfolding computing
refused-302 = refl

-- W-203, reading 36: the statement's own parenthesis
refused-303 : outcome (of_text (bytes "(block b\n())")) 65536 ≡ rejected (refusal_at 3 9 2)
unfolding computing
refused-303 = refl

-- W-203, reading 37: a dot in a permission
refused-304 : outcome (of_text (bytes "(class c (.p))")) 65536 ≡ rejected (refusal_at 3 0 1)
unfolding computing
refused-304 = refl

-- W-203, reading 38: a reserved part
refused-305 : outcome (of_text (bytes "(userrole b.all r)")) 65536 ≡ rejected (refusal_at 3 0 1)
unfolding computing
refused-305 = refl

-- W-203, reading 39: keywords only undotted
refused-306 : outcome (of_text (bytes "(.role a)")) 65536 ≡ rejected (refusal_at 3 0 1)
unfolding computing
refused-306 = refl

-- W-203, reading 41: opened twice
refused-307 : outcome (of_text (bytes "(block b)\n(block b)")) 65536 ≡ rejected (refusal_at 4 10 2)
unfolding computing
refused-307 = refl

-- W-203, reading 43: the whole-text level alone
refused-308 : outcome (of_text (bytes "(block p(role n)(roleallow .n n))")) 65536 ≡ rejected (refusal_at 5 16 1)
unfolding computing
refused-308 = refl

-- W-203, reading 44: the first hit of the family decides, of the wrong sort too
refused-309 : outcome (of_text (bytes "(roleattribute x)(block k(role x)\n(roleattributeset x(all)))")) 65536 ≡ rejected (refusal_at 5 34 2)
unfolding computing
refused-309 = refl

-- W-203, reading 46: a permission of the class found
refused-310 : outcome (of_text (bytes "(class c(p))(block b(class c(q))(constrain(c(p))(eq u1 u2)))")) 65536 ≡ rejected (refusal_at 5 32 1)
unfolding computing
refused-310 = refl

-- W-203, reading 51: the declaration's own parenthesis
refused-311 : outcome (of_text (bytes "(block b\n(roleattribute x)(roleattributeset x(.b.x)))")) 65536 ≡ rejected (refusal_at 8 9 2)
unfolding computing
refused-311 = refl

-- W-205, reading 63: C is a name
refused-312 : outcome (of_text (bytes "(class c(p))(validatetrans (c) (eq u1 u2))")) 65536 ≡ rejected (refusal_at 3 12 1)
unfolding computing
refused-312 = refl

-- W-205, reading 63: no permissions
refused-313 : outcome (of_text (bytes "(class c(p))\n(validatetrans (c (p)) (eq u1 u2))")) 65536 ≡ rejected (refusal_at 3 13 2)
unfolding computing
refused-313 = refl

-- W-205, reading 63: one E
refused-314 : outcome (of_text (bytes "(validatetrans c (eq u1 u2) (eq u1 u2))")) 65536 ≡ rejected (refusal_at 3 0 1)
unfolding computing
refused-314 = refl

-- W-205, reading 63: left out
refused-315 : outcome (of_text (bytes "(mlsvalidatetrans c (eq u1 u2))")) 65536 ≡ rejected (refusal_at 3 0 1)
unfolding computing
refused-315 = refl

-- W-205, reading 64: no pair with side 3
refused-316 : outcome (of_text (bytes "(validatetrans c (eq u1 u3))")) 65536 ≡ rejected (refusal_at 3 0 1)
unfolding computing
refused-316 = refl

-- W-205, reading 64: no pair with side 3
refused-317 : outcome (of_text (bytes "(validatetrans c (eq u3 u3))")) 65536 ≡ rejected (refusal_at 3 0 1)
unfolding computing
refused-317 = refl

-- W-205, reading 64: eq and neq alone
refused-318 : outcome (of_text (bytes "(validatetrans c (dom r3 a))")) 65536 ≡ rejected (refusal_at 3 0 1)
unfolding computing
refused-318 = refl

-- W-205, reading 64: in constrain it stays 3
refused-319 : outcome (of_text (bytes "(class c (p))(user u)(constrain (c (p)) (eq u3 u))")) 65536 ≡ rejected (refusal_at 3 21 1)
unfolding computing
refused-319 = refl

-- W-205, reading 65: a class declared before
refused-320 : outcome (of_text (bytes "(user u)\n(validatetrans c (eq u3 u))(class c(p))")) 65536 ≡ rejected (refusal_at 5 9 2)
unfolding computing
refused-320 = refl

-- W-205, reading 65: a name of the family
refused-321 : outcome (of_text (bytes "(role u)(class c(p))(validatetrans c (or (eq u1 u2) (eq u3 u)))")) 65536 ≡ rejected (refusal_at 5 20 1)
unfolding computing
refused-321 = refl

-- W-202, reading 19: a name of 65 bytes
refused-322 : outcome (of_text (bytes "(role\nnnnnnnnnnnnnnnnnnnnnnnnnnnnnnnnnnnnnnnnnnnnnnnnnnnnnnnnnnnnnnnnnn\n)")) 65536 ≡ rejected (refusal_at
    2 6 2)
unfolding computing
refused-322 = refl

-- W-202, reading 19: level 33
refused-323 : outcome (of_text (bytes "\n((((((((((((((((((((((((((((((((\n()))))))))))))))))))))))))))))))))")) 65536 ≡ rejected (refusal_at 2 34
    3)
unfolding computing
refused-323 = refl

-- W-202, reading 20: 32 open, each on a line
refused-324 : outcome (of_text (bytes "(\n(\n(\n(\n(\n(\n(\n(\n(\n(\n(\n(\n(\n(\n(\n(\n(\n(\n(\n(\n(\n(\n(\n(\n(\n(\n(\n(\n(\n(\n(\n(\n")) 65536 ≡
    rejected (refusal_at 2 64 33)
unfolding computing
refused-324 = refl

-- W-202: 6 on a later line
refused-325 : outcome (of_text (bytes
    "\n\n(class c(A\nB\nC\nD\nE\nF\nG\nH\nI\nJ\nK\nL\nM\nN\nO\nP\nQ\nR\nS\nT\nU\nV\nW\nX\nY\nZ\na\nb\nc\nd\ne\nf\ng))")) 65536 ≡ rejected (refusal_at
    6 2 3)
unfolding computing
refused-325 = refl

-- W-202: 7 on a later line
refused-326 : outcome (of_text (bytes
    "(class c(p))\n\n(constrain(c(p))\n(and(eq t1 t2)\n(and(eq t1 t2)\n(and(eq t1 t2)\n(and(eq t1 t2)\n(and(eq t1 t2)(eq t1 t2))))))" ++ bytes ")"))
    65536 ≡ rejected (refusal_at 7 14 3)
unfolding computing
refused-326 = refl

-- past the maximum: users
refused-327 : outcome (of_text (bytes
    "(user a0)(user a1)(user a2)(user a3)(user a4)(user a5)(user a6)(user a7)(user a8)(user a9)(user a10)(user a11)(user a12)" ++ bytes
    "(user a13)(user a14)(user a15)(user a16)(user a17)(user a18)(user a19)(user a20)(user a21)(user a22)(user a23)(user a24)" ++ bytes
    "(user a25)(user a26)(user a27)(user a28)(user a29)(user a30)(user a31)(user a32)(user a33)(user a34)(user a35)(user a36)" ++ bytes
    "(user a37)(user a38)(user a39)(user a40)(user a41)(user a42)(user a43)(user a44)(user a45)(user a46)(user a47)(user a48)" ++ bytes
    "(user a49)(user a50)(user a51)(user a52)(user a53)(user a54)(user a55)(user a56)(user a57)(user a58)(user a59)(user a60)" ++ bytes
    "(user a61)(user a62)(user a63)(user a64)(user a65)(user a66)(user a67)(user a68)(user a69)(user a70)(user a71)(user a72)" ++ bytes
    "(user a73)(user a74)(user a75)(user a76)(user a77)(user a78)(user a79)(user a80)(user a81)(user a82)(user a83)(user a84)" ++ bytes
    "(user a85)(user a86)(user a87)(user a88)(user a89)(user a90)(user a91)(user a92)(user a93)(user a94)(user a95)(user a96)" ++ bytes
    "(user a97)(user a98)(user a99)(user a100)(user a101)(user a102)(user a103)(user a104)(user a105)(user a106)(user a107)(u" ++ bytes
    "ser a108)(user a109)(user a110)(user a111)(user a112)(user a113)(user a114)(user a115)(user a116)(user a117)(user a118)(" ++ bytes
    "user a119)(user a120)(user a121)(user a122)(user a123)(user a124)(user a125)(user a126)(user a127)(user a128)")) 65536 ≡ rejected (refusal_at 6
    1298 1)
unfolding computing
refused-327 = refl

-- past the maximum: roles
refused-328 : outcome (of_text (bytes
    "(role a0)(role a1)(role a2)(role a3)(role a4)(role a5)(role a6)(role a7)(role a8)(role a9)(role a10)(role a11)(role a12)" ++ bytes
    "(role a13)(role a14)(role a15)(role a16)(role a17)(role a18)(role a19)(role a20)(role a21)(role a22)(role a23)(role a24)" ++ bytes
    "(role a25)(role a26)(role a27)(role a28)(role a29)(role a30)(role a31)(role a32)(role a33)(role a34)(role a35)(role a36)" ++ bytes
    "(role a37)(role a38)(role a39)(role a40)(role a41)(role a42)(role a43)(role a44)(role a45)(role a46)(role a47)(role a48)" ++ bytes
    "(role a49)(role a50)(role a51)(role a52)(role a53)(role a54)(role a55)(role a56)(role a57)(role a58)(role a59)(role a60)" ++ bytes
    "(role a61)(role a62)(role a63)(role a64)(role a65)(role a66)(role a67)(role a68)(role a69)(role a70)(role a71)(role a72)" ++ bytes
    "(role a73)(role a74)(role a75)(role a76)(role a77)(role a78)(role a79)(role a80)(role a81)(role a82)(role a83)(role a84)" ++ bytes
    "(role a85)(role a86)(role a87)(role a88)(role a89)(role a90)(role a91)(role a92)(role a93)(role a94)(role a95)(role a96)" ++ bytes
    "(role a97)(role a98)(role a99)(role a100)(role a101)(role a102)(role a103)(role a104)(role a105)(role a106)(role a107)(r" ++ bytes
    "ole a108)(role a109)(role a110)(role a111)(role a112)(role a113)(role a114)(role a115)(role a116)(role a117)(role a118)(" ++ bytes
    "role a119)(role a120)(role a121)(role a122)(role a123)(role a124)(role a125)(role a126)(role a127)(role a128)")) 65536 ≡ rejected (refusal_at 6
    1298 1)
unfolding computing
refused-328 = refl

-- past the maximum: userattributes
refused-329 : outcome (of_text (bytes
    "(userattribute a0)(userattribute a1)(userattribute a2)(userattribute a3)(userattribute a4)(userattribute a5)(userattribu" ++ bytes
    "te a6)(userattribute a7)(userattribute a8)(userattribute a9)(userattribute a10)(userattribute a11)(userattribute a12)(us" ++ bytes
    "erattribute a13)(userattribute a14)(userattribute a15)(userattribute a16)(userattribute a17)(userattribute a18)(userattr" ++ bytes
    "ibute a19)(userattribute a20)(userattribute a21)(userattribute a22)(userattribute a23)(userattribute a24)(userattribute " ++ bytes
    "a25)(userattribute a26)(userattribute a27)(userattribute a28)(userattribute a29)(userattribute a30)(userattribute a31)(u" ++ bytes
    "serattribute a32)(userattribute a33)(userattribute a34)(userattribute a35)(userattribute a36)(userattribute a37)(useratt" ++ bytes
    "ribute a38)(userattribute a39)(userattribute a40)(userattribute a41)(userattribute a42)(userattribute a43)(userattribute" ++ bytes
    " a44)(userattribute a45)(userattribute a46)(userattribute a47)(userattribute a48)(userattribute a49)(userattribute a50)(" ++ bytes
    "userattribute a51)(userattribute a52)(userattribute a53)(userattribute a54)(userattribute a55)(userattribute a56)(userat" ++ bytes
    "tribute a57)(userattribute a58)(userattribute a59)(userattribute a60)(userattribute a61)(userattribute a62)(userattribut" ++ bytes
    "e a63)(userattribute a64)")) 65536 ≡ rejected (refusal_at 6 1206 1)
unfolding computing
refused-329 = refl

-- past the maximum: roleattributes
refused-330 : outcome (of_text (bytes
    "(roleattribute a0)(roleattribute a1)(roleattribute a2)(roleattribute a3)(roleattribute a4)(roleattribute a5)(roleattribu" ++ bytes
    "te a6)(roleattribute a7)(roleattribute a8)(roleattribute a9)(roleattribute a10)(roleattribute a11)(roleattribute a12)(ro" ++ bytes
    "leattribute a13)(roleattribute a14)(roleattribute a15)(roleattribute a16)(roleattribute a17)(roleattribute a18)(roleattr" ++ bytes
    "ibute a19)(roleattribute a20)(roleattribute a21)(roleattribute a22)(roleattribute a23)(roleattribute a24)(roleattribute " ++ bytes
    "a25)(roleattribute a26)(roleattribute a27)(roleattribute a28)(roleattribute a29)(roleattribute a30)(roleattribute a31)(r" ++ bytes
    "oleattribute a32)(roleattribute a33)(roleattribute a34)(roleattribute a35)(roleattribute a36)(roleattribute a37)(roleatt" ++ bytes
    "ribute a38)(roleattribute a39)(roleattribute a40)(roleattribute a41)(roleattribute a42)(roleattribute a43)(roleattribute" ++ bytes
    " a44)(roleattribute a45)(roleattribute a46)(roleattribute a47)(roleattribute a48)(roleattribute a49)(roleattribute a50)(" ++ bytes
    "roleattribute a51)(roleattribute a52)(roleattribute a53)(roleattribute a54)(roleattribute a55)(roleattribute a56)(roleat" ++ bytes
    "tribute a57)(roleattribute a58)(roleattribute a59)(roleattribute a60)(roleattribute a61)(roleattribute a62)(roleattribut" ++ bytes
    "e a63)(roleattribute a64)")) 65536 ≡ rejected (refusal_at 6 1206 1)
unfolding computing
refused-330 = refl

-- past the maximum: typeattributes
refused-331 : outcome (of_text (bytes
    "(typeattribute a0)(typeattribute a1)(typeattribute a2)(typeattribute a3)(typeattribute a4)(typeattribute a5)(typeattribu" ++ bytes
    "te a6)(typeattribute a7)(typeattribute a8)(typeattribute a9)(typeattribute a10)(typeattribute a11)(typeattribute a12)(ty" ++ bytes
    "peattribute a13)(typeattribute a14)(typeattribute a15)(typeattribute a16)(typeattribute a17)(typeattribute a18)(typeattr" ++ bytes
    "ibute a19)(typeattribute a20)(typeattribute a21)(typeattribute a22)(typeattribute a23)(typeattribute a24)(typeattribute " ++ bytes
    "a25)(typeattribute a26)(typeattribute a27)(typeattribute a28)(typeattribute a29)(typeattribute a30)(typeattribute a31)(t" ++ bytes
    "ypeattribute a32)(typeattribute a33)(typeattribute a34)(typeattribute a35)(typeattribute a36)(typeattribute a37)(typeatt" ++ bytes
    "ribute a38)(typeattribute a39)(typeattribute a40)(typeattribute a41)(typeattribute a42)(typeattribute a43)(typeattribute" ++ bytes
    " a44)(typeattribute a45)(typeattribute a46)(typeattribute a47)(typeattribute a48)(typeattribute a49)(typeattribute a50)(" ++ bytes
    "typeattribute a51)(typeattribute a52)(typeattribute a53)(typeattribute a54)(typeattribute a55)(typeattribute a56)(typeat" ++ bytes
    "tribute a57)(typeattribute a58)(typeattribute a59)(typeattribute a60)(typeattribute a61)(typeattribute a62)(typeattribut" ++ bytes
    "e a63)(typeattribute a64)")) 65536 ≡ rejected (refusal_at 6 1206 1)
unfolding computing
refused-331 = refl

-- past the maximum: classes
refused-332 : outcome (of_text (bytes
    "(class a0(p))(class a1(p))(class a2(p))(class a3(p))(class a4(p))(class a5(p))(class a6(p))(class a7(p))(class a8(p))(cl" ++ bytes
    "ass a9(p))(class a10(p))(class a11(p))(class a12(p))(class a13(p))(class a14(p))(class a15(p))(class a16(p))(class a17(p" ++ bytes
    "))(class a18(p))(class a19(p))(class a20(p))(class a21(p))(class a22(p))(class a23(p))(class a24(p))(class a25(p))(class" ++ bytes
    " a26(p))(class a27(p))(class a28(p))(class a29(p))(class a30(p))(class a31(p))(class a32(p))")) 65536 ≡ rejected (refusal_at 6 438 1)
unfolding computing
refused-332 = refl

-- at the maximum: classes
refused-333 : outcome (of_text (bytes
    "(class a0(p))(class a1(p))(class a2(p))(class a3(p))(class a4(p))(class a5(p))(class a6(p))(class a7(p))(class a8(p))(cl" ++ bytes
    "ass a9(p))(class a10(p))(class a11(p))(class a12(p))(class a13(p))(class a14(p))(class a15(p))(class a16(p))(class a17(p" ++ bytes
    "))(class a18(p))(class a19(p))(class a20(p))(class a21(p))(class a22(p))(class a23(p))(class a24(p))(class a25(p))(class" ++ bytes
    " a26(p))(class a27(p))(class a28(p))(class a29(p))(class a30(p))(class a31(p))()")) 65536 ≡ rejected (refusal_at 3 438 1)
unfolding computing
refused-333 = refl

-- past the maximum: permissions
refused-334 : outcome (of_text (bytes
    "(class c(p0 p1 p2 p3 p4 p5 p6 p7 p8 p9 p10 p11 p12 p13 p14 p15 p16 p17 p18 p19 p20 p21 p22 p23 p24 p25 p26 p27 p28 p29 p" ++ bytes
    "30 p31 p32))")) 65536 ≡ rejected (refusal_at 6 0 1)
unfolding computing
refused-334 = refl

-- at the maximum: permissions
refused-335 : outcome (of_text (bytes
    "(class c(p0 p1 p2 p3 p4 p5 p6 p7 p8 p9 p10 p11 p12 p13 p14 p15 p16 p17 p18 p19 p20 p21 p22 p23 p24 p25 p26 p27 p28 p29 p" ++ bytes "30 p31))()"))
    65536 ≡ rejected (refusal_at 3 128 1)
unfolding computing
refused-335 = refl

-- past the maximum: levels of a set
refused-336 : outcome (of_text (bytes
    "(role a)(roleattribute x)(roleattributeset x ((((((((((((((((((((((((((((((((a)))))))))))))))))))))))))))))))))")) 65536 ≡ rejected (refusal_at 2
    76 1)
unfolding computing
refused-336 = refl

-- at the maximum: levels of a set
refused-337 : outcome (of_text (bytes
    "(role a)(roleattribute x)(roleattributeset x (((((((((((((((((((((((((((((((a))))))))))))))))))))))))))))))))()")) 65536 ≡ rejected (refusal_at 3
    109 1)
unfolding computing
refused-337 = refl

-- past the maximum: levels of a constraint
refused-338 : outcome (of_text (bytes
    "(class c(p))(constrain(c(p))(not(not(not(not(not(not(not(not(not(not(not(not(not(not(not(not(not(not(not(not(not(not(not" ++ bytes
    "(not(not(not(not(not(not(not(not(eq u1 u2)))))))))))))))))))))))))))))))))")) 65536 ≡ rejected (refusal_at 2 152 1)
unfolding computing
refused-338 = refl

-- at the maximum: levels of a constraint
refused-339 : outcome (of_text (bytes
    "(class c(p))(constrain(c(p))(not(not(not(not(not(not(not(not(not(not(not(not(not(not(not(not(not(not(not(not(not(not(not" ++ bytes
    "(not(not(not(not(not(not(not(eq u1 u2))))))))))))))))))))))))))))))))()")) 65536 ≡ rejected (refusal_at 3 189 1)
unfolding computing
refused-339 = refl

-- past the maximum: name
refused-340 : outcome (of_text (bytes "(role nnnnnnnnnnnnnnnnnnnnnnnnnnnnnnnnnnnnnnnnnnnnnnnnnnnnnnnnnnnnnnnnn)")) 65536 ≡ rejected (refusal_at 2
    6 1)
unfolding computing
refused-340 = refl

-- at the maximum: name
refused-341 : outcome (of_text (bytes "(role nnnnnnnnnnnnnnnnnnnnnnnnnnnnnnnnnnnnnnnnnnnnnnnnnnnnnnnnnnnnnnnn)()")) 65536 ≡ rejected (refusal_at 3
    71 1)
unfolding computing
refused-341 = refl

-- past the maximum: permission
refused-342 : outcome (of_text (bytes "(class c(p nnnnnnnnnnnnnnnnnnnnnnnnnnnnnnnnnnnnnnnnnnnnnnnnnnnnnnnnnnnnnnnnn))")) 65536 ≡ rejected
    (refusal_at 2 11 1)
unfolding computing
refused-342 = refl

-- at the maximum: permission
refused-343 : outcome (of_text (bytes "(class c(p nnnnnnnnnnnnnnnnnnnnnnnnnnnnnnnnnnnnnnnnnnnnnnnnnnnnnnnnnnnnnnnn))()")) 65536 ≡ rejected
    (refusal_at 3 77 1)
unfolding computing
refused-343 = refl

-- past the maximum: name before a comment
refused-344 : outcome (of_text (bytes "(type nnnnnnnnnnnnnnnnnnnnnnnnnnnnnnnnnnnnnnnnnnnnnnnnnnnnnnnnnnnnnnnnn;\n)")) 65536 ≡ rejected (refusal_at
    2 6 1)
unfolding computing
refused-344 = refl

-- at the maximum: name before a comment
refused-345 : outcome (of_text (bytes "(type nnnnnnnnnnnnnnnnnnnnnnnnnnnnnnnnnnnnnnnnnnnnnnnnnnnnnnnnnnnnnnnn;\n)()")) 65536 ≡ rejected
    (refusal_at 3 73 2)
unfolding computing
refused-345 = refl

-- past the maximum: stack to the right
refused-346 : outcome (of_text (bytes
    "(class c(p))(constrain(c(p))(and(neq r1 r2)(and(neq r1 r2)(and(neq r1 r2)(and(neq r1 r2)(and(neq r1 r2)(neq r1 r2)))))))")) 65536 ≡ rejected
    (refusal_at 7 12 1)
unfolding computing
refused-346 = refl

-- at the maximum: stack to the right
refused-347 : outcome (of_text (bytes
    "(class c(p))(constrain(c(p))(and(neq r1 r2)(and(neq r1 r2)(and(neq r1 r2)(and(neq r1 r2)(neq r1 r2))))))()")) 65536 ≡ rejected (refusal_at 3 104
    1)
unfolding computing
refused-347 = refl

-- past the maximum: stack under not
refused-348 : outcome (of_text (bytes
    "(class c(p))(constrain(c(p))(and(or(neq r1 r2)(neq r1 r2))(not(or(neq r1 r2)(or(neq r1 r2)(or(neq r1 r2)(or(neq r1 r2)(n" ++ bytes
    "eq r1 r2))))))))")) 65536 ≡ rejected (refusal_at 7 12 1)
unfolding computing
refused-348 = refl

-- at the maximum: stack under not
refused-349 : outcome (of_text (bytes
    "(class c(p))(constrain(c(p))(and(or(neq r1 r2)(neq r1 r2))(not(or(neq r1 r2)(or(neq r1 r2)(or(neq r1 r2)(neq r1 r2))))))" ++ bytes ")()")) 65536
    ≡ rejected (refusal_at 3 121 1)
unfolding computing
refused-349 = refl

-- past the maximum: blocks nested
refused-350 : outcome (of_text (bytes "(block b(block b(block b(block b(block b(block b(block b(block b(block b(type t))))))))))")) 65536 ≡
    rejected (refusal_at 6 64 1)
unfolding computing
refused-350 = refl

-- at the maximum: blocks nested
refused-351 : outcome (of_text (bytes "(block b(block b(block b(block b(block b(block b(block b(block b(type t)))))))))()")) 65536 ≡ rejected
    (refusal_at 3 80 1)
unfolding computing
refused-351 = refl

-- past the maximum: name behind a leading dot
refused-352 : outcome (of_text (bytes
    "(role nnnnnnnnnnnnnnnnnnnnnnnnnnnnnnnnnnnnnnnnnnnnnnnnnnnnnnnnnnnnnnnn)(roleallow .nnnnnnnnnnnnnnnnnnnnnnnnnnnnnnnnnnnnn" ++ bytes
    "nnnnnnnnnnnnnnnnnnnnnnnnnnn .nnnnnnnnnnnnnnnnnnnnnnnnnnnnnnnnnnnnnnnnnnnnnnnnnnnnnnnnnnnnnnnnn)")) 65536 ≡ rejected (refusal_at 2 148 1)
unfolding computing
refused-352 = refl

-- at the maximum: name behind a leading dot
refused-353 : outcome (of_text (bytes
    "(role nnnnnnnnnnnnnnnnnnnnnnnnnnnnnnnnnnnnnnnnnnnnnnnnnnnnnnnnnnnnnnnn)(roleallow .nnnnnnnnnnnnnnnnnnnnnnnnnnnnnnnnnnnnn" ++ bytes
    "nnnnnnnnnnnnnnnnnnnnnnnnnnn .nnnnnnnnnnnnnnnnnnnnnnnnnnnnnnnnnnnnnnnnnnnnnnnnnnnnnnnnnnnnnnnn)()")) 65536 ≡ rejected (refusal_at 3 214 1)
unfolding computing
refused-353 = refl

-- past the maximum: full name of a role
refused-354 : outcome (of_text (bytes "(block b(block c(role nnnnnnnnnnnnnnnnnnnnnnnnnnnnnnnnnnnnnnnnnnnnnnnnnnnnnnnnnnnnn)))")) 65536 ≡ rejected
    (refusal_at 6 16 1)
unfolding computing
refused-354 = refl

-- at the maximum: full name of a role
refused-355 : outcome (of_text (bytes "(block b(block c(role nnnnnnnnnnnnnnnnnnnnnnnnnnnnnnnnnnnnnnnnnnnnnnnnnnnnnnnnnnnn)))()")) 65536 ≡ rejected
    (refusal_at 3 85 1)
unfolding computing
refused-355 = refl

-- past the maximum: stack of a validatetrans
refused-356 : outcome (of_text (bytes
    "(class c(p))(constrain(c(p))(not(eq u1 u2)))(validatetrans c(and(neq r1 r2)(and(neq r1 r2)(and(neq r1 r2)(and(neq r1 r2)" ++ bytes
    "(and(neq r1 r2)(neq r1 r2)))))))")) 65536 ≡ rejected (refusal_at 7 44 1)
unfolding computing
refused-356 = refl

-- at the maximum: stack of a validatetrans
refused-357 : outcome (of_text (bytes
    "(class c(p))(constrain(c(p))(not(eq u1 u2)))(validatetrans c(and(neq r1 r2)(and(neq r1 r2)(and(neq r1 r2)(and(neq r1 r2)" ++ bytes
    "(neq r1 r2))))))()")) 65536 ≡ rejected (refusal_at 3 136 1)
unfolding computing
refused-357 = refl

-- reading 23: a class declared again at 32
refused-358 : outcome (of_text (bytes
    "(class a0(p))(class a1(p))(class a2(p))(class a3(p))(class a4(p))(class a5(p))(class a6(p))(class a7(p))(class a8(p))(cl" ++ bytes
    "ass a9(p))(class a10(p))(class a11(p))(class a12(p))(class a13(p))(class a14(p))(class a15(p))(class a16(p))(class a17(p" ++ bytes
    "))(class a18(p))(class a19(p))(class a20(p))(class a21(p))(class a22(p))(class a23(p))(class a24(p))(class a25(p))(class" ++ bytes
    " a26(p))(class a27(p))(class a28(p))(class a29(p))(class a30(p))(class a31(p))(class a31(p))")) 65536 ≡ rejected (refusal_at 4 438 1)
unfolding computing
refused-358 = refl

-- reading 23: 33 permissions with a repeat
refused-359 : outcome (of_text (bytes
    "(class a0(p))(class a1(p))(class a2(p))(class a3(p))(class a4(p))(class a5(p))(class a6(p))(class a7(p))(class a8(p))(cl" ++ bytes
    "ass a9(p))(class a10(p))(class a11(p))(class a12(p))(class a13(p))(class a14(p))(class a15(p))(class a16(p))(class a17(p" ++ bytes
    "))(class a18(p))(class a19(p))(class a20(p))(class a21(p))(class a22(p))(class a23(p))(class a24(p))(class a25(p))(class" ++ bytes
    " a26(p))(class a27(p))(class a28(p))(class a29(p))(class a30(p))(class a31(p))(class b(p0 p1 p2 p3 p4 p5 p6 p7 p8 p9 p10" ++ bytes
    " p11 p12 p13 p14 p15 p16 p17 p18 p19 p20 p21 p22 p23 p24 p25 p26 p27 p28 p29 p30 p31 p0))")) 65536 ≡ rejected (refusal_at 4 438 1)
unfolding computing
refused-359 = refl
