-- Texts and what the independent second program says of them, held to the definitions by computation. Written by reference/regenerate.
-- Assumes nothing.
use Rattle.std.specs.Prelude.{◌≡◌, refl, List, [], ◌∷◌, ◌++◌}
use Rattle.lexer.specs.Spell.{bytes}
use Rattle.policy.specs.Outcome.{of_text, refusal_at, rejected, outcome}
use Rattle.policy.specs.Computing.{computing}

-- reading 23: 33 permissions in class 33
refused-360 : outcome (of_text (bytes
    "(class a0(p))(class a1(p))(class a2(p))(class a3(p))(class a4(p))(class a5(p))(class a6(p))(class a7(p))(class a8(p))(cl" ++ bytes
    "ass a9(p))(class a10(p))(class a11(p))(class a12(p))(class a13(p))(class a14(p))(class a15(p))(class a16(p))(class a17(p" ++ bytes
    "))(class a18(p))(class a19(p))(class a20(p))(class a21(p))(class a22(p))(class a23(p))(class a24(p))(class a25(p))(class" ++ bytes
    " a26(p))(class a27(p))(class a28(p))(class a29(p))(class a30(p))(class a31(p))(class b(p0 p1 p2 p3 p4 p5 p6 p7 p8 p9 p10" ++ bytes
    " p11 p12 p13 p14 p15 p16 p17 p18 p19 p20 p21 p22 p23 p24 p25 p26 p27 p28 p29 p30 p31 q))")) 65536 ≡ rejected (refusal_at 6 438 1)
unfolding computing
refused-360 = refl

-- reading 23: a 129th transition with an unknown role
refused-361 : outcome (of_text (bytes
    "(role a)(type t)(class c(p))(roletransition a t c a)(roletransition a t c a)(roletransition a t c a)(roletransition a t " ++ bytes
    "c a)(roletransition a t c a)(roletransition a t c a)(roletransition a t c a)(roletransition a t c a)(roletransition a t " ++ bytes
    "c a)(roletransition a t c a)(roletransition a t c a)(roletransition a t c a)(roletransition a t c a)(roletransition a t " ++ bytes
    "c a)(roletransition a t c a)(roletransition a t c a)(roletransition a t c a)(roletransition a t c a)(roletransition a t " ++ bytes
    "c a)(roletransition a t c a)(roletransition a t c a)(roletransition a t c a)(roletransition a t c a)(roletransition a t " ++ bytes
    "c a)(roletransition a t c a)(roletransition a t c a)(roletransition a t c a)(roletransition a t c a)(roletransition a t " ++ bytes
    "c a)(roletransition a t c a)(roletransition a t c a)(roletransition a t c a)(roletransition a t c a)(roletransition a t " ++ bytes
    "c a)(roletransition a t c a)(roletransition a t c a)(roletransition a t c a)(roletransition a t c a)(roletransition a t " ++ bytes
    "c a)(roletransition a t c a)(roletransition a t c a)(roletransition a t c a)(roletransition a t c a)(roletransition a t " ++ bytes
    "c a)(roletransition a t c a)(roletransition a t c a)(roletransition a t c a)(roletransition a t c a)(roletransition a t " ++ bytes
    "c a)(roletransition a t c a)(roletransition a t c a)(roletransition a t c a)(roletransition a t c a)(roletransition a t " ++ bytes
    "c a)(roletransition a t c a)(roletransition a t c a)(roletransition a t c a)(roletransition a t c a)(roletransition a t " ++ bytes
    "c a)(roletransition a t c a)(roletransition a t c a)(roletransition a t c a)(roletransition a t c a)(roletransition a t " ++ bytes
    "c a)(roletransition a t c a)(roletransition a t c a)(roletransition a t c a)(roletransition a t c a)(roletransition a t " ++ bytes
    "c a)(roletransition a t c a)(roletransition a t c a)(roletransition a t c a)(roletransition a t c a)(roletransition a t " ++ bytes
    "c a)(roletransition a t c a)(roletransition a t c a)(roletransition a t c a)(roletransition a t c a)(roletransition a t " ++ bytes
    "c a)(roletransition a t c a)(roletransition a t c a)(roletransition a t c a)(roletransition a t c a)(roletransition a t " ++ bytes
    "c a)(roletransition a t c a)(roletransition a t c a)(roletransition a t c a)(roletransition a t c a)(roletransition a t " ++ bytes
    "c a)(roletransition a t c a)(roletransition a t c a)(roletransition a t c a)(roletransition a t c a)(roletransition a t " ++ bytes
    "c a)(roletransition a t c a)(roletransition a t c a)(roletransition a t c a)(roletransition a t c a)(roletransition a t " ++ bytes
    "c a)(roletransition a t c a)(roletransition a t c a)(roletransition a t c a)(roletransition a t c a)(roletransition a t " ++ bytes
    "c a)(roletransition a t c a)(roletransition a t c a)(roletransition a t c a)(roletransition a t c a)(roletransition a t " ++ bytes
    "c a)(roletransition a t c a)(roletransition a t c a)(roletransition a t c a)(roletransition a t c a)(roletransition a t " ++ bytes
    "c a)(roletransition a t c a)(roletransition a t c a)(roletransition a t c a)(roletransition a t c a)(roletransition a t " ++ bytes
    "c a)(roletransition a t c a)(roletransition a t c a)(roletransition a t c a)(roletransition a t c a)(roletransition a t " ++ bytes
    "c a)(roletransition a t c a)(roletransition a t c a)(roletransition a t c a)(roletransition a t c a)(roletransition a t " ++ bytes "c b)")) 65536
    ≡ rejected (refusal_at 5 3100 1)
unfolding computing
refused-361 = refl

-- a random policy, damaged
refused-362 : outcome (of_text (bytes
    "(user b0)(userattribute c5)(role role)roleattribute c2)(type d1)(typeattribute not_)(class d9(e2 c5))(userrole c5 role)(" ++ bytes
    "roletransition c2 not_ d9 role)")) 65536 ≡ rejected (refusal_at 2 38 1)
unfolding computing
refused-362 = refl

-- a random policy, damaged
refused-363 : outcome (of_text (bytes
    "(user a7)(role All)(type c8)(typeattribute __-)(class process(transition f5 f1))(constrain(process(f1 f5 f5 f1))c8neq t2" ++ bytes
    " ())(roletransition All c8 process All)")) 65536 ≡ rejected (refusal_at 3 80 1)
unfolding computing
refused-363 = refl

-- a random policy, damaged
refused-364 : outcome (of_text (bytes
    "(user d9)(userattribute b9)(role role a1)(roleattribute a8)(type f6)(class c9(d2 c5 e2))(roleallow a1 a8)(userrole d9 a8" ++ bytes ")")) 65536 ≡
    rejected (refusal_at 3 27 1)
unfolding computing
refused-364 = refl

-- a random policy, damaged
refused-365 : outcome (of_text (bytes "(user f6)(role f4)( c9)(class l(c7))(roletransition f4 c9 l f4)(user d1)")) 65536 ≡ rejected (refusal_at 3
    18 1)
unfolding computing
refused-365 = refl

-- a random policy, damaged
refused-366 : outcome (of_text (bytes
    "(user f2)(userattribute f7)(role h3)(type e2)(class process(dyntransition e6e2)(roletransition h3 ) process h3)")) 65536 ≡ rejected (refusal_at 3
    45 1)
unfolding computing
refused-366 = refl

-- a random policy, damaged
refused-367 : outcome (of_text (bytes
    "(user f9)(userattribute e3)(role b9)(type a8)(typeattribute a8)(class c6(transition dyntransition d9 e8))(roletype b9 d7" ++ bytes ")")) 65536 ≡
    rejected (refusal_at 4 45 1)
unfolding computing
refused-367 = refl

-- a random policy, damaged
refused-368 : outcome (of_text (bytes
    "(user a8)(userattribute f5)(role a5)(roleattribute f2)type( d8)(class d0(transition e6 e4 and-))(userrole a8 f2)(role c1" ++ bytes ")")) 65536 ≡
    rejected (refusal_at 2 54 1)
unfolding computing
refused-368 = refl

-- a random policy, damaged
refused-369 : outcome (of_text (bytes
    "(user d8)(userattribute d6)(role a2)(type b5)(typeattribute c4)(class process(transition f0 c3 b4))(roletype a2 b5)(cons" ++ bytes
    "train(process((c3) f0 c3 b4 transition))(or(or(eq t1 t2)(eq t1 t2))(and(neq r2 a2)(neq u1 d8))))")) 65536 ≡ rejected (refusal_at 3 115 1)
unfolding computing
refused-369 = refl

-- a random policy in blocks, damaged
refused-370 : outcome (of_text (bytes
    "(user d1)(userattribute b0)(role c1)(type c5)(typeattribute a0)(class a0(dyntransition a0))(block __-(userrole d1 c1.c1)" ++ bytes
    "(role b4)(userrole d1 c1)(block b0))")) 65536 ≡ rejected (refusal_at 5 101 1)
unfolding computing
refused-370 = refl

-- a random policy with clashes
refused-371 : outcome (of_text (bytes
    "(user b3)(role c8)(roleattribute c7)(type f7)(class process(transition a8 d1 f9))(role f5)(class constrain(c0 b3))(userr" ++ bytes
    "ole b3 f5)(roletype c8 f7)(roletransition c8 f7 process c8)(roletransition c8 f7 process f5)(roletransition c8 f7 proces" ++ bytes
    "s f5)(roletype c8 f7)(roleattributeset c7(not c8))")) 65536 ≡ rejected (refusal_at 9 179 1)
unfolding computing
refused-371 = refl

-- a random policy in blocks, damaged
refused-372 : outcome (of_text (bytes
    "(user b0)(role b0)(type c0)(typeattribute d8)(class process(dyntransition b0 b7 f4))(roletype b0 ..d8)(user e5)(userrole" ++ bytes
    " b0 b0)(block b1(role d8))")) 65536 ≡ rejected (refusal_at 2 97 1)
unfolding computing
refused-372 = refl

-- a random policy with cycles
refused-373 : outcome (of_text (bytes
    "(user d2)(userattribute c8)(role d6)(roleattribute e5)(type a8)(class a7(d0 t d1))(userattributeset c8(d2))(userattribut" ++ bytes
    "eset c8(not c8))(type c4)(userattribute f5)(roletype d6 a8)(user d6)(userrole c8 e5)(roletype e5 a8)(roletype e5 c4)(use" ++ bytes
    "rrole c8 d6)(roletransition d6 a8 a7 d6)(role e6)")) 65536 ≡ rejected (refusal_at 8 9 1)
unfolding computing
refused-373 = refl

-- a random policy with cycles
refused-374 : outcome (of_text (bytes
    "(user e4)(userattribute b1)(role f6)(roleattribute user)(type e0)(typeattribute f1)(class d1(transition dyntransition a3" ++ bytes
    "))(roletransition f6 e0 d1 f6)(roleattributeset user(or user f6))(userrole e4 f6)(constrain(d1(transition a3 transition " ++ bytes
    "a3))(or(not(dom r1 r2))(eq r1 r2)))(constrain(d1(transition transition))(neq u2 e4))(role a0)(roleallow f6 f6)(type c2)(" ++ bytes
    "roletype f6 e0)(typeattribute c8)(roleallow f6 user)(roleallow a0 user)")) 65536 ≡ rejected (refusal_at 8 36 1)
unfolding computing
refused-374 = refl

-- a random policy with cycles
refused-375 : outcome (of_text (bytes
    "(user a1)(userattribute e4)(role eq1)(type a1)(class c9(c9))(userattributeset e4(xor e4(xor e4(not a1))))(roletype eq1 a" ++ bytes
    "1)(userrole e4 eq1)(roletype eq1 a1)(roletype eq1 a1)(roleallow eq1 eq1)(role e6)(constrain(c9(c9))(or(neq r1 eq1)(or(ne" ++ bytes
    "q t1 t2)(and(eq r2 eq1)(neq t1 t2)))))(userrole e4 eq1)(roletype e6 a1)(roletransition eq1 a1 c9 eq1)")) 65536 ≡ rejected (refusal_at 8 9 1)
unfolding computing
refused-375 = refl

-- a random policy with cycles
refused-376 : outcome (of_text (bytes
    "(user d3)(role b0)(type f7)(typeattribute e3)(class process(transition dyntransition c8 e9 e0))(user a2)(roletransition " ++ bytes
    "b0 e3 process b0)(userrole d3 b0)(user d4)(class d1(transition dyntransition b3 c1 type))(roletype b0 e3)(roletype b0 e3" ++ bytes
    ")(typeattributeset e3(or e3 e3))(user e4)(constrain(d1(transition c1 b3 type dyntransition type))(not(not(eq t1 e3))))(r" ++ bytes
    "oletransition b0 e3 process b0)(userrole d3 b0)")) 65536 ≡ rejected (refusal_at 8 27 1)
unfolding computing
refused-376 = refl

-- a random policy with cycles
refused-377 : outcome (of_text (bytes
    "(user e6)(userattribute a2)(role f9)(roleattribute a2)(type c9)(typeattribute b9)(class process(transition dyntransition" ++ bytes
    " c0 a1 a9))(roleattributeset a2((f9(xor a2 f9)f9)))(constrain(process(c0 c0 a9))(and(and(neq t1 t2)(neq t2 b9))(and(eq t" ++ bytes
    "1 b9)(eq u1 u2))))(constrain(process(a1))(and(eq u1 u2)(eq t1 b9)))(roletype a2 b9)(userrole a2 f9)(roletype a2 b9)(user" ++ bytes
    "role a2 f9)(userrole a2 a2)(constrain(process(c0 dyntransition))(eq u2 e6))(userrole e6 f9)(type f6)(roletype a2 f6)")) 65536 ≡ rejected
    (refusal_at 8 36 1)
unfolding computing
refused-377 = refl

-- a random policy with cycles
refused-378 : outcome (of_text (bytes
    "(user h)(userattribute d7)(role b8)(roleattribute b5)(type c6)(typeattribute b6)(class process(dyntransition e5 e9))(use" ++ bytes
    "rrole h b8)(userrole h b5)(roletransition b8 c6 process b8)(roletype b8 c6)(roleallow b5 b8)(userrole d7 b8)(roleattribu" ++ bytes
    "teset b5(or b5(b5 b5)))(user f4)(userattributeset d7((f4)))(roleallow b8 b8)(roletype b8 b6)(constrain(process(dyntransi" ++ bytes
    "tion))(or(or(neq r2 b5)(eq t1 t2))(not(eq t1 t2))))")) 65536 ≡ rejected (refusal_at 8 35 1)
unfolding computing
refused-378 = refl
