-- Texts and what the independent second program says of them, held to the definitions by computation. Written by reference/regenerate.
-- Assumes nothing.
use Rattle.std.specs.Prelude.{◌≡◌, refl, List, [], ◌∷◌}
use Rattle.lexer.specs.Spell.{bytes}
use Rattle.policy.specs.Outcome.{of_text, refusal_at, rejected, outcome}
use Rattle.policy.specs.Computing.{computing}

-- reading 14
refused-120 : outcome (of_text (bytes "(class c (p))(constrain (c (all)) (eq u1 u2))")) 65536 ≡ rejected (refusal_at 3 13 1)
unfolding computing
refused-120 = refl

-- reading 14
refused-121 : outcome (of_text (bytes "(class c (p))(constrain (u1 (p)) (eq u1 u2))")) 65536 ≡ rejected (refusal_at 3 13 1)
unfolding computing
refused-121 = refl

-- reading 14: a permission's included
refused-122 : outcome (of_text (bytes "(class c (p t1))")) 65536 ≡ rejected (refusal_at 3 0 1)
unfolding computing
refused-122 = refl

-- reading 14
refused-123 : outcome (of_text (bytes "(class xor (p))")) 65536 ≡ rejected (refusal_at 3 0 1)
unfolding computing
refused-123 = refl

-- reading 15
refused-124 : outcome (of_text (bytes "(class c (p))(constrain (c (p)) (eq u2 u1))")) 65536 ≡ rejected (refusal_at 3 13 1)
unfolding computing
refused-124 = refl

-- reading 15
refused-125 : outcome (of_text (bytes "(class c (p))(constrain (c (p)) (dom r2 r1))")) 65536 ≡ rejected (refusal_at 3 13 1)
unfolding computing
refused-125 = refl

-- reading 15
refused-126 : outcome (of_text (bytes "(class c (p))(constrain (c (p)) (neq t2 t1))")) 65536 ≡ rejected (refusal_at 3 13 1)
unfolding computing
refused-126 = refl

-- reading 15
refused-127 : outcome (of_text (bytes "(class c (p))(constrain (c (p)) (dom u1 u2))")) 65536 ≡ rejected (refusal_at 3 13 1)
unfolding computing
refused-127 = refl

-- reading 15
refused-128 : outcome (of_text (bytes "(class c (p))(constrain (c (p)) (domby t1 t2))")) 65536 ≡ rejected (refusal_at 3 13 1)
unfolding computing
refused-128 = refl

-- reading 15
refused-129 : outcome (of_text (bytes "(class c (p))(constrain (c (p)) (incomp u1 u2))")) 65536 ≡ rejected (refusal_at 3 13 1)
unfolding computing
refused-129 = refl

-- reading 15
refused-130 : outcome (of_text (bytes "(role a)(class c (p))(constrain (c (p)) (dom r1 a))")) 65536 ≡ rejected (refusal_at 3 21 1)
unfolding computing
refused-130 = refl

-- reading 15
refused-131 : outcome (of_text (bytes "(role a)(class c (p))(constrain (c (p)) (domby r2 a))")) 65536 ≡ rejected (refusal_at 3 21 1)
unfolding computing
refused-131 = refl

-- reading 15
refused-132 : outcome (of_text (bytes "(role a)(class c (p))(constrain (c (p)) (incomp r1 a))")) 65536 ≡ rejected (refusal_at 3 21 1)
unfolding computing
refused-132 = refl

-- reading 15
refused-133 : outcome (of_text (bytes "(user a)(class c (p))(constrain (c (p)) (eq u3 a))")) 65536 ≡ rejected (refusal_at 3 21 1)
unfolding computing
refused-133 = refl

-- reading 15
refused-134 : outcome (of_text (bytes "(user a)(class c (p))(constrain (c (p)) (eq a u1))")) 65536 ≡ rejected (refusal_at 3 21 1)
unfolding computing
refused-134 = refl

-- reading 15
refused-135 : outcome (of_text (bytes "(user a)(class c (p))(constrain (c (p)) (eq a a))")) 65536 ≡ rejected (refusal_at 3 21 1)
unfolding computing
refused-135 = refl

-- reading 18
refused-136 : outcome (of_text (bytes "(class c (p))(constrain (c (p)) (and (eq u1 u2)))")) 65536 ≡ rejected (refusal_at 3 13 1)
unfolding computing
refused-136 = refl

-- reading 18
refused-137 : outcome (of_text (bytes "(class c (p))(constrain (c (p)) (and (eq u1 u2) (eq u1 u2) (eq u1 u2)))")) 65536 ≡ rejected (refusal_at 3
    13 1)
unfolding computing
refused-137 = refl

-- reading 18
refused-138 : outcome (of_text (bytes "(class c (p))(constrain (c (p)) (or (eq u1 u2)))")) 65536 ≡ rejected (refusal_at 3 13 1)
unfolding computing
refused-138 = refl

-- reading 18
refused-139 : outcome (of_text (bytes "(class c (p))(constrain (c (p)) (not (eq u1 u2) (eq u1 u2)))")) 65536 ≡ rejected (refusal_at 3 13 1)
unfolding computing
refused-139 = refl

-- reading 18
refused-140 : outcome (of_text (bytes "(class c (p))(constrain (c (p)) (not))")) 65536 ≡ rejected (refusal_at 3 13 1)
unfolding computing
refused-140 = refl

-- reading 18: each parenthesised
refused-141 : outcome (of_text (bytes "(class c (p))(constrain (c (p)) (not a))")) 65536 ≡ rejected (refusal_at 3 13 1)
unfolding computing
refused-141 = refl

-- reading 18: each parenthesised
refused-142 : outcome (of_text (bytes "(class c (p))(constrain (c (p)) (and a b))")) 65536 ≡ rejected (refusal_at 3 13 1)
unfolding computing
refused-142 = refl

-- reading 18: each parenthesised
refused-143 : outcome (of_text (bytes "(class c (p))(constrain (c (p)) (or u1 u2))")) 65536 ≡ rejected (refusal_at 3 13 1)
unfolding computing
refused-143 = refl

-- reading 18
refused-144 : outcome (of_text (bytes "(class c (p))(constrain (c (p)) (xor (eq u1 u2) (eq r1 r2)))")) 65536 ≡ rejected (refusal_at 3 13 1)
unfolding computing
refused-144 = refl

-- reading 18
refused-145 : outcome (of_text (bytes "(class c (p))(constrain (c (p)) (all))")) 65536 ≡ rejected (refusal_at 3 13 1)
unfolding computing
refused-145 = refl

-- reading 18
refused-146 : outcome (of_text (bytes "(class c (p))(constrain (c (p)) ((eq u1 u2)))")) 65536 ≡ rejected (refusal_at 3 13 1)
unfolding computing
refused-146 = refl

-- reading 18: one E only
refused-147 : outcome (of_text (bytes "(class c (p))(constrain (c (p)) (eq u1 u2) (eq u1 u2))")) 65536 ≡ rejected (refusal_at 3 13 1)
unfolding computing
refused-147 = refl

-- E is missing
refused-148 : outcome (of_text (bytes "(class c (p))(constrain (c (p)))")) 65536 ≡ rejected (refusal_at 3 13 1)
unfolding computing
refused-148 = refl

-- E is empty
refused-149 : outcome (of_text (bytes "(class c (p))(constrain (c (p)) ())")) 65536 ≡ rejected (refusal_at 3 13 1)
unfolding computing
refused-149 = refl

-- E is parenthesised
refused-150 : outcome (of_text (bytes "(class c (p))(constrain (c (p)) eq)")) 65536 ≡ rejected (refusal_at 3 13 1)
unfolding computing
refused-150 = refl

-- a comparison has two sides
refused-151 : outcome (of_text (bytes "(class c (p))(constrain (c (p)) (eq u1))")) 65536 ≡ rejected (refusal_at 3 13 1)
unfolding computing
refused-151 = refl

-- a comparison has two sides
refused-152 : outcome (of_text (bytes "(class c (p))(constrain (c (p)) (eq u1 u2 u2))")) 65536 ≡ rejected (refusal_at 3 13 1)
unfolding computing
refused-152 = refl

-- a comparison has two sides
refused-153 : outcome (of_text (bytes "(class c (p))(constrain (c (p)) (eq u1 (u2)))")) 65536 ≡ rejected (refusal_at 3 13 1)
unfolding computing
refused-153 = refl

-- no such operator
refused-154 : outcome (of_text (bytes "(class c (p))(constrain (c (p)) (foo u1 u2))")) 65536 ≡ rejected (refusal_at 3 13 1)
unfolding computing
refused-154 = refl

-- the operator comes first
refused-155 : outcome (of_text (bytes "(class c (p))(constrain (c (p)) (u1 eq u2))")) 65536 ≡ rejected (refusal_at 3 13 1)
unfolding computing
refused-155 = refl

-- name declared again in its family
refused-156 : outcome (of_text (bytes "(user a)(user a)")) 65536 ≡ rejected (refusal_at 4 8 1)
unfolding computing
refused-156 = refl

-- name declared again in its family
refused-157 : outcome (of_text (bytes "(type a)(type a)")) 65536 ≡ rejected (refusal_at 4 8 1)
unfolding computing
refused-157 = refl

-- reading 21: a thing and an attribute clash
refused-158 : outcome (of_text (bytes "(role a)(roleattribute a)")) 65536 ≡ rejected (refusal_at 4 8 1)
unfolding computing
refused-158 = refl

-- reading 21: a thing and an attribute clash
refused-159 : outcome (of_text (bytes "(userattribute a)(user a)")) 65536 ≡ rejected (refusal_at 4 17 1)
unfolding computing
refused-159 = refl

-- reading 21: a thing and an attribute clash
refused-160 : outcome (of_text (bytes "(type a)(typeattribute a)")) 65536 ≡ rejected (refusal_at 4 8 1)
unfolding computing
refused-160 = refl

-- name declared again in its family
refused-161 : outcome (of_text (bytes "(roleattribute a)(roleattribute a)")) 65536 ≡ rejected (refusal_at 4 17 1)
unfolding computing
refused-161 = refl

-- name declared again in its family
refused-162 : outcome (of_text (bytes "(class c (p))(class c (q))")) 65536 ≡ rejected (refusal_at 4 13 1)
unfolding computing
refused-162 = refl

-- permission twice in a class
refused-163 : outcome (of_text (bytes "(class c (p p))")) 65536 ≡ rejected (refusal_at 4 0 1)
unfolding computing
refused-163 = refl

-- permission twice in a class
refused-164 : outcome (of_text (bytes "(class c (p q p))")) 65536 ≡ rejected (refusal_at 4 0 1)
unfolding computing
refused-164 = refl

-- declared earlier in the text than its use
refused-165 : outcome (of_text (bytes "(roletype a t)(role a)(type t)")) 65536 ≡ rejected (refusal_at 5 0 1)
unfolding computing
refused-165 = refl

-- declared earlier in the text than its use
refused-166 : outcome (of_text (bytes "(role a)(roletype a t)(type t)")) 65536 ≡ rejected (refusal_at 5 8 1)
unfolding computing
refused-166 = refl

-- name not declared before
refused-167 : outcome (of_text (bytes "(userrole u a)")) 65536 ≡ rejected (refusal_at 5 0 1)
unfolding computing
refused-167 = refl

-- name not declared before: other family
refused-168 : outcome (of_text (bytes "(user a)(userrole a a)")) 65536 ≡ rejected (refusal_at 5 8 1)
unfolding computing
refused-168 = refl

-- name of the wrong family
refused-169 : outcome (of_text (bytes "(user b)(role a)(userrole a b)")) 65536 ≡ rejected (refusal_at 5 16 1)
unfolding computing
refused-169 = refl

-- name of the wrong family
refused-170 : outcome (of_text (bytes "(user a)(type a)(roleallow a a)")) 65536 ≡ rejected (refusal_at 5 16 1)
unfolding computing
refused-170 = refl

-- name not declared before
refused-171 : outcome (of_text (bytes "(userattributeset x (x))")) 65536 ≡ rejected (refusal_at 5 0 1)
unfolding computing
refused-171 = refl

-- name not declared before
refused-172 : outcome (of_text (bytes "(roleattribute x)(roleattributeset x (a))")) 65536 ≡ rejected (refusal_at 5 17 1)
unfolding computing
refused-172 = refl

-- name of the wrong family
refused-173 : outcome (of_text (bytes "(user a)(roleattribute x)(roleattributeset x (a))")) 65536 ≡ rejected (refusal_at 5 25 1)
unfolding computing
refused-173 = refl

-- name not declared before, within S
refused-174 : outcome (of_text (bytes "(roleattribute x)(roleattributeset x (and (all) (not a)))")) 65536 ≡ rejected (refusal_at 5 17 1)
unfolding computing
refused-174 = refl

-- reading 22: A is a plain thing
refused-175 : outcome (of_text (bytes "(role a)(roleattributeset a (a))")) 65536 ≡ rejected (refusal_at 5 8 1)
unfolding computing
refused-175 = refl

-- reading 22: A of another family
refused-176 : outcome (of_text (bytes "(userattribute x)(role a)(roleattributeset x (a))")) 65536 ≡ rejected (refusal_at 5 25 1)
unfolding computing
refused-176 = refl

-- reading 22: the new role is an attribute
refused-177 : outcome (of_text (bytes "(role a)(roleattribute x)(type t)(class c (p))(roletransition a t c x)")) 65536 ≡ rejected (refusal_at 5 46
    1)
unfolding computing
refused-177 = refl

-- name not declared before: new role
refused-178 : outcome (of_text (bytes "(role a)(type t)(class c (p))(roletransition a t c b)")) 65536 ≡ rejected (refusal_at 5 29 1)
unfolding computing
refused-178 = refl

-- name not declared before: class
refused-179 : outcome (of_text (bytes "(role a)(type t)(roletransition a t c a)")) 65536 ≡ rejected (refusal_at 5 16 1)
unfolding computing
refused-179 = refl
