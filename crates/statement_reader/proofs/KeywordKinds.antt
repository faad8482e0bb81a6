-- What the keyword of a statement says of the statement, as it is written and as it is resolved. Assumes nothing.
use Prim.Native.Nat.{ℕ}
use mathlib.Core.Path.{◌≡◌, refl}
use mathlib.Core.List.{List, [], ◌∷◌}
use mathlib.Core.Option.{Option}
use Rattle.lexer.specs.Forms.{Forms, closed, ended, word, part}
use Rattle.policy.specs.Basics.{Name, each_of, of_one, of_two}
use Rattle.policy.specs.Words.{as_name, as_part, Keyword, declare_k, class_k, set_k, relation_k, transition_k, constrain_k, relabel_k, two_sides, three_sides}
use Rattle.policy.specs.Statements.{roles, types, thing_of, attribute_of, plain, class, Reference, SetExpr, Constraint, StatementOf, declare, attributeset, gives}
use Rattle.policy.specs.Statements.{roletransition, constrain, validatetrans, Written, from_of, to_of}
use Rattle.policy.specs.Grammar.{two_parts, set_in, expression_in, row_of, of_four, formed}
use Rattle.policy.specs.Names.{refer, Environment, number_in}
use Rattle.policy.specs.Reading.{refer_s, refer_e, resolved}
use Rattle.policy.proofs.IfAny.{IfAny, nothing, just, whatever}
use Rattle.code_laws.proofs.StatementShape.{word-and-part, class-in}

-- the statement is of the kind that the keyword names
module _ {R N : Type 0} where
  abbrev pub IsOf : Keyword → StatementOf R N → Type 0
  IsOf (declare_k s) w = (n : Name) × (w ≡ declare (plain s n))
  IsOf class_k w = (c : Name) × (ps : List Name) × (w ≡ declare (class c ps))
  IsOf (set_k f) w = (a : N) × (s : SetExpr R) × (w ≡ attributeset f a s)
  IsOf (relation_k r) w = (x : R) × (y : R) × (w ≡ gives r x y)
  IsOf transition_k w = (r : R) × (t : R) × (c : N) × (n : N) × (w ≡ roletransition r t c n)
  IsOf constrain_k w = (c : N) × (ps : List N) × (e : Constraint R) × (w ≡ constrain c ps e)
  IsOf relabel_k w = (c : N) × (e : Constraint R) × (w ≡ validatetrans c e)

module _ {A : Type 0} {P : A → Type 0} where
  two-parts : (f : Forms) (g : Forms → Forms → Option A) → ((i j : Forms) → IfAny P (g i j)) → IfAny P (two_parts f g)
  two-parts closed g k = nothing
  two-parts ended g k = nothing
  two-parts (word s w r) g k = nothing
  two-parts (part p i closed) g k = nothing
  two-parts (part p i ended) g k = nothing
  two-parts (part p i (word s w r)) g k = nothing
  two-parts (part p i (part q j closed)) g k = k i j
  two-parts (part p i (part q j ended)) g k = nothing
  two-parts (part p i (part q j (word s w r))) g k = nothing
  two-parts (part p i (part q j (part s h r))) g k = nothing

-- as it is written
pub formed-of : (k : Keyword) (f : Forms) → IfAny (IsOf {R = Name} {N = Name} k) (formed k f)
formed-of (declare_k s) f = whatever (row_of as_part f) _ one
  where
    one : (ws : List Name) → IfAny (IsOf {R = Name} {N = Name} (declare_k s)) (of_one (λ w. declare (plain s w)) ws)
    one [] = nothing
    one (w ∷ []) = just (w, refl)
    one (v ∷ w ∷ ws) = nothing
formed-of class_k f = class-in as_part f _ λ c ps. just (c, ps, refl)
formed-of (set_k a) f = word-and-part f _ λ w i _. whatever (as_name w) _ λ w. whatever (set_in i) _ λ s. just (w, s, refl)
formed-of (relation_k r) f = whatever (row_of as_name f) _ two
  where
    two : (ws : List Name) → IfAny (IsOf {R = Name} {N = Name} (relation_k r)) (of_two (gives r) ws)
    two [] = nothing
    two (w ∷ []) = nothing
    two (v ∷ w ∷ []) = just (v, w, refl)
    two (u ∷ v ∷ w ∷ ws) = nothing
formed-of transition_k f = whatever (row_of as_name f) _ four
  where
    four : (ws : List Name) → IfAny (IsOf {R = Name} {N = Name} transition_k) (of_four ws)
    four [] = nothing
    four (r ∷ []) = nothing
    four (r ∷ t ∷ []) = nothing
    four (r ∷ t ∷ c ∷ []) = nothing
    four (r ∷ t ∷ c ∷ n ∷ []) = just (r, t, c, n, refl)
    four (r ∷ t ∷ c ∷ n ∷ x ∷ xs) = nothing
formed-of constrain_k f = two-parts f _ λ i j. class-in as_name i _ λ c ps. whatever (expression_in two_sides j) _ λ e. just (c, ps, e, refl)
formed-of relabel_k f = word-and-part f _ λ w i _. whatever (as_name w) _ λ c. whatever (expression_in three_sides i) _ λ e. just (c, e, refl)

-- as it is resolved
pub resolved-of : (env : Environment) (k : Keyword) (w : Written) → IsOf k w → IfAny (IsOf {R = Reference} {N = ℕ} k) (resolved env w)
resolved-of env (declare_k s) w h = rw h.1 (just (h.0, refl))
resolved-of env class_k w h = rw h.2 (just (h.0, h.1, refl))
resolved-of env (set_k f) w h =
    rw h.2 (whatever (number_in env (attribute_of f) h.0) _ λ a. whatever (refer_s env f h.1) _ λ s. just (a, s, refl))
resolved-of env (relation_k r) w h = rw h.2 (whatever (refer env (from_of r) h.0) _ λ x. whatever (refer env (to_of r) h.1) _ λ y. just (x, y, refl))
resolved-of env transition_k w h =
    rw h.4
    (whatever (refer env roles h.0) _ λ r. whatever (refer env types h.1) _ λ t. whatever (env.class h.2) _ λ c.
    whatever (number_in env (thing_of roles) h.3) _ λ n. just (r, t, c, n, refl))
resolved-of env constrain_k w h =
    rw h.3
    (whatever (env.class h.0) _ λ c. whatever (each_of (λ p. env.permission c p) h.1) _ λ ps.
    whatever (refer_e env h.2) _ λ e. just (c, ps, e, refl))
resolved-of env relabel_k w h = rw h.2 (whatever (env.class h.0) _ λ c. whatever (refer_e env h.1) _ λ e. just (c, e, refl))
