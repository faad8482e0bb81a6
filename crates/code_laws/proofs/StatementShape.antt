-- A statement as it is read: its S is rowed, and its code has no more units than the statement has tokens. Each law follows the definition that it
-- speaks of. Assumes nothing.
use Prim.Native.Nat.{ℕ, suc, ◌+◌, ◌≤◌, ◌<◌}
use native.Mathlib.Omega.{arith}
use mathlib.Core.Path.{◌≡◌, refl}
use mathlib.Core.List.{List, [], ◌∷◌}
use mathlib.Core.Option.{Option, none, some}
use lib.ListN.{length}
use Rattle.lexer.specs.Forms.{Forms, closed, ended, word, part}
use Rattle.policy.specs.Basics.{Name, more, of_one, of_two, each_of}
use Rattle.policy.specs.Words.{as_name, as_part, Keyword, declare_k, class_k, set_k, relation_k, transition_k, constrain_k, relabel_k, keyword_of, two_sides, three_sides}
use Rattle.policy.specs.Statements.{roles, types, thing_of, attribute_of, Declaration, plain, class, Relation, StatementOf, declare, attributeset, gives}
use Rattle.policy.specs.Statements.{roletransition, constrain, validatetrans, from_of, to_of, Written, Statement, Policy, declarations}
use Rattle.policy.specs.Grammar.{at_close, word_then, part_then, word_and_part, expression_in, row_of, one_or_more, class_in, of_four, formed, written}
use Rattle.policy.specs.Names.{refer, Environment, environment_of, number_in}
use Rattle.policy.specs.Scopes.{Scoped}
use Rattle.policy.specs.Reading.{in_blocks, refer_e, resolved, reads, judge}
use Rattle.policy.proofs.IfAny.{IfAny, nothing, just, and_then, whatever}
use Rattle.reading_laws.proofs.JudgedGood.{judge-written}
use Rattle.statement_code.specs.Code.{declaration_code, statement_code}
use Rattle.code_laws.specs.Weight.{weight}
use Rattle.code_laws.specs.Shape.{declaration_units, statement_units, StatementRowed}
use Rattle.code_laws.proofs.SetShape.{set-length, set-within, set-shape}

-- rowed, and so many units at most
pub record Shaped {R N : Type 0} (n : ℕ) (s : StatementOf R N) : Type 0 where
  pub rowed : StatementRowed s
  pub room : statement_units s ≤ n

abbrev WrittenShaped : ℕ → Written → Type 0
WrittenShaped n w = Shaped n w

abbrev pub StatementShaped : ℕ → Statement → Type 0
StatementShaped n s = Shaped n s

-- AS IT IS WRITTEN
-- names that the row has besides its close
record Fewer (n : ℕ) (ws : List Name) : Type 0 where
  few : length ws < n

more-names : {n k : ℕ} (w : Option Name) (ws : Option (List Name)) → n < k → IfAny (Fewer n) ws → IfAny (Fewer k) (more w ws)
more-names none ws l h = nothing
more-names (some w) none l h = nothing
more-names (some w) (some ws) l h = let a = h.has ws refl in just (record { few = omega arith })

names-few : (f : Forms) → IfAny (Fewer (weight f)) (row_of as_name f)
unfolding row_of weight
names-few closed = just (record { few = omega arith })
names-few ended = nothing
names-few (word at w r) = more-names (as_name w) (row_of as_name r) (omega arith) (names-few r)
names-few (part p i r) = nothing

declaration-shaped : {k : ℕ} → 1 < k → (d : Declaration) → WrittenShaped k (declare d)
declaration-shaped l (plain (thing_of f) w) = record { rowed = tt; room = omega arith }
declaration-shaped l (plain (attribute_of f) w) = record { rowed = tt; room = omega arith }
declaration-shaped l (class w ps) = record { rowed = tt; room = omega arith }

module _ {n k : ℕ} (l : suc n < k) where
  two_shaped : (r : Relation) (ws : List Name) → Fewer n ws → IfAny (WrittenShaped k) (of_two (gives r) ws)
  two_shaped r [] h = nothing
  two_shaped r (x ∷ []) h = nothing
  two_shaped r (x ∷ y ∷ []) h = just (record { rowed = tt; room = omega arith })
  two_shaped r (x ∷ y ∷ z ∷ ws) h = nothing

  four-shaped : (ws : List Name) → Fewer n ws → IfAny (WrittenShaped k) (of_four ws)
  four-shaped [] h = nothing
  four-shaped (r ∷ []) h = nothing
  four-shaped (r ∷ t ∷ []) h = nothing
  four-shaped (r ∷ t ∷ c ∷ []) h = nothing
  four-shaped (r ∷ t ∷ c ∷ m ∷ []) h = just (record { rowed = tt; room = omega arith })
  four-shaped (r ∷ t ∷ c ∷ m ∷ x ∷ xs) h = nothing

-- whatever is in the row, if nothing needs to be known of it
module _ {A : Type 0} {P : A → Type 0} where
  word-then : (f : Forms) (g : Name → Forms → Option A) → ((w : Name) (r : Forms) → weight f ≡ weight r + 1 → IfAny P (g w r)) → IfAny P (word_then f g)
  unfolding weight
  word-then closed g k = nothing
  word-then ended g k = nothing
  word-then (word at w r) g k = k w r refl
  word-then (part p i r) g k = nothing

  part_then_lem : (f : Forms) (g : Forms → Forms → Option A) → ((i r : Forms) → weight f ≡ weight i + weight r + 1 → IfAny P (g i r)) → IfAny P (part_then f g)
  unfolding weight
  part_then_lem closed g k = nothing
  part_then_lem ended g k = nothing
  part_then_lem (word at w r) g k = nothing
  part_then_lem (part p i r) g k = k i r refl

  at-close : (f : Forms) (o : Option A) → (weight f ≡ 1 → IfAny P o) → IfAny P (at_close f o)
  unfolding weight
  at-close closed o h = h refl
  at-close ended o h = nothing
  at-close (word at w r) o h = nothing
  at-close (part p i r) o h = nothing

  pub word-and-part : (f : Forms) (g : Name → Forms → Option A) → ((w : Name) (i : Forms) → weight f ≡ weight i + 3 → IfAny P (g w i)) → IfAny P (word_and_part f g)
  word-and-part f g k = word-then f _ λ w r a. part_then_lem r _ λ i q b. at-close q _ λ c. k w i (omega arith)

  pub class-in : (taken : Name → Option Name) (f : Forms) (g : Name → List Name → Option A) → ((c : Name) (ps : List Name) → IfAny P (g c ps)) → IfAny P (class_in taken f g)
  class-in taken f g k = word-and-part f _ λ c i _. whatever (taken c) _ λ c. whatever (row_of as_part i) _ λ ps. whatever (one_or_more ps) _ λ ps. k c ps

formed-shaped : (k : Keyword) (f : Forms) (n : ℕ) → weight f + 1 < n → IfAny (WrittenShaped n) (formed k f)
formed-shaped (declare_k s) f n l = whatever (row_of as_part f) _ λ ws. if-one ws
  where
    if-one : (ws : List Name) → IfAny (WrittenShaped n) (of_one (λ w. declare (plain s w)) ws)
    if-one [] = nothing
    if-one (w ∷ []) = just (declaration-shaped (omega arith) (plain s w))
    if-one (w ∷ x ∷ ws) = nothing
formed-shaped class_k f n l = class-in as_part f _ λ c ps. just (declaration-shaped (omega arith) (class c ps))
formed-shaped (set_k a) f n l = word-and-part f _ λ w i e. whatever (as_name w) _ λ w. and_then _ _ (set-within i) λ s h. just (record { rowed = h.rowed; room = omega arith })
formed-shaped (relation_k r) f n l = and_then _ _ (names-few f) (two_shaped (omega arith) r)
formed-shaped transition_k f n l = and_then _ _ (names-few f) (four-shaped (omega arith))
formed-shaped constrain_k f n l =
    part_then_lem f _ λ i r _. part_then_lem r _ λ j r _. at-close r _ λ _. class-in as_name i _ λ c ps. whatever (expression_in two_sides j) _ λ e.
    just (record { rowed = tt; room = omega arith })
formed-shaped relabel_k f n l =
    word-and-part f _ λ w i _. whatever (as_name w) _ λ w. whatever (expression_in three_sides i) _ λ e. just (record { rowed = tt; room = omega arith })

-- the statement in parentheses: one of them is not of the row in them
written-shaped : (f : Forms) → IfAny (WrittenShaped (weight f + 1)) (written f)
unfolding weight
written-shaped closed = nothing
written-shaped ended = nothing
written-shaped (part p i r) = nothing
written-shaped (word at w r) = whatever (keyword_of w) _ λ k. formed-shaped k r (weight r + 1 + 1) (omega arith)

-- full names take up no more units
blocks-shaped : {n : ℕ} (path : List Name) (w : Written) → WrittenShaped n w → WrittenShaped n (in_blocks path w)
blocks-shaped path (declare (plain (thing_of f) v)) h = record { rowed = tt; room = h.room }
blocks-shaped path (declare (plain (attribute_of f) v)) h = record { rowed = tt; room = h.room }
blocks-shaped path (declare (class v ps)) h = record { rowed = tt; room = h.room }
blocks-shaped path (attributeset f a s) h = h
blocks-shaped path (gives r x y) h = h
blocks-shaped path (roletransition r t c m) h = h
blocks-shaped path (constrain c ps e) h = h
blocks-shaped path (validatetrans c e) h = h

-- AS IT IS READ
module _ (env : Environment) (n : ℕ) where
  resolved-shaped : (w : Written) → WrittenShaped n w → IfAny (StatementShaped n) (resolved env w)
  resolved-shaped (declare d) h = just (record { rowed = tt; room = h.room })
  resolved-shaped (attributeset f a s) h =
      whatever (number_in env (attribute_of f) a) _ λ a. and_then _ _ (set-shape env f s) λ t e. just (record { rowed = e.rowed h.rowed; room = omega arith })
  resolved-shaped (gives k x y) h = whatever (refer env (from_of k) x) _ λ x. whatever (refer env (to_of k) y) _ λ y. just (record { rowed = tt; room = h.room })
  resolved-shaped (roletransition r t c m) h =
      whatever (refer env roles r) _ λ r. whatever (refer env types t) _ λ t. whatever (env.class c) _ λ c. whatever (number_in env (thing_of roles) m) _ λ m.
      just (record { rowed = tt; room = h.room })
  resolved-shaped (constrain c ps e) h =
      whatever (env.class c) _ λ c. whatever (each_of (λ p. env.permission c p) ps) _ λ ps. whatever (refer_e env e) _ λ e. just (record { rowed = tt; room = h.room })
  resolved-shaped (validatetrans c e) h = whatever (env.class c) _ λ c. whatever (refer_e env e) _ λ e. just (record { rowed = tt; room = h.room })

-- what is judged good was written and resolved, in whatever blocks
pub judge-shaped : (before : List Scoped) (p : Policy) (x : Scoped) (s : Statement) → judge before p x ≡ reads s → StatementShaped (weight x.form + 1) s
judge-shaped before p x s h =
    let w = judge-written before p x s h in
    (resolved-shaped (environment_of (declarations p) x.path) (weight x.form + 1) (in_blocks x.path w.0)
    (blocks-shaped x.path w.0 ((written-shaped x.form).has w.0 w.1))).has s w.2

-- as many units as its code has
declaration-length : (at : ℕ) (d : Declaration) → length (declaration_code at d) ≡ declaration_units d
declaration-length at (plain (thing_of f) w) = refl
declaration-length at (plain (attribute_of f) w) = refl
declaration-length at (class w ps) = refl

pub statement-length : (at : ℕ) (s : Statement) → StatementRowed s → length (statement_code at s) ≡ statement_units s
statement-length at (declare d) h = declaration-length at d
statement-length at (attributeset f a s) h = omega (arith, set-length s h)
statement-length at (gives k x y) h = refl
statement-length at (roletransition r t c n) h = refl
statement-length at (constrain c ps e) h = refl
statement-length at (validatetrans c e) h = refl

-- a statement has no more units than its parentheses and what they hold have tokens, in whatever blocks
pub statement-fits : (before : List Scoped) (p : Policy) (x : Scoped) (s : Statement) → judge before p x ≡ reads s
    → length (statement_code x.place s) ≤ weight x.form + 1
statement-fits before p x s h = let k = judge-shaped before p x s h in omega (arith, statement-length x.place s k.rowed)
