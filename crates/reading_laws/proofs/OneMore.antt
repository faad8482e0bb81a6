-- One statement more: what is accepted so far, and a statement that passes, are accepted together. Assumes nothing.
use Prim.Native.Nat.{ℕ, ◌+◌, ◌<◌, ◌≤◌}
use native.Mathlib.Omega.{arith}
use mathlib.Core.Path.{◌≡◌, refl}
use mathlib.Core.Bool.{true, ◌&&◌}
use mathlib.Core.List.{List, [], ◌∷◌, ◌++◌, append-nil}
use mathlib.Core.Option.{Option, none, some}
use lib.Dec.{ltb, leb}
use lib.ListN.{length, length-append}
use borrow.Author.Tests.{ltb-true, leb-true}
use Rattle.policy.specs.Basics.{gather, keep}
use Rattle.policy.specs.Statements.{Declaration, Statement, declare, attributeset, gives, roletransition, constrain, validatetrans, Line, Policy, declared}
use Rattle.policy.specs.Statements.{declarations, transition, transitions, constrained, constrains, constrain_body, relabelled, relabels, relabel_body, size}
use Rattle.policy.specs.Statements.{Reference, Constraint}
use Rattle.policy.specs.Maxima.{max_transitions, max_constraints, max_rows, max_relabels, max_relabel_rows}
use Rattle.policy.specs.Reading.{is_new, is_short, has_room, row_count}
use Rattle.policy.specs.Sound.{good_names, good_from}
use Rattle.policy.specs.Accepted.{StatementIn, Accepted}
use Rattle.policy.proofs.Lists.{both_true, gather_append, all_append}
use Rattle.policy.proofs.IfAny.{IfAny, nothing, just}
use Rattle.policy.proofs.RowCounts.{rows_last}
use Rattle.policy.proofs.Gathered.{all_map}
use Rattle.policy.proofs.Good as good
use Rattle.reading_laws.proofs.LaterDeclarations.{statement-grows}
use Rattle.reading_laws.proofs.JudgedGood.{Passes}

-- a declaration that has good names, is new and has room, after good ones
abbrev Declarable : List Declaration → Declaration → Type 0
Declarable ds d = (good_names d ≡ true) × (is_new ds d ≡ true) × (has_room ds d ≡ true)

good_more : (ds : List Declaration) (o : Option Declaration) → good_from [] ds ≡ true → IfAny (Declarable ds) o → good_from [] (ds ++ keep o []) ≡ true
good_more ds none h k = rw append-nil h
good_more ds (some d) h k = let g = k.has d refl in good.good_more ds d h (record { names = g.0; new = g.1; room = g.2 })

few-more : {B : Type 0} (n : ℕ) (xs : List B) (o : Option B) → length xs ≤ n → IfAny (λ _. length xs < n) o → length (xs ++ keep o []) ≤ n
few-more n xs none h k = rw append-nil h
few-more n xs (some b) h k = rw length-append (omega (arith, k.has b refl))

-- statements whose E is their body, with a number that they keep below, and a number that their rows do not pass
module _ {B : Type 0} (body : B → Constraint Reference) (n m : ℕ) where
  -- one more has room
  abbrev RoomFor : List B → B → Type 0
  RoomFor xs c = (length xs < n) × (row_count body xs + size (body c) ≤ m)

  rows_more : (xs : List B) (o : Option B) → length xs ≤ n → row_count body xs ≤ m → IfAny (RoomFor xs) o
      → (length (xs ++ keep o []) ≤ n) × (row_count body (xs ++ keep o []) ≤ m)
  rows_more xs none l h k = rw append-nil (l, h)
  rows_more xs (some c) l h k = (few-more n xs (some c) l (just (k.has c refl).0), rw (rows_last body xs c) (k.has c refl).1)

  room_for : (xs : List B) (c : B) → (ltb (length xs) n && leb (row_count body xs + size (body c)) m) ≡ true → IfAny (RoomFor xs) (some c)
  room_for xs c h = let b = both_true _ _ h in just (ltb-true (length xs) n b.0, leb-true (row_count body xs + size (body c)) m b.1)

module _ (p : Policy) (l : Line) where
  gathered : {B : Type 0} (f : Line → Option B) → gather f (p ++ (l ∷ [])) ≡ gather f p ++ keep (f l) []
  unfolding gather
  gathered f = gather_append f p (l ∷ [])

  declarations-more : declarations (p ++ (l ∷ [])) ≡ declarations p ++ keep (declared l) []
  unfolding declarations
  declarations-more = gathered declared

  transitions-more : transitions (p ++ (l ∷ [])) ≡ transitions p ++ keep (transition l) []
  unfolding transitions
  transitions-more = gathered transition

  constrains-more : constrains (p ++ (l ∷ [])) ≡ constrains p ++ keep (constrained l) []
  unfolding constrains
  constrains-more = gathered constrained

  relabels-more : relabels (p ++ (l ∷ [])) ≡ relabels p ++ keep (relabelled l) []
  unfolding relabels
  relabels-more = gathered relabelled

  grows : (k : Line) → StatementIn (declarations p) k.says → StatementIn (declarations p ++ keep (declared l) []) k.says
  grows k h = statement-grows (declarations p) (keep (declared l) []) k.says h

  accepted-more : Accepted p → StatementIn (declarations p) l.says → IfAny (Declarable (declarations p)) (declared l)
      → IfAny (λ _. length (transitions p) < max_transitions) (transition l)
      → IfAny (RoomFor constrain_body max_constraints max_rows (constrains p)) (constrained l)
      → IfAny (RoomFor relabel_body max_relabels max_relabel_rows (relabels p)) (relabelled l) → Accepted (p ++ (l ∷ []))
  accepted-more a inside good few-t few-c few-r =
      let c = rows_more constrain_body max_constraints max_rows (constrains p) (constrained l) a.few-constrains a.few-rows few-c in
      let r = rows_more relabel_body max_relabels max_relabel_rows (relabels p) (relabelled l) a.few-relabels a.few-relabel-rows few-r in
      record {
        names = rw declarations-more (good_more (declarations p) (declared l) a.names good);
        statements = rw declarations-more (all_append _ p (l ∷ []) (all_map _ _ grows p a.statements) (grows l inside, tt));
        few-transitions = rw transitions-more (few-more max_transitions (transitions p) (transition l) a.few-transitions few-t);
        few-constrains = rw constrains-more c.0;
        few-rows = rw constrains-more c.1;
        few-relabels = rw relabels-more r.0;
        few-relabel-rows = rw relabels-more r.1;
      }

-- a statement that passes keeps what is accepted so far
pub one_more : (p : Policy) (at : ℕ) (s : Statement) → Accepted p → Passes p s → Accepted (p ++ (record { place = at; says = s } ∷ []))
one_more p at (declare d) a h =
    let g = h.declares.has d refl in
    accepted-more p _ a tt (just (g.0, g.1, (both_true (has_room (declarations p) d) (is_short d) h.room).0)) nothing nothing nothing
one_more p at (attributeset f b s) a h = accepted-more p _ a h.inside nothing nothing nothing nothing
one_more p at (gives k x y) a h = accepted-more p _ a h.inside nothing nothing nothing nothing
one_more p at (roletransition r t c n) a h =
    accepted-more p _ a h.inside nothing (just (ltb-true (length (transitions p)) max_transitions h.room)) nothing nothing
one_more p at (constrain c ps e) a h =
    accepted-more p _ a h.inside nothing nothing (room_for constrain_body max_constraints max_rows (constrains p) _ h.room) nothing
one_more p at (validatetrans c e) a h =
    accepted-more p _ a h.inside nothing nothing nothing (room_for relabel_body max_relabels max_relabel_rows (relabels p) _ h.room)
