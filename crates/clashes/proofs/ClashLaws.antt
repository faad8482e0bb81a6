-- Fault 9 on the code: the test of two transitions by their operands is the rules' own, and a pass over the code looks for the first transition
-- that clashes with an earlier one. Assumes nothing.
use Prim.Native.Nat.{ℕ, ◌+◌, ◌<◌, ◌≤◌}
use native.Mathlib.Omega.{arith}
use mathlib.Core.Path.{◌≡◌, refl, sym, ap, ap₂, ◌∙◌, subst}
use mathlib.Core.Logic.{◌⊎◌, inl, inr}
use mathlib.Core.Bool.{Bool, true, false, not, ◌&&◌, ◌||◌, cond}
use mathlib.Core.List.{List, [], ◌∷◌, ◌++◌}
use mathlib.Core.Option.{Option, none, some}
use lib.Dec.{eqb}
use lib.ListN.{length, get_or, take, drop}
use lib.Seq.{take_at}
use Rattle.bitset.specs.Relations.{relation}
use Rattle.policy.specs.Basics.{any, gather, keep}
use Rattle.policy.specs.Statements.{Family, roles, types, Reference, Policy, declarations, Transition, transitions}
use Rattle.policy.specs.Meaning.{count_in, final, stands}
use Rattle.bitset.specs.Sets.{meet}
use Rattle.policy.specs.Faults.{clashes, first_clash}
use Rattle.policy.specs.Accepted.{ReferenceIn, Accepted}
use Rattle.policy.proofs.Lists.{any_append, gather_append, gather-over, gather-last}
use Rattle.statement_code.specs.Code.{reference_unit, transition_tag, code_of}
use Rattle.set_code.specs.Evaluation.{value_of}
use Rattle.set_code.proofs.Places.{here}
use Rattle.meaning_laws.proofs.ListLaws.{decided, chosen}
use Rattle.meaning_laws.proofs.WithinDeclared.{stands-within}
use Rattle.meaning_laws.proofs.GatherLaws.{CutAt, cut-gathered}
use Rattle.clashes.specs.Clashes.{shares_of, clashes_of, Codes, Segment}
use Rattle.code_reader.specs.declared.CodedTransition.{CodedTransition}
use Rattle.code_reader.specs.Reading.{step_of}
use Rattle.code_reader.proofs.Items.{Item, moves, stands_at, units_of, items_code, item_of, items, code_items, ItemIn, move_in, transitions-items, tag-moves, tag-no-move}
use Rattle.code_reader.proofs.Numbers.{few-things}
use Rattle.code_reader.proofs.RowLaws.{value-stands}
use Rattle.clashes.proofs.SegmentLaws.{part-declared, segment-left, code-append}
use Rattle.clashes.proofs.MeetLaws.{meet-ext, meet-bounded, meets-set_of}
use Rattle.code_reader.proofs.Passes as passes
use Rattle.code_reader.proofs.Passes.{Through, begin, Met, onward}

-- ---- two transitions

module _ (p : Policy) (ok : Accepted p) where
  module _ (f : Family) (rows : List ℕ) (h : rows ≡ relation 64 64 (final p f)) where
    stands-not : (r : Reference) → ReferenceIn (declarations p) f r → (n : ℕ) → count_in p f ≤ n → stands p f r n ≡ false
    stands-not r d n l = by (decided (stands p f r n))
      where
        by : (stands p f r n ≡ true) ⊎ (stands p f r n ≡ false) → stands p f r n ≡ false
        by (inl e) = absurd (omega (arith, l, stands-within p ok f r n d e))
        by (inr e) = e

    shares-meet : (x y : Reference) → ReferenceIn (declarations p) f x → ReferenceIn (declarations p) f y
        → shares_of rows (reference_unit x) (reference_unit y) ≡ meet (count_in p f) (stands p f x) (stands p f y)
    unfolding shares_of count_in
    shares-meet x y dx dy =
        meets-set_of 64 (value_of rows (reference_unit x)) (value_of rows (reference_unit y))
        ∙ meet-ext 512 (value_of rows (reference_unit x)) (value_of rows (reference_unit y)) (stands p f x) (stands p f y) (value-stands p ok f rows h x dx)
        (value-stands p ok f rows h y dy)
        ∙ meet-bounded (count_in p f) 512 (stands p f x) (stands p f y) (few-things p ok f) (λ k l m. stands-not x dx k l)

  pub clash-same : (rs ts : List ℕ) → rs ≡ relation 64 64 (final p roles) → ts ≡ relation 64 64 (final p types)
      → (t u : Transition) (a b : CodedTransition) → Codes p t a → Codes p u b → clashes_of rs ts a b ≡ clashes p t u
  unfolding clashes_of clashes
  clash-same rs ts hr ht t u a b x y =
      rw (x.role, x.type, x.class, x.new, y.role, y.type, y.class, y.new)
      (ap₂ (λ (r s : Bool). (eqb t.class u.class && not (eqb t.new u.new) && r) && s)
      (shares-meet roles rs hr t.role u.role x.roles-declared y.roles-declared)
      (shares-meet types ts ht t.type u.type x.types-declared y.types-declared))

-- ---- a transition in the code

-- what is read at a place
abbrev pub Reads : List ℕ → ℕ → CodedTransition → Type 0
Reads code at m = (m.roles ≡ get_or code (at + 2) 0) × (m.types ≡ get_or code (at + 3) 0) × (m.class ≡ get_or code (at + 4) 0) × (m.new ≡ get_or code (at + 5) 0)

codes-here : (p : Policy) (code : List ℕ) (at : ℕ) (t : Transition) (rest : List ℕ) (m : CodedTransition) → ItemIn (declarations p) (moves t)
    → drop (at + 2) code ≡ units_of (moves t) ++ rest → Reads code at m → Codes p t m
codes-here p code at t rest m d q r =
    let a = here code (at + 2) (reference_unit t.role) (reference_unit t.type ∷ t.class ∷ t.new ∷ rest) q in
    let b = here code (at + 2 + 1) (reference_unit t.type) (t.class ∷ t.new ∷ rest) a.tail in
    let c = here code (at + 2 + 1 + 1) t.class (t.new ∷ rest) b.tail in
    let e = here code (at + 2 + 1 + 1 + 1) t.new rest c.tail in
    let three : at + 3 ≡ at + 2 + 1 = omega arith in
    let four : at + 4 ≡ at + 2 + 1 + 1 = omega arith in
    let five : at + 5 ≡ at + 2 + 1 + 1 + 1 = omega arith in
    record {
      role = r.0 ∙ a.unit;
      type = r.1 ∙ ap (λ (k : ℕ). get_or code k 0) three ∙ b.unit;
      class = r.2 ∙ ap (λ (k : ℕ). get_or code k 0) four ∙ c.unit;
      new = r.3 ∙ ap (λ (k : ℕ). get_or code k 0) five ∙ e.unit;
      roles-declared = d.0;
      types-declared = d.1;
    }

-- a transition is at the place that is met
pub record Moved (p : Policy) (code : List ℕ) (at : ℕ) (i : Item) : Type 0 where
  pub the : Transition
  pub is : i ≡ moves the
  pub codes : (m : CodedTransition) → Reads code at m → Codes p the m

moved : (p : Policy) (is : List Item) (code : List ℕ) (at : ℕ) (S : List Item → List Item → Type 0) (m : Met p is code at S) → get_or code at 0 ≡ transition_tag
    → Moved p code at m.item
moved p is code at S m h = go (tag-moves m.item (sym m.stand.tag ∙ h))
  where
    go : (t : Transition) × (m.item ≡ moves t) → Moved p code at m.item
    go (t, e) = record {
      the = t;
      is = e;
      codes =
          λ v r. codes-here p code at t (items_code m.rest) v (subst (ItemIn (declarations p)) e m.declared)
          (m.stand.units ∙ ap (λ i. units_of i ++ items_code m.rest) e) r;
    }

any_last : {A : Type 0} (c : A → Bool) (xs ys : List A) (x : A) → any c xs ≡ false → any c (xs ++ (x ∷ ys)) ≡ (c x || any c ys)
unfolding any
any_last c xs ys x h = any_append c xs (x ∷ ys) ∙ ap (λ (b : Bool). b || (c x || any c ys)) h

-- ---- whether a transition clashes with one of the earlier statements

-- none of the items done clashes with t
abbrev pub Apart : Policy → Transition → List Item → List Item → Type 0
Apart p t done left = any (clashes p t) (gather move_in done) ≡ false

module _ (p : Policy) (ok : Accepted p) (part : Policy) (segment : Segment p part) (t : Transition) where
  pub earlier-start : (code : List ℕ) → code ≡ code_of part → Through (items part) code 0 (Apart p t)
  unfolding any gather
  earlier-start code h = begin (items part) code (Apart p t) (h ∙ code_items part) refl

  pub earlier-none : Apart p t (items part) [] → false ≡ any (clashes p t) (transitions part)
  earlier-none h = sym (ap (any (clashes p t)) (transitions-items part) ∙ h)

  module _ (code : List ℕ) (at : ℕ) (inside : at < length code) (at-loop : Through (items part) code at (Apart p t)) where
    met : Met p (items part) code at (Apart p t)
    met = passes.meet p ok (items part) (part-declared p ok part segment) code at (Apart p t) inside at-loop

    pub earlier-over : (next : ℕ) → next ≡ step_of code at → (get_or code at 0 ≡ transition_tag → ⊥) → Through (items part) code next (Apart p t)
    earlier-over next e h =
        onward p (items part) code at (Apart p t) (Apart p t) next e met
        (ap (any (clashes p t)) (gather-over move_in met.done met.item (tag-no-move met.item (λ q. h (met.stand.tag ∙ q)))) ∙ met.so_far)

    module _ (h : get_or code at 0 ≡ transition_tag) (rs ts : List ℕ) (hr : rs ≡ relation 64 64 (final p roles)) (ht : ts ≡ relation 64 64 (final p types))
        (later here : CodedTransition) (codes : Codes p t later) (reads : Reads code at here) where
      it : Moved p code at met.item
      it = moved p (items part) code at (Apart p t) met h

      tested : clashes_of rs ts later here ≡ clashes p t it.the
      tested = clash-same p ok rs ts hr ht t it.the later here codes (it.codes here reads)

      pub earlier-found : clashes_of rs ts later here ≡ true → true ≡ any (clashes p t) (transitions part)
      unfolding gather any
      earlier-found e = sym (
          ap (any (clashes p t)) (transitions-items part ∙ ap (gather move_in) met.whole ∙ gather_append move_in met.done (met.item ∷ met.rest)
          ∙ ap (λ i. gather move_in met.done ++ keep (move_in i) (gather move_in met.rest)) it.is)
          ∙ any_last (clashes p t) (gather move_in met.done) (gather move_in met.rest) it.the met.so_far
          ∙ ap (λ (b : Bool). b || any (clashes p t) (gather move_in met.rest)) (sym tested ∙ e))

      pub earlier_on : (next : ℕ) → next ≡ step_of code at → clashes_of rs ts later here ≡ false → Through (items part) code next (Apart p t)
      unfolding any
      earlier_on next n e =
          onward p (items part) code at (Apart p t) (Apart p t) next n met
          (ap (any (clashes p t)) (gather-last move_in met.done met.item it.the (ap move_in it.is))
          ∙ any_last (clashes p t) (gather move_in met.done) [] it.the met.so_far ∙ ap (λ (b : Bool). b || false) (sym tested ∙ e))

-- ---- the first transition that clashes with an earlier one

-- the answer is still to be found among the items left
abbrev pub Looks : Policy → Policy → List Item → List Item → Type 0
Looks p part done left = first_clash p (gather move_in done) (gather move_in left) ≡ first_clash p [] (transitions part)

-- what `clashes_earlier` answers of the first statements
abbrev pub Earlier : List ℕ → CodedTransition → List ℕ → List ℕ → Bool → Type 0
Earlier code m rs ts r = (p part : Policy) (t : Transition) → Accepted p → Segment p part → code ≡ code_of part → Codes p t m
    → rs ≡ relation 64 64 (final p roles) → ts ≡ relation 64 64 (final p types) → r ≡ any (clashes p t) (transitions part)

module _ (p : Policy) (ok : Accepted p) (part : Policy) (segment : Segment p part) where
  pub looks-first : Looks p part [] (items part)
  unfolding gather
  looks-first = ap (first_clash p []) (sym (transitions-items part))

  pub looks-none : Looks p part (items part) [] → none ≡ first_clash p [] (transitions part)
  unfolding gather first_clash
  looks-none h = h

  module _ (code : List ℕ) (q : code ≡ code_of part) (at : ℕ) (inside : at < length code) (at-loop : Through (items part) code at (Looks p part)) where
    met-here : Met p (items part) code at (Looks p part)
    met-here = passes.meet p ok (items part) (part-declared p ok part segment) code at (Looks p part) inside at-loop

    pub looks-over : (next : ℕ) → next ≡ step_of code at → (get_or code at 0 ≡ transition_tag → ⊥) → Through (items part) code next (Looks p part)
    unfolding gather
    looks-over next e h =
        let none_here = tag-no-move met-here.item (λ w. h (met-here.stand.tag ∙ w)) in
        onward p (items part) code at (Looks p part) (Looks p part) next e met-here
        (ap₂ (λ (xs ys : List Transition). first_clash p xs ys) (gather-over move_in met-here.done met-here.item none_here)
        (ap (λ o. keep o (gather move_in met-here.rest)) (sym none_here))
        ∙ met-here.so_far)

    module _ (h : get_or code at 0 ≡ transition_tag) (rs ts : List ℕ) (hr : rs ≡ relation 64 64 (final p roles)) (ht : ts ≡ relation 64 64 (final p types))
        (m : CodedTransition) (reads : Reads code at m) (r : Bool) (told : Earlier (take at code) m rs ts r) where
      it-is : Moved p code at met-here.item
      it-is = moved p (items part) code at (Looks p part) met-here h

      -- the lines before this one
      cut : CutAt item_of part met-here.done (moves it-is.the)
      unfolding items
      cut = cut-gathered item_of part met-here.done (moves it-is.the) met-here.rest (met-here.whole ∙ ap (λ i. met-here.done ++ (i ∷ met-here.rest)) it-is.is)

      earlier-code : take at code ≡ code_of cut.before
      unfolding items
      earlier-code =
          ap (take at) (q ∙ code_items part ∙ ap items_code met-here.whole ∙ code-append met-here.done (met-here.item ∷ met-here.rest))
          ∙ take_at (items_code met-here.done) (items_code (met-here.item ∷ met-here.rest)) at (sym met-here.reached)
          ∙ sym (code_items cut.before ∙ ap items_code cut.earlier)

      answered : r ≡ any (clashes p it-is.the) (gather move_in met-here.done)
      unfolding items
      answered =
          told p cut.before it-is.the ok (segment-left p cut.before (cut.here ∷ cut.after) (subst (Segment p) cut.whole segment)) earlier-code
          (it-is.codes m reads) hr ht
          ∙ ap (any (clashes p it-is.the)) (transitions-items cut.before ∙ ap (gather move_in) cut.earlier)

      chosen-here : cond r (some it-is.the.place) (first_clash p (gather move_in met-here.done ++ (it-is.the ∷ [])) (gather move_in met-here.rest)) ≡
          first_clash p [] (transitions part)
      unfolding first_clash gather
      chosen-here =
          ap (λ (b : Bool). cond b (some it-is.the.place) (first_clash p (gather move_in met-here.done ++ (it-is.the ∷ [])) (gather move_in met-here.rest))) answered
          ∙ sym (chosen (any (clashes p it-is.the) (gather move_in met-here.done)) (some it-is.the.place)
          (first_clash p (gather move_in met-here.done ++ (it-is.the ∷ [])) (gather move_in met-here.rest)))
          ∙ ap (λ i. first_clash p (gather move_in met-here.done) (keep (move_in i) (gather move_in met-here.rest))) (sym it-is.is)
          ∙ met-here.so_far

      pub clash-found : r ≡ true → some (get_or code (at + 1) 0) ≡ first_clash p [] (transitions part)
      clash-found e =
          ap {B = Option ℕ} some (met-here.stand.place ∙ ap stands_at it-is.is)
          ∙ ap (λ (b : Bool). cond b (some it-is.the.place) (first_clash p (gather move_in met-here.done ++ (it-is.the ∷ [])) (gather move_in met-here.rest))) (sym e)
          ∙ chosen-here

      pub looks_on : (next : ℕ) → next ≡ step_of code at → r ≡ false → Through (items part) code next (Looks p part)
      looks_on next n e =
          onward p (items part) code at (Looks p part) (Looks p part) next n met-here
          (ap (λ (xs : List Transition). first_clash p xs (gather move_in met-here.rest))
          (gather-last move_in met-here.done met-here.item it-is.the (ap move_in it-is.is))
          ∙ ap (λ (b : Bool). cond b (some it-is.the.place) (first_clash p (gather move_in met-here.done ++ (it-is.the ∷ [])) (gather move_in met-here.rest))) (sym e)
          ∙ chosen-here)
