-- Lines of a policy that are one after the other, and a pass that leaves out those before the first transition. Assumes nothing.
use Prim.Native.Nat.{ℕ, ◌<◌, ◌≤◌}
use mathlib.Core.Path.{◌≡◌, refl, sym, ap, ap₂, ◌∙◌, subst}
use mathlib.Core.List.{List, [], ◌∷◌, ◌++◌, append_assoc, append-nil}
use lib.ListN.{length, get_or, drop}
use lib.Seq.{drop_at}
use Rattle.policy.specs.Basics.{gather, All}
use Rattle.policy.specs.Statements.{Policy, declarations, Transition, transitions}
use Rattle.policy.specs.Accepted.{Accepted}
use Rattle.policy.proofs.Lists.{gather_append, gather-over, all_left, all_right}
use Rattle.statement_code.specs.Code.{transition_tag, code_of}
use Rattle.meaning_laws.proofs.GatherLaws.{cut-gathered}
use Rattle.clashes.specs.Clashes.{Segment, AllTransitions}
use Rattle.code_reader.specs.Reading.{step_of}
use Rattle.code_reader.proofs.Items.{Item, units_of, items_code, item_of, items, code_items, ItemIn, move_in, transitions-items, tag-no-move}
use Rattle.code_reader.proofs.Numbers.{items-declared}
use Rattle.code_reader.proofs.Passes.{Through, begin, Met, meet, onward, finish}

pub code-append : (is js : List Item) → items_code (is ++ js) ≡ items_code is ++ items_code js
unfolding items_code
code-append [] js = refl
code-append (i ∷ is) js = rw (code-append is js, append_assoc (units_of i) (items_code is) (items_code js))

codes-append : (a b : Policy) → code_of (a ++ b) ≡ code_of a ++ code_of b
unfolding items
codes-append a b =
    code_items (a ++ b) ∙ ap items_code (gather_append item_of a b) ∙ code-append (items a) (items b) ∙ sym (ap₂ ◌++◌ (code_items a) (code_items b))

-- ---- segments

pub part-declared : (p : Policy) → Accepted p → (part : Policy) → Segment p part → All (ItemIn (declarations p)) (items part)
unfolding items
part-declared p ok part s =
    all_left (ItemIn (declarations p)) (items part) (items s.after)
    (subst (All (ItemIn (declarations p))) (gather_append item_of part s.after)
    (all_right (ItemIn (declarations p)) (items s.before) (items (part ++ s.after))
    (subst (All (ItemIn (declarations p))) (ap items s.whole ∙ gather_append item_of s.before (part ++ s.after)) (items-declared p ok))))

-- the first lines of a segment
pub segment-left : (p a b : Policy) → Segment p (a ++ b) → Segment p a
segment-left p a b s = record { before = s.before; after = b ++ s.after; whole = s.whole ∙ ap (λ (l : Policy). s.before ++ l) (append_assoc a b s.after) }

-- the last lines of a policy
segment-last : (p a b : Policy) → p ≡ a ++ b → Segment p b
segment-last p a b e = record { before = a; after = []; whole = e ∙ ap (λ (l : Policy). a ++ l) (sym (append-nil b)) }

-- ---- the first transition

-- none of the items done is one
abbrev pub Still : List Item → List Item → Type 0
Still done left = gather move_in done ≡ []

module _ (p : Policy) (ok : Accepted p) (code : List ℕ) (q : code ≡ code_of p) where
  pub still-first : Through (items p) code 0 Still
  unfolding gather
  still-first = begin (items p) code Still (q ∙ code_items p) refl

  -- lines without transitions are left out
  left_out : (a b : Policy) → p ≡ a ++ b → transitions a ≡ [] → (at : ℕ) → at ≡ length (code_of a) → AllTransitions p (drop at code)
  unfolding transitions
  left_out a b e none at reached = record {
    part = b;
    segment = segment-last p a b e;
    all = sym (ap transitions e ∙ gather_append _ a b ∙ ap (λ (ts : List Transition). ts ++ transitions b) none);
    coded = ap (drop at) (q ∙ ap code_of e ∙ codes-append a b) ∙ drop_at (code_of a) (code_of b) at (sym reached);
  }

  pub still-none : (at : ℕ) → length code ≤ at → Through (items p) code at Still → AllTransitions p (drop (length code) code)
  still-none at l t = left_out p [] (sym (append-nil p)) (transitions-items p ∙ finish (items p) code at Still l t) (length code) (ap length q)

  module _ (at : ℕ) (inside : at < length code) (t : Through (items p) code at Still) where
    the-met : Met p (items p) code at Still
    the-met = meet p ok (items p) (items-declared p ok) code at Still inside t

    pub still-over : (next : ℕ) → next ≡ step_of code at → (get_or code at 0 ≡ transition_tag → ⊥) → Through (items p) code next Still
    still-over next e h =
        let m = the-met in
        onward p (items p) code at Still Still next e m (gather-over move_in m.done m.item (tag-no-move m.item (λ w. h (m.stand.tag ∙ w))) ∙ m.so_far)

    pub still-here : AllTransitions p (drop at code)
    unfolding items
    still-here =
        let m = the-met in
        let cut = cut-gathered item_of p m.done m.item m.rest m.whole in
        left_out cut.before (cut.here ∷ cut.after) cut.whole
        (transitions-items cut.before ∙ ap (gather move_in) cut.earlier ∙ m.so_far)
        at (m.reached ∙ ap length (sym (code_items cut.before ∙ ap items_code cut.earlier)))
