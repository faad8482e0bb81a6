-- Fault 9 is given exactly where two transitions clash, at the first statement that clashes with an earlier one. By the laws of every such
-- search, proofs/FirstOf. Assumes nothing.
use Prim.Native.Nat.{ℕ}
use mathlib.Core.Path.{◌≡◌, refl, sym, ap, ◌∙◌, subst}
use mathlib.Core.Logic.{◌⊎◌, inl, inr, ◌↔◌}
use mathlib.Core.Bool.{true, false, cond, true≢false}
use mathlib.Core.List.{[], ◌∷◌, ◌++◌}
use mathlib.Core.Option.{Option, none, some}
use Rattle.policy.specs.Basics.{any, gather, keep, All}
use Rattle.policy.specs.Statements.{Line, Policy, declarations, Transition, transition, transitions}
use Rattle.policy.specs.Faults.{clashes, first_clash, clash}
use Rattle.policy.specs.Accepted.{StatementIn, Accepted}
use Rattle.policy.proofs.Lists.{gather-over, gather-last, all_left, all_right}
use Rattle.policy.proofs.ByKind.{transition-says}
use Rattle.meaning_laws.specs.Clashes.{ClashFree, ClashAt}
use Rattle.meaning_laws.proofs.ListLaws.{decided, chosen}
use Rattle.meaning_laws.proofs.FirstOf.{first_of, Free, first-exactly, none-exactly}
use Rattle.meaning_laws.proofs.ClashTest.{says, clashes_after, line-exactly}

module _ (p : Policy) (ok : Accepted p) where
  -- the search over the transitions is the search over the lines
  one_line : (done : Policy) (l : Line) (left : Policy) → first_clash p (gather transition done) (gather transition (l ∷ left))
      ≡ cond (clashes_after p done l) (some l.place) (first_clash p (gather transition (done ++ (l ∷ []))) (gather transition left))
  unfolding clashes_after gather first_clash
  one_line done l left = by (transition l) refl
    where
      by : (o : Option Transition) → transition l ≡ o → first_clash p (gather transition done) (keep o (gather transition left))
          ≡ cond (says (λ t. any (clashes p t) (gather transition done)) o) (some l.place)
          (first_clash p (gather transition (done ++ (l ∷ []))) (gather transition left))
      by none e = rw (gather-over transition done l e)
      by (some t) e = rw (gather-last transition done l t e, ← ((transition-says l.place l.says).has t e).1)
          (chosen (any (clashes p t) (gather transition done)) (some t.place) (first_clash p (gather transition done ++ (t ∷ [])) (gather transition left)))

  searched : (left done : Policy) → first_clash p (gather transition done) (gather transition left) ≡ first_of (clashes_after p) (λ l. l.place) done left
  unfolding first_of gather first_clash
  searched [] done = refl
  searched (x ∷ left) done = one_line done x left ∙ ap (cond (clashes_after p done x) (some x.place)) (searched left (done ++ (x ∷ [])))

  clash-is : clash p ≡ first_of (clashes_after p) (λ l. l.place) [] p
  unfolding clash transitions gather
  clash-is = searched p []

  -- the same in plain statements, of lines that name only what is declared
  abbrev In : Line → Type 0
  In l = StatementIn (declarations p) l.says

  line-in : (lines before : Policy) (l : Line) (after : Policy) → All In lines → lines ≡ before ++ (l ∷ after) → In l
  line-in lines before l after h e = (all_right In before (l ∷ after) (subst (All In) e h)).0

  free-plain : (lines : Policy) → All In lines → Free (clashes_after p) (λ l. l.place) lines → ClashFree p lines
  free-plain lines d h before l after e s = true≢false (sym ((line-exactly p ok l (line-in lines before l after d e) before).0 s) ∙ h before l after e)

  plain-free : (lines : Policy) → All In lines → ClashFree p lines → Free (clashes_after p) (λ l. l.place) lines
  plain-free lines d h before l after e = by (decided (clashes_after p before l))
    where
      by : (clashes_after p before l ≡ true) ⊎ (clashes_after p before l ≡ false) → clashes_after p before l ≡ false
      by (inl q) = absurd (h before l after e ((line-exactly p ok l (line-in lines before l after d e) before).1 q))
      by (inr q) = q

  before-in : (before : Policy) (l : Line) (after : Policy) → p ≡ before ++ (l ∷ after) → All In before
  before-in before l after e = all_left In before (l ∷ after) (subst (All In) e ok.statements)

  -- FAULT 9'S PLACE is the one that document 01 names
  pub clash-at-exactly : (at : ℕ) → (clash p ≡ some at) ↔ ClashAt p at
  clash-at-exactly at = (there, back)
    where
      there : clash p ≡ some at → ClashAt p at
      there h =
          let r = (first-exactly (clashes_after p) (λ l. l.place) p at).0 (sym clash-is ∙ h) in
          record {
            before = r.before;
            line = r.here;
            after = r.after;
            text = r.split;
            place = r.placed;
            clashes = (line-exactly p ok r.here (line-in p r.before r.here r.after ok.statements r.split) r.before).1 r.is-bad;
            first = free-plain r.before (before-in r.before r.here r.after r.split) r.free;
          }

      back : ClashAt p at → clash p ≡ some at
      back c = clash-is ∙ (first-exactly (clashes_after p) (λ l. l.place) p at).1 (record {
        before = c.before;
        here = c.line;
        after = c.after;
        split = c.text;
        placed = c.place;
        is-bad = (line-exactly p ok c.line (line-in p c.before c.line c.after ok.statements c.text) c.before).0 c.clashes;
        free = plain-free c.before (before-in c.before c.line c.after c.text) c.first;
      })

  -- NO FAULT 9 exactly where no statement clashes with an earlier one
  pub no-clash-exactly : (clash p ≡ none) ↔ ClashFree p p
  no-clash-exactly = (
    λ h. free-plain p ok.statements ((none-exactly (clashes_after p) (λ l. l.place) p).0 (sym clash-is ∙ h)),
    λ h. clash-is ∙ (none-exactly (clashes_after p) (λ l. l.place) p).1 (plain-free p ok.statements h),
  )
