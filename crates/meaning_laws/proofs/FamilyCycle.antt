-- The first place of a family whose attribute is on a cycle is that of the family's lowest-numbered attribute on a cycle; there is none
-- exactly where the family has no cycle. By the laws of every such search, proofs/FirstOf. Assumes nothing.
use Prim.Native.Nat.{ℕ, ◌+◌, ◌<◌}
use native.Mathlib.Omega.{arith}
use mathlib.Core.Path.{◌≡◌, refl, sym, ap, ◌∙◌, subst}
use mathlib.Core.Logic.{◌⊎◌, inl, inr}
use mathlib.Core.Bool.{Bool, true, false, cond, true≢false}
use mathlib.Core.List.{List, [], ◌∷◌, ◌++◌}
use mathlib.Core.Option.{none, some}
use lib.ListN.{length, length-append}
use Rattle.policy.specs.Statements.{Family, Policy}
use Rattle.policy.specs.Faults.{attributes_in, on_cycle, places, first_cycle, family_cycle}
use Rattle.policy.specs.Accepted.{Accepted}
use Rattle.meaning_laws.specs.Mentions.{Mentions, DeclaredAt}
use Rattle.meaning_laws.proofs.ListLaws.{decided, chosen}
use Rattle.meaning_laws.proofs.FirstOf.{first_of, first-exactly, none-exactly, cut_at}
use Rattle.meaning_laws.proofs.DirectMention.{mentions-declared}
use Rattle.meaning_laws.proofs.Reachability.{on-cycle-exactly}
use Rattle.meaning_laws.proofs.AttributePlaces.{as_many, place-declared, declared-place}

module _ (p : Policy) (f : Family) (ok : Accepted p) where
  -- a place is bad if the attribute with as many before it is on a cycle
  bad : List ℕ → ℕ → Bool
  bad before at = on_cycle p f (length before)

  searched : (ats done : List ℕ) → first_cycle p f (length done) ats ≡ first_of bad (λ at. at) done ats
  unfolding first_cycle first_of bad
  searched [] done = refl
  searched (x ∷ ats) done =
      chosen (on_cycle p f (length done)) (some x) (first_cycle p f (length done + 1) ats)
      ∙ ap (cond (on_cycle p f (length done)) (some x))
      (ap (λ (n : ℕ). first_cycle p f n ats) (sym (length-append done (x ∷ []))) ∙ searched ats (done ++ (x ∷ [])))

  -- no attribute of the family is on a cycle
  abbrev pub Acyclic : Type 0
  Acyclic = (a : ℕ) → ¬ Mentions p f a a

  -- the declaration at this place is that of the family's lowest-numbered attribute on a cycle
  pub record CycleIn (at : ℕ) : Type 0 where
    pub number : ℕ
    pub declared : DeclaredAt p f number at
    pub on-cycle : Mentions p f number number
    pub lowest : (b : ℕ) → b < number → ¬ Mentions p f b b

  unmentioned : (a : ℕ) → on_cycle p f a ≡ false → ¬ Mentions p f a a
  unmentioned a e m = true≢false (sym ((on-cycle-exactly p f ok a).1 m) ∙ e)

  pub off-cycle : (a : ℕ) → ¬ Mentions p f a a → on_cycle p f a ≡ false
  off-cycle a h = by (decided (on_cycle p f a))
    where
      by : (on_cycle p f a ≡ true) ⊎ (on_cycle p f a ≡ false) → on_cycle p f a ≡ false
      by (inl e) = absurd (h ((on-cycle-exactly p f ok a).0 e))
      by (inr e) = e

  -- none of the first places is bad, so none of the attributes with these numbers is on a cycle
  none_below : (l : List ℕ) → ((before : List ℕ) (x : ℕ) (after : List ℕ) → l ≡ before ++ (x ∷ after) → bad before x ≡ false)
      → (b : ℕ) → b < length l → ¬ Mentions p f b b
  unfolding bad
  none_below l h b k =
      let r = cut_at l b k in
      unmentioned b (subst (λ (n : ℕ). on_cycle p f n ≡ false) r.4 (h r.0 r.1 r.2 r.3))

  pub none-acyclic : family_cycle p f ≡ none → Acyclic
  unfolding attributes_in
  none-acyclic h a m =
      none_below (places p f) ((none-exactly bad (λ at. at) (places p f)).0 (sym (searched (places p f) []) ∙ h)) a
      (omega (arith, as_many p f, (mentions-declared p f ok m).0)) m

  pub acyclic-none : Acyclic → family_cycle p f ≡ none
  unfolding bad
  acyclic-none h = searched (places p f) [] ∙ (none-exactly bad (λ at. at) (places p f)).1 (λ before x after e. off-cycle (length before) (h (length before)))

  pub some-cycle : (at : ℕ) → family_cycle p f ≡ some at → CycleIn at
  unfolding bad
  some-cycle at h =
      let r = (first-exactly bad (λ at. at) (places p f) at).0 (sym (searched (places p f) []) ∙ h) in
      record {
        number = length r.before;
        declared = place-declared p f r.before at r.after (r.split ∙ ap (λ (x : ℕ). r.before ++ (x ∷ r.after)) r.placed);
        on-cycle = (on-cycle-exactly p f ok (length r.before)).0 r.is-bad;
        lowest = none_below r.before r.free;
      }

  pub cycle-some : (at : ℕ) → CycleIn at → family_cycle p f ≡ some at
  unfolding bad
  cycle-some at c =
      let d = declared-place p f c.number at c.declared in
      searched (places p f) [] ∙ (first-exactly bad (λ at. at) (places p f) at).1 (record {
        before = d.0;
        here = at;
        after = d.1;
        split = d.2;
        placed = refl;
        is-bad = rw d.3 ((on-cycle-exactly p f ok c.number).1 c.on-cycle);
        free = λ before x after e. off-cycle (length before) (c.lowest (length before)
            (omega (arith, d.3, ap {B = ℕ} length e, length-append before (x ∷ after))));
      })
