-- The names of each sort counted in one walk by `next_entry`. Assumes nothing.
use Prim.Native.Nat.{ℕ, zero, suc, ◌+◌, ◌<◌, ◌≤◌}
use native.Mathlib.Omega.{arith}
use native.Mathlib.Nat.{add-zero, zero-add}
use native.Mathlib.Decide.{ℕ_discrete}
use mathlib.Core.Path.{◌≡◌, refl, sym, ap, ap₂, ◌∙◌, subst}
use mathlib.Core.List.{List, []}
use lib.ListN.{length, get_or, set, replicate, length-set}
use lib.Seq.{get_or-set_same, get_or-set_other}
use borrow.Author.Tests.{eq-eqb}
use Rattle.policy.specs.Encode.{NameEntry}
use Rattle.symbols.specs.Section.{entries_at, EntryIs}
use Rattle.symbols.specs.declared.Entry.{Entry}
use Rattle.symbols.specs.Lookup.{count_sort}
use Rattle.symbols.proofs.FindLaws.{ahead}
use Rattle.symbols.proofs.CountLaws.{count-passes}
use Rattle.table_names.specs.TableNames.{names_start, names_end, count_in, Tallied}

-- the counts at a place of the walk: those counted and those that are left are all; and none is above the place
pub record Tally (t : List ℕ) (end at : ℕ) (c : List ℕ) : Type 0 where
  pub eight : length c ≡ 8
  pub low : (s : ℕ) → get_or c s 0 ≤ at
  pub so_far : (s : ℕ) → s < 8 → get_or c s 0 + count_sort s (entries_at t at end) ≡ count_in t s

module _ (t : List ℕ) (end : ℕ) where
  pub tally-begins : (at : ℕ) (c : List ℕ) → c ≡ replicate 8 0 → at ≡ names_start t → end ≡ names_end t → Tally t end at c
  tally-begins at c z b e = record {
    eight = ap length z;
    low = λ s. omega (arith, none s);
    so_far = λ s h. rw (none s, b, e) (zero-add (count_in t s));
  }
    where
      zeros : (n s : ℕ) → ◌≡◌ {A = ℕ} (get_or (replicate n 0) s 0) 0
      zeros zero s = refl
      zeros (suc n) zero = refl
      zeros (suc n) (suc s) = zeros n s

      none : (s : ℕ) → get_or c s 0 ≡ 0
      none s = ap (λ (l : List ℕ). get_or l s 0) z ∙ zeros 8 s

  module _ (at : ℕ) (c : List ℕ) (w : Tally t end at c) where
    -- where no entry stands, all are counted
    pub tally-ends : entries_at t at end ≡ [] → Tallied t c
    unfolding count_sort
    tally-ends e = record {
      of-sort = λ s h. sym (add-zero (get_or c s 0)) ∙ sym (ap (λ (l : List NameEntry). get_or c s 0 + count_sort s l) e) ∙ w.so_far s h;
    }

    module _ (x n past : ℕ) (h : EntryIs t at end (Entry.Named x n past)) where
      one_more : count_sort x (entries_at t at end) ≡ 1 + count_sort x (entries_at t past end)
      unfolding count_sort
      one_more = ap (count_sort x) (ahead h) ∙ rw (eq-eqb x x refl)

      -- a sort that is none
      pub tally-passes : 8 ≤ x → Tally t end past c
      tally-passes f = record {
        eight = w.eight;
        low = λ s. omega (arith, w.low s, h.within);
        so_far = λ s l. ap (λ (k : ℕ). get_or c s 0 + k) (count-passes h s (λ e. omega arith)) ∙ w.so_far s l;
      }

      pub tally-counts : x < 8 → Tally t end past (set c x (get_or c x 0 + 1))
      tally-counts f = record {
        eight = length-set c x (get_or c x 0 + 1) ∙ w.eight;
        low = λ s. at_most s (ℕ_discrete x s);
        so_far = λ s l. all s l (ℕ_discrete x s);
      }
        where
          here : get_or (set c x (get_or c x 0 + 1)) x 0 ≡ get_or c x 0 + 1
          here = get_or-set_same c x (get_or c x 0 + 1) 0 (omega (arith, w.eight))

          at_most : (s : ℕ) → Dec (x ≡ s) → get_or (set c x (get_or c x 0 + 1)) s 0 ≤ past
          at_most s (yes e) = subst (λ (k : ℕ). get_or (set c x (get_or c x 0 + 1)) k 0 ≤ past) e (omega (arith, here, w.low x, h.within))
          at_most s (no d) = omega (arith, get_or-set_other c x s (get_or c x 0 + 1) 0 (λ e. d (sym e)), w.low s, h.within)

          all : (s : ℕ) → s < 8 → Dec (x ≡ s) → get_or (set c x (get_or c x 0 + 1)) s 0 + count_sort s (entries_at t past end) ≡ count_in t s
          all s l (yes e) =
              subst (λ (k : ℕ). get_or (set c x (get_or c x 0 + 1)) k 0 + count_sort k (entries_at t past end) ≡ count_in t k) e
              (omega (arith, here, one_more, w.so_far x f))
          all s l (no d) =
              ap₂ ◌+◌ (get_or-set_other c x s (get_or c x 0 + 1) 0 (λ e. d (sym e))) (count-passes h s d) ∙ w.so_far s l
