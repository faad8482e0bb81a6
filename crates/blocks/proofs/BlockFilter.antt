-- The filter of the blocks: the hash of a block, and what the filter says of those that were opened. Assumes nothing.
use mathlib.Core.Path.{◌≡◌, refl, sym, ap, subst, ◌∙◌}
use mathlib.Core.Logic.{◌⊎◌, inl, inr}
use mathlib.Core.Bool.{Bool, true, false}
use mathlib.Core.List.{List, [], ◌∷◌}
use Prim.Native.Nat.{ℕ, ◌+◌, ◌<◌, ◌≤◌}
use native.Mathlib.Numerals.{add-one}
use native.Mathlib.Omega.{arith}
use lib.Dec.{eqb}
use lib.ListN.{length, get_or, drop, drop_of_length-le}
use lib.Seq.{drop-cons}
use borrow.Author.Tests.{eqb-true}
use Rattle.policy.specs.Basics.{Name, same, any}
use Rattle.policy.proofs.Lists.{both_true, either_true, same-is}
use Rattle.bloom_filter.specs.Filter.{stepped, hash_from, hash_of, is_marked, marked}
use Rattle.bloom_filter.proofs.FilterLaws.{marked-long, covers-none, covers_more, unmarked}
use Rattle.blocks.specs.Opened.{Block, block_of, is_block, is_opened, CoversBlocks, Marks, Asks}

-- ---- the hash of the bytes of a name from the place i on, after those that made the hash h

module _ (w : Name) (i h : ℕ) where
  -- a byte is a step
  pub hash-next : i < length w → hash_from (drop i w) h ≡ hash_from (drop (i + 1) w) (stepped h (get_or w i 0))
  unfolding hash_from
  hash-next l = rw (drop-cons w i 0 l, add-one i)

  -- past the last byte the block around is one more step
  pub hash-end : (p : ℕ) → length w ≤ i → hash_from (drop i w) h ≡ hash_from w 0 → stepped h p ≡ hash_of p w
  unfolding hash_from hash_of
  hash-end p l e = ap (λ (k : ℕ). stepped k p) (sym (ap (λ (v : Name). hash_from v h) (drop_of_length-le w l)) ∙ e)

-- ---- the marks of a hash

-- a filter of no words is left as it is
pub no_words : {filter : List ℕ} {h : ℕ} → length filter ≡ 0 → Marks filter filter h true
no_words e = record { answers = λ l. absurd (omega arith); marks = λ l. absurd (omega arith); long = refl }

-- one of some words gets the marks
pub some_words : {filter filterAfter : List ℕ} {h k : ℕ} {r : Bool} → 0 < length filter → k ≡ h → r ≡ is_marked filter k → filterAfter ≡ marked filter k
    → Marks filter filterAfter h r
some_words {filter} {h = h} l e answer after = record {
  answers = λ z. answer ∙ ap (is_marked filter) e;
  marks = λ z. after ∙ ap (marked filter) e;
  long = ap length (after ∙ ap (marked filter) e) ∙ marked-long filter h l;
}

-- ---- the blocks that it covers

-- no blocks at first
pub covers-nothing : (filter : List ℕ) → 0 < length filter → CoversBlocks filter []
unfolding is_opened any
covers-nothing filter l = record { inside = λ p. covers-none filter p (λ w. is_opened p w []) l (λ w. refl) }

-- a block that is opened among blocks and one more is among them, or is that one
old-or-new : (q : ℕ) (v : Name) (p : ℕ) (w : Name) (bs : List Block) → is_opened p w (block_of q v ∷ bs) ≡ true
    → (is_opened p w bs ≡ true) ⊎ ((q ≡ p) × (w ≡ v))
unfolding is_opened any
old-or-new q v p w bs h = by (either_true (is_block p w (block_of q v)) (any (is_block p w) bs) h)
  where
    by : (is_block p w (block_of q v) ≡ true) ⊎ (any (is_block p w) bs ≡ true) → (any (is_block p w) bs ≡ true) ⊎ ((q ≡ p) × (w ≡ v))
    by (inl t) =
        let both = both_true (eqb q p) (same w v) t in
        inr (eqb-true q p both.0, same-is w v both.1)
    by (inr t) = inl t

-- then those whose marks are put into it
pub covers-another : (filter : List ℕ) (bs : List Block) (q : ℕ) (v : Name) → CoversBlocks filter bs
    → CoversBlocks (marked filter (hash_of q v)) (block_of q v ∷ bs)
covers-another filter bs q v c = record {
  inside = λ p. covers_more filter p (λ w. is_opened p w bs) (λ w. is_opened p w (block_of q v ∷ bs)) q v (c.inside p) (λ w. old-or-new q v p w bs);
}

-- ---- a block asked for, by its marks and by the walk

module _ {filter filterAfter : List ℕ} {bs : List Block} {p : ℕ} {w : Name} {shares : Bool} (m : Marks filter filterAfter (hash_of p w) shares) where
  -- either way its marks are in then
  covers-after : CoversBlocks filter bs → CoversBlocks filterAfter (block_of p w ∷ bs)
  covers-after c =
      subst (λ (f : List ℕ). CoversBlocks f (block_of p w ∷ bs)) (sym (m.marks (c.inside p).some_words)) (covers-another filter bs p w c)

  -- it lacks a mark, so it was not opened
  pub asked-filter : shares ≡ false → Asks filter filterAfter bs p w false
  asked-filter f = record {
    answers = λ c. sym (unmarked filter p (λ v. is_opened p v bs) w (hash_of p w) (c.inside p) refl (sym (m.answers (c.inside p).some_words) ∙ f));
    covers = covers-after;
    long = m.long;
  }

  -- else the walk says whether it was
  pub asked-walk : {r : Bool} → r ≡ is_opened p w bs → Asks filter filterAfter bs p w r
  asked-walk e = record { answers = λ c. e; covers = covers-after; long = m.long }
