-- Blocks that were opened: what a walk over them knows, and one more. Assumes nothing.
use mathlib.Core.Path.{◌≡◌, refl, sym, ap, ap₂, subst, ◌∙◌}
use mathlib.Core.Bool.{Bool, true, false, not, ◌&&◌, ◌||◌, or_comm, or-false, false≢true}
use mathlib.Core.List.{List, [], ◌∷◌}
use Prim.Native.Nat.{ℕ, zero, suc, ◌+◌, ◌/◌, ◌%◌, ◌<◌, ◌≤◌}
use native.Mathlib.Numerals.{add-one}
use native.Mathlib.Omega.{arith}
use lib.ListN.{length, take, get_or, set, length-set}
use lib.Seq.{take-suc, get_or-set_same, get_or-set_other}
use borrow.Author.Tests.{ne_eqb, eq-eqb}
use Rattle.std.specs.List.{list_any}
use Rattle.std.proofs.lemmas.List.Folds.{list_any-append}
use Rattle.byte_slices.specs.Parts.{part}
use Rattle.policy.specs.Basics.{Name, same, any}
use Rattle.blocks.specs.Opened.{Block, block_of, key, block_in, opened_in, is_block, is_opened, CoversBlocks, Asks, Fits, Adds}

-- ---- one block

module _ (text : List ℕ) (k parent : ℕ) (w : Name) where
  pub other-parent : (k % 65536 ≡ parent → ⊥) → false ≡ is_block parent w (block_in text k)
  other-parent d = rw (ne_eqb (k % 65536) parent d)

  pub same-parent : {r : Bool} {v : Name} → k % 65536 ≡ parent → v ≡ part text (k / 4294967296) (k / 65536 % 65536) → r ≡ same w v
      → r ≡ is_block parent w (block_in text k)
  same-parent e q h = h ∙ sym (ap₂ (λ (b : Bool) (v : Name). b && same w v) (eq-eqb (k % 65536) parent e) (sym q))

-- ---- a walk over them

module _ (text keys : List ℕ) (p : ℕ) (w : Name) where
  abbrev here : ℕ → Bool
  here k = is_block p w (block_in text k)

  -- whether one of the first n keys is that of the block
  pub any-opened : (n : ℕ) → n ≤ length keys → list_any (λ (k : ℕ). is_block p w (block_in text k)) (take n keys) ≡ is_opened p w (opened_in text keys n)
  unfolding is_opened opened_in any
  any-opened zero h = refl
  any-opened (suc n) h =
      ap (list_any here) (take-suc keys n 0 (omega arith)) ∙ list_any-append here (take n keys) (get_or keys n 0 ∷ [])
      ∙ or_comm (list_any here (take n keys)) (here (get_or keys n 0) || false)
      ∙ ap₂ (λ (a b : Bool). a || b) (or-false (here (get_or keys n 0))) (any-opened n (omega arith))

-- ---- one more

-- the parts of a key are read back
module _ {parent at len : ℕ} (fits : Fits parent at len) where
  key-parent : key parent at len % 65536 ≡ parent
  key-parent = omega (arith, fits.few)

  key-length : key parent at len / 65536 % 65536 ≡ len
  key-length = omega (arith, fits.few, fits.short)

  key-place : key parent at len / 4294967296 ≡ at
  key-place = omega (arith, fits.few, fits.short, fits.near)

module _ (text keys : List ℕ) (count parent at len : ℕ) where
  -- a store after the first n blocks keeps them
  opened-kept : (v n : ℕ) → n ≤ count → opened_in text (set keys count v) n ≡ opened_in text keys n
  unfolding opened_in
  opened-kept v zero h = refl
  opened-kept v (suc n) h =
      ap₂ (λ (k : ℕ) (bs : List Block). block_in text k ∷ bs) (get_or-set_other keys count n v 0 (λ e. omega arith)) (opened-kept v n (omega arith))

  opened-more : count < length keys → Fits parent at len
      → opened_in text (set keys count (key parent at len)) (count + 1) ≡ block_of parent (part text at len) ∷ opened_in text keys count
  unfolding opened_in
  opened-more room fits = rw (
    add-one,
    get_or-set_same keys count (key parent at len) 0 room,
    key-parent fits,
    key-length fits,
    key-place fits,
    opened-kept (key parent at len) count (omega arith),
  )

  pub no_room : {filter : List ℕ} → length keys ≤ count → Adds text keys keys filter filter count parent at len false
  no_room h = record {
    answers = λ c l. absurd (omega arith);
    adds = λ t. absurd (false≢true t);
    room = λ t. absurd (false≢true t);
    stays = λ e. refl;
    long = refl;
    covers = λ c t. absurd (false≢true t);
    filter-long = refl;
  }

  -- by what the filter, or the walk over the blocks before it, says of the name
  module _ {filter filterAfter : List ℕ} {q : Bool} {w : Name} (name : w ≡ part text at len)
      (asked : Asks filter filterAfter (opened_in text keys count) parent w q) where
    told : CoversBlocks filter (opened_in text keys count) → q ≡ is_opened parent (part text at len) (opened_in text keys count)
    told c = asked.answers c ∙ ap (λ (v : Name). is_opened parent v (opened_in text keys count)) name

    pub again : q ≡ true → Adds text keys keys filter filterAfter count parent at len false
    again t = record {
      answers = λ c l. ap not (sym t ∙ told c);
      adds = λ f. absurd (false≢true f);
      room = λ f. absurd (false≢true f);
      stays = λ e. refl;
      long = refl;
      covers = λ c f. absurd (false≢true f);
      filter-long = asked.long;
    }

    pub added : q ≡ false → count < length keys → {k : ℕ} → k ≡ key parent at len
        → Adds text keys (set keys count k) filter filterAfter count parent at len true
    added f room {k} e = record {
      answers = λ c l. ap not (sym f ∙ told c);
      adds = λ t fits. is-more fits;
      room = λ t. room;
      stays = λ t. absurd (false≢true (sym t));
      long = length-set keys count k;
      covers = λ c t fits.
          let named = ap (λ (v : Name). block_of parent v ∷ opened_in text keys count) name in
          subst (CoversBlocks filterAfter) (named ∙ sym (is-more fits)) (asked.covers c);
      filter-long = asked.long;
    }
      where
        is-more : Fits parent at len → opened_in text (set keys count k) (count + 1) ≡ block_of parent (part text at len) ∷ opened_in text keys count
        is-more fits = ap (λ (v : ℕ). opened_in text (set keys count v) (count + 1)) e ∙ opened-more room fits
