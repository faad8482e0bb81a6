-- Memory that is 0 from the chains on has the chains of no entries: so `clear` leaves it. Assumes nothing.
use mathlib.Core.Path.{◌≡◌, refl, sym, ap, subst, ◌∙◌}
use mathlib.Core.Bool.{false}
use mathlib.Core.List.{List, [], ◌∷◌}
use Prim.Native.Nat.{ℕ, suc, ◌+◌, ◌-◌, ◌*◌, ◌<◌, ◌≤◌}
use native.Mathlib.Omega.{arith}
use lib.ListN.{length, get_or, take}
use Rattle.byte_slices.specs.Parts.{part, put}
use Rattle.bitset.specs.Sets.{set_of, from_bits, emptied}
use Rattle.bitset.proofs.SetLaws.{length-set_of, byte-set_of}
use Rattle.byte_slices.proofs.PartLaws.{length-put, length_part, length-part-le, get_d_part, get_d-put-in, part-put-before}
use Rattle.policy.specs.Basics.{unle}
use Rattle.symbols.specs.Lookup.{count_sort}
use Rattle.symbols.specs.Section.{name_bytes}
use Rattle.name_chains.specs.Chains.{Chained}
use Rattle.name_index.specs.Index.{word_in, chain_at, chain_in, index_bytes}
use Rattle.name_chains.specs.Entered.{Cleared}
use Rattle.name_index.specs.declared.Chain.{Chain}
use Rattle.name_chains.proofs.CandidateLaws.{none-many, nth-below}

unle-zero : (l : List ℕ) → ((i : ℕ) → i < length l → get_or l i 0 ≡ 0) → unle l ≡ 0
unfolding unle
unle-zero [] h = refl
unle-zero (b ∷ l) h = omega (arith, h 0 (omega arith), unle-zero l (λ i q. h (suc i) (omega arith)))

module _ (t : List ℕ) (zero : (i : ℕ) → 169856 ≤ i → i < index_bytes → get_or t i 0 ≡ 0) where
  word-zero : (k : ℕ) → 4096 ≤ k → k < 6445 → word_in t k ≡ 0
  unfolding word_in
  word-zero k a b =
      unle-zero (part t (name_bytes + 8 * k) 8)
      (λ i q.
      let r : i < 8 = omega (arith, length-part-le t (name_bytes + 8 * k) 8) in
      get_d_part t (name_bytes + 8 * k) 8 i r ∙ zero (name_bytes + 8 * k + i) (omega arith) (omega arith))

  -- the words of entries may hold anything
  none-chained : index_bytes ≤ length t → Chained t 0 []
  unfolding count_sort
  none-chained room = record {
    room = room;
    below = omega arith;
    few = omega arith;
    all = word-zero 6444 (omega arith) (omega arith);
    counts = λ s l. word-zero (6436 + s) (omega arith) (omega arith);
    chains = λ f l a b.
        let none = none-many f l in
        let z : chain_in (word_in t (chain_at f l)) ≡ chain_in 0 = ap chain_in (word-zero (chain_at f l) (omega arith) (omega arith)) in
        record {
          count = ap (λ (c : Chain). c.count) z ∙ sym none;
          first = λ g. absurd (omega (arith, none));
          last = λ g. absurd (omega (arith, none));
        };
    nodes = λ k e g. absurd (omega (arith, nth-below [] k e g));
    links = λ k e g f l q c. absurd (omega (arith, nth-below [] k e g));
  }

-- ---- what `clear` leaves

-- the bytes of no set are 0
no_bits : (w i : ℕ) → i < w → get_or (set_of w (λ n. false)) i 0 ≡ 0
unfolding from_bits
no_bits w i l = byte-set_of w (λ n. false) i l

module _ (t : List ℕ) (room : index_bytes ≤ length t) where
  abbrev chains : List ℕ
  chains = part t 169856 18792

  abbrev after : List ℕ
  after = put t 169856 (emptied chains)

  emptied-long : length (emptied chains) ≡ 18792
  unfolding emptied
  emptied-long = length-set_of (length chains) (λ n. false) ∙ length_part t 169856 18792 (omega (arith, room))

  fits : 169856 + length (emptied chains) ≤ length t
  fits = omega (arith, emptied-long, room)

  clear-long : length after ≡ length t
  clear-long = length-put t 169856 (emptied chains) fits

  clear-front : take name_bytes after ≡ take name_bytes t
  unfolding part
  clear-front = part-put-before t 169856 (emptied chains) fits 0 name_bytes (omega arith)

  clear_zero : (i : ℕ) → 169856 ≤ i → i < index_bytes → get_or after i 0 ≡ 0
  unfolding emptied
  clear_zero i l m =
      let e : 169856 + (i - 169856) ≡ i = omega arith in
      ap (λ (k : ℕ). get_or after k 0) (sym e) ∙ get_d-put-in t 169856 (emptied chains) fits (i - 169856) (omega (arith, emptied-long))
      ∙ no_bits (length chains) (i - 169856) (omega (arith, length_part t 169856 18792 (omega (arith, room))))

pub cleared : (t u : List ℕ) → u ≡ put t 169856 (emptied (part t 169856 18792)) → length u ≡ length t → Cleared t u
cleared t u e long = record {
  is = e;
  long = long;
  front = λ room. ap (take name_bytes) e ∙ clear-front t room;
  chained = λ room. subst (λ (l : List ℕ). Chained l 0 []) (sym e) (none-chained _ (clear_zero t room) (omega (arith, clear-long t room)));
}
