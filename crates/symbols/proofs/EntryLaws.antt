-- What `next_entry` says of the place that it looks at. Assumes nothing.
use mathlib.Core.Path.{◌≡◌, refl, sym, ap, subst, ◌∙◌}
use mathlib.Core.Bool.{Bool, true, false}
use mathlib.Core.List.{List}
use Prim.Native.Nat.{ℕ, min, ◌+◌, ◌-◌, ◌≤◌, ◌<◌}
use native.Mathlib.Omega.{arith}
use borrow.Author.Tests.{leb-true, leb-false}
use lib.Dec.{leb}
use lib.ListN.{length, get_or, take, drop}
use Rattle.byte_slices.specs.Parts.{part}
use Rattle.policy.specs.Basics.{unle}
use Rattle.policy.specs.Encode.{name_entry}
use Rattle.little_endian.proofs.WidthLaws.{unle-two}
use Rattle.symbols.specs.Section.{entry, section_in, between, section_at, EntryIs}
use Rattle.symbols.specs.declared.Entry.{Entry}
use Rattle.byte_slices.proofs.PartLaws.{part-present}
use Rattle.symbols.proofs.SectionLaws.{at_entry, at_cut, at-end, at-short}

-- what a caller of `next_entry` knows of the answer k
pub met : {t : List ℕ} {at end : ℕ} {r k : Entry} → EntryIs t at end r → r ≡ k → EntryIs t at end k
met {t} {at} {end} h e = subst (EntryIs t at end) e h

-- the measure of the walks: after an entry less is left
pub less-left : {t : List ℕ} {at end s n past : ℕ} → EntryIs t at end (Entry.Named s n past) → end - past < end - at
less-left h = omega (arith, h.within)

module _ (t : List ℕ) (at end left : ℕ) (l : left ≡ min (end - at) (length t - at)) where
  pub is-end : left ≡ 0 → EntryIs t at end Entry.Done
  is-end h = record { reads = at-end t at end left l h; within = tt }

  pub is-short : 0 < left → left < 4 → EntryIs t at end Entry.Broken
  is-short h g = record { reads = at-short t at end left l h g; within = tt }

  pub is_cut : (n : ℕ) → (n ≡ get_or t (at + 3) 0) × (n < 256) → 4 ≤ left → left - 4 < n → EntryIs t at end Entry.Broken
  is_cut n e h g = record { reads = at_cut t at end left l n (sym e.0) h g; within = tt }

  pub is-named : (s num n : ℕ) → (s ≡ get_or t at 0) × (s < 256) → (num ≡ unle (take 2 (drop (at + 1) t))) × (num < 65536)
      → (n ≡ get_or t (at + 3) 0) × (n < 256) → 4 ≤ left → n ≤ left - 4 → EntryIs t at end (Entry.Named s num (at + 4 + n))
  is-named s num n a b d h g = record {
    reads =
        let second : at + 1 + 1 ≡ at + 2 = omega arith in
        rw (a.0, b.0, unle-two (at + 1) t, second) (at_entry t at end left l n (sym d.0) h g);
    within = record {
      ahead = omega arith;
      near = omega arith;
      inside = omega arith;
      stored = omega arith;
      sort-byte = a.1;
      number-two-bytes = b.1;
    };
  }

-- ---- a section that is cut at the end of its table reads as the whole

module _ (t : List ℕ) (end last : ℕ) (e : last ≡ min end (length t)) where
  pub cut_off : (at : ℕ) → section_at t at last ≡ section_at t at end
  unfolding section_at
  cut_off at =
      let d : min (last - at) (length t - at) ≡ min (end - at) (length t - at) = omega (arith, e) in
      ap section_in (sym (part-present t at (last - at)) ∙ ap (part t at) d ∙ part-present t at (end - at))

  pub stands : (at : ℕ) (r : Entry) → EntryIs t at last r → EntryIs t at end r
  stands at (Entry.Named s n past) h = record {
    reads = sym (cut_off at) ∙ h.reads ∙ ap (entry (name_entry s n (between t (at + 4) past))) (cut_off past);
    within = record {
      ahead = h.within.ahead;
      near = h.within.near;
      inside = omega (arith, e, h.within.inside);
      stored = h.within.stored;
      sort-byte = h.within.sort-byte;
      number-two-bytes = h.within.number-two-bytes;
    };
  }
  stands at Entry.Done h = record { reads = sym (cut_off at) ∙ h.reads; within = tt }
  stands at Entry.Broken h = record { reads = sym (cut_off at) ∙ h.reads; within = tt }

  -- none is at a place past its end
  pub none-past : (at : ℕ) → last < at → EntryIs t at end Entry.Done
  none-past at h = is-end t at end 0 (omega (arith, e)) refl

  -- so a walk may begin where it starts, or at the end where that comes first
  pub begins : (start first : ℕ) → first ≡ min start last → section_at t first last ≡ section_at t start end
  begins start first f = go (leb start last) refl
    where
      go : (q : Bool) → leb start last ≡ q → section_at t first last ≡ section_at t start end
      go true d =
          let same : first ≡ start = omega (arith, f, leb-true start last d) in
          ap (λ (p : ℕ). section_at t p last) same ∙ cut_off start
      go false d =
          at-end t first last 0 (omega (arith, f, leb-false start last d)) refl
          ∙ sym (at-end t start end 0 (omega (arith, e, leb-false start last d)) refl)
