-- A walk by `next_entry` from the start of a section: the entries passed are those of the part walked over, and at the end they are all. So a
-- walk can ask about the entries before the one it is at, as uniqueness does. Assumes nothing.
use mathlib.Core.Path.{◌≡◌, sym, ap, ◌∙◌}
use mathlib.Core.List.{List, [], ◌∷◌, ◌++◌, append-nil}
use mathlib.Core.Option.{none, some}
use Prim.Native.Nat.{ℕ, suc, ◌+◌, ◌-◌, ◌*◌, ◌≤◌}
use native.Mathlib.Omega.{arith}
use lib.ListN.{length, take, drop, drop_of_length-le}
use lib.Seq.{take_all, length-take-le}
use Rattle.byte_slices.specs.Parts.{part}
use Rattle.byte_slices.proofs.PartLaws.{length-part-min}
use Rattle.policy.specs.Encode.{NameEntry, name_entry}
use Rattle.symbols.specs.Section.{Section, done, broken, entry, section_in, entries_read, is_exact, exact_entries, between, section_at, exact_entries_at, EntryIs}
use Rattle.symbols.specs.declared.Entry.{Entry}
use Rattle.byte_slices.proofs.PartLaws.{part_none, part_join, take_part}
use Rattle.symbols.proofs.SectionLaws.{section-none, section-entry}
use Rattle.symbols.proofs.ReadBack.{over, exact-over, entries_over, read-on, exact-some, by_entries}

-- an entry by itself, cut off where it ends
alone : (p : List ℕ) (e : NameEntry) (s : Section) → section_in p ≡ entry e s → section_in (take (4 + length e.name) p) ≡ entry e done
alone = by_entries (λ p x. (e : NameEntry) (s : Section) → x ≡ entry e s → section_in (take (4 + length e.name) p) ≡ entry e done)
    (λ e s h. let z : ◌≡◌ {A = ℕ} 0 1 = cc in absurd (omega arith)) (λ p e s h. let z : ◌≡◌ {A = ℕ} 0 1 = cc in absurd (omega arith))
    (λ a b c n r l ih e s h. cut a b c n r l e (entry_first (name_entry a (b + 256 * c) (take n r)) e (section_in (drop n r)) s h))
  where
    entry_first : (d e : NameEntry) (r s : Section) → entry d r ≡ entry e s → d ≡ e
    entry_first d e r s h = cc

    cut : (a b c n : ℕ) (r : List ℕ) → n ≤ length r → (e : NameEntry) → name_entry a (b + 256 * c) (take n r) ≡ e
        → section_in (take (4 + length e.name) (a ∷ b ∷ c ∷ n ∷ r)) ≡ entry e done
    cut a b c n r l e h =
        let four : 4 + n ≡ suc (suc (suc (suc n))) = omega arith in
        let long : length (take n r) ≡ n = length-take-le n r l in
        rw (← h, long, four)
        (section-entry a b c n (take n r) (omega (arith, long))
        ∙ rw (take_all n (take n r) (omega (arith, long)), drop_of_length-le (take n r) {i = n} (omega (arith, long)), section-none))

module _ (t : List ℕ) (start at : ℕ) (es : List NameEntry) (reached : exact_entries_at t start at ≡ some es) (s : start ≤ at) where
  -- what is read on from the place that is reached
  pub read-from : (end : ℕ) → at ≤ end → section_at t start end ≡ over es (section_at t at end)
  unfolding section_at
  read-from end h =
      let w : end - start ≡ (at - start) + (end - at) = omega arith in
      let o : start + (at - start) ≡ at = omega arith in
      let x = exact-some (section_in (between t start at)) es reached in
      ap section_in (ap (part t start) w ∙ part_join t start (at - start) (end - at) ∙ ap (λ (p : ℕ). between t start at ++ part t p (end - at)) o)
      ∙ read-on (between t at end) (between t start at) x.0 ∙ ap (λ (l : List NameEntry). over l (section_in (between t at end))) x.1

  pub walk_end : (end : ℕ) → at ≤ end → EntryIs t at end Entry.Done → exact_entries_at t start end ≡ some es
  unfolding is_exact entries_read
  walk_end end h d = ap exact_entries (read-from end h ∙ ap (over es) d.reads) ∙ rw (exact-over es done, entries_over es done, append-nil es)

  pub walk-broken : (end : ℕ) → at ≤ end → EntryIs t at end Entry.Broken → exact_entries_at t start end ≡ none
  unfolding is_exact entries_read
  walk-broken end h d = ap exact_entries (read-from end h ∙ ap (over es) d.reads) ∙ rw (exact-over es broken)

  pub walk-on : {end k n past : ℕ} → EntryIs t at end (Entry.Named k n past) → exact_entries_at t start past ≡ some (es ++ (name_entry k n (between t (at + 4) past) ∷ []))
  unfolding section_at is_exact entries_read
  walk-on {end} {k} {n} {past} d =
      let e : NameEntry = name_entry k n (between t (at + 4) past) in
      let long : 4 + length (between t (at + 4) past) ≡ past - at = omega (arith, length-part-min t (at + 4) (past - (at + 4)), d.within) in
      let here : section_in (between t at past) ≡ entry e done =
      ap section_in (sym (ap (λ (w : ℕ). take w (between t at end)) long ∙ take_part t at (end - at) (past - at) (omega (arith, d.within))))
      ∙ alone (between t at end) e (section_in (between t past end)) d.reads in
      ap exact_entries (read-from past (omega (arith, d.within)) ∙ ap (over es) here) ∙ rw (exact-over es (entry e done), entries_over es (entry e done))

pub walk_start : (t : List ℕ) (start : ℕ) → exact_entries_at t start start ≡ some []
unfolding section_at is_exact entries_read
walk_start t start = ap (λ (p : List ℕ). exact_entries (section_in p)) (part_none t start (start - start) (omega arith)) ∙ ap exact_entries section-none
