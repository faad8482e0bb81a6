-- The numbers of a summary put one after the other; those of a sound table fit, and are its summary. Assumes nothing.
use Prim.Native.Nat.{ℕ, ◌+◌, ◌-◌, ◌<◌, ◌≤◌}
use native.Mathlib.Omega.{arith}
use mathlib.Core.Path.{◌≡◌, refl, sym, ap, subst, ◌∙◌}
use mathlib.Core.Bool.{true, false, false≢true}
use mathlib.Core.List.{List, [], ◌++◌}
use mathlib.Core.Option as maybe
use lib.ListN.{length, get_or, drop, set, replicate, length-replicate, get_or-append}
use lib.Seq.{get_or-append-add}
use Rattle.std.specs.Prelude.{Option, Some}
use Rattle.bitset.proofs.SetLaws.{length-tabulate, get_d_tabulate}
use Rattle.bitset.proofs.LoopSteps.{Turned, turned_none, turned_more, turned-all}
use Rattle.lexer.specs.Spell.{bytes}
use Rattle.policy.specs.Basics.{All}
use Rattle.policy.specs.Statements.{users, roles, types, Sort, thing_of, attribute_of, Declaration, count, names_of, class_names, permissions}
use Rattle.policy.specs.Words.{object_r, process_word}
use Rattle.policy.specs.Image.{Image}
use Rattle.policy.specs.Sound.{good_from, image_in}
use Rattle.policy.specs.declared.NameCounts.{NameCounts}
use Rattle.policy.proofs.Sorts.{max-small}
use Rattle.policy.proofs.Counts.{few-of, few-classes, few-permissions-of}
use Rattle.policy.proofs.Gathered.{all_get_d}
use Rattle.sound_names.specs.SoundNames.{permission_counts}
use Rattle.sound_constraints.specs.SoundRows.{is_some}
use Rattle.table_laws.specs.SoundTable.{Bytes, Sound}
use Rattle.table_laws.proofs.ListLaws.{all-places}
use Rattle.table_laws.proofs.SoundLaws.{sound-read}
use Rattle.table_laws.proofs.WellFormed.{formed}
use Rattle.table_names.specs.declared.SpecialNumbers.{SpecialNumbers}
use Rattle.soundness.specs.IsSound.{is_sound}
use Rattle.soundness.specs.TableCounts.{Tells}
use Rattle.soundness.proofs.CountedNames.{counted-table, counted-names, counted-permissions}
use Rattle.table_summary.specs.Summary.{process_of, special_of, summary_of, summary_after}
use Rattle.table_summary.specs.Numbers.{numbers_of, FourBytes, Fit}
use Rattle.table_summary.proofs.PlaceLaws.{place-most}

-- ---- one number: of the first eleven, or after them

module _ (xs ys : List ℕ) (long : length xs ≡ 11) (at : ℕ) where
  pub number-first : at < 11 → get_or xs at 0 ≡ get_or (xs ++ ys) at 0
  number-first h = sym (get_or-append xs ys 0 at (omega arith))

  pub number-after : 11 ≤ at → get_or ys (at - 11) 0 ≡ get_or (xs ++ ys) at 0
  number-after h =
      let there : length xs + (at - 11) ≡ at = omega arith in
      sym (get_or-append-add xs ys (at - 11) 0) ∙ ap (λ (k : ℕ). get_or (xs ++ ys) k 0) there

-- ---- all of them, put in turn

-- the first `at` of them are put, where they fit
pub record Put (ns e : List ℕ) (at : ℕ) : Type 0 where
  pub within : at ≤ 43
  pub turned : Fit ns → Turned ns (replicate 43 0) e at

same-long : (ns : List ℕ) → Fit ns → length ns ≡ length {A = ℕ} (replicate 43 0)
same-long ns f = f.long ∙ sym (length-replicate {A = ℕ} 43 0)

pub put-none : (ns : List ℕ) → Put ns (replicate 43 0) 0
put-none ns = record { within = omega arith; turned = λ f. turned_none ns (replicate 43 0) }

-- a turn puts the next, which fits into four bytes
pub put_next : {ns e : List ℕ} {at : ℕ} (n v : ℕ) → Put ns e at → at < 43 → n ≡ get_or ns at 0 → (n < 4294967296 → v ≡ n) → Put ns (set e at v) (at + 1)
put_next {ns} {e} {at} n v p l is four = record { within = omega arith; turned = turn }
  where
    turn : Fit ns → Turned ns (replicate 43 0) (set e at v) (at + 1)
    turn f =
        let small : get_or ns at 0 < 4294967296 = all_get_d FourBytes ns at 0 f.small (omega arith) in
        let there : at < length e = omega (arith, (p.turned f).long, length-replicate {A = ℕ} 43 0) in
        turned_more v (same-long ns f) there (p.turned f) (four (omega (arith, is, small)) ∙ is)

pub put_all : {ns e : List ℕ} {at : ℕ} → Put ns e at → 43 ≤ at → Fit ns → e ≡ ns
put_all {ns} {e} {at} p l f = turned-all (same-long ns f) (omega (arith, (p.turned f).long, length-replicate {A = ℕ} 43 0)) (p.turned f)

-- ---- the numbers of good declarations fit

module _ (ds : List Declaration) (good : good_from [] ds ≡ true) where
  few : (s : Sort) → count s ds < 4294967296
  few s = omega (arith, few-of s ds good, max-small s)

  few-of-class : (k : ℕ) → k < length (permission_counts ds) → get_or (permission_counts ds) k 0 < 4294967296
  few-of-class k l =
      let counted = get_d_tabulate 32 (λ c. length (permissions ds c)) k 0 (omega (arith, length-tabulate 32 (λ c. length (permissions ds c)))) in
      omega (arith, counted, few-permissions-of ds good k)

  small-special : All FourBytes (drop 7 (summary_of ds))
  unfolding summary_of count
  small-special =
      let object : (special_of ds).object < 4294967296 = omega (arith, place-most 128 object_r (names_of (thing_of roles) ds) (few-of (thing_of roles) ds good)) in
      let process : (special_of ds).process < 4294967296 = omega (arith, place-most 32 process_word (class_names ds) (few-classes ds good)) in
      let own = permissions ds (process_of ds) in
      let few-own = few-permissions-of ds good (process_of ds) in
      let transition : (special_of ds).transition < 4294967296 = omega (arith, place-most 32 (bytes "transition") own few-own) in
      let dyntransition : (special_of ds).dyntransition < 4294967296 = omega (arith, place-most 32 (bytes "dyntransition") own few-own) in
      (object, (process, (transition, (dyntransition, all-places FourBytes (permission_counts ds) 0 few-of-class))))

  small-attributes : All FourBytes (drop 3 (summary_of ds))
  unfolding summary_of
  small-attributes = (few (attribute_of users), (few (attribute_of roles), (few (attribute_of types), (omega (arith, few-classes ds good), small-special))))

  pub summary-fits : Fit (summary_of ds)
  unfolding summary_of
  summary-fits = record {
    long = omega (arith, length-tabulate 32 (λ c. length (permissions ds c)));
    small = (few (thing_of users), (few (thing_of roles), (few (thing_of types), small-attributes)));
  }

-- ---- what becomes of the lent numbers

-- bytes that are no sound table leave them
pub left_alone : (t before : List ℕ) → false ≡ is_sound t → before ≡ summary_after (image_in t) before
unfolding is_sound
left_alone t before h = by (image_in t) h
  where
    by : (o : maybe.Option Image) → false ≡ is_some o → before ≡ summary_after o before
    by maybe.none h = refl
    by (maybe.some i) h = absurd (false≢true h)

-- those of a sound table are its summary
module _ (t : List ℕ) (all : Bytes t) {ps : List ℕ} {r : Option NameCounts} (h : Tells t r ps) {n : NameCounts} (is : r ≡ Some n) where
  abbrev held : Sound t
  held = counted-table t all h is

  pub summarized : {x : SpecialNumbers} → ((s : Sound t) → x ≡ special_of s.image.names) → {ns : List ℕ} → (Fit (numbers_of n x ps) → ns ≡ numbers_of n x ps)
      → (before : List ℕ) → ns ≡ summary_after (image_in t) before
  unfolding summary_of
  summarized {x} special {ns} put before =
      let ds = held.image.names in
      let numbers : numbers_of n x ps ≡ summary_of ds =
      λ i. numbers_of (counted-names t all h is i) (special held i) (counted-permissions t all h is i) in
      put (subst Fit (sym numbers) (summary-fits ds (formed held.image held.formed).names))
      ∙ numbers ∙ ap (λ (o : maybe.Option Image). summary_after o before) (sym (sound-read t held))
