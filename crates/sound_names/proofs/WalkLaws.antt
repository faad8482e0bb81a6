-- A turn of the walk over body 1: the entries passed may follow one another, the counts are those of what they declare, and what the walk
-- says at its end is what `sound_names` says of the whole body. Assumes nothing.
use Rattle.std.specs.Prelude.{is_some}
use mathlib.Core.Path.{◌≡◌, refl, sym, ap, ap₂, subst, ◌∙◌}
use mathlib.Core.Logic.{◌⊎◌, inl, inr, ⊎_elim}
use mathlib.Core.Bool.{Bool, true, false, not, ◌&&◌, false≢true, and-false}
use mathlib.Core.List.{List, [], ◌∷◌, ◌++◌}
use mathlib.Core.Option.{Option, none, some}
use Prim.Native.Nat.{ℕ, ◌+◌, ◌-◌, ◌*◌, ◌/◌, ◌≤◌, ◌<◌}
use native.Mathlib.Omega.{arith}
use borrow.Author.Tests.{eqb-true, ne_eqb, ltb-true, leb-true, leb-false}
use lib.Dec.{eqb, ltb, leb}
use lib.ListN.{length, get_or, drop, replicate, length-replicate}
use Rattle.std.specs.Prelude.{Some, None}
use Rattle.byte_slices.specs.Parts.{part}
use Rattle.policy.specs.Basics.{Name, is_in, ◌>>=◌, given, All}
use Rattle.policy.specs.Statements.{Declaration, class, family_of, class_names}
use Rattle.policy.specs.Encode.{NameEntry, name_entry, entries}
use Rattle.policy.proofs.Lists.{both_true, all_append}
use Rattle.policy.proofs.Sorts.{code_below}
use Rattle.policy.proofs.Counts.{few-in-all}
use Rattle.symbols.specs.Section.{entry, section_at, section_in, entries_read, is_exact, exact_entries, entries_at, exact_entries_at, between, EntryIs}
use Rattle.symbols.specs.Lookup.{family_number, first_named}
use Rattle.symbols.specs.SearchAnswers.{FewPermissions}
use Rattle.symbols.specs.declared.Entry.{Entry}
use Rattle.symbols.proofs.ReadBack.{over, exact-over, entries_over, exact-some}
use Rattle.symbols.proofs.WalkLaws.{read-from, walk_end, walk-broken, walk-on, walk_start}
use Rattle.symbols.proofs.ReferencesFound.{reference-found, code_of}
use Rattle.symbols.proofs.ClassesFound.{class-found, permission-found}
use Rattle.symbols.proofs.DeclaredEntries.{permissions-last}
use Rattle.table_laws.specs.SoundTable.{Bytes}
use Rattle.table_laws.proofs.ListLaws.{all_take, all_drop}
use Rattle.policy.specs.declared.NameCounts.{NameCounts}
use Rattle.sound_names.specs.SoundNames.{sound_names, counts_of, counted_of, permission_counts, permissions_after}
use Rattle.sound_names.specs.EntryOrder.{Kind, of_thing, of_class, of_permission, of_nothing, kind_of, is_placed, is_good_for, is_unused, may_follow}
use Rattle.sound_names.specs.EntryOrder.{Declaring, complete, opened, declared, closes, extended, declaring, finished, declares}
use Rattle.bloom_filter.specs.Filter.{hash_of, marked}
use Rattle.name_spelling.specs.Spelling.{is_spelt}
use Rattle.name_spelling.proofs.SpellingLaws.{spelt-part}
use Rattle.sound_names.specs.Filter.{Knows}
use Rattle.sound_names.specs.Tally.{most_parts, allows, is_free, counted, permitted, Zeros, Tallied, Room, sound, unsound, judged, counts_in, judged_of}
use Rattle.sound_names.proofs.EntryOrderLaws.{KindIs, kind-is, GoodSoFar, SoFar, start as start-good, declared-good, declaring-more}
use Rattle.sound_names.proofs.TallyLaws.{closes-open, allows-placed, FewClasses, tallied-after, tallied-start, tallied-counts, tallied-permissions}
use Rattle.sound_names.proofs.BodyLaws.{sound-declares}
use Rattle.sound_names.proofs.FilterLaws.{knows-none, knows_more}

-- ---- an entry is new where its name is not found among those before it

few-so-far : (ds : List Declaration) (v : Name) (ps : List Name) → GoodSoFar (opened ds v ps) → All FewPermissions (ds ++ (class v ps ∷ []))
few-so-far ds v ps g = all_append FewPermissions ds (class v ps ∷ []) (few-in-all [] ds g.0) (g.1.few, tt)

-- the class and the place of a permission
permission-place : (n k l : ℕ) → (ltb l 32 && eqb n (k * 32 + l)) ≡ true → (n / 32 ≡ k) × (n < k * 32 + 32)
permission-place n k l h =
    let q = both_true (ltb l 32) (eqb n (k * 32 + l)) h in
    let few = ltb-true l 32 q.0 in
    let is = eqb-true n (k * 32 + l) q.1 in
    (omega arith, omega arith)

unused_found : (k : Kind) (sort n : ℕ) (w : Name) (d : Declaring) → KindIs sort k → GoodSoFar d → is_placed k d n ≡ true
    → not (is_some (first_named (family_number sort n) w (entries (declared d)))) ≡ is_unused k d w
unused_found (of_thing s) sort n w d e g h = rw (e, code_of s n) (ap not (reference-found (declared d) (family_of s) w))
unused_found of_class sort n w d e g h = rw e (ap not (class-found (declared d) w))
unused_found of_permission sort n w (complete ds) e g h = absurd (false≢true h)
unused_found of_permission sort n w (opened ds v ps) e g h =
    rw (e, (permission-place n (length (class_names ds)) (length ps) h).0)
    (ap not (permission-found (ds ++ (class v ps ∷ [])) (length (class_names ds)) w (few-so-far ds v ps g) ∙ ap (is_in w) (permissions-last ds v ps)))
unused_found of_nothing sort n w d e g h = absurd (false≢true h)

-- a name is good for its sort where it is spelt so, with as many parts as the sort may have
spelt-for : (sort : ℕ) (w : Name) → is_spelt (most_parts sort) w ≡ is_good_for (kind_of sort) w
spelt-for sort w = by (kind_of sort) (kind-is sort)
  where
    by : (k : Kind) → KindIs sort k → is_spelt (most_parts sort) w ≡ is_good_for k w
    by (of_thing s) e = rw (ne_eqb sort 7 (λ z. omega (arith, code_below s)))
    by of_class e = rw e
    by of_permission e = rw e (spelt-part w)
    by of_nothing e = rw (ne_eqb sort 7 (λ z. omega arith))

follows-free : (c p : List ℕ) (es : List NameEntry) (d : Declaring) → Tallied c p d → SoFar es d → (sort n : ℕ) (w : Name)
    → may_follow d (name_entry sort n w) ≡ is_free c es sort n w
unfolding may_follow
follows-free c p es d t f sort n w = by (is_placed (kind_of sort) d n) refl
  where
    by : (q : Bool) → is_placed (kind_of sort) d n ≡ q → (is_placed (kind_of sort) d n && (is_good_for (kind_of sort) w && is_unused (kind_of sort) d w)) ≡ is_free c es sort n w
    by false h = rw (allows-placed c p d t sort n, h)
    by true h = rw (allows-placed c p d t sort n, h, spelt-for sort w, f.are, unused_found (kind_of sort) sort n w d (kind-is sort) f.good h)

-- an entry whose name is not good may not follow
pub not_free : (c : List ℕ) (es : List NameEntry) (sort n : ℕ) (w : Name) → is_spelt (most_parts sort) w ≡ false → is_free c es sort n w ≡ false
not_free c es sort n w h = ap (λ (q : Bool). allows c sort n && (q && not (is_some (first_named (family_number sort n) w es)))) h ∙ and-false (allows c sort n)

-- whether it may, by the three tests
pub free-by : (c : List ℕ) (es : List NameEntry) (sort n : ℕ) (w : Name) {a b d : Bool} → allows c sort n ≡ a → is_spelt (most_parts sort) w ≡ b
    → not (is_some (first_named (family_number sort n) w es)) ≡ d → is_free c es sort n w ≡ (a && (b && d))
free-by c es sort n w e f g = rw (e, f, g)

-- ---- room for an entry that may follow

few-classes-so-far : (d : Declaring) → GoodSoFar d → FewClasses d
few-classes-so-far (complete ds) g = tt
few-classes-so-far (opened ds v ps) g = ltb-true (length (class_names ds)) 32 g.1.room

room : (c p : List ℕ) (d : Declaring) → Tallied c p d → GoodSoFar d → (sort n : ℕ) → n < 65536 → is_placed (kind_of sort) d n ≡ true → Room (length c) (length p) sort n
room c p d t g sort n l h = by (kind_of sort) (kind-is sort) d t g h
  where
    by : (k : Kind) → KindIs sort k → (d : Declaring) → Tallied c p d → GoodSoFar d → is_placed k d n ≡ true → Room (length c) (length p) sort n
    by (of_thing s) e d t g h = record {
      eight = t.eight;
      each-class = t.each-class;
      sort-small = omega (arith, code_below s);
      number_small = l;
      class-small = λ x. absurd (omega (arith, code_below s));
    }
    by of_class e d t g h = record { eight = t.eight; each-class = t.each-class; sort-small = omega arith; number_small = l; class-small = λ x. absurd (omega arith) }
    by of_permission e (complete ds) t g h = absurd (false≢true h)
    by of_permission e (opened ds v ps) t g h = record {
      eight = t.eight;
      each-class = t.each-class;
      sort-small = omega arith;
      number_small = l;
      class-small = λ x. omega (arith, few-classes-so-far (opened ds v ps) g, (permission-place n (length (class_names ds)) (length ps) h).1);
    }
    by of_nothing e d t g h = absurd (false≢true h)

-- ---- a turn

-- what the entries between two places declare
named_by : (t : List ℕ) (start end : ℕ) → Bytes t → (o : Option (List NameEntry)) → exact_entries_at t start end ≡ o → sound_names (between t start end) ≡ (o >>= declares)
unfolding part section_at
named_by t start end bytes o h =
    sound-declares (between t start end) (all_take (λ k. k < 256) (end - start) (drop start t) (all_drop (λ k. k < 256) start t bytes))
    ∙ ap (λ (x : Option (List NameEntry)). x >>= declares) h

-- the entries passed, what they declare, and its counts; where the body ends before it starts, the walk stays at its start
pub record Walk (t : List ℕ) (start at end : ℕ) (c p : List ℕ) : Type 0 where
  pub passed : List NameEntry
  pub so_far : Declaring
  pub order : start ≤ at
  pub place : (at ≤ end) ⊎ ((at ≡ start) × (end ≤ start))
  pub read : exact_entries_at t start at ≡ some passed
  pub declare : declaring (complete []) passed ≡ some so_far
  pub tallied : Tallied c p so_far

module _ (t : List ℕ) (start end : ℕ) where
  pub walk-begin : (c p : List ℕ) → Zeros c p → Walk t start start end c p
  unfolding declaring
  walk-begin c p z = record {
    passed = [];
    so_far = complete [];
    order = omega arith;
    place = by (leb start end) refl;
    read = walk_start t start;
    declare = refl;
    tallied = tallied-start c p z;
  }
    where
      by : (q : Bool) → leb start end ≡ q → (start ≤ end) ⊎ ((start ≡ start) × (end ≤ start))
      by true h = inl (leb-true start end h)
      by false h = let l = leb-false start end h in inr (refl, omega arith)

  -- at first the filter is empty, as the entries passed are
  pub knows-begin : Knows (replicate 2048 0) (entries_at t start start)
  knows-begin =
      subst (Knows (replicate 2048 0)) (sym (exact-some (section_at t start start) [] (walk_start t start)).1) (knows-none (replicate 2048 0) (length-replicate {A = ℕ} 2048 0))

  module _ (at : ℕ) (c p : List ℕ) (w : Walk t start at end c p) where
    pub good-so-far : SoFar w.passed w.so_far
    good-so-far = declared-good [] (complete []) start-good w.passed w.so_far w.declare

    entries-passed : entries_at t start at ≡ w.passed
    entries-passed = (exact-some (section_at t start at) w.passed w.read).1

    module _ (s n past : ℕ) (e : EntryIs t at end (Entry.Named s n past)) where
      abbrev here : NameEntry
      here = name_entry s n (between t (at + 4) past)

      may-follow : (q : Bool) → is_free c (entries_at t start at) s n (between t (at + 4) past) ≡ q → may_follow w.so_far here ≡ q
      may-follow q h =
          follows-free c p w.passed w.so_far w.tallied good-so-far s n (between t (at + 4) past)
          ∙ ap (λ (es : List NameEntry). is_free c es s n (between t (at + 4) past)) (sym entries-passed) ∙ h

      is-placed : may_follow w.so_far here ≡ true → is_placed (kind_of s) w.so_far n ≡ true
      unfolding may_follow
      is-placed h =
          (both_true (is_placed (kind_of s) w.so_far n) (is_good_for (kind_of s) (between t (at + 4) past) && is_unused (kind_of s) w.so_far (between t (at + 4) past)) h).0

      pub walk-room : allows c s n ≡ true → Room (length c) (length p) s n
      walk-room h = room c p w.so_far w.tallied good-so-far.good s n e.within.number-two-bytes (sym (allows-placed c p w.so_far w.tallied s n) ∙ h)

      pub walk-next : is_free c (entries_at t start at) s n (between t (at + 4) past) ≡ true → Walk t start past end (counted c s n) (permitted p s n)
      unfolding declaring
      walk-next h = record {
        passed = w.passed ++ (here ∷ []);
        so_far = extended (kind_of s) w.so_far (between t (at + 4) past);
        order = omega (arith, w.order, e.within.ahead);
        place = inl e.within.inside;
        read = walk-on t start at w.passed w.read w.order e;
        declare = declaring-more (complete []) w.passed (here ∷ []) ∙ rw (w.declare, may-follow true h);
        tallied = tallied-after c p w.so_far w.tallied s n (between t (at + 4) past) (is-placed (may-follow true h))
            (few-classes-so-far w.so_far good-so-far.good);
      }

      -- with its marks the filter knows the entry too
      pub knows-next : (f : List ℕ) → Knows f (entries_at t start at) → Knows (marked f (hash_of (family_number s n) (between t (at + 4) past))) (entries_at t start past)
      knows-next f k =
          subst (Knows (marked f (hash_of (family_number s n) (between t (at + 4) past))))
          (sym (exact-some (section_at t start past) (w.passed ++ (here ∷ [])) (walk-on t start at w.passed w.read w.order e)).1)
          (knows_more f w.passed here (subst (Knows f) entries-passed k))

      -- an entry that may not follow: whatever follows it, the body is not sound
      refuses : is_free c (entries_at t start at) s n (between t (at + 4) past) ≡ false → (es : List NameEntry) → declares (w.passed ++ (here ∷ es)) ≡ none
      unfolding declaring
      refuses h es =
          let stopped : declaring (complete []) (w.passed ++ (here ∷ es)) ≡ none =
          declaring-more (complete []) w.passed (here ∷ es) ∙ rw (w.declare, may-follow false h) in
          ap (λ (o : Option Declaring). o >>= finished) stopped

      read_all : section_at t start end ≡ over w.passed (entry here (section_at t past end))
      read_all = read-from t start at w.passed w.read w.order end (omega (arith, e.within)) ∙ ap (over w.passed) e.reads

      pub walk_refused : Bytes t → is_free c (entries_at t start at) s n (between t (at + 4) past) ≡ false → unsound ≡ judged (sound_names (between t start end))
      unfolding is_exact entries_read
      walk_refused bytes h =
          by (is_exact (section_at t past end))
          (ap exact_entries read_all ∙ rw (exact-over w.passed (entry here (section_at t past end)), entries_over w.passed (entry here (section_at t past end))))
        where
          by : (q : Bool) → exact_entries_at t start end ≡ given q (w.passed ++ (here ∷ entries_read (section_at t past end))) → unsound ≡ judged (sound_names (between t start end))
          by false x = ap judged (sym (named_by t start end bytes none x))
          by true x =
              ap judged (sym (named_by t start end bytes (some (w.passed ++ (here ∷ entries_read (section_at t past end)))) x ∙ refuses h (entries_read (section_at t past end))))

    pub walk-done : Bytes t → EntryIs t at end Entry.Done → judged_of (not (eqb (get_or c 7 0) 1)) c p ≡ judged (sound_names (between t start end))
    unfolding section_at
    walk-done bytes e = rw (w.tallied.open-class, closes-open w.so_far) (by (closes w.so_far) refl)
      where
        stays : (at ≡ start) × (end ≤ start) → exact_entries_at t start end ≡ some w.passed
        stays x = ap (λ (k : ℕ). exact_entries (section_in (part t start k))) (omega (arith, x.0, x.1)) ∙ w.read

        named : sound_names (between t start end) ≡ declares w.passed
        named = named_by t start end bytes (some w.passed) (⊎_elim (λ l. walk_end t start at w.passed w.read w.order end l e) stays w.place)

        by : (q : Bool) → closes w.so_far ≡ q → judged_of q c p ≡ judged (sound_names (between t start end))
        by true x = rw (named, w.declare, x) (ap₂ sound (tallied-counts c p w.so_far w.tallied) (tallied-permissions c p w.so_far w.tallied))
        by false x = rw (named, w.declare, x)

    pub walk-halts : Bytes t → EntryIs t at end Entry.Broken → unsound ≡ judged (sound_names (between t start end))
    unfolding is_exact entries_read
    walk-halts bytes e = ap judged (sym (named_by t start end bytes none read_all))
      where
        read_all : exact_entries_at t start end ≡ none
        read_all = ⊎_elim (λ l. walk-broken t start at w.passed w.read w.order end l e)
            (λ x. ap (λ (k : ℕ). exact_entries_at t k end) (sym x.0) ∙ ap exact_entries e.reads) w.place

-- ---- what the walk says, as the answer of the check

module _ (r : Bool) (c p : List ℕ) (o : Option (List Declaration)) (h : judged_of r c p ≡ judged o) (before : List ℕ) where
  pub answer-unsound : r ≡ false → (None ≡ counted_of o) × (before ≡ permissions_after o before)
  answer-unsound f = by o (sym (ap (λ (q : Bool). judged_of q c p) f) ∙ h)
    where
      by : (o : Option (List Declaration)) → unsound ≡ judged o → (None ≡ counted_of o) × (before ≡ permissions_after o before)
      by none e = (refl, refl)
      by (some ds) e = let z : ◌≡◌ {A = ℕ} 0 1 = cc in absurd (omega arith)

  pub answer-sound : r ≡ true → (Some (counts_in c) ≡ counted_of o) × (p ≡ permissions_after o before)
  answer-sound f = by o (sym (ap (λ (q : Bool). judged_of q c p) f) ∙ h)
    where
      first : (a b : NameCounts) (p q : List ℕ) → sound a p ≡ sound b q → a ≡ b
      first a b p q e = cc

      second : (a b : NameCounts) (p q : List ℕ) → sound a p ≡ sound b q → p ≡ q
      second a b p q e = cc

      by : (o : Option (List Declaration)) → sound (counts_in c) p ≡ judged o → (Some (counts_in c) ≡ counted_of o) × (p ≡ permissions_after o before)
      by none e = let z : ◌≡◌ {A = ℕ} 0 1 = cc in absurd (omega arith)
      by (some ds) e = (ap Some (first (counts_in c) (counts_of ds) p (permission_counts ds) e), second (counts_in c) (counts_of ds) p (permission_counts ds) e)
