-- What declaring a class comes to: a permission that occurs twice and its full name among the classes are fault 4, the length of that name and the count of the
-- classes and of its permissions fault 6, and otherwise its entries have room and are written. Assumes nothing.
use Rattle.std.specs.Option.{ok_or}
use Rattle.std.specs.Prelude.{Err, None, Ok, Option, Result, Some}
use Rattle.policy.specs.declared.Fault.{Fault}
use mathlib.Core.Path.{◌≡◌, refl, sym, ap, subst, ◌∙◌}
use mathlib.Core.Bool.{true, false, not, and-false, false≢true}
use mathlib.Core.List.{List, [], ◌∷◌, ◌++◌}
use Prim.Native.Nat.{ℕ, ◌+◌, ◌*◌, ◌≤◌, ◌<◌}
use native.Mathlib.Omega.{arith}
use borrow.Author.Tests.{lt-ltb, le-ltb, le-leb, lt-leb, not-true, not-false}
use lib.Dec.{ltb, leb}
use lib.ListN.{length, length-append}
use Rattle.byte_slices.specs.Parts.{part}
use Rattle.bitset.specs.Relations.{joined}
use Rattle.lexer.specs.Forms.{frames_at}
use Rattle.policy.specs.Basics.{Name, is_in, differ, every, each, All}
use Rattle.policy.specs.Statements.{Declaration, class, class_names}
use Rattle.policy.specs.Words.{class_k}
use Rattle.policy.specs.Names.{full}
use Rattle.policy.specs.Reading.{is_new, has_room, is_short, full_declaration}
use Rattle.policy.specs.Encode.{NameEntry, name_entry, permission_entries, entries_of, entries, entry_bytes}
use Rattle.policy.specs.Sound.{is_good, is_good_part, good_permissions, good_names}
use Rattle.policy.proofs.Lists.{both_true, true-both}
use Rattle.reading_laws.proofs.FullNames.{declaration-good}
use Rattle.table_laws.proofs.NamesFit.{part-is-good}
use Rattle.table_laws.proofs.NamesRoom.{name-short, entries-room}
use Rattle.symbols.specs.Lookup.{family_number, first_named}
use Rattle.std.specs.Prelude.{Option, is_some}
use Rattle.symbols.specs.declared.Symbol.{Symbol}
use Rattle.symbols.proofs.ClassesFound.{class-found}
use Rattle.symbols.proofs.DeclaredEntries.{entries-more}
use Rattle.symbols.specs.Section.{name_bytes}
use Rattle.name_chains.specs.Chains.{Chained}
use Rattle.scopes.specs.Scope.{InScope}
use Rattle.name_rows.specs.WordRows.{words_in, WordHere, Inside}
use Rattle.declarations.specs.SortCounts.{Stands}
use Rattle.declarations.specs.NewEntries.{Entered, Fitting, Enters, Indexable}
use Rattle.declarations.specs.Declares.{Holds, Declares, DeclaresAt, DeclaresClass}
use Rattle.declarations.proofs.SymbolMemory.{long-missing, room_for}
use Rattle.declarations.proofs.NewEntryLaws.{bytes-append, entered-then}
use Rattle.declarations.proofs.NewPermissions.{permissions-indexable}
use Rattle.declarations.proofs.DeclarationForms.{class-has-word, class-here}
use Rattle.declarations.proofs.FullNames.{FullIs}
use Rattle.declarations.proofs.NameAnswers.{taken-found, free-missing}

-- ---- good permissions are short

some-every : (ps : List Name) → good_permissions ps ≡ true → every is_good_part ps ≡ true
some-every [] h = absurd (false≢true h)
some-every (p ∷ ps) h = h

short-permissions : (n : ℕ) (ps : List Name) → every is_good_part ps ≡ true → All (λ (e : NameEntry). length e.name ≤ 64) (permission_entries n ps)
unfolding permission_entries every
short-permissions n [] h = tt
short-permissions n (p ∷ ps) h =
    let b = both_true (is_good_part p) (every is_good_part ps) h in
    (name-short p (part-is-good p b.0), short-permissions (n + 1) ps b.1)

-- ---- a class of a full name and permissions

module _ (v : Name) (ps : List Name) (before : List ℕ) (end : ℕ) where
  abbrev found : List Declaration → Option Symbol
  found ds = first_named (family_number 6 0) v (entries ds)

  -- "name declared again in its family"
  pub class-taken : (f : Fault) → Stands before 6 v (Err f) → DeclaresClass v ps before before end (Err f)
  class-taken f q = record {
    says = λ ds y once good.
        let h = taken-found (found ds) (length (class_names ds)) f (q.classes end ds y refl) in
        let has : is_in v (class_names ds) ≡ true = sym (class-found ds v) ∙ h.0 in
        subst (λ (x : Fault). Declares before before end ds (class v ps) (Err x)) (sym h.1) (rw has, refl);
  }

  module _ (number : ℕ) (q : Stands before 6 v (Ok number)) where
    is_free : {ds : List Declaration} → Holds before end ds → (is_some (found ds) ≡ false) × (length (class_names ds) ≡ number)
    is_free {ds} y = free-missing (found ds) (length (class_names ds)) number (q.classes end ds y refl)

    is-new : {ds : List Declaration} → Holds before end ds → differ ps ≡ true → is_new ds (class v ps) ≡ true
    is-new {ds} y once = true-both (not (is_in v (class_names ds))) (differ ps) (ap not (sym (class-found ds v) ∙ (is_free y).0)) once

    count-is : {ds : List Declaration} → Holds before end ds → length (class_names ds) ≡ number
    count-is y = (is_free y).1

    no_room : ((ds : List Declaration) → Holds before end ds → has_room ds (class v ps) ≡ false) → DeclaresClass v ps before before end (Err Fault.MaximumPassed)
    no_room n = record { says = λ ds y once good. (is-new y once, rw (n ds y), refl) }

    -- "classes 32"
    pub class-full : 32 ≤ number → DeclaresClass v ps before before end (Err Fault.MaximumPassed)
    class-full l = no_room (λ ds y. rw (le-ltb (length (class_names ds)) 32 (omega (arith, count-is y))))

    -- "permissions 32 per class"
    pub class-too-many : 32 < length ps → DeclaresClass v ps before before end (Err Fault.MaximumPassed)
    class-too-many l = no_room (λ ds y. rw (lt-leb (length ps) 32 l) (and-false (ltb (length (class_names ds)) 32)))

    abbrev one : List NameEntry
    one = name_entry 6 number v ∷ []

    abbrev others : List NameEntry
    others = permission_entries (number * 32) ps

    entries-are : {ds : List Declaration} → Holds before end ds → one ++ others ≡ entries_of ds (class v ps)
    entries-are y = ap (λ (n : ℕ). name_entry 6 n v ∷ permission_entries (n * 32) ps) (sym (count-is y))

    -- where the maxima allow the class, there is room for all of its entries, so that it is not refused
    module _ (l : number < 32) (few : length ps ≤ 32) where
      has_room_lem : {ds : List Declaration} → Holds before end ds → has_room ds (class v ps) ≡ true
      has_room_lem {ds} y =
          true-both (ltb (length (class_names ds)) 32) (leb (length ps) 32)
          (lt-ltb (length (class_names ds)) 32 (omega (arith, count-is y))) (le-leb (length ps) 32 few)

      all_fit : (ds : List Declaration) → Holds before end ds → differ ps ≡ true → good_names (class v ps) ≡ true
          → end + (length (joined (each entry_bytes one)) + length (joined (each entry_bytes others))) ≤ name_bytes
      all_fit ds y once good =
          let fits = room_for y (class v ps) good (is-new y once) (has_room_lem y) in
          let n : length (joined (each entry_bytes (entries_of ds (class v ps))))
          ≡ length (joined (each entry_bytes one)) + length (joined (each entry_bytes others)) =
          ap (λ (es : List NameEntry). length (joined (each entry_bytes es))) (sym (entries-are y))
          ∙ ap length (bytes-append one others) ∙ length-append (joined (each entry_bytes one)) (joined (each entry_bytes others)) in
          omega (arith, n, fits)

      short-name : good_names (class v ps) ≡ true → length v ≤ 64
      short-name good = name-short v (both_true (is_good v) (good_permissions ps) good).0

      pub class-no-room : (after : List ℕ) (r : Result ℕ Fault) → Enters before after end one None → DeclaresClass v ps before after end r
      class-no-room after r n = record {
        says = λ ds y once good. absurd (n.is (record { room = omega (arith, all_fit ds y once good); short = (short-name good, tt) }));
      }

      module _ (mid after : List ℕ) (past : ℕ) (n : Enters before mid end one (Some past)) where
        rest-fits : (ds : List Declaration) → Holds before end ds → differ ps ≡ true → good_names (class v ps) ≡ true → Fitting past others
        rest-fits ds y once good = record {
          room = omega (arith, all_fit ds y once good, n.is.moved);
          short = short-permissions (number * 32) ps (some-every ps (both_true (is_good v) (good_permissions ps) good).1);
        }

        entries-indexable : {ds : List Declaration} → Holds before end ds → Indexable (entries ds) (one ++ others)
        unfolding Indexable
        entries-indexable {ds} y =
            let room = entries-room ds y.good in
            let fewer : length (class_names ds) < 32 = omega (arith, count-is y) in
            subst (λ (k : ℕ). Indexable (entries ds) (name_entry 6 k v ∷ permission_entries (k * 32) ps)) (count-is y) (
              omega (arith, room, fewer),
              omega (arith, fewer),
              omega arith,
              permissions-indexable ds v fewer (omega (arith, room, fewer)) ps few,
            )

        added : (a : Option ℕ) → Enters mid after past others a → (ds : List Declaration) → Holds before end ds → differ ps ≡ true
            → good_names (class v ps) ≡ true → Declares before after end ds (class v ps) (ok_or a Fault.MaximumPassed)
        added (Some next) e ds y once good =
            let all = entered-then n.is e.is in
            let x = subst (λ (es : List NameEntry). Entered before after end es next) (entries-are y) all in
            record {
              new = is-new y once;
              room = true-both (has_room ds (class v ps)) (is_short (class v ps)) (has_room_lem y) (le-leb (length v) 64 (short-name good));
              written = x.written;
              long = x.long;
              moved = x.moved;
              fits = x.fits;
              chained =
                  subst (Chained after next) (ap (λ (es : List NameEntry). entries ds ++ es) (entries-are y) ∙ sym (entries-more ds (class v ps)))
                  (all.chained (entries ds) y.chained (entries-indexable y));
              scope = x.scope;
            }
        added None e ds y once good = absurd (e.is (rest-fits ds y once good))

        pub class-added : (a : Option ℕ) (r : Result ℕ Fault) → Enters mid after past others a → r ≡ ok_or a Fault.MaximumPassed → DeclaresClass v ps before after end r
        class-added a r e z = record { says = λ ds y once good. subst (Declares before after end ds (class v ps)) (sym z) (added a e ds y once good) }

-- ---- a class as it is in the text

module _ (t : List ℕ) (at : ℕ) (before : List ℕ) (end : ℕ) where
  pub no-class : (after : List ℕ) (r : Result ℕ Fault) → words_in (frames_at t at).here ≡ [] → DeclaresAt t at class_k before after end r
  no-class after r h = record { says = λ ds path d y sc gp g f. absurd (class-has-word t at d h f) }

  module _ (start len row : ℕ) (h : WordHere t at start len) (i : Inside t (start + len) row) where
    abbrev w : Name
    w = part t start len

    abbrev names : List Name
    names = words_in (frames_at t row).here

    -- "permission twice in a class"
    pub class-repeats : not (differ names) ≡ true → DeclaresAt t at class_k before before end (Err Fault.DeclaredAgain)
    class-repeats q = record {
      says = λ ds path d y sc gp g f.
          subst (λ (x : Declaration). Declares before before end ds (full_declaration path x) (Err Fault.DeclaredAgain)) (sym (class-here h i d g f).0)
          (rw (not-true (differ names) q) (and-false (not (is_in (full path w) (class_names ds)))), refl);
    }

    module _ (once : not (differ names) ≡ false) where
      -- "6 for a full name too long": none of the names before it is so long, so it is new
      pub class-too-long : ((path : List Name) → InScope before path → 64 < length (full path w)) → DeclaresAt t at class_k before before end (Err Fault.MaximumPassed)
      class-too-long l = record {
        says = λ ds path d y sc gp g f.
            let v = full path w in
            let missing : is_in v (class_names ds) ≡ false = sym (class-found ds v) ∙ ap is_some (long-missing 3 v y (l path sc)) in
            subst (λ (x : Declaration). Declares before before end ds (full_declaration path x) (Err Fault.MaximumPassed)) (sym (class-here h i d g f).0) (
              true-both (not (is_in v (class_names ds))) (differ names) (ap not missing) (not-false (differ names) once),
              rw (lt-leb (length v) 64 (l path sc)) (and-false (has_room ds (class v names))),
              refl,
            );
      }

      -- under the full name v
      pub class-named : {v : Name} → FullIs before w v → {after : List ℕ} {r : Result ℕ Fault} → DeclaresClass v names before after end r
          → DeclaresAt t at class_k before after end r
      class-named {v} full-name {after} {r} q = record {
        says = λ ds path d y sc gp g f.
            let c = class-here h i d g f in
            let is = full-name.is path sc in
            let short : is_short (full_declaration path (class w names)) ≡ true =
            le-leb (length (full path w)) 64 (omega (arith, ap length is, full-name.short path sc (both_true (is_good_part w) (good_permissions names) c.1).0)) in
            let good = declaration-good path (class w names) gp c.1 short in
            subst (λ (x : Declaration). Declares before after end ds (full_declaration path x) r) (sym c.0)
            (subst (λ (x : Name). Declares before after end ds (class x names) r) is
            (q.says ds y (not-false (differ names) once) (subst (λ (x : Name). good_names (class x names) ≡ true) (sym is) good)));
      }
