-- A body 1 is sound exactly where its bytes are entries that may follow one another; it then holds what these declare. Assumes nothing.
use mathlib.Core.Path.{◌≡◌, refl, sym, ap, subst, ◌∙◌}
use mathlib.Core.Bool.{Bool, true, false}
use mathlib.Core.List.{List, []}
use mathlib.Core.Option.{Option, none, some, none-ne-some, some-injective}
use Prim.Native.Nat.{ℕ, ◌<◌}
use Rattle.bitset.specs.Relations.{joined}
use Rattle.policy.specs.Basics.{◌>>=◌, given, each}
use Rattle.policy.specs.Statements.{Declaration}
use Rattle.policy.specs.Encode.{NameEntry, entry_bytes, entries}
use Rattle.policy.specs.Sound.{good_from, names_at}
use Rattle.policy.proofs.Gathered.{all_map}
use Rattle.policy.proofs.Options.{given-some}
use Rattle.symbols.specs.Section.{section_in, exact_entries}
use Rattle.symbols.proofs.ReadBack.{Small, read_back, only-written, policy-reads}
use Rattle.table_laws.specs.SoundTable.{Bytes}
use Rattle.table_laws.proofs.ListLaws.{bound}
use Rattle.table_laws.proofs.NamesReadBack.{names-back}
use Rattle.table_laws.proofs.NamesOnly.{names-only}
use Rattle.table_laws.proofs.NamesFit.{GoodEntry, peopled, entries_fit}
use Rattle.sound_names.specs.SoundNames.{sound_names}
use Rattle.sound_names.specs.EntryOrder.{complete, declared, closes, declaring, finished, declares}
use Rattle.sound_names.proofs.EntryOrderLaws.{closed-good, good-declared, start, declared-good}

small : (ds : List Declaration) → good_from [] ds ≡ true → Small (entries ds)
unfolding entries
small ds g = all_map GoodEntry (λ (e : NameEntry). e.number < 65536) (λ e h. h.number) (entries ds) (entries_fit [] ds g)

-- what entries declare is good, and they are its entries
declares-only : (es : List NameEntry) (ds : List Declaration) → declares es ≡ some ds → (es ≡ entries ds) × (good_from [] ds ≡ true)
declares-only es ds h =
    let b = bound (declaring (complete []) es) finished ds h in
    let g = given-some (closes b.0) (declared b.0) ds b.2 in
    let f = declared-good [] (complete []) start es b.0 b.1 in
    (f.are ∙ ap entries g.1, subst (λ (x : List Declaration). good_from [] x ≡ true) g.1 (closed-good b.0 f.good g.0))

module _ (body : List ℕ) (bytes : Bytes body) where
  module _ (es : List NameEntry) (read : exact_entries (section_in body) ≡ some es) where
    sound-where : (ds : List Declaration) → declares es ≡ some ds → sound_names body ≡ some ds
    unfolding sound_names
    sound-where ds h =
        let d = declares-only es ds h in
        let written : body ≡ joined (each entry_bytes (entries ds)) =
        only-written body es bytes read ∙ ap (λ (x : List NameEntry). joined (each entry_bytes x)) d.0 in
        let names : names_at body ≡ some ds = ap names_at written ∙ names-back ds (peopled [] ds d.1) (small ds d.1) in
        rw (names, d.1)

    unsound-where : declares es ≡ none → sound_names body ≡ none
    unfolding sound_names
    unsound-where h = by (names_at body) refl
      where
        good : (ds : List Declaration) → names_at body ≡ some ds → (q : Bool) → good_from [] ds ≡ q → given q ds ≡ none
        good ds n false g = refl
        good ds n true g =
            let same : some es ≡ some (entries ds) =
            sym read ∙ ap (λ (x : List ℕ). exact_entries (section_in x)) (sym (names-only body ds bytes n)) ∙ read_back (entries ds) (small ds g) in
            absurd (none-ne-some ds (sym h ∙ ap declares (some-injective es (entries ds) same) ∙ good-declared ds g))

        by : (o : Option (List Declaration)) → names_at body ≡ o → (o >>= λ ds. given (good_from [] ds) ds) ≡ none
        by none n = refl
        by (some ds) n = good ds n (good_from [] ds) refl

  -- what a body's entries declare is what it soundly names
  pub sound-declares : sound_names body ≡ (exact_entries (section_in body) >>= declares)
  unfolding sound_names names_at
  sound-declares = by (exact_entries (section_in body)) refl
    where
      some_read : (es : List NameEntry) → exact_entries (section_in body) ≡ some es → (o : Option (List Declaration)) → declares es ≡ o → sound_names body ≡ o
      some_read es r none h = unsound-where es r h
      some_read es r (some ds) h = sound-where es r ds h

      by : (o : Option (List NameEntry)) → exact_entries (section_in body) ≡ o → sound_names body ≡ (o >>= declares)
      by none r = rw (sym (policy-reads body) ∙ r)
      by (some es) r = some_read es r (declares es) refl
