-- The memory holds the symbols of declarations: they are the symbol table, one more declaration's entries after them are the symbols with it, and
-- for a declaration that the maxima allow there is room. Assumes nothing.
use mathlib.Core.Path.{◌≡◌, refl, sym, ap, ◌∙◌}
use mathlib.Core.Bool.{true}
use mathlib.Core.List.{List, [], ◌∷◌, ◌++◌}
use Prim.Native.Nat.{ℕ, ◌+◌, ◌<◌, ◌≤◌}
use native.Mathlib.Omega.{arith}
use lib.ListN.{length, length-append}
use lib.Seq.{length-take-le}
use Rattle.bitset.specs.Relations.{joined}
use Rattle.policy.specs.Basics.{Name, each}
use Rattle.policy.specs.Statements.{Declaration}
use Rattle.policy.specs.Reading.{is_new, has_room}
use Rattle.policy.specs.Encode.{NameEntry, entry_bytes, entries_of, entries}
use Rattle.policy.specs.Sound.{good_names, good_from}
use Rattle.policy.proofs.Good.{good_more}
use Rattle.policy.specs.Names.{environment_of}
use Rattle.scopes.specs.Scope.{InScope}
use Rattle.scopes.specs.Symbols.{Symbols}
use Rattle.scopes.proofs.TryLaws.{too-long-tries}
use Rattle.symbols.specs.Lookup.{first_named}
use Rattle.std.specs.Prelude.{None}
use Rattle.symbols.proofs.DeclaredEntries.{entries-more}
use Rattle.symbols.specs.Section.{name_bytes}
use Rattle.table_laws.proofs.NamesRoom.{names-length, names-room}
use Rattle.declarations.specs.Declares.{section_of, Holds}
use Rattle.declarations.proofs.NewEntryLaws.{bytes-append}

pub holds-symbols : {table : List ℕ} {end : ℕ} {ds : List Declaration} {path : List Name} → Holds table end ds → InScope table path
    → Symbols table (environment_of ds path)
holds-symbols {end = end} {ds} {path} h sc = record { declared = ds; path = path; end = end; is = refl; good = h.good; chained = h.chained; scope = sc }

-- no name of theirs is longer than 64 bytes, so a longer one is not found
pub long-missing : {table : List ℕ} {end : ℕ} {ds : List Declaration} (f : ℕ) (w : Name) → Holds table end ds → 64 < length w
    → first_named f w (entries ds) ≡ None
long-missing {table} {end} {ds} f w h l = sym ((too-long-tries {t = table} {f = f} {w = w} l).tries end (entries ds) h.chained).finds

-- ---- one more declaration

section-more : (ds : List Declaration) (d : Declaration) → section_of (ds ++ (d ∷ [])) ≡ section_of ds ++ joined (each entry_bytes (entries_of ds d))
unfolding section_of
section-more ds d = ap (λ (es : List NameEntry). joined (each entry_bytes es)) (entries-more ds d) ∙ bytes-append (entries ds) (entries_of ds d)

-- "2,016 entries of at most 68 bytes"
section-short : (ds : List Declaration) → good_from [] ds ≡ true → length (section_of ds) ≤ name_bytes
unfolding section_of
section-short ds h = omega (arith, names-length (entries ds), names-room ds h)

module _ {table : List ℕ} {end : ℕ} {ds : List Declaration} (h : Holds table end ds) where
  section-long : length (section_of ds) ≡ end
  section-long = ap length (sym h.front) ∙ length-take-le end table h.inside

  -- there is room for a declaration that is new and passes no maximum
  pub room_for : (d : Declaration) → good_names d ≡ true → is_new ds d ≡ true → has_room ds d ≡ true
      → end + length (joined (each entry_bytes (entries_of ds d))) ≤ name_bytes
  room_for d g n r =
      let more = length-append (section_of ds) (joined (each entry_bytes (entries_of ds d))) in
      let whole : length (section_of (ds ++ (d ∷ []))) ≡ length (section_of ds ++ joined (each entry_bytes (entries_of ds d))) = ap length (section-more ds d) in
      omega (arith, section-short (ds ++ (d ∷ [])) (good_more ds d h.good (record { names = g; new = n; room = r })), section-long)
