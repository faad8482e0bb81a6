-- What declaring a name comes to: what the lookup said of its full name decides fault 4, the length of that and the count of its sort fault 6, and otherwise
-- its entry has room and is written. Assumes nothing.
use Rattle.std.specs.Option.{ok_or}
use Rattle.std.specs.Prelude.{Err, None, Ok, Option, Result, Some}
use Rattle.policy.specs.declared.Fault.{Fault}
use mathlib.Core.Path.{◌≡◌, refl, sym, ap, ap₂, subst, ◌∙◌}
use mathlib.Core.Bool.{true, false, not, and-false}
use mathlib.Core.List.{List, [], ◌∷◌, ◌++◌}
use Prim.Native.Nat.{ℕ, ◌≤◌, ◌<◌}
use native.Mathlib.Omega.{arith}
use borrow.Author.Tests.{lt-ltb, le-ltb, le-leb, lt-leb}
use lib.ListN.{length}
use Rattle.byte_slices.specs.Parts.{part}
use Rattle.lexer.specs.Forms.{frames_at}
use Rattle.policy.specs.Basics.{Name, is_in}
use Rattle.policy.specs.Statements.{Sort, Declaration, plain, family_of, family_names, count}
use Rattle.policy.specs.Maxima.{max_of}
use Rattle.policy.specs.Names.{full}
use Rattle.policy.specs.Reading.{is_new, has_room, is_short, full_declaration}
use Rattle.policy.specs.Encode.{NameEntry, name_entry, sort_code, entries_of, entries}
use Rattle.policy.specs.Sound.{is_good}
use Rattle.policy.proofs.Lists.{true-both}
use Rattle.policy.proofs.Counts.{few-classes}
use Rattle.policy.proofs.Sorts.{max-small, code_below}
use Rattle.reading_laws.proofs.FullNames.{full-good}
use Rattle.table_laws.proofs.NamesRoom.{name-short, entries-room}
use Rattle.symbols.specs.Lookup.{family_number, most_of, first_named}
use Rattle.symbols.specs.SearchAnswers.{family_code}
use Rattle.std.specs.Prelude.{Option, Some, None, is_some}
use Rattle.symbols.specs.declared.Symbol.{Symbol}
use Rattle.symbols.proofs.ReferencesFound.{reference-found, code_of, family-below}
use Rattle.symbols.proofs.CountLaws.{most-of}
use Rattle.symbols.proofs.DeclaredEntries.{entries-more}
use Rattle.name_chains.specs.Chains.{Chained}
use Rattle.scopes.specs.Scope.{InScope}
use Rattle.name_rows.specs.WordRows.{words_in, WordHere}
use Rattle.declarations.specs.SortCounts.{standing, Stands}
use Rattle.declarations.specs.NewEntries.{Entered, Enters, Indexable}
use Rattle.declarations.specs.Declares.{Holds, Declares, DeclaresName, DeclaresPlain}
use Rattle.declarations.proofs.SymbolMemory.{long-missing, room_for}
use Rattle.declarations.proofs.DeclarationForms.{plain-has-word, plain_here}
use Rattle.declarations.proofs.FullNames.{FullIs}

-- ---- what the lookup said

pub taken-found : (f : Option Symbol) (c : ℕ) (e : Fault) → Err e ≡ standing f c → (is_some f ≡ true) × (e ≡ Fault.DeclaredAgain)
taken-found (Some x) c e h = (refl, let z : e ≡ Fault.DeclaredAgain = cc in z)
taken-found None c e h = absurd (let z : ◌≡◌ {A = ℕ} 0 1 = cc in omega arith)

pub free-missing : (f : Option Symbol) (c n : ℕ) → Ok n ≡ standing f c → (is_some f ≡ false) × (c ≡ n)
free-missing (Some x) c n h = absurd (let z : ◌≡◌ {A = ℕ} 0 1 = cc in omega arith)
free-missing None c n h = (refl, let z : c ≡ n = cc in z)

-- whether the family of a sort has a name
abbrev found : ℕ → List Declaration → Name → Option Symbol
found sort ds v = first_named (family_number sort 0) v (entries ds)

is-in : (sort : ℕ) (s : Sort) → sort ≡ sort_code s → (ds : List Declaration) (v : Name) → is_some (found sort ds v) ≡ is_in v (family_names (family_of s) ds)
is-in sort s e ds v = ap (λ (n : ℕ). is_some (first_named n v (entries ds))) (ap (λ (x : ℕ). family_number x 0) e ∙ code_of s 0) ∙ reference-found ds (family_of s) v

-- ---- a thing or an attribute of a full name

module _ (sort : ℕ) (v : Name) (before : List ℕ) (end : ℕ) where
  -- "name declared again in its family"
  pub name-taken : (f : Fault) → Stands before sort v (Err f) → DeclaresPlain sort v before before end (Err f)
  name-taken f q = record {
    says = λ ds s e y good.
        let h = taken-found (found sort ds v) (count s ds) f (q.names end ds s y e) in
        subst (λ (x : Fault). Declares before before end ds (plain s v) (Err x)) (sym h.1) (ap not (sym (is-in sort s e ds v) ∙ h.0), refl);
  }

  module _ {number most : ℕ} (q : Stands before sort v (Ok number)) (m : most ≡ most_of sort) where
    is_free : (s : Sort) → sort ≡ sort_code s → {ds : List Declaration} → Holds before end ds → (is_some (found sort ds v) ≡ false) × (count s ds ≡ number)
    is_free s e {ds} y = free-missing (found sort ds v) (count s ds) number (q.names end ds s y e)

    is-new : (s : Sort) → sort ≡ sort_code s → {ds : List Declaration} → Holds before end ds → is_new ds (plain s v) ≡ true
    is-new s e {ds} y = ap not (sym (is-in sort s e ds v) ∙ (is_free s e y).0)

    count-is : (s : Sort) → sort ≡ sort_code s → {ds : List Declaration} → Holds before end ds → count s ds ≡ number
    count-is s e y = (is_free s e y).1

    max-is : (s : Sort) → sort ≡ sort_code s → most ≡ max_of s
    max-is s e = m ∙ ap most_of e ∙ most-of s

    -- "one of the other maxima passed"
    pub name-full : most ≤ number → DeclaresPlain sort v before before end (Err Fault.MaximumPassed)
    name-full l = record {
      says = λ ds s e y good. (is-new s e y, rw (le-ltb (count s ds) (max_of s) (omega (arith, count-is s e y, max-is s e))), refl);
    }

    module _ (after : List ℕ) (l : number < most) where
      has_room_lem : (s : Sort) → sort ≡ sort_code s → {ds : List Declaration} → Holds before end ds → has_room ds (plain s v) ≡ true
      has_room_lem s e {ds} y = lt-ltb (count s ds) (max_of s) (omega (arith, count-is s e y, max-is s e))

      entries-are : (s : Sort) → sort ≡ sort_code s → {ds : List Declaration} → Holds before end ds → name_entry sort number v ∷ [] ≡ entries_of ds (plain s v)
      entries-are s e y = ap₂ (λ (k n : ℕ). name_entry k n v ∷ []) e (sym (count-is s e y))

      entry-indexable : (s : Sort) → sort ≡ sort_code s → {ds : List Declaration} → Holds before end ds → Indexable (entries ds) (name_entry sort number v ∷ [])
      unfolding Indexable
      entry-indexable s e {ds} y =
          let family : family_number sort number ≡ family_code (family_of s) = ap (λ (x : ℕ). family_number x number) e ∙ code_of s number in (
            omega (arith, entries-room ds y.good, few-classes ds y.good),
            omega (arith, l, max-is s e, max-small s),
            omega (arith, family, family-below (family_of s)),
            tt,
          )

      added : (a : Option ℕ) → Enters before after end (name_entry sort number v ∷ []) a → (s : Sort) → sort ≡ sort_code s → (ds : List Declaration)
          → Holds before end ds → is_good v ≡ true → Declares before after end ds (plain s v) (ok_or a Fault.MaximumPassed)
      added (Some past) n s e ds y good =
          let x = subst (λ (es : List NameEntry). Entered before after end es past) (entries-are s e y) n.is in
          record {
            new = is-new s e y;
            room = true-both (has_room ds (plain s v)) (is_short (plain s v)) (has_room_lem s e y) (le-leb (length v) 64 (name-short v good));
            written = x.written;
            long = x.long;
            moved = x.moved;
            fits = x.fits;
            chained =
                subst (Chained after past) (ap (λ (es : List NameEntry). entries ds ++ es) (entries-are s e y) ∙ sym (entries-more ds (plain s v)))
                (n.is.chained (entries ds) y.chained (entry-indexable s e y));
            scope = x.scope;
          }
      added None n s e ds y good =
          let room = room_for y (plain s v) good (is-new s e y) (has_room_lem s e y) in
          absurd (n.is (record { room = rw (entries-are s e y) room; short = (name-short v good, tt) }))

      pub name-added : (a : Option ℕ) (r : Result ℕ Fault) → Enters before after end (name_entry sort number v ∷ []) a → r ≡ ok_or a Fault.MaximumPassed → DeclaresPlain sort v before after end r
      name-added a r n z = record { says = λ ds s e y good. subst (Declares before after end ds (plain s v)) (sym z) (added a n s e ds y good) }

-- ---- a thing or an attribute as it is in the text

module _ (t : List ℕ) (at sort : ℕ) (before : List ℕ) (end : ℕ) where
  -- no sort of things or attributes has such a number; no name is there
  pub no-sort : (after : List ℕ) (r : Result ℕ Fault) → 6 ≤ sort → DeclaresName t at sort before after end r
  no-sort after r h = record { of = λ s e. absurd (omega (arith, code_below s)) }

  pub no_name : (after : List ℕ) (r : Result ℕ Fault) → words_in (frames_at t at).here ≡ [] → DeclaresName t at sort before after end r
  no_name after r h = record { of = λ s e. record { says = λ ds path d y sc gp g f. absurd (plain-has-word t at s d h f) } }

  module _ (start len : ℕ) (h : WordHere t at start len) where
    abbrev w : Name
    w = part t start len

    -- "6 for a full name too long": none of the names before it is so long, so it is new
    pub name-too-long : ((path : List Name) → InScope before path → 64 < length (full path w)) → DeclaresName t at sort before before end (Err Fault.MaximumPassed)
    name-too-long l = record {
      of = λ s e. record {
        says = λ ds path d y sc gp g f.
            let v = full path w in
            let missing : is_in v (family_names (family_of s) ds) ≡ false =
            sym (is-in sort s e ds v) ∙ ap is_some (long-missing (family_number sort 0) v y (l path sc)) in
            subst (λ (x : Declaration). Declares before before end ds (full_declaration path x) (Err Fault.MaximumPassed)) (sym (plain_here h s d g f).0)
            (ap not missing, rw (lt-leb (length v) 64 (l path sc)) (and-false (has_room ds (plain s v))), refl);
      };
    }

    -- under the full name v
    pub name-named : {v : Name} → FullIs before w v → {after : List ℕ} {r : Result ℕ Fault} → DeclaresPlain sort v before after end r → DeclaresName t at sort before after end r
    name-named {v} full-name {after} {r} q = record {
      of = λ s e. record {
        says = λ ds path d y sc gp g f.
            let p = plain_here h s d g f in
            let is = full-name.is path sc in
            let good = full-good path w gp p.1 (omega (arith, ap length is, full-name.short path sc p.1)) in
            subst (λ (x : Declaration). Declares before after end ds (full_declaration path x) r) (sym p.0)
            (subst (λ (x : Name). Declares before after end ds (plain s x) r) is (q.says ds s e y (subst (λ (x : Name). is_good x ≡ true) (sym is) good)));
      };
    }
