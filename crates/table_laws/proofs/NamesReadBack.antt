-- Body 1 is read back: the names of `encode i` are those of i. By induction on the entries and on the declarations. Assumes nothing.
use Prim.Native.Nat.{ℕ, zero, suc, ◌+◌, ◌*◌, ◌/◌, ◌%◌, ◌<◌, ◌≤◌}
use native.Mathlib.Omega.{arith}
use mathlib.Core.Path.{◌≡◌, refl}
use mathlib.Core.Bool.{true}
use mathlib.Core.List.{List, [], ◌∷◌, ◌++◌}
use mathlib.Core.Option.{some}
use lib.ListN.{length, length-append}
use lib.Seq.{take-append_seam, drop-append_seam}
use borrow.Author.Tests.{eq-eqb, le-leb}
use Rattle.bitset.specs.Relations.{joined}
use Rattle.policy.specs.Basics.{Name, each, le, All}
use Rattle.policy.specs.Statements.{users, roles, types, Sort, thing_of, attribute_of, Declaration, plain, class, count, class_names}
use Rattle.policy.specs.Encode.{NameEntry, name_entry, sort_code, permission_entries, entries_from, entries, entry_bytes}
use Rattle.policy.specs.Sound.{entries_in, Grouped, grouping, group, same_numbers, names_at}
use Rattle.table_laws.proofs.LayoutLaws.{fits}

-- the number fits two bytes
abbrev pub SmallNumber : NameEntry → Type 0
SmallNumber e = e.number < 65536

two : (n : ℕ) → n < 65536 → n % 256 + 256 * (n / 256 % 256) ≡ n
two n h = omega arith

-- entries are read back from their bytes
entries-back : (es : List NameEntry) (k : ℕ) → All SmallNumber es → length es ≤ k → entries_in k (joined (each entry_bytes es)) ≡ some es
unfolding entries_in joined each le
entries-back [] zero h l = refl
entries-back [] (suc k) h l = refl
entries-back (e ∷ es) zero h l = absurd (omega arith)
entries-back (e ∷ es) (suc k) h l =
    rw (
      le-leb (length e.name) (length (e.name ++ joined (each entry_bytes es))) (fits e.name (joined (each entry_bytes es))),
      take-append_seam e.name (joined (each entry_bytes es)),
      drop-append_seam e.name (joined (each entry_bytes es)),
      two e.number h.0,
      entries-back es k h.1 (omega arith),
    )

entries-long : (es : List NameEntry) → length es ≤ length (joined (each entry_bytes es))
unfolding joined each le
entries-long [] = omega arith
entries-long (e ∷ es) = omega (arith, length-append e.name (joined (each entry_bytes es)), entries-long es)

same-numbers : (es : List NameEntry) → same_numbers es es ≡ true
unfolding same_numbers
same-numbers [] = refl
same-numbers (e ∷ es) = rw (eq-eqb e.number e.number refl, same-numbers es)

abbrev pub grouped : List Name → List Declaration → Grouped
grouped ws ds = record { waiting = ws; done = ds }

-- a class's permissions wait, in order
group-permissions : (ps : List Name) (n : ℕ) (es : List NameEntry) (ds : List Declaration) → group es ≡ some (grouped [] ds)
    → group (permission_entries n ps ++ es) ≡ some (grouped ps ds)
unfolding permission_entries group
group-permissions [] n es ds h = h
group-permissions (p ∷ ps) n es ds h = rw (group-permissions ps (n + 1) es ds h)

group-plain : (s : Sort) (n : ℕ) (w : Name) (ds : List Declaration) → grouping (name_entry (sort_code s) n w) (grouped [] ds) ≡ some (grouped [] (plain s w ∷ ds))
group-plain (thing_of users) n w ds = refl
group-plain (thing_of roles) n w ds = refl
group-plain (thing_of types) n w ds = refl
group-plain (attribute_of users) n w ds = refl
group-plain (attribute_of roles) n w ds = refl
group-plain (attribute_of types) n w ds = refl

-- a class has a permission
abbrev pub Peopled : Declaration → Type 0
Peopled (plain s w) = Unit {0}
Peopled (class w []) = ⊥
Peopled (class w (p ∷ ps)) = Unit {0}

-- the entries of declarations are grouped into those declarations
group-back : (earlier ds : List Declaration) → All Peopled ds → group (entries_from earlier ds) ≡ some (grouped [] ds)
unfolding entries_from group permission_entries
group-back earlier [] h = refl
group-back earlier (plain s w ∷ ds) h = rw (group-back (earlier ++ (plain s w ∷ [])) ds h.1) (group-plain s (count s earlier) w ds)
group-back earlier (class w [] ∷ ds) h = absurd h.0
group-back earlier (class w (p ∷ ps) ∷ ds) h =
    rw (group-permissions ps (length (class_names earlier) * 32 + 1) (entries_from (earlier ++ (class w (p ∷ ps) ∷ [])) ds) ds
    (group-back (earlier ++ (class w (p ∷ ps) ∷ [])) ds h.1))

-- the names are read back
pub names-back : (ds : List Declaration) → All Peopled ds → All SmallNumber (entries ds) → names_at (joined (each entry_bytes (entries ds))) ≡ some ds
unfolding names_at entries
names-back ds h small =
    rw (
      entries-back (entries_from [] ds) (length (joined (each entry_bytes (entries_from [] ds)))) small (entries-long (entries_from [] ds)),
      group-back [] ds h,
      same-numbers (entries_from [] ds),
    )
