-- Only the bytes of entries are read as names: where `names_at` finds declarations, the bytes are those of their entries. Entries agree
-- with those of the declarations in sort and name by how they are grouped, and in number by the test. Assumes nothing.
use Prim.Native.Nat.{ℕ, zero, suc, ◌+◌, ◌*◌, ◌<◌, ◌≤◌}
use mathlib.Core.Path.{◌≡◌, refl, sym, ap, ◌∙◌, subst}
use mathlib.Core.Bool.{Bool, true, false}
use mathlib.Core.List.{List, [], ◌∷◌, ◌++◌}
use mathlib.Core.Option.{some, none-ne-some, some-injective}
use lib.Dec.{eqb, leb}
use lib.ListN.{length, take, drop, take-append-drop}
use lib.Seq.{length-take-le}
use borrow.Author.Tests.{eqb-true, leb-true}
use Rattle.bitset.specs.Relations.{joined}
use Rattle.policy.specs.Basics.{Name, ◌>>=◌, given, more, each, le}
use Rattle.policy.specs.Statements.{users, roles, types, Sort, thing_of, attribute_of, Declaration, plain, class, class_names}
use Rattle.policy.specs.Encode.{NameEntry, name_entry, sort_code, permission_entries, entries_from, entries, entry_bytes}
use Rattle.policy.specs.Sound.{entries_in, Grouped, sort_of, grouping, group, none_waits, same_numbers, names_at}
use Rattle.policy.proofs.Lists.{both_true}
use Rattle.policy.proofs.Options.{if_some, given-some}
use Rattle.table_laws.specs.SoundTable.{Bytes}
use Rattle.table_laws.proofs.ListLaws.{bound, more-after, all_drop}
use Rattle.table_laws.proofs.LittleEndian.{le-two}
use Rattle.table_laws.proofs.NamesReadBack.{grouped}

-- bytes that are read as entries are those entries' bytes
entries-only : (k : ℕ) (t : List ℕ) (es : List NameEntry) → Bytes t → entries_in k t ≡ some es → joined (each entry_bytes es) ≡ t
unfolding entries_in joined each le
entries-only zero [] es b h = ap (λ (es : List NameEntry). joined (each entry_bytes es)) (sym (some-injective [] es h))
entries-only zero (s ∷ t) es b h = absurd (none-ne-some es h)
entries-only (suc k) [] es b h = ap (λ (es : List NameEntry). joined (each entry_bytes es)) (sym (some-injective [] es h))
entries-only (suc k) (s ∷ []) es b h = absurd (none-ne-some es h)
entries-only (suc k) (s ∷ x ∷ []) es b h = absurd (none-ne-some es h)
entries-only (suc k) (s ∷ x ∷ y ∷ []) es b h = absurd (none-ne-some es h)
entries-only (suc k) (s ∷ x ∷ y ∷ n ∷ t) es b h =
    let e = name_entry s (x + 256 * y) (take n t) in
    let g = if_some (leb n (length t)) (more (some e) (entries_in k (drop n t))) es h in
    let m = more-after e (entries_in k (drop n t)) es g.1 in
    let after = entries-only k (drop n t) m.0 (all_drop (λ b. b < 256) n t b.1.1.1.1) m.1 in
    ap (λ (es : List NameEntry). joined (each entry_bytes es)) m.2
    ∙ whole (joined (each entry_bytes m.0)) b.1.0 b.1.1.0 (leb-true n (length t) g.0) after
  where
    whole : (r : List ℕ) → x < 256 → y < 256 → n ≤ length t → r ≡ drop n t → entry_bytes (name_entry s (x + 256 * y) (take n t)) ++ r ≡ s ∷ x ∷ y ∷ n ∷ t
    whole r hx hy l e =
        ap {B = List ℕ} (λ (p : List ℕ). s ∷ (p ++ (length (take n t) ∷ take n t)) ++ r) (le-two x y hx hy) ∙ rw (length-take-le n t l, e, take-append-drop n t)

-- the same sorts and names, in order
abbrev Alike : List NameEntry → List NameEntry → Type 0
Alike [] [] = Unit {0}
Alike [] (e ∷ es) = ⊥
Alike (d ∷ ds) [] = ⊥
Alike (d ∷ ds) (e ∷ es) = (d.sort ≡ e.sort) × (d.name ≡ e.name) × Alike ds es

-- with the same numbers too they are the same
alike_same : (ds es : List NameEntry) → Alike ds es → same_numbers ds es ≡ true → ds ≡ es
unfolding same_numbers
alike_same [] [] a h = refl
alike_same [] (e ∷ es) a h = absurd a
alike_same (d ∷ ds) [] a h = absurd a
alike_same (d ∷ ds) (e ∷ es) a h =
    let p = both_true (eqb d.number e.number) (same_numbers ds es) h in
    let number = eqb-true d.number e.number p.0 in
    let after = alike_same ds es a.2 p.1 in
    λ i. name_entry (a.0 i) (number i) (a.1 i) ∷ after i

sort-only : (n : ℕ) (s : Sort) → sort_of n ≡ some s → n ≡ sort_code s
sort-only zero s h = ap sort_code (some-injective (thing_of users) s h)
sort-only (suc zero) s h = ap sort_code (some-injective (thing_of roles) s h)
sort-only (suc (suc zero)) s h = ap sort_code (some-injective (thing_of types) s h)
sort-only (suc (suc (suc zero))) s h = ap sort_code (some-injective (attribute_of users) s h)
sort-only (suc (suc (suc (suc zero)))) s h = ap sort_code (some-injective (attribute_of roles) s h)
sort-only (suc (suc (suc (suc (suc zero))))) s h = ap sort_code (some-injective (attribute_of types) s h)
sort-only (suc (suc (suc (suc (suc (suc n)))))) s h = absurd (none-ne-some s h)

-- entries that are grouped are alike to the entries of the permissions that wait, and then of the declarations
abbrev Grows : List NameEntry → Grouped → Type 0
Grows es g = (n : ℕ) (earlier : List Declaration) → Alike es (permission_entries n g.waiting ++ entries_from earlier g.done)

grow : (e : NameEntry) (es : List NameEntry) (ws : List Name) (ds : List Declaration) → Grows es (grouped ws ds)
    → (b : Bool) → eqb e.sort 7 ≡ b → (r : Grouped) → grouping e (grouped ws ds) ≡ some r → Grows (e ∷ es) r
unfolding permission_entries entries_from
grow e es ws ds k true q r h =
    subst (Grows (e ∷ es)) (some-injective (grouped (e.name ∷ ws) ds) r (rw q at h))
    (λ n earlier. (eqb-true e.sort 7 q, refl, k (n + 1) earlier))
grow e es [] ds k false q r h =
    let b = bound (sort_of e.sort) (λ s. some (grouped [] (plain s e.name ∷ ds))) r (rw q at h) in
    subst (Grows (e ∷ es)) (some-injective (grouped [] (plain b.0 e.name ∷ ds)) r b.2)
    (λ n earlier. (sort-only e.sort b.0 b.1, refl, k n (earlier ++ (plain b.0 e.name ∷ []))))
grow e es (w ∷ ws) ds k false q r h =
    let g = given-some (eqb e.sort 6) (grouped [] (class e.name (w ∷ ws) ∷ ds)) r (rw q at h) in
    subst (Grows (e ∷ es)) g.1
    (λ n earlier. (eqb-true e.sort 6 g.0, refl, k (length (class_names earlier) * 32) (earlier ++ (class e.name (w ∷ ws) ∷ []))))

group-only : (es : List NameEntry) (g : Grouped) → group es ≡ some g → Grows es g
unfolding group permission_entries entries_from
group-only [] g h = subst (Grows []) (some-injective (grouped [] []) g h) (λ n earlier. tt)
group-only (e ∷ es) g h =
    let b = bound (group es) (grouping e) g h in
    grow e es b.0.waiting b.0.done (group-only es b.0 b.1) (eqb e.sort 7) refl g b.2

none-waits : (ws : List Name) (done ds : List Declaration) → none_waits (grouped ws done) ≡ some ds → (ws ≡ []) × (done ≡ ds)
none-waits [] done ds h = (refl, some-injective done ds h)
none-waits (w ∷ ws) done ds h = absurd (none-ne-some ds h)

-- only the bytes of the entries of declarations are read as those declarations
pub names-only : (t : List ℕ) (ds : List Declaration) → Bytes t → names_at t ≡ some ds → joined (each entry_bytes (entries ds)) ≡ t
unfolding names_at entries permission_entries
names-only t ds b h =
    let x = bound (entries_in (length t) t) (λ es. group es >>= none_waits >>= λ ds. given (same_numbers es (entries ds)) ds) ds h in
    let y = bound (group x.0 >>= none_waits) (λ ds. given (same_numbers x.0 (entries ds)) ds) ds x.2 in
    let z = bound (group x.0) none_waits y.0 y.1 in
    let w = none-waits z.0.waiting z.0.done y.0 z.2 in
    let g = given-some (same_numbers x.0 (entries y.0)) y.0 ds y.2 in
    let alike : Alike x.0 (entries y.0) = rw (w.0, w.1) at (group-only x.0 z.0 z.1 0 []) in
    ap (λ (ds : List Declaration). joined (each entry_bytes (entries ds))) (sym g.1)
    ∙ ap (λ (es : List NameEntry). joined (each entry_bytes es)) (sym (alike_same x.0 (entries y.0) alike g.0))
    ∙ entries-only (length t) t x.0 b x.1
