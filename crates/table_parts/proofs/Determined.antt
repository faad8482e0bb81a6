-- A TABLE'S ANSWERS TO NAME OF AND ENTRY DETERMINE ITS IMAGE: from them alone the whole image can be read back. The order of names of
-- different sorts is the order of their places. Assumes nothing.
use Prim.Native.Nat.{ℕ, zero, suc, ◌+◌, ◌*◌, ◌/◌, ◌%◌, ◌<◌, ◌≤◌}
use native.Mathlib.Omega.{arith}
use mathlib.Core.Path.{◌≡◌, refl, sym, ap, ap₂, ◌∙◌, subst}
use mathlib.Core.Bool.{Bool, true, false, ◌&&◌, cond}
use mathlib.Core.List.{List, [], ◌∷◌, ◌++◌}
use mathlib.Core.Option.{Option, none, some, some-injective}
use lib.Dec.{eqb}
use lib.ListN.{length, get_elem?, take, drop}
use lib.Seq.{take_at, drop_at}
use borrow.Author.Tests.{eqb-true, eq-eqb}
use Rattle.bitset.specs.Relations.{joined}
use Rattle.policy.specs.Basics.{Name, ◌>>=◌, each, each_of, le, All}
use Rattle.policy.specs.Statements.{Family, users, roles, types, Sort, thing_of, attribute_of, Declaration, names_of, class_names, permissions, count}
use Rattle.policy.specs.Rows.{Row}
use Rattle.policy.specs.Image.{Image}
use Rattle.policy.specs.Encode.{NameEntry, name_entry, sort_code, entry_bytes, entries, first_body}
use Rattle.policy.specs.Sound.{edition_in, names_at, transition_at, constraint_at, row_at, assign_rows, relabel_at, assign_relabels}
use Rattle.policy.specs.Deciding.{Reply, answered, refused}
use Rattle.policy.specs.Questions.{Part, name_from, name_of, name_on, asked}
use Rattle.policy.proofs.Lists.{both_true}
use Rattle.policy.proofs.Gathered.{all_map}
use Rattle.table_laws.specs.SoundTable.{Sound}
use Rattle.table_laws.proofs.NamesFit.{GoodEntry, entries_fit}
use Rattle.table_laws.proofs.NamesReadBack.{names-back}
use Rattle.table_laws.proofs.Numbered.{named, thing-named, class-named}
use Rattle.table_laws.proofs.PermissionNumbered.{permission-named}
use Rattle.table_laws.proofs.WellFormed.{formed}
use Rattle.table_laws.proofs.WellFormedLaid.{well-formed-laid}
use Rattle.table_laws.proofs.SoundLaws.{sound-read}
use Rattle.table_parts.specs.GivenBack.{listed, entries_of, with_rows, GivesBack, SameAnswers}
use Rattle.table_parts.proofs.DistinctNames.{Apart, Distinct, distinct}
use Rattle.table_parts.proofs.GivesBack.{gives_back}

-- ---- what is asked for

abbrev is_that : ℕ → ℕ → NameEntry → Bool
is_that s n e = eqb e.sort s && eqb e.number n

itself : (e : NameEntry) → is_that e.sort e.number e ≡ true
itself e = rw (eq-eqb e.sort e.sort refl, eq-eqb e.number e.number refl)

apart-not : (e f : NameEntry) → Apart e f → is_that e.sort e.number f ≡ false
apart-not e f h = by (eqb f.sort e.sort) refl (eqb f.number e.number) refl
  where
    by : (p : Bool) → eqb f.sort e.sort ≡ p → (q : Bool) → eqb f.number e.number ≡ q → (eqb f.sort e.sort && eqb f.number e.number) ≡ false
    by false k q l = rw k
    by true k false l = rw (k, l)
    by true k true l = absurd (h (eqb-true f.sort e.sort k) (eqb-true f.number e.number l))

-- an entry apart from all is not found among them
none-placed : (e : NameEntry) (es : List NameEntry) (o : ℕ) → All (Apart e) es → name_from e.sort e.number o es ≡ refused 12 0
unfolding name_from
none-placed e [] o h = refl
none-placed e (f ∷ es) o h = rw (apart-not e f h.0) (none-placed e es (o + length (entry_bytes f)) h.1)

none_named : (e : NameEntry) (es : List NameEntry) → All (Apart e) es → named e.sort e.number es ≡ none
unfolding named
none_named e [] h = refl
none_named e (f ∷ es) h = rw (apart-not e f h.0) (none_named e es h.1)

not-both : (n k : ℕ) (p : Part) → refused n k ≡ answered p → ⊥
not-both n k p h = let z : ◌≡◌ {A = ℕ} 0 1 = cc in absurd (omega arith)

-- a name is after the four bytes before it
answered-start : (p q : Part) → answered p ≡ answered q → p.start ≡ q.start
answered-start p q h = cc

placed-behind : (s n o : ℕ) (es : List NameEntry) (p : Part) → name_from s n o es ≡ answered p → o + 4 ≤ p.start
unfolding name_from
placed-behind s n o [] p h = absurd (not-both 12 0 p h)
placed-behind s n o (e ∷ es) p h = by (is_that s n e) h (placed-behind s n (o + length (entry_bytes e)) es p)
  where
    by : (b : Bool) → cond b (answered (record { start = o + 4; size = length e.name })) (name_from s n (o + length (entry_bytes e)) es) ≡ answered p
        → (name_from s n (o + length (entry_bytes e)) es ≡ answered p → o + length (entry_bytes e) + 4 ≤ p.start) → o + 4 ≤ p.start
    by true h k = omega (arith, answered-start (record { start = o + 4; size = length e.name }) p h)
    by false h k = omega (arith, k h)

-- ---- entries with the same places and names are the same

-- after a first entry that is the same, places and names are the same
module _ (e : NameEntry) (es fs : List NameEntry) (o : ℕ) (apart : All (Apart e) es) (apart' : All (Apart e) fs) where
  places_behind : ((s n : ℕ) → name_from s n o (e ∷ es) ≡ name_from s n o (e ∷ fs)) → (s n : ℕ)
      → name_from s n (o + length (entry_bytes e)) es ≡ name_from s n (o + length (entry_bytes e)) fs
  unfolding name_from
  places_behind h s n = by (is_that s n e) refl
    where
      by : (b : Bool) → is_that s n e ≡ b → name_from s n (o + length (entry_bytes e)) es ≡ name_from s n (o + length (entry_bytes e)) fs
      by true q =
          let k = both_true (eqb e.sort s) (eqb e.number n) q in
          rw (← eqb-true e.sort s k.0, ← eqb-true e.number n k.1)
          (none-placed e es (o + length (entry_bytes e)) apart ∙ sym (none-placed e fs (o + length (entry_bytes e)) apart'))
      by false q =
          sym (ap (λ (b : Bool). cond b (answered (record { start = o + 4; size = length e.name })) (name_from s n (o + length (entry_bytes e)) es)) q)
          ∙ h s n
          ∙ ap (λ (b : Bool). cond b (answered (record { start = o + 4; size = length e.name })) (name_from s n (o + length (entry_bytes e)) fs)) q

  names-behind : ((s n : ℕ) → s < 8 → named s n (e ∷ es) ≡ named s n (e ∷ fs)) → (s n : ℕ) → s < 8 → named s n es ≡ named s n fs
  unfolding named
  names-behind h s n l = by (is_that s n e) refl
    where
      by : (b : Bool) → is_that s n e ≡ b → named s n es ≡ named s n fs
      by true q =
          let k = both_true (eqb e.sort s) (eqb e.number n) q in
          rw (← eqb-true e.sort s k.0, ← eqb-true e.number n k.1) (none_named e es apart ∙ sym (none_named e fs apart'))
      by false q =
          sym (ap (λ (b : Bool). cond b (some e.name) (named s n es)) q) ∙ h s n l ∙ ap (λ (b : Bool). cond b (some e.name) (named s n fs)) q

-- the first entries are the same
module _ (e f : NameEntry) (es fs : List NameEntry) (o : ℕ) (places : (s n : ℕ) → name_from s n o (e ∷ es) ≡ name_from s n o (f ∷ fs))
    (names : (s n : ℕ) → s < 8 → named s n (e ∷ es) ≡ named s n (f ∷ fs)) (low : e.sort < 8) where
  found_first : is_that e.sort e.number f ≡ true
  unfolding name_from le
  found_first = by (is_that e.sort e.number f) refl
    where
      here : name_from e.sort e.number o (e ∷ es) ≡ answered (record { start = o + 4; size = length e.name })
      here = rw (itself e)

      by : (b : Bool) → is_that e.sort e.number f ≡ b → is_that e.sort e.number f ≡ true
      by true q = q
      by false q =
          let later : name_from e.sort e.number (o + length (entry_bytes f)) fs ≡ answered (record { start = o + 4; size = length e.name }) =
          sym (ap (λ (b : Bool). cond b (answered (record { start = o + 4; size = length f.name })) (name_from e.sort e.number (o + length (entry_bytes f)) fs)) q)
          ∙ sym (places e.sort e.number) ∙ here in
          absurd (omega (arith, placed-behind e.sort e.number (o + length (entry_bytes f)) fs (record { start = o + 4; size = length e.name }) later))

  first-same : e ≡ f
  unfolding named
  first-same =
      let k = both_true (eqb f.sort e.sort) (eqb f.number e.number) found_first in
      let sort : e.sort ≡ f.sort = sym (eqb-true f.sort e.sort k.0) in
      let number : e.number ≡ f.number = sym (eqb-true f.number e.number k.1) in
      let name : e.name ≡ f.name = some-injective e.name f.name
      (sym (ap (λ (b : Bool). cond b (some e.name) (named e.sort e.number es)) (itself e))
      ∙ names e.sort e.number low
      ∙ ap (λ (b : Bool). cond b (some f.name) (named e.sort e.number fs)) found_first) in
      λ i. name_entry (sort i) (number i) (name i)

same_entries : (es fs : List NameEntry) (o : ℕ) → All (λ (e : NameEntry). e.sort < 8) es → Distinct es → Distinct fs
    → ((s n : ℕ) → name_from s n o es ≡ name_from s n o fs) → ((s n : ℕ) → s < 8 → named s n es ≡ named s n fs) → es ≡ fs
unfolding name_from
same_entries [] [] o low d d' places names = refl
same_entries [] (f ∷ fs) o low d d' places names =
    let z : ◌≡◌ {A = Reply Part} (refused 12 0) (answered (record { start = o + 4; size = length f.name })) = places f.sort f.number
    ∙ ap (λ (b : Bool). cond b (answered (record { start = o + 4; size = length f.name })) (name_from f.sort f.number (o + length (entry_bytes f)) fs)) (itself f) in
    absurd (not-both 12 0 (record { start = o + 4; size = length f.name }) z)
same_entries (e ∷ es) [] o low d d' places names =
    let z : ◌≡◌ {A = Reply Part} (refused 12 0) (answered (record { start = o + 4; size = length e.name })) = sym (places e.sort e.number)
    ∙ ap (λ (b : Bool). cond b (answered (record { start = o + 4; size = length e.name })) (name_from e.sort e.number (o + length (entry_bytes e)) es)) (itself e) in
    absurd (not-both 12 0 (record { start = o + 4; size = length e.name }) z)
same_entries (e ∷ es) (f ∷ fs) o low d d' places names =
    subst (λ (f : NameEntry). All (Apart f) fs → ((s n : ℕ) → name_from s n o (e ∷ es) ≡ name_from s n o (f ∷ fs)) →
    ((s n : ℕ) → s < 8 → named s n (e ∷ es) ≡ named s n (f ∷ fs)) → e ∷ es ≡ f ∷ fs)
    (first-same e f es fs o places names low.0)
    (λ a p q. ap (λ (r : List NameEntry). e ∷ r)
    (same_entries es fs (o + length (entry_bytes e)) low.1 d.1 d'.1 (places_behind e es fs o d.0 a p) (names-behind e es fs o d.0 a q)))
    d'.0 places names

-- the same, where the first entry may be at another place: tables of two editions. It is not, since each name has its one place
first-behind : (e : NameEntry) (es fs : List NameEntry) (o o' : ℕ) → ((s n : ℕ) → name_from s n o (e ∷ es) ≡ name_from s n o' fs) → o' ≤ o
unfolding name_from
first-behind e es fs o o' places =
    let p : Part = record { start = o + 4; size = length e.name } in
    let here : name_from e.sort e.number o (e ∷ es) ≡ answered p = rw (itself e) in
    omega (arith, placed-behind e.sort e.number o' fs p (sym (places e.sort e.number) ∙ here))

same-entries-from : (es fs : List NameEntry) (o o' : ℕ) → All (λ (e : NameEntry). e.sort < 8) es → Distinct es → Distinct fs
    → ((s n : ℕ) → name_from s n o es ≡ name_from s n o' fs) → ((s n : ℕ) → s < 8 → named s n es ≡ named s n fs) → es ≡ fs
unfolding name_from
same-entries-from [] fs o o' low d d' places names = same_entries [] fs o' low d d' places names
same-entries-from (e ∷ es) [] o o' low d d' places names = same_entries (e ∷ es) [] o low d d' places names
same-entries-from (e ∷ es) (f ∷ fs) o o' low d d' places names =
    let one : o' ≡ o = omega (arith, first-behind e es (f ∷ fs) o o' places, first-behind f fs (e ∷ es) o' o (λ s n. sym (places s n))) in
    same_entries (e ∷ es) (f ∷ fs) o low d d' (λ s n. places s n ∙ ap (λ (p : ℕ). name_from s n p (f ∷ fs)) one) names

-- ---- tables

-- lists that start with as many elements are the same in them and after them
cut : {A : Type 0} (xs ys xs' ys' : List A) → length xs ≡ length xs' → xs ++ ys ≡ xs' ++ ys' → (xs ≡ xs') × (ys ≡ ys')
cut xs ys xs' ys' l h = (
  sym (take_at xs ys (length xs) refl) ∙ ap (take (length xs)) h ∙ take_at xs' ys' (length xs) (sym l),
  sym (drop_at xs ys (length xs) refl) ∙ ap (drop (length xs)) h ∙ drop_at xs' ys' (length xs) (sym l),
)

module _ (t u : List ℕ) (a : Sound t) (b : Sound u) (same : SameAnswers t u) where
  abbrev i : Image
  i = a.image

  abbrev j : Image
  j = b.image

  back : GivesBack t i
  back = gives_back t a

  back' : GivesBack u j
  back' = gives_back u b

  same_body : (k : ℕ) → entries_of t k ≡ entries_of u k
  same_body k = ap (listed 2048) (λ x n. same.entries k n x)

  same-sort : (s : Sort) → names_of s i.names ≡ names_of s j.names
  same-sort s = sym (back.names s) ∙ ap (listed 2048) (λ x n. same.names (sort_code s) n x) ∙ back'.names s

  same-classes : class_names i.names ≡ class_names j.names
  same-classes = sym back.classes ∙ ap (listed 2048) (λ x n. same.names 6 n x) ∙ back'.classes

  same-permissions : (c : ℕ) → permissions i.names c ≡ permissions j.names c
  same-permissions c = sym (back.permissions c) ∙ ap (listed 32) (λ x k. same.names 7 (c * 32 + k) x) ∙ back'.permissions c

  sort-names : (s : Sort) (n : ℕ) → named (sort_code s) n (entries i.names) ≡ named (sort_code s) n (entries j.names)
  sort-names s n = thing-named s i.names n ∙ ap (λ (l : List Name). get_elem? l n) (same-sort s) ∙ sym (thing-named s j.names n)

  same_names : (s n : ℕ) → s < 8 → named s n (entries i.names) ≡ named s n (entries j.names)
  same_names zero n l = sort-names (thing_of users) n
  same_names (suc zero) n l = sort-names (thing_of roles) n
  same_names (suc (suc zero)) n l = sort-names (thing_of types) n
  same_names (suc (suc (suc zero))) n l = sort-names (attribute_of users) n
  same_names (suc (suc (suc (suc zero)))) n l = sort-names (attribute_of roles) n
  same_names (suc (suc (suc (suc (suc zero))))) n l = sort-names (attribute_of types) n
  same_names (suc (suc (suc (suc (suc (suc zero)))))) n l =
      class-named i.names n ∙ ap (λ (l : List Name). get_elem? l n) same-classes ∙ sym (class-named j.names n)
  same_names (suc (suc (suc (suc (suc (suc (suc zero))))))) n l =
      permission-named i.names (formed i a.formed).names n
      ∙ ap (λ (l : List Name). get_elem? l (n % 32)) (same-permissions (n / 32))
      ∙ sym (permission-named j.names (formed j b.formed).names n)
  same_names (suc (suc (suc (suc (suc (suc (suc (suc s)))))))) n l = absurd (omega arith)

  same-places : (s n : ℕ) → name_from s n (first_body (edition_in t)) (entries i.names) ≡ name_from s n (first_body (edition_in u)) (entries j.names)
  unfolding name_on name_of
  same-places s n =
      sym (ap (asked (λ i. name_of (edition_in t) i s n)) (sound-read t a)) ∙ same.places s n ∙ ap (asked (λ i. name_of (edition_in u) i s n)) (sound-read u b)

  all-entries : entries i.names ≡ entries j.names
  unfolding entries
  all-entries = same-entries-from (entries i.names) (entries j.names) (first_body (edition_in t)) (first_body (edition_in u))
      (all_map GoodEntry (λ (e : NameEntry). e.sort < 8) (λ e g. g.sort) (entries i.names) (entries_fit [] i.names (formed i a.formed).names))
      (distinct i.names (formed i a.formed).names) (distinct j.names (formed j b.formed).names) same-places same_names

  declarations : i.names ≡ j.names
  declarations = some-injective i.names j.names
      (sym (names-back i.names (well-formed-laid i a.formed).peopled (well-formed-laid i a.formed).numbers)
      ∙ ap (λ (es : List NameEntry). names_at (joined (each entry_bytes es))) all-entries
      ∙ names-back j.names (well-formed-laid j b.formed).peopled (well-formed-laid j b.formed).numbers)

  sets : i.user_sets ++ (i.role_sets ++ i.type_sets) ≡ j.user_sets ++ (j.role_sets ++ j.type_sets)
  sets = sym back.attributes ∙ same_body 8 ∙ back'.attributes

  as_many : (f : Family) (m n : ℕ) → m ≡ count (attribute_of f) i.names → n ≡ count (attribute_of f) j.names → m ≡ n
  as_many f m n p q = p ∙ ap (λ (ds : List Declaration). count (attribute_of f) ds) declarations ∙ sym q

  first-sets : (i.user_sets ≡ j.user_sets) × (i.role_sets ++ i.type_sets ≡ j.role_sets ++ j.type_sets)
  first-sets = cut i.user_sets (i.role_sets ++ i.type_sets) j.user_sets (j.role_sets ++ j.type_sets)
      (as_many users _ _ (well-formed-laid i a.formed).user_sets.many (well-formed-laid j b.formed).user_sets.many) sets

  last-sets : (i.role_sets ≡ j.role_sets) × (i.type_sets ≡ j.type_sets)
  last-sets = cut i.role_sets i.type_sets j.role_sets j.type_sets
      (as_many roles _ _ (well-formed-laid i a.formed).role_sets.many (well-formed-laid j b.formed).role_sets.many) first-sets.1

  -- the records of a body, which both give back with their rows
  same-with-rows : {H C : Type 0} (head : List ℕ → H) (assign : List H → List Row → Option (List C)) (k : ℕ) (cs cs' : List C)
      → with_rows head assign t k ≡ some cs → with_rows head assign u k ≡ some cs' → cs ≡ cs'
  same-with-rows head assign k cs cs' p q = some-injective cs cs'
      (sym p ∙ ap₂ (λ (rs hs : List (List ℕ)). each_of row_at rs >>= λ rs. assign (each head hs) rs) (same_body (k + 1)) (same_body k) ∙ q)

  -- TABLES WITH THE SAME ANSWERS HOLD THE SAME IMAGE
  pub answers-determine : i ≡ j
  answers-determine = λ x. record {
    names = declarations x;
    user_roles = (sym back.user_roles ∙ same_body 2 ∙ back'.user_roles) x;
    role_types = (sym back.role_types ∙ same_body 3 ∙ back'.role_types) x;
    role_roles = (sym back.role_roles ∙ same_body 4 ∙ back'.role_roles) x;
    transitions = (sym back.transitions ∙ ap (each transition_at) (same_body 5) ∙ back'.transitions) x;
    constraints = same-with-rows constraint_at (assign_rows 0) 6 i.constraints j.constraints back.constraints back'.constraints x;
    user_sets = first-sets.0 x;
    role_sets = last-sets.0 x;
    type_sets = last-sets.1 x;
    relabels = same-with-rows relabel_at assign_relabels 9 i.relabels j.relabels back.relabels back'.relabels x;
  }
