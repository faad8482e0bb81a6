-- What the summary of a sound table says of its names is what a question asks of them. Assumes nothing.
use Prim.Native.Nat.{ℕ, ◌+◌, ◌<◌}
use native.Mathlib.Omega.{arith}
use mathlib.Core.Path.{◌≡◌, refl, sym, ap, ap₂, ◌∙◌}
use mathlib.Core.Bool.{Bool, true, false, ◌&&◌, ◌||◌}
use mathlib.Core.List.{List, []}
use lib.Dec.{eqb, ltb}
use lib.ListN.{length, get_or}
use lib.Seq.{get_or-append-add}
use borrow.Author.Tests.{eqb-true, ltb-true, lt-ltb}
use Rattle.bitset.proofs.SetLaws.{get_d_tabulate}
use Rattle.lexer.specs.Spell.{bytes}
use Rattle.policy.specs.Basics.{Name, same, any, is_in}
use Rattle.policy.specs.Statements.{roles, thing_of, Declaration, names_of, count, class_names, permissions}
use Rattle.policy.specs.Words.{object_r, process_word, transition_words}
use Rattle.policy.specs.Image.{Image}
use Rattle.policy.specs.Deciding.{is_object, asks_role}
use Rattle.policy.specs.Sound.{good_from}
use Rattle.policy.proofs.Lists.{under}
use Rattle.policy.proofs.Counts.{few-of, few-classes, few-permissions-of}
use Rattle.sound_names.specs.SoundNames.{counts_of, permission_counts}
use Rattle.sound_constraints.specs.SoundRows.{is_some}
use Rattle.table_laws.specs.SoundTable.{Bytes, Sound}
use Rattle.table_laws.proofs.SoundLaws.{read-sound}
use Rattle.table_laws.proofs.WellFormed.{formed}
use Rattle.table_names.specs.TableNames.{counts_in, permission_in, is_found_name, is_object_in, asks_role_in, asks_role_by_number}
use Rattle.soundness.specs.IsSound.{is_sound}
use Rattle.soundness.proofs.SoundTable.{counts_of_lem}
use Rattle.decisions.specs.KnownNames.{Knows}
use Rattle.decisions.proofs.NameLaws.{object_of, asks-role-of, permission-found, class-below}
use Rattle.table_summary.specs.Summary.{special_of, process_of, place_or, summary_of, Summarized, counts_from, special_from}
use Rattle.table_summary.specs.Numbers.{first_numbers}
use Rattle.table_summary.proofs.PlaceLaws.{place_is}
use Rattle.table_summary.proofs.NamesDiffer.{names-differ, classes-differ, permissions-differ}

-- ---- by the numbers of good declarations

module _ (ds : List Declaration) (good : good_from [] ds ≡ true) where
  object-number : (r : ℕ) → r < count (thing_of roles) ds → eqb r (special_of ds).object ≡ is_object ds r
  unfolding is_object count
  object-number r l =
      place_is 128 object_r (names_of (thing_of roles) ds) r (names-differ (thing_of roles) ds good) (few-of (thing_of roles) ds good) l

  process-number : (c : ℕ) → c < length (class_names ds) → eqb c (process_of ds) ≡ same (get_or (class_names ds) c []) process_word
  process-number c l = place_is 32 process_word (class_names ds) c (classes-differ ds good) (few-classes ds good) l

  permission-number : (c k : ℕ) → k < length (permissions ds c) → (w : Name) → eqb k (place_or 32 w (permissions ds c)) ≡ same (get_or (permissions ds c) k []) w
  permission-number c k l w = place_is 32 w (permissions ds c) k (permissions-differ ds good c) (few-permissions-of ds good c) l

  or-last : (p q : Bool) → (p || q) ≡ (p || (q || false))
  or-last p true = refl
  or-last true false = refl
  or-last false false = refl

  -- the two permissions are those of the class `process`
  asks-number : (c k : ℕ) → c < length (class_names ds) → k < length (permissions ds c) → asks_role_by_number (special_of ds) c k ≡ asks_role ds c k
  unfolding asks_role is_in any
  asks-number c k lc lk =
      let process = process_of ds in
      let w = get_or (permissions ds c) k [] in
      under (eqb c process) {x = eqb k (special_of ds).transition || eqb k (special_of ds).dyntransition} {y = is_in w transition_words} (λ q.
      let is : process ≡ c = sym (eqb-true c process q) in
      ap (λ (p : ℕ). eqb k (place_or 32 (bytes "transition") (permissions ds p)) || eqb k (place_or 32 (bytes "dyntransition") (permissions ds p))) is
      ∙ ap₂ ◌||◌ (permission-number c k lk (bytes "transition")) (permission-number c k lk (bytes "dyntransition"))
      ∙ or-last (same w (bytes "transition")) (same w (bytes "dyntransition")))
      ∙ ap (λ (b : Bool). b && is_in w transition_words) (process-number c lc)

-- ---- on a table with its summary

module _ (t s : List ℕ) (all : Bytes t) (h : Summarized t s) where
  abbrev held : Sound t
  held = (read-sound t all h.image h.read).0

  abbrev names : List Declaration
  names = held.image.names

  good : good_from [] names ≡ true
  good = (formed held.image held.formed).names

  numbers : s ≡ summary_of names
  numbers = h.numbers ∙ ap (λ (i : Image). summary_of i.names) (sym (read-sound t all h.image h.read).1)

  found-sound : is_sound t ≡ true
  unfolding is_sound
  found-sound = ap is_some h.read

  counts : counts_from s ≡ counts_in t
  unfolding summary_of
  counts = ap counts_from numbers ∙ counts_of_lem t held

  roles-are : (counts_from s).roles ≡ count (thing_of roles) names
  unfolding summary_of
  roles-are = ap (λ (l : List ℕ). get_or l 1 0) numbers

  classes-are : (counts_from s).classes ≡ length (class_names names)
  unfolding summary_of
  classes-are = ap (λ (l : List ℕ). get_or l 6 0) numbers

  object-known : (r : ℕ) → r < (counts_from s).roles → eqb r (get_or s 7 0) ≡ is_object_in t r
  unfolding summary_of is_object_in
  object-known r l =
      let below : r < count (thing_of roles) names = omega (arith, l, roles-are) in
      ap (λ (l : List ℕ). eqb r (get_or l 7 0)) numbers ∙ object-number names good r below ∙ sym (object_of t held r below)

  special-are : (c k : ℕ) → asks_role_by_number (record { object = get_or s 7 0; process = get_or s 8 0; transition = get_or s 9 0; dyntransition = get_or s 10 0 }) c k
      ≡ asks_role_by_number (special_of names) c k
  unfolding summary_of
  special-are c k = ap (λ (l : List ℕ). eqb c (get_or l 8 0) && (eqb k (get_or l 9 0) || eqb k (get_or l 10 0))) numbers

  asks-known : (c k : ℕ) → c < (counts_from s).classes → is_found_name (permission_in t c k) ≡ true
      → asks_role_by_number (record { object = get_or s 7 0; process = get_or s 8 0; transition = get_or s 9 0; dyntransition = get_or s 10 0 }) c k ≡ asks_role_in t c k
  asks-known c k l f =
      let class : c < length (class_names names) = omega (arith, l, classes-are) in
      let own : k < length (permissions names c) = ltb-true k (length (permissions names c)) (sym (permission-found t held c k class) ∙ f) in
      special-are c k ∙ asks-number names good c k class own ∙ sym (asks-role-of t held c k class own)

  -- the counts, and the names that are treated apart by their numbers
  pub knows : Knows t (counts_from s) (special_from s)
  knows = record { counted = record { sound = found-sound; counts = counts }; object = object-known; asks = asks-known }

  -- a declared class has the permissions below their count
  counted-permission : (c k : ℕ) → c < (counts_from s).classes → ltb k (get_or s (11 + c) 0) ≡ is_found_name (permission_in t c k)
  unfolding summary_of
  counted-permission c k l =
      let class : c < length (class_names names) = omega (arith, l, classes-are) in
      ap (ltb k)
      (ap (λ (l : List ℕ). get_or l (11 + c) 0) numbers
      ∙ get_or-append-add (first_numbers (counts_of names) (special_of names)) (permission_counts names) c 0
      ∙ get_d_tabulate 32 (λ c. length (permissions names c)) c 0 (class-below t held c class))
      ∙ sym (permission-found t held c k class)

  -- as the summary is asked for it
  pub permission-known : (c k : ℕ) → c < (counts_from s).classes → (ltb c 32 && ltb k (get_or s (11 + c) 0)) ≡ is_found_name (permission_in t c k)
  permission-known c k l =
      ap (λ (b : Bool). b && ltb k (get_or s (11 + c) 0)) (lt-ltb c 32 (class-below t held c (omega (arith, l, classes-are)))) ∙ counted-permission c k l
