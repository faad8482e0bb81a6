-- READING A TABLE GIVES BACK THOSE SETS, ROWS AND NAMES: by the questions name of and entry alone, for every sound table, and so for what is
-- written for a well-formed image, whatever is after it. Assumes nothing.
use Prim.Native.Nat.{ℕ, zero, suc, ◌+◌, ◌*◌, ◌/◌, ◌%◌, ◌<◌, ◌≤◌}
use native.Mathlib.Omega.{arith}
use mathlib.Core.Path.{◌≡◌, refl, ap, ap₂, ◌∙◌}
use mathlib.Core.Bool.{true}
use mathlib.Core.List.{List, [], ◌∷◌, ◌++◌}
use mathlib.Core.Option.{Option, some}
use lib.ListN.{length, get_elem?, length-append}
use Rattle.policy.specs.Basics.{◌>>=◌, each, each_of, All}
use Rattle.policy.specs.Statements.{users, roles, types, Sort, thing_of, attribute_of, names_of, class_names, permissions, count}
use Rattle.policy.specs.Rows.{Row}
use Rattle.policy.specs.Image.{Image}
use Rattle.policy.specs.Encode.{sort_code, transition_bytes, constraint_bytes, constraint_records, row_bytes, relabel_record, relabel_bytes, sections_of, encode}
use Rattle.policy.specs.Sound.{well_formed, transition_at, constraint_at, row_at, assign_rows, relabel_at, assign_relabels}
use Rattle.policy.specs.Deciding.{Reply}
use Rattle.policy.specs.Questions.{name_on, entry_on}
use Rattle.policy.proofs.Lists.{each-length}
use Rattle.policy.proofs.Counts.{few-of, few-classes, few-permissions-of}
use Rattle.policy.proofs.Sorts.{max-small}
use Rattle.table_laws.specs.SoundTable.{FitsEdition, Sound, all_rows, relabel_rows}
use Rattle.table_laws.specs.Shown.{shown, or_twelve, name_in, records_in}
use Rattle.table_laws.proofs.ListLaws.{each_back}
use Rattle.table_laws.proofs.Records.{WideTransition, transition-back, SmallConstraint, constraint-back, SmallRelabel, relabel-back, rows_back}
use Rattle.table_laws.proofs.Constraints.{assign-back, relabels-back}
use Rattle.table_laws.proofs.Lengths.{constraint-records-length}
use Rattle.table_laws.proofs.ImageReadBack.{Laid}
use Rattle.table_laws.proofs.WellFormed.{Formed, formed}
use Rattle.table_laws.proofs.WellFormedLaid.{well-formed-laid}
use Rattle.table_laws.proofs.QuestionLaws.{name-on, entry-on}
use Rattle.table_parts.specs.GivenBack.{onward, listed, entries_of, with_rows, GivesBack}

-- what is asked for one number after the other is the list that it is asked of
listed-all : (xs : List (List ℕ)) (m : ℕ) (ask : ℕ → Reply (List ℕ)) → length xs ≤ m → ((k : ℕ) → k < m → ask k ≡ or_twelve (get_elem? xs k)) → listed m ask ≡ xs
unfolding listed
listed-all [] zero ask h e = refl
listed-all (x ∷ xs) zero ask h e = absurd (omega arith)
listed-all [] (suc m) ask h e = ap (λ (r : Reply (List ℕ)). onward r (listed m (λ k. ask (suc k)))) (e 0 (omega arith))
listed-all (x ∷ xs) (suc m) ask h e =
    ap₂ onward (e 0 (omega arith)) (listed-all xs m (λ k. ask (suc k)) (omega arith) (λ k l. e (suc k) (omega arith)))

module _ (t : List ℕ) (s : Sound t) where
  abbrev i : Image
  i = s.image

  laid : Laid i
  laid = well-formed-laid i s.formed

  form : Formed i
  form = formed i s.formed

  few : (s : Sort) → count s i.names ≤ 512
  few s = omega (arith, few-of s i.names form.names, max-small s)

  -- NAMES

  name-shown : (k n : ℕ) → shown t (name_on t k n) ≡ or_twelve (name_in i.names k n)
  name-shown k n = name-on t s k n

  sort-in : (o : Sort) (n : ℕ) → name_in i.names (sort_code o) n ≡ get_elem? (names_of o i.names) n
  unfolding name_in
  sort-in (thing_of users) n = refl
  sort-in (thing_of roles) n = refl
  sort-in (thing_of types) n = refl
  sort-in (attribute_of users) n = refl
  sort-in (attribute_of roles) n = refl
  sort-in (attribute_of types) n = refl

  class-in : (n : ℕ) → name_in i.names 6 n ≡ get_elem? (class_names i.names) n
  unfolding name_in
  class-in n = refl

  permission-in : (c k : ℕ) → k < 32 → name_in i.names 7 (c * 32 + k) ≡ get_elem? (permissions i.names c) k
  unfolding name_in
  permission-in c k l =
      let class : (c * 32 + k) / 32 ≡ c = omega arith in
      let place : (c * 32 + k) % 32 ≡ k = omega arith in
      rw (class, place)

  -- ENTRIES

  body : (b : ℕ) → length (records_in i b) ≤ 2048 → entries_of t b ≡ records_in i b
  body b l = listed-all (records_in i b) 2048 (λ k. shown t (entry_on t b k)) l (λ k h. entry-on t s b k)

  few-sets : length (i.user_sets ++ (i.role_sets ++ i.type_sets)) ≤ 2048
  few-sets = omega (
    arith,
    length-append i.user_sets (i.role_sets ++ i.type_sets),
    length-append i.role_sets i.type_sets,
    laid.user_sets.many,
    laid.role_sets.many,
    laid.type_sets.many,
    few (attribute_of users),
    few (attribute_of roles),
    few (attribute_of types),
  )

  transitions-back : each transition_at (entries_of t 5) ≡ i.transitions
  unfolding records_in
  transitions-back =
      ap (each transition_at) (body 5 (omega (arith, each-length transition_bytes i.transitions, form.few-transitions)))
      ∙ each_back WideTransition transition_bytes transition_at transition-back i.transitions laid.transitions

  constraint-records-back : each constraint_at (entries_of t 6) ≡ constraint_records 0 i.constraints
  unfolding records_in
  constraint-records-back =
      ap (each constraint_at) (body 6
      (omega (arith, each-length constraint_bytes (constraint_records 0 i.constraints), constraint-records-length 0 i.constraints, form.few-constraints)))
      ∙ each_back SmallConstraint constraint_bytes constraint_at constraint-back (constraint_records 0 i.constraints) laid.constraints

  relabel-records-back : each relabel_at (entries_of t 9) ≡ each relabel_record i.relabels
  unfolding records_in
  relabel-records-back =
      let heads = each relabel_record i.relabels in
      ap (each relabel_at) (body 9 (omega (arith, each-length relabel_bytes heads, each-length relabel_record i.relabels, form.few-relabels)))
      ∙ each_back SmallRelabel relabel_bytes relabel_at relabel-back heads laid.relabels

  -- records and rows that are given back are so together
  with_rows_lem : {H C : Type 0} (head : List ℕ → H) (assign : List H → List Row → Option (List C)) (b : ℕ) (hs : List H) (rs : List Row) (cs : List C)
      → each head (entries_of t b) ≡ hs → records_in i (b + 1) ≡ each row_bytes rs → length rs ≤ 2048 → All (λ (r : Row). r.num < 65536) rs → assign hs rs ≡ some cs
      → with_rows head assign t b ≡ some cs
  with_rows_lem {H} head assign b hs rs cs heads records few small dealt =
      let rows = body (b + 1) (omega (arith, ap length records, each-length row_bytes rs)) ∙ records in
      ap₂ (λ (o : Option (List Row)) (hs : List H). o >>= λ rs. assign hs rs) (ap (each_of row_at) rows ∙ rows_back rs small) heads ∙ dealt

  -- A SOUND TABLE GIVES BACK ITS IMAGE
  pub gives_back : GivesBack t i
  unfolding records_in count
  gives_back = record {
    names =
        λ o. listed-all (names_of o i.names) 2048 (λ n. shown t (name_on t (sort_code o) n)) (omega (arith, few o)) (λ n h. name-shown (sort_code o) n ∙ ap or_twelve (sort-in o n));
    classes =
        listed-all (class_names i.names) 2048 (λ n. shown t (name_on t 6 n)) (omega (arith, few-classes i.names form.names))
        (λ n h. name-shown 6 n ∙ ap or_twelve (class-in n));
    permissions = λ c. listed-all (permissions i.names c) 32 (λ k. shown t (name_on t 7 (c * 32 + k))) (few-permissions-of i.names form.names c)
        (λ k h. name-shown 7 (c * 32 + k) ∙ ap or_twelve (permission-in c k h));
    user_roles = body 2 (omega (arith, laid.user_roles.many, few (thing_of users)));
    role_types = body 3 (omega (arith, laid.role_types.many, few (thing_of roles)));
    role_roles = body 4 (omega (arith, laid.role_roles.many, few (thing_of roles)));
    transitions = transitions-back;
    constraints =
        with_rows_lem constraint_at (assign_rows 0) 6 (constraint_records 0 i.constraints) (all_rows i) i.constraints constraint-records-back refl
        form.few-rows laid.rows (assign-back 0 i.constraints);
    attributes = body 8 few-sets;
    relabels =
        with_rows_lem relabel_at assign_relabels 9 (each relabel_record i.relabels) (relabel_rows i) i.relabels relabel-records-back refl (omega (arith, form.few-relabel-rows))
        laid.relabel-rows (relabels-back i.relabels);
  }

-- WHAT IS WRITTEN FOR A WELL-FORMED IMAGE GIVES IT BACK, in every edition that it fits and whatever is after it
pub written-gives-back : (e : ℕ) (i : Image) → 0 < sections_of e → FitsEdition e i → well_formed i ≡ true → (rest : List ℕ) → GivesBack (encode e i ++ rest) i
written-gives-back e i known fits h rest =
    gives_back (encode e i ++ rest) (record { edition = e; known = known; image = i; formed = h; fits = fits; rest = rest; laid = refl })
