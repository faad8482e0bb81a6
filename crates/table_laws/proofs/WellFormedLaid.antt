-- A well-formed image fits its bytes: so its table is read back, whatever is after it, and its length is known. Assumes nothing.
use Prim.Native.Nat.{ℕ, ◌+◌, ◌*◌, ◌^◌, ◌<◌, ◌≤◌}
use native.Mathlib.Omega.{arith}
use native.Mathlib.Nat.{pow-le-pow_right}
use mathlib.Core.Path.{◌≡◌, ap, ◌∙◌}
use mathlib.Core.Bool.{true}
use mathlib.Core.List.{List, [], ◌∷◌, ◌++◌}
use mathlib.Core.Option.{some}
use lib.ListN.{length, length-append}
use Rattle.bitset.specs.Relations.{joined}
use Rattle.policy.specs.Basics.{each, All}
use Rattle.policy.specs.Statements.{users, roles, types, Sort, thing_of, attribute_of, count}
use Rattle.policy.specs.Rows.{Row}
use Rattle.policy.specs.Image.{Image, TransitionEntry, ConstraintEntry, RelabelEntry}
use Rattle.policy.specs.Encode.{entries, constraint_records, relabel_record, bodies, sections_of, first_body, encode}
use Rattle.policy.specs.Sound.{good_row, good_constraint, good_relabel, good_transition, well_formed, image_in}
use Rattle.table_laws.specs.SoundTable.{FitsEdition, all_rows, relabel_rows, table_length}
use Rattle.table_laws.proofs.ListLaws.{all-each, joined-all}
use Rattle.policy.proofs.Gathered.{all_map}
use Rattle.policy.proofs.Counts.{few-of, few-permissions-of}
use Rattle.table_laws.proofs.Records.{WideTransition, SmallConstraint, SmallRelabel}
use Rattle.table_laws.proofs.Constraints.{rows_in}
use Rattle.table_laws.proofs.Editions.{edition-known, without-fits}
use Rattle.table_laws.proofs.ImageReadBack.{Sets, Laid, image-back}
use Rattle.table_laws.proofs.NamesReadBack.{SmallNumber}
use Rattle.policy.proofs.Counts.{few-classes}
use Rattle.policy.proofs.Sorts.{max-small}
use Rattle.table_laws.proofs.NamesFit.{GoodEntry, peopled, entries_fit}
use Rattle.table_laws.proofs.NamesRoom.{names-room}
use Rattle.table_laws.proofs.Lengths.{Widths, bodies-length, encode-bodies-length}
use Rattle.table_laws.proofs.WellFormed.{formed, sets_of, GoodTransition, good-transition, GoodConstraint, good-constraint, GoodRelabel, good-relabel, SmallRow, good-row}

module _ (i : Image) (h : well_formed i ≡ true) where
  few : (s : Sort) → count s i.names ≤ 512
  few s = omega (arith, few-of s i.names (formed i h).names, max-small s)

  -- a constraint's mask fits four bytes
  mask-small : (c : ConstraintEntry) → GoodConstraint i.names c → c.mask < 4294967296
  mask-small c g = omega (arith, g.mask, pow-le-pow_right {n = 2} (omega arith) (few-permissions-of i.names (formed i h).names c.class))

  constraints-small : (r : ℕ) (cs : List ConstraintEntry) → All (GoodConstraint i.names) cs → r + length (rows_in cs) ≤ 2048
      → All SmallConstraint (constraint_records r cs)
  unfolding constraint_records joined each
  constraints-small r [] g l = tt
  constraints-small r (c ∷ cs) g l =
      let long = length-append c.rows (rows_in cs) in (
        record {
          class = omega (arith, g.0.class, few-classes i.names (formed i h).names);
          mask = mask-small c g.0;
          first = omega arith;
          rows = omega arith;
        },
        constraints-small (r + length c.rows) cs g.1 (omega arith),
      )

  pub constraints-good : All (GoodConstraint i.names) i.constraints
  constraints-good =
      all_map (λ (c : ConstraintEntry). good_constraint i.names c ≡ true) (GoodConstraint i.names) (good-constraint i.names) i.constraints (formed i h).constraints

  pub transitions-good : All (GoodTransition i.names) i.transitions
  transitions-good =
      all_map (λ (m : TransitionEntry). good_transition i.names m ≡ true) (GoodTransition i.names) (good-transition i.names) i.transitions (formed i h).transitions

  pub relabels-good : All (GoodRelabel i.names) i.relabels
  relabels-good =
      all_map (λ (v : RelabelEntry). good_relabel i.names v ≡ true) (GoodRelabel i.names) (good-relabel i.names) i.relabels (formed i h).relabels

  -- the rows of all entries of a section, whatever components they may have
  entry-rows : {A : Type 0} (n : ℕ) → n ≤ 256 → (P : A → Type 0) (rows : A → List Row) → ((x : A) → P x → All (λ (r : Row). good_row n i.names r ≡ true) (rows x))
      → (xs : List A) → All P xs → All SmallRow (joined (each rows xs))
  entry-rows n byte P rows good xs all = joined-all SmallRow (each rows xs)
      (all-each P (All SmallRow) rows
      (λ x p. all_map (λ (r : Row). good_row n i.names r ≡ true) SmallRow (λ r t. good-row n byte i.names r (λ s. omega (arith, few s)) t) (rows x) (good x p)) xs all)

  pub rows-small : All SmallRow (all_rows i)
  rows-small = entry-rows 6 (omega arith) (GoodConstraint i.names) (λ c. c.rows) (λ c g. g.rows) i.constraints constraints-good

  pub relabel-rows-small : All SmallRow (relabel_rows i)
  relabel-rows-small = entry-rows 9 (omega arith) (GoodRelabel i.names) (λ v. v.rows) (λ v g. g.rows) i.relabels relabels-good

  relabels-small : (vs : List RelabelEntry) → All (GoodRelabel i.names) vs → length (joined (each (λ v. v.rows) vs)) ≤ 1024 → All SmallRelabel (each relabel_record vs)
  unfolding joined each
  relabels-small [] g l = tt
  relabels-small (v ∷ vs) g l =
      let long = length-append v.rows (joined (each (λ v. v.rows) vs)) in (
        record { class = omega (arith, g.0.class, few-classes i.names (formed i h).names); rows = omega arith },
        relabels-small vs g.1 (omega arith),
      )

  -- so many sets of one width
  user_roles : Sets (count (thing_of users) i.names) 16 i.user_roles
  user_roles = sets_of i.names (count (thing_of users) i.names) roles i.user_roles (formed i h).user_roles

  role_types : Sets (count (thing_of roles) i.names) 64 i.role_types
  role_types = sets_of i.names (count (thing_of roles) i.names) types i.role_types (formed i h).role_types

  role_roles : Sets (count (thing_of roles) i.names) 16 i.role_roles
  role_roles = sets_of i.names (count (thing_of roles) i.names) roles i.role_roles (formed i h).role_roles

  user_sets : Sets (count (attribute_of users) i.names) 16 i.user_sets
  user_sets = sets_of i.names (count (attribute_of users) i.names) users i.user_sets (formed i h).user_sets

  role_sets : Sets (count (attribute_of roles) i.names) 16 i.role_sets
  role_sets = sets_of i.names (count (attribute_of roles) i.names) roles i.role_sets (formed i h).role_sets

  type_sets : Sets (count (attribute_of types) i.names) 64 i.type_sets
  type_sets = sets_of i.names (count (attribute_of types) i.names) types i.type_sets (formed i h).type_sets

  wide-transitions : All WideTransition i.transitions
  wide-transitions = all_map (GoodTransition i.names) WideTransition (λ m g. g.wide) i.transitions transitions-good

  pub widths : Widths i
  widths = record {
    user_roles = user_roles.wide;
    role_types = role_types.wide;
    role_roles = role_roles.wide;
    transitions = wide-transitions;
    user_sets = user_sets.wide;
    role_sets = role_sets.wide;
    type_sets = type_sets.wide;
  }

  -- how long a table may be: 179,584 bytes after the header, and what the validatetrans statements take
  pub table-room : (e : ℕ) → table_length e i ≤ first_body e + 179584 + 4 * length i.relabels + 6 * length (relabel_rows i)
  unfolding table_length
  table-room e = omega (
    arith,
    names-room i.names (formed i h).names,
    user_roles.many,
    role_types.many,
    role_roles.many,
    (formed i h).few-transitions,
    (formed i h).few-constraints,
    (formed i h).few-rows,
    user_sets.many,
    role_sets.many,
    type_sets.many,
    few-of (thing_of users) i.names (formed i h).names,
    few-of (thing_of roles) i.names (formed i h).names,
    few-of (attribute_of users) i.names (formed i h).names,
    few-of (attribute_of roles) i.names (formed i h).names,
    few-of (attribute_of types) i.names (formed i h).names,
  )

  -- the longest table of any edition has 186,068 bytes
  pub table-short : (e : ℕ) → 0 < sections_of e → table_length e i ≤ 186068
  table-short e known = omega (arith, table-room e, (edition-known e known).most, (formed i h).few-relabels, (formed i h).few-relabel-rows)

  -- that of an edition of eight sections has 179,652 bytes
  pub table-short-eight : (e : ℕ) → sections_of e ≤ 8 → FitsEdition e i → table_length e i ≤ 179652
  unfolding joined each
  table-short-eight e few fits =
      let without = without-fits e i few fits in
      omega (arith, table-room e, ap length without, ap (λ (vs : List RelabelEntry). length (joined (each (λ v. v.rows) vs))) without)

  -- every offset in a table fits four bytes
  pub offsets-small : (e : ℕ) → 0 < sections_of e → first_body e + length (joined (bodies i)) < 256 ^ 4
  offsets-small e known = omega (arith, bodies-length e i widths, table-short e known)

  -- A WELL-FORMED IMAGE FITS ITS BYTES
  pub well-formed-laid : Laid i
  unfolding entries
  well-formed-laid = record {
    peopled = peopled [] i.names (formed i h).names;
    numbers = all_map GoodEntry SmallNumber (λ e g. g.number) (entries i.names) (entries_fit [] i.names (formed i h).names);
    user_roles = user_roles;
    role_types = role_types;
    role_roles = role_roles;
    transitions = wide-transitions;
    constraints = constraints-small 0 i.constraints constraints-good (omega (arith, (formed i h).few-rows));
    rows = all_map SmallRow (λ (r : Row). r.num < 65536) (λ r s. s.num) (all_rows i) rows-small;
    user_sets = user_sets;
    role_sets = role_sets;
    type_sets = type_sets;
    relabels = relabels-small i.relabels relabels-good (formed i h).few-relabel-rows;
    relabel-rows = all_map SmallRow (λ (r : Row). r.num < 65536) (λ r s. s.num) (relabel_rows i) relabel-rows-small;
  }

  -- A TABLE IS READ BACK
  module _ (e : ℕ) (known : 0 < sections_of e) (fits : FitsEdition e i) where
    pub table-back : (rest : List ℕ) → image_in (encode e i ++ rest) ≡ some i
    table-back rest = image-back e i known fits well-formed-laid (offsets-small e known) h rest

    -- the length of a table
    pub length-encode : length (encode e i) ≡ table_length e i
    length-encode = encode-bodies-length e i known fits ∙ bodies-length e i widths
