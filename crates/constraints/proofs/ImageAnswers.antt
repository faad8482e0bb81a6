-- Where the sets, the statements and the rows of an image stand in a table, the bytes say of the constraints and of the validatetrans statements what
-- the image says: their sets, their rows, what each names and whether it holds; so the first that fails and the number consulted are the image's.
-- Assumes nothing.
use Rattle.std.proofs.Common.{◌≡◌, ℕ, ◌+◌, ◌*◌, ◌^◌, ◌<◌, ◌≤◌, Bool, true, ◌&&◌, eqb, ltb, List, [], ◌∷◌, ◌++◌, length, get_or, drop, sym, refl, ap, ◌∙◌, subst, mod-eq_of_lt, arith, length-append}
use Rattle.bitset.specs.Sets.{member}
use Rattle.byte_slices.specs.Parts.{part}
use Rattle.bitset.specs.Relations.{joined}
use Rattle.policy.specs.Basics.{each, every, All}
use Rattle.policy.specs.Statements.{Family, users, roles, types, attribute_of, count, class_names, permissions}
use Rattle.policy.specs.Meaning.{Contexts}
use Rattle.policy.specs.Maxima.{max_relabel_rows}
use Rattle.policy.specs.Rows.{Row, top, balanced}
use Rattle.policy.specs.Image.{Image, ConstraintEntry, RelabelEntry, width}
use Rattle.policy.specs.Encode.{ConstraintRecord, constraint_records, constraint_bytes, row_bytes, relabel_record, relabel_bytes}
use Rattle.policy.specs.Sound.{of_comp, good_row, good_constraint, good_relabel, constraint_at, relabel_at}
use Rattle.policy.specs.Questions.{sets_in, view_of, rows_hold, entry_names, entry_holds}
use Rattle.policy.specs.Deciding.{consult, first_failing}
use Rattle.policy.proofs.Lists.{both_true, all_left, all_right, each_append, each-length, joined-append}
use Rattle.table_laws.specs.SoundTable.{all_rows, relabel_rows}
use Rattle.table_laws.proofs.ListLaws.{every-all, all-each}
use Rattle.table_laws.proofs.Pieces.{Wide, wide-length}
use Rattle.table_laws.proofs.Records.{SmallConstraint, SmallRelabel, row-wide}
use Rattle.table_reader.specs.Records.{records}
use Rattle.table_reader.proofs.RecordLaws.{Stands, stands-left, stands-right, set-part}
use Rattle.table_reader.proofs.BodyRecords.{SmallRow, rows-part, constraints-part, relabels-part}
use Rattle.constraints.specs.declared.Bodies.{Bodies}
use Rattle.constraints.specs.Stack.{bounded_run}
use Rattle.constraints.specs.TableConstraints.{set_start, view_in, rows_hold_in, sides_of, constraints_in, constraint_names, constraint_holds}
use Rattle.constraints.specs.TableConstraints.{RelabelRun, runs_from, relabels_in, relabel_names, relabel_holds}
use Rattle.constraints.proofs.BoundedStack.{bounded-run}
use Rattle.constraints.proofs.SameView.{same-run}

-- what is used here of a well-formed image: its attributes have their sets, all fits its bytes, and the statements are good
pub record Fits (i : Image) : Type 0 where
  pub many : (f : Family) → length (sets_in i f) ≡ count (attribute_of f) i.names
  pub wide : (f : Family) → Wide (width f) (sets_in i f)
  pub constraint-records : All SmallConstraint (constraint_records 0 i.constraints)
  pub rows : All SmallRow (all_rows i)
  pub constraints : All (λ (c : ConstraintEntry). good_constraint i.names c ≡ true) i.constraints
  pub relabel-records : All SmallRelabel (each relabel_record i.relabels)
  pub relabel-rows : All SmallRow (relabel_rows i)
  pub few-relabel-rows : length (relabel_rows i) ≤ max_relabel_rows
  pub relabels : All (λ (c : RelabelEntry). good_relabel i.names c ≡ true) i.relabels

-- THE SETS

-- the sets of an image's attributes stand where b says
pub record PlacedSets (i : Image) (t : List ℕ) (b : Bodies) : Type 0 where
  pub stand : Stands t b.sets (joined i.user_sets ++ (joined i.role_sets ++ joined i.type_sets))
  pub user-attributes : b.user_attributes ≡ length i.user_sets
  pub role-attributes : b.role_attributes ≡ length i.role_sets

module _ (i : Image) (t : List ℕ) (b : Bodies) (fits : Fits i) (placed : PlacedSets i t b) where
  users-stand : Stands t b.sets (joined i.user_sets)
  users-stand = stands-left (joined i.user_sets) (joined i.role_sets ++ joined i.type_sets) placed.stand

  others-stand : Stands t (b.sets + length (joined i.user_sets)) (joined i.role_sets ++ joined i.type_sets)
  others-stand = stands-right (joined i.user_sets) (joined i.role_sets ++ joined i.type_sets) placed.stand

  roles-stand : Stands t (b.sets + length (joined i.user_sets)) (joined i.role_sets)
  roles-stand = stands-left (joined i.role_sets) (joined i.type_sets) others-stand

  types-stand : Stands t (b.sets + length (joined i.user_sets) + length (joined i.role_sets)) (joined i.type_sets)
  types-stand = stands-right (joined i.role_sets) (joined i.type_sets) others-stand

  set-of : (f : Family) (a : ℕ) → a < count (attribute_of f) i.names → part t (set_start b f a) (width f) ≡ get_or (sets_in i f) a []
  set-of users a h = set-part 16 i.user_sets (fits.wide users) a (omega (arith, fits.many users)) users-stand
  set-of roles a h =
      let long = wide-length 16 i.user_sets (fits.wide users) in
      let place : b.sets + 16 * (b.user_attributes + a) ≡ b.sets + length (joined i.user_sets) + 16 * a = omega (arith, placed.user-attributes) in
      ap (λ (n : ℕ). part t n 16) place
      ∙ set-part 16 i.role_sets (fits.wide roles) a (omega (arith, fits.many roles)) roles-stand
  set-of types a h =
      let long = wide-length 16 i.user_sets (fits.wide users) in
      let further = wide-length 16 i.role_sets (fits.wide roles) in
      let place : b.sets + 16 * (b.user_attributes + b.role_attributes) + 64 * a
      ≡ b.sets + length (joined i.user_sets) + length (joined i.role_sets) + 64 * a =
      omega (arith, placed.user-attributes, placed.role-attributes) in
      ap (λ (n : ℕ). part t n 64) place
      ∙ set-part 64 i.type_sets (fits.wide types) a (omega (arith, fits.many types)) types-stand

  same-sets : (on : Contexts) (c a n : ℕ) → a < count (attribute_of (of_comp c)) i.names → (view_in t b (sides_of on)).inset c a n ≡ (view_of i on).inset c a n
  same-sets on c a n h = ap (λ (l : List ℕ). member l n) (set-of (of_comp c) a h)

  -- ONE STATEMENT'S ROWS

  -- what soundness says of them, of so many components
  record SoundRows (many : ℕ) (rows : List Row) : Type 0 where
    good : All (λ (r : Row). good_row many i.names r ≡ true) rows
    even : balanced rows 0 ≡ true

  sound-rows : (many : ℕ) (rows : List Row) (others : Bool) → (others && every (good_row many i.names) rows && balanced rows 0) ≡ true → SoundRows many rows
  sound-rows many rows others h =
      let p = both_true (others && every (good_row many i.names) rows) (balanced rows 0) h in
      record { good = every-all (good_row many i.names) rows (both_true others (every (good_row many i.names) rows) p.0).1; even = p.1 }

  -- rows that stand from row r on hold as the image says
  rows-hold : (on : Contexts) (many : ℕ) (rows : List Row) → SoundRows many rows → All SmallRow rows → (r : ℕ) → Stands t (b.rows + 6 * r) (joined (each row_bytes rows))
      → rows_hold_in t b (sides_of on) r (length rows) ≡ rows_hold i on rows
  rows-hold on many rows sound small r stand =
      let v = view_in t b (sides_of on) in
      ap top (
      ap (λ (rs : List Row). bounded_run v rs []) (rows-part rows small stand)
      ∙ bounded-run v rows [] sound.even
      ∙ same-run many i.names v.side v.inset (view_of i on).inset (same-sets on) rows sound.good []
      )

-- ALL STATEMENTS

-- statements whose rows follow each other, from row r on: each record has its first row
module _ {A H : Type 0} (rows : A → List Row) (recordAt : ℕ → A → H) where
  unfoldable in_order : ℕ → List A → List H
  in_order r [] = []
  in_order r (c ∷ cs) = recordAt r c ∷ in_order (r + length (rows c)) cs

  -- the first that fails is the same, where each names the same and holds as its rows do
  module _ (t : List ℕ) (from n : ℕ) (names holds : H → Bool) (says keeps : A → Bool) (Good : A → Type 0)
      (named : (r : ℕ) (c : A) → names (recordAt r c) ≡ says c)
      (held : (r : ℕ) (c : A) → Good c → All SmallRow (rows c) → Stands t (from + 6 * r) (joined (each row_bytes (rows c)))
      → holds (recordAt r c) ≡ keeps c) where
    in_order_lem : (cs : List A) → All Good cs → All SmallRow (joined (each rows cs)) → (r : ℕ) → Stands t (from + 6 * r) (joined (each row_bytes (joined (each rows cs))))
        → (k : ℕ) → first_failing n names holds k (in_order r cs) ≡ first_failing n says keeps k cs
    unfolding first_failing in_order joined each
    in_order_lem [] good small r stand k = refl
    in_order_lem (c ∷ cs) good small r stand k =
        let mine = joined (each row_bytes (rows c)) in
        let later = joined (each rows cs) in
        let both : Stands t (from + 6 * r) (mine ++ joined (each row_bytes later)) =
        subst (Stands t (from + 6 * r)) (ap joined (each_append row_bytes (rows c) later) ∙ joined-append (each row_bytes (rows c)) (each row_bytes later)) stand in
        let here = all_left SmallRow (rows c) later small in
        let long : length mine ≡ length (rows c) * 6 =
        wide-length 6 (each row_bytes (rows c)) (all-each SmallRow (λ (s : List ℕ). length s ≡ 6) row_bytes (λ x s. row-wide x) (rows c) here)
        ∙ ap (λ (k : ℕ). k * 6) (each-length row_bytes (rows c)) in
        let next : from + 6 * r + length mine ≡ from + 6 * (r + length (rows c)) = omega arith in
        let after = in_order_lem cs good.1 (all_right SmallRow (rows c) later small) (r + length (rows c))
        (subst (λ (p : ℕ). Stands t p (joined (each row_bytes later))) next (stands-right mine (joined (each row_bytes later)) both)) (k + 1) in
        λ j. consult n (named r c j) (held r c good.0 here (stands-left mine (joined (each row_bytes later)) both) j) k (after j)

-- CONSTRAINTS

abbrev record_of : ℕ → ConstraintEntry → ConstraintRecord
record_of r c = record { class = c.class; mask = c.mask; first = r; rows = length c.rows }

records-in-order : (r : ℕ) (cs : List ConstraintEntry) → constraint_records r cs ≡ in_order (λ c. c.rows) record_of r cs
unfolding constraint_records in_order
records-in-order r [] = refl
records-in-order r (c ∷ cs) = ap (λ (l : List ConstraintRecord). record_of r c ∷ l) (records-in-order (r + length c.rows) cs)

-- the constraints of an image and their rows stand where b says
pub record Placed (i : Image) (t : List ℕ) (b : Bodies) : Type 0 where
  pub sets : PlacedSets i t b
  pub count : b.count ≡ length (constraint_records 0 i.constraints)
  pub records : Stands t b.statements (joined (each constraint_bytes (constraint_records 0 i.constraints)))
  pub rows : Stands t b.rows (joined (each row_bytes (all_rows i)))

pub image-constraints : (i : Image) (t : List ℕ) (b : Bodies) → Fits i → Placed i t b → (on : Contexts) (class permission : ℕ)
    → first_failing 4 (constraint_names class permission) (constraint_holds t b (sides_of on)) 0 (constraints_in t b)
    ≡ first_failing 4 (entry_names class permission) (entry_holds i on) 0 i.constraints
image-constraints i t b fits placed on class permission =
    let ds = i.names in
    let others : ConstraintEntry → Bool =
    λ c. ltb c.class (length (class_names ds)) && ltb 0 c.mask && ltb c.mask (2 ^ length (permissions ds c.class)) in
    let start : b.rows ≡ b.rows + 6 * 0 = omega arith in
    ap (first_failing 4 (constraint_names class permission) (constraint_holds t b (sides_of on)) 0) (
    ap (λ (n : ℕ). records 10 constraint_at n (drop b.statements t)) placed.count
    ∙ constraints-part (constraint_records 0 i.constraints) fits.constraint-records placed.records
    ∙ records-in-order 0 i.constraints
    )
    ∙ in_order_lem (λ c. c.rows) record_of t b.rows 4 (constraint_names class permission) (constraint_holds t b (sides_of on))
    (entry_names class permission) (entry_holds i on)
    (λ c. good_constraint ds c ≡ true) (λ r c. refl)
    (λ r c good small stand. rows-hold i t b fits placed.sets on 6 c.rows (sound-rows i t b fits placed.sets 6 c.rows (others c) good) small r stand)
    i.constraints fits.constraints fits.rows 0 (subst (λ (p : ℕ). Stands t p (joined (each row_bytes (all_rows i)))) start placed.rows) 0

-- VALIDATETRANS STATEMENTS

abbrev run_of : ℕ → RelabelEntry → RelabelRun
run_of r c = record { class = c.class; first = r; rows = length c.rows }

-- the running sums, which stay below where they go round
runs-in-order : (r : ℕ) (cs : List RelabelEntry) → r + length (joined (each (λ c. c.rows) cs)) < 65536
    → runs_from r (each relabel_record cs) ≡ in_order (λ c. c.rows) run_of r cs
unfolding runs_from in_order joined each
runs-in-order r [] h = refl
runs-in-order r (c ∷ cs) h =
    let later = joined (each (λ (c : RelabelEntry). c.rows) cs) in
    let sum = length-append c.rows later in
    let below : r + length c.rows < 65536 = omega arith in
    rw (mod-eq_of_lt below) (
    ap (λ (l : List RelabelRun). run_of r c ∷ l) (runs-in-order (r + length c.rows) cs (omega arith))
    )

-- the validatetrans statements of an image and their rows stand where b says
pub record PlacedRelabels (i : Image) (t : List ℕ) (b : Bodies) : Type 0 where
  pub sets : PlacedSets i t b
  pub count : b.count ≡ length i.relabels
  pub records : Stands t b.statements (joined (each relabel_bytes (each relabel_record i.relabels)))
  pub rows : Stands t b.rows (joined (each row_bytes (relabel_rows i)))

pub image-relabels : (i : Image) (t : List ℕ) (b : Bodies) → Fits i → PlacedRelabels i t b → (on : Contexts) (class : ℕ)
    → first_failing 6 (relabel_names class) (relabel_holds t b (sides_of on)) 0 (relabels_in t b)
    ≡ first_failing 6 (λ x. eqb x.class class) (λ x. rows_hold i on x.rows) 0 i.relabels
image-relabels i t b fits placed on class =
    let ds = i.names in
    let start : b.rows ≡ b.rows + 6 * 0 = omega arith in
    ap (first_failing 6 (relabel_names class) (relabel_holds t b (sides_of on)) 0) (
    ap (λ (n : ℕ). runs_from 0 (records 4 relabel_at n (drop b.statements t))) (placed.count ∙ sym (each-length relabel_record i.relabels))
    ∙ ap (runs_from 0) (relabels-part (each relabel_record i.relabels) fits.relabel-records placed.records)
    ∙ runs-in-order 0 i.relabels (omega (arith, fits.few-relabel-rows))
    )
    ∙ in_order_lem (λ c. c.rows) run_of t b.rows 6 (relabel_names class) (relabel_holds t b (sides_of on)) (λ x. eqb x.class class) (λ x. rows_hold i on x.rows)
    (λ c. good_relabel ds c ≡ true) (λ r c. refl)
    (λ r c good small stand. rows-hold i t b fits placed.sets on 9 c.rows (sound-rows i t b fits placed.sets 9 c.rows (ltb c.class (length (class_names ds))) good) small r stand)
    i.relabels fits.relabels fits.relabel-rows 0 (subst (λ (p : ℕ). Stands t p (joined (each row_bytes (relabel_rows i)))) start placed.rows) 0
