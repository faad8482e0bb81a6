-- Document 01: "operators are those the forms above allow (kinds 4 and 5 only eq and neq, and so for u and t), no bit or index names
-- something undeclared, masks are not 0, constraints take up the rows in order with none left, and each constraint's rows, at least one,
-- leave between 1 and 5 on the stack after every row and 1 after the last": said of the bytes of rows, where the names of body 1 are known by
-- their numbers alone. Assumes nothing.
use Rattle.std.specs.Prelude.{ℕ, zero, suc, ◌≡◌, ◌+◌, ◌^◌, ◌<◌, ◌≤◌, Bool, true, false, ◌&&◌, ◌||◌, cond, List, [], ◌∷◌, eqb, leb, ltb, length, get_or, take, drop, Option, Some, None}
use Rattle.std.proofs.Math.Option as maybe
use Rattle.policy.specs.Basics.{◌>>=◌, each_of, every}
use Rattle.policy.specs.Statements.{Family}
use Rattle.policy.specs.Maxima.{max_stack}
use Rattle.policy.specs.Rows.{Row, after, balanced}
use Rattle.policy.specs.Image.{ConstraintEntry, RelabelEntry}
use Rattle.policy.specs.Encode.{ConstraintRecord, RelabelRecord}
use Rattle.policy.specs.Sound.{of_comp, row_at, assign_rows, assign_relabels}
use Rattle.table_reader.specs.Records as records
use Rattle.sound_constraints.specs.Totals.{Totals}

-- there is a value; there is one, and it passes the test
abbrev pub is_some : {A : Type 0} → maybe.Option A → Bool
is_some maybe.none = false
is_some (maybe.some a) = true

abbrev pub passes : {A : Type 0} → maybe.Option A → (A → Bool) → Bool
passes maybe.none f = false
passes (maybe.some a) f = f a

-- ROWS

-- "Unused fields are 0"
abbrev pub is_bare : Row → Bool
is_bare r = eqb r.comp 0 && eqb r.op 0 && eqb r.num 0

-- "kind 3 uses u1, r1, t1"; "kinds 4 and 5 only eq and neq, and so for u and t"
abbrev pub compares_sides : Row → Bool
compares_sides r = (eqb r.comp 0 || eqb r.comp 4) && ltb r.op 2 && eqb r.num 0 || eqb r.comp 2 && ltb r.op 5 && eqb r.num 0

-- components are those below k: a constrain's six, a validatetrans's nine
abbrev pub names_one : ℕ → Row → ℕ → Bool
names_one k r n = ltb r.comp k && ltb r.op 2 && ltb r.num n

abbrev pub fits_row : ℕ → (Family → ℕ) → (Family → ℕ) → Row → Bool
fits_row k things attributes r =
    cond (ltb r.kind 3) (is_bare r)
    (cond (eqb r.kind 3) (compares_sides r)
    (cond (eqb r.kind 4) (names_one k r (things (of_comp r.comp)))
    (cond (eqb r.kind 5) (names_one k r (attributes (of_comp r.comp)))
    false)))

-- "masks are not 0", and "no bit .. names something undeclared"
abbrev pub fits_mask : ℕ → (ℕ → ℕ) → ℕ → ℕ → Bool
fits_mask classes permissions class mask = ltb class classes && ltb 0 mask && ltb mask (2 ^ permissions class)

-- the depth where it is "between 1 and 5"
abbrev pub kept : ℕ → Option ℕ
kept d = cond (leb 1 d && leb d max_stack) (Some d) None

-- the rows in these bytes are good, their fourth bytes are 0, and they are balanced from depth d on
unfoldable pub rows_fit : (Row → Bool) → List (List ℕ) → ℕ → Bool
rows_fit good [] d = eqb d 1
rows_fit good (t ∷ ts) d =
    let r = records.row_at t in
    eqb (get_or t 3 0) 0 && good r && (leb 1 (after r d) && leb (after r d) max_stack) && rows_fit good ts (after r d)

-- STATEMENTS

-- there is an answer, and it passes the test
abbrev pub answers : {A : Type 0} → Option A → (A → Bool) → Bool
answers None f = false
answers (Some a) f = f a

-- whoever is asked of a statement below n and a row up to m answers as f
abbrev pub AnswersAs : (ℕ → ℕ → Option ℕ → Type 0) → ℕ → ℕ → (ℕ → ℕ → Option ℕ) → Type 0
AnswersAs post n m f = (k r : ℕ) (o : Option ℕ) → k < n → r ≤ m → post k r o → o ≡ f k r

-- so many statements, from statement k on, take up the rows in these bytes in order, from row r on, with none left; f is asked how many rows
-- a statement takes up from a row on
unfoldable pub taken_up : (ℕ → ℕ → Option ℕ) → (Row → Bool) → ℕ → ℕ → ℕ → List (List ℕ) → Bool
taken_up f good k zero r ts = eqb (length ts) 0
taken_up f good k (suc n) r ts =
    answers (f k r) (λ m. leb m (length ts) && rows_fit good (take m ts) 0 && taken_up f good (k + 1) n (r + m) (drop m ts))

-- what is asked of a statement's record: how many rows it takes up, whether it may take them up from a row on, and whether it is good by itself
pub record AskedOf (A : Type 0) : Type 0 where
  pub rows : A → ℕ
  pub starts : A → ℕ → Bool
  pub fits : A → Bool

-- statements take up the rows in these bytes in order, from row r on, with none left
unfoldable pub take_up : {A : Type 0} → AskedOf A → (Row → Bool) → ℕ → List A → List (List ℕ) → Bool
take_up asks good r [] ts = eqb (length ts) 0
take_up asks good r (h ∷ hs) ts =
    asks.starts h r && leb (asks.rows h) (length ts) && asks.fits h && rows_fit good (take (asks.rows h) ts) 0
    && take_up asks good (r + asks.rows h) hs (drop (asks.rows h) ts)

-- how many rows a statement takes up, where it may take them up from a row on and is good by itself
abbrev pub rows_asked : {A : Type 0} → AskedOf A → A → ℕ → Option ℕ
rows_asked asks h r = cond (asks.starts h r && asks.fits h) (Some (asks.rows h)) None

module _ (n : Totals) where
  -- a constraint says which row is its first
  abbrev pub asks_constraint : AskedOf ConstraintRecord
  asks_constraint = record {
    rows = λ h. h.rows;
    starts = λ h r. eqb h.first r;
    fits = λ h. fits_mask n.classes n.permissions h.class h.mask;
  }

  abbrev pub asks_relabel : AskedOf RelabelRecord
  asks_relabel = record { rows = λ h. h.rows; starts = λ h r. true; fits = λ h. ltb h.class n.classes }

  abbrev pub fits_constraint : ConstraintEntry → Bool
  fits_constraint c =
      fits_mask n.classes n.permissions c.class c.mask && every (fits_row 6 n.things n.attributes) c.rows && balanced c.rows 0

  -- the constraints of these records, where their rows are in these bytes
  abbrev pub constraints_fit : List ConstraintRecord → List (List ℕ) → Bool
  constraints_fit hs ts = passes (each_of row_at ts >>= λ rs. assign_rows 0 hs rs) (every fits_constraint)

  -- W-205: "sound as 6 and 7 are"
  abbrev pub fits_relabel : RelabelEntry → Bool
  fits_relabel c = ltb c.class n.classes && every (fits_row 9 n.things n.attributes) c.rows && balanced c.rows 0

  -- the validatetrans statements of these records, where their rows are in these bytes
  abbrev pub relabels_fit : List RelabelRecord → List (List ℕ) → Bool
  relabels_fit hs ts = passes (each_of row_at ts >>= λ rs. assign_relabels hs rs) (every fits_relabel)
