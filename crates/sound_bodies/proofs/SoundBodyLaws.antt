-- What the definition of a sound table asks of each body, asked of the bytes of the table where the header says that the body stands. Each
-- law is an equation of tests. Assumes nothing.
use Prim.Native.Nat.{ℕ, ◌+◌, ◌-◌, ◌*◌, ◌/◌, ◌≤◌}
use native.Mathlib.Omega.{arith}
use mathlib.Core.Path.{◌≡◌, refl, sym, ap, ap₂, ◌∙◌}
use mathlib.Core.Bool.{Bool, true, false, ◌&&◌, ◌||◌, cond, and_assoc, and_comm, and-false}
use mathlib.Core.List.{List, [], ◌∷◌}
use mathlib.Core.Option.{Option, none, some}
use lib.Dec.{eqb, leb}
use lib.ListN.{length, get_or, take, drop, length-append, length-drop, take-append-drop}
use lib.Seq.{drop-drop, length-take-le}
use borrow.Author.Tests.{eqb-true, eqb-false, eq-eqb, leb-true}
use Rattle.bitset.specs.Sets.{within}
use Rattle.bitset.specs.Relations.{joined}
use Rattle.policy.specs.Basics.{◌>>=◌, each, each_of, every, All}
use Rattle.policy.specs.Statements.{Family, users, roles, types, thing_of, attribute_of, Declaration, count}
use Rattle.policy.specs.Maxima.{max_transitions, max_constraints, max_rows, max_relabels, max_relabel_rows}
use Rattle.policy.specs.Rows.{Row}
use Rattle.policy.specs.Image.{ConstraintEntry, RelabelEntry, width}
use Rattle.policy.specs.Encode.{ConstraintRecord, RelabelRecord, relabel_record, sections_of}
use Rattle.policy.specs.Sound.{good_set, good_sets, good_transition, good_constraint, good_relabel, pieces, transition_at, constraint_at, row_at, assign_rows, relabel_at, assign_relabels}
use Rattle.policy.specs.Sound.{edition_in, bodies_in}
use Rattle.policy.proofs.Lists.{both_true, each-length, under}
use Rattle.table_laws.proofs.Pieces.{Wide, exactly-only}
use Rattle.table_laws.proofs.Constraints.{rows_in, assign-only, relabels-only}
use Rattle.table_laws.proofs.Lengths.{constraint-records-length}
use Rattle.table_reader.specs.Records.{start_in, length_in}
use Rattle.sound_constraints.specs.Totals.{totals_of}
use Rattle.sound_constraints.specs.SoundRows.{passes, relabels_fit}
use Rattle.sound_constraints.proofs.PieceLaws.{pieces-length, pieces-within, drop-take, every-each}
use Rattle.sound_constraints.proofs.ConstraintLaws.{each-of-length}
use Rattle.sound_bodies.specs.SoundBodies.{sets_within, sets_sound, has_records, fits_transition, transitions_sound, constraints_sound, attributes_sound, relabels_sound}
use Rattle.sound_bodies.proofs.LayoutTest.{BodyAt, relabels-at, relabels-none}

-- TESTS

module _ {A : Type 0} (f g : A → Bool) (P : A → Type 0) (same : (x : A) → P x → f x ≡ g x) where
  pub every-same : (xs : List A) → All P xs → every f xs ≡ every g xs
  unfolding every
  every-same [] h = refl
  every-same (x ∷ xs) h = ap₂ {C = Bool} (λ a b. a && b) (same x h.0) (every-same xs h.1)

-- parts that are cut out exactly have their width
pieces-wide : (n w : ℕ) (b : List ℕ) → length b ≡ n * w → Wide w (pieces n w b)
pieces-wide n w b e =
    (exactly-only n w b (pieces n w b) (ap (λ (t : Bool). cond t (some (pieces n w b)) none) (eq-eqb (length b) (n * w) e))).wide

-- the same tests in another order
order : (h r a b p : Bool) → (h && (r && (a && b && p))) ≡ (h && a && (r && b) && p)
order false r a b p = refl
order true true a b p = refl
order true false true b p = refl
order true false false b p = refl

last : (a e b : Bool) → (a && e && b) ≡ (a && b && e)
last false e b = refl
last true e b = and_comm e b

apart : (e x y z : Bool) → (e && (x && y && z)) ≡ (e && x && y && z)
apart false x y z = refl
apart true x y z = refl

-- three parts, one after the other, have their lengths exactly if the whole has their sum
three-parts : (x y n : ℕ) (b : List ℕ) (z : Bool)
    → (eqb (length (take x b)) x && (eqb (length (take y (drop x b))) y && (eqb (length (drop y (drop x b))) n && z))) ≡ (eqb (length b) (x + y + n) && z)
three-parts x y n b z = by (eqb (length b) (x + y + n)) refl
  where
    first : length (take x b) ≡ length b - (length b - x)
    first = omega (arith, length-drop x b, ap length (take-append-drop x b), length-append (take x b) (drop x b))

    second : length (take y (drop x b)) ≡ length b - x - (length b - x - y)
    second = omega (arith, length-drop x b, length-drop y (drop x b), ap length (take-append-drop y (drop x b)), length-append (take y (drop x b)) (drop y (drop x b)))

    third : length (drop y (drop x b)) ≡ length b - x - y
    third = omega (arith, length-drop x b, length-drop y (drop x b))

    not-all : (p q r : Bool) → eqb (length (take x b)) x ≡ p → eqb (length (take y (drop x b))) y ≡ q → eqb (length (drop y (drop x b))) n ≡ r
        → (length b ≡ x + y + n → ⊥) → (p && (q && (r && z))) ≡ false
    not-all false q r e f g h = refl
    not-all true false r e f g h = refl
    not-all true true false e f g h = refl
    not-all true true true e f g h =
        absurd (h (omega (arith, first, second, third, eqb-true (length (take x b)) x e, eqb-true (length (take y (drop x b))) y f, eqb-true (length (drop y (drop x b))) n g)))

    by : (w : Bool) → eqb (length b) (x + y + n) ≡ w
        → (eqb (length (take x b)) x && (eqb (length (take y (drop x b))) y && (eqb (length (drop y (drop x b))) n && z))) ≡ (w && z)
    by true e =
        let all = eqb-true (length b) (x + y + n) e in
        rw (
          eq-eqb (length (take x b)) x (omega (arith, first)),
          eq-eqb (length (take y (drop x b))) y (omega (arith, second)),
          eq-eqb (length (drop y (drop x b))) n (omega (arith, third)),
        )
    by false e =
        not-all (eqb (length (take x b)) x) (eqb (length (take y (drop x b))) y) (eqb (length (drop y (drop x b))) n) refl refl refl (eqb-false (length b) (x + y + n) e)

-- WHERE A BODY STANDS

module _ (t : List ℕ) (bs : List (List ℕ)) (k : ℕ) (at : BodyAt t bs k) where
  -- the parts of a body are those of the table where it stands
  pub body-pieces : (n w : ℕ) → n * w ≤ length_in t k → pieces n w (get_or bs k []) ≡ pieces n w (drop (start_in t k) t)
  body-pieces n w h = ap (pieces n w) at.bytes ∙ pieces-within n w (length_in t k) (drop (start_in t k) t) h

-- records are not more than so many
pub few-records : (k w most : ℕ) (t : List ℕ) → has_records k w most t ≡ true → length_in t k / w ≤ most
few-records k w most t h = leb-true (length_in t k / w) most (both_true (eqb (length_in t k) (length_in t k / w * w)) (leb (length_in t k / w) most) h).1

-- STATEMENTS AND THEIR ROWS

-- statements whose records have w bytes: rows are dealt out to them so that no statement and no row is lost
module _ {H A : Type 0} (w most mostRows : ℕ) (read : List ℕ → H) (deal : List H → List Row → Option (List A)) (rows_of : A → List Row) (good : A → Bool)
    (none-lost : (hs : List H) (rs : List Row) (cs : List A) → deal hs rs ≡ some cs → (length cs ≡ length hs) × (joined (each rows_of cs) ≡ rs)) where
  abbrev few_and_good : List A → Bool
  few_and_good cs = leb (length cs) most && every good cs && leb (length (joined (each rows_of cs))) mostRows

  -- how many statements and rows there are does not hang on how the rows are dealt out
  dealt-few : (hs : List H) (ts : List (List ℕ)) (o : Option (List Row)) → o ≡ each_of row_at ts
      → passes (o >>= λ rs. deal hs rs) few_and_good ≡ (leb (length hs) most && leb (length ts) mostRows && passes (o >>= λ rs. deal hs rs) (every good))
  dealt-few hs ts none e = sym (and-false (leb (length hs) most && leb (length ts) mostRows))
  dealt-few hs ts (some rs) e = by (deal hs rs) refl
    where
      by : (o : Option (List A)) → deal hs rs ≡ o → passes o few_and_good ≡ (leb (length hs) most && leb (length ts) mostRows && passes o (every good))
      by none f = sym (and-false (leb (length hs) most && leb (length ts) mostRows))
      by (some cs) f =
          let same = none-lost hs rs cs f in
          let rows : length (joined (each rows_of cs)) ≡ length ts = ap length same.1 ∙ each-of-length row_at ts rs (sym e) in
          rw (same.0, rows) (last (leb (length hs) most) (every good cs) (leb (length ts) mostRows))

  -- statements in body k, their rows in body j
  statement-bodies : (t : List ℕ) (bs : List (List ℕ)) (k j : ℕ) → BodyAt t bs k → BodyAt t bs j →
      let b = get_or bs k [] in
      let d = get_or bs j [] in
      (eqb (length b) (length b / w * w) && (eqb (length d) (length d / 6 * 6)
      && passes (each_of row_at (pieces (length d / 6) 6 d) >>= λ rs. deal (each read (pieces (length b / w) w b)) rs) few_and_good))
      ≡ (has_records k w most t && has_records j 6 mostRows t
      && passes (each_of row_at (pieces (length_in t j / 6) 6 (drop (start_in t j) t)) >>= λ rs. deal (each read (pieces (length_in t k / w) w (drop (start_in t k) t))) rs) (every good))
  statement-bodies t bs k j at below =
      let b = get_or bs k [] in
      let d = get_or bs j [] in
      let n = length_in t k / w in
      let m = length_in t j / 6 in
      rw (at.long, below.long)
      (under (eqb (length_in t k) (n * w)) (λ e. under (eqb (length_in t j) (m * 6)) (λ f.
      let long = eqb-true (length_in t k) (n * w) e in
      let rows = eqb-true (length_in t j) (m * 6) f in
      dealt-few (each read (pieces n w b)) (pieces m 6 d) (each_of row_at (pieces m 6 d)) refl
      ∙ rw (each-length read (pieces n w b), pieces-length n w b, pieces-length m 6 d, body-pieces t bs k at n w (omega arith), body-pieces t bs j below m 6 (omega arith))))
      ∙ order (eqb (length_in t k) (n * w)) (eqb (length_in t j) (m * 6)) (leb n most) (leb m mostRows)
      (passes (each_of row_at (pieces m 6 (drop (start_in t j) t)) >>= λ rs. deal (each read (pieces n w (drop (start_in t k) t))) rs) (every good)))

module _ (ds : List Declaration) where
  -- SETS

  -- the sets of bytes that have the right length
  pub sets-good : (n : ℕ) (f : Family) (b : List ℕ) → length b ≡ n * width f
      → good_sets ds n f (pieces n (width f) b) ≡ sets_within n (width f) (count (thing_of f) ds) b
  sets-good n f b e =
      rw (eq-eqb (length (pieces n (width f) b)) n (pieces-length n (width f) b))
      (every-same (good_set ds f) (within (count (thing_of f) ds)) (λ s. length s ≡ width f)
      (λ s l. ap (λ (t : Bool). t && within (count (thing_of f) ds) s) (eq-eqb (length s) (width f) l))
      (pieces n (width f) b) (pieces-wide n (width f) b e))

  module _ (t : List ℕ) (bs : List (List ℕ)) (k : ℕ) (at : BodyAt t bs k) where
    -- a body of sets
    pub set_body : (n : ℕ) (f : Family)
        → (eqb (length (get_or bs k [])) (n * width f) && good_sets ds n f (pieces n (width f) (get_or bs k []))) ≡ sets_sound k n (width f) (count (thing_of f) ds) t
    set_body n f =
        rw at.long
        (under (eqb (length_in t k) (n * width f)) (λ e.
        let long = eqb-true (length_in t k) (n * width f) e in
        sets-good n f (get_or bs k []) (at.long ∙ long)
        ∙ ap (every (within (count (thing_of f) ds))) (body-pieces t bs k at n (width f) (omega arith))))

    -- parts that are in a body from an offset on
    pub inner-pieces : (n w o : ℕ) → o + n * w ≤ length_in t k → pieces n w (drop o (get_or bs k [])) ≡ pieces n w (drop (start_in t k + o) t)
    inner-pieces n w o h =
        let left : o + (length_in t k - o) ≡ length_in t k = omega arith in
        ap (λ (b : List ℕ). pieces n w (drop o b)) (at.bytes ∙ ap (λ (m : ℕ). take m (drop (start_in t k) t)) (sym left))
        ∙ ap (pieces n w) (drop-take o (length_in t k - o) (drop (start_in t k) t))
        ∙ pieces-within n w (length_in t k - o) (drop o (drop (start_in t k) t)) (omega arith)
        ∙ ap (pieces n w) (drop-drop o (start_in t k) t)

  -- TRANSITIONS

  transition-good : (s : List ℕ) → length s ≡ 82 → good_transition ds (transition_at s) ≡ fits_transition (totals_of ds).things (totals_of ds).classes (transition_at s)
  transition-good s l =
      rw (
        length-take-le 16 s (omega arith),
        length-take-le 64 (drop 16 s) (omega (arith, length-drop 16 s)),
      )

  pub transition-body : (t : List ℕ) (bs : List (List ℕ)) → BodyAt t bs 4 →
      let b = get_or bs 4 [] in
      let ms = each transition_at (pieces (length b / 82) 82 b) in
      (eqb (length b) (length b / 82 * 82) && (leb (length ms) max_transitions && every (good_transition ds) ms)) ≡ transitions_sound (totals_of ds).things (totals_of ds).classes t
  transition-body t bs at =
      let b = get_or bs 4 [] in
      let n = length_in t 4 / 82 in
      let fits = fits_transition (totals_of ds).things (totals_of ds).classes in
      rw (at.long, each-length transition_at (pieces n 82 b), pieces-length n 82 b)
      (under (eqb (length_in t 4) (n * 82)) (λ e.
      let long = eqb-true (length_in t 4) (n * 82) e in
      ap (λ (x : Bool). leb n max_transitions && x)
      (every-each (good_transition ds) transition_at (pieces n 82 b)
      ∙ every-same (λ s. good_transition ds (transition_at s)) (λ s. fits (transition_at s)) (λ s. length s ≡ 82) transition-good (pieces n 82 b)
      (pieces-wide n 82 b (at.long ∙ long))
      ∙ sym (every-each fits transition_at (pieces n 82 b))
      ∙ ap (λ (ps : List (List ℕ)). every fits (each transition_at ps)) (body-pieces t bs 4 at n 82 (omega arith))))
      ∙ sym (and_assoc (eqb (length_in t 4) (n * 82)) (leb n max_transitions) (every fits (each transition_at (pieces n 82 (drop (start_in t 4) t))))))

  -- CONSTRAINTS

  pub constraint-bodies : (t : List ℕ) (bs : List (List ℕ)) → BodyAt t bs 5 → BodyAt t bs 6 →
      let b = get_or bs 5 [] in
      let d = get_or bs 6 [] in
      let dealt = each_of row_at (pieces (length d / 6) 6 d) >>= λ rs. assign_rows 0 (each constraint_at (pieces (length b / 10) 10 b)) rs in
      (eqb (length b) (length b / 10 * 10) && (eqb (length d) (length d / 6 * 6)
      && passes dealt (λ cs. leb (length cs) max_constraints && every (good_constraint ds) cs && leb (length (rows_in cs)) max_rows)))
      ≡ constraints_sound (totals_of ds) t
  constraint-bodies t bs at below =
      statement-bodies 10 max_constraints max_rows constraint_at (λ hs rs. assign_rows 0 hs rs) (λ c. c.rows) (good_constraint ds) none-lost t bs 5 6 at below
    where
      none-lost : (hs : List ConstraintRecord) (rs : List Row) (cs : List ConstraintEntry) → assign_rows 0 hs rs ≡ some cs → (length cs ≡ length hs) × (rows_in cs ≡ rs)
      none-lost hs rs cs e = let only = assign-only 0 hs rs cs e in (sym (constraint-records-length 0 cs) ∙ ap length only.0, only.1)

  -- VALIDATETRANS STATEMENTS

  -- what is asked of the bodies 9 and 10
  abbrev relabels_asked : List ℕ → List ℕ → Bool
  relabels_asked b d =
      eqb (length b) (length b / 4 * 4) && (eqb (length d) (length d / 6 * 6)
      && passes (each_of row_at (pieces (length d / 6) 6 d) >>= λ rs. assign_relabels (each relabel_at (pieces (length b / 4) 4 b)) rs)
      (λ vs. leb (length vs) max_relabels && every (good_relabel ds) vs && leb (length (joined (each (λ (v : RelabelEntry). v.rows) vs))) max_relabel_rows))

  -- no bytes are no statements
  empty-asked : relabels_asked [] [] ≡ true
  unfolding pieces each_of each assign_relabels joined every
  empty-asked = refl

  pub relabel-bodies : (t : List ℕ) (bs : List (List ℕ)) → bodies_in t ≡ some bs → relabels_asked (get_or bs 8 []) (get_or bs 9 []) ≡ relabels_sound (totals_of ds) t
  relabel-bodies t bs laid = by (leb (sections_of (edition_in t)) 8) refl
    where
      none-lost : (hs : List RelabelRecord) (rs : List Row) (vs : List RelabelEntry) → assign_relabels hs rs ≡ some vs
          → (length vs ≡ length hs) × (joined (each (λ (v : RelabelEntry). v.rows) vs) ≡ rs)
      none-lost hs rs vs e = let only = relabels-only hs rs vs e in (sym (each-length relabel_record vs) ∙ ap length only.0, only.1)

      by : (n : Bool) → leb (sections_of (edition_in t)) 8 ≡ n
          → relabels_asked (get_or bs 8 []) (get_or bs 9 [])
          ≡ (n || has_records 8 4 max_relabels t && has_records 9 6 max_relabel_rows t
          && relabels_fit (totals_of ds) (each relabel_at (pieces (length_in t 8 / 4) 4 (drop (start_in t 8) t))) (pieces (length_in t 9 / 6) 6 (drop (start_in t 9) t)))
      by true few = let empty = relabels-none t bs laid few in ap₂ relabels_asked empty.0 empty.1 ∙ empty-asked
      by false more =
          let at = relabels-at t bs laid more in
          statement-bodies 4 max_relabels max_relabel_rows relabel_at assign_relabels (λ v. v.rows) (good_relabel ds) none-lost t bs 8 9 at.0 at.1

  -- ATTRIBUTES

  pub attribute-body : (t : List ℕ) (bs : List (List ℕ)) → BodyAt t bs 7 →
      let b = get_or bs 7 [] in
      let us = count (attribute_of users) ds in
      let rs = count (attribute_of roles) ds in
      let ts = count (attribute_of types) ds in
      let first = take (16 * us) b in
      let second = take (16 * rs) (drop (16 * us) b) in
      let third = drop (16 * rs) (drop (16 * us) b) in
      (eqb (length first) (us * 16) && (eqb (length second) (rs * 16) && (eqb (length third) (ts * 64)
      && (good_sets ds us users (pieces us 16 first) && good_sets ds rs roles (pieces rs 16 second) && good_sets ds ts types (pieces ts 64 third)))))
      ≡ attributes_sound (totals_of ds).things (totals_of ds).attributes t
  attribute-body t bs at =
      let b = get_or bs 7 [] in
      let us = count (attribute_of users) ds in
      let rs = count (attribute_of roles) ds in
      let ts = count (attribute_of types) ds in
      let ua = 16 * us in
      let ra = 16 * rs in
      let first = take ua b in
      let second = take ra (drop ua b) in
      let third = drop ra (drop ua b) in
      let u : us * 16 ≡ ua = omega arith in
      let r : rs * 16 ≡ ra = omega arith in
      let y : ts * 64 ≡ 64 * ts = omega arith in
      let inside : Family → List (List ℕ) → Bool = λ f ps. every (within (count (thing_of f) ds)) ps in
      rw (u, r, y)
      (three-parts ua ra (64 * ts) b (good_sets ds us users (pieces us 16 first) && good_sets ds rs roles (pieces rs 16 second) && good_sets ds ts types (pieces ts 64 third))
      ∙ rw at.long
      (under (eqb (length_in t 7) (ua + ra + 64 * ts)) (λ e.
      let long = eqb-true (length_in t 7) (ua + ra + 64 * ts) e in
      let place : start_in t 7 + (ua + ra) ≡ start_in t 7 + ua + ra = omega arith in
      ap₂ {C = Bool} (λ (x z : Bool). x && z)
      (ap₂ {C = Bool} (λ (x z : Bool). x && z)
      (sets-good us users first (length-take-le ua b (omega (arith, at.long)) ∙ sym u)
      ∙ ap (inside users) (pieces-within us 16 ua b (omega arith) ∙ body-pieces t bs 7 at us 16 (omega arith)))
      (sets-good rs roles second (length-take-le ra (drop ua b) (omega (arith, at.long, length-drop ua b)) ∙ sym r)
      ∙ ap (inside roles) (pieces-within rs 16 ra (drop ua b) (omega arith) ∙ inner-pieces t bs 7 at rs 16 ua (omega arith))))
      (sets-good ts types third (omega (arith, at.long, length-drop ua b, length-drop ra (drop ua b)))
      ∙ ap (inside types) (ap (pieces ts 64) (drop-drop ra ua b) ∙ inner-pieces t bs 7 at ts 64 (ua + ra) (omega arith) ∙ ap (λ (k : ℕ). pieces ts 64 (drop k t)) place)))
      ∙ apart (eqb (length_in t 7) (ua + ra + 64 * ts)) (sets_within us 16 (count (thing_of users) ds) (drop (start_in t 7) t))
      (sets_within rs 16 (count (thing_of roles) ds) (drop (start_in t 7 + ua) t)) (sets_within ts 64 (count (thing_of types) ds) (drop (start_in t 7 + ua + ra) t))))
