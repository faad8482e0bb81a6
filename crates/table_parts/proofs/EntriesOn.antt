-- The question entry on a sound table, asked of its header and of the counts of its names. Assumes nothing.
use Prim.Native.Nat.{ℕ, zero, suc, ◌+◌, ◌-◌, ◌/◌, ◌<◌, ◌≤◌, min}
use native.Mathlib.Omega.{arith}
use mathlib.Core.Path.{◌≡◌, refl, sym, ap, ap₂, ◌∙◌}
use mathlib.Core.List.{List, [], ◌∷◌}
use lib.ListN.{length, get_or, take, drop}
use lib.Seq.{get_or-drop}
use Rattle.bitset.specs.Relations.{joined}
use Rattle.policy.specs.Basics.{each}
use Rattle.policy.specs.Statements.{Family, users, roles, types, attribute_of, count}
use Rattle.policy.specs.declared.NameCounts.{NameCounts}
use Rattle.policy.specs.Image.{Image, RelabelEntry}
use Rattle.policy.specs.Encode.{transition_bytes, constraint_bytes, constraint_records, relabel_record, relabel_bytes, sort_code, bodies, sections_of, first_body}
use Rattle.policy.specs.Deciding.{refused}
use Rattle.policy.specs.Questions.{Records, records_of, records, record_from, entry_of, entry_on}
use Rattle.policy.proofs.Lists.{each-length}
use Rattle.policy.proofs.Counts.{few-of}
use Rattle.table_laws.specs.SoundTable.{Sound}
use Rattle.table_laws.proofs.Pieces.{wide-length}
use Rattle.table_laws.proofs.Records.{constraint-wide, relabel-wide}
use Rattle.table_laws.proofs.ImageReadBack.{every-wide, transitions-wide}
use Rattle.table_laws.proofs.Lengths.{constraint-records-length}
use Rattle.table_laws.proofs.Editions.{edition-known, without-fits}
use Rattle.table_laws.proofs.WellFormed.{formed}
use Rattle.table_laws.proofs.WellFormedLaid.{widths, well-formed-laid}
use Rattle.table_reader.specs.Records.{start_in, length_in, body_place}
use Rattle.table_reader.proofs.SoundPlaces.{start_of, length-of, known-section}
use Rattle.table_names.specs.TableNames.{count_in, counts_in}
use Rattle.soundness.proofs.SoundTable.{things-of}
use Rattle.table_parts.specs.RecordWidths.{width_of}
use Rattle.table_parts.proofs.AskedTable.{asked-sound}
use Rattle.table_parts.proofs.RecordLaws.{no_run, empty-run}

-- body 8, "Sets of userattributes, roleattributes, typeattributes: 16, 16, 64 each": as many as the counts say, and at most as many as may be declared
abbrev pub set_runs : NameCounts → List Records
set_runs n =
    records_of (min n.user_attributes 64) 16 ∷ records_of (min n.role_attributes 64) 16 ∷ records_of (min n.type_attributes 64) 64 ∷ []

-- WIDTHS

-- a section that is none of those with records of one width has no such records
pub no-width : (b : ℕ) → (b ≡ 1 → ⊥) → (b ≡ 2 → ⊥) → (b ≡ 3 → ⊥) → (b ≡ 4 → ⊥) → (b ≡ 5 → ⊥) → (b ≡ 6 → ⊥) → (b ≡ 8 → ⊥) → (b ≡ 9 → ⊥) → 0 ≡ width_of b
no-width zero n1 n2 n3 n4 n5 n6 n8 n9 = refl
no-width (suc zero) n1 n2 n3 n4 n5 n6 n8 n9 = absurd (n1 refl)
no-width (suc (suc zero)) n1 n2 n3 n4 n5 n6 n8 n9 = absurd (n2 refl)
no-width (suc (suc (suc zero))) n1 n2 n3 n4 n5 n6 n8 n9 = absurd (n3 refl)
no-width (suc (suc (suc (suc zero)))) n1 n2 n3 n4 n5 n6 n8 n9 = absurd (n4 refl)
no-width (suc (suc (suc (suc (suc zero))))) n1 n2 n3 n4 n5 n6 n8 n9 = absurd (n5 refl)
no-width (suc (suc (suc (suc (suc (suc zero)))))) n1 n2 n3 n4 n5 n6 n8 n9 = absurd (n6 refl)
no-width (suc (suc (suc (suc (suc (suc (suc zero))))))) n1 n2 n3 n4 n5 n6 n8 n9 = refl
no-width (suc (suc (suc (suc (suc (suc (suc (suc zero)))))))) n1 n2 n3 n4 n5 n6 n8 n9 = absurd (n8 refl)
no-width (suc (suc (suc (suc (suc (suc (suc (suc (suc zero))))))))) n1 n2 n3 n4 n5 n6 n8 n9 = absurd (n9 refl)
no-width (suc (suc (suc (suc (suc (suc (suc (suc (suc (suc b)))))))))) n1 n2 n3 n4 n5 n6 n8 n9 = refl

-- a section that is neither the names nor the sets of attributes has records of one width
pub one_width : (b : ℕ) → 0 < b → b < 10 → (b ≡ 7 → ⊥) → (0 < width_of b) × (width_of b < 256)
one_width zero low high other = absurd (omega arith)
one_width (suc zero) low high other = (omega arith, omega arith)
one_width (suc (suc zero)) low high other = (omega arith, omega arith)
one_width (suc (suc (suc zero))) low high other = (omega arith, omega arith)
one_width (suc (suc (suc (suc zero)))) low high other = (omega arith, omega arith)
one_width (suc (suc (suc (suc (suc zero))))) low high other = (omega arith, omega arith)
one_width (suc (suc (suc (suc (suc (suc zero)))))) low high other = (omega arith, omega arith)
one_width (suc (suc (suc (suc (suc (suc (suc zero))))))) low high other = absurd (other refl)
one_width (suc (suc (suc (suc (suc (suc (suc (suc zero)))))))) low high other = (omega arith, omega arith)
one_width (suc (suc (suc (suc (suc (suc (suc (suc (suc zero))))))))) low high other = (omega arith, omega arith)
one_width (suc (suc (suc (suc (suc (suc (suc (suc (suc (suc b)))))))))) low high other = absurd (omega arith)

module _ {t : List ℕ} (h : Sound t) where
  abbrev i : Image
  i = h.image

  abbrev sections : ℕ
  sections = sections_of h.edition

  -- what the image says is the answer on the table
  on-image : (b k : ℕ) → entry_of h.edition i b k ≡ entry_on t b k
  unfolding entry_on
  on-image b k = asked-sound t h (λ e i. entry_of e i b k)

  -- body b + 1 of the definition is body b of the header
  entry_runs : (b k : ℕ) → b < sections → (rs : List Records) → get_or (records i) (suc b) [] ≡ rs → record_from k (start_in t b) rs ≡ entry_on t (suc b) k
  unfolding entry_of body_place
  entry_runs b k l rs e =
      let before : b ≡ suc b - 1 = omega arith in
      ap (λ (o : ℕ). record_from k o rs) (start_of t h b l)
      ∙ ap₂ (λ (o : ℕ) (r : List Records). record_from k o r) (ap (λ (m : ℕ). first_body h.edition + length (joined (take m (bodies i)))) before) (sym e)
      ∙ on-image (suc b) k

  -- a body that is records of one width has as many of them as fit into its length
  one-run : (b k n w : ℕ) → b < sections → get_or (records i) (suc b) [] ≡ records_of n w ∷ [] → n ≡ length_in t b / w
      → record_from k (start_in t b) (records_of (length_in t b / w) w ∷ []) ≡ entry_on t (suc b) k
  one-run b k n w l e m = entry_runs b k l (records_of (length_in t b / w) w ∷ []) (e ∙ ap (λ (n : ℕ). records_of n w ∷ []) m)

  -- so the rows of the constraints, and those of the validatetrans statements
  rows_run : (b k : ℕ) → b < sections → get_or (records i) (suc b) [] ≡ records_of (length (get_or (bodies i) b []) / 6) 6 ∷ []
      → record_from k (start_in t b) (records_of (length_in t b / 6) 6 ∷ []) ≡ entry_on t (suc b) k
  rows_run b k l e = one-run b k (length (get_or (bodies i) b []) / 6) 6 l e (ap (λ (n : ℕ). n / 6) (sym (length-of t h b l)))

  -- EVERY BODY WHOSE RECORDS HAVE ONE WIDTH, where the edition has it

  pub entry-run : (b k : ℕ) → b < sections → 0 < width_of b
      → record_from k (start_in t b) (records_of (length_in t b / width_of b) (width_of b) ∷ []) ≡ entry_on t (suc b) k
  unfolding bodies
  entry-run zero k l w = absurd (omega arith)
  entry-run (suc zero) k l w = one-run 1 k (length i.user_roles) 16 l refl
      (omega (arith, length-of t h 1 l, wide-length 16 i.user_roles (widths i h.formed).user_roles))
  entry-run (suc (suc zero)) k l w = one-run 2 k (length i.role_types) 64 l refl
      (omega (arith, length-of t h 2 l, wide-length 64 i.role_types (widths i h.formed).role_types))
  entry-run (suc (suc (suc zero))) k l w = one-run 3 k (length i.role_roles) 16 l refl
      (omega (arith, length-of t h 3 l, wide-length 16 i.role_roles (widths i h.formed).role_roles))
  entry-run (suc (suc (suc (suc zero)))) k l w = one-run 4 k (length i.transitions) 82 l refl
      (omega (
        arith,
        length-of t h 4 l,
        wide-length 82 (each transition_bytes i.transitions) (transitions-wide i.transitions (widths i h.formed).transitions),
        each-length transition_bytes i.transitions,
      ))
  entry-run (suc (suc (suc (suc (suc zero))))) k l w = one-run 5 k (length i.constraints) 10 l refl
      (omega (
        arith,
        length-of t h 5 l,
        wide-length 10 (each constraint_bytes (constraint_records 0 i.constraints)) (every-wide 10 constraint_bytes constraint-wide (constraint_records 0 i.constraints)),
        each-length constraint_bytes (constraint_records 0 i.constraints),
        constraint-records-length 0 i.constraints,
      ))
  entry-run (suc (suc (suc (suc (suc (suc zero)))))) k l w = rows_run 6 k l refl
  entry-run (suc (suc (suc (suc (suc (suc (suc zero))))))) k l w = absurd (omega arith)
  entry-run (suc (suc (suc (suc (suc (suc (suc (suc zero)))))))) k l w = one-run 8 k (length i.relabels) 4 l refl
      (omega (
        arith,
        length-of t h 8 l,
        wide-length 4 (each relabel_bytes (each relabel_record i.relabels)) (every-wide 4 relabel_bytes relabel-wide (each relabel_record i.relabels)),
        each-length relabel_bytes (each relabel_record i.relabels),
        each-length relabel_record i.relabels,
      ))
  entry-run (suc (suc (suc (suc (suc (suc (suc (suc (suc zero))))))))) k l w = rows_run 9 k l refl
  entry-run (suc (suc (suc (suc (suc (suc (suc (suc (suc (suc b)))))))))) k l w = absurd (omega arith)

  -- so body b of the definition, which asks as many bytes of a record as its section has
  pub entry-body : (b k w : ℕ) → 1 < b → b ≤ sections → (b - 1 ≡ 7 → ⊥) → w ≡ width_of (b - 1)
      → record_from k (start_in t (b - 1)) (records_of (length_in t (b - 1) / w) w ∷ []) ≡ entry_on t b k
  entry-body b k w low l other wide =
      let whole : suc (b - 1) ≡ b = omega (arith, low) in
      ap (λ (w : ℕ). record_from k (start_in t (b - 1)) (records_of (length_in t (b - 1) / w) w ∷ [])) wide
      ∙ entry-run (b - 1) k (omega (arith, low, l))
      (one_width (b - 1) (omega (arith, low)) (omega (arith, low, l, (edition-known h.edition h.known).most)) other).0
      ∙ ap (λ (b : ℕ). entry_on t b k) whole

  -- BODY 8

  -- a sound table has no more attributes of a family than may be declared
  attributes : (f : Family) → count (attribute_of f) i.names ≡ min (count_in t (sort_code (attribute_of f))) 64
  attributes f = omega (arith, things-of t h (attribute_of f), few-of (attribute_of f) i.names (formed i h.formed).names)

  pub entry-8 : (k : ℕ) → record_from k (start_in t 7) (set_runs (counts_in t)) ≡ entry_on t 8 k
  entry-8 k =
      let laid = well-formed-laid i h.formed in
      let us = laid.user_sets.many ∙ attributes users in
      let rs = laid.role_sets.many ∙ attributes roles in
      let ts = laid.type_sets.many ∙ attributes types in
      entry_runs 7 k (known-section t h 7 (omega arith)) (set_runs (counts_in t)) (λ j. records_of (us j) 16 ∷ records_of (rs j) 16 ∷ records_of (ts j) 64 ∷ [])

  -- NO OTHER BODIES

  -- a body that the edition does not have: the image has no records for it
  none-past : (b k o : ℕ) → sections < b → record_from k o (get_or (records i) b []) ≡ refused 12 0
  none-past b k o l =
      let past : b ≡ 9 + (b - 9) = omega (arith, l, (edition-known h.edition h.known).least) in
      ap (λ (n : ℕ). record_from k o (get_or (records i) n [])) past
      ∙ ap (record_from k o) (sym (get_or-drop 9 (records i) (b - 9) [])) ∙ by (b - 9) (omega (arith, l, past))
    where
      by : (j : ℕ) → sections < 9 + j → record_from k o (get_or (drop 9 (records i)) j []) ≡ refused 12 0
      by zero l =
          ap (λ (vs : List RelabelEntry). record_from k o (records_of (length vs) 4 ∷ [])) (without-fits h.edition i (omega (arith, l)) h.fits)
          ∙ empty-run k o 4
      by (suc zero) l = ap (λ (rows : List ℕ). record_from k o (records_of (length rows / 6) 6 ∷ [])) (h.fits 9 (omega (arith, l))) ∙ empty-run k o 6
      by (suc (suc j)) l = no_run k o

  -- there is no body 0, the names of body 1 have no entries, and after the last section of the edition there is nothing
  pub entry_first : (b k : ℕ) → b ≤ 1 → refused 12 0 ≡ entry_on t b k
  unfolding entry_of record_from
  entry_first zero k l = on-image 0 k
  entry_first (suc zero) k l = on-image 1 k
  entry_first (suc (suc b)) k l = absurd (omega arith)

  pub entry_past : (b k : ℕ) → sections < b → refused 12 0 ≡ entry_on t b k
  unfolding entry_of
  entry_past b k l = sym (none-past b k (first_body h.edition + length (joined (take (b - 1) (bodies i)))) l) ∙ on-image b k
