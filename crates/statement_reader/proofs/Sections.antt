-- One statement more is its bytes at the end of each section, or nothing. Assumes nothing.
use Prim.Native.Nat.{ℕ, ◌+◌}
use native.Mathlib.Nat.{add-zero, zero-add}
use native.Mathlib.Omega.{arith}
use mathlib.Core.Path.{◌≡◌, sym, ap, ap₂, ◌∙◌}
use mathlib.Core.List.{List, [], ◌∷◌, ◌++◌, append-nil}
use mathlib.Core.Option.{none, some}
use lib.ListN.{length, length-append}
use Rattle.bitset.specs.Relations.{joined}
use Rattle.policy.specs.Basics.{each, gather}
use Rattle.policy.specs.Statements.{Declaration, Line, Policy, declared, declarations, transition, Transition, transitions, Constrain, constrained, constrains, constrain_body}
use Rattle.policy.specs.Statements.{Relabel, relabelled, relabels, size}
use Rattle.policy.specs.Reading.{row_count}
use Rattle.policy.specs.Rows as rows
use Rattle.policy.specs.Rows.{Row}
use Rattle.policy.specs.Image.{mask_of, ConstraintEntry, constraint_entry, RelabelEntry, relabel_entry}
use Rattle.policy.specs.Encode.{NameEntry, entries_of, entries, entry_bytes, ConstraintRecord, constraint_bytes, constraint_records, row_bytes}
use Rattle.policy.specs.Encode.{RelabelRecord, relabel_record, relabel_bytes}
use Rattle.policy.proofs.Lists.{each_append, joined-append, gather-over, gather-last}
use Rattle.policy.proofs.RowCounts.{rows-count}
use Rattle.symbols.proofs.DeclaredEntries.{entries-more}
use Rattle.image_laws.proofs.RowCounts.{rows-in-all}
use Rattle.declarations.specs.Declares.{section_of}
use Rattle.constrain_statement.specs.ConstrainWrites.{record_with, record_of}
use Rattle.relabel_statement.specs.RelabelWrites as relabelling
use Rattle.table_laws.proofs.Constraints.{rows_in}
use Rattle.statement_reader.specs.Memory.{symbols_of, constraints_of, rows_of, relabels_of, relabel_rows_of}

-- the records of bodies 6 and 7 that one more constraint adds
constraint-records-more : (r : ℕ) (cs : List ConstraintEntry) (c : ConstraintEntry)
    → constraint_records r (cs ++ (c ∷ [])) ≡ constraint_records r cs ++ (record_with c.class c.mask (r + length (rows_in cs)) (length c.rows) ∷ [])
unfolding constraint_records joined each
constraint-records-more r [] c = ap (λ (n : ℕ). record_with c.class c.mask n (length c.rows) ∷ []) (sym (add-zero r))
constraint-records-more r (x ∷ cs) c =
    let long : r + length x.rows + length (rows_in cs) ≡ r + length (x.rows ++ rows_in cs) = omega (arith, length-append x.rows (rows_in cs)) in
    ap (λ (hs : List ConstraintRecord). record_with x.class x.mask r (length x.rows) ∷ hs)
    (constraint-records-more (r + length x.rows) cs c
    ∙ ap (λ (n : ℕ). constraint_records (r + length x.rows) cs ++ (record_with c.class c.mask n (length c.rows) ∷ [])) long)

-- the bytes of the records of one more
bytes-more : {A : Type 0} (f : A → List ℕ) (xs : List A) (x : A) → joined (each f (xs ++ (x ∷ []))) ≡ joined (each f xs) ++ f x
unfolding joined each
bytes-more f xs x =
    ap (λ (l : List (List ℕ)). joined l) (each_append f xs (x ∷ [])) ∙ joined-append (each f xs) (f x ∷ []) ∙ ap (λ (l : List ℕ). joined (each f xs) ++ l) (append-nil (f x))

module _ (cs : List Constrain) (c : Constrain) where
  entries-last : each constraint_entry (cs ++ (c ∷ [])) ≡ each constraint_entry cs ++ (constraint_entry c ∷ [])
  unfolding each
  entries-last = each_append constraint_entry cs (c ∷ [])

  constraint-last : joined (each constraint_bytes (constraint_records 0 (each constraint_entry (cs ++ (c ∷ [])))))
      ≡ joined (each constraint_bytes (constraint_records 0 (each constraint_entry cs)))
      ++ constraint_bytes (record_of c.class c.perms c.body (row_count constrain_body cs))
  constraint-last =
      ap (λ (es : List ConstraintEntry). joined (each constraint_bytes (constraint_records 0 es))) entries-last
      ∙ ap (λ (hs : List ConstraintRecord). joined (each constraint_bytes hs)) (constraint-records-more 0 (each constraint_entry cs) (constraint_entry c))
      ∙ bytes-more constraint_bytes (constraint_records 0 (each constraint_entry cs)) _
      ∙ ap₂ (λ (first n : ℕ). joined (each constraint_bytes (constraint_records 0 (each constraint_entry cs)))
      ++ constraint_bytes (record_with c.class (mask_of c.perms) first n)) (zero-add _ ∙ rows-in-all cs) (rows-count c.body)

-- the rows of statements whose entries have them
module _ {A E : Type 0} (entry : A → E) (rowsFor : E → List Row) where
  abbrev bytes_of : List A → List ℕ
  bytes_of cs = joined (each row_bytes (joined (each rowsFor (each entry cs))))

  rows_last : (cs : List A) (c : A) → bytes_of (cs ++ (c ∷ [])) ≡ bytes_of cs ++ joined (each row_bytes (rowsFor (entry c)))
  unfolding joined each
  rows_last cs c =
      let before = each rowsFor (each entry cs) in
      ap (λ (es : List E). joined (each row_bytes (joined (each rowsFor es)))) (each_append entry cs (c ∷ []))
      ∙ ap (λ (rs : List (List Row)). joined (each row_bytes (joined rs))) (each_append rowsFor (each entry cs) (entry c ∷ []))
      ∙ ap (λ (rs : List Row). joined (each row_bytes rs)) (joined-append before (rowsFor (entry c) ∷ []))
      ∙ ap (λ (rs : List Row). joined (each row_bytes (joined before ++ rs))) (append-nil (rowsFor (entry c)))
      ∙ ap (λ (l : List (List ℕ)). joined l) (each_append row_bytes (joined before) (rowsFor (entry c)))
      ∙ joined-append (each row_bytes (joined before)) (each row_bytes (rowsFor (entry c)))

-- the record of body 9 that one more validatetrans statement adds
abbrev relabel_records : List Relabel → List ℕ
relabel_records cs = joined (each relabel_bytes (each relabel_record (each relabel_entry cs)))

relabel-last : (cs : List Relabel) (c : Relabel) → relabel_records (cs ++ (c ∷ [])) ≡ relabel_records cs ++ relabel_bytes (relabelling.record_with c.class (size c.body))
unfolding each
relabel-last cs c =
    ap (λ (es : List RelabelEntry). joined (each relabel_bytes (each relabel_record es))) (each_append relabel_entry cs (c ∷ []))
    ∙ ap (λ (hs : List RelabelRecord). joined (each relabel_bytes hs)) (each_append relabel_record (each relabel_entry cs) (relabel_entry c ∷ []))
    ∙ bytes-more relabel_bytes (each relabel_record (each relabel_entry cs)) (relabel_record (relabel_entry c))
    ∙ ap (λ (n : ℕ). relabel_records cs ++ relabel_bytes (relabelling.record_with c.class n)) (rows-count c.body)

module _ (p : Policy) (l : Line) where
  -- a declaration
  pub declared-more : (d : Declaration) → declared l ≡ some d → declarations (p ++ (l ∷ [])) ≡ declarations p ++ (d ∷ [])
  unfolding declarations
  declared-more d h = gather-last declared p l d h

  pub declared_same : declared l ≡ none → declarations (p ++ (l ∷ [])) ≡ declarations p
  unfolding declarations
  declared_same h = gather-over declared p l h

  pub symbols-more : (d : Declaration) → declared l ≡ some d → symbols_of (p ++ (l ∷ [])) ≡ symbols_of p ++ joined (each entry_bytes (entries_of (declarations p) d))
  unfolding symbols_of section_of declarations
  symbols-more d h =
      ap (λ (ds : List Declaration). joined (each entry_bytes (entries ds))) (gather-last declared p l d h)
      ∙ ap (λ (es : List NameEntry). joined (each entry_bytes es)) (entries-more (gather declared p) d)
      ∙ ap (λ (xs : List (List ℕ)). joined xs) (each_append entry_bytes (entries (gather declared p)) (entries_of (gather declared p) d))
      ∙ joined-append (each entry_bytes (entries (gather declared p))) (each entry_bytes (entries_of (gather declared p) d))

  pub symbols-same : declared l ≡ none → symbols_of (p ++ (l ∷ [])) ≡ symbols_of p
  unfolding symbols_of declarations
  symbols-same h = ap section_of (gather-over declared p l h)

  -- a transition
  pub transitions-more : (m : Transition) → transition l ≡ some m → length (transitions (p ++ (l ∷ []))) ≡ length (transitions p) + 1
  unfolding transitions
  transitions-more m h = ap length (gather-last transition p l m h) ∙ length-append (gather transition p) (m ∷ [])

  pub transitions-same : transition l ≡ none → transitions (p ++ (l ∷ [])) ≡ transitions p
  unfolding transitions
  transitions-same h = gather-over transition p l h

  -- a constraint
  pub constrains-more : (c : Constrain) → constrained l ≡ some c → constrains (p ++ (l ∷ [])) ≡ constrains p ++ (c ∷ [])
  unfolding constrains
  constrains-more c h = gather-last constrained p l c h

  pub constrains-same : constrained l ≡ none → constrains (p ++ (l ∷ [])) ≡ constrains p
  unfolding constrains
  constrains-same h = gather-over constrained p l h

  pub constraints-more : (c : Constrain) → constrained l ≡ some c
      → constraints_of (p ++ (l ∷ [])) ≡ constraints_of p ++ constraint_bytes (record_of c.class c.perms c.body (row_count constrain_body (constrains p)))
  unfolding constraints_of
  constraints-more c h =
      ap (λ (cs : List Constrain). joined (each constraint_bytes (constraint_records 0 (each constraint_entry cs)))) (constrains-more c h)
      ∙ constraint-last (constrains p) c

  pub constraints-same : constrained l ≡ none → constraints_of (p ++ (l ∷ [])) ≡ constraints_of p
  unfolding constraints_of
  constraints-same h = ap (λ (cs : List Constrain). joined (each constraint_bytes (constraint_records 0 (each constraint_entry cs)))) (constrains-same h)

  pub rows_more : (c : Constrain) → constrained l ≡ some c → rows_of (p ++ (l ∷ [])) ≡ rows_of p ++ joined (each row_bytes (rows.rows_of c.body))
  unfolding rows_of
  rows_more c h =
      ap (bytes_of constraint_entry (λ (e : ConstraintEntry). e.rows)) (constrains-more c h) ∙ rows_last constraint_entry (λ (e : ConstraintEntry). e.rows) (constrains p) c

  pub rows_same : constrained l ≡ none → rows_of (p ++ (l ∷ [])) ≡ rows_of p
  unfolding rows_of
  rows_same h = ap (bytes_of constraint_entry (λ (e : ConstraintEntry). e.rows)) (constrains-same h)

  -- a validatetrans statement
  pub relabels-more : (c : Relabel) → relabelled l ≡ some c → relabels (p ++ (l ∷ [])) ≡ relabels p ++ (c ∷ [])
  unfolding relabels
  relabels-more c h = gather-last relabelled p l c h

  pub relabels-same : relabelled l ≡ none → relabels (p ++ (l ∷ [])) ≡ relabels p
  unfolding relabels
  relabels-same h = gather-over relabelled p l h

  pub relabel-records-more : (c : Relabel) → relabelled l ≡ some c
      → relabels_of (p ++ (l ∷ [])) ≡ relabels_of p ++ relabel_bytes (relabelling.record_with c.class (size c.body))
  unfolding relabels_of
  relabel-records-more c h = ap relabel_records (relabels-more c h) ∙ relabel-last (relabels p) c

  pub relabel-records-same : relabelled l ≡ none → relabels_of (p ++ (l ∷ [])) ≡ relabels_of p
  unfolding relabels_of
  relabel-records-same h = ap relabel_records (relabels-same h)

  pub relabel-rows-more : (c : Relabel) → relabelled l ≡ some c → relabel_rows_of (p ++ (l ∷ [])) ≡ relabel_rows_of p ++ joined (each row_bytes (rows.rows_of c.body))
  unfolding relabel_rows_of
  relabel-rows-more c h =
      ap (bytes_of relabel_entry (λ (e : RelabelEntry). e.rows)) (relabels-more c h) ∙ rows_last relabel_entry (λ (e : RelabelEntry). e.rows) (relabels p) c

  pub relabel-rows-same : relabelled l ≡ none → relabel_rows_of (p ++ (l ∷ [])) ≡ relabel_rows_of p
  unfolding relabel_rows_of
  relabel-rows-same h = ap (bytes_of relabel_entry (λ (e : RelabelEntry). e.rows)) (relabels-same h)
