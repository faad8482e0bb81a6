-- The rows of E are as many as E's size, so all rows of an image are as many as the statements count.
-- Assumes nothing.
use Prim.Native.Nat.{◌+◌}
use mathlib.Core.Path.{◌≡◌, refl, ap, ap₂, ◌∙◌}
use mathlib.Core.List.{List, [], ◌∷◌}
use lib.ListN.{length, length-append}
use Rattle.bitset.specs.Relations.{joined}
use Rattle.policy.specs.Basics.{each}
use Rattle.policy.specs.Statements.{Reference, Constraint, Constrain, constrain_body, Relabel, relabel_body}
use Rattle.policy.specs.Reading.{row_count}
use Rattle.policy.specs.Rows.{Row, rows_of}
use Rattle.policy.specs.Image.{ConstraintEntry, constraint_entry, RelabelEntry, relabel_entry}
use Rattle.policy.proofs.RowCounts.{rows-count}

-- of statements whose E is their body, and whose entries hold its rows
entry-rows : {A B : Type 0} (body : A → Constraint Reference) (entry : A → B) (rows : B → List Row) → ((a : A) → rows (entry a) ≡ rows_of (body a))
    → (cs : List A) → length (joined (each rows (each entry cs))) ≡ row_count body cs
unfolding joined each row_count
entry-rows body entry rows h [] = refl
entry-rows body entry rows h (c ∷ cs) =
    length-append (rows (entry c)) (joined (each rows (each entry cs)))
    ∙ ap₂ ◌+◌ (ap length (h c) ∙ rows-count (body c)) (entry-rows body entry rows h cs)

pub rows-in-all : (cs : List Constrain) → length (joined (each (λ (c : ConstraintEntry). c.rows) (each constraint_entry cs))) ≡ row_count constrain_body cs
rows-in-all cs = entry-rows constrain_body constraint_entry (λ (c : ConstraintEntry). c.rows) (λ c. refl) cs

pub relabel-rows-in-all : (cs : List Relabel) → length (joined (each (λ (c : RelabelEntry). c.rows) (each relabel_entry cs))) ≡ row_count relabel_body cs
relabel-rows-in-all cs = entry-rows relabel_body relabel_entry (λ (c : RelabelEntry). c.rows) (λ c. refl) cs
