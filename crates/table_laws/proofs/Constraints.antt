-- The rows of body 7 are dealt out to the constraints of body 6 as they were taken up, and only so; and those of body 10 to the
-- validatetrans statements of body 9. By induction on the constraints and the statements. Assumes nothing.
use Prim.Native.Nat.{ℕ, ◌+◌}
use mathlib.Core.Path.{◌≡◌, refl, sym, ap, ◌∙◌, subst}
use mathlib.Core.Bool.{◌&&◌}
use mathlib.Core.List.{List, [], ◌∷◌, ◌++◌}
use mathlib.Core.Option.{some, none-ne-some, some-injective}
use lib.Dec.{eqb, leb}
use lib.ListN.{length, take, drop, take-append-drop}
use lib.Seq.{take-append_seam, drop-append_seam, length-take-le}
use borrow.Author.Tests.{eq-eqb, le-leb, eqb-true, leb-true}
use Rattle.bitset.specs.Relations.{joined}
use Rattle.policy.specs.Basics.{more, each}
use Rattle.policy.specs.Rows.{Row}
use Rattle.policy.specs.Image.{ConstraintEntry, RelabelEntry}
use Rattle.policy.specs.Encode.{ConstraintRecord, constraint_records, RelabelRecord, relabel_record}
use Rattle.policy.specs.Sound.{assign_rows, assign_relabels}
use Rattle.policy.proofs.Lists.{both_true}
use Rattle.policy.proofs.Options.{if_some}
use Rattle.table_laws.proofs.ListLaws.{more-after}
use Rattle.table_laws.proofs.LayoutLaws.{fits}

abbrev pub rows_in : List ConstraintEntry → List Row
rows_in cs = joined (each (λ (c : ConstraintEntry). c.rows) cs)

pub assign-back : (r : ℕ) (cs : List ConstraintEntry) → assign_rows r (constraint_records r cs) (rows_in cs) ≡ some cs
unfolding assign_rows constraint_records joined each
assign-back r [] = refl
assign-back r (c ∷ cs) =
    rw (
      eq-eqb r r refl,
      le-leb (length c.rows) (length (c.rows ++ rows_in cs)) (fits c.rows (rows_in cs)),
      take-append_seam c.rows (rows_in cs),
      drop-append_seam c.rows (rows_in cs),
      assign-back (r + length c.rows) cs,
    )

pub assign-only : (r : ℕ) (hs : List ConstraintRecord) (rs : List Row) (cs : List ConstraintEntry) → assign_rows r hs rs ≡ some cs
    → (constraint_records r cs ≡ hs) × (rows_in cs ≡ rs)
unfolding assign_rows constraint_records joined each
assign-only r [] [] cs e = subst (λ (cs : List ConstraintEntry). (constraint_records r cs ≡ []) × (rows_in cs ≡ [])) (some-injective [] cs e) (refl, refl)
assign-only r [] (x ∷ xs) cs e = absurd (none-ne-some cs e)
assign-only r (h ∷ hs) rs cs e =
    let c : ConstraintEntry = record { class = h.class; mask = h.mask; rows = take h.rows rs } in
    let g = if_some (eqb h.first r && leb h.rows (length rs)) (more (some c) (assign_rows (r + h.rows) hs (drop h.rows rs))) cs e in
    let t = both_true (eqb h.first r) (leb h.rows (length rs)) g.0 in
    let m = more-after c (assign_rows (r + h.rows) hs (drop h.rows rs)) cs g.1 in
    let after = assign-only (r + h.rows) hs (drop h.rows rs) m.0 m.1 in
    subst (λ (cs : List ConstraintEntry). (constraint_records r cs ≡ h ∷ hs) × (rows_in cs ≡ rs)) (sym m.2) (
      put m.0 (eqb-true h.first r t.0) (length-take-le h.rows rs (leb-true h.rows (length rs) t.1)) after.0,
      ap (λ (xs : List Row). take h.rows rs ++ xs) after.1 ∙ take-append-drop h.rows rs,
    )
  where
    put : (cs : List ConstraintEntry) → h.first ≡ r → length (take h.rows rs) ≡ h.rows → constraint_records (r + h.rows) cs ≡ hs
        → record { class = h.class; mask = h.mask; first = r; rows = length (take h.rows rs) } ∷ constraint_records (r + length (take h.rows rs)) cs
        ≡ h ∷ hs
    put cs f l e = λ i. record { class = h.class; mask = h.mask; first = sym f i; rows = l i } ∷ (ap (λ (n : ℕ). constraint_records (r + n) cs) l ∙ e) i

abbrev rows_of : List RelabelEntry → List Row
rows_of vs = joined (each (λ (v : RelabelEntry). v.rows) vs)

pub relabels-back : (vs : List RelabelEntry) → assign_relabels (each relabel_record vs) (rows_of vs) ≡ some vs
unfolding assign_relabels joined each
relabels-back [] = refl
relabels-back (v ∷ vs) =
    rw (
      le-leb (length v.rows) (length (v.rows ++ rows_of vs)) (fits v.rows (rows_of vs)),
      take-append_seam v.rows (rows_of vs),
      drop-append_seam v.rows (rows_of vs),
      relabels-back vs,
    )

pub relabels-only : (hs : List RelabelRecord) (rs : List Row) (vs : List RelabelEntry) → assign_relabels hs rs ≡ some vs → (each relabel_record vs ≡ hs) × (rows_of vs ≡ rs)
unfolding assign_relabels joined each
relabels-only [] [] vs e = subst (λ (vs : List RelabelEntry). (each relabel_record vs ≡ []) × (rows_of vs ≡ [])) (some-injective [] vs e) (refl, refl)
relabels-only [] (x ∷ xs) vs e = absurd (none-ne-some vs e)
relabels-only (h ∷ hs) rs vs e =
    let v : RelabelEntry = record { class = h.class; rows = take h.rows rs } in
    let g = if_some (leb h.rows (length rs)) (more (some v) (assign_relabels hs (drop h.rows rs))) vs e in
    let m = more-after v (assign_relabels hs (drop h.rows rs)) vs g.1 in
    let after = relabels-only hs (drop h.rows rs) m.0 m.1 in
    let long = length-take-le h.rows rs (leb-true h.rows (length rs) g.0) in
    subst (λ (vs : List RelabelEntry). (each relabel_record vs ≡ h ∷ hs) × (rows_of vs ≡ rs)) (sym m.2) (
      λ i. record { class = h.class; rows = long i } ∷ after.0 i,
      ap (λ (xs : List Row). take h.rows rs ++ xs) after.1 ∙ take-append-drop h.rows rs,
    )
