-- How long a table is: its header, and each body by the width of its entries. Assumes nothing.
use Prim.Native.Nat.{ℕ, suc, ◌+◌, ◌*◌, ◌<◌}
use native.Mathlib.Omega.{arith}
use mathlib.Core.Path.{◌≡◌, refl, ap, ap₂, ◌∙◌}
use mathlib.Core.List.{List, [], ◌∷◌, ◌++◌}
use lib.ListN.{length, take, length-append}
use Rattle.bitset.specs.Relations.{joined}
use Rattle.policy.specs.Basics.{each, le, All}
use Rattle.policy.specs.Image.{Image, ConstraintEntry}
use Rattle.policy.specs.Encode.{entries, entry_bytes, transition_bytes, constraint_bytes, constraint_records, row_bytes, relabel_record, relabel_bytes, bodies, pairs}
use Rattle.policy.specs.Encode.{sections_of, first_body, encode}
use Rattle.policy.specs.Rows.{Row}
use Rattle.policy.proofs.Lists.{each-length}
use Rattle.table_laws.specs.SoundTable.{FitsEdition, all_rows, relabel_rows, table_length}
use Rattle.table_laws.proofs.Editions.{sections-many, sections-joined}
use Rattle.table_laws.proofs.LayoutLaws.{pairs-length}
use Rattle.table_laws.proofs.Pieces.{Wide, wide-length}
use Rattle.table_laws.proofs.Records.{WideTransition, constraint-wide, relabel-wide, row-wide}
use Rattle.table_laws.proofs.ImageReadBack.{every-wide, transitions-wide}
use Rattle.table_laws.proofs.NamesRoom.{names-length}

-- the sets of an image have their widths
pub record Widths (i : Image) : Type 0 where
  pub user_roles : Wide 16 i.user_roles
  pub role_types : Wide 64 i.role_types
  pub role_roles : Wide 16 i.role_roles
  pub transitions : All WideTransition i.transitions
  pub user_sets : Wide 16 i.user_sets
  pub role_sets : Wide 16 i.role_sets
  pub type_sets : Wide 64 i.type_sets

pub constraint-records-length : (r : ℕ) (cs : List ConstraintEntry) → length (constraint_records r cs) ≡ length cs
unfolding constraint_records
constraint-records-length r [] = refl
constraint-records-length r (c ∷ cs) = ap suc (constraint-records-length (r + length c.rows) cs)

-- ten lists, one after the other
joined-ten : (a b c d e f g h j k : List ℕ)
    → length (joined (a ∷ b ∷ c ∷ d ∷ e ∷ f ∷ g ∷ h ∷ j ∷ k ∷ []))
    ≡ length a + length b + length c + length d + length e + length f + length g + length h + length j + length k
unfolding joined
joined-ten a b c d e f g h j k = simp length-append (omega arith)

-- rows of 6 bytes
pub rows-length : (rs : List Row) → length (joined (each row_bytes rs)) ≡ length rs * 6
rows-length rs = wide-length 6 (each row_bytes rs) (every-wide 6 row_bytes row-wide rs) ∙ ap (λ (n : ℕ). n * 6) (each-length row_bytes rs)

pub bodies-length : (e : ℕ) (i : Image) → Widths i → first_body e + length (joined (bodies i)) ≡ table_length e i
unfolding bodies table_length
bodies-length e i w =
    ap (λ (n : ℕ). first_body e + n)
    (joined-ten (joined (each entry_bytes (entries i.names))) (joined i.user_roles) (joined i.role_types) (joined i.role_roles)
    (joined (each transition_bytes i.transitions)) (joined (each constraint_bytes (constraint_records 0 i.constraints)))
    (joined (each row_bytes (all_rows i)))
    (joined i.user_sets ++ (joined i.role_sets ++ joined i.type_sets))
    (joined (each relabel_bytes (each relabel_record i.relabels))) (joined (each row_bytes (relabel_rows i))))
    ∙ sum (first_body e) (length i.user_roles) (length i.role_types) (length i.role_roles) (length i.transitions) (length i.constraints) (length (all_rows i))
    (length i.user_sets) (length i.role_sets) (length i.type_sets) (length i.relabels) (length (relabel_rows i))
    (names-length (entries i.names))
    (wide-length 16 i.user_roles w.user_roles)
    (wide-length 64 i.role_types w.role_types)
    (wide-length 16 i.role_roles w.role_roles)
    (wide-length 82 (each transition_bytes i.transitions) (transitions-wide i.transitions w.transitions)
    ∙ ap (λ (n : ℕ). n * 82) (each-length transition_bytes i.transitions))
    (wide-length 10 (each constraint_bytes (constraint_records 0 i.constraints))
    (every-wide 10 constraint_bytes constraint-wide (constraint_records 0 i.constraints))
    ∙ ap (λ (n : ℕ). n * 10) (each-length constraint_bytes (constraint_records 0 i.constraints) ∙ constraint-records-length 0 i.constraints))
    (rows-length (all_rows i))
    (length-append (joined i.user_sets) (joined i.role_sets ++ joined i.type_sets)
    ∙ ap₂ ◌+◌ (wide-length 16 i.user_sets w.user_sets)
    (length-append (joined i.role_sets) (joined i.type_sets)
    ∙ ap₂ ◌+◌ (wide-length 16 i.role_sets w.role_sets) (wide-length 64 i.type_sets w.type_sets)))
    (wide-length 4 (each relabel_bytes (each relabel_record i.relabels)) (every-wide 4 relabel_bytes relabel-wide (each relabel_record i.relabels))
    ∙ ap (λ (n : ℕ). n * 4) (each-length relabel_bytes (each relabel_record i.relabels) ∙ each-length relabel_record i.relabels))
    (rows-length (relabel_rows i))
  where
    sum : (header ur rt rr ms cs rs us ss ts vs ws : ℕ) {a b c d e f g h j k n : ℕ}
        → a ≡ n → b ≡ ur * 16 → c ≡ rt * 64 → d ≡ rr * 16 → e ≡ ms * 82 → f ≡ cs * 10 → g ≡ rs * 6 → h ≡ us * 16 + (ss * 16 + ts * 64) → j ≡ vs * 4 → k ≡ ws * 6
        → header + (a + b + c + d + e + f + g + h + j + k)
        ≡ header + n + 16 * ur + 64 * rt + 16 * rr + 82 * ms + 10 * cs + 6 * rs + 16 * us + 16 * ss + 64 * ts + 4 * vs + 6 * ws
    sum header ur rt rr ms cs rs us ss ts vs ws p₁ p₂ p₃ p₄ p₅ p₆ p₇ p₈ p₉ p₁₀ = omega arith

pub encode-bodies-length : (e : ℕ) (i : Image) → 0 < sections_of e → FitsEdition e i → length (encode e i) ≡ first_body e + length (joined (bodies i))
unfolding encode le
encode-bodies-length e i known fits =
    let bs = take (sections_of e) (bodies i) in
    omega (
      arith,
      length-append (pairs (first_body e) bs) (joined bs),
      pairs-length bs (first_body e),
      sections-many e i known,
      ap length (sections-joined e i fits),
    )
