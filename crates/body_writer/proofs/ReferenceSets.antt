-- A reference of the code stands, by the final sets of its family, for what it stands for in the policy. Assumes nothing.
use mathlib.Core.Path.{◌≡◌, sym, ap, ◌∙◌}
use mathlib.Core.List.{List}
use Prim.Native.Nat.{ℕ, ◌+◌, ◌≤◌}
use native.Mathlib.Omega.{arith}
use lib.ListN.{get_or, drop}
use lib.Seq.{get_or-drop}
use Rattle.bitset.specs.Sets.{set_of}
use Rattle.bitset.proofs.SetLaws.{set_of-ext}
use Rattle.policy.specs.Statements.{Family, Reference, Policy, declarations}
use Rattle.policy.specs.Meaning.{stands}
use Rattle.policy.specs.Accepted.{ReferenceIn, Accepted}
use Rattle.statement_code.specs.Code.{reference_unit}
use Rattle.set_code.specs.Evaluation.{value_of}
use Rattle.code_reader.specs.AttributeSets.{final_sets}
use Rattle.code_reader.proofs.RowLaws.{value-stands}

module _ (p : Policy) (ok : Accepted p) (f : Family) (rows : List ℕ) (h : rows ≡ final_sets p f) where
  -- as a set
  pub set-stands : (r : Reference) → ReferenceIn (declarations p) f r → (w : ℕ) → w ≤ 64 → set_of w (value_of rows (reference_unit r)) ≡ set_of w (stands p f r)
  set-stands r d w l = set_of-ext w (value_of rows (reference_unit r)) (stands p f r) (λ n k. value-stands p ok f rows h r d n (omega arith))

-- operand k of the statement that is at a place
pub operand_at : (code : List ℕ) (at : ℕ) (us : List ℕ) (k n : ℕ) → drop (at + 2) code ≡ us → n ≡ at + 2 + k → get_or code n 0 ≡ get_or us k 0
operand_at code at us k n q e = ap (λ (i : ℕ). get_or code i 0) e ∙ sym (get_or-drop (at + 2) code k 0) ∙ ap (λ (l : List ℕ). get_or l k 0) q
