-- A SUMMARY IS THAT OF THE TABLE'S OWN BYTES: whatever was after the table when it was tested, and whatever is after it later. Assumes nothing.
use Prim.Native.Nat.{ℕ}
use mathlib.Core.Path.{sym, ◌∙◌}
use mathlib.Core.List.{List, ◌++◌}
use Rattle.policy.specs.Encode.{encode}
use Rattle.table_laws.specs.SoundTable.{Sound}
use Rattle.table_laws.proofs.SoundLaws.{sound-read}
use Rattle.table_laws.proofs.WellFormedLaid.{table-back}
use Rattle.table_summary.specs.Summary.{Summarized}

pub summary-of-own-bytes : (t s : List ℕ) (h : Sound t) → Summarized t s → (rest : List ℕ) → Summarized (encode h.edition h.image ++ rest) s
summary-of-own-bytes t s h m rest = record {
  image = m.image;
  read = table-back h.image h.formed h.edition h.known h.fits rest ∙ sym (sound-read t h) ∙ m.read;
  numbers = m.numbers;
}
