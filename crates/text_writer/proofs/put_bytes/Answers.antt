-- `text_writer::put_bytes` meets its contract: the bytes take the place of as many. Assumes nothing.
use mathlib.Core.Path.{refl}
use Rattle.byte_slices.proofs.PartLaws.{put_over}
use Rattle.text_writer.proofs.put_bytes.Goals as goal

pub returns : goal.returns
returns c = record {
  written = put_over _ _ _ c.copy_from_slice.ensures.after refl;
  ends = refl;
}
