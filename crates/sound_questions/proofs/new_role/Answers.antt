-- `sound_questions::new_role` meets its contract: what is known of the names is what the summary says. Assumes nothing.
use Prim.Native.Nat.{◌<◌}
use Rattle.table_laws.proofs.ListLaws.{all-places}
use Rattle.sound_questions.proofs.Known.{knows}
use Rattle.sound_questions.proofs.new_role.Goals as goal

pub returns : goal.returns
returns c = λ summary.
    let t = c.args.table.now in
    let bytes = all-places (λ k. k < 256) t 0 (λ i l. (c.shared_slice_known-1.given i).fits) in
    c.new_role.ensures (rw c.counts_of.ensures (knows t _ bytes summary).counted)
