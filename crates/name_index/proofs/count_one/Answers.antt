-- `name_index::count_one` meets its contract. Assumes nothing.
use Prim.Native.Nat.{ℕ, ◌+◌, ◌%◌}
use mathlib.Core.Path.{ap, ◌∙◌}
use Rattle.name_index.specs.Index.{put_word, put_more}
use Rattle.name_index.proofs.count_one.Goals as goal

pub returns : goal.returns
unfolding put_more
returns c =
    let a = c.args in
    c.set_word.ensures ∙ ap (λ (n : ℕ). put_word a.symbols.now a.k (n % 65536 + 1)) c.word-count.ensures
