-- `name_index::set_node` meets its contract. Assumes nothing.
use Prim.Native.Nat.{ℕ, ◌+◌}
use mathlib.Core.Path.{ap, ◌∙◌}
use mathlib.Core.List.{List}
use Rattle.name_index.specs.Index.{put_word, put_node}
use Rattle.name_index.proofs.set_node.Goals as goal

pub returns : goal.returns
unfolding put_node
returns c =
    let a = c.args in
    c.set_word-2.ensures ∙ ap (λ (l : List ℕ). put_word l (a.at + 1) a.link) c.set_word.ensures
