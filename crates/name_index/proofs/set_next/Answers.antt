-- `name_index::set_next` meets its contract (ChainLaws). Assumes nothing.
use Prim.Native.Nat.{◌+◌}
use mathlib.Core.Path.{ap, ◌∙◌}
use Rattle.name_index.specs.Index.{put_word}
use Rattle.name_index.proofs.ChainLaws.{next-put}
use Rattle.name_index.proofs.set_next.Goals as goal

pub link_word-linked-requires : goal.link_word-linked-requires
link_word-linked-requires c =
    let fits = c.link_at-link.ensures.1 in
    record { next = c.requires.1; sort = fits.sort; number = fits.number; place = fits.place }

pub returns : goal.returns
returns c =
    let a = c.args in
    c.set_word.ensures ∙ ap (put_word a.symbols.now (a.at + 1)) c.link_word-linked.ensures
    ∙ next-put a.symbols.now a.at a.next c.link_at-link.result c.link_at-link.ensures.0
