-- `blocks::is_opened` meets its contract: whether one of the first keys is that of the block. Assumes nothing.
use Rattle.std.proofs.Common.{rules, tests, ℕ, take}
use mathlib.Core.Path.{◌∙◌}
use Rattle.std.proofs.lemmas.Iterator.{YieldsList-from_slice}
use Rattle.std.proofs.lemmas.Iterator.Search.{any_from_yields_List}
use Rattle.blocks.specs.Opened.{block_in, is_block}
use Rattle.blocks.proofs.BlockLists.{any-opened}
use Rattle.blocks.proofs.is_opened.Goals as goal

pub returns : goal.returns
returns c =
    let a = c.args in
    any_from_yields_List (λ (k : ℕ). is_block a.parent a.name.now (block_in a.text.now k)) _ _ c.any.result c.any.ensures.ran
    (YieldsList-from_slice (take a.count a.keys.now) cc) (λ x b q k. search (rules, tests))
    ∙ any-opened a.text.now a.keys.now a.parent a.name.now a.count c.requires
