-- `name_index::set_last` meets its contract: the entry is the first of its chain, or the last before it gets it as the next (ChainLaws). Assumes nothing.
use Prim.Native.Nat.{ℕ}
use mathlib.Core.Path.{ap, ap₂, ◌∙◌}
use mathlib.Core.List.{List}
use native.Mathlib.Omega.{arith}
use Rattle.name_index.specs.Index.{put_word}
use Rattle.name_index.proofs.ChainLaws.{chain-cut, longer-fits, empty-last, longer-last}
use Rattle.name_index.proofs.set_last.Goals as goal

pub returns-then-chain-eq0 : goal.returns-then-chain-eq0
returns-then-chain-eq0 c =
    let a = c.args in
    c.set_word.ensures ∙ ap (put_word a.symbols.now a.k) c.chain_word-begun.ensures
    ∙ empty-last a.symbols.now a.k a.at _ _ c.word.ensures c.chain_in-chain.ensures c.if-chain-eq0.true

pub set_next-requires : goal.set_next-requires
set_next-requires c =
    let pre = c.requires in
    ((chain-cut _ c.chain_in-chain.ensures).2, pre.1, pre.2)

pub overflow_add-chain : goal.overflow_add-chain
overflow_add-chain c = omega (arith, (chain-cut _ c.chain_in-chain.ensures).0)

pub chain_word-longer-requires : goal.chain_word-longer-requires
chain_word-longer-requires c =
    longer-fits _ c.chain_in-chain.ensures c.requires.1

pub returns : goal.returns
returns c =
    let a = c.args in
    c.set_word-2.ensures
    ∙ ap₂ (λ (l : List ℕ) (h : ℕ). put_word l a.k h) c.set_next.ensures c.chain_word-longer.ensures
    ∙ longer-last a.symbols.now a.k a.at _ _ c.word.ensures c.chain_in-chain.ensures c.if-chain-eq0.false
