-- `name_chains::enter` meets its contract: the entry is appended, put at the end of its chain and counted (NewEntry). Assumes nothing.
use Prim.Native.Nat.{ℕ}
use mathlib.Core.Path.{ap, ◌∙◌}
use mathlib.Core.List.{List}
use lib.ListN.{take}
use native.Mathlib.Omega.{arith}
use Rattle.byte_slices.specs.Parts.{part}
use Rattle.byte_slices.proofs.PartLaws.{length-part-le}
use Rattle.policy.specs.Basics.{unle}
use Rattle.policy.specs.Encode.{name_entry}
use Rattle.symbols.proofs.AppendLaws.{entry_length}
use Rattle.name_chains.proofs.NewEntry.{entered_from}
use Rattle.name_chains.proofs.enter.Goals as goal

pub overflow_sub-long-2 : goal.overflow_sub-long-2
overflow_sub-long-2 c =
    let a = c.args in
    omega (arith, c.append-past.ensures.past, entry_length (name_entry a.sort a.number (part a.text.now a.from a.len)))

pub link_word-link-requires : goal.link_word-link-requires
link_word-link-requires c =
    record { next = omega arith; sort = c.requires.sort-known; number = omega arith; place = omega (arith, c.requires.room) }

pub set_last-requires : goal.set_last-requires
set_last-requires c =
    let a = c.args in
    let name-long = entry_length (name_entry a.sort a.number (part a.text.now a.from a.len)) in
    (omega (arith, c.append-past.ensures.past, name-long, length-part-le a.text.now a.from a.len, c.requires), omega arith, omega (arith, c.requires))

pub returns : goal.returns
returns c =
    let a = c.args in
    entered_from c.requires (length-part-le a.text.now a.from a.len) c.append-past.ensures c.word.ensures
    c.family_of-family.ensures (c.front_of-front.ensures ∙ ap (λ (l : List ℕ). unle (take 8 l)) c.part.ensures)
    (omega (arith, c.front_of-front.type_inv)) c.link_word-link.ensures c.set_node.ensures
    c.set_last.ensures
    c.count_one.ensures c.count_one-2.ensures
