-- `set_grammar::set_start` meets its contract, by the first item. Assumes nothing.
use mathlib.Core.Path.{◌≡◌, refl}
use mathlib.Core.List.{[], ◌∷◌}
use Rattle.items.specs.declared.Item.{Item}
use Rattle.items.specs.declared.Wanted.{Wanted}
use Rattle.items.proofs.Items.{among, no_word}
use Rattle.set_grammar.specs.Starts.{begun, start_of}
use Rattle.set_grammar.proofs.set_start.Goals as goal

pub returns-in-Exactly : goal.returns-in-Exactly
returns-in-Exactly c =
    rw (← c.next_item.ensures, c.in-Word.is, ← c.operands_of-wanted.ensures, c.in-Exactly.is)

pub returns-in_default : goal.returns-in_default
returns-in_default c =
    let at = c.args.at in
    rw (← c.next_item.ensures)
    (among (1 ∷ 2 ∷ 3 ∷ []) (λ (r : Item). begun Wanted.OneOrMore at ≡ start_of at r) (tt, λ p q. refl, λ q. refl, refl) c.next_item.result (no_word _ c.in_default.not-Word))

pub returns-in_default-wanted : goal.returns-in_default-wanted
returns-in_default-wanted c =
    rw (← c.next_item.ensures, c.in-Word.is, ← c.operands_of-wanted.ensures, c.in_default-wanted.is)
