-- `table_summary::special_numbers` meets its contract: on a sound table what is found is the place of the name. Assumes nothing.
use Prim.Native.Nat.{ℕ}
use mathlib.Core.Path.{ap, ◌∙◌}
use Rattle.lexer.specs.Spell.{bytes}
use Rattle.policy.specs.Statements.{permissions}
use Rattle.policy.specs.Words.{object_r, process_word}
use Rattle.table_summary.specs.Summary.{place_or}
use Rattle.table_summary.proofs.FoundNumbers.{role-in, class-in}
use Rattle.table_summary.proofs.special_numbers.Goals as goal

pub returns : goal.returns
returns c = λ s.
    let t = c.args.table.now in
    let ds = s.image.names in
    let process = c.number_of-class.ensures ∙ class-in t s 32 process_word in
    λ i. record {
      object = (c.number_of.ensures ∙ role-in t s 128 object_r) i;
      process = process i;
      transition = (c.permission_place.ensures s ∙ ap (λ (k : ℕ). place_or 32 (bytes "transition") (permissions ds k)) process) i;
      dyntransition = (c.permission_place-2.ensures s ∙ ap (λ (k : ℕ). place_or 32 (bytes "dyntransition") (permissions ds k)) process) i;
    }
