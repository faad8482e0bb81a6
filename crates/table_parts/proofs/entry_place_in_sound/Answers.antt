-- `table_parts::entry_place_in_sound` meets its contract: a body that the edition has is records of one width or the sets of attributes, and every
-- other one is refused. Assumes nothing.
use Prim.Native.Nat.{ℕ, ◌-◌, ◌<◌}
use native.Mathlib.Omega.{arith}
use mathlib.Core.Path.{ap, ◌∙◌}
use borrow.Author.Tests.{ltb-true, ltb-false}
use Rattle.policy.specs.Encode.{sections_of}
use Rattle.policy.specs.Sound.{edition_in}
use Rattle.policy.specs.Questions.{entry_on}
use Rattle.table_laws.proofs.ListLaws.{all-places}
use Rattle.table_laws.proofs.Editions.{sections-most}
use Rattle.table_laws.proofs.SoundLaws.{sound-edition}
use Rattle.soundness.proofs.SoundTable.{sound-table}
use Rattle.table_parts.proofs.EntriesOn.{one_width, entry-body, entry_first, entry_past}
use Rattle.table_parts.proofs.entry_place_in_sound.Goals as goal
use Rattle.table_parts.proofs.entry_place_in_sound.Goals.{then-body-le-NAMES-via-then-body-le-NAMES, then-body-le-NAMES-via-else-body-le-NAMES+then-sections-body}

pub returns-then-body-le-NAMES : goal.returns-then-body-le-NAMES
returns-then-body-le-NAMES c sound =
    let a = c.args in
    let t = a.table.now in
    let h = sound-table t (all-places (λ k. k < 256) t 0 (λ i l. (c.shared_slice_known-1.given i).fits)) sound in
    let many = c.sections_of-sections.ensures ∙ ap sections_of (c.edition.ensures ∙ sound-edition t h) in
    elim c.then-body-le-NAMES.branch [
      | then-body-le-NAMES-via-then-body-le-NAMES w ↦ entry_first h a.body a.place w.if-body-le-NAMES.true
      | then-body-le-NAMES-via-else-body-le-NAMES+then-sections-body w ↦ entry_past h a.body a.place (omega (arith, many, ltb-true c.sections_of-sections.result a.body w.if-sections-body.true-raw))
    ]

pub overflow_cast-section : goal.overflow_cast-section
overflow_cast-section c =
    let a = c.args in
    let many = c.sections_of-sections.ensures ∙ ap sections_of c.edition.ensures in
    omega (arith, many, ltb-false c.sections_of-sections.result a.body c.if-sections-body.false-raw, sections-most (edition_in a.table.now))

pub returns-then-section-eq-ATTRIBUTE_SETS : goal.returns-then-section-eq-ATTRIBUTE_SETS
returns-then-section-eq-ATTRIBUTE_SETS c sound =
    let a = c.args in
    c.attribute_place.ensures sound ∙ ap (λ (b : ℕ). entry_on a.table.now b a.place) (omega (arith, c.if-body-le-NAMES.false, c.if-section-eq-ATTRIBUTE_SETS.true))

pub run_place-requires : goal.run_place-requires
run_place-requires c =
    let a = c.args in
    let many = c.sections_of-sections.ensures ∙ ap sections_of c.edition.ensures in
    let within = ltb-false c.sections_of-sections.result a.body c.if-sections-body.false-raw in
    let wide = one_width (a.body - 1) (omega (arith, c.if-body-le-NAMES.false))
    (omega (arith, many, c.if-body-le-NAMES.false, within, sections-most (edition_in a.table.now))) c.if-section-eq-ATTRIBUTE_SETS.false in
    (omega (arith, c.record_bytes.ensures, wide.0), omega (arith, c.record_bytes.ensures, wide.1))

pub returns : goal.returns
returns c sound =
    let a = c.args in
    let t = a.table.now in
    let h = sound-table t (all-places (λ k. k < 256) t 0 (λ i l. (c.shared_slice_known-1.given i).fits)) sound in
    let many = c.sections_of-sections.ensures ∙ ap sections_of (c.edition.ensures ∙ sound-edition t h) in
    let within = ltb-false c.sections_of-sections.result a.body c.if-sections-body.false-raw in
    c.run_place.ensures
    ∙ entry-body h a.body a.place _ c.if-body-le-NAMES.false (omega (arith, many, within)) c.if-section-eq-ATTRIBUTE_SETS.false
    c.record_bytes.ensures
