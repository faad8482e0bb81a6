-- `name_rows::repeats` meets its contract. The loop's invariant is that of proofs/RepeatLaws: the names passed differ, and their first eight bytes are
-- kept. Assumes nothing.
use mathlib.Core.Path.{◌≡◌, refl, sym, ap, ◌∙◌}
use mathlib.Core.Bool.{false}
use Rattle.byte_slices.specs.Parts.{part}
use Rattle.name_index.specs.Index.{front_of}
use Rattle.name_rows.specs.WordRows.{is_among_first}
use Rattle.name_rows.proofs.RepeatLaws.{passed_none, passed-more, none-twice, stands-twice, not-passed}
use Rattle.name_rows.proofs.repeats.Goals as goal
use Rattle.name_rows.proofs.repeats.Goals.{else-may_be_among-via-then-may_be_among+else-is_among_first, else-may_be_among-via-else-may_be_among}

pub loop-word-init : goal.loop-word-init
loop-word-init c = passed_none c.args.text.now c.args.at _ refl

pub returns-then-is_among_first : goal.returns-then-is_among_first
returns-then-is_among_first c =
    stands-twice _ _ _ _ _ c.loop-word.invariant _ _ c.in-Some.ensures
    (sym (c.if-is_among_first.ensures ∙ ap (is_among_first _ _ _) c.part-name.ensures))

pub loop-word-preserved : goal.loop-word-preserved
loop-word-preserved c =
    let front = c.front_of-front.ensures ∙ ap front_of c.part-name.ensures in
    let apart : is_among_first c.args.text.now c.args.at c.loop-word.count (part c.args.text.now c.in-Some.word.start c.in-Some.word.length) ≡ false =
    elim c.else-may_be_among.branch [
      | else-may_be_among-via-then-may_be_among+else-is_among_first w ↦ sym (w.if-is_among_first.ensures ∙ ap (is_among_first _ _ _) c.part-name.ensures)
      | else-may_be_among-via-else-may_be_among w ↦ not-passed _ _ _ _ _ c.loop-word.invariant _ _ c.in-Some.ensures _ front w.if-may_be_among.ensures
    ] in
    rw c.keep_front.ensures (passed-more _ _ _ _ _ c.loop-word.invariant _ _ c.in-Some.ensures _ front apart)

pub returns : goal.returns
returns c = none-twice _ _ _ _ _ c.loop-word.invariant c.in_default.ensures
