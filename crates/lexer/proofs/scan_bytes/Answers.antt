-- `lexer::scan_bytes` meets its contract. Both loops: the scan that is left at the place reached, between names or within the name under
-- way, says what the scan of the whole text says. Each way through a loop is one law of the definition. Assumes nothing.
use Prim.Native.Nat.{◌+◌, ◌-◌, ◌<◌}
use mathlib.Core.Path.{◌≡◌, sym, ap, ◌∙◌}
use native.Mathlib.Omega.{arith}
use borrow.Author.Rules.{rules}
use lib.ListN.{length, drop}
use Rattle.lexer.specs.Class.{ends_comment, max_name}
use Rattle.lexer.specs.Scan.{scan_from, scan}
use Rattle.lexer.specs.Answers.{state_of}
use Rattle.lexer.specs.declared.Step.{Step}
use Rattle.lexer.proofs.Ends.{ahead, within, counted-most, name-there}
use Rattle.lexer.proofs.Scans.{not-long, halted, took, last, skip, overlong, no-part-behind, goes, leaves, bare-first, starts-name}
use Rattle.lexer.proofs.scan_bytes.Goals as goal
use Rattle.lexer.proofs.scan_bytes.Goals.{After-step_between-step, In-loop-start}

-- a byte between names that was one step leaves the scan of the bytes after it
stepped : (s : After-step_between-step) (x : Step) → s.step_between-step.result ≡ x
    → scan_from s.args.text.now (drop (s.text.at + 1) s.args.text.now) (state_of s.text.level s.text.at x) (s.text.at + 1) ≡ scan s.args.text.now
stepped s x e =
    took _ s.text.at s.text.level s.class_of.result _ x s.if-text-at.false s.class_of.ensures s.step_between-step.ensures e s.text.invariant.1

-- a turn of the name loop: the name goes on, so that there is a byte
there : (c : In-loop-start) → c.loop-start.at < length c.args.text.now
there c = name-there c.args.text.now c.loop-start.at (sym c.name_goes_on.ensures ∙ c.loop-start-test.true)

pub text-init : goal.text-init
text-init c = (search rules, sym (not-long _ c.requires))

pub returns-then-text-at : goal.returns-then-text-at
returns-then-text-at c =
    c.closed_at.ensures ∙ sym (last c.args.text.now c.text.at c.text.level c.if-text-at.true) ∙ c.text.invariant.1

pub text-preserved-in-Level : goal.text-preserved-in-Level
text-preserved-in-Level c = (search rules, stepped (goal.at.text-preserved-in-Level c).After-step_between-step _ c.in-Level.is)

pub text-smaller-in-Comment : goal.text-smaller-in-Comment
text-smaller-in-Comment c =
    omega (arith, c.comment_end-at.ensures, ahead c.args.text.now ends_comment (c.text.at + 1))

pub text-preserved-in-Comment : goal.text-preserved-in-Comment
text-preserved-in-Comment c = (
  omega (arith, c.comment_end-at.ensures, within c.args.text.now ends_comment (c.text.at + 1) (search rules)),
  rw c.comment_end-at.ensures (sym (skip _ (c.text.at + 1) c.text.level) ∙ stepped (goal.at.text-preserved-in-Comment c).After-step_between-step Step.Comment c.in-Comment.is),
)

pub overflow_add-limit : goal.overflow_add-limit
overflow_add-limit c =
    omega (arith, c.counted_from-limit.ensures, counted-most (drop c.text.at c.args.text.now) c.text.at, c.if-text-at.false)

pub loop-start-init : goal.loop-start-init
loop-start-init c =
    let from : c.counted_from-limit.result + max_name - max_name ≡ c.counted_from-limit.result = omega arith in (
      omega arith,
      starts-name c.args.text.now c.text.at c.text.level c.if-text-at.false (stepped (goal.at.loop-start-init c).After-step_between-step Step.Name c.in-Name.is)
          _ c.class_of.result c.class_of.ensures
          (ap (state_of c.text.level c.text.at) (sym c.in-Name.is) ∙ c.step_between-step.ensures c.text.at)
          (from ∙ c.counted_from-limit.ensures) (sym c.bare_dot.ensures ∙ c.if-bare_dot.false),
    )

pub overflow_add-at-in-loop-start : goal.overflow_add-at-in-loop-start
overflow_add-at-in-loop-start c = omega (arith, there (goal.at.overflow_add-at-in-loop-start c).In-loop-start)

pub loop-start-smaller : goal.loop-start-smaller
loop-start-smaller c = omega (arith, there (goal.at.loop-start-smaller c).In-loop-start)

pub loop-start-preserved : goal.loop-start-preserved
loop-start-preserved c =
    let l = c.loop-start.invariant in (
      l.0,
      goes _ _ _ _ _ l.1 (sym c.name_goes_on.ensures ∙ c.loop-start-test.true) (omega (arith, l.0, l.1.counted)),
    )

pub text-smaller : goal.text-smaller
text-smaller c = omega (arith, c.loop-start.invariant.1.begun, c.loop-start.invariant.1.inside)

pub text-preserved : goal.text-preserved
text-preserved c = (
  c.loop-start.invariant.1.inside,
  leaves _ _ _ _ _ c.loop-start.invariant.1 (sym c.name_goes_on.ensures ∙ c.loop-start-test.false) (sym c.bare_dot-in-Name.ensures ∙ c.if-bare_dot-2.false),
)

pub returns-then-bare_dot : goal.returns-then-bare_dot
returns-then-bare_dot c =
    bare-first c.args.text.now c.text.at c.text.level c.if-text-at.false (stepped (goal.at.returns-then-bare_dot c).After-step_between-step Step.Name c.in-Name.is)
    (sym c.bare_dot.ensures ∙ c.if-bare_dot.true)

pub returns-then-limit-at : goal.returns-then-limit-at
returns-then-limit-at c =
    let l = c.loop-start.invariant in
    overlong _ _ _ _ _ l.1 (sym c.name_goes_on.ensures ∙ c.loop-start-test.true) (omega (arith, l.0, l.1.counted))

pub returns-then-bare_dot-2 : goal.returns-then-bare_dot-2
returns-then-bare_dot-2 c =
    no-part-behind _ _ _ _ _ c.loop-start.invariant.1 (sym c.name_goes_on.ensures ∙ c.loop-start-test.false)
    (sym c.bare_dot-in-Name.ensures ∙ c.if-bare_dot-2.true)

pub returns-in-Fault : goal.returns-in-Fault
returns-in-Fault c = sym (halted _ _ _ _) ∙ stepped (goal.at.returns-in-Fault c).After-step_between-step Step.Fault c.in-Fault.is
