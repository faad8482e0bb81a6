-- `body_writer::write_relation` meets its contract: the body is that of the items passed. Assumes nothing.
use mathlib.Core.Path.{refl, ap, ◌∙◌, subst}
use native.Mathlib.Nat.{mul_comm, mul-le-mul}
use lib.ListN.{length}
use native.Mathlib.Omega.{arith}
use Prim.Native.Nat.{ℕ, ◌+◌, ◌-◌, ◌≤◌}
use borrow.Author.Rules.{rules}
use Rattle.code_reader.proofs.SetPasses.{start}
use Rattle.statement_code.specs.Code.{relation_number}
use Rattle.policy.specs.Statements.{to_of}
use Rattle.body_writer.proofs.RelationBodies.{line-more, line-over, lines-all}
use Rattle.body_writer.proofs.SetRows.{narrow}
use Rattle.body_writer.proofs.write_relation.Goals as goal

pub returns-then-many-gt-MAX : goal.returns-then-many-gt-MAX
returns-then-many-gt-MAX c = record { body = λ p k r ok q hf ht few w room. absurd (omega (arith, c.if-many-gt-MAX.true, few)) }

pub returns-then-width-gt-SET_BYTES : goal.returns-then-width-gt-SET_BYTES
returns-then-width-gt-SET_BYTES c = record { body = λ p k r ok q hf ht few w room. absurd (omega (arith, c.if-width-gt-SET_BYTES.true, w, narrow (to_of k))) }

pub overflow_mul-size : goal.overflow_mul-size
overflow_mul-size c =
    omega (
      arith,
      mul-le-mul {n₁ = c.args.width} {m₁ = c.args.many} {n₂ = 64} {m₂ = 128}
          (omega arith) (omega arith),
    )

pub loop-place-init : goal.loop-place-init
loop-place-init c = (refl, λ p k t a e. start p _ _ a.coded e)

pub loop-place-preserved-then-code-place : goal.loop-place-preserved-then-code-place
loop-place-preserved-then-code-place c = (
  search rules,
  λ p k t a e.
      line-more p k t a _ _ c.loop-place-test.true _ (c.loop-place.invariant.1 p k t a e) refl c.if-code-place.true _ _ c.unit-from.ensures
      c.unit-to.ensures _ c.grant_line.ensures,
)

pub loop-place-preserved : goal.loop-place-preserved
loop-place-preserved c = (
  search rules,
  λ p k t a e. line-over p k t a _ _ c.loop-place-test.true _ (c.loop-place.invariant.1 p k t a e)
      c.next_statement-place.ensures.0 c.if-code-place.false,
)

pub returns : goal.returns
returns c = record {
  body = λ p k r ok q hf ht few w room.
      let x = c.args in
      lines-all p k _ _ _ _ c.loop-place-test.false c.clear_at.ensures c.loop-place.invariant.1 (record {
        ok = ok;
        tagged = ap (λ (n : ℕ). 4102 + n) (c.relation_number-tag.ensures.0 ∙ ap relation_number r);
        coded = q;
        from-sets = hf;
        to-sets = ht;
        few = few;
        wide = w;
        sized = refl;
        room = subst (λ (n : ℕ). x.at + n ≤ length x.table.now) (mul_comm x.many x.width) room;
      });
}
