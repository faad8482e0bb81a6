-- `set_rows::grant` meets its contract: the rows below row u are done. Assumes nothing.
use Prim.Native.Nat.{ℕ, ◌+◌, ◌*◌, ◌-◌, ◌≤◌, min}
use borrow.Author.Rules.{rules}
use lib.ListN.{length}
use mathlib.Core.List.{List}
use mathlib.Core.Path.{◌≡◌, refl, sym, ap, ◌∙◌}
use native.Mathlib.Nat.{mul-zero, mul-le-mul_left}
use native.Mathlib.Omega.{arith}
use Rattle.set_rows.proofs.GrantLaws.{so_far, so_far-none, so_far-skips, so_far-row, so_far-all, length-so_far, granted-none}
use Rattle.byte_slices.specs.Parts.{part, put}
use Rattle.byte_slices.proofs.PartLaws.{part-present}
use Rattle.bitset.specs.Sets.{union_of}
use Rattle.set_rows.proofs.grant.Goals as goal

pub returns-then-w-eq0 : goal.returns-then-w-eq0
returns-then-w-eq0 c = granted-none _ _ _ _ (λ i. (c.slice_known-1.given i).fits) c.if-w-eq0.true

pub loop-u-init : goal.loop-u-init
loop-u-init c =
    let a = c.args in
    (search rules, rw (mul-zero a.w) (so_far-none a.w a.body.now a.us.now a.rs.now (λ i. (c.slice_known-1.given i).fits)), refl)

-- the rows of a gap gain nothing
pub loop-u-preserved-then-gap-gt0 : goal.loop-u-preserved-then-gap-gt0
loop-u-preserved-then-gap-gt0 c =
    let a = c.args in (
      search rules,
      c.loop-u.invariant.1 ∙ so_far-skips a.w a.body.now a.us.now a.rs.now c.loop-u.u c.min-u.result
          (λ n p q. c.gap_from-gap.ensures.none n p (omega arith)),
      c.loop-u.invariant.2,
    )

pub overflow_mul-start : goal.overflow_mul-start
overflow_mul-start c =
    omega (arith, c.row_count-rows.ensures.starts c.loop-u.u (omega arith))

-- where there is no gap, row u gains rs
pub loop-u-preserved : goal.loop-u-preserved
loop-u-preserved c =
    let a = c.args in
    let body = a.body.now in
    let w = a.w in
    let u = c.loop-u.u in
    let s = so_far w body a.us.now a.rs.now (w * u) in
    let v = min w (length s - w * u) in
    let inside : w * u ≤ length body = omega (arith, c.row_count-rows.ensures.starts u (omega arith)) in
    let here = c.gap_from-gap.ensures.here (omega arith) in
    let row : c.union_at.new.table ≡ so_far w body a.us.now a.rs.now (w * (u + 1)) =
    c.union_at.ensures ∙ ap (λ (b : List ℕ). put b (w * u) (union_of (part b (w * u) w) a.rs.now)) c.loop-u.invariant.1
    ∙ ap (λ (p : List ℕ). put s (w * u) (union_of p a.rs.now)) (sym (part-present s (w * u) w))
    ∙ so_far-row w body a.us.now a.rs.now u v inside (ap (λ (n : ℕ). min w (n - w * u)) (length-so_far w body a.us.now a.rs.now (w * u))) here in
    (search rules, row, ap length row ∙ length-so_far w body a.us.now a.rs.now (w * (u + 1)))

pub returns : goal.returns
returns c =
    let a = c.args in
    c.loop-u.invariant.1
    ∙ so_far-all a.w a.body.now a.us.now a.rs.now (a.w * c.loop-u.u)
    (omega (arith, c.row_count-rows.ensures.all, mul-le-mul_left a.w c.loop-u-test.false))
