-- Rows that pass the test of soundness never meet a full stack, or too few operands: on them the stack of five does what a stack without a
-- bound does. By induction on the rows. Assumes nothing.
use Rattle.std.proofs.Common.{◌≡◌, suc, pred, ◌≤◌, Bool, true, false, cond, ◌&&◌, eqb, leb, List, [], ◌∷◌, length, refl, ap, ◌∙◌, arith, lt-ltb, leb-true}
use Rattle.policy.specs.Rows.{Row, View, op_test, is_same, not_top, and_top, or_top, run_row, run, after, balanced}
use Rattle.policy.proofs.Lists.{both_true}
use Rattle.constraints.specs.Stack.{push, bounded_run}

push-room : (b : Bool) (s : List Bool) → suc (length s) ≤ 5 → push b s ≡ b ∷ s
push-room b s h = rw (lt-ltb (length s) 5 h)

-- a row whose kind is told by three tests: the same stack, of the depth that `after` says
one-turn : (k l m b : Bool) (s : List Bool)
    → 1 ≤ cond k (length s) (cond l (pred (length s)) (cond m (pred (length s)) (suc (length s))))
    → cond k (length s) (cond l (pred (length s)) (cond m (pred (length s)) (suc (length s)))) ≤ 5
    → (cond k (not_top s) (cond l (and_top s) (cond m (or_top s) (push b s))) ≡ cond k (not_top s) (cond l (and_top s) (cond m (or_top s) (b ∷ s))))
    × (length (cond k (not_top s) (cond l (and_top s) (cond m (or_top s) (b ∷ s)))) ≡ cond k (length s) (cond l (pred (length s)) (cond m (pred (length s)) (suc (length s)))))
one-turn true l m b [] g h = (refl, refl)
one-turn true l m b (x ∷ s) g h = (refl, refl)
one-turn false true m b [] g h = (refl, refl)
one-turn false true m b (x ∷ []) g h = absurd (omega arith)
one-turn false true m b (y ∷ (x ∷ s)) g h = (refl, refl)
one-turn false false true b [] g h = (refl, refl)
one-turn false false true b (x ∷ []) g h = absurd (omega arith)
one-turn false false true b (y ∷ (x ∷ s)) g h = (refl, refl)
one-turn false false false b s g h = (push-room b s h, refl)

pub bounded-run : (v : View) (rs : List Row) (s : List Bool) → balanced rs (length s) ≡ true → bounded_run v rs s ≡ run v rs s
unfolding balanced run bounded_run
bounded-run v [] s e = refl
bounded-run v (r ∷ rs) s e =
    let d = after r (length s) in
    let later = both_true (leb 1 d && leb d 5) (balanced rs d) e in
    let depth = both_true (leb 1 d) (leb d 5) later.0 in
    let same = one-turn (eqb r.kind 0) (eqb r.kind 1) (eqb r.kind 2) (op_test r.op (is_same v r)) s (leb-true 1 d depth.0) (leb-true d 5 depth.1) in
    ap (bounded_run v rs) same.0 ∙ bounded-run v rs (run_row v r s) (ap (balanced rs) same.1 ∙ later.1)
