-- `table_writer::write_pairs` meets its contract: pair by pair, each body starts where the one before it ends. Assumes nothing.
use native.Mathlib.Omega.{arith}
use mathlib.Core.List.{[], ◌∷◌}
use Rattle.policy.specs.Encode.{bodies, first_body, newest}
use Rattle.table_writer.specs.TableSizes.{body}
use Rattle.table_writer.proofs.HeaderLaws.{puts-pair, no-pair}
use Rattle.table_writer.proofs.write_pairs.Goals as goal

pub returns : goal.returns
unfolding bodies
returns c =
    record {
      says = λ p at.
          let e1 = c.args.places.user_roles in
          let e2 = c.args.places.role_types in
          let e3 = c.args.places.role_roles in
          let e4 = c.args.places.transitions in
          let e5 = c.args.places.constraints in
          let e6 = c.args.places.rows in
          let e7 = c.args.places.user_sets in
          let e8 = c.args.places.relabels in
          puts-pair 4 (first_body newest) e1 (body 0 p) (body 1 p ∷ body 2 p ∷ body 3 p ∷ body 4 p ∷ body 5 p ∷ body 6 p ∷ body 7 p ∷ []) at.user-roles
          (c.put_pair.ensures (omega (arith, at.user-roles)))
          (puts-pair 12 e1 e2 (body 1 p) (body 2 p ∷ body 3 p ∷ body 4 p ∷ body 5 p ∷ body 6 p ∷ body 7 p ∷ []) at.role-types
          (c.put_pair-2.ensures (omega (arith, at.role-types)))
          (puts-pair 20 e2 e3 (body 2 p) (body 3 p ∷ body 4 p ∷ body 5 p ∷ body 6 p ∷ body 7 p ∷ []) at.role-roles (c.put_pair-3.ensures (omega (arith, at.role-roles)))
          (puts-pair 28 e3 e4 (body 3 p) (body 4 p ∷ body 5 p ∷ body 6 p ∷ body 7 p ∷ []) at.transitions (c.put_pair-4.ensures (omega (arith, at.transitions)))
          (puts-pair 36 e4 e5 (body 4 p) (body 5 p ∷ body 6 p ∷ body 7 p ∷ []) at.constraints (c.put_pair-5.ensures (omega (arith, at.constraints)))
          (puts-pair 44 e5 e6 (body 5 p) (body 6 p ∷ body 7 p ∷ []) at.rows (c.put_pair-6.ensures (omega (arith, at.rows)))
          (puts-pair 52 e6 e7 (body 6 p) (body 7 p ∷ []) at.user-sets (c.put_pair-7.ensures (omega (arith, at.user-sets)))
          (puts-pair 60 e7 e8 (body 7 p) [] at.relabels (c.put_pair-8.ensures (omega (arith, at.relabels)))
          (no-pair e8))))))));
    }
