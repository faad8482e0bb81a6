-- What a change and a relabelling ask of the statements of a sound table, its image answers. Both look for the sets of attributes by how many there are.
-- Assumes nothing.
use Prim.Native.Nat.{ℕ, ◌≤◌}
use native.Mathlib.Omega.{arith}
use mathlib.Core.Path.{◌≡◌, sym, ap, ◌∙◌}
use mathlib.Core.List.{List}
use lib.Dec.{eqb}
use lib.ListN.{length}
use Rattle.policy.specs.Statements.{Family, users, roles, attribute_of}
use Rattle.policy.specs.Encode.{sort_code}
use Rattle.policy.specs.Maxima.{max_of}
use Rattle.policy.specs.Deciding.{Question, contexts_of, Relabelling, relabel_contexts, first_failing}
use Rattle.policy.specs.Questions.{rows_hold, entry_names, entry_holds}
use Rattle.policy.specs.declared.NameCounts.{NameCounts}
use Rattle.policy.proofs.Counts.{few-of}
use Rattle.table_laws.specs.SoundTable.{Sound}
use Rattle.table_laws.proofs.WellFormed.{formed}
use Rattle.table_laws.proofs.WellFormedLaid.{well-formed-laid}
use Rattle.table_names.specs.TableNames.{count_in, counts_in}
use Rattle.constraints.specs.declared.Bodies.{Bodies}
use Rattle.constraints.specs.TableConstraints.{bodies_in, relabel_bodies_in, sides_of, constraints_in, constraint_names, constraint_holds, relabels_in}
use Rattle.constraints.specs.TableConstraints.{relabel_names, relabel_holds}
use Rattle.constraints.proofs.HeaderPlaces.{constraints-answer, relabels-answer}
use Rattle.soundness.proofs.SoundTable.{things-of}

module _ (t : List ℕ) (s : Sound t) where
  few-attributes : (f : Family) → count_in t (sort_code (attribute_of f)) ≤ 64
  few-attributes f = omega (arith, things-of t s (attribute_of f), few-of (attribute_of f) s.image.names (formed s.image s.formed).names, most f)
    where
      most : (f : Family) → max_of (attribute_of f) ≤ 64
      most f = omega arith

  -- the attributes that are counted, where so many fit, are as many as there are sets of them
  module _ {n : NameCounts} (counts : n ≡ counts_in t) where
    user-sets : {us : ℕ} → (n.user_attributes ≤ 64 → us ≡ n.user_attributes) → us ≡ length s.image.user_sets
    user-sets h =
        let same = ap (λ (n : NameCounts). n.user_attributes) counts in
        h (omega (arith, same, few-attributes users)) ∙ same ∙ things-of t s (attribute_of users) ∙ sym (well-formed-laid s.image s.formed).user_sets.many

    role-sets : {rs : ℕ} → (n.role_attributes ≤ 64 → rs ≡ n.role_attributes) → rs ≡ length s.image.role_sets
    role-sets h =
        let same = ap (λ (n : NameCounts). n.role_attributes) counts in
        h (omega (arith, same, few-attributes roles)) ∙ same ∙ things-of t s (attribute_of roles) ∙ sym (well-formed-laid s.image s.formed).role_sets.many

    module _ {us rs : ℕ} (u : n.user_attributes ≤ 64 → us ≡ n.user_attributes) (r : n.role_attributes ≤ 64 → rs ≡ n.role_attributes) where
      pub ask-constraints-of : (q : Question) (b : Bodies) (l : List ℕ) → b ≡ bodies_in t us rs → l ≡ sides_of (contexts_of q)
          → first_failing 4 (constraint_names q.class q.perm) (constraint_holds t b l) 0 (constraints_in t b)
          ≡ first_failing 4 (entry_names q.class q.perm) (entry_holds s.image (contexts_of q)) 0 s.image.constraints
      ask-constraints-of q b l e f = rw (e, f) (constraints-answer t s us rs (user-sets u) (role-sets r) (contexts_of q) q.class q.perm)

      pub ask-relabels-of : (q : Relabelling) (b : Bodies) (l : List ℕ) → b ≡ relabel_bodies_in t us rs → l ≡ sides_of (relabel_contexts q)
          → first_failing 6 (relabel_names q.class) (relabel_holds t b l) 0 (relabels_in t b)
          ≡ first_failing 6 (λ x. eqb x.class q.class) (λ x. rows_hold s.image (relabel_contexts q) x.rows) 0 s.image.relabels
      ask-relabels-of q b l e f = rw (e, f) (relabels-answer t s us rs (user-sets u) (role-sets r) (relabel_contexts q) q.class)
