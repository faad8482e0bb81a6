-- The image of a policy that reading leaves is well formed: it has all that a sound table must have besides its layout. Part by part, in
-- the order of `well_formed`. Assumes nothing.
use Prim.Native.Nat.{ℕ, ◌≤◌}
use mathlib.Core.Path.{◌≡◌, ap₂}
use mathlib.Core.Bool.{true, ◌&&◌}
use lib.Dec.{leb}
use borrow.Author.Tests.{le-leb}
use Rattle.policy.specs.Statements.{users, roles, types, thing_of, attribute_of, userrole, roletype, roleallow, Policy, count, declarations, transitions, constrains}
use Rattle.policy.specs.Statements.{relabels}
use Rattle.policy.specs.Maxima.{max_transitions, max_constraints, max_rows, max_relabels, max_relabel_rows}
use Rattle.policy.specs.Image.{constraint_entry, transition_entry, relabel_entry, image_of}
use Rattle.policy.specs.Sound.{well_formed}
use Rattle.policy.specs.Accepted.{Accepted}
use Rattle.policy.proofs.Lists.{each-length}
use Rattle.image_laws.proofs.RowCounts.{rows-in-all, relabel-rows-in-all}
use Rattle.image_laws.proofs.GoodParts.{good-relation, good-attributes, good-transitions, good-constraints, good-relabels}

-- what is as many as something that is few
as-few : {n m : ℕ} (most : ℕ) → n ≡ m → m ≤ most → leb n most ≡ true
as-few {n} most e h = le-leb n most (rw e h)

pub image-well-formed : (p : Policy) → Accepted p → well_formed (image_of p) ≡ true
unfolding well_formed image_of
image-well-formed p ok =
    let ds = declarations p in
    ap₂ ◌&&◌ (ap₂ ◌&&◌ (ap₂ ◌&&◌ (ap₂ ◌&&◌ (ap₂ ◌&&◌ (ap₂ ◌&&◌ (ap₂ ◌&&◌ (ap₂ ◌&&◌ (ap₂ ◌&&◌ (ap₂ ◌&&◌ (ap₂ ◌&&◌
    ok.names
    (good-relation p ok (count (thing_of users) ds) userrole))
    (good-relation p ok (count (thing_of roles) ds) roletype))
    (good-relation p ok (count (thing_of roles) ds) roleallow))
    (ap₂ ◌&&◌ (as-few max_transitions (each-length (transition_entry p) (transitions p)) ok.few-transitions) (good-transitions p ok)))
    (ap₂ ◌&&◌ (as-few max_constraints (each-length constraint_entry (constrains p)) ok.few-constrains) (good-constraints p ok)))
    (as-few max_rows (rows-in-all (constrains p)) ok.few-rows))
    (good-attributes p ok (count (attribute_of users) ds) users))
    (good-attributes p ok (count (attribute_of roles) ds) roles))
    (good-attributes p ok (count (attribute_of types) ds) types))
    (ap₂ ◌&&◌ (as-few max_relabels (each-length relabel_entry (relabels p)) ok.few-relabels) (good-relabels p ok)))
    (as-few max_relabel_rows (relabel-rows-in-all (relabels p)) ok.few-relabel-rows)
