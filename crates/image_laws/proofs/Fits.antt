-- What the answers of an image need of its policy: everything fits the bytes that hold it, and each E names only declared attributes.
-- All of it follows from what reading leaves of the statements. Assumes nothing.
use Prim.Native.Nat.{ℕ, ◌*◌, ◌≤◌, ◌<◌}
use lib.ListN.{length}
use Rattle.policy.specs.Statements.{Family, users, roles, types, thing_of, Reference, thing, attribute, Constraint, sides_e, name_e, not_e, and_e, or_e, Policy}
use Rattle.policy.specs.Statements.{Constrain, constrains, Relabel, relabels, declarations, permissions}
use Rattle.policy.specs.Words.{Sides, two_sides, three_sides}
use Rattle.policy.specs.Meaning.{count_in}
use Rattle.policy.specs.Faults.{attributes_in}
use Rattle.policy.specs.Image.{width}
use Rattle.policy.specs.Basics.{All}
use Rattle.policy.specs.Accepted.{ReferenceIn, ConstraintIn, Accepted}
use Rattle.policy.proofs.Gathered.{all_map}
use Rattle.image_laws.proofs.AcceptedParts.{ConstrainIn, constrains-in, RelabelIn, relabels-in}
use Rattle.policy.proofs.Counts.{few-of, few-permissions-of}

-- E names only attributes that p declares
abbrev pub KnownR : Policy → Family → Reference → Type 0
KnownR p f (thing n) = Unit {0}
KnownR p f (attribute a) = a < attributes_in p f

abbrev pub Known : Policy → Constraint Reference → Type 0
Known p (sides_e f o) = Unit {0}
Known p (name_e f s o r) = KnownR p f r
Known p (not_e a) = Known p a
Known p (and_e a b) = Known p a × Known p b
Known p (or_e a b) = Known p a × Known p b

pub record Fits (p : Policy) : Type 0 where
  pub few : (f : Family) → count_in p f ≤ 8 * width f
  pub few-permissions : (c : ℕ) → length (permissions (declarations p) c) ≤ 32
  pub known : All (λ (c : Constrain). Known p c.body) (constrains p)
  pub known-relabels : All (λ (c : Relabel). Known p c.body) (relabels p)

module _ (p : Policy) where
  known-reference : (f : Family) (r : Reference) → ReferenceIn (declarations p) f r → KnownR p f r
  unfolding attributes_in
  known-reference f (thing n) h = tt
  known-reference f (attribute a) h = h

  known-constraint : (n : Sides) (e : Constraint Reference) → ConstraintIn (declarations p) n e → Known p e
  known-constraint n (sides_e f o) h = tt
  known-constraint n (name_e f s o r) h = known-reference f r h.1
  known-constraint n (not_e a) h = known-constraint n a h
  known-constraint n (and_e a b) h = (known-constraint n a h.0, known-constraint n b h.1)
  known-constraint n (or_e a b) h = (known-constraint n a h.0, known-constraint n b h.1)

few-things : (p : Policy) → Accepted p → (f : Family) → count_in p f ≤ 8 * width f
unfolding count_in
few-things p ok users = few-of (thing_of users) (declarations p) ok.names
few-things p ok roles = few-of (thing_of roles) (declarations p) ok.names
few-things p ok types = few-of (thing_of types) (declarations p) ok.names

pub image-fits : (p : Policy) → Accepted p → Fits p
image-fits p ok = record {
  few = few-things p ok;
  few-permissions = few-permissions-of (declarations p) ok.names;
  known = all_map (ConstrainIn p) (λ (c : Constrain). Known p c.body) (λ c h. known-constraint p two_sides c.body h.3) (constrains p) (constrains-in p ok);
  known-relabels = all_map (RelabelIn p) (λ (c : Relabel). Known p c.body) (λ c h. known-constraint p three_sides c.body h.1) (relabels p) (relabels-in p ok);
}
