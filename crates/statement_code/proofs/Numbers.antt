-- The numbers in the code: of families and relations, by cases; of the things, attributes and classes of good declarations, from the maxima; and the
-- units of S, which are below every tag, by induction on S. Assumes nothing.
use Prim.Native.Nat.{ℕ, ◌<◌}
use native.Mathlib.Omega.{arith}
use mathlib.Core.Path.{◌≡◌}
use mathlib.Core.Bool.{true}
use mathlib.Core.List.{List, [], ◌∷◌, ◌++◌}
use Rattle.policy.specs.Basics.{All}
use Rattle.policy.specs.Statements.{Family, users, roles, types, thing_of, attribute_of, Declaration, Reference, thing, attribute, SetExpr, name_s, all_s, not_s}
use Rattle.policy.specs.Statements.{and_s, or_s, xor_s, union_s, empty_s, Relation, userrole, roletype, roleallow}
use Rattle.policy.specs.Sound.{good_from}
use Rattle.policy.specs.Accepted.{ReferenceIn, SetIn}
use Rattle.policy.proofs.Lists.{all_append}
use Rattle.policy.proofs.Counts.{few-of}
use Rattle.policy.proofs.Sorts.{max-small}
use Rattle.statement_code.specs.Code.{family_number, relation_number, reference_unit, end_unit, set_code, row_code}
use Rattle.statement_code.specs.Numbered.{NumberedR, Numbered}

pub family-few : (f : Family) → family_number f < 3
family-few users = omega arith
family-few roles = omega arith
family-few types = omega arith

pub relation-few : (k : Relation) → relation_number k < 3
relation-few userrole = omega arith
relation-few roletype = omega arith
relation-few roleallow = omega arith

module _ (ds : List Declaration) (good : good_from [] ds ≡ true) where
  pub reference-numbered : (f : Family) (r : Reference) → ReferenceIn ds f r → NumberedR r
  reference-numbered f (thing n) h = omega (arith, few-of (thing_of f) ds good, max-small (thing_of f))
  reference-numbered f (attribute a) h = omega (arith, few-of (attribute_of f) ds good)

  pub set-numbered : (f : Family) (s : SetExpr Reference) → SetIn ds f s → Numbered s
  set-numbered f (name_s r) h = reference-numbered f r h
  set-numbered f all_s h = tt
  set-numbered f (not_s x) h = set-numbered f x h
  set-numbered f (and_s x y) h = (set-numbered f x h.0, set-numbered f y h.1)
  set-numbered f (or_s x y) h = (set-numbered f x h.0, set-numbered f y h.1)
  set-numbered f (xor_s x y) h = (set-numbered f x h.0, set-numbered f y h.1)
  set-numbered f (union_s x y) h = (set-numbered f x h.0, set-numbered f y h.1)
  set-numbered f empty_s h = tt

-- THE UNITS OF S: below every tag
abbrev pub BelowTags : ℕ → Type 0
BelowTags u = u < 4096

pub reference-below : (r : Reference) → NumberedR r → reference_unit r < 2048
reference-below (thing n) h = omega arith
reference-below (attribute a) h = omega arith

one_end : All BelowTags (end_unit ∷ [])
one_end = (omega arith, tt)

two_ends : All BelowTags (end_unit ∷ end_unit ∷ [])
two_ends = (omega arith, one_end)

two-below : (xs ys zs : List ℕ) → All BelowTags xs → All BelowTags ys → All BelowTags zs → All BelowTags (xs ++ (ys ++ zs))
two-below xs ys zs a b c = all_append BelowTags xs (ys ++ zs) a (all_append BelowTags ys zs b c)

mutual
  unfolding set_code

  pub set_below : (s : SetExpr Reference) → Numbered s → All BelowTags (set_code s)
  set_below (name_s r) h = (omega (arith, reference-below r h), tt)
  set_below all_s h = (omega arith, one_end)
  set_below (not_s x) h = (omega arith, all_append BelowTags (set_code x) _ (set_below x h) one_end)
  set_below (and_s x y) h = (omega arith, two-below (set_code x) (set_code y) _ (set_below x h.0) (set_below y h.1) one_end)
  set_below (or_s x y) h = (omega arith, two-below (set_code x) (set_code y) _ (set_below x h.0) (set_below y h.1) one_end)
  set_below (xor_s x y) h = (omega arith, two-below (set_code x) (set_code y) _ (set_below x h.0) (set_below y h.1) one_end)
  set_below (union_s x y) h = (omega arith, all_append BelowTags (set_code x) (row_code y) (set_below x h.0) (row_below y h.1))
  set_below empty_s h = (omega arith, one_end)

  pub row_below : (s : SetExpr Reference) → Numbered s → All BelowTags (row_code s)
  row_below (name_s r) h = (omega (arith, reference-below r h), one_end)
  row_below all_s h = (omega arith, two_ends)
  row_below (not_s x) h = (omega arith, all_append BelowTags (set_code x) _ (set_below x h) two_ends)
  row_below (and_s x y) h = (omega arith, two-below (set_code x) (set_code y) _ (set_below x h.0) (set_below y h.1) two_ends)
  row_below (or_s x y) h = (omega arith, two-below (set_code x) (set_code y) _ (set_below x h.0) (set_below y h.1) two_ends)
  row_below (xor_s x y) h = (omega arith, two-below (set_code x) (set_code y) _ (set_below x h.0) (set_below y h.1) two_ends)
  row_below (union_s x y) h = all_append BelowTags (set_code x) (row_code y) (set_below x h.0) (row_below y h.1)
  row_below empty_s h = one_end
