-- What is found among the entries of good declarations, as a number, is the place of the name among the names of its sort. Assumes nothing.
use Prim.Native.Nat.{ℕ, ◌+◌, ◌*◌, ◌≤◌}
use native.Mathlib.Omega.{arith}
use mathlib.Core.Path.{◌≡◌, refl, sym, ap, ◌∙◌}
use mathlib.Core.Bool.{true}
use mathlib.Core.List.{List, []}
use mathlib.Core.Option.{Option, none, some}
use lib.ListN.{length, get_or-eq_default}
use borrow.Author.Tests.{eq-eqb}
use Rattle.policy.specs.Basics.{Name, index_of, gather, given}
use Rattle.policy.specs.Statements.{users, roles, types, Sort, thing_of, attribute_of, same_sort, Declaration, names_of, class_names, permissions, with_permissions}
use Rattle.policy.specs.Names.{Named, first_from}
use Rattle.policy.specs.Encode.{NameEntry, sort_code, entries}
use Rattle.policy.specs.Sound.{good_from}
use Rattle.policy.proofs.Counts.{few-in-all, few-classes, class-lists}
use Rattle.reading_laws.proofs.NumberIsPlace.{of_the_sort, first-is-place}
use Rattle.symbols.specs.Lookup.{first_named, found_at}
use Rattle.symbols.specs.SearchAnswers.{found_named, found_number}
use Rattle.symbols.proofs.ReferencesFound.{find-named}
use Rattle.symbols.proofs.ClassesFound.{find-class, find-permission}
use Rattle.table_laws.specs.SoundTable.{Sound}
use Rattle.table_laws.proofs.WellFormed.{formed}
use Rattle.table_names.specs.TableNames.{names_in}
use Rattle.soundness.proofs.SoundTable.{names-of}
use Rattle.table_summary.specs.Summary.{place_or}
use Rattle.table_summary.specs.Numbers.{number_of}
use Rattle.table_summary.proofs.PlaceLaws.{or_number}

-- ---- a role

of-role : (m : ℕ) (o : Option Named) → number_of 1 m (found_named o) ≡ or_number m (of_the_sort (thing_of roles) o)
of-role m none = refl
of-role m (some d) = by d.sort
  where
    by : (s : Sort) → number_of 1 m (found_at (sort_code s) d.number) ≡ or_number m (given (same_sort (thing_of roles) s) d.number)
    by (thing_of users) = refl
    by (thing_of roles) = refl
    by (thing_of types) = refl
    by (attribute_of users) = refl
    by (attribute_of roles) = refl
    by (attribute_of types) = refl

-- ---- a class, a permission

from_first : (s first m : ℕ) (o : Option ℕ) → number_of s (first + m) (found_number s first o) ≡ first + or_number m o
from_first s first m none = refl
from_first s first m (some n) = rw (eq-eqb s s refl)

module _ (ds : List Declaration) (good : good_from [] ds ≡ true) (m : ℕ) (w : Name) where
  role-number : number_of 1 m (first_named 1 w (entries ds)) ≡ place_or m w (names_of (thing_of roles) ds)
  role-number =
      ap (number_of 1 m) (find-named ds roles w) ∙ of-role m (first_from [] ds roles w)
      ∙ ap (or_number m) (first-is-place ds (thing_of roles) w good)

  class-number : number_of 6 m (first_named 3 w (entries ds)) ≡ place_or m w (class_names ds)
  class-number = ap (number_of 6 m) (find-class ds w) ∙ by (index_of w (class_names ds))
    where
      by : (o : Option ℕ) → number_of 6 m (found_number 6 0 o) ≡ or_number m o
      by none = refl
      by (some n) = omega arith

  permission-number : (c : ℕ) → number_of 7 (c * 32 + m) (first_named (4 + c) w (entries ds)) ≡ c * 32 + place_or m w (permissions ds c)
  permission-number c =
      ap (number_of 7 (c * 32 + m)) (find-permission ds c w (few-in-all [] ds good)) ∙ from_first 7 (c * 32) m (index_of w (permissions ds c))

  -- no class past the greatest number of classes has a permission
  no-permission : (c : ℕ) → 32 ≤ c → m ≡ place_or m w (permissions ds c)
  unfolding permissions index_of class_names
  no-permission c h =
      let past : length (gather with_permissions ds) ≤ c = omega (arith, class-lists ds, few-classes ds good) in
      sym (ap (λ (ps : List Name). place_or m w ps) (get_or-eq_default (gather with_permissions ds) [] past))

-- ---- on a sound table

module _ (t : List ℕ) (s : Sound t) (m : ℕ) (w : Name) where
  abbrev held : List Declaration
  held = s.image.names

  good-names : good_from [] held ≡ true
  good-names = (formed s.image s.formed).names

  pub role-in : number_of 1 m (first_named 1 w (names_in t)) ≡ place_or m w (names_of (thing_of roles) held)
  role-in = ap (λ (es : List NameEntry). number_of 1 m (first_named 1 w es)) (names-of t s) ∙ role-number held good-names m w

  pub class-in : number_of 6 m (first_named 3 w (names_in t)) ≡ place_or m w (class_names held)
  class-in = ap (λ (es : List NameEntry). number_of 6 m (first_named 3 w es)) (names-of t s) ∙ class-number held good-names m w

  pub permission-in : (c : ℕ) → number_of 7 (c * 32 + m) (first_named (4 + c) w (names_in t)) ≡ c * 32 + place_or m w (permissions held c)
  permission-in c =
      ap (λ (es : List NameEntry). number_of 7 (c * 32 + m) (first_named (4 + c) w es)) (names-of t s) ∙ permission-number held good-names m w c

  pub permission-out : (c : ℕ) → 32 ≤ c → m ≡ place_or m w (permissions held c)
  permission-out c h = no-permission held good-names m w c h
