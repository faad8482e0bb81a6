-- A name that is looked up in an environment that the symbols have is resolved: what is found is a reference, and its unit is that of `refer`.
-- Assumes nothing.
use mathlib.Core.Path.{◌≡◌, refl, sym, ap, ◌∙◌}
use mathlib.Core.Bool.{cond}
use mathlib.Core.List.{List}
use mathlib.Core.Option.{Option, none, some}
use Prim.Native.Nat.{ℕ, ◌+◌, ◌≤◌, ◌<◌}
use native.Mathlib.Omega.{arith}
use borrow.Author.Tests.{lt-ltb, le-ltb, lt-leb, le-leb}
use lib.Dec.{leb, ltb}
use Rattle.std.specs.Prelude as prelude
use Rattle.std.specs.Prelude.{None, Some}
use Rattle.policy.specs.Basics.{Name, ◌>>=◌}
use Rattle.policy.specs.Statements.{thing_of, attribute_of, Reference, thing, attribute, Sort}
use Rattle.policy.specs.Encode.{sort_code}
use Rattle.policy.specs.Names.{refer, Named, reference_of}
use Rattle.policy.proofs.IfAny.{IfAny}
use Rattle.policy.proofs.Sorts.{thing-sort, attribute-sort}
use Rattle.symbols.specs.SearchAnswers.{found_named}
use Rattle.std.specs.Prelude.{Some, None}
use Rattle.symbols.specs.Lookup.{found_at}
use Rattle.symbols.specs.declared.Symbol.{Symbol}
use Rattle.statement_code.specs.Code.{reference_unit}
use Rattle.scopes.specs.Symbols.{Looks}
use Rattle.scopes.proofs.Bounds.{bounded}
use Rattle.set_writer.specs.NameLookup.{referred, Refers}

-- the unit of what is found: sorts below 3 are things; a number that no reference has is taken for none
abbrev pub unit_of : prelude.Option Symbol → prelude.Option ℕ
unit_of (Some x) = cond (leb 1024 x.number) None (cond (ltb x.sort 3) (Some x.number) (Some (1024 + x.number)))
unit_of None = None

-- that of a name with a small number is the unit of its reference
unit-of : (o : Option Named) → IfAny (λ d. d.number < 512) o → unit_of (found_named o) ≡ referred (o >>= λ d. some (reference_of d))
unit-of none h = refl
unit-of (some d) h = by d.sort
  where
    by : (s : Sort) → unit_of (found_at (sort_code s) d.number) ≡ Some (reference_unit (elim s [ thing_of f ↦ thing d.number | attribute_of f ↦ attribute d.number ]))
    by (thing_of f) = rw (lt-leb 1024 d.number (omega (arith, h.has d refl)), lt-ltb (sort_code (thing_of f)) 3 (thing-sort f))
    by (attribute_of f) = rw (lt-leb 1024 d.number (omega (arith, h.has d refl)), le-ltb (sort_code (attribute_of f)) 3 (attribute-sort f))

pub refers : {table : List ℕ} {family : ℕ} {w : Name} {r : prelude.Option ℕ} {found : prelude.Option Symbol} → Looks table family w found → r ≡ unit_of found
    → Refers table family w r
unfolding refer
refers {w = w} e h = record {
  resolves = λ env f s g.
      h ∙ ap unit_of (e.names env f s g) ∙ unit-of (env.find f w) (record { has = λ d q. (bounded s).names f w d q });
}

-- ---- the ways of the search

module _ (s n : ℕ) where
  pub too_large : 1024 ≤ n → None ≡ unit_of (found_at s n)
  too_large h = rw (le-leb 1024 n h)

  pub a-thing : n < 1024 → s < 3 → Some n ≡ unit_of (found_at s n)
  a-thing h g = rw (lt-leb 1024 n h, lt-ltb s 3 g)

  pub an-attribute : n < 1024 → 3 ≤ s → Some (1024 + n) ≡ unit_of (found_at s n)
  an-attribute h g = rw (lt-leb 1024 n h, le-ltb s 3 g)

-- ---- what the unit says of the name

-- a name with a unit is declared; one without is not
pub record Known (o : Option Reference) (u : ℕ) : Type 0 where
  pub to : Reference
  pub is : o ≡ some to
  pub unit : reference_unit to ≡ u

pub known : (o : Option Reference) (u : ℕ) → Some u ≡ referred o → Known o u
known none u e = absurd (let z : ◌≡◌ {A = ℕ} 0 1 = cc in omega arith)
known (some r) u e = record { to = r; is = refl; unit = let z : u ≡ reference_unit r = cc in sym z }

pub unknown : (o : Option Reference) → None ≡ referred o → o ≡ none
unknown none e = refl
unknown (some r) e = absurd (let z : ◌≡◌ {A = ℕ} 0 1 = cc in omega arith)
