-- What the symbols of declarations give to whoever looks names up in them: what is found is what the environment has, and the numbers in it keep the
-- maxima. Assumes nothing.
use Prim.Native.Nat.{ℕ}
use native.Mathlib.Omega.{arith}
use mathlib.Core.Path.{◌≡◌, refl, sym, ap, ap₂, ◌∙◌}
use mathlib.Core.List.{List, [], ◌∷◌}
use mathlib.Core.Option as maybe
use mathlib.Core.Option.{none, some}
use Rattle.policy.specs.Basics as basics
use Rattle.policy.specs.Basics.{Name, index_of}
use Rattle.policy.specs.Statements.{Family, Declaration, class_names}
use Rattle.policy.specs.Names.{tries, first_hit, Named, Environment, first_from, environment_of}
use Rattle.policy.specs.Encode.{entries}
use Rattle.policy.proofs.Counts.{few-of, few-classes, few-permissions-of, few-in-all}
use Rattle.policy.proofs.Environments.{named_in, class-below, permission-below}
use Rattle.policy.proofs.Sorts.{max-small}
use Rattle.symbols.specs.Lookup.{first_named}
use Rattle.symbols.specs.SearchAnswers.{family_code, found_named, found_number, found_class, found_permission}
use Rattle.std.specs.Prelude.{Option}
use Rattle.std.specs.Option.{option_or}
use Rattle.symbols.specs.declared.Symbol.{Symbol}
use Rattle.symbols.proofs.ReferencesFound.{find-named}
use Rattle.symbols.proofs.ClassesFound.{find-class, find-permission}
use Rattle.name_chains.specs.Chains.{Tries}
use Rattle.name_chains.specs.declared.Tried.{Tried}
use Rattle.scopes.specs.Path.{found_first}
use Rattle.scopes.specs.Scope.{Resolves}
use Rattle.scopes.specs.Symbols.{Symbols, Looks, LooksClass, LooksPermission, Bounded}

-- ---- the first hit among the entries of declarations is that of the declarations

or-named : (x y : maybe.Option Named) → option_or (found_named x) (found_named y) ≡ found_named (basics.or_else x y)
or-named none y = refl
or-named (some d) y = refl

or-number : (s n : ℕ) (x y : maybe.Option ℕ) → option_or (found_number s n x) (found_number s n y) ≡ found_number s n (basics.or_else x y)
or-number s n none y = refl
or-number s n (some k) y = refl

module _ (ds : List Declaration) where
  name-hit : (f : Family) (ws : List Name) → found_first (family_code f) ws (entries ds) ≡ found_named (first_hit (first_from [] ds f) ws)
  unfolding found_first first_hit
  name-hit f [] = refl
  name-hit f (w ∷ ws) = ap₂ option_or (find-named ds f w) (name-hit f ws) ∙ or-named (first_from [] ds f w) (first_hit (first_from [] ds f) ws)

  class-hit : (ws : List Name) → found_first 3 ws (entries ds) ≡ found_class (first_hit (λ v. index_of v (class_names ds)) ws)
  unfolding found_first first_hit
  class-hit [] = refl
  class-hit (w ∷ ws) =
      ap₂ option_or (find-class ds w) (class-hit ws) ∙ or-number 6 0 (index_of w (class_names ds)) (first_hit (λ v. index_of v (class_names ds)) ws)

-- ---- what is looked up

-- what the tries decide is what the environment has: the count is forgotten, and nothing else
pub looks : {t : List ℕ} {family : ℕ} {w : Name} {r : Tried} → Resolves t family w r → Looks t family w r.found
unfolding environment_of
looks {t} {family} {w} {r} h = record {
  names = λ env f y e.
      is env y ∙ ap (λ (n : ℕ). found_first n (tries y.path w) (entries y.declared)) (sym e) ∙ name-hit y.declared f (tries y.path w)
      ∙ ap (λ (x : Environment). found_named (x.find f w)) (sym y.is);
  classes = λ env y e.
      is env y ∙ ap (λ (n : ℕ). found_first n (tries y.path w) (entries y.declared)) (sym e) ∙ class-hit y.declared (tries y.path w)
      ∙ ap (λ (x : Environment). found_class (x.class w)) (sym y.is);
}
  where
    is : (env : Environment) (y : Symbols t env) → r.found ≡ found_first family (tries y.path w) (entries y.declared)
    is env y = (h.resolves y.end (entries y.declared) y.path y.chained y.scope).finds

-- a class alone
pub looks-class : {t : List ℕ} {w : Name} {r : Option Symbol} → Looks t 3 w r → LooksClass t w r
looks-class h = record { classes = λ env y. h.classes env y refl }

pub looks-permission : {t : List ℕ} {family : ℕ} {w : Name} {r : Tried} → Tries t family w r → LooksPermission t family w r.found
unfolding environment_of
looks-permission {t} {family} {w} {r} h = record {
  permissions = λ env c y e.
      (h.tries y.end (entries y.declared) y.chained).finds
      ∙ ap (λ (n : ℕ). first_named n w (entries y.declared)) (sym e) ∙ find-permission y.declared c w (few-in-all [] y.declared y.good)
      ∙ ap (λ (x : Environment). found_permission c (x.permission c w)) (sym y.is);
}

-- ---- the maxima

pub bounded : {t : List ℕ} {env : Environment} → Symbols t env → Bounded env
bounded y = record {
  names = λ f w d e.
      let n = ((named_in y.declared y.path f w).has d (ap (λ (x : Environment). x.find f w) (sym y.is) ∙ e)).number in
      omega (arith, few-of d.sort y.declared y.good, max-small d.sort);
  classes = λ w c e.
      let n = (class-below y.declared y.path w).has c (ap (λ (x : Environment). x.class w) (sym y.is) ∙ e) in
      omega (arith, few-classes y.declared y.good);
  permissions = λ c w k e.
      let n = (permission-below y.declared y.path c w).has k (ap (λ (x : Environment). x.permission c w) (sym y.is) ∙ e) in
      omega (arith, few-permissions-of y.declared y.good c);
}
