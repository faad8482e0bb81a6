-- Finding a thing or an attribute of a family among the entries of declarations is looking its full name up. By induction on the declarations, from what
-- is declared before. Assumes nothing.
use mathlib.Core.Path.{◌≡◌, refl, ap, ◌∙◌}
use mathlib.Core.Bool.{Bool, true, false, ◌&&◌, cond}
use mathlib.Core.List.{List, [], ◌∷◌, ◌++◌}
use mathlib.Core.Option as maybe
use mathlib.Core.Option.{none, some}
use Prim.Native.Nat.{ℕ, ◌*◌, ◌<◌}
use native.Mathlib.Omega.{arith}
use lib.Dec.{eqb}
use lib.ListN.{length}
use Rattle.policy.specs.Basics.{Name, same, any, is_in, gather, keep}
use Rattle.policy.specs.Statements.{Family, users, roles, types, Sort, thing_of, attribute_of, Declaration, plain, class, same_family, family_of, of_family}
use Rattle.policy.specs.Statements.{family_names, class_names, count}
use Rattle.policy.specs.Encode.{name_entry, sort_code, entries_from, entries}
use Rattle.policy.specs.Names.{Named, first_from}
use Rattle.std.specs.Prelude.{Option, is_some}
use Rattle.symbols.specs.Lookup.{family_number, found_at, first_named}
use Rattle.symbols.specs.SearchAnswers.{family_code, found_named}
use Rattle.symbols.specs.declared.Symbol.{Symbol}
use Rattle.symbols.proofs.SearchLaws.{first-cons, permissions-other, skip-permissions}

-- ---- families

-- an entry of a thing or an attribute is of its family
codes : (f g : Family) → eqb (family_code g) (family_code f) ≡ same_family f g
codes users users = refl
codes users roles = refl
codes users types = refl
codes roles users = refl
codes roles roles = refl
codes roles types = refl
codes types users = refl
codes types roles = refl
codes types types = refl

pub code_of : (s : Sort) (n : ℕ) → family_number (sort_code s) n ≡ family_code (family_of s)
code_of (thing_of users) n = refl
code_of (thing_of roles) n = refl
code_of (thing_of types) n = refl
code_of (attribute_of users) n = refl
code_of (attribute_of roles) n = refl
code_of (attribute_of types) n = refl

pub family-below : (f : Family) → family_code f < 3
family-below users = omega arith
family-below roles = omega arith
family-below types = omega arith

module _ (f : Family) (w : Name) (e : List Declaration) where
  -- a search goes by the family of a declaration, and then by its name
  by-plain : (s : Sort) (v : Name) (ds : List Declaration)
      → first_named (family_code f) w (entries_from e (plain s v ∷ ds))
      ≡ cond (same_family f (family_of s) && same w v) (found_at (sort_code s) (count s e)) (first_named (family_code f) w (entries_from (e ++ (plain s v ∷ [])) ds))
  unfolding entries_from
  by-plain s v ds = first-cons (family_code f) w (name_entry (sort_code s) (count s e) v) (entries_from (e ++ (plain s v ∷ [])) ds) (same_family f (family_of s) && same w v)
      (rw (code_of s (count s e), codes f (family_of s)))

  by-class : (v : Name) (ps : List Name) (ds : List Declaration)
      → first_named (family_code f) w (entries_from e (class v ps ∷ ds)) ≡ first_named (family_code f) w (entries_from (e ++ (class v ps ∷ [])) ds)
  by-class v ps ds =
      skip-permissions (family_code f) w e v ps ds
      (permissions-other (family_code f) w (length (class_names e) * 32) ps (λ k l g q. omega (arith, family-below f))) (λ q. omega (arith, family-below f))

-- the families 0 to 2 answer as names are looked up
named-from : (f : Family) (w : Name) (e ds : List Declaration) → first_named (family_code f) w (entries_from e ds) ≡ found_named (first_from e ds f w)
unfolding entries_from first_named first_from
named-from f w e [] = refl
named-from f w e (class v ps ∷ ds) = by-class f w e v ps ds ∙ named-from f w (e ++ (class v ps ∷ [])) ds
named-from f w e (plain s v ∷ ds) =
    by-plain f w e s v ds ∙ by _ (first_from (e ++ (plain s v ∷ [])) ds f w) (named-from f w (e ++ (plain s v ∷ [])) ds) (same_family f (family_of s) && same w v)
  where
    by : (found : Option Symbol) (later : maybe.Option Named) → found ≡ found_named later → (p : Bool)
        → cond p (found_at (sort_code s) (count s e)) found ≡ found_named (cond p (some (record { sort = s; number = count s e })) later)
    by found later ih true = refl
    by found later ih false = ih

pub find-named : (ds : List Declaration) (f : Family) (w : Name) → first_named (family_code f) w (entries ds) ≡ found_named (first_from [] ds f w)
unfolding entries
find-named ds f w = named-from f w [] ds

-- something is found exactly where the family has the name
reference-found-from : (f : Family) (w : Name) (e ds : List Declaration) → is_some (first_named (family_code f) w (entries_from e ds)) ≡ is_in w (family_names f ds)
unfolding entries_from first_named family_names gather is_in any
reference-found-from f w e [] = refl
reference-found-from f w e (class v ps ∷ ds) = ap is_some (by-class f w e v ps ds) ∙ reference-found-from f w (e ++ (class v ps ∷ [])) ds
reference-found-from f w e (plain s v ∷ ds) =
    ap is_some (by-plain f w e s v ds) ∙ by (reference-found-from f w (e ++ (plain s v ∷ [])) ds) (same_family f (family_of s)) (same w v) refl
  where
    by : is_some (first_named (family_code f) w (entries_from (e ++ (plain s v ∷ [])) ds)) ≡ any (same w) (gather (of_family f) ds)
        → (p q : Bool) → same w v ≡ q
        → is_some (cond (p && q) (found_at (sort_code s) (count s e)) (first_named (family_code f) w (entries_from (e ++ (plain s v ∷ [])) ds)))
        ≡ any (same w) (keep (cond p (some v) none) (gather (of_family f) ds))
    by ih false q h = ih
    by ih true true h = rw h
    by ih true false h = rw h ih

pub reference-found : (ds : List Declaration) (f : Family) (w : Name) → is_some (first_named (family_code f) w (entries ds)) ≡ is_in w (family_names f ds)
unfolding entries
reference-found ds f w = reference-found-from f w [] ds
