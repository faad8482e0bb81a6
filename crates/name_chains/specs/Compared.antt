-- W-204: which entries a try at a full name compares byte by byte, and how many. Assumes nothing.
use Rattle.std.specs.Prelude.{◌≡◌, Bool, ◌&&◌, cond, List, [], ◌∷◌, ℕ, ◌+◌, eqb, length}
use Rattle.policy.specs.Basics.{Name, same}
use Rattle.policy.specs.Encode.{NameEntry}
use Rattle.symbols.specs.Lookup.{family_number, first_named}
use Rattle.name_chains.specs.declared.Tried.{Tried}

-- an entry that can match a name of n bytes: "those of its family (for a permission, its class) and length". The permissions of each class are a family of
-- their own
abbrev pub is_candidate : ℕ → ℕ → NameEntry → Bool
is_candidate f n e = eqb (family_number e.sort e.number) f && eqb (length e.name) n

-- "Each try at a full name also tells how many entries it compared byte by byte: exactly those of its family (for a permission, its class) and length, in
-- order of declaration, up to and including the hit."
unfoldable pub compared_in : ℕ → Name → List NameEntry → ℕ
compared_in f w [] = 0
compared_in f w (e ∷ es) = cond (is_candidate f (length w) e) (cond (same w e.name) 1 (1 + compared_in f w es)) (compared_in f w es)

-- a try at the name w in the family f, among the entries es: the first of the family with the name, and how many were compared
pub record TriedIn (f : ℕ) (w : Name) (es : List NameEntry) (r : Tried) : Type 0 where
  pub finds : r.found ≡ first_named f w es
  pub counts : r.compared ≡ compared_in f w es
