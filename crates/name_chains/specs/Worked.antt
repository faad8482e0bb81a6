-- The definitions on names written out by hand. Assumes nothing.
use Rattle.std.specs.Prelude.{◌≡◌, refl, List, [], ◌∷◌, ℕ}
use Prim.Native.String.{String}
use Rattle.lexer.specs.Spell.{bytes}
use Rattle.policy.specs.Basics.{same}
use Rattle.policy.specs.Encode.{NameEntry, name_entry}
use Rattle.symbols.specs.Lookup.{first_named, found_at}
use Rattle.std.specs.Prelude.{None}
use Rattle.name_chains.specs.Compared.{compared_in}

abbrev named : ℕ → ℕ → String → NameEntry
named sort number word = name_entry sort number (bytes word)

-- (role a)(role bb)(role c)(roleattribute d)(user c), and two classes with permissions
abbrev roll : List NameEntry
roll = named 1 0 "a" ∷ named 1 1 "bb" ∷ named 1 2 "c" ∷ named 4 0 "d" ∷ named 0 0 "c"
    ∷ named 6 0 "file" ∷ named 7 0 "read" ∷ named 7 1 "open" ∷ named 6 1 "port" ∷ named 7 32 "bind" ∷ named 7 33 "open" ∷ []

-- a try in a family: what it finds, and how many entries it compares
pub record Worked : Type 0 where
  pub hit-found : first_named 1 (bytes "c") roll ≡ found_at 1 2
  pub hit : compared_in 1 (bytes "c") roll ≡ 2
  pub first-hit : compared_in 1 (bytes "a") roll ≡ 1
  pub attribute : compared_in 1 (bytes "d") roll ≡ 3
  pub missing-found : first_named 1 (bytes "zz") roll ≡ None
  pub missing : compared_in 1 (bytes "zz") roll ≡ 1
  pub no-such-length : compared_in 1 (bytes "zzz") roll ≡ 0
  pub other-family : compared_in 0 (bytes "c") roll ≡ 1
  pub class-hit : compared_in 3 (bytes "port") roll ≡ 2
  pub permission : compared_in 4 (bytes "open") roll ≡ 2
  pub permission-of-another-class : first_named 5 (bytes "read") roll ≡ None
  pub other-class-not-compared : compared_in 5 (bytes "open") roll ≡ 2

pub worked : Worked
unfolding first_named compared_in same
worked = record {
  hit-found = refl;
  hit = refl;
  first-hit = refl;
  attribute = refl;
  missing-found = refl;
  missing = refl;
  no-such-length = refl;
  other-family = refl;
  class-hit = refl;
  permission = refl;
  permission-of-another-class = refl;
  other-class-not-compared = refl;
}
