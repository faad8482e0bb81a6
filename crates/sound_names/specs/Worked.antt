-- The definitions on bodies written out by hand: what is named, and each way not to be sound. Assumes nothing.
use Rattle.std.specs.Prelude.{◌≡◌, refl, List, [], ◌∷◌, ◌++◌, ℕ, ◌+◌, ◌/◌, ◌%◌, length, replicate, Option, Some}
use Rattle.std.proofs.Math.Option.{none}
use Prim.Native.String.{String}
use Rattle.bitset.specs.Relations.{joined}
use Rattle.bitset.specs.Sets.{tabulate}
use Rattle.lexer.specs.Spell.{bytes}
use Rattle.policy.specs.Computing.{computing}
use Rattle.policy.specs.declared.NameCounts.{NameCounts}
use Rattle.sound_names.specs.SoundNames.{sound_names, counted_of, permissions_after}

-- an entry's bytes
abbrev named : ℕ → ℕ → String → List ℕ
named sort number word = sort ∷ (number % 256) ∷ (number / 256) ∷ length (bytes word) ∷ bytes word

-- role n: the eight binary digits of n, written with `a` for 0 and `b` for 1
abbrev digit : ℕ → ℕ
digit k = 97 + k % 2

abbrev role : ℕ → List ℕ
role n = 1 ∷ n ∷ 0 ∷ 8 ∷ digit (n / 128) ∷ digit (n / 64) ∷ digit (n / 32) ∷ digit (n / 16) ∷ digit (n / 8) ∷ digit (n / 4) ∷ digit (n / 2) ∷ digit n ∷ []

-- so many of them
abbrev many : ℕ → List ℕ
many n = joined (tabulate n role)

-- the body of the printed roll
abbrev roll : List ℕ
roll = named 0 0 "u" ++ (named 1 0 "a" ++ (named 1 1 "b" ++ named 2 0 "t"))

-- two classes with permissions; equal names in different families and in different classes
abbrev classes : List ℕ
classes = named 6 0 "a" ++ (named 7 0 "a" ++ (named 7 1 "b" ++ (named 0 0 "a" ++ (named 6 1 "b" ++ (named 7 32 "a" ++ named 3 0 "c")))))

-- users, roles, types, their attributes, and classes
abbrev sound : ℕ → ℕ → ℕ → ℕ → ℕ → ℕ → ℕ → Option NameCounts
sound us rs ts ua ra ta cs = Some
    record { users = us; roles = rs; types = ts; user_attributes = ua; role_attributes = ra; type_attributes = ta; classes = cs }

pub record Worked : Type 0 where
  pub empty : counted_of (sound_names []) ≡ sound 0 0 0 0 0 0 0
  pub of-roll : counted_of (sound_names roll) ≡ sound 1 2 1 0 0 0 0
  pub of-classes : counted_of (sound_names classes) ≡ sound 1 0 0 1 0 0 2
  pub permissions-of : (before : List ℕ) → permissions_after (sound_names classes) before ≡ 2 ∷ 1 ∷ replicate 30 0
  -- "numbers in each sort rise from 0"; "unique in their families", things with attributes; "not reserved"; "good"
  pub gap : sound_names (named 1 0 "a" ++ named 1 2 "b") ≡ none
  pub again : sound_names (named 1 0 "a" ++ named 4 0 "a") ≡ none
  pub reserved : sound_names (named 1 0 "h2") ≡ none
  pub bad : sound_names (named 1 0 "1a") ≡ none
  -- W-203: "the full dotted name without leading dot, at most 64 bytes and nine parts, a permission's one"; "A name with a reserved part counts as reserved"
  pub dotted : counted_of (sound_names (named 1 0 "b.a" ++ named 1 1 "a")) ≡ sound 0 2 0 0 0 0 0
  pub leading-dot : sound_names (named 1 0 ".a") ≡ none
  pub nine-parts : counted_of (sound_names (named 1 0 "b.b.b.b.b.b.b.b.a")) ≡ sound 0 1 0 0 0 0 0
  pub ten-parts : sound_names (named 1 0 "b.b.b.b.b.b.b.b.b.a") ≡ none
  pub reserved-part : sound_names (named 1 0 "b.all") ≡ none
  pub dotted-class : counted_of (sound_names (named 6 0 "b.c" ++ named 7 0 "p")) ≡ sound 0 0 0 0 0 0 1
  pub dotted-permission : sound_names (named 6 0 "b.c" ++ named 7 0 "b.p") ≡ none
  -- "each class is followed by at least one permission and its permissions differ", "permissions directly after their class"
  pub alone : sound_names (named 6 0 "c") ≡ none
  pub alone-before : sound_names (named 6 0 "c" ++ named 0 0 "u") ≡ none
  pub twice : sound_names (named 6 0 "c" ++ (named 7 0 "p" ++ named 7 1 "p")) ≡ none
  pub late : sound_names (named 6 0 "c" ++ (named 7 0 "p" ++ (named 0 0 "u" ++ named 7 1 "q"))) ≡ none
  -- "used up exactly": a byte after it; a name that is cut
  pub stray : sound_names (roll ++ (0 ∷ [])) ≡ none
  pub cut : sound_names (0 ∷ 0 ∷ 0 ∷ 2 ∷ 97 ∷ []) ≡ none
  -- "roles 128"
  pub most-roles : counted_of (sound_names (many 128)) ≡ sound 0 128 0 0 0 0 0
  pub one_more : sound_names (many 129) ≡ none

pub worked : Worked
unfolding computing sound_names
worked = record {
  empty = refl;
  of-roll = refl;
  of-classes = refl;
  permissions-of = λ before. refl;
  gap = refl;
  again = refl;
  reserved = refl;
  bad = refl;
  dotted = refl;
  leading-dot = refl;
  nine-parts = refl;
  ten-parts = refl;
  reserved-part = refl;
  dotted-class = refl;
  dotted-permission = refl;
  alone = refl;
  alone-before = refl;
  twice = refl;
  late = refl;
  stray = refl;
  cut = refl;
  most-roles = refl;
  one_more = refl;
}
