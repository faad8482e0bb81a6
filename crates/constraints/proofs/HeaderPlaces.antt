-- On a sound table the functions of this crate find the statements and the rows where the header says, and answer as the image does. In a table whose
-- edition has no section 9 there is no validatetrans statement. Assumes nothing.
use Rattle.std.proofs.Common.{◌≡◌, ℕ, ◌*◌, ◌/◌, Bool, true, false, cond, eqb, ltb, List, length, refl, ap, ◌∙◌, arith, ltb-false, ltb-true}
use Rattle.bitset.specs.Relations.{joined}
use Rattle.policy.specs.Basics.{each}
use Rattle.policy.specs.Statements.{Family, users, roles, types, attribute_of, count}
use Rattle.policy.specs.Meaning.{Contexts}
use Rattle.policy.specs.Image.{Image, RelabelEntry, width}
use Rattle.policy.specs.Encode.{constraint_records, constraint_bytes, relabel_record, relabel_bytes, bodies, sections_of}
use Rattle.policy.specs.Deciding.{first_failing}
use Rattle.policy.specs.Questions.{sets_in, rows_hold, entry_names, entry_holds}
use Rattle.policy.proofs.Lists.{each-length}
use Rattle.table_laws.specs.SoundTable.{Sound}
use Rattle.table_laws.proofs.Pieces.{Wide, wide-length}
use Rattle.table_laws.proofs.Records.{constraint-wide, relabel-wide}
use Rattle.table_laws.proofs.ImageReadBack.{Laid, every-wide}
use Rattle.table_laws.proofs.WellFormed.{formed}
use Rattle.table_laws.proofs.WellFormedLaid.{well-formed-laid}
use Rattle.table_laws.proofs.SoundLaws.{sound-edition}
use Rattle.table_reader.specs.Records.{length_in}
use Rattle.table_reader.proofs.SoundPlaces.{known-section, length-of, stands_of}
use Rattle.constraints.specs.TableConstraints.{bodies_in, relabel_count, relabel_bodies_in, sides_of, constraints_in, constraint_names, constraint_holds, relabels_in, relabel_names, relabel_holds}
use Rattle.constraints.proofs.ImageAnswers.{Fits, Placed, image-constraints, PlacedRelabels, image-relabels}

module _ (t : List ℕ) (s : Sound t) where
  abbrev i : Image
  i = s.image

  laid : Laid i
  laid = well-formed-laid i s.formed

  -- a well-formed image fits
  fits : Fits i
  fits = record {
    many = many;
    wide = wide;
    constraint-records = laid.constraints;
    rows = laid.rows;
    constraints = (formed i s.formed).constraints;
    relabel-records = laid.relabels;
    relabel-rows = laid.relabel-rows;
    few-relabel-rows = (formed i s.formed).few-relabel-rows;
    relabels = (formed i s.formed).relabels;
  }
    where
      many : (f : Family) → length (sets_in i f) ≡ count (attribute_of f) i.names
      many users = laid.user_sets.many
      many roles = laid.role_sets.many
      many types = laid.type_sets.many

      wide : (f : Family) → Wide (width f) (sets_in i f)
      wide users = laid.user_sets.wide
      wide roles = laid.role_sets.wide
      wide types = laid.type_sets.wide

  -- so many constraints, and so many validatetrans statements
  many-constraints : length_in t 5 / 10 ≡ length (constraint_records 0 i.constraints)
  unfolding bodies
  many-constraints =
      let hs = constraint_records 0 i.constraints in
      let long = wide-length 10 (each constraint_bytes hs) (every-wide 10 constraint_bytes constraint-wide hs) in
      omega (arith, length-of t s 5 (known-section t s 5 (omega arith)), long, each-length constraint_bytes hs)

  many-relabels : relabel_count t ≡ length i.relabels
  unfolding bodies
  many-relabels = ap (λ (e : ℕ). cond (ltb 8 (sections_of e)) (length_in t 8 / 4) 0) (sound-edition t s) ∙ by (ltb 8 (sections_of s.edition)) refl
    where
      vs : List RelabelEntry
      vs = i.relabels

      long : length (joined (each relabel_bytes (each relabel_record vs))) ≡ length vs * 4
      long =
          wide-length 4 (each relabel_bytes (each relabel_record vs)) (every-wide 4 relabel_bytes relabel-wide (each relabel_record vs))
          ∙ ap (λ (n : ℕ). n * 4) (each-length relabel_bytes (each relabel_record vs) ∙ each-length relabel_record vs)

      by : (b : Bool) → ltb 8 (sections_of s.edition) ≡ b → cond b (length_in t 8 / 4) 0 ≡ length vs
      by true e = omega (arith, length-of t s 8 (ltb-true 8 (sections_of s.edition) e), long)
      by false e = omega (arith, ap length (s.fits 8 (ltb-false 8 (sections_of s.edition) e)), long)

  module _ (us rs : ℕ) (same-us : us ≡ length i.user_sets) (same-rs : rs ≡ length i.role_sets) where
    placed : Placed i t (bodies_in t us rs)
    unfolding bodies
    placed = record {
      sets = record { stand = stands_of t s 7; user-attributes = same-us; role-attributes = same-rs };
      count = many-constraints;
      records = stands_of t s 5;
      rows = stands_of t s 6;
    }

    placed-relabels : PlacedRelabels i t (relabel_bodies_in t us rs)
    unfolding bodies
    placed-relabels = record {
      sets = record { stand = stands_of t s 7; user-attributes = same-us; role-attributes = same-rs };
      count = many-relabels;
      records = stands_of t s 8;
      rows = stands_of t s 9;
    }

    -- the promise of `first_failing`, on a sound table
    pub constraints-answer : (on : Contexts) (class permission : ℕ)
        → first_failing 4 (constraint_names class permission) (constraint_holds t (bodies_in t us rs) (sides_of on)) 0 (constraints_in t (bodies_in t us rs))
        ≡ first_failing 4 (entry_names class permission) (entry_holds i on) 0 i.constraints
    constraints-answer = image-constraints i t (bodies_in t us rs) fits placed

    -- the promise of `first_failing_relabel`
    pub relabels-answer : (on : Contexts) (class : ℕ)
        → first_failing 6 (relabel_names class) (relabel_holds t (relabel_bodies_in t us rs) (sides_of on)) 0 (relabels_in t (relabel_bodies_in t us rs))
        ≡ first_failing 6 (λ x. eqb x.class class) (λ x. rows_hold i on x.rows) 0 i.relabels
    relabels-answer = image-relabels i t (relabel_bodies_in t us rs) fits placed-relabels
