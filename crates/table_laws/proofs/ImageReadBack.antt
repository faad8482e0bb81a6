-- A table is read back: the image in `encode e i ++ rest` is i, whatever rest is, where i fits the edition e. Each body is read back by its own
-- law. Assumes nothing.
use Prim.Native.Nat.{ℕ, ◌+◌, ◌*◌, ◌^◌, ◌<◌}
use native.Mathlib.Omega.{arith}
use mathlib.Core.Path.{◌≡◌, ap, ◌∙◌}
use mathlib.Core.Bool.{true}
use mathlib.Core.List.{List, [], ◌∷◌, ◌++◌}
use mathlib.Core.Option.{some}
use lib.ListN.{length, get_or, take}
use lib.Seq.{take_at, drop_at}
use Rattle.bitset.specs.Relations.{joined}
use Rattle.policy.specs.Basics.{each, All}
use Rattle.policy.specs.Statements.{users, roles, types, thing_of, attribute_of, count}
use Rattle.policy.specs.Rows.{Row}
use Rattle.policy.specs.Image.{Image, TransitionEntry}
use Rattle.policy.specs.Encode.{entries, transition_bytes, constraint_bytes, constraint_records, row_bytes, relabel_record, relabel_bytes, bodies}
use Rattle.policy.specs.Encode.{sections_of, first_body, encode}
use Rattle.policy.specs.Sound.{exactly, transition_at, constraint_at, relabel_at, image_from, well_formed, image_in}
use Rattle.table_laws.specs.SoundTable.{FitsEdition, all_rows, relabel_rows}
use Rattle.table_laws.proofs.ListLaws.{all-each, each_back}
use Rattle.table_laws.proofs.Editions.{section-at, sections-joined}
use Rattle.table_laws.proofs.LayoutLaws.{bodies-law}
use Rattle.table_laws.proofs.Pieces.{Wide, wide-length, exactly-back, exactly-all}
use Rattle.table_laws.proofs.Records.{WideTransition, transition-back, transition-wide, SmallConstraint, constraint-back, constraint-wide}
use Rattle.table_laws.proofs.Records.{rows_back, row-wide}
use Rattle.table_laws.proofs.Records.{SmallRelabel, relabel-back, relabel-wide}
use Rattle.table_laws.proofs.NamesReadBack.{Peopled, SmallNumber, names-back}
use Rattle.table_laws.proofs.Constraints.{assign-back, relabels-back}

-- so many sets of one width
pub record Sets (n w : ℕ) (ss : List (List ℕ)) : Type 0 where
  pub many : length ss ≡ n
  pub wide : Wide w ss

-- an image whose entries fit their bytes
pub record Laid (i : Image) : Type 0 where
  pub peopled : All Peopled i.names
  pub numbers : All SmallNumber (entries i.names)
  pub user_roles : Sets (count (thing_of users) i.names) 16 i.user_roles
  pub role_types : Sets (count (thing_of roles) i.names) 64 i.role_types
  pub role_roles : Sets (count (thing_of roles) i.names) 16 i.role_roles
  pub transitions : All WideTransition i.transitions
  pub constraints : All SmallConstraint (constraint_records 0 i.constraints)
  pub rows : All (λ (r : Row). r.num < 65536) (all_rows i)
  pub user_sets : Sets (count (attribute_of users) i.names) 16 i.user_sets
  pub role_sets : Sets (count (attribute_of roles) i.names) 16 i.role_sets
  pub type_sets : Sets (count (attribute_of types) i.names) 64 i.type_sets
  pub relabels : All SmallRelabel (each relabel_record i.relabels)
  pub relabel-rows : All (λ (r : Row). r.num < 65536) (relabel_rows i)

-- the widths of what is written
pub every-wide : {A : Type 0} (w : ℕ) (f : A → List ℕ) → ((x : A) → length (f x) ≡ w) → (xs : List A) → Wide w (each f xs)
unfolding each
every-wide w f e [] = tt
every-wide w f e (x ∷ xs) = (e x, every-wide w f e xs)

pub transitions-wide : (ms : List TransitionEntry) → All WideTransition ms → Wide 82 (each transition_bytes ms)
transitions-wide ms h = all-each WideTransition (λ (s : List ℕ). length s ≡ 82) transition_bytes transition-wide ms h

-- the length of sets that are in a row
pub sets-length : (n w : ℕ) (ss : List (List ℕ)) → Sets n w ss → length (joined ss) ≡ w * n
sets-length n w ss s = wide-length w ss s.wide ∙ ap (λ (k : ℕ). k * w) s.many ∙ turned n w
  where
    turned : (n w : ℕ) → n * w ≡ w * n
    turned n w = omega arith

sets-back : (n w : ℕ) (ss : List (List ℕ)) → Sets n w ss → exactly n w (joined ss) ≡ some ss
sets-back n w ss s = exactly-back n w ss s.many s.wide

-- the ten bodies are read back
from_back : (i : Image) → Laid i → image_from (bodies i) ≡ some i
unfolding bodies
from_back i ok =
    let ds = i.names in
    let us = joined i.user_sets in
    let rs = joined i.role_sets in
    let ts = joined i.type_sets in
    let long-us = sets-length (count (attribute_of users) ds) 16 i.user_sets ok.user_sets in
    let long-rs = sets-length (count (attribute_of roles) ds) 16 i.role_sets ok.role_sets in
    rw (
      names-back ds ok.peopled ok.numbers,
      sets-back (count (thing_of users) ds) 16 i.user_roles ok.user_roles,
      sets-back (count (thing_of roles) ds) 64 i.role_types ok.role_types,
      sets-back (count (thing_of roles) ds) 16 i.role_roles ok.role_roles,
      exactly-all 82 (λ k. omega arith) (each transition_bytes i.transitions) (transitions-wide i.transitions ok.transitions),
      exactly-all 10 (λ k. omega arith) (each constraint_bytes (constraint_records 0 i.constraints))
          (every-wide 10 constraint_bytes constraint-wide (constraint_records 0 i.constraints)),
      exactly-all 6 (λ k. omega arith) (each row_bytes (all_rows i)) (every-wide 6 row_bytes row-wide (all_rows i)),
      rows_back (all_rows i) ok.rows,
      each_back SmallConstraint constraint_bytes constraint_at constraint-back (constraint_records 0 i.constraints) ok.constraints,
      assign-back 0 i.constraints,
      take_at us (rs ++ ts) (16 * count (attribute_of users) ds) long-us,
      drop_at us (rs ++ ts) (16 * count (attribute_of users) ds) long-us,
      take_at rs ts (16 * count (attribute_of roles) ds) long-rs,
      drop_at rs ts (16 * count (attribute_of roles) ds) long-rs,
      sets-back (count (attribute_of users) ds) 16 i.user_sets ok.user_sets,
      sets-back (count (attribute_of roles) ds) 16 i.role_sets ok.role_sets,
      sets-back (count (attribute_of types) ds) 64 i.type_sets ok.type_sets,
      each_back WideTransition transition_bytes transition_at transition-back i.transitions ok.transitions,
      exactly-all 4 (λ k. omega arith) (each relabel_bytes (each relabel_record i.relabels)) (every-wide 4 relabel_bytes relabel-wide (each relabel_record i.relabels)),
      exactly-all 6 (λ k. omega arith) (each row_bytes (relabel_rows i)) (every-wide 6 row_bytes row-wide (relabel_rows i)),
      rows_back (relabel_rows i) ok.relabel-rows,
      each_back SmallRelabel relabel_bytes relabel_at relabel-back (each relabel_record i.relabels) ok.relabels,
      relabels-back i.relabels,
    )

-- bodies that have the same at each place have the same image
from-same : (bs cs : List (List ℕ)) → ((k : ℕ) → get_or bs k [] ≡ get_or cs k []) → image_from bs ≡ image_from cs
from-same bs cs h = rw (h 0, h 1, h 2, h 3, h 4, h 5, h 6, h 7, h 8, h 9)

pub image-back : (e : ℕ) (i : Image) → 0 < sections_of e → FitsEdition e i → Laid i → first_body e + length (joined (bodies i)) < 256 ^ 4 → well_formed i ≡ true → (rest : List ℕ)
    → image_in (encode e i ++ rest) ≡ some i
unfolding image_in
image-back e i known fits ok room good rest =
    let bs = take (sections_of e) (bodies i) in
    rw (
      bodies-law e i rest known (rw (sections-joined e i fits) room),
      from-same bs (bodies i) (section-at e i fits),
      from_back i ok,
      good,
    )
