-- How long each body of the table of an accepted policy is: so many entries of one width. From these the sizes are few, the starts are
-- those of the bodies, and the end is the table's length. Assumes nothing.
use Prim.Native.Nat.{◌+◌, ◌*◌, ◌≤◌}
use native.Mathlib.Omega.{arith}
use mathlib.Core.Path.{◌≡◌, ap₂, ◌∙◌}
use mathlib.Core.List.{◌++◌}
use lib.ListN.{length, length-append}
use Rattle.bitset.specs.Relations.{joined}
use Rattle.policy.specs.Basics.{each}
use Rattle.policy.specs.Statements.{Family, users, roles, types, thing_of, attribute_of, Policy, declarations, transitions, constrains, constrain_body, relabels, relabel_body}
use Rattle.policy.specs.Meaning.{count_in, final}
use Rattle.policy.specs.Reading.{row_count}
use Rattle.policy.specs.Accepted.{Accepted}
use Rattle.policy.specs.Image.{image_of, sets_of, constraint_entry, transition_entry, relabel_entry}
use Rattle.policy.specs.Encode.{entries, transition_bytes, constraint_bytes, constraint_records, row_bytes, relabel_record, relabel_bytes, bodies, encode}
use Rattle.policy.specs.Encode.{first_body, newest}
use Rattle.policy.proofs.Lists.{each-length}
use Rattle.policy.proofs.Counts.{few-of}
use Rattle.table_laws.specs.SoundTable.{all_rows, relabel_rows, table_length}
use Rattle.table_laws.proofs.NamesRoom.{names-length}
use Rattle.table_laws.proofs.Pieces.{wide-length}
use Rattle.table_laws.proofs.Records.{constraint-wide, row-wide, relabel-wide}
use Rattle.table_laws.proofs.Editions.{fits-ten}
use Rattle.table_laws.proofs.Lengths.{constraint-records-length}
use Rattle.table_laws.proofs.ImageReadBack.{Laid, every-wide, transitions-wide, sets-length}
use Rattle.table_laws.proofs.WellFormedLaid.{well-formed-laid, table-short, length-encode}
use Rattle.image_laws.proofs.ImageWellFormed.{image-well-formed}
use Rattle.image_laws.proofs.RowCounts.{rows-in-all, relabel-rows-in-all}
use Rattle.table_writer.specs.declared.Sizes.{Sizes}
use Rattle.table_writer.specs.declared.Starts.{Starts}
use Rattle.table_writer.specs.TableSizes.{body, attributes_in, SizesOf, Few, Spaced, StartsOf}

module _ (p : Policy) (ok : Accepted p) where
  laid : Laid (image_of p)
  laid = well-formed-laid (image_of p) (image-well-formed p ok)

  pub user-roles-long : length (body 1 p) ≡ 16 * count_in p users
  unfolding bodies image_of count_in
  user-roles-long = sets-length _ 16 _ laid.user_roles

  pub role-types-long : length (body 2 p) ≡ 64 * count_in p roles
  unfolding bodies image_of count_in
  role-types-long = sets-length _ 64 _ laid.role_types

  pub role-roles-long : length (body 3 p) ≡ 16 * count_in p roles
  unfolding bodies image_of count_in
  role-roles-long = sets-length _ 16 _ laid.role_roles

  pub transitions-long : length (body 4 p) ≡ 82 * length (transitions p)
  unfolding bodies image_of
  transitions-long =
      let es = each (transition_entry p) (transitions p) in
      let a = wide-length 82 (each transition_bytes es) (transitions-wide es laid.transitions) in
      let b = each-length transition_bytes es in
      let d = each-length (transition_entry p) (transitions p) in
      omega (arith, a, b, d)

  pub constraints-long : length (body 5 p) ≡ 10 * length (constrains p)
  unfolding bodies image_of
  constraints-long =
      let cs = each constraint_entry (constrains p) in
      let a = wide-length 10 (each constraint_bytes (constraint_records 0 cs)) (every-wide 10 constraint_bytes constraint-wide (constraint_records 0 cs)) in
      let b = each-length constraint_bytes (constraint_records 0 cs) in
      let d = constraint-records-length 0 cs in
      let e = each-length constraint_entry (constrains p) in
      omega (arith, a, b, d, e)

  pub rows_long : length (body 6 p) ≡ 6 * row_count constrain_body (constrains p)
  unfolding bodies image_of
  rows_long =
      let rs = all_rows (image_of p) in
      let a = wide-length 6 (each row_bytes rs) (every-wide 6 row_bytes row-wide rs) in
      let b = each-length row_bytes rs in
      let d = rows-in-all (constrains p) in
      omega (arith, a, b, d)

  pub relabels-long : length (body 8 p) ≡ 4 * length (relabels p)
  unfolding bodies image_of
  relabels-long =
      let es = each relabel_entry (relabels p) in
      let hs = each relabel_record es in
      let a = wide-length 4 (each relabel_bytes hs) (every-wide 4 relabel_bytes relabel-wide hs) in
      let b = each-length relabel_bytes hs in
      let d = each-length relabel_record es in
      let e = each-length relabel_entry (relabels p) in
      omega (arith, a, b, d, e)

  pub relabel-rows-long : length (body 9 p) ≡ 6 * row_count relabel_body (relabels p)
  unfolding bodies image_of
  relabel-rows-long =
      let rs = relabel_rows (image_of p) in
      let a = wide-length 6 (each row_bytes rs) (every-wide 6 row_bytes row-wide rs) in
      let b = each-length row_bytes rs in
      let d = relabel-rows-in-all (relabels p) in
      omega (arith, a, b, d)

  pub user-sets-long : length (joined (sets_of (attributes_in p users) users (final p users))) ≡ 16 * attributes_in p users
  unfolding image_of
  user-sets-long = sets-length _ 16 _ laid.user_sets

  pub role-sets-long : length (joined (sets_of (attributes_in p roles) roles (final p roles))) ≡ 16 * attributes_in p roles
  unfolding image_of
  role-sets-long = sets-length _ 16 _ laid.role_sets

  pub type-sets-long : length (joined (sets_of (attributes_in p types) types (final p types))) ≡ 64 * attributes_in p types
  unfolding image_of
  type-sets-long = sets-length _ 64 _ laid.type_sets

  pub sets-long : length (body 7 p) ≡ 16 * attributes_in p users + (16 * attributes_in p roles + 64 * attributes_in p types)
  unfolding bodies image_of
  sets-long =
      length-append (joined (image_of p).user_sets) (joined (image_of p).role_sets ++ joined (image_of p).type_sets)
      ∙ ap₂ ◌+◌ user-sets-long (length-append (joined (image_of p).role_sets) (joined (image_of p).type_sets) ∙ ap₂ ◌+◌ role-sets-long type-sets-long)

  -- "Users 128, roles 128", "attributes 64 per family"
  pub few-users : count_in p users ≤ 128
  unfolding count_in
  few-users = few-of (thing_of users) (declarations p) ok.names

  pub few-roles : count_in p roles ≤ 128
  unfolding count_in
  few-roles = few-of (thing_of roles) (declarations p) ok.names

  pub few-attributes : (f : Family) → attributes_in p f ≤ 64
  few-attributes f = few-of (attribute_of f) (declarations p) ok.names

  -- sizes of a table
  module _ (s : Sizes) (sizes : SizesOf p s) where
    total : length (encode newest (image_of p))
        ≡ first_body newest + s.names + 16 * s.users + 64 * s.roles + 16 * s.roles + 82 * s.transitions + 10 * s.constraints + 6 * s.rows
        + 16 * s.user_attributes + 16 * s.role_attributes + 64 * s.type_attributes + 4 * s.relabels + 6 * s.relabel_rows
    unfolding table_length image_of count_in bodies
    total = omega (
      arith,
      length-encode (image_of p) (image-well-formed p ok) newest (omega arith) (fits-ten newest (image_of p) (omega arith)),
      names-length (entries (declarations p)),
      laid.user_roles.many,
      laid.role_types.many,
      laid.role_roles.many,
      each-length (transition_entry p) (transitions p),
      each-length constraint_entry (constrains p),
      rows-in-all (constrains p),
      each-length relabel_entry (relabels p),
      relabel-rows-in-all (relabels p),
      laid.user_sets.many,
      laid.role_sets.many,
      laid.type_sets.many,
      sizes.names,
      sizes.users,
      sizes.roles,
      sizes.transitions,
      sizes.constraints,
      sizes.rows,
      sizes.user-attributes,
      sizes.role-attributes,
      sizes.type-attributes,
      sizes.relabels,
      sizes.relabel-rows,
    )

    -- no table is longer than 186,068 bytes
    pub short : length (encode newest (image_of p)) ≤ 186068
    short = omega (
      arith,
      length-encode (image_of p) (image-well-formed p ok) newest (omega arith) (fits-ten newest (image_of p) (omega arith)),
      table-short (image_of p) (image-well-formed p ok) newest (omega arith),
    )

    pub few : Few s
    few = record {
      names = omega (arith, total, short);
      users = omega (arith, total, short);
      roles = omega (arith, total, short);
      transitions = omega (arith, total, short);
      constraints = omega (arith, total, short);
      rows = omega (arith, total, short);
      user-attributes = omega (arith, total, short);
      role-attributes = omega (arith, total, short);
      type-attributes = omega (arith, total, short);
      relabels = omega (arith, total, short);
      relabel-rows = omega (arith, total, short);
    }

    -- bodies that are spaced by these sizes
    module _ (r : Starts) (spaced : Spaced s r) where
      pub ends : r.end ≡ length (encode newest (image_of p))
      ends = omega (
        arith,
        total,
        spaced.user-roles,
        spaced.role-types,
        spaced.role-roles,
        spaced.transitions,
        spaced.constraints,
        spaced.rows,
        spaced.user-sets,
        spaced.role-sets,
        spaced.type-sets,
        spaced.relabels,
        spaced.relabel-rows,
        spaced.end,
      )

      pub starts-of : StartsOf p r
      starts-of = record {
        user-roles = omega (arith, spaced.user-roles, sizes.names);
        role-types = omega (arith, spaced.role-types, sizes.users, user-roles-long);
        role-roles = omega (arith, spaced.role-roles, sizes.roles, role-types-long);
        transitions = omega (arith, spaced.transitions, sizes.roles, role-roles-long);
        constraints = omega (arith, spaced.constraints, sizes.transitions, transitions-long);
        rows = omega (arith, spaced.rows, sizes.constraints, constraints-long);
        user-sets = omega (arith, spaced.user-sets, sizes.rows, rows_long);
        role-sets = omega (arith, spaced.role-sets, sizes.user-attributes);
        type-sets = omega (arith, spaced.type-sets, sizes.role-attributes);
        relabels = omega (
          arith,
          spaced.role-sets,
          spaced.type-sets,
          spaced.relabels,
          sizes.user-attributes,
          sizes.role-attributes,
          sizes.type-attributes,
          sets-long,
        );
        relabel-rows = omega (arith, spaced.relabel-rows, sizes.relabels, relabels-long);
        end = omega (arith, spaced.end, sizes.relabel-rows, relabel-rows-long);
      }
