-- How long body 1 is: four bytes and the name for each entry; at most 2,016 entries of good names, so at most 137,088 bytes. Assumes nothing.
use Prim.Native.Nat.{ℕ, suc, ◌+◌, ◌*◌, ◌≤◌}
use native.Mathlib.Omega.{arith}
use mathlib.Core.Path.{◌≡◌, refl, ap}
use mathlib.Core.Bool.{true, not, ◌&&◌}
use mathlib.Core.List.{List, [], ◌∷◌, ◌++◌}
use lib.Dec.{leb, ltb}
use lib.ListN.{length, length-append}
use borrow.Author.Tests.{leb-true}
use Rattle.bitset.specs.Relations.{joined}
use Rattle.lexer.specs.Class.{max_name, parts, has_good_parts}
use Rattle.policy.specs.Basics.{Name, each, gather, le, All}
use Rattle.policy.specs.Statements.{users, roles, types, Sort, thing_of, attribute_of, Declaration, plain, class, count, names_of, class_names}
use Rattle.policy.specs.Encode.{NameEntry, permission_entries, entries_from, entries, entry_bytes}
use Rattle.policy.specs.Words.{is_reserved}
use Rattle.policy.specs.Maxima.{max_parts}
use Rattle.policy.specs.Sound.{is_good, good_from}
use Rattle.policy.proofs.Lists.{both_true}
use Rattle.table_laws.specs.SoundTable.{names_length}
use Rattle.policy.proofs.Counts.{few-of, few-classes}
use Rattle.policy.proofs.Good.{good-first, good-rest}
use Rattle.table_laws.proofs.NamesFit.{GoodEntry, entries_fit}

-- body 1 by its names
pub names-length : (es : List NameEntry) → length (joined (each entry_bytes es)) ≡ names_length es
unfolding joined each le names_length
names-length [] = refl
names-length (e ∷ es) = omega (arith, length-append e.name (joined (each entry_bytes es)), names-length es)

-- "at most 64 bytes"
pub name-short : (w : Name) → is_good w ≡ true → length w ≤ 64
name-short w h =
    let a = both_true (has_good_parts w && leb (length w) max_name && leb (length (parts w)) max_parts) (not (is_reserved w)) h in
    let b = both_true (has_good_parts w && leb (length w) max_name) (leb (length (parts w)) max_parts) a.0 in
    leb-true (length w) max_name (both_true (has_good_parts w) (leb (length w) max_name) b.0).1

names-short : (es : List NameEntry) → All GoodEntry es → names_length es ≤ 68 * length es
unfolding names_length
names-short [] h = omega arith
names-short (e ∷ es) h = omega (arith, name-short e.name h.0.name, names-short es h.1)

-- how many things and attributes there are
things : List Declaration → ℕ
things ds =
    count (thing_of users) ds + count (thing_of roles) ds + count (thing_of types) ds
    + count (attribute_of users) ds + count (attribute_of roles) ds + count (attribute_of types) ds

more-things : (s : Sort) (w : Name) (ds : List Declaration) → things (plain s w ∷ ds) ≡ suc (things ds)
unfolding things count names_of gather
more-things (thing_of users) w ds = omega arith
more-things (thing_of roles) w ds = omega arith
more-things (thing_of types) w ds = omega arith
more-things (attribute_of users) w ds = omega arith
more-things (attribute_of roles) w ds = omega arith
more-things (attribute_of types) w ds = omega arith

same-things : (w : Name) (ps : List Name) (ds : List Declaration) → things (class w ps ∷ ds) ≡ things ds
unfolding things count names_of gather
same-things w ps ds = refl

pub permissions-length : (n : ℕ) (ps : List Name) → length (permission_entries n ps) ≡ length ps
unfolding permission_entries
permissions-length n [] = refl
permissions-length n (p ∷ ps) = ap suc (permissions-length (n + 1) ps)

-- an entry for each thing, and at most 33 for each class
entries-few : (e ds : List Declaration) → good_from e ds ≡ true → length (entries_from e ds) ≤ things ds + 33 * length (class_names ds)
unfolding entries_from class_names gather
entries-few e [] h = omega arith
entries-few e (plain s w ∷ ds) h = omega (arith, entries-few (e ++ (plain s w ∷ [])) ds (good-rest e (plain s w) ds h), more-things s w ds)
entries-few e (class w ps ∷ ds) h =
    omega (
      arith,
      entries-few (e ++ (class w ps ∷ [])) ds (good-rest e (class w ps) ds h),
      same-things w ps ds,
      length-append (permission_entries (length (class_names e) * 32) ps) (entries_from (e ++ (class w ps ∷ [])) ds),
      permissions-length (length (class_names e) * 32) ps,
      leb-true (length ps) 32 (both_true (ltb (length (class_names e)) 32) (leb (length ps) 32) (good-first e (class w ps) ds h).room).1,
    )

-- "Users 128, roles 128, types 512, attributes 64 per family"
pub entries-room : (ds : List Declaration) → good_from [] ds ≡ true → length (entries ds) ≤ 960 + 33 * length (class_names ds)
unfolding entries things
entries-room ds h = omega (
  arith,
  entries-few [] ds h,
  few-of (thing_of users) ds h,
  few-of (thing_of roles) ds h,
  few-of (thing_of types) ds h,
  few-of (attribute_of users) ds h,
  few-of (attribute_of roles) ds h,
  few-of (attribute_of types) ds h,
)

pub names-room : (ds : List Declaration) → good_from [] ds ≡ true → names_length (entries ds) ≤ 137088
unfolding entries
names-room ds h = omega (arith, names-short (entries_from [] ds) (entries_fit [] ds h), entries-room ds h, few-classes ds h)
