-- Good names fit their bytes: each class has a permission, numbers fit two bytes, a name has at most 64 bytes, and all entries together
-- at most 2,016 * 68 bytes. By induction on the declarations. Assumes nothing.
use Prim.Native.Nat.{ℕ, ◌+◌, ◌*◌, ◌<◌, ◌≤◌}
use native.Mathlib.Omega.{arith}
use mathlib.Core.Path.{◌≡◌}
use mathlib.Core.Bool.{true, false, not, ◌&&◌, false≢true}
use mathlib.Core.List.{List, [], ◌∷◌, ◌++◌}
use lib.Dec.{leb, ltb}
use lib.ListN.{length}
use borrow.Author.Tests.{leb-true, ltb-true}
use Rattle.lexer.specs.Class.{max_name, is_part, all_parts, has_good_parts}
use Rattle.lexer.proofs.Names.{only_part}
use Rattle.policy.specs.Basics.{Name, All}
use Rattle.policy.specs.Statements.{Declaration, plain, class, count, class_names}
use Rattle.policy.specs.Words.{is_reserved}
use Rattle.policy.specs.Maxima.{max_of}
use Rattle.policy.specs.Reading.{has_room}
use Rattle.policy.specs.Encode.{NameEntry, permission_entries, entries_of, entries_from}
use Rattle.policy.specs.Sound.{is_good, is_good_part, good_permissions, good_names, good_from}
use Rattle.policy.proofs.Lists.{both_true, all_append}
use Rattle.table_laws.proofs.ListLaws.{every-all}
use Rattle.policy.proofs.Good.{good-first, good-rest}
use Rattle.policy.proofs.Sorts.{code_below, max-small}
use Rattle.table_laws.proofs.NamesReadBack.{Peopled}

-- each class has a permission
peopled-one : (d : Declaration) → good_names d ≡ true → Peopled d
peopled-one (plain s w) h = tt
peopled-one (class w []) h = absurd (false≢true (both_true (is_good w) false h).1)
peopled-one (class w (p ∷ ps)) h = tt

pub peopled : (e ds : List Declaration) → good_from e ds ≡ true → All Peopled ds
peopled e [] h = tt
peopled e (d ∷ ds) h = (peopled-one d (good-first e d ds h).names, peopled (e ++ (d ∷ [])) ds (good-rest e d ds h))

-- an entry's number fits two bytes, its sort one, and its name is good
pub record GoodEntry (e : NameEntry) : Type 0 where
  pub sort : e.sort < 8
  pub number : e.number < 65536
  pub name : is_good e.name ≡ true

-- a good part is a good name, of one part
pub part-is-good : (w : Name) → is_good_part w ≡ true → is_good w ≡ true
unfolding has_good_parts all_parts
part-is-good w h =
    let a = both_true (is_part w && leb (length w) max_name) (not (is_reserved w)) h in
    let b = both_true (is_part w) (leb (length w) max_name) a.0 in
    let one = only_part w b.0 in
    rw (one, b.0, b.1, a.1)

all-good : (ps : List Name) → good_permissions ps ≡ true → All (λ (w : Name). is_good_part w ≡ true) ps
all-good [] h = tt
all-good (p ∷ ps) h = every-all is_good_part (p ∷ ps) h

permissions-fit : (n : ℕ) (ps : List Name) → All (λ (w : Name). is_good_part w ≡ true) ps → n + length ps ≤ 65536 → All GoodEntry (permission_entries n ps)
unfolding permission_entries
permissions-fit n [] g l = tt
permissions-fit n (p ∷ ps) g l =
    (record { sort = omega arith; number = omega arith; name = part-is-good p g.0 }, permissions-fit (n + 1) ps g.1 (omega arith))

entry-fit : (e : List Declaration) (d : Declaration) → good_names d ≡ true → has_room e d ≡ true → All GoodEntry (entries_of e d)
entry-fit e (plain s w) g h =
    (record { sort = omega (arith, code_below s); number = omega (arith, ltb-true (count s e) (max_of s) h, max-small s); name = g }, tt)
entry-fit e (class w ps) g h =
    let names = both_true (is_good w) (good_permissions ps) g in
    let room = both_true (ltb (length (class_names e)) 32) (leb (length ps) 32) h in
    let classes = ltb-true (length (class_names e)) 32 room.0 in
    let perms = leb-true (length ps) 32 room.1 in
    (record { sort = omega arith; number = omega arith; name = names.0 }, permissions-fit (length (class_names e) * 32) ps (all-good ps names.1) (omega arith))

pub entries_fit : (e ds : List Declaration) → good_from e ds ≡ true → All GoodEntry (entries_from e ds)
unfolding entries_from
entries_fit e [] h = tt
entries_fit e (d ∷ ds) h =
    all_append GoodEntry (entries_of e d) (entries_from (e ++ (d ∷ [])) ds) (entry-fit e d (good-first e d ds h).names (good-first e d ds h).room)
    (entries_fit (e ++ (d ∷ [])) ds (good-rest e d ds h))
