-- Declarations that pass `good_from` keep every maximum: of each sort, and of the permissions of each class. By induction on the
-- declarations, from what is declared before; and what one declaration more adds to a count. Assumes nothing.
use Prim.Native.Nat.{ℕ, ◌≤◌, ◌<◌, suc, ◌+◌}
use native.Mathlib.Omega.{arith}
use mathlib.Core.Path.{◌≡◌, refl, sym, ap, subst, ◌∙◌}
use mathlib.Core.Bool.{Bool, true, false, cond}
use mathlib.Core.List.{List, [], ◌∷◌, ◌++◌, append_assoc, append-nil}
use mathlib.Core.Option.{none, some}
use lib.Dec.{ltb, leb}
use lib.ListN.{length, length-append}
use borrow.Author.Tests.{ltb-true, leb-true}
use Rattle.policy.specs.Basics.{Name, gather, All}
use Rattle.policy.specs.Statements.{Sort, Declaration, plain, class, same_sort, of_sort, with_permissions, of_class, names_of, class_names, count, permissions}
use Rattle.policy.specs.Maxima.{max_of, max_classes, max_permissions}
use Rattle.policy.specs.Reading.{has_room}
use Rattle.policy.specs.Sound.{good_from}
use Rattle.policy.proofs.Lists.{both_true, gather-over, gather-last}
use Rattle.policy.proofs.Good.{good-first, good-rest}
use Rattle.policy.proofs.Sameness.{sort-same}
use Rattle.policy.proofs.Gathered.{OfValue, all-gather, all_get_d}

pub count_same : (s : Sort) (e : List Declaration) (d : Declaration) → of_sort s d ≡ none → count s (e ++ (d ∷ [])) ≡ count s e
unfolding count names_of
count_same s e d h = ap length (gather-over (of_sort s) e d h)

pub count-more : (s : Sort) (e : List Declaration) (d : Declaration) (v : Name) → of_sort s d ≡ some v → count s (e ++ (d ∷ [])) ≡ count s e + 1
unfolding count names_of
count-more s e d v h = ap length (gather-last (of_sort s) e d v h) ∙ length-append (gather (of_sort s) e) (v ∷ [])

one_more : (s : Sort) (e : List Declaration) (d : Declaration) → has_room e d ≡ true → count s e ≤ max_of s → count s (e ++ (d ∷ [])) ≤ max_of s
unfolding count names_of
one_more s e (class w ps) h l = rw (gather-over (of_sort s) e (class w ps) refl) l
one_more s e (plain t w) h l = by (same_sort s t) refl
  where
    by : (b : Bool) → same_sort s t ≡ b → length (gather (of_sort s) (e ++ (plain t w ∷ []))) ≤ max_of s
    by false q = rw (gather-over (of_sort s) e (plain t w) (ap (λ (b : Bool). cond b (some w) none) q)) l
    by true q =
        let room : length (gather (of_sort s) e) < max_of s =
        subst (λ (u : Sort). length (gather (of_sort u) e) < max_of u) (sym (sort-same s t q)) (ltb-true (length (gather (of_sort t) e)) (max_of t) h) in
        rw (gather-last (of_sort s) e (plain t w) w (ap (λ (b : Bool). cond b (some w) none) q), length-append (gather (of_sort s) e) (w ∷ [])) (omega arith)

few-from : (s : Sort) (e ds : List Declaration) → good_from e ds ≡ true → count s e ≤ max_of s → count s (e ++ ds) ≤ max_of s
few-from s e [] h l = rw append-nil l
few-from s e (d ∷ ds) h l =
    subst (λ (xs : List Declaration). count s xs ≤ max_of s) (append_assoc e (d ∷ []) ds)
    (few-from s (e ++ (d ∷ [])) ds (good-rest e d ds h) (one_more s e d (good-first e d ds h).room l))

-- "Users 128, roles 128, types 512, attributes 64 per family"
pub few-of : (s : Sort) (ds : List Declaration) → good_from [] ds ≡ true → count s ds ≤ max_of s
unfolding count names_of gather
few-of s ds h = few-from s [] ds h (omega arith)

-- "permissions 32 per class"
abbrev pub FewPermissions : Declaration → Type 0
FewPermissions (plain s w) = Unit {0}
FewPermissions (class w ps) = length ps ≤ max_permissions

few-in : (e : List Declaration) (d : Declaration) → has_room e d ≡ true → FewPermissions d
few-in e (plain s w) h = tt
few-in e (class w ps) h = leb-true (length ps) max_permissions (both_true (ltb (length (class_names e)) max_classes) (leb (length ps) max_permissions) h).1

pub few-in-all : (e ds : List Declaration) → good_from e ds ≡ true → All FewPermissions ds
few-in-all e [] h = tt
few-in-all e (d ∷ ds) h = (few-in e d (good-first e d ds h).room, few-in-all (e ++ (d ∷ [])) ds (good-rest e d ds h))

pub few-permissions-of : (ds : List Declaration) → good_from [] ds ≡ true → (c : ℕ) → length (permissions ds c) ≤ max_permissions
unfolding permissions
few-permissions-of ds h c =
    all_get_d (λ (ps : List Name). length ps ≤ max_permissions) (gather with_permissions ds) c []
    (all-gather (λ (ps : List Name). length ps ≤ max_permissions) FewPermissions with_permissions kept ds (few-in-all [] ds h)) (omega arith)
  where
    kept : (d : Declaration) → FewPermissions d → OfValue (λ (ps : List Name). length ps ≤ max_permissions) (with_permissions d)
    kept (plain s w) k = tt
    kept (class w ps) k = k

-- "classes 32"
class-more : (e : List Declaration) (d : Declaration) → has_room e d ≡ true → length (class_names e) ≤ max_classes → length (class_names (e ++ (d ∷ []))) ≤ max_classes
unfolding class_names
class-more e (plain s w) h l = rw (gather-over of_class e (plain s w) refl) l
class-more e (class w ps) h l =
    let room = ltb-true (length (gather of_class e)) max_classes (both_true (ltb (length (gather of_class e)) max_classes) (leb (length ps) max_permissions) h).0 in
    rw (gather-last of_class e (class w ps) w refl, length-append (gather of_class e) (w ∷ [])) (omega arith)

few-classes-from : (e ds : List Declaration) → good_from e ds ≡ true → length (class_names e) ≤ max_classes → length (class_names (e ++ ds)) ≤ max_classes
few-classes-from e [] h l = rw append-nil l
few-classes-from e (d ∷ ds) h l =
    subst (λ (xs : List Declaration). length (class_names xs) ≤ max_classes) (append_assoc e (d ∷ []) ds)
    (few-classes-from (e ++ (d ∷ [])) ds (good-rest e d ds h) (class-more e d (good-first e d ds h).room l))

pub few-classes : (ds : List Declaration) → good_from [] ds ≡ true → length (class_names ds) ≤ max_classes
unfolding class_names gather
few-classes ds h = few-classes-from [] ds h (omega arith)

-- as many lists of permissions as classes
pub class-lists : (ds : List Declaration) → length (gather with_permissions ds) ≡ length (gather of_class ds)
unfolding gather
class-lists [] = refl
class-lists (plain s w ∷ ds) = class-lists ds
class-lists (class w ps ∷ ds) = ap suc (class-lists ds)
