-- Entries that may follow one another are the entries of good declarations, and those of good declarations may follow one another.
-- The first entry by entry, the second by induction on the declarations, from what is declared before. Assumes nothing.
use mathlib.Core.Path.{◌≡◌, refl, sym, ap, subst, ◌∙◌}
use mathlib.Core.Bool.{Bool, true, false, not, ◌&&◌, cond, false≢true}
use mathlib.Core.List.{List, [], ◌∷◌, ◌++◌, append-nil, append_assoc}
use mathlib.Core.Option.{Option, none, some, some-injective}
use Prim.Native.Nat.{ℕ, zero, suc, ◌+◌, ◌*◌, ◌≤◌, ◌<◌}
use native.Mathlib.Omega.{arith}
use borrow.Author.Tests.{eqb-true, eq-eqb, ltb-true, lt-ltb, leb-true, le-leb, not-true}
use lib.Dec.{eqb, ltb, leb}
use lib.ListN.{length, length-append}
use Rattle.policy.specs.Basics.{Name, every, is_in, differ, ◌>>=◌, given}
use Rattle.policy.specs.Statements.{users, roles, types, Sort, thing_of, attribute_of, Declaration, plain, class, count, class_names}
use Rattle.policy.specs.Maxima.{max_of, max_classes, max_permissions}
use Rattle.policy.specs.Encode.{NameEntry, name_entry, sort_code, permission_entries, entries_of, entries_from, entries}
use Rattle.policy.specs.Sound.{is_good, is_good_part, good_from}
use Rattle.policy.proofs.Lists.{both_true, true-both, every_append}
use Rattle.policy.proofs.Good.{good-first, good-rest, good_more}
use Rattle.symbols.proofs.DeclaredEntries.{entries-more, permission-more}
use Rattle.policy.proofs.Differing.{differ-more, differ_new}
use Rattle.policy.proofs.Options.{if_some}
use Rattle.sound_names.specs.EntryOrder.{Kind, of_thing, of_class, of_permission, of_nothing, kind_of, is_placed, is_good_for, is_unused, may_follow}
use Rattle.sound_names.specs.EntryOrder.{Declaring, complete, opened, declared, closes, extended, declaring, finished, declares}

-- ---- kinds

abbrev pub KindIs : ℕ → Kind → Type 0
KindIs n (of_thing s) = n ≡ sort_code s
KindIs n of_class = n ≡ 6
KindIs n of_permission = n ≡ 7
KindIs n of_nothing = 7 < n

pub kind-is : (n : ℕ) → KindIs n (kind_of n)
kind-is zero = refl
kind-is (suc zero) = refl
kind-is (suc (suc zero)) = refl
kind-is (suc (suc (suc zero))) = refl
kind-is (suc (suc (suc (suc zero)))) = refl
kind-is (suc (suc (suc (suc (suc zero))))) = refl
kind-is (suc (suc (suc (suc (suc (suc zero)))))) = refl
kind-is (suc (suc (suc (suc (suc (suc (suc zero))))))) = refl
kind-is (suc (suc (suc (suc (suc (suc (suc (suc n)))))))) = omega arith

pub kind-of-code : (s : Sort) → kind_of (sort_code s) ≡ of_thing s
kind-of-code (thing_of users) = refl
kind-of-code (thing_of roles) = refl
kind-of-code (thing_of types) = refl
kind-of-code (attribute_of users) = refl
kind-of-code (attribute_of roles) = refl
kind-of-code (attribute_of types) = refl

-- ---- declarations that are good so far

-- a class with the permissions that it has so far
pub record GoodClass (ds : List Declaration) (v : Name) (ps : List Name) : Type 0 where
  pub good : is_good v ≡ true
  pub new : not (is_in v (class_names ds)) ≡ true
  pub room : ltb (length (class_names ds)) max_classes ≡ true
  pub all-good : every is_good_part ps ≡ true
  pub apart : differ ps ≡ true
  pub few : length ps ≤ 32

abbrev pub GoodSoFar : Declaring → Type 0
GoodSoFar (complete ds) = good_from [] ds ≡ true
GoodSoFar (opened ds v ps) = (good_from [] ds ≡ true) × GoodClass ds v ps

pub closed-good : (d : Declaring) → GoodSoFar d → closes d ≡ true → good_from [] (declared d) ≡ true
closed-good (complete ds) g h = g
closed-good (opened ds v []) g h = absurd (false≢true h)
closed-good (opened ds v (p ∷ ps)) g h =
    good_more ds (class v (p ∷ ps)) g.0
    (record {
      names = true-both (is_good v) (every is_good_part (p ∷ ps)) g.1.good g.1.all-good;
      new = true-both (not (is_in v (class_names ds))) (differ (p ∷ ps)) g.1.new g.1.apart;
      room = true-both (ltb (length (class_names ds)) max_classes) (leb (length (p ∷ ps)) max_permissions) g.1.room (le-leb (length (p ∷ ps)) 32 g.1.few);
    })

-- the entries so far are those of good declarations
pub record SoFar (es : List NameEntry) (d : Declaring) : Type 0 where
  pub are : es ≡ entries (declared d)
  pub good : GoodSoFar d

-- ---- an entry that may follow

-- the parts of the test
pub record Follows (k : Kind) (d : Declaring) (n : ℕ) (w : Name) : Type 0 where
  pub placed : is_placed k d n ≡ true
  pub good : is_good_for k w ≡ true
  pub unused : is_unused k d w ≡ true

follows : (k : Kind) (d : Declaring) (n : ℕ) (w : Name) → (is_placed k d n && (is_good_for k w && is_unused k d w)) ≡ true → Follows k d n w
follows k d n w h =
    let p = both_true (is_placed k d n) (is_good_for k w && is_unused k d w) h in
    let q = both_true (is_good_for k w) (is_unused k d w) p.1 in
    record { placed = p.0; good = q.0; unused = q.1 }

-- a thing's or a class's number is the next one
pub rises : (c : Bool) (n m max : ℕ) → (c && (eqb n m && ltb n max)) ≡ true → (c ≡ true) × (n ≡ m) × (ltb m max ≡ true)
rises c n m max h =
    let p = both_true c (eqb n m && ltb n max) h in
    let q = both_true (eqb n m) (ltb n max) p.1 in
    (p.0, eqb-true n m q.0, subst (λ (x : ℕ). ltb x max ≡ true) (eqb-true n m q.0) q.1)

module _ (es : List NameEntry) (n : ℕ) (w : Name) where
  thing-follows : (s : Sort) (d : Declaring) → SoFar es d → Follows (of_thing s) d n w
      → SoFar (es ++ (name_entry (sort_code s) n w ∷ [])) (complete (declared d ++ (plain s w ∷ [])))
  thing-follows s d f p =
      let r = rises (closes d) n (count s (declared d)) (max_of s) p.placed in
      record {
        are = rw (f.are, r.1) (sym (entries-more (declared d) (plain s w)));
        good = good_more (declared d) (plain s w) (closed-good d f.good r.0) (record { names = p.good; new = p.unused; room = r.2 });
      }

  class-follows : (d : Declaring) → SoFar es d → Follows of_class d n w → SoFar (es ++ (name_entry 6 n w ∷ [])) (opened (declared d) w [])
  unfolding permission_entries every differ
  class-follows d f p =
      let r = rises (closes d) n (length (class_names (declared d))) max_classes p.placed in
      record {
        are = rw (f.are, r.1) (sym (entries-more (declared d) (class w [])));
        good = (closed-good d f.good r.0, record { good = p.good; new = p.unused; room = r.2; all-good = refl; apart = refl; few = omega arith });
      }

  permission-follows : (ds : List Declaration) (v : Name) (ps : List Name) → SoFar es (opened ds v ps) → Follows of_permission (opened ds v ps) n w
      → SoFar (es ++ (name_entry 7 n w ∷ [])) (opened ds v (ps ++ (w ∷ [])))
  unfolding every
  permission-follows ds v ps f p =
      let r = both_true (ltb (length ps) 32) (eqb n (length (class_names ds) * 32 + length ps)) p.placed in
      let g = f.good.1 in
      let here : n ≡ length (class_names ds) * 32 + length ps = eqb-true n (length (class_names ds) * 32 + length ps) r.1 in
      record {
        are =
            rw (f.are, here)
            (ap (λ (x : List NameEntry). x ++ (name_entry 7 (length (class_names ds) * 32 + length ps) w ∷ [])) (entries-more ds (class v ps))
            ∙ append_assoc (entries ds) (entries_of ds (class v ps)) (name_entry 7 (length (class_names ds) * 32 + length ps) w ∷ [])
            ∙ ap (λ (x : List NameEntry). entries ds ++ (name_entry 6 (length (class_names ds)) v ∷ x)) (sym (permission-more (length (class_names ds) * 32) ps w))
            ∙ sym (entries-more ds (class v (ps ++ (w ∷ [])))));
        good = (
          f.good.0,
          record {
            good = g.good;
            new = g.new;
            room = g.room;
            all-good = rw (every_append is_good_part ps (w ∷ []), g.all-good, p.good);
            apart = differ-more ps w g.apart (not-true (is_in w ps) p.unused);
            few = omega (arith, length-append ps (w ∷ []), ltb-true (length ps) 32 r.0);
          },
        );
      }

pub follow-good : (es : List NameEntry) (d : Declaring) (e : NameEntry) → SoFar es d → may_follow d e ≡ true
    → SoFar (es ++ (e ∷ [])) (extended (kind_of e.sort) d e.name)
unfolding may_follow
follow-good es d e f h = by (kind_of e.sort) (kind-is e.sort) d f h
  where
    by : (k : Kind) → KindIs e.sort k → (d : Declaring) → SoFar es d
        → (is_placed k d e.number && (is_good_for k e.name && is_unused k d e.name)) ≡ true → SoFar (es ++ (e ∷ [])) (extended k d e.name)
    by (of_thing s) c d f h =
        subst (λ (x : ℕ). SoFar (es ++ (name_entry x e.number e.name ∷ [])) (complete (declared d ++ (plain s e.name ∷ [])))) (sym c)
        (thing-follows es e.number e.name s d f (follows (of_thing s) d e.number e.name h))
    by of_class c d f h =
        subst (λ (x : ℕ). SoFar (es ++ (name_entry x e.number e.name ∷ [])) (opened (declared d) e.name [])) (sym c)
        (class-follows es e.number e.name d f (follows of_class d e.number e.name h))
    by of_permission c (complete ds) f h = absurd (false≢true h)
    by of_permission c (opened ds v ps) f h =
        subst (λ (x : ℕ). SoFar (es ++ (name_entry x e.number e.name ∷ [])) (opened ds v (ps ++ (e.name ∷ [])))) (sym c)
        (permission-follows es e.number e.name ds v ps f (follows of_permission (opened ds v ps) e.number e.name h))
    by of_nothing c d f h = absurd (false≢true h)

-- ---- the entries of good declarations

follow-on : (d : Declaring) (k : Kind) (s n : ℕ) (w : Name) (es : List NameEntry) → kind_of s ≡ k → Follows k d n w
    → declaring d (name_entry s n w ∷ es) ≡ declaring (extended k d w) es
unfolding declaring may_follow
follow-on d k s n w es e f = rw (e, f.placed, f.good, f.unused)

next-number : (c : Bool) (n max : ℕ) → c ≡ true → ltb n max ≡ true → (c && (eqb n n && ltb n max)) ≡ true
next-number c n max h l = rw (h, eq-eqb n n refl, l)

-- the permissions ps of a class, after qs
permissions-follow : (ds : List Declaration) (v : Name) (qs ps : List Name) (n : ℕ) (es : List NameEntry) → n ≡ length (class_names ds) * 32 + length qs
    → every is_good_part ps ≡ true → differ (qs ++ ps) ≡ true → length qs + length ps ≤ 32
    → declaring (opened ds v qs) (permission_entries n ps ++ es) ≡ declaring (opened ds v (qs ++ ps)) es
unfolding permission_entries every
permissions-follow ds v qs [] n es h g d l = rw (append-nil qs)
permissions-follow ds v qs (p ∷ ps) n es h g d l =
    let k = both_true (is_good_part p) (every is_good_part ps) g in
    let a : (qs ++ (p ∷ [])) ++ ps ≡ qs ++ (p ∷ ps) = append_assoc qs (p ∷ []) ps in
    follow-on (opened ds v qs) of_permission 7 n p (permission_entries (n + 1) ps ++ es) refl
    (record {
      placed = rw (lt-ltb (length qs) 32 (omega arith), eq-eqb n (length (class_names ds) * 32 + length qs) h);
      good = k.0;
      unused = rw (differ_new qs p ps d);
    })
    ∙ permissions-follow ds v (qs ++ (p ∷ [])) ps (n + 1) es (omega (arith, length-append qs (p ∷ []))) k.1 (rw a d) (omega (arith, length-append qs (p ∷ [])))
    ∙ rw a

entries-follow : (ds : List Declaration) (d : Declaring) → closes d ≡ true → good_from (declared d) ds ≡ true
    → (declaring d (entries_from (declared d) ds) >>= finished) ≡ some (declared d ++ ds)
unfolding entries_from declaring
entries-follow [] d c g = rw (c, append-nil (declared d))
entries-follow (plain s w ∷ ds) d c g =
    let f = good-first (declared d) (plain s w) ds g in
    ap (λ (o : Option Declaring). o >>= finished)
    (follow-on d (of_thing s) (sort_code s) (count s (declared d)) w (entries_from (declared d ++ (plain s w ∷ [])) ds) (kind-of-code s)
    (record { placed = next-number (closes d) (count s (declared d)) (max_of s) c f.room; good = f.names; unused = f.new }))
    ∙ entries-follow ds (complete (declared d ++ (plain s w ∷ []))) refl (good-rest (declared d) (plain s w) ds g)
    ∙ ap some (append_assoc (declared d) (plain s w ∷ []) ds)
entries-follow (class w [] ∷ ds) d c g = absurd (false≢true (both_true (is_good w) false (good-first (declared d) (class w []) ds g).names).1)
entries-follow (class w (p ∷ ps) ∷ ds) d c g =
    let f = good-first (declared d) (class w (p ∷ ps)) ds g in
    let names = both_true (is_good w) (every is_good_part (p ∷ ps)) f.names in
    let new = both_true (not (is_in w (class_names (declared d)))) (differ (p ∷ ps)) f.new in
    let room = both_true (ltb (length (class_names (declared d))) max_classes) (leb (length (p ∷ ps)) max_permissions) f.room in
    let n = length (class_names (declared d)) in
    let rest = entries_from (declared d ++ (class w (p ∷ ps) ∷ [])) ds in
    ap (λ (o : Option Declaring). o >>= finished)
    (follow-on d of_class 6 n w (permission_entries (n * 32) (p ∷ ps) ++ rest) refl
    (record { placed = next-number (closes d) n max_classes c room.0; good = names.0; unused = new.0 })
    ∙ permissions-follow (declared d) w [] (p ∷ ps) (n * 32) rest (omega arith) names.1 new.1 (omega (arith, leb-true (length (p ∷ ps)) 32 room.1)))
    ∙ entries-follow ds (opened (declared d) w (p ∷ ps)) refl (good-rest (declared d) (class w (p ∷ ps)) ds g)
    ∙ ap some (append_assoc (declared d) (class w (p ∷ ps) ∷ []) ds)

-- good declarations are what their entries declare
pub good-declared : (ds : List Declaration) → good_from [] ds ≡ true → declares (entries ds) ≡ some ds
unfolding entries
good-declared ds g = entries-follow ds (complete []) refl g

-- ---- entries one after the other

pub start : SoFar [] (complete [])
unfolding entries entries_from good_from
start = record { are = refl; good = refl }

pub declaring-more : (d : Declaring) (es fs : List NameEntry) → declaring d (es ++ fs) ≡ (declaring d es >>= λ d. declaring d fs)
unfolding declaring
declaring-more d [] fs = refl
declaring-more d (e ∷ es) fs = by (declaring-more (extended (kind_of e.sort) d e.name) es fs) (may_follow d e)
  where
    by : declaring (extended (kind_of e.sort) d e.name) (es ++ fs) ≡ (declaring (extended (kind_of e.sort) d e.name) es >>= λ d. declaring d fs)
        → (q : Bool) → (given q (extended (kind_of e.sort) d e.name) >>= λ d. declaring d (es ++ fs))
        ≡ ((given q (extended (kind_of e.sort) d e.name) >>= λ d. declaring d es) >>= λ d. declaring d fs)
    by ih true = ih
    by ih false = refl

-- what entries declare
pub declared-good : (xs : List NameEntry) (d : Declaring) → SoFar xs d → (es : List NameEntry) (r : Declaring) → declaring d es ≡ some r → SoFar (xs ++ es) r
unfolding declaring
declared-good xs d f [] r h = rw (append-nil xs) (subst (SoFar xs) (some-injective d r h) f)
declared-good xs d f (e ∷ es) r h =
    let p = if_some (may_follow d e) (declaring (extended (kind_of e.sort) d e.name) es) r (by (may_follow d e) ∙ h) in
    subst (λ (x : List NameEntry). SoFar x r) (append_assoc xs (e ∷ []) es)
    (declared-good (xs ++ (e ∷ [])) (extended (kind_of e.sort) d e.name) (follow-good xs d e f p.0) es r p.1)
  where
    by : (q : Bool) → cond q (declaring (extended (kind_of e.sort) d e.name) es) none ≡ (given q (extended (kind_of e.sort) d e.name) >>= λ d. declaring d es)
    by true = refl
    by false = refl
