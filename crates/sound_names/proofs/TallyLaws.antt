-- The counts of the walk are those of what is declared so far: which entry they allow, and what they are after it. Assumes nothing.
use mathlib.Core.Path.{◌≡◌, refl, sym, ap, ◌∙◌}
use mathlib.Core.Bool.{Bool, true, false, not, ◌&&◌, cond, false≢true, and-false}
use mathlib.Core.List.{List, [], ◌∷◌, ◌++◌}
use Prim.Native.Nat.{ℕ, zero, suc, ◌+◌, ◌*◌, ◌/◌, ◌%◌, ◌<◌}
use native.Mathlib.Omega.{arith}
use borrow.Author.Tests.{eqb-true, eqb-false, eq-eqb, ne_eqb, ltb-true, lt-ltb, le-ltb}
use lib.Dec.{eqb, ltb}
use lib.ListN.{length, get_or, set, replicate, length-set, length-append}
use lib.Seq.{get_or-set_same, get_or-set_other}
use Rattle.bitset.specs.Sets.{tabulate}
use Rattle.bitset.proofs.SetLaws.{tabulate-ext}
use Rattle.policy.specs.Basics.{Name, gather}
use Rattle.policy.specs.Statements.{users, roles, types, Sort, thing_of, attribute_of, Declaration, plain, class, same_sort, of_class as class_of, with_permissions}
use Rattle.policy.specs.Statements.{names_of, count, class_names, permissions}
use Rattle.policy.specs.Maxima.{max_of, max_classes}
use Rattle.policy.specs.Encode.{sort_code}
use Rattle.policy.proofs.Lists.{both_true, true-both, gather-over, gather-last, same_tests}
use Rattle.policy.proofs.Sameness.{sort-self, sort-same}
use Rattle.policy.proofs.Sorts.{code_below, code-sort}
use Rattle.policy.proofs.Counts.{count_same, count-more}
use Rattle.symbols.specs.Lookup.{most_of}
use Rattle.symbols.proofs.ClassesFound.{classes-same, classes-more}
use Rattle.symbols.proofs.CountLaws.{most-of}
use Rattle.sound_names.specs.SoundNames.{counts_of, permission_counts}
use Rattle.sound_names.specs.EntryOrder.{Kind, of_thing, of_class, of_permission, of_nothing, kind_of, Declaring, complete, opened, declared, closes, is_placed, extended}
use Rattle.sound_names.specs.Tally.{allows, counted, permitted, Zeros, open_of, Tallied, counts_in}
use Rattle.sound_names.proofs.EntryOrderLaws.{KindIs, kind-is, rises}

-- ---- which entry the counts allow

pub closes-open : (d : Declaring) → not (eqb (open_of d) 1) ≡ closes d
closes-open (complete ds) = refl
closes-open (opened ds v []) = refl
closes-open (opened ds v (p ∷ ps)) = rw (ne_eqb (length (p ∷ ps) + 1) 1 (λ e. omega arith))

-- a permission's number, by its class and its place
by_place : (n k l : ℕ) → eqb (n / 32 + 1) (k + 1) && eqb (n % 32 + 1) (l + 1) ≡ ltb l 32 && eqb n (k * 32 + l)
by_place n k l = same_tests (eqb (n / 32 + 1) (k + 1) && eqb (n % 32 + 1) (l + 1)) (ltb l 32 && eqb n (k * 32 + l))
    (λ h.
    let p = both_true (eqb (n / 32 + 1) (k + 1)) (eqb (n % 32 + 1) (l + 1)) h in
    let q = eqb-true (n / 32 + 1) (k + 1) p.0 in
    let r = eqb-true (n % 32 + 1) (l + 1) p.1 in
    true-both (ltb l 32) (eqb n (k * 32 + l)) (lt-ltb l 32 (omega arith)) (eq-eqb n (k * 32 + l) (omega arith)))
    (λ h.
    let p = both_true (ltb l 32) (eqb n (k * 32 + l)) h in
    let q = ltb-true l 32 p.0 in
    let r = eqb-true n (k * 32 + l) p.1 in
    true-both (eqb (n / 32 + 1) (k + 1)) (eqb (n % 32 + 1) (l + 1)) (eq-eqb (n / 32 + 1) (k + 1) (omega arith)) (eq-eqb (n % 32 + 1) (l + 1) (omega arith)))

pub allows-placed : (c p : List ℕ) (d : Declaring) → Tallied c p d → (sort n : ℕ) → allows c sort n ≡ is_placed (kind_of sort) d n
unfolding allows
allows-placed c p d t sort n = by (kind_of sort) (kind-is sort) d t
  where
    by : (k : Kind) → KindIs sort k → (d : Declaring) → Tallied c p d
        → cond (ltb sort 7) (not (eqb (get_or c 7 0) 1) && (eqb n (get_or c sort 0) && ltb n (most_of sort)))
        (eqb sort 7 && (eqb (n / 32 + 1) (get_or c 6 0) && eqb (n % 32 + 1) (get_or c 7 0)))
        ≡ is_placed k d n
    by (of_thing s) e d t = rw (e, lt-ltb (sort_code s) 7 (omega (arith, code_below s)), t.open-class, closes-open d, t.things s, most-of s)
    by of_class e d t = rw (e, t.open-class, closes-open d, t.classes)
    by of_permission e (complete ds) t = rw (e, t.open-class, ne_eqb (n % 32 + 1) 0 (λ x. omega arith), and-false)
    by of_permission e (opened ds v ps) t = rw (e, t.open-class, t.classes, classes-more ds v ps) (by_place n (length (class_names ds)) (length ps))
    by of_nothing e d t = rw (le-ltb sort 7 (omega arith), ne_eqb sort 7 (λ x. omega arith))

-- ---- one declaration more

-- a sort is known by its code
other-code : (s t : Sort) → same_sort s t ≡ false → sort_code s ≡ sort_code t → ⊥
other-code s t h e =
    false≢true (sym h ∙ ap (same_sort s) (code-sort t s (sym e)) ∙ sort-self s)

permissions-same : (ds : List Declaration) (s : Sort) (w : Name) (k : ℕ) → permissions (ds ++ (plain s w ∷ [])) k ≡ permissions ds k
unfolding permissions
permissions-same ds s w k = ap (λ (xs : List (List Name)). get_or xs k []) (gather-over with_permissions ds (plain s w) refl)

suc-eqb : (m n : ℕ) → eqb (suc m) (suc n) ≡ eqb m n
suc-eqb m n = same_tests (eqb (suc m) (suc n)) (eqb m n)
    (λ h. let e = eqb-true (suc m) (suc n) h in eq-eqb m n (omega arith)) (λ h. let e = eqb-true m n h in eq-eqb (suc m) (suc n) (omega arith))

get_d-more : {A : Type 0} (xs : List A) (x d : A) (k : ℕ) → get_or (xs ++ (x ∷ [])) k d ≡ cond (eqb k (length xs)) x (get_or xs k d)
get_d-more [] x d zero = refl
get_d-more [] x d (suc k) = rw (ne_eqb (suc k) 0 (λ e. omega arith))
get_d-more (y ∷ xs) x d zero = rw (ne_eqb 0 (suc (length xs)) (λ e. omega arith))
get_d-more (y ∷ xs) x d (suc k) = get_d-more xs x d k ∙ rw (suc-eqb k (length xs))

class-lists : (ds : List Declaration) → length (gather with_permissions ds) ≡ length (gather class_of ds)
unfolding gather
class-lists [] = refl
class-lists (plain s w ∷ ds) = class-lists ds
class-lists (class w ps ∷ ds) = ap suc (class-lists ds)

permissions-more : (ds : List Declaration) (v : Name) (ps : List Name) (k : ℕ)
    → permissions (ds ++ (class v ps ∷ [])) k ≡ cond (eqb k (length (class_names ds))) ps (permissions ds k)
unfolding permissions class_names
permissions-more ds v ps k =
    ap (λ (xs : List (List Name)). get_or xs k []) (gather-last with_permissions ds (class v ps) ps refl)
    ∙ get_d-more (gather with_permissions ds) ps [] k
    ∙ ap (λ (n : ℕ). cond (eqb k n) ps (get_or (gather with_permissions ds) k [])) (class-lists ds)

-- past the last class there are none
permissions-past : (ds : List Declaration) → permissions ds (length (class_names ds)) ≡ []
unfolding permissions class_names
permissions-past ds = rw (← class-lists ds) (get_d_past (gather with_permissions ds))
  where
    get_d_past : (xs : List (List Name)) → get_or xs (length xs) [] ≡ []
    get_d_past [] = refl
    get_d_past (x ∷ xs) = get_d_past xs

-- ---- the counts after an entry

-- "classes 32", with the one that is open
abbrev pub FewClasses : Declaring → Type 0
FewClasses (complete ds) = Unit {0}
FewClasses (opened ds v ps) = length (class_names ds) < 32

module _ (c p : List ℕ) (n : ℕ) (w : Name) where
  after-thing : (s : Sort) (d : Declaring) → Tallied c p d → n ≡ count s (declared d)
      → Tallied (set (set c (sort_code s) (n + 1)) 7 0) p (complete (declared d ++ (plain s w ∷ [])))
  after-thing s d t h =
      record {
        eight = simp length-set t.eight;
        things = λ u. by u (same_sort u s) refl;
        classes = apart 6 (λ e. omega arith) (λ e. omega (arith, code_below s)) ∙ t.classes ∙ sym (classes-same (declared d) s w);
        open-class = get_or-set_same (set c (sort_code s) (n + 1)) 7 0 0 (simp length-set (omega (arith, t.eight)));
        each-class = t.each-class;
        of-class = λ k. t.of-class k ∙ ap length (sym (permissions-same (declared d) s w k));
      }
    where
      apart : (k : ℕ) → (k ≡ 7 → ⊥) → (k ≡ sort_code s → ⊥) → get_or (set (set c (sort_code s) (n + 1)) 7 0) k 0 ≡ get_or c k 0
      apart k e f = get_or-set_other (set c (sort_code s) (n + 1)) 7 k 0 0 e ∙ get_or-set_other c (sort_code s) k (n + 1) 0 f

      by : (u : Sort) (q : Bool) → same_sort u s ≡ q → get_or (set (set c (sort_code s) (n + 1)) 7 0) (sort_code u) 0 ≡ count u (declared d ++ (plain s w ∷ []))
      by u false e =
          apart (sort_code u) (λ x. omega (arith, code_below u)) (other-code u s e) ∙ t.things u
          ∙ sym (count_same u (declared d) (plain s w) (rw e))
      by u true e =
          rw (sort-same u s e)
          (get_or-set_other (set c (sort_code s) (n + 1)) 7 (sort_code s) 0 0 (λ x. omega (arith, code_below s))
          ∙ get_or-set_same c (sort_code s) (n + 1) 0 (omega (arith, code_below s, t.eight))
          ∙ ap (λ (x : ℕ). x + 1) h ∙ sym (count-more s (declared d) (plain s w) w (rw (sort-self s))))

  after-class : (d : Declaring) → Tallied c p d → n ≡ length (class_names (declared d)) → Tallied (set (set c 6 (n + 1)) 7 1) p (opened (declared d) w [])
  after-class d t h =
      record {
        eight = simp length-set t.eight;
        things = λ u.
            get_or-set_other (set c 6 (n + 1)) 7 (sort_code u) 1 0 (λ x. omega (arith, code_below u))
            ∙ get_or-set_other c 6 (sort_code u) (n + 1) 0 (λ x. omega (arith, code_below u))
            ∙ t.things u ∙ sym (count_same u (declared d) (class w []) refl);
        classes =
            get_or-set_other (set c 6 (n + 1)) 7 6 1 0 (λ x. omega arith) ∙ get_or-set_same c 6 (n + 1) 0 (omega (arith, t.eight))
            ∙ ap (λ (x : ℕ). x + 1) h ∙ sym (classes-more (declared d) w []);
        open-class = get_or-set_same (set c 6 (n + 1)) 7 1 0 (simp length-set (omega (arith, t.eight)));
        each-class = t.each-class;
        of-class = λ k. t.of-class k ∙ by k (eqb k (length (class_names (declared d)))) refl ∙ ap length (sym (permissions-more (declared d) w [] k));
      }
    where
      by : (k : ℕ) (q : Bool) → eqb k (length (class_names (declared d))) ≡ q → length (permissions (declared d) k) ≡ length (cond q [] (permissions (declared d) k))
      by k false e = refl
      by k true e = rw (eqb-true k (length (class_names (declared d))) e) (ap length (permissions-past (declared d)))

  after-permission : (ds : List Declaration) (v : Name) (ps : List Name) → Tallied c p (opened ds v ps)
      → (ltb (length ps) 32 && eqb n (length (class_names ds) * 32 + length ps)) ≡ true → length (class_names ds) < 32
      → Tallied (set c 7 (n % 32 + 2)) (set p (n / 32) (n % 32 + 1)) (opened ds v (ps ++ (w ∷ [])))
  after-permission ds v ps t h l =
      record {
        eight = simp length-set t.eight;
        things = λ u.
            get_or-set_other c 7 (sort_code u) (n % 32 + 2) 0 (λ x. omega (arith, code_below u)) ∙ t.things u
            ∙ count_same u ds (class v ps) refl ∙ sym (count_same u ds (class v (ps ++ (w ∷ []))) refl);
        classes = get_or-set_other c 7 6 (n % 32 + 2) 0 (λ x. omega arith) ∙ t.classes ∙ classes-more ds v ps ∙ sym (classes-more ds v (ps ++ (w ∷ [])));
        open-class = get_or-set_same c 7 (n % 32 + 2) 0 (omega (arith, t.eight)) ∙ omega (arith, place.1, length-append ps (w ∷ []));
        each-class = simp length-set t.each-class;
        of-class = λ k. by k (eqb k (length (class_names ds))) refl ∙ ap length (sym (permissions-more ds v (ps ++ (w ∷ [])) k));
      }
    where
      place : (n / 32 ≡ length (class_names ds)) × (n % 32 ≡ length ps)
      place =
          let q = both_true (ltb (length ps) 32) (eqb n (length (class_names ds) * 32 + length ps)) h in
          let few = ltb-true (length ps) 32 q.0 in
          let is = eqb-true n (length (class_names ds) * 32 + length ps) q.1 in
          (omega arith, omega arith)

      by : (k : ℕ) (q : Bool) → eqb k (length (class_names ds)) ≡ q
          → get_or (set p (n / 32) (n % 32 + 1)) k 0 ≡ length (cond q (ps ++ (w ∷ [])) (permissions ds k))
      by k false e =
          let others : permissions (ds ++ (class v ps ∷ [])) k ≡ permissions ds k = permissions-more ds v ps k ∙ rw e in
          get_or-set_other p (n / 32) k (n % 32 + 1) 0 (λ x. eqb-false k (length (class_names ds)) e (x ∙ place.0)) ∙ t.of-class k ∙ ap length others
      by k true e =
          rw (eqb-true k (length (class_names ds)) e, place.0)
          (get_or-set_same p (length (class_names ds)) (n % 32 + 1) 0 (omega (arith, t.each-class)) ∙ omega (arith, place.1, length-append ps (w ∷ [])))

-- the counts and the permissions after an entry that the counts allow
pub tallied-after : (c p : List ℕ) (d : Declaring) → Tallied c p d → (sort n : ℕ) (w : Name) → is_placed (kind_of sort) d n ≡ true → FewClasses d
    → Tallied (counted c sort n) (permitted p sort n) (extended (kind_of sort) d w)
unfolding counted permitted
tallied-after c p d t sort n w h f = by (kind_of sort) (kind-is sort) d t h f
  where
    by : (k : Kind) → KindIs sort k → (d : Declaring) → Tallied c p d → is_placed k d n ≡ true → FewClasses d
        → Tallied (cond (eqb sort 7) (set c 7 (n % 32 + 2)) (set (set c sort (n + 1)) 7 (cond (eqb sort 6) 1 0)))
        (cond (eqb sort 7) (set p (n / 32) (n % 32 + 1)) p) (extended k d w)
    by (of_thing s) e d t h f =
        rw (e, ne_eqb (sort_code s) 7 (λ x. omega (arith, code_below s)), ne_eqb (sort_code s) 6 (λ x. omega (arith, code_below s)))
        (after-thing c p n w s d t (rises (closes d) n (count s (declared d)) (max_of s) h).1)
    by of_class e d t h f = rw e (after-class c p n w d t (rises (closes d) n (length (class_names (declared d))) max_classes h).1)
    by of_permission e (complete ds) t h f = absurd (false≢true h)
    by of_permission e (opened ds v ps) t h f = rw e (after-permission c p n w ds v ps t h f)
    by of_nothing e d t h f = absurd (false≢true h)

-- ---- at the start, and at the end

zero-counts : (m k : ℕ) → ◌≡◌ {A = ℕ} (get_or (replicate m 0) k 0) 0
zero-counts zero k = refl
zero-counts (suc m) zero = refl
zero-counts (suc m) (suc k) = zero-counts m k

none-permitted : (k : ℕ) → length (permissions [] k) ≡ 0
unfolding permissions gather
none-permitted k = refl

pub tallied-start : (c p : List ℕ) → Zeros c p → Tallied c p (complete [])
unfolding count names_of class_names gather
tallied-start c p z =
    record {
      eight = rw z.none-counted;
      things = λ s. rw z.none-counted (zero-counts 8 (sort_code s));
      classes = rw z.none-counted;
      open-class = rw z.none-counted;
      each-class = rw z.none-permitted;
      of-class = λ k. rw z.none-permitted (zero-counts 32 k ∙ sym (none-permitted k));
    }

pub tallied-counts : (c p : List ℕ) (d : Declaring) → Tallied c p d → counts_in c ≡ counts_of (declared d)
tallied-counts c p d t =
    rw (
      t.things (thing_of users),
      t.things (thing_of roles),
      t.things (thing_of types),
      t.things (attribute_of users),
      t.things (attribute_of roles),
      t.things (attribute_of types),
      t.classes,
    )

tabulate-get_d : (xs : List ℕ) → xs ≡ tabulate (length xs) (λ i. get_or xs i 0)
unfolding tabulate
tabulate-get_d [] = refl
tabulate-get_d (x ∷ xs) = ap (λ (r : List ℕ). x ∷ r) (tabulate-get_d xs)

pub tallied-permissions : (c p : List ℕ) (d : Declaring) → Tallied c p d → p ≡ permission_counts (declared d)
tallied-permissions c p d t =
    tabulate-get_d p ∙ ap (λ (m : ℕ). tabulate m (λ i. get_or p i 0)) t.each-class
    ∙ tabulate-ext 32 (λ i. get_or p i 0) (λ k. length (permissions (declared d) k)) (λ i l. t.of-class i)
