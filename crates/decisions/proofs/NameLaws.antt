-- The names of roles, classes and permissions on a sound table. Assumes nothing.
use Prim.Native.Nat.{ℕ, zero, suc, ◌+◌, ◌*◌, ◌/◌, ◌%◌, ◌<◌, ◌≤◌}
use native.Mathlib.Omega.{arith}
use mathlib.Core.Path.{◌≡◌, refl, sym, ap, ap₂, ◌∙◌}
use mathlib.Core.Bool.{Bool, true, false, ◌&&◌, cond}
use mathlib.Core.List.{List, [], ◌∷◌}
use mathlib.Core.Option.{Option, none, some}
use lib.Dec.{ltb}
use lib.ListN.{length, get_or, get_elem?, take, drop}
use borrow.Author.Tests.{lt-ltb, le-ltb, ltb-true, ltb-false}
use Rattle.byte_slices.specs.Parts.{part}
use Rattle.policy.specs.Basics.{Name, same, is_in}
use Rattle.policy.specs.Statements.{roles, thing_of, names_of, count, class_names, permissions}
use Rattle.policy.specs.Words.{process_word, transition_words, object_r}
use Rattle.policy.specs.Encode.{NameEntry}
use Rattle.policy.specs.Deciding.{is_object, Question, declared_context, declared_question, asks_role, Reply, answered, refused}
use Rattle.policy.specs.Questions.{Part, name_from, name_of}
use Rattle.policy.proofs.Lists.{both_true, at_place, under, any-ext}
use Rattle.policy.proofs.Counts.{few-permissions-of, few-classes}
use Rattle.sound_constraints.specs.SoundRows.{is_some}
use Rattle.table_laws.specs.SoundTable.{Sound}
use Rattle.table_laws.specs.Shown.{shown, or_twelve, name_in}
use Rattle.table_laws.proofs.NameShown.{name-shown}
use Rattle.table_laws.proofs.WellFormed.{formed}
use Rattle.table_reader.proofs.SoundPlaces.{first_of}
use Rattle.decisions.specs.TableAnswers.{declares_contexts, declares_question}
use Rattle.policy.specs.declared.NameCounts.{NameCounts}
use Rattle.table_names.specs.TableNames.{counts_in, name_at, permission_in, is_found_name, has_name, asks_role_in, is_object_in, is_object_by, asks_role_by}
use Rattle.decisions.specs.KnownNames.{Knows}
use Rattle.soundness.proofs.SoundTable.{names-of, things-of, classes-of}
use Rattle.decisions.proofs.SoundLaws.{declares-context}

-- WHAT IS SHOWN

-- there is a name, and it is the word
abbrev is_named : Option Name → Name → Bool
is_named none w = false
is_named (some v) w = same v w

module _ (t : List ℕ) where
  found-by : (r : Reply Part) (o : Option Name) → shown t r ≡ or_twelve o → is_found_name r ≡ is_some o
  found-by (answered p) none h = let z : ◌≡◌ {A = ℕ} 0 1 = cc in absurd (omega arith)
  found-by (answered p) (some v) h = refl
  found-by (refused n k) none h = refl
  found-by (refused n k) (some v) h = let z : ◌≡◌ {A = ℕ} 0 1 = cc in absurd (omega arith)

  bears-by : (r : Reply Part) (o : Option Name) → shown t r ≡ or_twelve o → (w : Name) → has_name t r w ≡ is_named o w
  unfolding part
  bears-by (answered p) none h w = let z : ◌≡◌ {A = ℕ} 0 1 = cc in absurd (omega arith)
  bears-by (answered p) (some v) h w = ap (λ (x : List ℕ). same x w) (answered-injective (take p.size (drop p.start t)) v h)
    where
      answered-injective : (x y : List ℕ) → answered x ≡ answered y → x ≡ y
      answered-injective x y h = cc
  bears-by (refused n k) none h w = refl
  bears-by (refused n k) (some v) h w = let z : ◌≡◌ {A = ℕ} 0 1 = cc in absurd (omega arith)

module _ {A : Type 0} where
  some_at : (xs : List A) (k : ℕ) → is_some (get_elem? xs k) ≡ ltb k (length xs)
  some_at [] k = sym (le-ltb k 0 (omega arith))
  some_at (x ∷ xs) zero = sym (lt-ltb 0 (length (x ∷ xs)) (omega arith))
  some_at (x ∷ xs) (suc k) = some_at xs k ∙ by (ltb k (length xs)) refl
    where
      by : (b : Bool) → ltb k (length xs) ≡ b → ltb k (length xs) ≡ ltb (suc k) (length (x ∷ xs))
      by true q = q ∙ sym (lt-ltb (suc k) (length (x ∷ xs)) (omega (arith, ltb-true k (length xs) q)))
      by false q = q ∙ sym (le-ltb (suc k) (length (x ∷ xs)) (omega (arith, ltb-false k (length xs) q)))

-- ON A SOUND TABLE

module _ (t : List ℕ) (s : Sound t) where
  name-at : (x n : ℕ) → shown t (name_at t x n) ≡ or_twelve (name_in s.image.names x n)
  unfolding name_of
  name-at x n =
      ap₂ (λ (o : ℕ) (es : List NameEntry). shown t (name_from x n o es)) (first_of t s) (names-of t s)
      ∙ ap (λ (l : List ℕ). shown l (name_of s.edition s.image x n)) s.laid
      ∙ name-shown s.edition s.image s.known s.fits s.formed s.rest x n

  role-at : (r : ℕ) → shown t (name_at t 1 r) ≡ or_twelve (get_elem? (names_of (thing_of roles) s.image.names) r)
  unfolding name_in
  role-at r = name-at 1 r

  class-at : (c : ℕ) → shown t (name_at t 6 c) ≡ or_twelve (get_elem? (class_names s.image.names) c)
  unfolding name_in
  class-at c = name-at 6 c

  permission-at : (c k : ℕ) → c < 32 → k < 32 → shown t (permission_in t c k) ≡ or_twelve (get_elem? (permissions s.image.names c) k)
  unfolding name_in permission_in
  permission-at c k h l =
      let class : (c * 32 + k) / 32 ≡ c = omega arith in
      let place : (c * 32 + k) % 32 ≡ k = omega arith in
      rw (lt-ltb c 32 h, lt-ltb k 32 l) (name-at 7 (c * 32 + k)
      ∙ ap₂ (λ (x y : ℕ). or_twelve (get_elem? (permissions s.image.names x) y)) class place)

  few-in-class : (c : ℕ) → length (permissions s.image.names c) ≤ 32
  few-in-class c = few-permissions-of s.image.names (formed s.image s.formed).names c

  pub class-below : (c : ℕ) → c < length (class_names s.image.names) → c < 32
  class-below c h = omega (arith, few-classes s.image.names (formed s.image s.formed).names)

  too_far : (c k : ℕ) → ltb k 32 ≡ false → permission_in t c k ≡ refused 12 0
  unfolding permission_in
  too_far c k q = rw q (by (ltb c 32))
    where
      by : (b : Bool) → cond (b && false) (name_at t 7 (c * 32 + k)) (refused 12 0) ≡ refused 12 0
      by true = refl
      by false = refl

  -- a permission is declared
  pub permission-found : (c k : ℕ) → c < length (class_names s.image.names) → is_found_name (permission_in t c k) ≡ ltb k (length (permissions s.image.names c))
  permission-found c k h = by (ltb k 32) refl
    where
      by : (b : Bool) → ltb k 32 ≡ b → is_found_name (permission_in t c k) ≡ ltb k (length (permissions s.image.names c))
      by true q =
          found-by t (permission_in t c k) (get_elem? (permissions s.image.names c) k) (permission-at c k (class-below c h) (ltb-true k 32 q))
          ∙ some_at (permissions s.image.names c) k
      by false q =
          ap is_found_name (too_far c k q)
          ∙ sym (le-ltb k (length (permissions s.image.names c)) (omega (arith, ltb-false k 32 q, few-in-class c)))

  pub declares-question : (q : Question) → declares_question t (counts_in t) q ≡ declared_question s.image.names q
  unfolding declares_question declares_contexts declared_question
  declares-question q =
      let ds = s.image.names in
      let contexts = declared_context ds q.source && declared_context ds q.target in
      let class = ltb q.class (length (class_names ds)) in
      rw (
        declares-context t s q.source,
        declares-context t s q.target,
        classes-of t s,
      )
      (under (contexts && class)
      (λ h. permission-found q.class q.perm (ltb-true q.class (length (class_names ds)) (both_true contexts class h).1)))

  -- "class `process`, permission `transition` or `dyntransition`"
  pub asks-role-of : (c k : ℕ) → c < length (class_names s.image.names) → k < length (permissions s.image.names c) → asks_role_in t c k ≡ asks_role s.image.names c k
  unfolding asks_role_in asks_role is_in
  asks-role-of c k h l =
      let ds = s.image.names in
      ap₂ ◌&&◌
      (bears-by t (name_at t 6 c) (get_elem? (class_names ds) c) (class-at c) process_word ∙ ap (λ (o : Option Name). is_named o process_word) (at_place (class_names ds) c [] h))
      (any-ext (has_name t (permission_in t c k)) (same (get_or (permissions ds c) k [])) transition_words
      (λ w. bears-by t (permission_in t c k) (get_elem? (permissions ds c) k) (permission-at c k (class-below c h) (omega (arith, few-in-class c))) w
      ∙ ap (λ (o : Option Name). is_named o w) (at_place (permissions ds c) k [] l)))

  -- "role is named `object_r`"
  pub object_of : (r : ℕ) → r < count (thing_of roles) s.image.names → is_object_in t r ≡ is_object s.image.names r
  unfolding is_object is_object_in count
  object_of r h =
      let names = names_of (thing_of roles) s.image.names in
      bears-by t (name_at t 1 r) (get_elem? names r) (role-at r) object_r ∙ ap (λ (o : Option Name). is_named o object_r) (at_place names r [] h)

-- WITH WHAT IS KNOWN

module _ (t : List ℕ) (s : Sound t) {n : NameCounts} {x : _} (known : Knows t n x) where
  counts : n ≡ counts_in t
  counts = known.counted.counts

  pub object-known : (r : ℕ) → r < count (thing_of roles) s.image.names → is_object_by t x r ≡ is_object s.image.names r
  object-known r h =
      known.object r (omega (arith, ap (λ (n : NameCounts). n.roles) counts, things-of t s (thing_of roles))) ∙ object_of t s r h

  pub asks-role-known : (c k : ℕ) → c < length (class_names s.image.names) → k < length (permissions s.image.names c)
      → asks_role_by t x c k ≡ asks_role s.image.names c k
  asks-role-known c k h l =
      known.asks c k (omega (arith, ap (λ (n : NameCounts). n.classes) counts, classes-of t s)) (permission-found t s c k h ∙ lt-ltb k _ l)
      ∙ asks-role-of t s c k h l
