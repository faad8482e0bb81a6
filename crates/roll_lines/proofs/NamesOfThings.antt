-- The users and roles of a sound table: there are at most 128, and their names have at most 64 bytes. The questions name of and entry show them and
-- their sets by number. Assumes nothing.
use Prim.Native.Nat.{ℕ, zero, suc, ◌<◌, ◌≤◌}
use native.Mathlib.Omega.{arith}
use mathlib.Core.Path.{◌≡◌, refl, sym, ap, subst, ◌∙◌}
use mathlib.Core.Bool.{Bool, true, false, cond}
use mathlib.Core.List.{List, [], ◌∷◌, ◌++◌}
use mathlib.Core.Option.{Option, none, some, none-ne-some, some-injective}
use lib.ListN.{length, get_elem?, take, drop}
use Rattle.byte_slices.specs.Parts.{part}
use Rattle.byte_slices.proofs.PartLaws.{length-part-min}
use Rattle.policy.specs.Basics.{Name, All}
use Rattle.policy.specs.Statements.{users, roles, Sort, thing_of, Declaration, plain, class, same_sort, of_sort, names_of, count}
use Rattle.policy.specs.Image.{Image}
use Rattle.policy.specs.Sound.{edition_in, well_formed, good_names, good_from, image_in}
use Rattle.policy.specs.Deciding.{Reply, answered, refused}
use Rattle.policy.specs.Questions.{Part, name_on, entry_on}
use Rattle.policy.proofs.Good.{good-first, good-rest}
use Rattle.policy.proofs.Counts.{few-of}
use Rattle.policy.proofs.Gathered.{OfValue, all-gather}
use Rattle.table_laws.specs.SoundTable.{Bytes, Sound}
use Rattle.table_laws.specs.Shown.{shown, or_twelve, name_in, records_in}
use Rattle.table_laws.proofs.NamesRoom.{name-short}
use Rattle.table_laws.proofs.ImageOnly.{table-only}
use Rattle.table_laws.proofs.WellFormed.{formed}
use Rattle.table_laws.proofs.QuestionLaws.{name-on, entry-on}
use Rattle.table_parts.specs.ShownPart.{shown_part}
use Rattle.roll_lines.specs.LineWrites.{things_in}

-- LISTS BY PLACES

module _ {A : Type 0} where
  pub place-within : (xs : List A) (n : ℕ) (x : A) → get_elem? xs n ≡ some x → n < length xs
  place-within [] n x h = absurd (none-ne-some x h)
  place-within (y ∷ ys) zero x h = omega arith
  place-within (y ∷ ys) (suc n) x h = omega (arith, place-within ys n x h)

  pub place-past : (xs : List A) (n : ℕ) → get_elem? xs n ≡ none → length xs ≤ n
  place-past [] n h = omega arith
  place-past (y ∷ ys) zero h = absurd (none-ne-some y (sym h))
  place-past (y ∷ ys) (suc n) h = omega (arith, place-past ys n h)

  pub some-place : (xs : List A) (n : ℕ) → n < length xs → (x : A) × (get_elem? xs n ≡ some x)
  some-place [] n h = absurd (omega arith)
  some-place (y ∷ ys) zero h = (y, refl)
  some-place (y ∷ ys) (suc n) h = some-place ys n (omega arith)

  pub all-place : (P : A → Type 0) (xs : List A) (n : ℕ) (x : A) → All P xs → get_elem? xs n ≡ some x → P x
  all-place P [] n x h e = absurd (none-ne-some x e)
  all-place P (y ∷ ys) zero x h e = subst P (some-injective y x e) h.0
  all-place P (y ∷ ys) (suc n) x h e = all-place P ys n x h.1 e

-- WHAT IS SHOWN

module _ (t : List ℕ) where
  pub shown-name : (r : Reply Part) (o : Option Name) (p : Part) → shown t r ≡ or_twelve o → answered p ≡ r → o ≡ some (part t p.start p.size)
  unfolding part
  shown-name r o p h e = by o (ap (shown t) e ∙ h)
    where
      by : (o : Option Name) → answered (take p.size (drop p.start t)) ≡ or_twelve o → o ≡ some (take p.size (drop p.start t))
      by none h = let z : ◌≡◌ {A = ℕ} 0 1 = cc in absurd (omega arith)
      by (some w) h = cc

  pub shown-none : (r : Reply Part) (o : Option Name) (n k : ℕ) → shown t r ≡ or_twelve o → refused n k ≡ r → o ≡ none
  shown-none r o n k h e = by o (ap (shown t) e ∙ h)
    where
      by : (o : Option Name) → refused n k ≡ or_twelve o → o ≡ none
      by none h = refl
      by (some w) h = let z : ◌≡◌ {A = ℕ} 0 1 = cc in absurd (omega arith)

  pub shown-set : (r : Reply Part) (s : List ℕ) → shown t r ≡ answered s → shown_part r t ≡ s
  unfolding part
  shown-set (answered p) s h = cc
  shown-set (refused n k) s h = let z : ◌≡◌ {A = ℕ} 0 1 = cc in absurd (omega arith)

  pub shown-short : (r : Reply Part) → length (shown_part r t) ≤ length t
  shown-short (answered p) = omega (arith, length-part-min t p.start p.size)
  shown-short (refused n k) = omega arith

-- NAMES

good-all : (e ds : List Declaration) → good_from e ds ≡ true → All (λ (d : Declaration). good_names d ≡ true) ds
good-all e [] h = tt
good-all e (d ∷ ds) h = ((good-first e d ds h).names, good-all (e ++ (d ∷ [])) ds (good-rest e d ds h))

names-short : (s : Sort) (ds : List Declaration) → good_from [] ds ≡ true → All (λ (w : Name). length w ≤ 64) (names_of s ds)
unfolding names_of
names-short s ds h = all-gather (λ (w : Name). length w ≤ 64) (λ (d : Declaration). good_names d ≡ true) (of_sort s) kept ds (good-all [] ds h)
  where
    by : (b : Bool) (w : Name) → length w ≤ 64 → OfValue (λ (w : Name). length w ≤ 64) (cond b (some w) none)
    by true w h = h
    by false w h = tt

    kept : (d : Declaration) → good_names d ≡ true → OfValue (λ (w : Name). length w ≤ 64) (of_sort s d)
    kept (plain t w) g = by (same_sort s t) w (name-short w g)
    kept (class w ps) g = tt

module _ (i : Image) (h : well_formed i ≡ true) where
  pub things-few : (s : ℕ) → length (things_in i s) ≤ 128
  unfolding things_in count
  things-few zero = few-of (thing_of users) i.names (formed i h).names
  things-few (suc zero) = few-of (thing_of roles) i.names (formed i h).names
  things-few (suc (suc s)) = omega arith

  pub things-short : (s : ℕ) → All (λ (w : Name). length w ≤ 64) (things_in i s)
  unfolding things_in
  things-short zero = names-short (thing_of users) i.names (formed i h).names
  things-short (suc zero) = names-short (thing_of roles) i.names (formed i h).names
  things-short (suc (suc s)) = tt

-- BY NUMBER

module _ (t : List ℕ) (b : Bytes t) (i : Image) (h : image_in t ≡ some i) where
  thing-in : (s n : ℕ) → s < 2 → name_in i.names s n ≡ get_elem? (things_in i s) n
  unfolding name_in things_in
  thing-in zero n l = refl
  thing-in (suc zero) n l = refl
  thing-in (suc (suc s)) n l = absurd (omega arith)

  -- a table that is read as the image is sound, and holds it
  abbrev sound : Sound t
  sound =
      let o = table-only t b i h in
      record { edition = edition_in t; known = o.known; image = i; formed = o.formed; fits = o.fits; rest = o.rest; laid = o.laid }

  pub thing-shown : (s n : ℕ) → s < 2 → shown t (name_on t s n) ≡ or_twelve (get_elem? (things_in i s) n)
  thing-shown s n l = name-on t sound s n ∙ ap or_twelve (thing-in s n l)

  pub record-shown : (b n : ℕ) → shown t (entry_on t b n) ≡ or_twelve (get_elem? (records_in i b) n)
  record-shown b n = entry-on t sound b n
