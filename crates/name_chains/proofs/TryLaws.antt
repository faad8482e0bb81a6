-- How a try goes on: along the chain of its family and length, and along all entries of a section. Assumes nothing.
use mathlib.Core.Path.{◌≡◌, refl, sym, ap, ap₂, ◌∙◌}
use mathlib.Core.Bool.{Bool, true, false, cond, ◌&&◌, false≢true}
use mathlib.Core.List.{List, [], ◌∷◌}
use Prim.Native.Nat.{ℕ, zero, suc, ◌+◌, ◌*◌, ◌<◌, ◌≤◌}
use native.Mathlib.Omega.{arith}
use borrow.Author.Tests.{eqb-false}
use lib.Dec.{eqb}
use lib.ListN.{length, drop}
use lib.Seq.{drop-drop}
use Rattle.policy.specs.Basics.{Name, same}
use Rattle.policy.specs.Encode.{NameEntry, name_entry}
use Rattle.symbols.specs.Section.{entries_at, between, EntryIs}
use Rattle.symbols.specs.Lookup.{family_number, first_named, found_at}
use Rattle.symbols.specs.declared.Entry.{Entry}
use Rattle.std.specs.Prelude.{None}
use Rattle.symbols.proofs.SameLaws.{same_length}
use Rattle.symbols.proofs.FindLaws.{ahead}
use Rattle.symbols.proofs.SearchLaws.{own-entry}
use Rattle.name_chains.specs.Compared.{is_candidate, compared_in, TriedIn}
use Rattle.name_chains.specs.Chains.{how_many, first_candidate, Nth}
use Rattle.name_chains.proofs.CandidateLaws.{candidate-is, none-many}

-- ---- by one entry

module _ (f : ℕ) (w : Name) (e : NameEntry) (es : List NameEntry) where
  -- an entry of the family and length is compared
  pub first_by : is_candidate f (length w) e ≡ true → first_named f w (e ∷ es) ≡ cond (same w e.name) (found_at e.sort e.number) (first_named f w es)
  first_by q = own-entry f w e es (candidate-is f (length w) e q).0

  pub compared-by : is_candidate f (length w) e ≡ true → compared_in f w (e ∷ es) ≡ cond (same w e.name) 1 (1 + compared_in f w es)
  unfolding compared_in
  compared-by q = rw q

  pub many_by : is_candidate f (length w) e ≡ true → how_many f (length w) (e ∷ es) ≡ 1 + how_many f (length w) es
  unfolding how_many
  many_by q = rw q

  -- any other is stepped over
  not_named : (p r : Bool) → eqb (family_number e.sort e.number) f ≡ p → eqb (length e.name) (length w) ≡ r → (p && r) ≡ false
      → (p && same w e.name) ≡ false
  not_named true true a b h = absurd (false≢true (sym h))
  not_named true false a b h = same_length w e.name (λ z. eqb-false (length e.name) (length w) b (sym z))
  not_named false r a b h = refl

  pub first_past : is_candidate f (length w) e ≡ false → first_named f w (e ∷ es) ≡ first_named f w es
  unfolding first_named
  first_past q = rw (not_named (eqb (family_number e.sort e.number) f) (eqb (length e.name) (length w)) refl refl q)

  pub compared-past : is_candidate f (length w) e ≡ false → compared_in f w (e ∷ es) ≡ compared_in f w es
  unfolding compared_in
  compared-past q = rw q

  pub many-past : is_candidate f (length w) e ≡ false → how_many f (length w) (e ∷ es) ≡ how_many f (length w) es
  unfolding how_many
  many-past q = rw q

  pub at-by : is_candidate f (length w) e ≡ true → first_candidate f (length w) (e ∷ es) ≡ 0
  unfolding first_candidate
  at-by q = rw q

  pub at-past : is_candidate f (length w) e ≡ false → first_candidate f (length w) (e ∷ es) ≡ suc (first_candidate f (length w) es)
  unfolding first_candidate
  at-past q = rw q (omega arith)

-- ---- along a chain

-- the entry i of the entries xs is the first of the chain, and what the try says is what it says from there on
pub record Met (f : ℕ) (w : Name) (xs : List NameEntry) (i : ℕ) : Type 0 where
  pub entry : NameEntry
  pub nth : Nth xs i entry
  pub like : is_candidate f (length w) entry ≡ true
  pub many : how_many f (length w) xs ≡ 1 + how_many f (length w) (drop (suc i) xs)
  pub finds : first_named f w xs ≡ cond (same w entry.name) (found_at entry.sort entry.number) (first_named f w (drop (suc i) xs))
  pub compares : compared_in f w xs ≡ cond (same w entry.name) 1 (1 + compared_in f w (drop (suc i) xs))

module _ (f : ℕ) (w : Name) where
  pub met : (xs : List NameEntry) (i : ℕ) → 0 < how_many f (length w) xs → first_candidate f (length w) xs ≡ i → Met f w xs i
  met [] i h e = absurd (omega (arith, none-many f (length w)))
  met (x ∷ xs) i h e = by (λ j g d. met xs j g d) (is_candidate f (length w) x) refl i e
    where
      by : ((j : ℕ) → 0 < how_many f (length w) xs → first_candidate f (length w) xs ≡ j → Met f w xs j) → (q : Bool) → is_candidate f (length w) x ≡ q
          → (i : ℕ) → first_candidate f (length w) (x ∷ xs) ≡ i → Met f w (x ∷ xs) i
      by ih true q zero e = record {
        entry = x;
        nth = refl;
        like = q;
        many = many_by f w x xs q;
        finds = first_by f w x xs q;
        compares = compared-by f w x xs q;
      }
      by ih true q (suc i) e = absurd (omega (arith, at-by f w x xs q))
      by ih false q zero e = absurd (omega (arith, at-past f w x xs q))
      by ih false q (suc i) e =
          let m = ih i (omega (arith, many-past f w x xs q)) (omega (arith, at-past f w x xs q)) in
          record {
            entry = m.entry;
            nth = m.nth;
            like = m.like;
            many = many-past f w x xs q ∙ m.many;
            finds = first_past f w x xs q ∙ m.finds;
            compares = compared-past f w x xs q ∙ m.compares;
          }

  -- where the chain is empty, nothing is found and nothing compared
  pub nothing : (xs : List NameEntry) → how_many f (length w) xs ≡ 0 → (first_named f w xs ≡ None) × (compared_in f w xs ≡ 0)
  unfolding first_named compared_in
  nothing [] h = (refl, refl)
  nothing (x ∷ xs) h = by (λ g. nothing xs g) (is_candidate f (length w) x) refl
    where
      by : (how_many f (length w) xs ≡ 0 → (first_named f w xs ≡ None) × (compared_in f w xs ≡ 0)) → (q : Bool) → is_candidate f (length w) x ≡ q
          → (first_named f w (x ∷ xs) ≡ None) × (compared_in f w (x ∷ xs) ≡ 0)
      by ih true q = absurd (omega (arith, many_by f w x xs q))
      by ih false q =
          let n = ih (sym (many-past f w x xs q) ∙ h) in
          (first_past f w x xs q ∙ n.0, compared-past f w x xs q ∙ n.1)

-- so many were compared, and the try is at the entry k of the chain, whose first word is `at`
pub record Here (f : ℕ) (w : Name) (es : List NameEntry) (count at compared : ℕ) : Type 0 where
  pub k : ℕ
  pub word : at ≡ 2 * k
  pub entry : NameEntry
  pub nth : Nth es k entry
  pub like : is_candidate f (length w) entry ≡ true
  pub many : count ≡ compared + (1 + how_many f (length w) (drop (suc k) es))
  pub finds : first_named f w es ≡ cond (same w entry.name) (found_at entry.sort entry.number) (first_named f w (drop (suc k) es))
  pub compares : compared_in f w es ≡ compared + cond (same w entry.name) 1 (1 + compared_in f w (drop (suc k) es))

pub record Going (f : ℕ) (w : Name) (es : List NameEntry) (count at compared : ℕ) : Type 0 where
  pub here : compared < count → Here f w es count at compared
  pub done : count ≤ compared → (None ≡ first_named f w es) × (compared ≡ compared_in f w es)

module _ {f : ℕ} {w : Name} {es : List NameEntry} where
  -- it begins at the first entry of the chain
  pub starts : (count at : ℕ) → count ≡ how_many f (length w) es → (0 < how_many f (length w) es → at ≡ 2 * first_candidate f (length w) es)
      → Going f w es count at 0
  starts count at c a = record {
    here = λ l.
        let some : 0 < how_many f (length w) es = omega (arith, c) in
        let i : ℕ = first_candidate f (length w) es in
        let m = met f w es i some refl in
        record {
          k = i;
          word = a some;
          entry = m.entry;
          nth = m.nth;
          like = m.like;
          many = omega (arith, c, m.many);
          finds = m.finds;
          compares = m.compares ∙ omega arith;
        };
    done = λ z. let n = nothing f w es (omega (arith, c)) in (sym n.0, sym n.1);
  }

  module _ {count at compared : ℕ} (h : Here f w es count at compared) where
    -- the name is that of the entry
    pub is-hit : same w h.entry.name ≡ true → (s n : ℕ) → s ≡ h.entry.sort → n ≡ h.entry.number
        → TriedIn f w es (record { found = found_at s n; compared = compared + 1 })
    is-hit q s n a b = record {
      finds = sym (h.finds ∙ rw q (ap₂ found_at (sym a) (sym b)));
      counts = sym (h.compares ∙ rw q);
    }

    -- it is another, and the try goes on at the next of the chain
    pub goes_on : same w h.entry.name ≡ false → (next : ℕ)
        → (0 < how_many f (length w) (drop (suc h.k) es) → next ≡ 2 * (suc h.k + first_candidate f (length w) (drop (suc h.k) es)))
        → Going f w es count next (compared + 1)
    goes_on q next n =
        let k : ℕ = h.k in
        let found : first_named f w es ≡ first_named f w (drop (suc k) es) = h.finds ∙ rw q in
        let so_far : compared_in f w es ≡ compared + (1 + compared_in f w (drop (suc k) es)) = h.compares ∙ rw q in
        record {
          here = λ l.
              let more : 0 < how_many f (length w) (drop (suc k) es) = omega (arith, h.many) in
              let i : ℕ = first_candidate f (length w) (drop (suc k) es) in
              let j : ℕ = suc k + i in
              let m = met f w (drop (suc k) es) i more refl in
              let to : drop i (drop (suc k) es) ≡ drop j es = drop-drop i (suc k) es in
              let step : suc k + suc i ≡ suc j = omega arith in
              let past : drop (suc i) (drop (suc k) es) ≡ drop (suc j) es = drop-drop (suc i) (suc k) es ∙ ap (λ (a : ℕ). drop a es) step in
              record {
                k = j;
                word = n more;
                entry = m.entry;
                nth = sym to ∙ m.nth ∙ ap (λ (l : List NameEntry). m.entry ∷ l) past;
                like = m.like;
                many = omega (arith, h.many, m.many, ap (how_many f (length w)) past);
                finds =
                    found ∙ m.finds
                    ∙ ap (λ (l : List NameEntry). cond (same w m.entry.name) (found_at m.entry.sort m.entry.number) (first_named f w l)) past;
                compares =
                    so_far
                    ∙ ap (λ (a : ℕ). compared + (1 + a))
                    (m.compares ∙ ap (λ (l : List NameEntry). cond (same w m.entry.name) 1 (1 + compared_in f w l)) past)
                    ∙ omega arith;
              };
          done = λ z.
              let none : how_many f (length w) (drop (suc k) es) ≡ 0 = omega (arith, h.many) in
              let x = nothing f w (drop (suc k) es) none in
              (sym (found ∙ x.0), sym (so_far ∙ omega (arith, x.1)));
        }

-- ---- along the entries of a section

module _ {t : List ℕ} {at end s n past : ℕ} (h : EntryIs t at end (Entry.Named s n past)) where
  module _ (f : ℕ) (w : Name) where
    pub past_first : is_candidate f (length w) (name_entry s n (between t (at + 4) past)) ≡ false
        → first_named f w (entries_at t past end) ≡ first_named f w (entries_at t at end)
    past_first q = sym (ap (first_named f w) (ahead h) ∙ first_past f w (name_entry s n (between t (at + 4) past)) (entries_at t past end) q)

    pub past-compared : is_candidate f (length w) (name_entry s n (between t (at + 4) past)) ≡ false
        → compared_in f w (entries_at t past end) ≡ compared_in f w (entries_at t at end)
    past-compared q = sym (ap (compared_in f w) (ahead h) ∙ compared-past f w (name_entry s n (between t (at + 4) past)) (entries_at t past end) q)

    pub this-first : is_candidate f (length w) (name_entry s n (between t (at + 4) past)) ≡ true
        → first_named f w (entries_at t at end) ≡ cond (same w (between t (at + 4) past)) (found_at s n) (first_named f w (entries_at t past end))
    this-first q = ap (first_named f w) (ahead h) ∙ first_by f w (name_entry s n (between t (at + 4) past)) (entries_at t past end) q

    pub this-compared : is_candidate f (length w) (name_entry s n (between t (at + 4) past)) ≡ true
        → compared_in f w (entries_at t at end) ≡ cond (same w (between t (at + 4) past)) 1 (1 + compared_in f w (entries_at t past end))
    this-compared q = ap (compared_in f w) (ahead h) ∙ compared-by f w (name_entry s n (between t (at + 4) past)) (entries_at t past end) q
