-- How the search for a sort and number goes on by what `next_entry` found. Assumes nothing.
use mathlib.Core.Path.{◌≡◌, refl, sym, ap, ◌∙◌}
use mathlib.Core.Bool.{Bool, true, false, ◌&&◌}
use mathlib.Core.List.{List, [], ◌∷◌}
use Prim.Native.Nat.{ℕ, min, ◌+◌, ◌-◌}
use native.Mathlib.Omega.{arith}
use borrow.Author.Tests.{eq-eqb, ne_eqb, leb-true, leb-false}
use lib.Dec.{eqb, leb}
use lib.ListN.{length}
use Rattle.policy.specs.Basics.{le}
use Rattle.policy.specs.Encode.{NameEntry, name_entry, entry_bytes}
use Rattle.policy.specs.Deciding.{refused}
use Rattle.policy.specs.Questions.{name_from}
use Rattle.byte_slices.proofs.PartLaws.{length-part-min}
use Rattle.symbols.specs.Section.{entries_read, entries_at, between, EntryIs}
use Rattle.symbols.specs.Lookup.{reply_of}
use Rattle.symbols.specs.declared.Entry.{Entry}
use Rattle.std.specs.Prelude.{Some}
use Rattle.symbols.proofs.EntryLaws.{none-past, begins}

-- where no entry stands, none is left
pub none_done : {t : List ℕ} {at end : ℕ} → EntryIs t at end Entry.Done → entries_at t at end ≡ []
unfolding entries_read
none_done h = ap entries_read h.reads

pub none-broken : {t : List ℕ} {at end : ℕ} → EntryIs t at end Entry.Broken → entries_at t at end ≡ []
unfolding entries_read
none-broken h = ap entries_read h.reads

pub no-entry : {t : List ℕ} {at end : ℕ} (r : Entry) → EntryIs t at end r → ((s n past : ℕ) → r ≡ Entry.Named s n past → ⊥) → entries_at t at end ≡ []
no-entry (Entry.Named s n past) h d = absurd (d s n past refl)
no-entry Entry.Done h d = none_done h
no-entry Entry.Broken h d = none-broken h

pub none-numbered : (s n o : ℕ) (es : List NameEntry) → es ≡ [] → refused 12 0 ≡ name_from s n o es
unfolding name_from
none-numbered s n o es h = rw h

-- the question of a name may begin where the walk starts, or at the end of the section where that comes first
pub name-begins : (s n : ℕ) (t : List ℕ) (end last : ℕ) → last ≡ min end (length t) → (start first : ℕ) → first ≡ min start last
    → name_from s n first (entries_at t first last) ≡ name_from s n start (entries_at t start end)
name-begins s n t end last e start first f = go (leb start last) refl
  where
    read : entries_at t first last ≡ entries_at t start end
    read = ap entries_read (begins t end last e start first f)

    go : (q : Bool) → leb start last ≡ q → name_from s n first (entries_at t first last) ≡ name_from s n start (entries_at t start end)
    go true d =
        let same : first ≡ start = omega (arith, f, leb-true start last d) in
        ap (name_from s n first) read ∙ ap (λ (o : ℕ). name_from s n o (entries_at t start end)) same
    go false d =
        let none = none_done (none-past t end last e start (leb-false start last d)) in
        sym (none-numbered s n first (entries_at t first last) (read ∙ none)) ∙ none-numbered s n start (entries_at t start end) none

-- where an entry stands, it is the first of those that are left
module _ {t : List ℕ} {at end s n past : ℕ} (h : EntryIs t at end (Entry.Named s n past)) where
  pub ahead : entries_at t at end ≡ name_entry s n (between t (at + 4) past) ∷ entries_at t past end
  unfolding entries_read
  ahead = ap entries_read h.reads

  long : length (between t (at + 4) past) ≡ past - (at + 4)
  long = length-part-min t (at + 4) (past - (at + 4)) ∙ omega (arith, h.within)

  module _ (s' n' : ℕ) where
    passes : (eqb s s' && eqb n n') ≡ false → name_from s' n' past (entries_at t past end) ≡ name_from s' n' at (entries_at t at end)
    unfolding name_from le
    passes q =
        let z : at + length (entry_bytes (name_entry s n (between t (at + 4) past))) ≡ past = omega (arith, long, h.within) in
        sym (ap (name_from s' n' at) ahead ∙ rw (q, z))

    pub other-sort : (s ≡ s' → ⊥) → name_from s' n' past (entries_at t past end) ≡ name_from s' n' at (entries_at t at end)
    other-sort d = passes (rw (ne_eqb s s' d))

    pub other-number : s ≡ s' → (n ≡ n' → ⊥) → name_from s' n' past (entries_at t past end) ≡ name_from s' n' at (entries_at t at end)
    other-number e d = passes (rw (eq-eqb s s' e, ne_eqb n n' d))

    pub this-numbered : s ≡ s' → n ≡ n' → reply_of (Some (record { start = at + 4; length = past - (at + 4) })) ≡ name_from s' n' at (entries_at t at end)
    unfolding name_from
    this-numbered e d = sym (ap (name_from s' n' at) ahead ∙ rw (eq-eqb s s' e, eq-eqb n n' d, long))
