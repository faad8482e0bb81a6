-- Entries written at the end of the symbols, one after the other. Assumes nothing.
use Rattle.std.specs.Prelude.{None, Option, Some}
use mathlib.Core.Path.{◌≡◌, refl, sym, ap, ap₂, subst, ◌∙◌}
use mathlib.Core.List.{List, [], ◌∷◌, ◌++◌, append-nil, append_assoc}
use Prim.Native.Nat.{ℕ, suc, ◌+◌, ◌-◌, ◌<◌, ◌≤◌}
use native.Mathlib.Nat.{add-zero}
use native.Mathlib.Omega.{arith}
use lib.ListN.{length, take, length-append}
use lib.Seq.{length-take-le}
use Rattle.byte_slices.specs.Parts.{part, put}
use Rattle.bitset.specs.Relations.{joined}
use Rattle.byte_slices.proofs.PartLaws.{put-none, put-put}
use Rattle.policy.specs.Basics.{Name, each, All}
use Rattle.policy.specs.Encode.{NameEntry, name_entry, entry_bytes, permission_entries}
use Rattle.policy.proofs.Lists.{each_append, joined-append, all_right}
use Rattle.name_chains.specs.Entered as symbol
use Rattle.name_chains.specs.Chains.{Chained}
use Rattle.symbols.proofs.AppendLaws.{entry_length}
use Rattle.byte_slices.proofs.PartLaws.{part-whole}
use Rattle.symbols.proofs.DeclaredEntries.{permission-more}
use Rattle.symbols.specs.Section.{name_bytes}
use Rattle.scopes.proofs.SharedMemory.{scope_kept}
use Rattle.declarations.specs.NewEntries.{Indexable, Entered, Fitting, Enters}
use Rattle.name_index.specs.Index.{index_bytes}

-- the bytes of entries
abbrev bytes_of : List NameEntry → List ℕ
bytes_of es = joined (each entry_bytes es)

pub bytes-append : (es fs : List NameEntry) → joined (each entry_bytes (es ++ fs)) ≡ joined (each entry_bytes es) ++ joined (each entry_bytes fs)
bytes-append es fs = ap joined (each_append entry_bytes es fs) ∙ joined-append (each entry_bytes es) (each entry_bytes fs)

bytes_one : (e : NameEntry) → bytes_of (e ∷ []) ≡ entry_bytes e
unfolding each joined
bytes_one e = append-nil (entry_bytes e)

long-one : (e : NameEntry) → length (bytes_of (e ∷ [])) ≡ 4 + length e.name
long-one e = ap length (bytes_one e) ∙ entry_length e

-- ---- some entries

-- some and others
indexable-then : (xs es fs : List NameEntry) → Indexable xs (es ++ fs) → Indexable xs es × Indexable (xs ++ es) fs
unfolding Indexable
indexable-then xs [] fs h = (tt, subst (λ (l : List NameEntry). Indexable l fs) (sym (append-nil xs)) h)
indexable-then xs (e ∷ es) fs h =
    let r = indexable-then (xs ++ (e ∷ [])) es fs h.3 in
    ((h.0, h.1, h.2, r.0), subst (λ (l : List NameEntry). Indexable l fs) (append_assoc xs (e ∷ []) es) r.1)

pub entered-then : {a b c : List ℕ} {end past next : ℕ} {es fs : List NameEntry} → Entered a b end es past → Entered b c past fs next → Entered a c end (es ++ fs) next
entered-then {a} {b} {c} {end} {past} {next} {es} {fs} h g =
    let short : length (take name_bytes a) ≡ name_bytes = length-take-le name_bytes a (omega (arith, h.room)) in
    let all : length (bytes_of (es ++ fs)) ≡ length (bytes_of es) + length (bytes_of fs) = ap length (bytes-append es fs) ∙ length-append (bytes_of es) (bytes_of fs) in
    record {
      room = h.room;
      written =
          g.written ∙ ap₂ (λ (t : List ℕ) (o : ℕ). put t o (bytes_of fs)) h.written h.moved
          ∙ put-put (take name_bytes a) end (bytes_of es) (bytes_of fs) (omega (arith, h.moved, g.moved, g.fits, short))
          ∙ ap (put (take name_bytes a) end) (sym (bytes-append es fs));
      long = g.long ∙ h.long;
      moved = omega (arith, h.moved, g.moved, all);
      fits = g.fits;
      chained = λ xs i n.
          let m = indexable-then xs es fs n in
          subst (Chained c next) (append_assoc xs es fs) (g.chained (xs ++ es) (h.chained xs i m.0) m.1);
      scope = λ path sc. g.scope path (h.scope path sc);
    }

pub entered-none : (a : List ℕ) (end : ℕ) → end ≤ name_bytes → index_bytes ≤ length a → Entered a a end [] end
unfolding each joined
entered-none a end h room = record {
  room = room;
  written = sym (put-none (take name_bytes a) end);
  long = refl;
  moved = omega arith;
  fits = h;
  chained = λ xs i n. subst (Chained a end) (sym (append-nil xs)) i;
  scope = λ path sc. sc;
}

-- ---- one entry: the answers of `add`

module _ (t : List ℕ) (end s n : ℕ) (w : Name) where
  abbrev one : List NameEntry
  one = name_entry s n w ∷ []

  pub too_long : 64 < length w → Enters t t end one None
  too_long h = record { is = λ f. omega (arith, f.short.0) }

  pub past_end : name_bytes < end → Enters t t end one None
  past_end h = record { is = λ f. omega (arith, f.room) }

  pub no_room : end ≤ name_bytes → name_bytes - end < 4 + length w → Enters t t end one None
  no_room g h = record { is = λ f. omega (arith, f.room, long-one (name_entry s n w)) }

  pub appended : (u : List ℕ) (r : ℕ) → index_bytes ≤ length t → s < 8 → length w ≤ 64 → symbol.Entered t u end (name_entry s n (part w 0 (length w))) r
      → Enters t u end one (Some r)
  unfolding Indexable
  appended u r room known short whole =
      let a = subst (λ (v : Name). symbol.Entered t u end (name_entry s n v) r) (part-whole w) whole in
      let e = bytes_one (name_entry s n w) in
      record {
        is = record {
          room = room;
          written = a.written ∙ ap (put (take name_bytes t) end) (sym e);
          long = a.long;
          moved = a.past ∙ ap (λ (l : List ℕ). end + length l) (sym e);
          fits = a.inside;
          chained = λ xs i n. a.chained xs i n.0 n.1 n.2;
          scope = λ path sc. scope_kept known short a sc;
        };
      }

-- what is known of the answer k
pub enters-told : {a b : List ℕ} {end : ℕ} {es : List NameEntry} {r k : Option ℕ} → Enters a b end es r → r ≡ k → Enters a b end es k
enters-told {a} {b} {end} {es} h e = subst (Enters a b end es) e h

-- by another name for the name
pub enters-named : {a b : List ℕ} {end s n : ℕ} {v w : Name} {r : Option ℕ} → v ≡ w → Enters a b end (name_entry s n v ∷ []) r → Enters a b end (name_entry s n w ∷ []) r
enters-named {a} {b} {end} {s} {n} {v} {w} {r} e h = subst (λ (x : Name). Enters a b end (name_entry s n x ∷ []) r) e h

-- ---- the permissions of a class

permission-append : (n : ℕ) (ps qs : List Name) → permission_entries n (ps ++ qs) ≡ permission_entries n ps ++ permission_entries (n + length ps) qs
unfolding permission_entries
permission-append n [] qs = ap (λ (k : ℕ). permission_entries k qs) (sym (add-zero n))
permission-append n (p ∷ ps) qs =
    ap (λ (r : List NameEntry). name_entry 7 n p ∷ r)
    (permission-append (n + 1) ps qs ∙ ap (λ (k : ℕ). permission_entries (n + 1) ps ++ permission_entries k qs) (omega arith))

-- the first of the names ws are written; the others are left
pub record SoFar (before now : List ℕ) (end first : ℕ) (ws left : List Name) (past place : ℕ) : Type 0 where
  pub done : List Name
  pub whole : ws ≡ done ++ left
  pub many : length done ≡ place
  pub entered : Entered before now end (permission_entries first done) past

pub so-far-none : (a : List ℕ) (end first : ℕ) (ws : List Name) → end ≤ name_bytes → index_bytes ≤ length a → SoFar a a end first ws ws end 0
unfolding permission_entries
so-far-none a end first ws h room = record { done = []; whole = refl; many = refl; entered = entered-none a end h room }

module _ {a b : List ℕ} {end first : ℕ} {ws left : List Name} {past place : ℕ} (h : SoFar a b end first ws left past place) where
  pub so-far-long : length b ≡ length a
  so-far-long = h.entered.long

  -- none is left
  pub all-written : left ≡ [] → Enters a b end (permission_entries first ws) (Some past)
  all-written e =
      let all : ws ≡ h.done = h.whole ∙ ap (λ (l : List Name). h.done ++ l) e ∙ append-nil h.done in
      record { is = subst (λ (l : List Name). Entered a b end (permission_entries first l) past) (sym all) h.entered }

  module _ (w : Name) (rest : List Name) (next : left ≡ w ∷ rest) where
    split : ws ≡ h.done ++ (w ∷ rest)
    split = h.whole ∙ ap (λ (l : List Name). h.done ++ l) next

    -- fewer than all are written
    pub one_left : place < length ws
    one_left =
        let n : length ws ≡ length h.done + suc (length rest) = ap length split ∙ length-append h.done (w ∷ rest) in
        omega (arith, h.many)

    -- the entries of all of them: those that are written, the next one, and the others
    parted : permission_entries first ws ≡ permission_entries first h.done ++ ((name_entry 7 (first + place) w ∷ []) ++ permission_entries (first + place + 1) rest)
    unfolding permission_entries
    parted = ap (permission_entries first) split ∙ permission-append first h.done (w ∷ rest) ∙ rw h.many

    next_fits : Fitting end (permission_entries first ws) → Fitting past (name_entry 7 (first + place) w ∷ [])
    next_fits f =
        let one = name_entry 7 (first + place) w ∷ [] in
        let others = permission_entries (first + place + 1) rest in
        let n : length (bytes_of (permission_entries first ws)) ≡ length (bytes_of (permission_entries first h.done)) + (length (bytes_of one) + length (bytes_of others)) =
        ap (λ (es : List NameEntry). length (bytes_of es)) parted ∙ ap length (bytes-append (permission_entries first h.done) (one ++ others))
        ∙ length-append (bytes_of (permission_entries first h.done)) (bytes_of (one ++ others))
        ∙ ap (λ (k : ℕ). length (bytes_of (permission_entries first h.done)) + k) (ap length (bytes-append one others) ∙ length-append (bytes_of one) (bytes_of others)) in
        let each = all_right (λ (e : NameEntry). length e.name ≤ 64) (permission_entries first h.done) (one ++ others)
        (subst (All (λ (e : NameEntry). length e.name ≤ 64)) parted f.short) in
        record {
          room = omega (arith, f.room, n, h.entered.moved);
          short = (each.0, tt);
        }

    pub next-no-room : (c : List ℕ) → Enters b c past (name_entry 7 (first + place) w ∷ []) None
        → Enters a c end (permission_entries first ws) None
    next-no-room c g = record { is = λ f. g.is (next_fits f) }

    pub next-written : (c : List ℕ) (q : ℕ) → Enters b c past (name_entry 7 (first + place) w ∷ []) (Some q)
        → SoFar a c end first ws rest q (place + 1)
    next-written c q g = record {
      done = h.done ++ (w ∷ []);
      whole = split ∙ sym (append_assoc h.done (w ∷ []) rest);
      many = length-append h.done (w ∷ []) ∙ omega (arith, h.many);
      entered =
          subst (λ (es : List NameEntry). Entered a c end es q)
          (sym (permission-more first h.done w ∙ ap (λ (k : ℕ). permission_entries first h.done ++ (name_entry 7 (first + k) w ∷ [])) h.many))
          (entered-then h.entered g.is);
    }
