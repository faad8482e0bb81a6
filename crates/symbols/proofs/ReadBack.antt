-- A section's bytes and its entries: what is written is read back, only that is, policy's reader of body 1 reads the same, and after a
-- section that is used up exactly reading goes on. All by one induction, `by_entries`. Assumes nothing.
use mathlib.Core.Path.{◌≡◌, refl, sym, ap, ◌∙◌}
use mathlib.Core.Bool.{Bool, true, false, cond, false≢true}
use mathlib.Core.List.{List, [], ◌∷◌, ◌++◌, append_assoc, append-nil}
use mathlib.Core.Option.{none, some}
use Prim.Native.Nat.{ℕ, zero, suc, ◌+◌, ◌*◌, ◌/◌, ◌%◌, ◌≤◌, ◌<◌}
use native.Mathlib.Omega.{arith}
use borrow.Author.Tests.{leb-true, leb-false}
use lib.Dec.{leb}
use lib.ListN.{length, take, drop, length-append, length-drop, take-append-drop}
use lib.Seq.{take-append-le, drop-append-le, length-take-le, take-append_seam, drop-append_seam}
use Rattle.bitset.specs.Relations.{joined}
use Rattle.policy.specs.Basics.{each, le, given, more, All}
use Rattle.policy.specs.Encode.{NameEntry, name_entry, entry_bytes}
use Rattle.policy.specs.Sound.{entries_in}
use Rattle.policy.proofs.Options.{given-some}
use Rattle.symbols.specs.Section.{Section, done, broken, entry, read_by, section_in, entries_read, is_exact, exact_entries}
use Rattle.symbols.proofs.SectionLaws.{section-entry, section-cut, section-none, section-short}

-- what holds of no bytes, of any bytes that are no entry, and of an entry where it holds of what is beneath it, holds of every section
module _ (P : List ℕ → Section → Type 0) (ends : P [] done) (stops : (p : List ℕ) → P p broken)
    (goes : (a b c n : ℕ) (r : List ℕ) → n ≤ length r → P (drop n r) (section_in (drop n r))
    → P (a ∷ b ∷ c ∷ n ∷ r) (entry (name_entry a (b + 256 * c) (take n r)) (section_in (drop n r)))) where
  by-fuel : (k : ℕ) (p : List ℕ) → length p ≤ k → P p (section_in p)
  by-fuel zero [] h = rw section-none ends
  by-fuel (suc k) [] h = rw section-none ends
  by-fuel zero (a ∷ p) h = absurd (omega arith)
  by-fuel (suc k) (a ∷ []) h = rw (section-short (a ∷ []) (omega arith) (omega arith)) (stops (a ∷ []))
  by-fuel (suc k) (a ∷ b ∷ []) h = rw (section-short (a ∷ b ∷ []) (omega arith) (omega arith)) (stops (a ∷ b ∷ []))
  by-fuel (suc k) (a ∷ b ∷ c ∷ []) h = rw (section-short (a ∷ b ∷ c ∷ []) (omega arith) (omega arith)) (stops (a ∷ b ∷ c ∷ []))
  by-fuel (suc k) (a ∷ b ∷ c ∷ n ∷ r) h = by (by-fuel k (drop n r) (omega (arith, length-drop n r))) (leb n (length r)) refl
    where
      by : P (drop n r) (section_in (drop n r)) → (q : Bool) → leb n (length r) ≡ q → P (a ∷ b ∷ c ∷ n ∷ r) (section_in (a ∷ b ∷ c ∷ n ∷ r))
      by ih true q = rw (section-entry a b c n r (leb-true n (length r) q)) (goes a b c n r (leb-true n (length r) q) ih)
      by ih false q = rw (section-cut a b c n r (leb-false n (length r) q)) (stops (a ∷ b ∷ c ∷ n ∷ r))

  pub by_entries : (p : List ℕ) → P p (section_in p)
  by_entries p = by-fuel (length p) p (omega arith)

pub exact-some : (s : Section) (es : List NameEntry) → exact_entries s ≡ some es → (is_exact s ≡ true) × (entries_read s ≡ es)
exact-some s es h = given-some (is_exact s) (entries_read s) es h

-- ---- what is written is read back

abbrev pub Small : List NameEntry → Type 0
Small es = All (λ (e : NameEntry). e.number < 65536) es

-- entries, and then another section
abbrev pub over : List NameEntry → Section → Section
over [] s = s
over (e ∷ es) s = entry e (over es s)

pub exact-over : (es : List NameEntry) (s : Section) → is_exact (over es s) ≡ is_exact s
unfolding is_exact
exact-over [] s = refl
exact-over (e ∷ es) s = exact-over es s

pub entries_over : (es : List NameEntry) (s : Section) → entries_read (over es s) ≡ es ++ entries_read s
unfolding entries_read
entries_over [] s = refl
entries_over (e ∷ es) s = ap (λ (r : List NameEntry). e ∷ r) (entries_over es s)

pub entry-back : (e : NameEntry) → e.number < 65536 → (x : List ℕ) → section_in (entry_bytes e ++ x) ≡ entry e (section_in x)
unfolding le
entry-back e h x =
    let n : e.number % 256 + 256 * (e.number / 256 % 256) ≡ e.number = omega arith in
    section-entry e.sort (e.number % 256) (e.number / 256 % 256) (length e.name) (e.name ++ x) (omega (arith, length-append e.name x))
    ∙ rw (take-append_seam e.name x, drop-append_seam e.name x, n)

pub written_over : (es : List NameEntry) → Small es → (x : List ℕ) → section_in (joined (each entry_bytes es) ++ x) ≡ over es (section_in x)
unfolding joined each
written_over [] h x = refl
written_over (e ∷ es) h x =
    ap section_in (append_assoc (entry_bytes e) (joined (each entry_bytes es)) x)
    ∙ entry-back e h.0 (joined (each entry_bytes es) ++ x) ∙ ap (entry e) (written_over es h.1 x)

-- the entries that were written are read, and the section ends with them
pub read_back : (es : List NameEntry) → Small es → exact_entries (section_in (joined (each entry_bytes es))) ≡ some es
unfolding is_exact entries_read
read_back es h =
    ap exact_entries (ap section_in (sym (append-nil (joined (each entry_bytes es)))) ∙ written_over es h [] ∙ ap (over es) section-none)
    ∙ rw (exact-over es done, entries_over es done, append-nil es)

-- ---- only what is written is read

all_drop : (n : ℕ) (s : List ℕ) → All (λ b. b < 256) s → All (λ b. b < 256) (drop n s)
all_drop zero s h = h
all_drop (suc n) [] h = h
all_drop (suc n) (b ∷ bs) h = all_drop n bs h.1

high : (b c : ℕ) → b < 256 → c < 256 → (b + 256 * c) / 256 % 256 ≡ c
high b c h l = let q : (b + 256 * c) / 256 ≡ c = omega arith in rw q (omega arith)

written : (p : List ℕ) → All (λ b. b < 256) p → is_exact (section_in p) ≡ true → joined (each entry_bytes (entries_read (section_in p))) ≡ p
unfolding is_exact entries_read joined each le
written = by_entries (λ p s. All (λ b. b < 256) p → is_exact s ≡ true → joined (each entry_bytes (entries_read s)) ≡ p) (λ h e. refl) (λ p h e. absurd (false≢true e))
    (λ a b c n r l ih h e.
    let lo : (b + 256 * c) % 256 ≡ b = omega (arith, h.1.0) in
    let hi : (b + 256 * c) / 256 % 256 ≡ c = high b c h.1.0 h.1.1.0 in
    rw (lo, hi, length-take-le n r l, ih (all_drop n r h.1.1.1.1) e, take-append-drop n r))

pub only-written : (p : List ℕ) (es : List NameEntry) → All (λ b. b < 256) p → exact_entries (section_in p) ≡ some es → p ≡ joined (each entry_bytes es)
only-written p es h e =
    let x = exact-some (section_in p) es e in
    sym (written p h x.0) ∙ ap (λ (es : List NameEntry). joined (each entry_bytes es)) x.1

-- ---- reading goes on after it

pub read-on : (x p : List ℕ) → is_exact (section_in p) ≡ true → section_in (p ++ x) ≡ over (entries_read (section_in p)) (section_in x)
unfolding is_exact entries_read
read-on x = by_entries (λ p s. is_exact s ≡ true → section_in (p ++ x) ≡ over (entries_read s) (section_in x)) (λ e. refl) (λ p e. absurd (false≢true e))
    (λ a b c n r l ih e.
    section-entry a b c n (r ++ x) (omega (arith, length-append r x))
    ∙ rw (take-append-le n r x l, drop-append-le n r x l) (ap (entry (name_entry a (b + 256 * c) (take n r))) (ih e)))

-- ---- policy's reader of body 1

exact-more : (e : NameEntry) (s : Section) → exact_entries (entry e s) ≡ more (some e) (exact_entries s)
unfolding is_exact entries_read
exact-more e s = by (is_exact s)
  where
    by : (q : Bool) → given q (e ∷ entries_read s) ≡ more (some e) (given q (entries_read s))
    by true = refl
    by false = refl

policy-reads-by : (k : ℕ) (t : List ℕ) → exact_entries (read_by k t) ≡ entries_in k t
unfolding read_by entries_in is_exact entries_read
policy-reads-by zero [] = refl
policy-reads-by zero (s ∷ t) = refl
policy-reads-by (suc k) [] = refl
policy-reads-by (suc k) (s ∷ []) = refl
policy-reads-by (suc k) (s ∷ a ∷ []) = refl
policy-reads-by (suc k) (s ∷ a ∷ b ∷ []) = refl
policy-reads-by (suc k) (s ∷ a ∷ b ∷ n ∷ t) = by (leb n (length t)) (policy-reads-by k (drop n t))
  where
    by : (q : Bool) → exact_entries (read_by k (drop n t)) ≡ entries_in k (drop n t)
        → exact_entries (cond q (entry (name_entry s (a + 256 * b) (take n t)) (read_by k (drop n t))) broken)
        ≡ cond q (more (some (name_entry s (a + 256 * b) (take n t))) (entries_in k (drop n t))) none
    by true ih = exact-more (name_entry s (a + 256 * b) (take n t)) (read_by k (drop n t)) ∙ ap (more (some (name_entry s (a + 256 * b) (take n t)))) ih
    by false ih = refl

pub policy-reads : (t : List ℕ) → exact_entries (section_in t) ≡ entries_in (length t) t
unfolding section_in
policy-reads t = policy-reads-by (length t) t
