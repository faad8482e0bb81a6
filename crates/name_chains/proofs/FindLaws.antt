-- What the functions of a try know: of the names that are compared, of where a chain begins, of its turns and of its end. Assumes nothing.
use mathlib.Core.Path.{◌≡◌, refl, sym, ap, ap₂, subst, ◌∙◌}
use mathlib.Core.Bool.{Bool, true, false}
use mathlib.Core.List.{List, [], ◌∷◌}
use Prim.Native.Nat.{ℕ, suc, ◌+◌, ◌-◌, ◌*◌, ◌<◌, ◌≤◌}
use native.Mathlib.Omega.{arith}
use lib.ListN.{length}
use lib.Seq.{take_all}
use Rattle.byte_slices.specs.Parts.{part}
use Rattle.byte_slices.proofs.PartLaws.{small-part, length-part-min}
use Rattle.policy.specs.Basics.{Name, same, unle}
use Rattle.policy.specs.Encode.{NameEntry, name_entry}
use Rattle.policy.proofs.Lists.{same-is}
use Rattle.policy.proofs.AsNumbers.{Small, alike}
use Rattle.symbols.specs.Section.{entries_at, between, EntryIs}
use Rattle.symbols.specs.Lookup.{family_number, first_named, found_at}
use Rattle.symbols.specs.declared.Entry.{Entry}
use Rattle.std.specs.Prelude.{None}
use Rattle.byte_slices.proofs.PartLaws.{part-whole}
use Rattle.name_chains.specs.Compared.{is_candidate, compared_in, TriedIn}
use Rattle.name_chains.specs.Chains.{how_many, Nth, Chained, ChainIs, HasChain, Tries, Compares}
use Rattle.name_index.specs.Index.{front_of, word_in, chain_in, link_in, index_bytes}
use Rattle.name_chains.specs.declared.Tried.{Tried}
use Rattle.name_index.specs.declared.Chain.{Chain}
use Rattle.name_index.specs.declared.Link.{Link}
use Rattle.name_chains.proofs.CandidateLaws.{candidate-is, candidate-self}
use Rattle.name_chains.proofs.TryLaws.{past_first, past-compared, Going, starts, is-hit, goes_on, this-first, this-compared}

-- ---- comparing

module _ {t : List ℕ} {at : ℕ} {w : Name} where
  pub other-front : {x front : ℕ} → x ≡ word_in t at → front ≡ front_of w → (x ≡ front → ⊥) → Compares t at w false
  other-front {x} {front} e f d = record { compares = λ end es h k z v n l. by v (ap (word_in t) z ∙ (h.nodes k v n).front) (same w v.name) refl }
    where
      by : (v : NameEntry) → word_in t at ≡ front_of v.name → (q : Bool) → same w v.name ≡ q → false ≡ same w v.name
      by v g true q = absurd (d (e ∙ g ∙ ap front_of (sym (same-is w v.name q)) ∙ sym f))
      by v g false q = sym q

  -- a name of at most eight bytes is known by its front, since the lengths are the same
  pub same-front : {x front : ℕ} → Small t → Small w → x ≡ word_in t at → front ≡ front_of w → x ≡ front → length w ≤ 8 → Compares t at w true
  same-front s b e f q short = record {
    compares = λ end es h k z v n l.
        let is = h.nodes k v n in
        let small : Small v.name = subst Small is.stands (small-part t (link_in (word_in t (2 * k + 1))).place (length v.name) s) in
        let fronts : front_of w ≡ front_of v.name = sym f ∙ sym q ∙ e ∙ ap (word_in t) z ∙ is.front in
        let whole : unle w ≡ unle v.name = ap unle (sym (take_all 8 w short)) ∙ fronts ∙ ap unle (take_all 8 v.name (omega arith)) in
        sym (alike 0 w v.name b small (sym l) refl whole);
  }

  pub all-bytes : {link : Link} {r : Bool} → link ≡ link_in (word_in t (at + 1)) → r ≡ same (part w 0 (length w)) (part t link.place (length w))
      → Compares t at w r
  all-bytes {link} {r} i q = record {
    compares = λ end es h k z v n l.
        let place : link.place ≡ (link_in (word_in t (2 * k + 1))).place =
        ap (λ (a : Link). a.place) i ∙ ap (λ (a : ℕ). (link_in (word_in t (a + 1))).place) z in
        q ∙ ap₂ same (part-whole w) (ap₂ (part t) place (sym l) ∙ (h.nodes k v n).stands);
  }

-- ---- the chain that a try walks

none_of : (f n : ℕ) (es : List NameEntry) → ((k : ℕ) (e : NameEntry) → Nth es k e → is_candidate f n e ≡ false) → how_many f n es ≡ 0
unfolding how_many
none_of f n [] h = refl
none_of f n (x ∷ es) h = rw (h 0 x refl) (none_of f n es (λ k e g. h (suc k) e g))

not-like : (f n : ℕ) (e : NameEntry) → (family_number e.sort e.number ≡ f → length e.name ≡ n → ⊥) → is_candidate f n e ≡ false
not-like f n e h = by (is_candidate f n e) refl
  where
    by : (q : Bool) → is_candidate f n e ≡ q → is_candidate f n e ≡ false
    by true q = let z = candidate-is f n e q in absurd (h z.0 z.1)
    by false q = q

module _ {t : List ℕ} {f n : ℕ} {c : Chain} where
  -- where no memory with an index has entries of the family and length, the chain is what the number 0 reads as, which is empty
  none-there : c ≡ chain_in 0 → ((end : ℕ) (es : List NameEntry) → Chained t end es → how_many f n es ≡ 0) → HasChain t f n c
  none-there q h =
      let count : c.count ≡ 0 = ap (λ (a : Chain). a.count) q in
      let first : c.first ≡ 0 = ap (λ (a : Chain). a.first) q in
      record {
        room = λ l. absurd (omega (arith, count));
        small = omega (arith, first);
        is = λ end es y.
            let none = h end es y in
            record { count = count ∙ sym none; first = λ l. absurd (omega (arith, none)); last = λ l. absurd (omega (arith, none)) };
      }

  pub no_index : length t < index_bytes → c ≡ chain_in 0 → HasChain t f n c
  no_index l q = none-there q (λ end es y. absurd (omega (arith, y.room)))

  pub no-family : 36 ≤ f → c ≡ chain_in 0 → HasChain t f n c
  no-family l q = none-there q (λ end es y. none_of f n es (λ k e i. not-like f n e (λ a b. omega (arith, (y.nodes k e i).family))))

  pub no_length : 65 ≤ n → c ≡ chain_in 0 → HasChain t f n c
  no_length l q = none-there q (λ end es y. none_of f n es (λ k e i. not-like f n e (λ a b. omega (arith, (y.nodes k e i).long))))

  pub chain-there : {h : ℕ} → index_bytes ≤ length t → f < 36 → n < 65 → h ≡ word_in t (4096 + 65 * f + n) → c ≡ chain_in h → HasChain t f n c
  chain-there {h} room a b e q =
      let first : c.first ≡ (chain_in h).first = ap (λ (a : Chain). a.first) q in
      record {
        room = λ l. room;
        small = omega (arith, first);
        is = λ end es y. subst (λ (i : Chain). ChainIs i f n es) (sym (q ∙ ap chain_in e)) (y.chains f n a (omega arith));
      }

-- ---- along a chain

-- what the loop of `find` keeps
abbrev pub Walks : List ℕ → ℕ → Name → ℕ → ℕ → ℕ → Type 0
Walks t f w count at compared = (end : ℕ) (es : List NameEntry) → Chained t end es → Going f w es count at compared

module _ {t : List ℕ} {f : ℕ} {w : Name} where
  pub chain-starts : {c : Chain} → HasChain t f (length w) c → Walks t f w c.count c.first 0
  chain-starts {c} h end es y = let is = h.is end es y in starts c.count c.first is.count is.first

  module _ {count at compared : ℕ} {link : Link} {q : Bool} (i : link ≡ link_in (word_in t (at + 1))) (c : Compares t at w q) (some : compared < count)
      (g : Walks t f w count at compared) where
    told : (end : ℕ) (es : List NameEntry) (h : Chained t end es) → q ≡ same w ((g end es h).here some).entry.name
    told end es h =
        let x = (g end es h).here some in
        c.compares end es h x.k x.word x.entry x.nth (candidate-is f (length w) x.entry x.like).1

    -- the link that was read is that of the entry
    read : (end : ℕ) (es : List NameEntry) (h : Chained t end es) → link ≡ link_in (word_in t (2 * ((g end es h).here some).k + 1))
    read end es h = i ∙ ap (λ (a : ℕ). link_in (word_in t (a + 1))) ((g end es h).here some).word

    pub hit-tries : q ≡ true → Tries t f w (record { found = found_at link.sort link.number; compared = compared + 1 })
    hit-tries z = record {
      tries = λ end es h.
          let x = (g end es h).here some in
          let is = h.nodes x.k x.entry x.nth in
          let l = read end es h in
          is-hit x (sym (told end es h) ∙ z) link.sort link.number (ap (λ (a : Link). a.sort) l ∙ is.sort)
          (ap (λ (a : Link). a.number) l ∙ is.number);
    }

    pub turn : q ≡ false → Walks t f w count link.next (compared + 1)
    turn z end es h =
        let x = (g end es h).here some in
        goes_on x (sym (told end es h) ∙ z) link.next
        (λ m. ap (λ (a : Link). a.next) (read end es h) ∙ h.links x.k x.entry x.nth f (length w) x.like m)

  pub chain-ends : {count at compared : ℕ} → count ≤ compared → Walks t f w count at compared
      → Tries t f w (record { found = None; compared = compared })
  chain-ends z g = record { tries = λ end es h. let d = (g end es h).done z in record { finds = d.0; counts = d.1 } }

  -- all of the chain has been compared
  pub chain-passed : {count at compared : ℕ} → compared ≡ count → Walks t f w count at compared
      → Tries t f w (record { found = None; compared = count })
  chain-passed z g = record { tries = λ end es h. let d = (g end es h).done (omega arith) in record { finds = d.0; counts = sym z ∙ d.1 } }

-- by another name for the name
pub tries-as : {t : List ℕ} {f : ℕ} {v w : Name} {r : Tried} → v ≡ w → Tries t f v r → Tries t f w r
tries-as {t} {f} {v} {w} {r} e h = subst (λ (x : Name). Tries t f x r) e h

-- ---- along a section

name-long : {t : List ℕ} {at end s n past : ℕ} → EntryIs t at end (Entry.Named s n past) → length (between t (at + 4) past) ≡ past - (at + 4)
name-long {t} {at} {end} {s} {n} {past} h = length-part-min t (at + 4) (past - (at + 4)) ∙ omega (arith, h.within)

module _ {t : List ℕ} {at end s n past : ℕ} (h : EntryIs t at end (Entry.Named s n past)) (f : ℕ) (w : Name) where
  -- an entry of another length or family is passed over
  pub passed-over : (past - (at + 4) ≡ length w → family_number s n ≡ f → ⊥)
      → (first_named f w (entries_at t past end) ≡ first_named f w (entries_at t at end))
      × (compared_in f w (entries_at t past end) ≡ compared_in f w (entries_at t at end))
  passed-over d =
      let q = not-like f (length w) (name_entry s n (between t (at + 4) past)) (λ a b. d (sym (name-long h) ∙ b) a) in
      (past_first h f w q, past-compared h f w q)

  module _ {g : ℕ} (e : g ≡ family_number s n) (i : g ≡ f) (l : past - (at + 4) ≡ length w) {r : Bool}
      (q : r ≡ same (part w 0 (length w)) (part t (at + 4) (length w))) where
    like : is_candidate f (length w) (name_entry s n (between t (at + 4) past)) ≡ true
    like = candidate-self f (length w) (name_entry s n (between t (at + 4) past)) (sym e ∙ i) (name-long h ∙ l)

    compared-as : r ≡ same w (between t (at + 4) past)
    compared-as = q ∙ ap₂ same (part-whole w) (ap (part t (at + 4)) (sym l))

    pub is-this : (start c : ℕ) → r ≡ true → first_named f w (entries_at t at end) ≡ first_named f w (entries_at t start end)
        → c + compared_in f w (entries_at t at end) ≡ compared_in f w (entries_at t start end)
        → TriedIn f w (entries_at t start end) (record { found = found_at s n; compared = c + 1 })
    is-this start c z a b =
        let yes-same = sym compared-as ∙ z in
        let one : compared_in f w (entries_at t at end) ≡ 1 = this-compared h f w like ∙ rw yes-same in
        let this : first_named f w (entries_at t at end) ≡ found_at s n = this-first h f w like ∙ rw yes-same in
        record { finds = sym this ∙ a; counts = sym (ap (λ (k : ℕ). c + k) one) ∙ b }

    pub not-this : r ≡ false → (first_named f w (entries_at t past end) ≡ first_named f w (entries_at t at end))
        × (1 + compared_in f w (entries_at t past end) ≡ compared_in f w (entries_at t at end))
    not-this z =
        let no_same = sym compared-as ∙ z in
        (sym (this-first h f w like ∙ rw no_same), sym (this-compared h f w like ∙ rw no_same))

pub section-ends : (f : ℕ) (w : Name) (es all : List NameEntry) (c : ℕ) → es ≡ [] → first_named f w es ≡ first_named f w all
    → c + compared_in f w es ≡ compared_in f w all → TriedIn f w all (record { found = None; compared = c })
unfolding first_named compared_in
section-ends f w es all c e a b =
    let none : compared_in f w es ≡ 0 = ap (compared_in f w) e in
    let missing : first_named f w es ≡ None = ap (first_named f w) e in
    record { finds = sym missing ∙ a; counts = omega (arith, none, b) }
