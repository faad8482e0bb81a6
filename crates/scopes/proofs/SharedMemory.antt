-- The symbols and the scope in one memory: what changes the one keeps the other. Assumes nothing.
use mathlib.Core.Path.{◌≡◌, sym, ap, subst, ◌∙◌}
use mathlib.Core.Bool.{Bool, true, false, cond}
use mathlib.Core.List.{List}
use Prim.Native.Nat.{ℕ, ◌+◌, ◌*◌, ◌%◌, ◌<◌, ◌≤◌}
use native.Mathlib.Omega.{arith}
use lib.Dec.{eqb}
use lib.ListN.{length, get_or, take}
use Rattle.byte_slices.specs.Parts.{part, put}
use Rattle.byte_slices.proofs.PartLaws.{get_d_part, length-put, part-put-after}
use Rattle.policy.specs.Basics.{Name, le, unle}
use Rattle.policy.specs.Encode.{NameEntry, entry_bytes}
use Rattle.symbols.specs.Lookup.{family_number}
use Rattle.symbols.specs.Section.{name_bytes}
use Rattle.table_laws.proofs.LittleEndian.{le-length}
use Rattle.name_index.specs.Index.{front_of, word_in, chain_at, chain_in, chain_word, link_in, link_word, linked_to, begun, longer, new_at, new_link, put_word, put_node, index_bytes}
use Rattle.name_index.specs.Index.{put_next, put_last, put_more, put_entry}
use Rattle.name_index.specs.declared.Link.{Link}
use Rattle.name_chains.specs.Chains.{NodeIs, Chained}
use Rattle.name_chains.specs.Entered.{Entered}
use Rattle.name_chains.proofs.CandidateLaws.{nth-below}
use Rattle.scopes.specs.Scope.{scope_length, scope_in, InScope, SymbolsKept}

-- ---- a block opened or closed keeps the symbols and their chains

-- the bytes before the scope
pub symbols-front : {t u : List ℕ} → SymbolsKept t u → (n : ℕ) → n ≤ index_bytes → take n u ≡ take n t
unfolding part
symbols-front k n h = k.front 0 n (omega arith)

module _ {t u : List ℕ} (k : SymbolsKept t u) where
  word_kept : (j : ℕ) → j < 6445 → word_in u j ≡ word_in t j
  unfolding word_in
  word_kept j h = ap unle (k.front (name_bytes + 8 * j) 8 (omega arith))

  node_kept : {end x : ℕ} {l : Link} {e : NameEntry} → end ≤ name_bytes → NodeIs t end x l e → NodeIs u end x l e
  node_kept {end} {x} {l} {e} b n = record {
    front = n.front;
    sort = n.sort;
    number = n.number;
    stands = k.front l.place (length e.name) (omega (arith, n.inside)) ∙ n.stands;
    inside = n.inside;
    family = n.family;
    long = n.long;
  }

  pub chained-kept : {end : ℕ} {es : List NameEntry} → Chained t end es → Chained u end es
  chained-kept {end} {es} c = record {
    room = omega (arith, c.room, k.long);
    below = c.below;
    few = c.few;
    all = word_kept 6444 (omega arith) ∙ c.all;
    counts = λ s h. word_kept (6436 + s) (omega arith) ∙ c.counts s h;
    chains = λ f n h l. rw (word_kept (chain_at f n) (omega arith)) (c.chains f n h l);
    nodes = λ i e n.
        let b = nth-below es i e n in
        rw (word_kept (2 * i) (omega (arith, c.few)), word_kept (2 * i + 1) (omega (arith, c.few))) (node_kept c.below (c.nodes i e n));
    links = λ i e n f l like some.
        let b = nth-below es i e n in
        rw (word_kept (2 * i + 1) (omega (arith, c.few))) (c.links i e n f l like some);
  }

-- ---- an entry more keeps the scope

-- memory that is the same from the scope on, and of the same length
record Behind (t u : List ℕ) : Type 0 where
  long : length u ≡ length t
  behind : (p w : ℕ) → index_bytes ≤ p → part u p w ≡ part t p w

behind-on : {t u v : List ℕ} → Behind t u → Behind u v → Behind t v
behind-on h g = record { long = g.long ∙ h.long; behind = λ p w l. g.behind p w l ∙ h.behind p w l }

put-behind : (t : List ℕ) (o : ℕ) (s : List ℕ) → o + length s ≤ index_bytes → index_bytes ≤ length t → Behind t (put t o s)
put-behind t o s h room = record {
  long = length-put t o s (omega arith);
  behind = λ p w l. part-put-after t o s (omega arith) p w (omega arith);
}

word-behind : (t : List ℕ) (k n : ℕ) → k < 6445 → index_bytes ≤ length t → Behind t (put_word t k n)
unfolding put_word
word-behind t k n h room = put-behind t (name_bytes + 8 * k) (le 8 n) (omega (arith, le-length 8 n)) room

more-behind : (t : List ℕ) (k : ℕ) → k < 6445 → index_bytes ≤ length t → Behind t (put_more t k)
unfolding put_more
more-behind t k h room = word-behind t k (word_in t k % 65536 + 1) h room

node-behind : (t : List ℕ) (at x y : ℕ) → at < 4096 → index_bytes ≤ length t → Behind t (put_node t at x y)
unfolding put_node
node-behind t at x y h room =
    let first = word-behind t at x (omega arith) room in
    behind-on first (word-behind (put_word t at x) (at + 1) y (omega arith) (omega (arith, first.long)))

next-behind : (t : List ℕ) (at next : ℕ) → at < 4096 → index_bytes ≤ length t → Behind t (put_next t at next)
unfolding put_next
next-behind t at next h room = word-behind t (at + 1) (link_word (linked_to next (link_in (word_in t (at + 1))))) (omega arith) room

last-behind : (t : List ℕ) (k at : ℕ) → k < 6445 → index_bytes ≤ length t → Behind t (put_last t k at)
unfolding put_last
last-behind t k at h room = by (eqb (chain_in (word_in t k)).count 0)
  where
    by : (q : Bool)
        → Behind t (cond q (put_word t k (chain_word (begun at))) (put_word (put_next t (chain_in (word_in t k)).last at) k (chain_word (longer at (chain_in (word_in t k))))))
    by true = word-behind t k (chain_word (begun at)) h room
    by false =
        let last = (chain_in (word_in t k)).last in
        let first = next-behind t last at (omega arith) room in
        behind-on first (word-behind (put_next t last at) k (chain_word (longer at (chain_in (word_in t k)))) h (omega (arith, first.long)))

entry-behind : (t : List ℕ) (end : ℕ) (e : NameEntry) → e.sort < 8 → length e.name ≤ 64 → end + length (entry_bytes e) ≤ name_bytes → index_bytes ≤ length t
    → Behind t (put_entry t end e)
unfolding put_entry
entry-behind t end e s l inside room =
    let at = new_at t in
    let k = chain_at (family_number e.sort e.number % 36) (length e.name) in
    let t1 = put t end (entry_bytes e) in
    let b1 : Behind t t1 = put-behind t end (entry_bytes e) (omega arith) room in
    let t2 = put_node t1 at (front_of e.name) (link_word (new_link end e)) in
    let b2 : Behind t t2 = behind-on b1 (node-behind t1 at (front_of e.name) (link_word (new_link end e)) (omega arith) (omega (arith, b1.long))) in
    let t3 = put_last t2 k at in
    let b3 : Behind t t3 = behind-on b2 (last-behind t2 k at (omega arith) (omega (arith, b2.long))) in
    let t4 = put_more t3 (6436 + e.sort) in
    let b4 : Behind t t4 = behind-on b3 (more-behind t3 (6436 + e.sort) (omega arith) (omega (arith, b3.long))) in
    behind-on b4 (more-behind t4 6444 (omega arith) (omega (arith, b4.long)))

behind-scope : {t u : List ℕ} {path : List Name} → Behind t u → InScope t path → InScope u path
unfolding scope_length scope_in
behind-scope {t} {u} {path} b h =
    let one : scope_length u ≡ scope_length t = sym (get_d_part u index_bytes 1 0 (omega arith)) ∙ ap (λ (l : List ℕ). get_or l 0 0) (b.behind index_bytes 1 (omega arith)) ∙
    get_d_part t index_bytes 1 0 (omega arith) in
    record {
      room = omega (arith, b.long, h.room);
      fits = omega (arith, one, h.fits);
      stands = b.behind 188649 (scope_length u) (omega arith) ∙ ap (scope_in t) one ∙ h.stands;
      parts = h.parts;
    }

-- name_chains::enter keeps the scope
pub scope_kept : {t u : List ℕ} {end r : ℕ} {e : NameEntry} {path : List Name} → e.sort < 8 → length e.name ≤ 64 → Entered t u end e r
    → InScope t path → InScope u path
scope_kept {t} {u} {end} {r} {e} {path} s l h sc =
    subst (λ (v : List ℕ). InScope v path) (sym h.is)
    (behind-scope (entry-behind t end e s l (omega (arith, h.past, h.inside)) (omega (arith, sc.room))) sc)
