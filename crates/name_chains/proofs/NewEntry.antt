-- Memory with the chains of some entries has, with an entry more, those of them and the new one. Assumes nothing.
use mathlib.Core.Path.{◌≡◌, refl, sym, ap, ap₂, subst, ◌∙◌}
use mathlib.Core.Bool.{Bool, true, false, cond, false≢true}
use mathlib.Core.Logic.{◌⊎◌, inl, inr}
use mathlib.Core.List.{List, [], ◌∷◌, ◌++◌}
use Prim.Native.Nat.{ℕ, suc, ◌+◌, ◌-◌, ◌*◌, ◌/◌, ◌%◌, ◌^◌, ◌<◌, ◌≤◌}
use native.Mathlib.Omega.{arith}
use borrow.Author.Tests.{eqb-true, eqb-false}
use lib.Dec.{eqb}
use lib.ListN.{length, take, drop, length-append, length-drop, drop_of_length-le}
use lib.Seq.{drop-append-le}
use Rattle.byte_slices.specs.Parts.{part, put}
use Rattle.policy.specs.Basics.{Name, unle}
use Rattle.policy.specs.Encode.{NameEntry, name_entry, entry_bytes}
use Rattle.symbols.specs.Append.{Appended}
use Rattle.symbols.specs.Lookup.{family_number, count_sort}
use Rattle.symbols.proofs.AppendLaws.{entry_length}
use Rattle.symbols.proofs.CountLaws.{count-append}
use Rattle.symbols.specs.Section.{name_bytes}
use Rattle.name_chains.specs.Compared.{is_candidate}
use Rattle.name_chains.specs.Chains.{how_many, first_candidate, last_candidate}
use Rattle.name_index.specs.Index.{front_of, word_in, chain_at, chain_in, chain_word, link_in, link_word, put_node, linked_to, begun, longer, put_last, put_more, new_at, new_link, put_entry}
use Rattle.name_chains.specs.Chains.{ChainIs, NodeIs, Nth, Chained}
use Rattle.name_chains.specs.Entered.{EntryRoom, Entered}
use Rattle.name_index.specs.declared.Chain.{Chain}
use Rattle.name_chains.proofs.CandidateLaws.{nth-more, nth-below, candidate-is, candidate-self, none-many, many_more, many-length, many-nth}
use Rattle.name_chains.proofs.CandidateLaws.{first-kept, first-new}
use Rattle.name_chains.proofs.CandidateLaws.{last-new, last-kept, last-below, last-is, none-behind, last-candidate}
use Rattle.name_index.proofs.ChainLaws.{Changed, changed, bytes_word, linked-rest, linked-next}

-- how many entries of a sort there are, with one more
one-sort : (s : ℕ) (e : NameEntry) (q : Bool) → eqb e.sort s ≡ q → count_sort s (e ∷ []) ≡ cond q 1 0
unfolding count_sort
one-sort s e true h = rw h
one-sort s e false h = rw h

sort-length : (s : ℕ) (es : List NameEntry) → count_sort s es ≤ length es
unfolding count_sort
sort-length s [] = omega arith
sort-length s (e ∷ es) = by (eqb e.sort s) (sort-length s es)
  where
    by : (q : Bool) → count_sort s es ≤ length es → cond q (1 + count_sort s es) (count_sort s es) ≤ suc (length es)
    by true h = omega arith
    by false h = omega arith

-- what is read of a chain's word
chain_back : (c : Chain) → c.count < 65536 → c.first < 4096 → c.last < 4096 → chain_in (chain_word c) ≡ c
chain_back c a b d =
    let count : chain_word c % 65536 ≡ c.count = omega arith in
    let above : chain_word c / 65536 ≡ c.first + 4096 * c.last = omega arith in
    let first : chain_word c / 65536 % 4096 ≡ c.first = ap (λ (i : ℕ). i % 4096) above ∙ omega arith in
    let top : chain_word c / 268435456 ≡ c.last = omega (arith, above) in
    let last : chain_word c / 268435456 % 4096 ≡ c.last = ap (λ (i : ℕ). i % 4096) top ∙ omega arith in
    rw (count, first, last)

-- the links y and z say the same but for the next
module _ (y z : ℕ) (rest : z / 4096 ≡ y / 4096) where
  same-sort : (link_in z).sort ≡ (link_in y).sort
  same-sort = ap (λ (i : ℕ). i % 8) rest

  same_number : (link_in z).number ≡ (link_in y).number
  same_number = omega (arith, rest)

  same_place : (link_in z).place ≡ (link_in y).place
  same_place = omega (arith, rest)

module _ {t u : List ℕ} {end r : ℕ} {e : NameEntry} {es : List NameEntry} (h : Chained t end es) (few : length es < 2048)
    (w : Changed t u end e (2 * length es) (chain_at (family_number e.sort e.number) (length e.name)))
    (past : r ≡ end + 4 + length e.name) (inside : r ≤ name_bytes) (sort : e.sort < 8) (number : e.number < 65536)
    (family : family_number e.sort e.number < 36) (short : length e.name ≤ 64) (fits : front_of e.name < 256 ^ 8) where
  abbrev f : ℕ
  f = family_number e.sort e.number

  abbrev n : ℕ
  n = length e.name

  abbrev m : ℕ
  m = length es

  abbrev old : Chain
  old = chain_in (word_in t (chain_at f n))

  own : is_candidate f n e ≡ true
  own = candidate-self f n e refl refl

  was : ChainIs old f n es
  was = h.chains f n family short

  some_of : (old.count ≡ 0 → ⊥) → 0 < how_many f n es
  some_of d = by (eqb (how_many f n es) 0) refl
    where
      by : (q : Bool) → eqb (how_many f n es) 0 ≡ q → 0 < how_many f n es
      by true q = absurd (d (was.count ∙ eqb-true (how_many f n es) 0 q))
      by false q = let z = eqb-false (how_many f n es) 0 q in omega arith

  not-empty : 0 < how_many f n es → old.count ≡ 0 → ⊥
  not-empty g z = omega (arith, was.count)

  -- the last of the chain was an entry before the new one
  last_word : (old.count ≡ 0 → ⊥) → old.last ≡ 2 * last_candidate f n es
  last_word d = was.last (some_of d)

  last-old : (old.count ≡ 0 → ⊥) → last_candidate f n es < m
  last-old d = last-below f n es (some_of d)

  -- ---- the chains

  own-chain : (q : Bool) → eqb old.count 0 ≡ q → ChainIs (chain_in (word_in u (chain_at f n))) f n (es ++ (e ∷ []))
  own-chain true q =
      let z = eqb-true old.count 0 q in
      let none : how_many f n es ≡ 0 = sym was.count ∙ z in
      let is : chain_in (word_in u (chain_at f n)) ≡ begun (2 * m) =
      ap chain_in (w.empty z) ∙ chain_back (begun (2 * m)) (omega arith) (omega (arith, few)) (omega (arith, few)) in
      let many : how_many f n (es ++ (e ∷ [])) ≡ how_many f n es + 1 = many_more f n es e true own in
      record {
        count = ap (λ (c : Chain). c.count) is ∙ omega (arith, many, none);
        first = λ g. ap (λ (c : Chain). c.first) is ∙ ap (λ (i : ℕ). 2 * i) (sym (first-new f n es e none own));
        last = λ g. ap (λ (c : Chain). c.last) is ∙ ap (λ (i : ℕ). 2 * i) (sym (last-new f n es e own));
      }
  own-chain false q =
      let d = eqb-false old.count 0 q in
      let some = some_of d in
      let is : chain_in (word_in u (chain_at f n)) ≡ longer (2 * m) old =
      ap chain_in (w.more d) ∙ chain_back (longer (2 * m) old) (omega (arith, was.count, many-length f n es, few)) (omega arith) (omega (arith, few)) in
      let many : how_many f n (es ++ (e ∷ [])) ≡ how_many f n es + 1 = many_more f n es e true own in
      record {
        count = ap (λ (c : Chain). c.count) is ∙ omega (arith, many, was.count);
        first = λ g. ap (λ (c : Chain). c.first) is ∙ was.first some ∙ ap (λ (i : ℕ). 2 * i) (sym (first-kept f n es (e ∷ []) some));
        last = λ g. ap (λ (c : Chain). c.last) is ∙ ap (λ (i : ℕ). 2 * i) (sym (last-new f n es e own));
      }

  chains : (g l : ℕ) → g < 36 → l ≤ 64 → (q : Bool) → is_candidate g l e ≡ q → ChainIs (chain_in (word_in u (chain_at g l))) g l (es ++ (e ∷ []))
  chains g l a b true q =
      let is = candidate-is g l e q in
      subst (λ (k : ℕ). ChainIs (chain_in (word_in u (chain_at k l))) k l (es ++ (e ∷ []))) is.0
      (subst (λ (k : ℕ). ChainIs (chain_in (word_in u (chain_at f k))) f k (es ++ (e ∷ []))) is.1 (own-chain (eqb old.count 0) refl))
  chains g l a b false q =
      let other : chain_at g l ≡ chain_at f n → ⊥ = λ z. false≢true (sym q ∙ candidate-self g l e (omega arith) (omega arith)) in
      let same_word : word_in u (chain_at g l) ≡ word_in t (chain_at g l) =
      w.others (chain_at g l) (omega arith) (λ z. omega arith) (λ z. omega arith) other (λ d z. omega (arith, last_word d, last-old d)) in
      let many : how_many g l (es ++ (e ∷ [])) ≡ how_many g l es + 0 = many_more g l es e false q in
      let is = h.chains g l a b in
      let same-chain : chain_in (word_in u (chain_at g l)) ≡ chain_in (word_in t (chain_at g l)) = ap chain_in same_word in
      record {
        count = ap (λ (c : Chain). c.count) same-chain ∙ is.count ∙ omega (arith, many);
        first = λ c.
            let some : 0 < how_many g l es = omega (arith, many) in
            ap (λ (c : Chain). c.first) same-chain ∙ is.first some ∙ ap (λ (i : ℕ). 2 * i) (sym (first-kept g l es (e ∷ []) some));
        last = λ c.
            let some : 0 < how_many g l es = omega (arith, many) in
            ap (λ (c : Chain). c.last) same-chain ∙ is.last some ∙ ap (λ (i : ℕ). 2 * i) (sym (last-kept g l es e q));
      }

  -- ---- the entries

  old-front : (k : ℕ) → k < m → word_in u (2 * k) ≡ word_in t (2 * k)
  old-front k l = w.others (2 * k) (omega arith) (λ z. omega arith) (λ z. omega arith) (λ z. omega arith) (λ d z. omega (arith, last_word d))

  old-link : (k : ℕ) → k < m → ((old.count ≡ 0 → ⊥) → k ≡ last_candidate f n es → ⊥) → word_in u (2 * k + 1) ≡ word_in t (2 * k + 1)
  old-link k l d =
      w.others (2 * k + 1) (omega arith) (λ z. omega arith) (λ z. omega arith) (λ z. omega arith) (λ c z. d c (omega (arith, last_word c)))

  -- the entry that was the last of the chain
  last-link : (k : ℕ) (d : NameEntry) → Nth es k d → (c : old.count ≡ 0 → ⊥) → k ≡ last_candidate f n es
      → word_in u (2 * k + 1) ≡ link_word (linked_to (2 * m) (link_in (word_in t (2 * k + 1))))
  last-link k d g c z =
      let is = h.nodes k d g in
      let at : old.last ≡ 2 * k = omega (arith, last_word c, z) in
      let low : word_in t (2 * k + 1) < 1000000000000000000 = omega (arith, is.inside, h.below) in
      subst (λ (i : ℕ). word_in u (i + 1) ≡ link_word (linked_to (2 * m) (link_in (word_in t (i + 1))))) at
      (w.linked c (λ q. omega (arith, at, last-old c, few)) (λ q. omega (arith, at)) (λ q. omega (arith, last_word c, last-old c))
      (subst (λ (i : ℕ). word_in t (i + 1) < 1000000000000000000) (sym at) low))

  -- what the link of an entry says but for the next
  old-rest : (k : ℕ) (d : NameEntry) → Nth es k d → word_in u (2 * k + 1) / 4096 ≡ word_in t (2 * k + 1) / 4096
  old-rest k d g = by (eqb old.count 0) refl (eqb k (last_candidate f n es)) refl
    where
      below : k < m
      below = nth-below es k d g

      by : (p : Bool) → eqb old.count 0 ≡ p → (q : Bool) → eqb k (last_candidate f n es) ≡ q → word_in u (2 * k + 1) / 4096 ≡ word_in t (2 * k + 1) / 4096
      by true p q s = ap (λ (i : ℕ). i / 4096) (old-link k below (λ c z. c (eqb-true old.count 0 p)))
      by false p true s =
          ap (λ (i : ℕ). i / 4096) (last-link k d g (eqb-false old.count 0 p) (eqb-true k (last_candidate f n es) s))
          ∙ linked-rest (word_in t (2 * k + 1)) (2 * m) (omega (arith, few))
      by false p false s = ap (λ (i : ℕ). i / 4096) (old-link k below (λ c z. eqb-false k (last_candidate f n es) s z))

  old-node : (k : ℕ) (d : NameEntry) → Nth es k d → NodeIs u r (word_in u (2 * k)) (link_in (word_in u (2 * k + 1))) d
  old-node k d g =
      let is = h.nodes k d g in
      let rest = old-rest k d g in
      let y : ℕ = word_in t (2 * k + 1) in
      let z : ℕ = word_in u (2 * k + 1) in
      let place = same_place y z rest in
      record {
        front = old-front k (nth-below es k d g) ∙ is.front;
        sort = same-sort y z rest ∙ is.sort;
        number = same_number y z rest ∙ is.number;
        stands = ap (λ (p : ℕ). part u p (length d.name)) place ∙ w.before (link_in y).place (length d.name) is.inside ∙ is.stands;
        inside = omega (arith, place, is.inside, past);
        family = is.family;
        long = is.long;
      }

  new-node : NodeIs u r (word_in u (2 * m)) (link_in (word_in u (2 * m + 1))) e
  new-node =
      let link = w.link (λ c z. omega (arith, last_word c, last-old c)) in
      let place : (link_in (word_in u (2 * m + 1))).place ≡ end + 4 = omega (arith, link, sort, number) in
      record {
        front = w.front fits (λ c z. omega (arith, last_word c));
        sort = omega (arith, link, sort, number);
        number = omega (arith, link, sort, number);
        stands = ap (λ (p : ℕ). part u p n) place ∙ w.name;
        inside = omega (arith, place, past);
        family = family;
        long = short;
      }

  nodes : (k : ℕ) (d : NameEntry) → (Nth es k d × (k < m)) ⊎ ((k ≡ m) × (d ≡ e)) → NodeIs u r (word_in u (2 * k)) (link_in (word_in u (2 * k + 1))) d
  nodes k d (inl a) = old-node k d a.0
  nodes k d (inr a) =
      subst (λ (i : ℕ). NodeIs u r (word_in u (2 * i)) (link_in (word_in u (2 * i + 1))) d) (sym a.0)
      (subst (NodeIs u r (word_in u (2 * m)) (link_in (word_in u (2 * m + 1)))) (sym a.1) new-node)

  -- ---- the links

  -- what follows an entry
  behind : (k : ℕ) → k < m → drop (suc k) (es ++ (e ∷ [])) ≡ drop (suc k) es ++ (e ∷ [])
  behind k l = drop-append-le (suc k) es (e ∷ []) (omega arith)

  module _ (k : ℕ) (d : NameEntry) (t-nth : Nth es k d) (g l : ℕ) (like : is_candidate g l d ≡ true) where
    abbrev Follows : Type 0
    Follows = (link_in (word_in u (2 * k + 1))).next ≡ 2 * (suc k + first_candidate g l (drop (suc k) es ++ (e ∷ [])))

    -- where one of its chain stood after it, it was not the last of the chain of the new one
    not_last : 0 < how_many g l (drop (suc k) es) → (old.count ≡ 0 → ⊥) → k ≡ last_candidate f n es → ⊥
    not_last some c z =
        let a = candidate-is f n d (last-candidate f n es k d (some_of c) (sym z) t-nth) in
        let b = candidate-is g l d like in
        let none = none-behind f n es k (some_of c) (sym z) in
        let same-many : how_many g l (drop (suc k) es) ≡ how_many f n (drop (suc k) es) =
        ap₂ (λ (x y : ℕ). how_many x y (drop (suc k) es)) (sym b.0 ∙ a.0) (sym b.1 ∙ a.1) in
        omega (arith, none, same-many)

    -- and that one is still the next
    next-kept : 0 < how_many g l (drop (suc k) es) → Follows
    next-kept some =
        ap (λ (i : ℕ). i % 4096) (old-link k (nth-below es k d t-nth) (not_last some)) ∙ h.links k d t-nth g l like some
        ∙ ap (λ (i : ℕ). 2 * (suc k + i)) (sym (first-kept g l (drop (suc k) es) (e ∷ []) some))

    -- where none did, the new one is the next, if it is of the chain
    next-new : how_many g l (drop (suc k) es) ≡ 0 → is_candidate g l e ≡ true → Follows
    next-new none q =
        let a = candidate-is g l e q in
        let like-f : is_candidate f n d ≡ true = ap₂ (λ (x y : ℕ). is_candidate x y d) a.0 a.1 ∙ like in
        let none-f : how_many f n (drop (suc k) es) ≡ 0 = ap₂ (λ (x y : ℕ). how_many x y (drop (suc k) es)) a.0 a.1 ∙ none in
        let some = many-nth f n es k d t-nth like-f in
        let is : k ≡ last_candidate f n es = sym (last-is f n es k d t-nth like-f none-f) in
        let to : 2 * m ≡ 2 * (suc k + first_candidate g l (drop (suc k) es ++ (e ∷ []))) =
        omega (arith, first-new g l (drop (suc k) es) e none q, length-drop (suc k) es, nth-below es k d t-nth) in
        ap (λ (i : ℕ). i % 4096) (last-link k d t-nth (not-empty some) is) ∙ linked-next (word_in t (2 * k + 1)) (2 * m) (omega (arith, few)) ∙ to

    next : 0 < how_many g l (drop (suc k) es ++ (e ∷ [])) → Follows
    next some = by (eqb (how_many g l (drop (suc k) es)) 0) refl (is_candidate g l e) refl
      where
        by : (p : Bool) → eqb (how_many g l (drop (suc k) es)) 0 ≡ p → (q : Bool) → is_candidate g l e ≡ q → Follows
        by true p true q = next-new (eqb-true (how_many g l (drop (suc k) es)) 0 p) q
        by true p false q = absurd (omega (arith, many_more g l (drop (suc k) es) e false q, eqb-true (how_many g l (drop (suc k) es)) 0 p))
        by false p q s = let z = eqb-false (how_many g l (drop (suc k) es)) 0 p in next-kept (omega arith)

  links : (k : ℕ) (d : NameEntry) → (Nth es k d × (k < m)) ⊎ ((k ≡ m) × (d ≡ e)) → (g l : ℕ) → is_candidate g l d ≡ true
      → 0 < how_many g l (drop (suc k) (es ++ (e ∷ []))) → (link_in (word_in u (2 * k + 1))).next ≡ 2 * (suc k + first_candidate g l (drop (suc k) (es ++ (e ∷ []))))
  links k d (inl a) g l like some =
      let is = behind k a.1 in
      next k d a.0 g l like (subst (λ (x : List NameEntry). 0 < how_many g l x) is some)
      ∙ ap (λ (x : List NameEntry). 2 * (suc k + first_candidate g l x)) (sym is)
  links k d (inr a) g l like some =
      let none : drop (suc k) (es ++ (e ∷ [])) ≡ [] =
      drop_of_length-le (es ++ (e ∷ [])) {i = suc k} (omega (arith, a.0, length-append es (e ∷ []))) in
      absurd (omega (arith, none-many g l, ap (how_many g l) none))

  -- ---- the counts

  counts : (s : ℕ) → s < 8 → (q : Bool) → eqb e.sort s ≡ q → word_in u (6436 + s) ≡ count_sort s (es ++ (e ∷ []))
  counts s l true q =
      let z : e.sort ≡ s = eqb-true e.sort s q in
      let is : word_in u (6436 + s) ≡ word_in t (6436 + s) % 65536 + 1 =
      subst (λ (k : ℕ). word_in u (6436 + k) ≡ word_in t (6436 + k) % 65536 + 1) z w.count in
      omega (arith, is, h.counts s l, sort-length s es, count-append s es (e ∷ []), one-sort s e true q)
  counts s l false q =
      omega (arith, w.counts s l (λ z. eqb-false e.sort s q (sym z)), h.counts s l, count-append s es (e ∷ []), one-sort s e false q)

  pub chained_more : Chained u r (es ++ (e ∷ []))
  chained_more = record {
    room = omega (arith, w.long, h.room);
    below = inside;
    few = omega (arith, length-append es (e ∷ []));
    all = omega (arith, w.all, h.all, length-append es (e ∷ []));
    counts = λ s l. counts s l (eqb e.sort s) refl;
    chains = λ g l a b. chains g l a b (is_candidate g l e) refl;
    nodes = λ k d g. nodes k d (nth-more es e k d g);
    links = λ k d g f n q c. links k d (nth-more es e k d g) f n q c;
  }

-- what `enter` promises
pub entered_by : {t : List ℕ} {end r len : ℕ} {e : NameEntry} → EntryRoom (length t) end e.sort len → length e.name ≤ len
    → r ≡ end + length (entry_bytes e) → front_of e.name < 256 ^ 8 → Entered t (put_entry t end e) end e r
entered_by {t} {end} {r} {len} {e} h l p x =
    let w = changed t end e h.index (omega (arith, h.room)) h.sort-known (omega (arith, h.length-known)) in
    let past : r ≡ end + 4 + length e.name = omega (arith, p, entry_length e) in
    record {
      is = refl;
      long = w.long;
      written = w.names;
      past = p;
      inside = omega (arith, past, h.room);
      chained = λ es c few small known.
          let f : ℕ = family_number e.sort e.number in
          let n : ℕ = length e.name in
          let m : new_at t ≡ 2 * length es = omega (arith, c.all) in
          let chain : chain_at (f % 36) n ≡ chain_at f n = omega (arith, known) in
          let there : Changed t (put_entry t end e) end e (2 * length es) (chain_at (f % 36) n) =
          subst (λ (k : ℕ). Changed t (put_entry t end e) end e k (chain_at (f % 36) n)) m w in
          chained_more c few (subst (Changed t (put_entry t end e) end e (2 * length es)) chain there) past (omega (arith, past, h.room)) h.sort-known small
          known (omega (arith, h.length-known)) x;
    }

-- the same as `enter` knows it: by what its callees put
pub entered_from : {t u v w x y : List ℕ} {end s n len k g a b r : ℕ} {name : Name} → EntryRoom (length t) end s len → length name ≤ len
    → Appended t u end (name_entry s n name) r → k ≡ word_in u 6444 → g ≡ family_number s n → a ≡ unle (take 8 name) → a < 256 ^ 8
    → b ≡ link_word (new_link end (name_entry s n name)) → v ≡ put_node u (2 * (k % 2048)) a b
    → w ≡ put_last v (4096 + 65 * (g % 36) + (r - end - 4)) (2 * (k % 2048))
    → x ≡ put_more w (6436 + s) → y ≡ put_more x 6444 → Entered t y end (name_entry s n name) r
unfolding put_entry
entered_from {t} {u} {v} {w} {x} {y} {end} {s} {n} {len} {k} {g} {a} {b} {r} {name} h l p e f c fits d q1 q2 q3 q4 =
    let entry : NameEntry = name_entry s n name in
    let number : k ≡ word_in t 6444 =
    e ∙ ap (λ (z : List ℕ). word_in z 6444) p.written ∙ bytes_word t end entry h.index (omega (arith, h.room)) 6444 in
    let at : 2 * (k % 2048) ≡ new_at t = ap (λ (i : ℕ). 2 * (i % 2048)) number in
    let long : r - end - 4 ≡ length name = omega (arith, p.past, entry_length entry) in
    let chain : 4096 + 65 * (g % 36) + (r - end - 4) ≡ chain_at (family_number s n % 36) (length name) =
    ap₂ (λ (i j : ℕ). 4096 + 65 * (i % 36) + j) f long in
    let node : v ≡ put_node (put t end (entry_bytes entry)) (new_at t) (unle (take 8 name)) (link_word (new_link end entry)) =
    q1 ∙ ap₂ (λ (z : List ℕ) (i : ℕ). put_node z i a b) p.written at ∙ ap₂ (put_node (put t end (entry_bytes entry)) (new_at t)) c d in
    let last : w ≡ put_last (put_node (put t end (entry_bytes entry)) (new_at t) (unle (take 8 name)) (link_word (new_link end entry)))
    (chain_at (family_number s n % 36) (length name)) (new_at t) =
    q2 ∙ ap₂ (λ (z : List ℕ) (i : ℕ). put_last z i (2 * (k % 2048))) node chain
    ∙ ap (put_last (put_node (put t end (entry_bytes entry)) (new_at t) (unle (take 8 name)) (link_word (new_link end entry)))
    (chain_at (family_number s n % 36) (length name))) at in
    let is : y ≡ put_entry t end entry = q4 ∙ ap (λ (z : List ℕ). put_more z 6444) (q3 ∙ ap (λ (z : List ℕ). put_more z (6436 + s)) last) in
    subst (λ (z : List ℕ). Entered t z end entry r) (sym is) (entered_by h l p.past (subst (λ (i : ℕ). i < 256 ^ 8) c fits))
