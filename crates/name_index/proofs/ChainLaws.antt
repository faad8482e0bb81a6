-- An entry more keeps the chains: what `put_entry` leaves in the words of the index, and that these are the chains of the entries with the one more.
-- Assumes nothing.
use mathlib.Core.Path.{◌≡◌, refl, sym, ap, subst, ◌∙◌}
use mathlib.Core.Bool.{Bool, true, false}
use mathlib.Core.List.{List}
use Prim.Native.Nat.{ℕ, ◌+◌, ◌*◌, ◌/◌, ◌%◌, ◌^◌, ◌<◌, ◌≤◌}
use native.Mathlib.Omega.{arith}
use borrow.Author.Tests.{eq-eqb, ne_eqb, eqb-true, eqb-false}
use lib.Dec.{eqb}
use lib.ListN.{length, take}
use lib.Seq.{take-length}
use Rattle.byte_slices.specs.Parts.{part, put}
use Rattle.byte_slices.proofs.PartLaws.{length-put, part-put-same, part-put-before, part-put-after, part-part}
use Rattle.policy.specs.Basics.{le, unle}
use Rattle.policy.specs.Encode.{NameEntry, entry_bytes}
use Rattle.symbols.specs.Lookup.{family_number}
use Rattle.symbols.proofs.AppendLaws.{entry_length, take_put}
use Rattle.symbols.specs.Section.{name_bytes}
use Rattle.name_index.specs.Index.{front_of, word_in, chain_at, chain_in, chain_word, link_in, link_word, ChainFits, LinkFits, put_word, put_node, linked_to, index_bytes}
use Rattle.name_index.specs.Index.{put_next, begun, longer, put_last, put_more, new_at, new_link, put_entry}
use Rattle.name_index.specs.declared.Chain.{Chain}
use Rattle.name_index.specs.declared.Link.{Link}
use Rattle.name_index.proofs.Words.{Kept, kept_on, word_kept, word-here, word-other, kept-take}

-- ---- the stages

-- a link keeps what it says but for the next
pub linked-rest : (y next : ℕ) → next < 4096 → link_word (linked_to next (link_in y)) / 4096 ≡ y / 4096
linked-rest y next h = omega arith

pub linked-next : (y next : ℕ) → next < 4096 → link_word (linked_to next (link_in y)) % 4096 ≡ next
linked-next y next h = omega arith

linked-below : (y next : ℕ) → next < 4096 → y < 1000000000000000000 → link_word (linked_to next (link_in y)) < 256 ^ 8
linked-below y next h l = omega arith

-- the first entry of a chain, and one after others
module _ (t : List ℕ) (k at : ℕ) where
  empty-is : (chain_in (word_in t k)).count ≡ 0 → put_last t k at ≡ put_word t k (chain_word (begun at))
  unfolding put_last
  empty-is z = rw (eq-eqb (chain_in (word_in t k)).count 0 z)

  longer-is : ((chain_in (word_in t k)).count ≡ 0 → ⊥)
      → put_last t k at ≡ put_word (put_next t (chain_in (word_in t k)).last at) k (chain_word (longer at (chain_in (word_in t k))))
  unfolding put_last
  longer-is d = rw (ne_eqb (chain_in (word_in t k)).count 0 d)

module _ (t : List ℕ) (room : index_bytes ≤ length t) where
  -- the words of an entry
  module _ (k x y : ℕ) (below : k < 4096) where
    mid : index_bytes ≤ length (put_word t k x)
    mid = omega (arith, (word_kept t k x (omega arith) room).long)

    node_kept : Kept t (put_node t k x y)
    unfolding put_node
    node_kept = kept_on (word_kept t k x (omega arith) room) (word_kept (put_word t k x) (k + 1) y (omega arith) mid)

    node-other : (j : ℕ) → (j ≡ k → ⊥) → (j ≡ k + 1 → ⊥) → word_in (put_node t k x y) j ≡ word_in t j
    unfolding put_node
    node-other j a b = word-other (put_word t k x) (k + 1) y (omega arith) mid j b ∙ word-other t k x (omega arith) room j a

    node-front : x < 256 ^ 8 → word_in (put_node t k x y) k ≡ x
    unfolding put_node
    node-front h = word-other (put_word t k x) (k + 1) y (omega arith) mid k (λ z. omega arith) ∙ word-here t k x (omega arith) room h

    node-link : y < 256 ^ 8 → word_in (put_node t k x y) (k + 1) ≡ y
    unfolding put_node
    node-link h = word-here (put_word t k x) (k + 1) y (omega arith) mid h

  -- one more in a word
  module _ (at : ℕ) (below : at < 6445) where
    more-kept : Kept t (put_more t at)
    unfolding put_more
    more-kept = word_kept t at (word_in t at % 65536 + 1) below room

    more-other : (j : ℕ) → (j ≡ at → ⊥) → word_in (put_more t at) j ≡ word_in t j
    unfolding put_more
    more-other j d = word-other t at (word_in t at % 65536 + 1) below room j d

    more-here : word_in (put_more t at) at ≡ word_in t at % 65536 + 1
    unfolding put_more
    more-here = word-here t at (word_in t at % 65536 + 1) below room (omega arith)

  -- the end of the chain that is in the word k
  module _ (k at : ℕ) (below : k < 6445) (small : at < 4096) where
    abbrev chain : Chain
    chain = chain_in (word_in t k)

    abbrev linked : List ℕ
    linked = put_next t chain.last at

    abbrev relinked : ℕ
    relinked = link_word (linked_to at (link_in (word_in t (chain.last + 1))))

    linked-kept : Kept t linked
    unfolding put_next
    linked-kept = word_kept t (chain.last + 1) relinked (omega arith) room

    linked-room : index_bytes ≤ length linked
    linked-room = omega (arith, linked-kept.long)

    linked-other : (j : ℕ) → (j ≡ chain.last + 1 → ⊥) → word_in linked j ≡ word_in t j
    unfolding put_next
    linked-other j d = word-other t (chain.last + 1) relinked (omega arith) room j d

    linked-here : relinked < 256 ^ 8 → word_in linked (chain.last + 1) ≡ relinked
    unfolding put_next
    linked-here h = word-here t (chain.last + 1) relinked (omega arith) room h

    last-kept-by : (q : Bool) → eqb chain.count 0 ≡ q → Kept t (put_last t k at)
    last-kept-by true q = subst (Kept t) (sym (empty-is t k at (eqb-true chain.count 0 q))) (word_kept t k (chain_word (begun at)) below room)
    last-kept-by false q =
        subst (Kept t) (sym (longer-is t k at (eqb-false chain.count 0 q)))
        (kept_on linked-kept (word_kept linked k (chain_word (longer at chain)) below linked-room))

    last-stage : Kept t (put_last t k at)
    last-stage = last-kept-by (eqb chain.count 0) refl

    last-other : (j : ℕ) → (j ≡ k → ⊥) → ((chain.count ≡ 0 → ⊥) → j ≡ chain.last + 1 → ⊥) → word_in (put_last t k at) j ≡ word_in t j
    last-other j a b = by (eqb chain.count 0) refl
      where
        by : (q : Bool) → eqb chain.count 0 ≡ q → word_in (put_last t k at) j ≡ word_in t j
        by true q = ap (λ (l : List ℕ). word_in l j) (empty-is t k at (eqb-true chain.count 0 q)) ∙ word-other t k (chain_word (begun at)) below room j a
        by false q =
            let d = eqb-false chain.count 0 q in
            ap (λ (l : List ℕ). word_in l j) (longer-is t k at d) ∙ word-other linked k (chain_word (longer at chain)) below linked-room j a
            ∙ linked-other j (b d)

    last_empty : chain.count ≡ 0 → word_in (put_last t k at) k ≡ chain_word (begun at)
    last_empty z = ap (λ (l : List ℕ). word_in l k) (empty-is t k at z) ∙ word-here t k (chain_word (begun at)) below room (omega arith)

    last-longer : (chain.count ≡ 0 → ⊥) → word_in (put_last t k at) k ≡ chain_word (longer at chain)
    last-longer d = ap (λ (l : List ℕ). word_in l k) (longer-is t k at d) ∙ word-here linked k (chain_word (longer at chain)) below linked-room (omega arith)

    last-linked : (chain.count ≡ 0 → ⊥) → (chain.last + 1 ≡ k → ⊥) → relinked < 256 ^ 8 → word_in (put_last t k at) (chain.last + 1) ≡ relinked
    last-linked d n h =
        ap (λ (l : List ℕ). word_in l (chain.last + 1)) (longer-is t k at d)
        ∙ word-other linked k (chain_word (longer at chain)) below linked-room (chain.last + 1) n
        ∙ linked-here h

-- what is read of a word is cut, so that it fits into one
pub link_fits : {y : ℕ} {l : Link} → l ≡ link_in y → y < 18446744073709551616 → LinkFits l
link_fits {y} e h = subst LinkFits (sym e) (record { next = omega arith; sort = omega arith; number = omega arith; place = omega arith })

pub chain-cut : (h : ℕ) {c : Chain} → c ≡ chain_in h → (c.count < 65536) × (c.first < 4096) × (c.last < 4096)
chain-cut h e = subst (λ (c : Chain). (c.count < 65536) × (c.first < 4096) × (c.last < 4096)) (sym e) (omega arith, omega arith, omega arith)

pub longer-fits : (h : ℕ) {at : ℕ} {c : Chain} → c ≡ chain_in h → at < 4096 → ChainFits (longer at c)
longer-fits h e l = let cut = chain-cut h e in record { count = omega (arith, cut.0); first = cut.1; last = l }

-- what `set_next` and `set_last` put: a link with another next; the first entry of a chain, and one after others
pub next-put : (t : List ℕ) (at next : ℕ) (link : Link) → link ≡ link_in (word_in t (at + 1))
    → put_word t (at + 1) (link_word (linked_to next link)) ≡ put_next t at next
unfolding put_next
next-put t at next link i = ap (λ (l : Link). put_word t (at + 1) (link_word (linked_to next l))) i

pub empty-last : (t : List ℕ) (k at h : ℕ) (c : Chain) → h ≡ word_in t k → c ≡ chain_in h → c.count ≡ 0 → put_word t k (chain_word (begun at)) ≡ put_last t k at
empty-last t k at h c e i z = sym (empty-is t k at (ap (λ (a : Chain). a.count) (sym (i ∙ ap chain_in e)) ∙ z))

pub longer-last : (t : List ℕ) (k at h : ℕ) (c : Chain) → h ≡ word_in t k → c ≡ chain_in h → (c.count ≡ 0 → ⊥)
    → put_word (put_next t c.last at) k (chain_word (longer at c)) ≡ put_last t k at
longer-last t k at h c e i d =
    let is : c ≡ chain_in (word_in t k) = i ∙ ap chain_in e in
    ap (λ (a : Chain). put_word (put_next t a.last at) k (chain_word (longer at a))) is
    ∙ sym (longer-is t k at (λ z. d (ap (λ (a : Chain). a.count) is ∙ z)))

-- ---- the bytes of the entry

module _ (t : List ℕ) (end : ℕ) (e : NameEntry) (room : index_bytes ≤ length t) (inside : end + 4 + length e.name ≤ name_bytes) where
  entry-fits : end + length (entry_bytes e) ≤ length t
  entry-fits = omega (arith, entry_length e)

  bytes-long : length (put t end (entry_bytes e)) ≡ length t
  bytes-long = length-put t end (entry_bytes e) entry-fits

  pub bytes_word : (j : ℕ) → word_in (put t end (entry_bytes e)) j ≡ word_in t j
  unfolding word_in
  bytes_word j = ap unle (part-put-after t end (entry_bytes e) entry-fits (name_bytes + 8 * j) 8 (omega (arith, entry_length e)))

  bytes-before : (p w : ℕ) → p + w ≤ end → part (put t end (entry_bytes e)) p w ≡ part t p w
  bytes-before p w h = part-put-before t end (entry_bytes e) entry-fits p w h

  name_in : part (entry_bytes e) 4 (length e.name) ≡ e.name
  unfolding part le
  name_in = take-length e.name

  bytes-name : part (put t end (entry_bytes e)) (end + 4) (length e.name) ≡ e.name
  bytes-name =
      sym (part-part (put t end (entry_bytes e)) end (length (entry_bytes e)) 4 (length e.name) (omega (arith, entry_length e)))
      ∙ ap (λ (l : List ℕ). part l 4 (length e.name)) (part-put-same t end (entry_bytes e) entry-fits) ∙ name_in

-- ---- what the words are after an entry

-- m is the first word of the new entry and C the word of its chain. The words of the new entry and that of the link of the chain's last entry are other words
-- where what the chain says of its last is true
pub record Changed (t u : List ℕ) (end : ℕ) (e : NameEntry) (m C : ℕ) : Type 0 where
  pub long : length u ≡ length t
  pub names : take name_bytes u ≡ put (take name_bytes t) end (entry_bytes e)
  pub before : (p w : ℕ) → p + w ≤ end → part u p w ≡ part t p w
  pub name : part u (end + 4) (length e.name) ≡ e.name
  pub others : (j : ℕ) → j < 6436 → (j ≡ m → ⊥) → (j ≡ m + 1 → ⊥) → (j ≡ C → ⊥)
      → (((chain_in (word_in t C)).count ≡ 0 → ⊥) → j ≡ (chain_in (word_in t C)).last + 1 → ⊥) → word_in u j ≡ word_in t j
  pub front : front_of e.name < 256 ^ 8 → (((chain_in (word_in t C)).count ≡ 0 → ⊥) → m ≡ (chain_in (word_in t C)).last + 1 → ⊥)
      → word_in u m ≡ front_of e.name
  pub link : (((chain_in (word_in t C)).count ≡ 0 → ⊥) → (chain_in (word_in t C)).last ≡ m → ⊥) → word_in u (m + 1) ≡ link_word (new_link end e)
  pub empty : (chain_in (word_in t C)).count ≡ 0 → word_in u C ≡ chain_word (begun m)
  pub more : ((chain_in (word_in t C)).count ≡ 0 → ⊥) → word_in u C ≡ chain_word (longer m (chain_in (word_in t C)))
  pub linked : ((chain_in (word_in t C)).count ≡ 0 → ⊥) → ((chain_in (word_in t C)).last + 1 ≡ C → ⊥) → ((chain_in (word_in t C)).last + 1 ≡ m → ⊥)
      → ((chain_in (word_in t C)).last ≡ m → ⊥) → word_in t ((chain_in (word_in t C)).last + 1) < 1000000000000000000
      → word_in u ((chain_in (word_in t C)).last + 1) ≡ link_word (linked_to m (link_in (word_in t ((chain_in (word_in t C)).last + 1))))
  pub count : word_in u (6436 + e.sort) ≡ word_in t (6436 + e.sort) % 65536 + 1
  pub counts : (s : ℕ) → s < 8 → (s ≡ e.sort → ⊥) → word_in u (6436 + s) ≡ word_in t (6436 + s)
  pub all : word_in u 6444 ≡ word_in t 6444 % 65536 + 1

module _ (t : List ℕ) (end : ℕ) (e : NameEntry) (room : index_bytes ≤ length t) (inside : end + 4 + length e.name ≤ name_bytes) (sort : e.sort < 8)
    (short : length e.name ≤ 64) where
  abbrev m : ℕ
  m = new_at t

  abbrev C : ℕ
  C = chain_at (family_number e.sort e.number % 36) (length e.name)

  abbrev x : ℕ
  x = front_of e.name

  abbrev y : ℕ
  y = link_word (new_link end e)

  abbrev t1 : List ℕ
  t1 = put t end (entry_bytes e)

  abbrev t3 : List ℕ
  t3 = put_node t1 m x y

  abbrev t4 : List ℕ
  t4 = put_last t3 C m

  abbrev t5 : List ℕ
  t5 = put_more t4 (6436 + e.sort)

  small : m < 4095
  small = omega arith

  entry-word : m < 4096
  entry-word = omega (arith, small)

  room1 : index_bytes ≤ length t1
  room1 = omega (arith, bytes-long t end e room inside)

  kept3 : Kept t1 t3
  kept3 = node_kept t1 room1 m x y entry-word

  room3 : index_bytes ≤ length t3
  room3 = omega (arith, room1, kept3.long)

  low : 4096 ≤ C
  low = omega arith

  high : C < 6436
  high = omega (arith, short)

  in-index : C < 6445
  in-index = omega (arith, high)

  kept4 : Kept t3 t4
  kept4 = last-stage t3 room3 C m in-index entry-word

  room4 : index_bytes ≤ length t4
  room4 = omega (arith, room3, kept4.long)

  count_word : 6436 + e.sort < 6445
  count_word = omega (arith, sort)

  kept5 : Kept t4 t5
  kept5 = more-kept t4 room4 (6436 + e.sort) count_word

  room5 : index_bytes ≤ length t5
  room5 = omega (arith, room4, kept5.long)

  kept : Kept t1 (put_more t5 6444)
  kept = kept_on (kept_on (kept_on kept3 kept4) kept5) (more-kept t5 room5 6444 (omega arith))

  -- the words that are not the new entry's, before that of the chain is written
  link3 : (j : ℕ) → (j ≡ m → ⊥) → (j ≡ m + 1 → ⊥) → word_in t3 j ≡ word_in t j
  link3 j a b = node-other t1 room1 m x y entry-word j a b ∙ bytes_word t end e room inside j

  chain3 : word_in t3 C ≡ word_in t C
  chain3 = link3 C (λ z. omega (arith, low, small)) (λ z. omega (arith, low, small))

  -- the words before the counts are those of the chain's stage
  up : (j : ℕ) → j < 6436 → word_in (put_more t5 6444) j ≡ word_in t4 j
  up j h = more-other t5 room5 6444 (omega arith) j (λ z. omega arith) ∙ more-other t4 room4 (6436 + e.sort) count_word j (λ z. omega arith)

  -- the words of the counts are as they were before their stage
  down : (j : ℕ) → 6436 ≤ j → j < 6445 → word_in t4 j ≡ word_in t j
  down j h g =
      last-other t3 room3 C m in-index entry-word j (λ z. omega (arith, high)) (λ d z. omega arith)
      ∙ link3 j (λ z. omega (arith, small)) (λ z. omega (arith, small))

  -- the stage of the chain, in the words of the memory before
  abbrev was : Chain
  was = chain_in (word_in t C)

  was3 : chain_in (word_in t3 C) ≡ was
  was3 = ap chain_in chain3

  count3 : (chain_in (word_in t3 C)).count ≡ was.count
  count3 = ap (λ (c : Chain). c.count) was3

  last3 : (chain_in (word_in t3 C)).last ≡ was.last
  last3 = ap (λ (c : Chain). c.last) was3

  others4 : (j : ℕ) → (j ≡ C → ⊥) → ((was.count ≡ 0 → ⊥) → j ≡ was.last + 1 → ⊥) → word_in t4 j ≡ word_in t3 j
  others4 j a b = last-other t3 room3 C m in-index entry-word j a (λ d z. b (λ q. d (count3 ∙ q)) (z ∙ ap (λ (k : ℕ). k + 1) last3))

  linked4 : (was.count ≡ 0 → ⊥) → (was.last + 1 ≡ C → ⊥) → (was.last + 1 ≡ m → ⊥) → (was.last ≡ m → ⊥) → word_in t (was.last + 1) < 1000000000000000000
      → word_in t4 (was.last + 1) ≡ link_word (linked_to m (link_in (word_in t (was.last + 1))))
  linked4 d a b n h =
      let same_word : word_in t3 ((chain_in (word_in t3 C)).last + 1) ≡ word_in t (was.last + 1) =
      ap (λ (k : ℕ). word_in t3 (k + 1)) last3 ∙ link3 (was.last + 1) b (λ z. n (omega arith)) in
      ap (λ (k : ℕ). word_in t4 (k + 1)) (sym last3)
      ∙ last-linked t3 room3 C m in-index entry-word (λ z. d (sym count3 ∙ z)) (λ z. a (ap (λ (k : ℕ). k + 1) (sym last3) ∙ z))
      (linked-below (word_in t3 ((chain_in (word_in t3 C)).last + 1)) m entry-word (omega (arith, same_word, h)))
      ∙ ap (λ (k : ℕ). link_word (linked_to m (link_in k))) same_word

  pub changed : Changed t (put_entry t end e) end e m C
  unfolding put_entry
  changed = record {
    long = kept.long ∙ bytes-long t end e room inside;
    names = kept-take kept ∙ take_put name_bytes t end (entry_bytes e) (omega (arith, entry_length e, inside)) (omega (arith, room));
    before = λ p w h. kept.front p w (omega (arith, inside)) ∙ bytes-before t end e room inside p w h;
    name = kept.front (end + 4) (length e.name) inside ∙ bytes-name t end e room inside;
    others = λ j l a b c d. up j l ∙ others4 j c d ∙ link3 j a b;
    front = λ h d. up m (omega (arith, small)) ∙ others4 m (λ z. omega (arith, low, small)) d ∙ node-front t1 room1 m x y entry-word h;
    link = λ d.
        up (m + 1) (omega (arith, small)) ∙ others4 (m + 1) (λ z. omega (arith, low, small)) (λ a z. d a (omega arith))
        ∙ node-link t1 room1 m x y entry-word (omega (arith, sort, inside));
    empty = λ z. up C high ∙ last_empty t3 room3 C m in-index entry-word (count3 ∙ z);
    more = λ d.
        up C high ∙ last-longer t3 room3 C m in-index entry-word (λ z. d (sym count3 ∙ z))
        ∙ ap (λ (c : Chain). chain_word (longer m c)) was3;
    linked = λ d a b n h. up (was.last + 1) (omega arith) ∙ linked4 d a b n h;
    count =
        more-other t5 room5 6444 (omega arith) (6436 + e.sort) (λ z. omega (arith, sort)) ∙ more-here t4 room4 (6436 + e.sort) count_word
        ∙ ap (λ (k : ℕ). k % 65536 + 1) (down (6436 + e.sort) (omega arith) count_word);
    counts = λ s l d.
        more-other t5 room5 6444 (omega arith) (6436 + s) (λ z. omega arith)
        ∙ more-other t4 room4 (6436 + e.sort) count_word (6436 + s) (λ z. d (omega arith))
        ∙ down (6436 + s) (omega arith) (omega arith);
    all =
        more-here t5 room5 6444 (omega arith)
        ∙ ap (λ (k : ℕ). k % 65536 + 1)
        (more-other t4 room4 (6436 + e.sort) count_word 6444 (λ z. omega (arith, sort)) ∙ down 6444 (omega arith) (omega arith));
  }
