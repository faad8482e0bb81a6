-- The words of the index, in the memory of the symbols after the room for the entries: what is read from them, and what an entry more puts there. Assumes nothing.
--
-- The index is words of 8 bytes. The entry k has the words 2k, the first eight bytes of its name, and 2k + 1, its link. From word 4096 on each family and
-- length has its chain. From word 6436 on the entries of each sort are counted, and in word 6444 all. Where a chain or a link names an entry k, it holds the
-- number of the entry's first word, 2k: a try reads on there, and need not double k at each entry.
use Rattle.std.specs.Prelude.{cond, List, ℕ, ◌+◌, ◌*◌, ◌/◌, ◌%◌, ◌<◌, ◌≤◌, eqb, length, take}
use Rattle.byte_slices.specs.Parts.{part, put}
use Rattle.policy.specs.Basics.{Name, le, unle}
use Rattle.policy.specs.Encode.{NameEntry, entry_bytes}
use Rattle.symbols.specs.Lookup.{family_number}
use Rattle.symbols.specs.Section.{name_bytes}
use Rattle.name_index.specs.declared.Chain.{Chain}
use Rattle.name_index.specs.declared.Link.{Link}

-- the memory of the symbols with their index
abbrev pub index_bytes : ℕ
index_bytes = 188648

-- ---- words that are read

-- the first eight bytes of a name as one number, the lowest first; or all, where it has less
abbrev pub front_of : Name → ℕ
front_of w = unle (take 8 w)

unfoldable pub word_in : List ℕ → ℕ → ℕ
word_in t k = unle (part t (name_bytes + 8 * k) 8)

-- where the chain of a family and a length stands: 36 families, and names of 0 to 64 bytes
abbrev pub chain_at : ℕ → ℕ → ℕ
chain_at f n = 4096 + 65 * f + n

-- the chain in a word: its count is cut to 2 bytes, and the numbers of words to those of the entries' words, so that they are such on any bytes
abbrev pub chain_in : ℕ → Chain
chain_in h = record { count = h % 65536; first = h / 65536 % 4096; last = h / 268435456 % 4096 }

-- a chain as one word, where its parts fit. A count of 65536 is let through, so that a chain that is made longer asks nothing of the memory; it is not read
-- back, and no chain of at most 2,048 entries has it
abbrev pub chain_word : Chain → ℕ
chain_word c = c.count + 65536 * c.first + 268435456 * c.last

pub record ChainFits (c : Chain) : Type 0 where
  pub count : c.count ≤ 65536
  pub first : c.first < 4096
  pub last : c.last < 4096

-- the link in a word
abbrev pub link_in : ℕ → Link
link_in h = record { next = h % 4096; sort = h / 4096 % 8; number = h / 32768 % 65536; place = h / 2147483648 }

-- a link as one word, where its parts fit
abbrev pub link_word : Link → ℕ
link_word l = l.next + 4096 * l.sort + 32768 * l.number + 2147483648 * l.place

pub record LinkFits (l : Link) : Type 0 where
  pub next : l.next < 4096
  pub sort : l.sort < 8
  pub number : l.number < 65536
  pub place : l.place < 8589934592

-- ---- words that are put

-- a number is put into a word
unfoldable pub put_word : List ℕ → ℕ → ℕ → List ℕ
put_word t k n = put t (name_bytes + 8 * k) (le 8 n)

-- the words of an entry are put, whose first is `at`
unfoldable pub put_node : List ℕ → ℕ → ℕ → ℕ → List ℕ
put_node t at front link = put_word (put_word t at front) (at + 1) link

-- a link with another next
abbrev pub linked_to : ℕ → Link → Link
linked_to next l = record { next = next; sort = l.sort; number = l.number; place = l.place }

-- the entry whose first word is `next` is put after the entry whose first word is `at`
unfoldable pub put_next : List ℕ → ℕ → ℕ → List ℕ
put_next t at next = put_word t (at + 1) (link_word (linked_to next (link_in (word_in t (at + 1)))))

-- the chain of one entry, and a chain with one more after its last
abbrev pub begun : ℕ → Chain
begun at = record { count = 1; first = at; last = at }

abbrev pub longer : ℕ → Chain → Chain
longer at c = record { count = c.count + 1; first = c.first; last = at }

-- the entry whose first word is `at` is put at the end of the chain that is in the word k
unfoldable pub put_last : List ℕ → ℕ → ℕ → List ℕ
put_last t k at =
    cond (eqb (chain_in (word_in t k)).count 0) (put_word t k (chain_word (begun at)))
    (put_word (put_next t (chain_in (word_in t k)).last at) k (chain_word (longer at (chain_in (word_in t k)))))

-- one more is counted in a word
unfoldable pub put_more : List ℕ → ℕ → List ℕ
put_more t k = put_word t k (word_in t k % 65536 + 1)

-- the first word of the entry that comes next
abbrev pub new_at : List ℕ → ℕ
new_at t = 2 * (word_in t 6444 % 2048)

-- the link of an entry that starts at a place, with none after it in its chain
abbrev pub new_link : ℕ → NameEntry → Link
new_link end e = record { next = 0; sort = e.sort; number = e.number % 65536; place = end + 4 }

-- the memory with the entry e more, which starts at a place; its number is cut to 2 bytes, and its family to those that there are
unfoldable pub put_entry : List ℕ → ℕ → NameEntry → List ℕ
put_entry t end e =
    put_more (put_more
    (put_last (put_node (put t end (entry_bytes e)) (new_at t) (front_of e.name) (link_word (new_link end e)))
    (chain_at (family_number e.sort e.number % 36) (length e.name)) (new_at t))
    (6436 + e.sort)) 6444
