-- The chains in the index of the symbols: the entries of each family and length, in order of declaration. Nobody outside sees it; what is looked up is what the
-- entries say. Assumes nothing.
use Rattle.std.specs.Prelude.{◌≡◌, Bool, true, cond, List, [], ◌∷◌, ℕ, suc, ◌+◌, ◌*◌, ◌<◌, ◌≤◌, eqb, length, drop}
use Rattle.byte_slices.specs.Parts.{part}
use Rattle.policy.specs.Basics.{Name, same}
use Rattle.policy.specs.Encode.{NameEntry}
use Rattle.symbols.specs.Lookup.{family_number, count_sort}
use Rattle.symbols.specs.Section.{name_bytes}
use Rattle.name_index.specs.Index.{front_of, word_in, chain_at, chain_in, link_in, index_bytes}
use Rattle.name_chains.specs.Compared.{is_candidate, TriedIn}
use Rattle.name_chains.specs.declared.Tried.{Tried}
use Rattle.name_index.specs.declared.Chain.{Chain}
use Rattle.name_index.specs.declared.Link.{Link}

-- ---- the chain of a family f and a length n among the entries es

-- how many they are
unfoldable pub how_many : ℕ → ℕ → List NameEntry → ℕ
how_many f n [] = 0
how_many f n (e ∷ es) = cond (is_candidate f n e) (1 + how_many f n es) (how_many f n es)

-- the number of the first of them, where there is one
unfoldable pub first_candidate : ℕ → ℕ → List NameEntry → ℕ
first_candidate f n [] = 0
first_candidate f n (e ∷ es) = cond (is_candidate f n e) 0 (1 + first_candidate f n es)

-- the number of the last of them, where there is one
unfoldable pub last_candidate : ℕ → ℕ → List NameEntry → ℕ
last_candidate f n [] = 0
last_candidate f n (e ∷ es) = cond (eqb (how_many f n es) 0) 0 (1 + last_candidate f n es)

-- ---- the index of some entries

-- c is the chain of the family f and the length n
pub record ChainIs (c : Chain) (f n : ℕ) (es : List NameEntry) : Type 0 where
  pub count : c.count ≡ how_many f n es
  pub first : 0 < how_many f n es → c.first ≡ 2 * first_candidate f n es
  pub last : 0 < how_many f n es → c.last ≡ 2 * last_candidate f n es

-- the word x and the link l are those of the entry e, whose name is before the end
pub record NodeIs (t : List ℕ) (end x : ℕ) (l : Link) (e : NameEntry) : Type 0 where
  pub front : x ≡ front_of e.name
  pub sort : l.sort ≡ e.sort
  pub number : l.number ≡ e.number
  pub stands : part t l.place (length e.name) ≡ e.name
  pub inside : l.place + length e.name ≤ end
  pub family : family_number e.sort e.number < 36
  pub long : length e.name ≤ 64

-- the entry k of es is e
abbrev pub Nth : List NameEntry → ℕ → NameEntry → Type 0
Nth es k e = drop k es ≡ e ∷ drop (suc k) es

-- the memory t has the chains of the entries es, which end at a place. The link of an entry names the next of its chain, where there is one
pub record Chained (t : List ℕ) (end : ℕ) (es : List NameEntry) : Type 0 where
  pub room : index_bytes ≤ length t
  pub below : end ≤ name_bytes
  pub few : length es ≤ 2048
  pub all : word_in t 6444 ≡ length es
  pub counts : (s : ℕ) → s < 8 → word_in t (6436 + s) ≡ count_sort s es
  pub chains : (f n : ℕ) → f < 36 → n ≤ 64 → ChainIs (chain_in (word_in t (chain_at f n))) f n es
  pub nodes : (k : ℕ) (e : NameEntry) → Nth es k e → NodeIs t end (word_in t (2 * k)) (link_in (word_in t (2 * k + 1))) e
  pub links : (k : ℕ) (e : NameEntry) → Nth es k e → (f n : ℕ) → is_candidate f n e ≡ true → 0 < how_many f n (drop (suc k) es)
      → (link_in (word_in t (2 * k + 1))).next ≡ 2 * (suc k + first_candidate f n (drop (suc k) es))

-- ---- what the functions of a try say

-- c is the chain of the family f and the length n, of whatever entries the memory t has. Where it has entries, there is room for an index
pub record HasChain (t : List ℕ) (f n : ℕ) (c : Chain) : Type 0 where
  pub room : 0 < c.count → index_bytes ≤ length t
  pub small : c.first < 4096
  pub is : (end : ℕ) (es : List NameEntry) → Chained t end es → ChainIs c f n es

-- whether the entry whose first word is `at` has the name w, which has its length
pub record Compares (t : List ℕ) (at : ℕ) (w : Name) (r : Bool) : Type 0 where
  pub compares : (end : ℕ) (es : List NameEntry) → Chained t end es → (k : ℕ) → at ≡ 2 * k → (e : NameEntry) → Nth es k e
      → length e.name ≡ length w → r ≡ same w e.name

-- a try at the name w in the family f, by the chains of whatever entries the memory t has
pub record Tries (t : List ℕ) (f : ℕ) (w : Name) (r : Tried) : Type 0 where
  pub tries : (end : ℕ) (es : List NameEntry) → Chained t end es → TriedIn f w es r
