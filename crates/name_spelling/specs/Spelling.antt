-- How a name is tested and hashed in one pass, part by part. The documents know nothing of it. Assumes nothing.
use Rattle.std.specs.Prelude.{◌≡◌, Bool, true, false, not, ◌&&◌, cond, List, ℕ, ◌+◌, ◌/◌, ◌%◌, ◌^◌, ◌≤◌, ◌<◌, eqb, leb, ltb, length, get_or, Option, Some, None}
use Prim.Native.Char.{Char, code}
use Rattle.lexer.specs.Class.{class_of, goes_on, is_dot, max_name, all_go_on, parts, has_good_parts}
use Rattle.policy.specs.Basics.{Name}
use Rattle.policy.specs.Words.{is_reserved}
use Rattle.symbols.specs.Section.{between}
use Rattle.bloom_filter.specs.Filter.{stepped, hash_from}
use Rattle.name_spelling.specs.declared.Part.{Part}

-- a byte as a bit among 64
abbrev pub bit_of : ℕ → ℕ
bit_of b = b / 2 % 64

-- the last bytes of the reserved words of a length, as bits; 2 and 3 have one bit, and so have l and m
abbrev pub ending : Char → ℕ
ending c = 2 ^ bit_of (code c)

abbrev pub endings : ℕ → ℕ
endings n =
    cond (eqb n 2) (ending "1" + ending "2" + ending "q" + ending "r")
    (cond (eqb n 3) (ending "d" + ending "l" + ending "q" + ending "r" + ending "t")
    (cond (eqb n 5) (ending "y")
    (cond (eqb n 6) (ending "p") 0)))

-- a word of n bytes whose last is b ends, by its bit, like a reserved word of its length
unfoldable pub may_be_reserved : ℕ → ℕ → Bool
may_be_reserved n b = eqb (endings n / 2 ^ bit_of b % 2) 1

-- the hash, where the bytes pass the test
abbrev pub hash_if : Bool → ℕ → Option ℕ
hash_if false h = None
hash_if true h = Some h

-- the bytes from a place to before another go on the part that starts there, whose first byte is not tested; with the hash of the name up to there
pub record ReadTo (t : List ℕ) (from past before hash at : ℕ) : Type 0 where
  pub ahead : from < at
  pub within : at ≤ past
  pub goes_on_lem : all_go_on (between t (from + 1) at) ≡ true
  pub hashed : hash ≡ hash_from (between t from at) before
  pub small : hash < 4294967296

-- such a part, as far as it goes
pub record PartRead (t : List ℕ) (from past before : ℕ) (r : Part) : Type 0 where
  pub read : ReadTo t from past before r.hash r.end
  pub stops : (ltb r.end past && goes_on (class_of (get_or t r.end 0))) ≡ false

-- good parts with one dot between, at most n of them, from a hash on
abbrev pub parts_spelled : ℕ → Name → ℕ → Option ℕ
parts_spelled n w h = hash_if (has_good_parts w && leb (length (parts w)) n && not (is_reserved w)) (hash_from w h)

-- after a part, from a hash on: a dot b, and then at most n parts w
abbrev pub behind_part : ℕ → ℕ → Name → ℕ → Option ℕ
behind_part n b w h = cond (is_dot (class_of b)) (parts_spelled n w (stepped h b)) None

-- the same in a table: the part from a place to before the dot, and what is after it to before a third place
abbrev pub more_spelled : List ℕ → ℕ → ℕ → ℕ → ℕ → ℕ → Option ℕ
more_spelled t from dot past h n = cond (is_reserved (between t from dot)) None (behind_part n (get_or t dot 0) (between t (dot + 1) past) h)

-- W-203: the names of tables are "at most 64 bytes and nine parts, a permission's one"; "A name with a reserved part counts as reserved"
abbrev pub is_spelt : ℕ → Name → Bool
is_spelt n w = has_good_parts w && leb (length w) max_name && leb (length (parts w)) n && not (is_reserved w)

abbrev pub spelled : ℕ → Name → Option ℕ
spelled n w = hash_if (is_spelt n w) (hash_from w 0)
