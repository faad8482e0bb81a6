-- Names part by part: a part that does not end like a reserved word of its length is none, what one part makes of a name, and what the hash of a name says.
-- Assumes nothing.
use mathlib.Core.Path.{◌≡◌, refl, sym, ap, ap₂, ◌∙◌}
use mathlib.Core.Logic.{⊎_elim}
use mathlib.Core.Bool.{Bool, true, false, not, ◌&&◌, ◌||◌, cond, false≢true, and-true, and-false}
use mathlib.Core.List.{List, [], ◌∷◌, ◌++◌}
use Prim.Native.Nat.{ℕ, suc, ◌+◌, ◌-◌, ◌≤◌, ◌<◌}
use native.Mathlib.Omega.{arith}
use borrow.Author.Tests.{lt-ltb, ltb-true, ltb-false, le-leb, lt-leb, leb-true, leb-false}
use lib.Dec.{leb, ltb}
use lib.ListN.{length, get_or, drop}
use lib.Seq.{get_or-take, get_or-drop}
use Rattle.std.specs.Prelude.{Option, Some, None}
use Rattle.byte_slices.specs.Parts.{part}
use Rattle.byte_slices.proofs.PartLaws.{length-part-min}
use Rattle.lexer.specs.Answers.{part_starts}
use Rattle.lexer.specs.Class.{class_of, starts, goes_on, is_dot, max_name, all_go_on, is_part, all_parts, parts, has_good_parts}
use Rattle.lexer.proofs.Names.{dotted-from, no_part, some-part, cut-at-dot, only_part}
use Rattle.policy.specs.Basics.{Name, same, any, every, is_in}
use Rattle.policy.specs.Words.{reserved, is_reserved}
use Rattle.policy.specs.Sound.{is_good_part}
use Rattle.policy.proofs.Lists.{both_true, true-both, either_true, same-is}
use Rattle.symbols.specs.Section.{between}
use Rattle.byte_slices.proofs.PartLaws.{part-cons, part_none, part_join}
use Rattle.bloom_filter.specs.Filter.{stepped, hash_from, hash_of}
use Rattle.name_spelling.specs.Spelling.{may_be_reserved, hash_if, ReadTo, PartRead, parts_spelled, behind_part, more_spelled, is_spelt, spelled}
use Rattle.name_spelling.specs.declared.Part.{Part}
use Rattle.name_spelling.proofs.DottedLaws.{alone, no_name}

-- ---- reserved words

-- what is true of all of them is true of each
of-each : (f : Name → Bool) (ws : List Name) (w : Name) → every f ws ≡ true → is_in w ws ≡ true → f w ≡ true
unfolding every is_in any
of-each f [] w e h = absurd (false≢true h)
of-each f (x ∷ ws) w e h =
    let b = both_true (f x) (every f ws) e in
    ⊎_elim (λ q. ap f (same-is w x q) ∙ b.0) (λ q. of-each f ws w b.1 q) (either_true (same w x) (any (same w) ws) h)

-- the test by a word's length and its last byte
abbrev test : Name → Bool
test w = may_be_reserved (length w) (get_or w (length w - 1) 0)

all_pass : every test reserved ≡ true
unfolding every reserved may_be_reserved
all_pass = refl

not-among : (w : Name) → test w ≡ false → is_in w reserved ≡ false
not-among w h = by (is_in w reserved) refl
  where
    by : (q : Bool) → is_in w reserved ≡ q → q ≡ false
    by false e = refl
    by true e = absurd (false≢true (sym h ∙ of-each test reserved w all_pass e))

-- a part is reserved where it is among the reserved words
part-reserved : (p : Name) → is_part p ≡ true → is_reserved p ≡ (is_in p reserved || false)
unfolding is_reserved any
part-reserved p e = rw (only_part p e)

not-reserved : (p : Name) → is_part p ≡ true → test p ≡ false → is_reserved p ≡ false
not-reserved p e h = part-reserved p e ∙ rw (not-among p h)

-- ---- bytes of a table

long : (t : List ℕ) (from past : ℕ) → from ≤ past → past ≤ length t → length (between t from past) ≡ past - from
long t from past l g = omega (arith, length-part-min t from (past - from))

module _ (t : List ℕ) (from past : ℕ) (l : from < past) (g : past ≤ length t) where
  first_byte : between t from past ≡ get_or t from 0 ∷ between t (from + 1) past
  first_byte =
      let e : (past - from) - 1 ≡ past - (from + 1) = omega arith in
      rw (part-cons t from (past - from) (omega arith) (omega arith), e)

  last_byte : get_or (between t from past) (length (between t from past) - 1) 0 ≡ get_or t (past - 1) 0
  unfolding part
  last_byte =
      ap (λ (k : ℕ). get_or (between t from past) (k - 1) 0) (long t from past (omega arith) g)
      ∙ get_or-take (past - from) (drop from t) ((past - from) - 1) 0 (omega arith)
      ∙ get_or-drop from t ((past - from) - 1) 0
      ∙ ap (λ (k : ℕ). get_or t k 0) (omega arith)

  pub not-reserved-here : is_part (between t from past) ≡ true → may_be_reserved (past - from) (get_or t (past - 1) 0) ≡ false → is_reserved (between t from past) ≡ false
  not-reserved-here e h = not-reserved (between t from past) e (ap₂ may_be_reserved (long t from past (omega arith) g) last_byte ∙ h)

-- the bytes up to a place, and from there on
joins : (t : List ℕ) (from at past : ℕ) → from ≤ at → at ≤ past → between t from past ≡ between t from at ++ between t at past
joins t from at past l g =
    let e : past - from ≡ (at - from) + (past - at) = omega arith in
    let f : from + (at - from) ≡ at = omega arith in
    ap (part t from) e ∙ part_join t from (at - from) (past - at) ∙ ap (λ (k : ℕ). between t from at ++ part t k (past - at)) f

-- there is a byte
pub a_byte : (at past : ℕ) (q : Bool) → (ltb at past && q) ≡ true → at < past
a_byte at past q e = ltb-true at past (both_true (ltb at past) q e).0

-- one byte more
one_more : (t : List ℕ) (from at : ℕ) → from ≤ at → at < length t → between t from (at + 1) ≡ between t from at ++ (get_or t at 0 ∷ [])
one_more t from at l g =
    let z : (at + 1) - (at + 1) ≡ 0 = omega arith in
    joins t from at (at + 1) l (omega arith)
    ∙ ap (λ (w : List ℕ). between t from at ++ w) (first_byte t at (at + 1) (omega arith) (omega arith) ∙ ap (λ (w : List ℕ). get_or t at 0 ∷ w) (part_none t (at + 1) _ z))

-- ---- a part, byte by byte

hash-append : (v w : List ℕ) (h : ℕ) → hash_from (v ++ w) h ≡ hash_from w (hash_from v h)
unfolding hash_from
hash-append [] w h = refl
hash-append (b ∷ v) w h = hash-append v w (stepped h b)

goes-on-append : (v : List ℕ) (b : ℕ) → all_go_on v ≡ true → goes_on (class_of b) ≡ true → all_go_on (v ++ (b ∷ [])) ≡ true
unfolding all_go_on
goes-on-append [] b e f = rw f
goes-on-append (c ∷ v) b e f =
    let x = both_true (goes_on (class_of c)) (all_go_on v) e in
    true-both (goes_on (class_of c)) (all_go_on (v ++ (b ∷ []))) x.0 (goes-on-append v b x.1 f)

module _ (t : List ℕ) (from past before hash : ℕ) (g : past ≤ length t) where
  pub read_first : from < past → hash ≡ stepped before (get_or t from 0) → hash < 4294967296 → ReadTo t from past before hash (from + 1)
  unfolding hash_from all_go_on
  read_first l e s =
      let z : (from + 1) - (from + 1) ≡ 0 = omega arith in
      let none = part_none t (from + 1) ((from + 1) - (from + 1)) z in
      record {
        ahead = omega arith;
        within = omega arith;
        goes_on_lem = rw none;
        hashed = e ∙ rw (first_byte t from (from + 1) (omega arith) (omega arith), none);
        small = s;
      }

  module _ (at : ℕ) (x : ReadTo t from past before hash at) where
    pub read_next : (next : ℕ) → (ltb at past && goes_on (class_of (get_or t at 0))) ≡ true → next ≡ stepped hash (get_or t at 0) → next < 4294967296
        → ReadTo t from past before next (at + 1)
    unfolding hash_from
    read_next next e f s =
        let y = both_true (ltb at past) (goes_on (class_of (get_or t at 0))) e in
        let l = ltb-true at past y.0 in
        let a = x.ahead in
        record {
          ahead = omega arith;
          within = omega arith;
          goes_on_lem = rw (one_more t (from + 1) at (omega arith) (omega arith)) (goes-on-append (between t (from + 1) at) (get_or t at 0) x.goes_on_lem y.1);
          hashed =
              f
              ∙ ap (λ (h : ℕ). stepped h (get_or t at 0)) x.hashed
              ∙ sym (ap (λ (w : List ℕ). hash_from w before) (one_more t from at (omega arith) (omega arith))
              ∙ hash-append (between t from at) (get_or t at 0 ∷ []) before);
          small = s;
        }

-- ---- a name, part by part

-- what is no name stays none
no-hash : (q : Bool) (o : Option ℕ) → o ≡ None → cond q o None ≡ None
no-hash true o e = e
no-hash false o e = refl

stays-none : (q : Bool) (o : Option ℕ) → o ≡ None → cond q None o ≡ None
stays-none true o e = refl
stays-none false o e = e

-- where no part may stand; where none starts
none_left : (w : Name) (h : ℕ) → parts_spelled 0 w h ≡ None
none_left w h = rw (lt-leb (length (parts w)) 0 (some-part w), and-false (has_good_parts w))

none-starts : (n : ℕ) (w : Name) (h : ℕ) → part_starts w ≡ false → parts_spelled n w h ≡ None
none-starts n w h e = rw (dotted-from w, no_part w e)

-- one part alone
one-part : (n : ℕ) (p : Name) (h : ℕ) → 0 < n → is_part p ≡ true → parts_spelled n p h ≡ hash_if (not (is_reserved p)) (hash_from p h)
unfolding has_good_parts all_parts
one-part n p h l e = rw (only_part p e, e, le-leb 1 n l)

-- a part and what is after it
module _ (n : ℕ) (p : Name) (b : ℕ) (v : Name) (h : ℕ) (l : 0 < n) (e : is_part p ≡ true) where
  cut : is_dot (class_of b) ≡ true → parts (p ++ (b ∷ v)) ≡ p ∷ parts v
  cut d = cut-at-dot p b v d ∙ ap (λ (ps : List Name). ps ++ parts v) (only_part p e)

  few : is_dot (class_of b) ≡ true → leb (length (parts (p ++ (b ∷ v)))) n ≡ leb (length (parts v)) (n - 1)
  few d = ap (λ (ps : List Name). leb (length ps) n) (cut d) ∙ less (leb (length (parts v)) (n - 1)) refl
    where
      less : (q : Bool) → leb (length (parts v)) (n - 1) ≡ q → leb (suc (length (parts v))) n ≡ q
      less true f = le-leb (suc (length (parts v))) n (omega (arith, leb-true (length (parts v)) (n - 1) f))
      less false f = lt-leb (suc (length (parts v))) n (omega (arith, leb-false (length (parts v)) (n - 1) f))

  dotted-behind : is_dot (class_of b) ≡ true → has_good_parts (p ++ (b ∷ v)) ≡ has_good_parts v
  unfolding has_good_parts all_parts
  dotted-behind d = rw (cut d, e)

  reserved-behind : is_dot (class_of b) ≡ true → is_reserved (p ++ (b ∷ v)) ≡ (is_reserved p || is_reserved v)
  unfolding is_reserved any
  reserved-behind d = rw (cut d, only_part p e) (joined (is_in p reserved) (any (λ q. is_in q reserved) (parts v)))
    where
      joined : (x y : Bool) → (x || y) ≡ ((x || false) || y)
      joined true y = refl
      joined false y = refl

  part-and-more : goes_on (class_of b) ≡ false → parts_spelled n (p ++ (b ∷ v)) h ≡ cond (is_reserved p) None (behind_part (n - 1) b v (hash_from p h))
  unfolding hash_from
  part-and-more g = by (is_dot (class_of b)) refl
    where
      split : (x y z : Bool) (k : ℕ) → hash_if (x && not (y || z)) k ≡ cond y None (hash_if (x && not z) k)
      split x true z k = rw (and-false x)
      split x false z k = refl

      by : (q : Bool) → is_dot (class_of b) ≡ q → parts_spelled n (p ++ (b ∷ v)) h ≡ cond (is_reserved p) None (cond q (parts_spelled (n - 1) v (stepped (hash_from p h) b)) None)
      by true d =
          rw (dotted-behind d, few d, reserved-behind d, hash-append p (b ∷ v) h)
          (split (has_good_parts v && leb (length (parts v)) (n - 1)) (is_reserved p) (is_reserved v) (hash_from v (stepped (hash_from p h) b)))
      by false d = rw (no_name p b v g d) (sym (stays-none (is_reserved p) None refl))

-- ---- a part that was read, in its name

-- whether a part starts at a place, by the bytes from there on
starts-there : (t : List ℕ) (at past : ℕ) → past ≤ length t → (ltb at past && starts (class_of (get_or t at 0))) ≡ part_starts (between t at past)
starts-there t at past g = by (ltb at past) refl
  where
    by : (q : Bool) → ltb at past ≡ q → (q && starts (class_of (get_or t at 0))) ≡ part_starts (between t at past)
    by true e = sym (ap part_starts (first_byte t at past (ltb-true at past e) g))
    by false e = sym (ap part_starts (part_none t at (past - at) (omega (arith, ltb-false at past e))))

pub no_start : (t : List ℕ) (n at past h : ℕ) → past ≤ length t → (ltb at past && starts (class_of (get_or t at 0))) ≡ false → parts_spelled n (between t at past) h ≡ None
no_start t n at past h g e = none-starts n (between t at past) h (sym (starts-there t at past g) ∙ e)

-- what is after a part at a dot: no part may; there is no dot; no part starts there; and else parts
module _ (t : List ℕ) (from dot past before left : ℕ) where
  pub more-none : left ≡ 0 → None ≡ more_spelled t from dot past before left
  more-none e =
      sym (stays-none (is_reserved (between t from dot)) _
      (no-hash (is_dot (class_of (get_or t dot 0))) _ (rw e (none_left (between t (dot + 1) past) (stepped before (get_or t dot 0))))))

  pub more-no-dot : is_dot (class_of (get_or t dot 0)) ≡ false → None ≡ more_spelled t from dot past before left
  more-no-dot e = sym (stays-none (is_reserved (between t from dot)) _ (rw e))

  pub more-no-start : past ≤ length t → (ltb (dot + 1) past && starts (class_of (get_or t (dot + 1) 0))) ≡ false → None ≡ more_spelled t from dot past before left
  more-no-start g e =
      sym (stays-none (is_reserved (between t from dot)) _
      (no-hash (is_dot (class_of (get_or t dot 0))) _ (no_start t left (dot + 1) past (stepped before (get_or t dot 0)) g e)))

  module _ (h : ℕ) (d : is_dot (class_of (get_or t dot 0)) ≡ true) (e : h ≡ stepped before (get_or t dot 0)) where
    parts_behind : (o : Option ℕ) → o ≡ parts_spelled left (between t (dot + 1) past) h → cond (is_reserved (between t from dot)) None o ≡ more_spelled t from dot past before left
    parts_behind o f = ap (cond (is_reserved (between t from dot)) None) (f ∙ rw (d, e))

    pub more-no-parts : None ≡ parts_spelled left (between t (dot + 1) past) h → None ≡ more_spelled t from dot past before left
    more-no-parts f = sym (stays-none (is_reserved (between t from dot)) None refl) ∙ parts_behind None f

    pub more_parts : (hash : ℕ) (r : Option ℕ) → Some hash ≡ parts_spelled left (between t (dot + 1) past) h
        → r ≡ hash_if (not (is_reserved (between t from dot))) hash → r ≡ more_spelled t from dot past before left
    more_parts hash r f x = x ∙ turned (is_reserved (between t from dot)) ∙ parts_behind (Some hash) f
      where
        turned : (q : Bool) → hash_if (not q) hash ≡ cond q None (Some hash)
        turned true = refl
        turned false = refl

-- a part that was read
module _ (t : List ℕ) (from past before : ℕ) (r : Part) (g : past ≤ length t) (s : (ltb from past && starts (class_of (get_or t from 0))) ≡ true)
    (x : PartRead t from past before r) where
  pub is-part : is_part (between t from r.end) ≡ true
  unfolding is_part
  is-part =
      let l = x.read.ahead in
      let w = x.read.within in
      rw (first_byte t from r.end l (omega arith))
      (true-both (starts (class_of (get_or t from 0))) (all_go_on (between t (from + 1) r.end))
      (both_true (ltb from past) (starts (class_of (get_or t from 0))) s).1 x.read.goes_on_lem)

  -- the name ends with it
  pub ends : (n : ℕ) → 0 < n → past ≤ r.end → parts_spelled n (between t from past) before ≡ hash_if (not (is_reserved (between t from past))) r.hash
  ends n l m =
      let w = x.read.within in
      let e : r.end ≡ past = omega arith in
      one-part n (between t from past) before l (rw e at is-part)
      ∙ ap (λ (h : ℕ). hash_if (not (is_reserved (between t from past))) h) (sym (rw e at x.read.hashed))

  -- the name goes on after it
  pub goes-behind : (n : ℕ) → 0 < n → r.end < past → parts_spelled n (between t from past) before ≡ more_spelled t from r.end past r.hash (n - 1)
  goes-behind n l m =
      let a = x.read.ahead in
      let stops : goes_on (class_of (get_or t r.end 0)) ≡ false = rw (lt-ltb r.end past m) at x.stops in
      rw (joins t from r.end past (omega arith) (omega arith), first_byte t r.end past m g)
      (part-and-more n (between t from r.end) (get_or t r.end 0) (between t (r.end + 1) past) before l is-part stops
      ∙ ap (λ (h : ℕ). more_spelled t from r.end past h (n - 1)) (sym x.read.hashed))

-- ---- whole names

module _ (t : List ℕ) (from past n : ℕ) (l : from ≤ past) (g : past ≤ length t) where
  pub too_long : max_name < past - from → None ≡ spelled n (between t from past)
  too_long h = rw (lt-leb (length (between t from past)) max_name (omega (arith, long t from past l g)), and-false (has_good_parts (between t from past)))

  pub by_parts : past - from ≤ max_name → parts_spelled n (between t from past) 0 ≡ spelled n (between t from past)
  by_parts h = rw (le-leb (length (between t from past)) max_name (omega (arith, long t from past l g)), and-true (has_good_parts (between t from past)))

hash-small : (w : Name) (h : ℕ) → h < 4294967296 → hash_from w h < 4294967296
unfolding hash_from stepped
hash-small [] h l = l
hash-small (b ∷ w) h l = hash-small w (stepped h b) (omega arith)

-- what a hash says of its name
pub is_spelled : (n : ℕ) (w : Name) (h : ℕ) → Some h ≡ spelled n w → (is_spelt n w ≡ true) × (h ≡ hash_from w 0) × (h < 4294967296)
is_spelled n w h e = by (is_spelt n w) e
  where
    by : (q : Bool) → Some h ≡ hash_if q (hash_from w 0) → (q ≡ true) × (h ≡ hash_from w 0) × (h < 4294967296)
    by true x =
        let f : h ≡ hash_from w 0 = cc in
        (refl, f, omega (arith, f, hash-small w 0 (omega arith)))
    by false x = absurd (cc)

pub not-spelled : (n : ℕ) (w : Name) → None ≡ spelled n w → is_spelt n w ≡ false
not-spelled n w e = by (is_spelt n w) e
  where
    by : (q : Bool) → None ≡ hash_if q (hash_from w 0) → q ≡ false
    by false x = refl
    by true x = absurd (cc)

-- "a permission's one": a good name of one part is a good part
pub spelt-part : (w : Name) → is_spelt 1 w ≡ is_good_part w
unfolding has_good_parts all_parts
spelt-part w = by (is_part w) refl
  where
    one : (q : Bool) → leb (length (parts w)) 1 ≡ q → is_part w ≡ false → (has_good_parts w && leb (length w) max_name && q && not (is_reserved w)) ≡ false
    one true f e = rw (alone w (leb-true (length (parts w)) 1 f), e)
    one false f e = rw (and-false (has_good_parts w && leb (length w) max_name))

    by : (q : Bool) → is_part w ≡ q → is_spelt 1 w ≡ (q && leb (length w) max_name && not (is_reserved w))
    by true e = rw (only_part w e, e, and-true (leb (length w) max_name))
    by false e = one (leb (length (parts w)) 1) refl e

-- the hash of a good name of a family
pub hashed-by : (w : Name) (n f h : ℕ) → n ≡ hash_from w 0 → h ≡ stepped n f → h ≡ hash_of f w
unfolding hash_of
hashed-by w n f h e g = g ∙ ap (λ (k : ℕ). stepped k f) e
