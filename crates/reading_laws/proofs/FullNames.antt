-- W-203: the parts of a full name are the names of the blocks, the outermost first, and then the own name. So where the blocks have good names and are not too
-- many, and the own name is good, a full name that is short enough is good; and a block that is opened leaves the blocks around a statement good. By induction on
-- the blocks. Assumes nothing.
use Prim.Native.Nat.{◌+◌, ◌≤◌}
use native.Mathlib.Omega.{arith}
use mathlib.Core.Path.{◌≡◌, refl, sym, ap, ◌∙◌}
use mathlib.Core.Bool.{Bool, true, false, not, ◌&&◌, ◌||◌, cond, or-false}
use mathlib.Core.List.{List, [], ◌∷◌, ◌++◌, append_assoc, reverse_aux, reverse, reverse_aux-eq, reverse-cons}
use mathlib.Core.Option.{none, some}
use lib.Dec.{leb, ltb}
use lib.ListN.{length}
use borrow.Author.Tests.{leb-true, le-leb, ltb-true, not-true}
use Rattle.lexer.specs.Class.{max_name, is_part, all_parts, parts, has_good_parts, is_name}
use Rattle.lexer.specs.Forms.{Forms, closed, ended, word, part, names_good}
use Rattle.lexer.proofs.Names.{name-part, cut-at-dot, only_part, dot-byte}
use Rattle.policy.specs.Basics.{Name, same, All, any, every, is_in}
use Rattle.policy.specs.Maxima.{max_depth, max_parts}
use Rattle.policy.specs.Statements.{Declaration, plain, class, Policy}
use Rattle.policy.specs.Words.{reserved, is_reserved, dotless, as_part, block_word}
use Rattle.policy.specs.Names.{full}
use Rattle.policy.specs.Grammar.{parts_alone, header_in, block_in}
use Rattle.policy.specs.Scopes.{Scoped}
use Rattle.policy.specs.Reading.{full_declaration, is_short, opens, judge}
use Rattle.policy.specs.Sound.{is_good, is_good_part, good_permissions, good_names}
use Rattle.policy.specs.Accepted.{GoodPath}
use Rattle.policy.proofs.Lists.{both_true, true-both}
use Rattle.policy.proofs.IfAny.{IfAny, nothing, and_then, if-given}
use Rattle.policy.proofs.Dotless.{dotless-part}
use Rattle.reading_laws.proofs.BlockOrStatement.{opens-block}

-- ---- parts

-- the name has no dot in it
abbrev pub OnePart : Name → Type 0
OnePart w = parts w ≡ w ∷ []

-- "`(block b ...)` puts the names declared inside under `b.`": the parts of a full name are the blocks, the outermost first, then the own name
pub parts-full : (path : List Name) (w : Name) → All OnePart path → OnePart w → parts (full path w) ≡ reverse path ++ (w ∷ [])
unfolding full
parts-full [] w h k = k
parts-full (b ∷ path) w h k =
    ap parts (append_assoc (full path b) (46 ∷ []) w) ∙ cut-at-dot (full path b) 46 w (dot-byte 46)
    ∙ rw (parts-full path b h.1 h.0, k) (ap (λ (l : List Name). l ++ (w ∷ [])) (sym (reverse-cons b path)))

-- ---- good names

-- a part that is no reserved word
abbrev GoodOne : Name → Type 0
GoodOne p = (is_part p ≡ true) × (is_in p reserved ≡ false)

-- a good part is one, and so are those of a path
good-one : (w : Name) → is_good_part w ≡ true → GoodOne w × OnePart w
unfolding is_reserved any
good-one w h =
    let t = both_true (is_part w && leb (length w) max_name) (not (is_reserved w)) h in
    let p = (both_true (is_part w) (leb (length w) max_name) t.0).0 in
    let one = only_part w p in
    let r : (is_in w reserved || false) ≡ false = rw one at (not-true (any (λ p. is_in p reserved) (parts w)) t.1) in
    ((p, sym (or-false (is_in w reserved)) ∙ r), one)

good-ones : (path : List Name) → every is_good_part path ≡ true → All GoodOne path × All OnePart path
unfolding every
good-ones [] h = (tt, tt)
good-ones (b ∷ path) h =
    let t = both_true (is_good_part b) (every is_good_part path) h in
    let one = good-one b t.0 in
    let more = good-ones path t.1 in
    ((one.0, more.0), (one.1, more.1))

-- the other way round they are as many, and each as good
all-turned : (P : Name → Type 0) (l r : List Name) → All P l → All P r → All P (reverse_aux l r)
all-turned P [] r h k = k
all-turned P (x ∷ l) r h k = all-turned P l (x ∷ r) h.1 (h.0, k)

length-turned : (l r : List Name) → length (reverse_aux l r) ≡ length l + length r
length-turned [] r = omega arith
length-turned (x ∷ l) r = omega (arith, length-turned l (x ∷ r))

-- good parts make a dotted name that is not reserved
all-parts : (ps : List Name) → All GoodOne ps → all_parts ps ≡ true
unfolding all_parts
all-parts [] h = refl
all-parts (p ∷ ps) h = true-both (is_part p) (all_parts ps) h.0.0 (all-parts ps h.1)

none-reserved : (ps : List Name) → All GoodOne ps → any (λ p. is_in p reserved) ps ≡ false
unfolding any
none-reserved [] h = refl
none-reserved (p ∷ ps) h = rw h.0.1 (none-reserved ps h.1)

-- "Tables .. hold the full dotted name without leading dot, at most 64 bytes and nine parts": full names of good parts in good blocks are such
pub full-good : (path : List Name) (w : Name) → GoodPath path → is_good_part w ≡ true → length (full path w) ≤ max_name → is_good (full path w) ≡ true
unfolding has_good_parts is_reserved
full-good path w g h l =
    let blocks = good-ones path g.names in
    let own = good-one w h in
    let is : parts (full path w) ≡ reverse_aux path (w ∷ []) = parts-full path w blocks.1 own.1 ∙ sym (reverse_aux-eq path (w ∷ [])) in
    let good : All GoodOne (reverse_aux path (w ∷ [])) = all-turned GoodOne path (w ∷ []) blocks.0 (own.0, tt) in
    let few : length (reverse_aux path (w ∷ [])) ≤ max_parts = omega (arith, length-turned path (w ∷ []), g.few) in
    rw (is, all-parts (reverse_aux path (w ∷ [])) good, le-leb (length (full path w)) max_name l)
    (rw (le-leb (length (reverse_aux path (w ∷ []))) max_parts few, none-reserved (reverse_aux path (w ∷ [])) good))

-- a declaration as it is written: its name, and the permissions of a class, are good parts
abbrev pub good_parts : Declaration → Bool
good_parts (plain s w) = is_good_part w
good_parts (class w ps) = is_good_part w && good_permissions ps

-- with its full name it has good names, if that is short enough
pub declaration-good : (path : List Name) (d : Declaration) → GoodPath path → good_parts d ≡ true → is_short (full_declaration path d) ≡ true
    → good_names (full_declaration path d) ≡ true
declaration-good path (plain s w) g h l = full-good path w g h (leb-true (length (full path w)) max_name l)
declaration-good path (class w ps) g h l =
    let t = both_true (is_good_part w) (good_permissions ps) h in
    true-both (is_good (full path w)) (good_permissions ps) (full-good path w g t.0 (leb-true (length (full path w)) max_name l)) t.1

-- ---- good blocks

-- a word of the text that is taken as a part is a good part
pub part-good : (w : Name) → is_name w ≡ true → IfAny (λ v. is_good_part v ≡ true) (as_part w)
part-good w h = if-given (dotless w && not (is_reserved w)) w λ e.
    let t = both_true (dotless w) (not (is_reserved w)) e in
    let n = name-part w h (dotless-part w t.0) in
    true-both _ (not (is_reserved w)) (true-both (is_part w) (leb (length w) max_name) n.0 (le-leb (length w) max_name n.1)) t.1

-- so is the name of a block
header-good : (f : Forms) → names_good f ≡ true → IfAny (λ b. is_good_part b ≡ true) (header_in f)
unfolding names_good
header-good closed h = nothing
header-good ended h = nothing
header-good (part at i r) h = nothing
header-good (word at b r) h = and_then _ _ (part-good b (both_true (is_name b) (names_good r) h).0) λ b g. if-given (parts_alone r) b λ _. g

block-good : (f : Forms) → names_good f ≡ true → IfAny (λ b. is_good_part b ≡ true) (block_in f)
unfolding names_good
block-good closed h = nothing
block-good ended h = nothing
block-good (part at i r) h = nothing
block-good (word at w r) h = go (same w block_word) (header-good r (both_true (is_name w) (names_good r) h).1)
  where
    go : (q : Bool) → IfAny (λ b. is_good_part b ≡ true) (header_in r) → IfAny (λ b. is_good_part b ≡ true) (cond q (header_in r) none)
    go true k = k
    go false k = nothing

-- no block around
pub good-top : GoodPath []
unfolding every
good-top = record { names = refl; few = omega arith }

-- one block more, that is opened
pub good-inner : (before : List Scoped) (p : Policy) (x : Scoped) (b : Name) → judge before p x ≡ opens → GoodPath x.path → block_in x.form ≡ some b
    → names_good x.form ≡ true → GoodPath (b ∷ x.path)
unfolding every
good-inner before p x b h g e n =
    let o = opens-block before p x h in
    let t = both_true (ltb (length x.path) max_depth) (leb (length (full x.path o.name)) max_name) o.room in
    record {
      names = true-both (is_good_part b) (every is_good_part x.path) ((block-good x.form n).has b e) g.names;
      few = omega (arith, ltb-true (length x.path) max_depth t.0);
    }
