-- Bytes and words without a dot: what is cut from them has none, and such a word is taken as a name as document 01 says. Assumes nothing.
use Prim.Native.Nat.{ℕ, zero, suc, ◌≤◌}
use mathlib.Core.Path.{◌≡◌, refl}
use mathlib.Core.Bool.{true, not}
use mathlib.Core.List.{List, [], ◌∷◌}
use lib.ListN.{length, take, drop}
use Rattle.lexer.specs.Class.{is, max_name, is_name}
use Rattle.lexer.proofs.Names.{name-part}
use Rattle.policy.specs.Basics.{Name}
use Rattle.policy.specs.Words.{dotless, as_name, as_part}
use Rattle.policy.proofs.Lists.{both_true, true-both}
use Rattle.policy.proofs.Dotless.{dotless-part}

-- ---- parts of a text

-- what is cut from bytes without a dot has none
pub take-dotless : (n : ℕ) (bs : List ℕ) → dotless bs ≡ true → dotless (take n bs) ≡ true
unfolding dotless
take-dotless zero bs e = refl
take-dotless (suc n) [] e = refl
take-dotless (suc n) (b ∷ bs) e =
    let p = both_true (not (is "." b)) (dotless bs) e in
    true-both (not (is "." b)) (dotless (take n bs)) p.0 (take-dotless n bs p.1)

pub drop-dotless : (n : ℕ) (bs : List ℕ) → dotless bs ≡ true → dotless (drop n bs) ≡ true
unfolding dotless
drop-dotless zero bs e = e
drop-dotless (suc n) [] e = refl
drop-dotless (suc n) (b ∷ bs) e = drop-dotless n bs (both_true (not (is "." b)) (dotless bs) e).1

-- ---- words

-- so it is a name only if it has at most 64 bytes: no byte of it is a leading dot, which would not count
pub name-short : (w : Name) → dotless w ≡ true → is_name w ≡ true → length w ≤ max_name
name-short w e h = (name-part w h (dotless-part w e)).1

-- and it may be declared if it is a name
pub part-is-name : (w : Name) → dotless w ≡ true → as_part w ≡ as_name w
part-is-name w e = rw e
