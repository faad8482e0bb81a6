-- `lines::line_of` meets its contract: the line counts the LFs of the bytes passed, and 1. Assumes nothing.
use Prim.Native.Nat.{ℕ, suc, ◌+◌, ◌≤◌, ◌<◌}
use native.Mathlib.Numerals.{add-one}
use native.Mathlib.Omega.{arith}
use mathlib.Core.Path.{◌≡◌, refl}
use mathlib.Core.Bool.{Bool, true, false, cond}
use mathlib.Core.List.{List}
use lib.Dec.{eqb}
use lib.ListN.{length, get_or, take}
use Rattle.std.proofs.lemmas.List.{take_all}
use borrow.Author.Tests.{le-leb, lt-leb}
use borrow.Author.Rules.{rules}
use Rattle.policy.specs.Outcome.{line_feeds}
use Rattle.byte_slices.specs.Parts.{part}
use Rattle.policy.proofs.LineFeeds.{feeds-more}
use Rattle.lines.proofs.line_of.Goals as goal

-- one byte more: it adds 1 where it is an LF, and else 0
one-more : (t : List ℕ) (i line r : ℕ) → i < length t → r ≡ cond (eqb (get_or t i 0) 10) 1 0 → line ≡ 1 + line_feeds (take i t) → line ≤ 1 + i
    → (line + r ≡ 1 + line_feeds (take (i + 1) t)) × (line + r ≤ 1 + (i + 1))
one-more t i line r h e l m = rw add-one (by (eqb (get_or t i 0) 10) e (feeds-more t i h))
  where
    by : (b : Bool) → r ≡ cond b 1 0 → line_feeds (take (suc i) t) ≡ cond b (1 + line_feeds (take i t)) (line_feeds (take i t))
        → (line + r ≡ 1 + line_feeds (take (suc i) t)) × (line + r ≤ 1 + suc i)
    by true e f = (omega (arith, e, f, l), omega (arith, e, m))
    by false e f = (omega (arith, e, f, l), omega (arith, e, m))

pub returns-then-place-gt-MAX : goal.returns-then-place-gt-MAX
returns-then-place-gt-MAX c = rw (lt-leb c.args.place 65535 c.if-place-gt-MAX.true) refl

pub loop-byte-init : goal.loop-byte-init
unfolding line_feeds
loop-byte-init c = (refl, omega arith)

pub loop-byte-preserved : goal.loop-byte-preserved
loop-byte-preserved c =
    let l = c.loop-byte in
    one-more c.part-before.result.now l.byte-index l.line c.from-line.result (omega arith) (search rules) l.invariant.0 l.invariant.1

pub returns : goal.returns
unfolding part
returns c =
    let l = c.loop-byte in
    let whole : take l.byte-index c.part-before.result.now ≡ c.part-before.result.now = take_all _ _ (omega arith) in
    rw (le-leb c.args.place 65535 (omega arith), l.invariant.0, whole, c.part-before.ensures) refl
