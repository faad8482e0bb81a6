-- How a block is judged, by what was opened before, how many are open, and how long its full name is. Assumes nothing.
use mathlib.Core.Path.{◌≡◌}
use mathlib.Core.Bool.{true, false, and-false}
use mathlib.Core.List.{List}
use mathlib.Core.Option.{some}
use Prim.Native.Nat.{◌<◌, ◌≤◌}
use lib.Dec.{leb, ltb}
use lib.ListN.{length}
use borrow.Author.Tests.{lt-ltb, le-ltb}
use Rattle.policy.specs.Basics.{Name, is_in}
use Rattle.policy.specs.Names.{full}
use Rattle.policy.specs.Reading.{opens, fault, judge_block}

module _ (path names : List Name) (b : Name) where
  pub judged-again : is_in (full path b) names ≡ true → judge_block path names (some b) ≡ fault 4
  judged-again h = rw h

  module _ (new : is_in (full path b) names ≡ false) where
    pub judged-deep : 8 ≤ length path → judge_block path names (some b) ≡ fault 6
    judged-deep h = rw (new, le-ltb (length path) 8 h)

    pub judged-long : leb (length (full path b)) 64 ≡ false → judge_block path names (some b) ≡ fault 6
    judged-long h = rw (new, h, and-false (ltb (length path) 8))

    pub judged-open : length path < 8 → leb (length (full path b)) 64 ≡ true → judge_block path names (some b) ≡ opens
    judged-open h l = rw (new, lt-ltb (length path) 8 h, l)
