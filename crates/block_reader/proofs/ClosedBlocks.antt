-- A block closed: the path of the block around it is what is left of the path. Assumes nothing.
use mathlib.Core.Path.{◌≡◌, refl, sym, ap, subst, ◌∙◌}
use mathlib.Core.List.{List, [], ◌∷◌}
use Prim.Native.Nat.{ℕ, ◌-◌, ◌%◌, ◌<◌, ◌≤◌}
use native.Mathlib.Omega.{arith}
use native.Mathlib.Decide.{dec_lt}
use lib.ListN.{length, get_or}
use Rattle.policy.specs.Basics.{Name, every}
use Rattle.policy.specs.Sound.{is_good_part}
use Rattle.policy.specs.Accepted.{GoodPath}
use Rattle.policy.proofs.Lists.{both_true}
use Rattle.scopes.specs.Scope.{LeavesBlock}
use Rattle.blocks.specs.Opened.{opened_in}
use Rattle.blocks.specs.Names.{path_of}
use Rattle.blocks.proofs.FullNames.{Inside, path-whole, path_inside, rest_of}
use Rattle.block_reader.specs.Within.{Within, ClosesBlock}
use Rattle.block_reader.specs.declared.OpenBlocks.{OpenBlocks}

good-less : {b : Name} {path : List Name} → GoodPath (b ∷ path) → GoodPath path
unfolding every
good-less {b} {path} g = record { names = (both_true (is_good_part b) (every is_good_part path) g.names).1; few = omega (arith, g.few) }

module _ {symbols symbolsAfter keys : List ℕ} {o : OpenBlocks} {around : ℕ} (left : LeavesBlock symbols symbolsAfter)
    (found : 0 < o.block → o.block ≤ length keys → around ≡ get_or keys (o.block - 1) 0 % 65536) where
  module _ (t filter : List ℕ) (b : Name) (path names : List Name) (w : Within t keys filter symbols (b ∷ path) names o) where
    -- a block is open
    some : 0 < o.block
    some = by (dec_lt 0 o.block)
      where
        by : Dec (0 < o.block) → 0 < o.block
        by (yes h) = h
        by (no h) =
            let none : o.block ≡ 0 = omega arith in
            let empty : ◌≡◌ {A = List Name} [] (b ∷ path) = sym (path-whole (opened_in t keys o.count)) ∙ ap (path_of (opened_in t keys o.count)) (sym none) ∙ w.stands in
            absurd (omega (arith, ap length empty))

    is-around : around ≡ get_or keys (o.block - 1) 0 % 65536
    is-around = found some (omega (arith, w.known, w.room))

    inside : Inside (opened_in t keys o.count) o.block (get_or keys (o.block - 1) 0 % 65536)
    inside = path_inside t keys o.count w.opened o.block some w.known

    within-around : Within t keys filter symbolsAfter path names (record { count = o.count; block = around; depth = o.depth - 1 })
    within-around = record {
      scope = left.leaves b path w.scope;
      good = good-less w.good;
      opened = w.opened;
      room = w.room;
      known = omega (arith, is-around, inside.below, w.known);
      stands = ap (path_of (opened_in t keys o.count)) is-around ∙ ap rest_of (sym inside.is ∙ w.stands);
      deep = omega (arith, w.deep);
      fulls = w.fulls;
      covers = w.covers;
    }

  pub closed : {depth : ℕ} → depth ≡ o.depth - 1 → ClosesBlock keys symbols symbolsAfter o (record { count = o.count; block = around; depth = depth })
  closed {depth} e = record {
    closes = λ t filter b path names w.
        subst (λ (d : ℕ). Within t keys filter symbolsAfter path names (record { count = o.count; block = around; depth = d })) (sym e)
        (within-around t filter b path names w);
    kept = left.kept;
    same = refl;
  }
