-- Runs of statements, and the blocks between them: where the reading is after each, and that it comes to the end of the text. Assumes nothing.
use Rattle.std.specs.Prelude.{Result, Ok, Err, MatchResult}
use Rattle.policy.specs.declared.Fault.{Fault}
use Rattle.policy.specs.declared.FaultAt.{FaultAt}
use Prim.Native.Nat.{ℕ, suc, ◌-◌, ◌≤◌, ◌<◌}
use native.Mathlib.Omega.{arith}
use mathlib.Core.Path.{◌≡◌, refl}
use mathlib.Core.Bool.{true, false≢true}
use mathlib.Core.List.{List, []}
use lib.ListN.{length, replicate}
use Rattle.lexer.specs.Scan.{scan, no_fault}
use Rattle.items.specs.Looks.{item_at}
use Rattle.items.specs.declared.Item.{Item}
use Rattle.items.proofs.Frames.{sees}
use Rattle.grammar.specs.Shapes.{starts_block}
use Rattle.name_chains.specs.Chains.{Chained}
use Rattle.scopes.specs.Scope.{InScope}
use Rattle.block_reader.specs.Within.{ClosesBlock, none_open}
use Rattle.block_reader.specs.declared.OpenBlocks.{OpenBlocks}
use Rattle.statement_reader.specs.Memory.{Memory, memory}
use Rattle.statement_reader.specs.Steps.{nothing_read}
use Rattle.statement_reader.specs.declared.Progress.{Progress}
use Rattle.parser.specs.Remaining.{whole, Rest}
use Rattle.parser.specs.Parses.{Reads}
use Rattle.parser.specs.Parts.{Enters, place_after}
use Rattle.parser.specs.Runs.{BlockNext, CloseNext, RunBy, RunAhead, Runs}
use Rattle.parser.specs.declared.Entered.{Entered}
use Rattle.parser.specs.declared.Run.{Run}
use Rattle.parser.proofs.LoopInvariant.{fault_at, starts, opens_at, block-word, header-on, header-stops, closes-on}

-- the place after the word `block` lies ahead and in the text
pub block-ahead : (t : List ℕ) (at : ℕ) {place next : ℕ} {i : Item} (first : Item) → i ≡ item_at t at → i ≡ Item.Open place next → first ≡ item_at t next
    → starts_block first ≡ true → (at < place_after first) × (place_after first ≤ length t)
block-ahead t at (Item.Word s n k q) e f g h =
    let l = (sees e f).ahead in
    let w = (sees g refl).ahead in
    (omega (arith, l, w.0), w.1)
block-ahead t at (Item.Open p q) e f g h = absurd (false≢true h)
block-ahead t at (Item.Close q) e f g h = absurd (false≢true h)
block-ahead t at Item.End e f g h = absurd (false≢true h)

-- ---- the first run

-- no block was opened before it
pub first_run : {t : List ℕ} {lent after : Memory} {p : Progress} {r : Result Run FaultAt} → p ≡ nothing_read → scan t ≡ no_fault → Chained lent.symbols 0 []
    → InScope lent.symbols [] → Runs t 0 lent after p r → MatchResult r (λ run. RunBy t lent after (replicate 8192 0) (replicate 1024 0) none_open run) (λ f. Reads (whole t) lent after (Err f))
first_run {lent = lent} e clean index scope y = y.says lent (replicate 8192 0) (replicate 1024 0) none_open clean (starts e refl clean index scope)

-- ---- a block after a run

module _ {t : List ℕ} {lent : Memory} {sy sy' co cs rs keys keys' filter filter' : List ℕ} {o : OpenBlocks} {place at : ℕ} {s : Progress} {k : Result Entered Fault}
    (clean : scan t ≡ no_fault) (b : BlockNext t lent (memory sy co cs rs) keys filter o place at s) (y : Enters t at keys keys' filter filter' sy sy' o k) where
  pub block-entered : {q : Entered} → k ≡ Ok q → Rest t q.inside lent (memory sy' co cs rs) keys' filter' s q.blocks
  block-entered e =
      header-on b.rest (opens_at clean b.opens refl) clean (block-word t b.next b.first b.first-is b.starts) b.after_first y e

  pub block_refused : {n : Fault} → k ≡ Err n → Reads (whole t) lent (memory sy' co cs rs) (Err (fault_at n place))
  block_refused e =
      header-stops b.rest (opens_at clean b.opens refl) clean (block-word t b.next b.first b.first-is b.starts) b.after_first y e

-- the close of one
pub block_closed : {t : List ℕ} {lent : Memory} {sy sy' co cs rs keys filter : List ℕ} {o o' : OpenBlocks} {next : ℕ} {s : Progress}
    → CloseNext t lent (memory sy co cs rs) keys filter o next s → ClosesBlock keys sy sy' o o' → Rest t next lent (memory sy' co cs rs) keys filter s o'
block_closed c y = closes-on (sees c.closes refl) y c.rest

-- ---- what is left of the text falls

-- how much is left after a run; nothing at the end
abbrev pub left_after : List ℕ → Run → ℕ
left_after t (Run.Block place at s) = suc (length t - at)
left_after t (Run.Close next s) = suc (length t - next)
left_after t (Run.End s) = 0

falls : (t : List ℕ) (at start : ℕ) (r : Run) → at ≤ start → RunAhead t start r → left_after t r < suc (length t - at)
falls t at start (Run.Block place next s) h a = omega (arith, a.0, a.1)
falls t at start (Run.Close next s) h a = omega (arith, a.0, a.1)
falls t at start (Run.End s) h a = omega arith

module _ {t : List ℕ} {start : ℕ} {before after : Memory} {q : Progress} {r run : Run} (y : Runs t start before after q (Ok r)) where
  pub falls-inside : {place at : ℕ} {s : Progress} → run ≡ Run.Block place at s → at < start → left_after t r < left_after t run
  falls-inside {at = at} e h = rw e (falls t at start r (omega arith) y.ahead)

  pub falls-behind : {s : Progress} → run ≡ Run.Close start s → left_after t r < left_after t run
  falls-behind e = rw e (falls t start start r (omega arith) y.ahead)
