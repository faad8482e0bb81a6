-- The way through the parts of a text: what was read so far and what is left, of the row at hand and of the rows around it, give what the whole text gives.
-- Assumes nothing.
use Rattle.std.specs.Prelude.{Result, Ok, Err}
use Rattle.policy.specs.declared.Fault.{Fault}
use Rattle.policy.specs.declared.FaultAt.{FaultAt}
use Rattle.policy.specs.Answers.{fault_number}
use Prim.Native.Nat.{ℕ, ◌+◌, ◌-◌, ◌≤◌, ◌<◌}
use native.Mathlib.Omega.{arith}
use mathlib.Core.Path.{◌≡◌, refl, sym, ap, subst, ◌∙◌}
use mathlib.Core.Bool.{Bool, true, false, ◌&&◌, cond, false≢true}
use mathlib.Core.List.{List, [], ◌∷◌, ◌++◌, append-nil}
use mathlib.Core.Option.{Option, none, some}
use types.Run.{OneOf}
use denote.Enum.Declared.{tag_of}
use lib.Dec.{leb}
use lib.ListN.{length, take, drop, replicate, length-drop}
use lib.Seq.{length-take-le}
use Rattle.lexer.specs.declared.Token.{Token}
use Rattle.lexer.specs.Scan.{scan, no_fault}
use Rattle.lexer.specs.Class.{is_name}
use Rattle.lexer.specs.Token.{token_at}
use Rattle.lexer.specs.Forms.{Forms, closed, ended, word, part, Frames, out, frames_at, forms_of, closes, balanced, names_good}
use Rattle.lexer.proofs.Clean.{clean-short, clean-balanced, clean-uncut, clean-names}
use Rattle.lexer.proofs.Seen as seen-token
use Rattle.lexer.proofs.Seen.{token-ahead}
use Rattle.bitset.specs.Relations.{joined}
use Rattle.policy.specs.Basics.{Name, same, ◌>>=◌, keep, gather, each}
use Rattle.policy.specs.Names.{full}
use Rattle.policy.specs.Statements.{Statement, Policy, declarations, transitions, constrains, relabels}
use Rattle.policy.specs.Grammar.{written, is_block, header_in, block_in, parts_alone}
use Rattle.policy.specs.Words.{block_word}
use Rattle.policy.specs.Scopes.{Scoped, scoped, scoped_in, block_of, blocks_in}
use Rattle.policy.proofs.Lists.{both_true, gather_append, same-is}
use Rattle.policy.specs.Reading.{Judged, reads, opens, fault, judge_statement, judge_block, judge, Read, policy, refused, read_from, row_count}
use Rattle.policy.specs.Accepted.{GoodPath}
use Rattle.policy.specs.Encode.{constraint_records, entries_from, entries}
use Rattle.policy.proofs.BlockLaws.{no_block}
use Rattle.items.specs.Looks.{item_of, item_at}
use Rattle.items.specs.declared.Item.{Item}
use Rattle.items.specs.contracts.Item.{the_type}
use Rattle.items.proofs.Ends.{leaves}
use Rattle.items.proofs.Frames.{FramesSeen, sees}
use Rattle.items.proofs.Items.{among}
use Rattle.grammar.specs.Shapes.{starts_block}
use Rattle.grammar.proofs.BlockLaws.{block_at}
use Rattle.reading_laws.proofs.ReadThen.{line, judged_at, read_one}
use Rattle.reading_laws.proofs.ReadAccepted.{statement-accepted, none-accepted}
use Rattle.reading_laws.proofs.FullNames.{good-top}
use Rattle.reading_laws.proofs.BlockOrStatement.{judge-statement, judge-block}
use Rattle.parser.specs.Remaining.{resumed, RowsWhole, whole, weight_in, Stands, Rest}
use Rattle.parser.proofs.RestOfText as resuming
use Rattle.parser.proofs.RestOfText.{InPart, inside, statement-deep, after-statement, after-header, after-close, block-whole, block-left, close-whole}
use Rattle.statement_code.specs.Code.{code_of}
use Rattle.code_laws.specs.Weight.{weight, weight_of}
use Rattle.code_laws.proofs.TextWeight.{text-weight, frames-weight, around-weight}
use Rattle.code_laws.proofs.StatementShape.{statement-fits}
use Rattle.code_laws.proofs.CodeFits.{code-longer, no_code}
use Rattle.name_chains.specs.Chains.{Chained}
use Rattle.name_chains.specs.Entered.{Cleared}
use Rattle.declarations.specs.Declares.{section_of}
use Rattle.scopes.specs.Scope as scope
use Rattle.scopes.specs.Scope.{InScope, SymbolsKept, symbol_bytes}
use Rattle.scopes.proofs.SharedMemory.{chained-kept, symbols-front}
use Rattle.block_reader.specs.Within.{Within, ClosesBlock, none_open}
use Rattle.block_reader.proofs.ReaderStates as standing
use Rattle.block_reader.proofs.ReaderStates.{in_scope}
use Rattle.block_reader.specs.declared.OpenBlocks.{OpenBlocks}
use Rattle.statement_reader.specs.Memory.{Memory, memory, symbols_of, constraints_of, rows_of, relabels_of, relabel_rows_of, Starts, Holds}
use Rattle.statement_reader.specs.Steps.{nothing_read}
use Rattle.statement_reader.specs.declared.Progress.{Progress}
use Rattle.statement_reader.proofs.MemoryLaws.{empty}
use Rattle.parser.specs.Parses.{Reads, Parses, ParsesCleared}
use Rattle.parser.specs.Parts.{StatedBy, StatedAhead, States, Inside, EnteredBy, EnteredAhead, Enters, place_after}
use Rattle.parser.specs.declared.Stated.{Stated}
use Rattle.parser.specs.declared.Entered.{Entered}
use Rattle.symbols.specs.Section.{name_bytes}

-- the fault that is answered for one at a place
abbrev pub fault_at : Fault → ℕ → FaultAt
fault_at f place = record { fault = f; place = place }

-- ---- before the first part

nothing-holds : (lent : Memory) → Chained lent.symbols 0 [] → InScope lent.symbols [] → Holds [] [] lent lent nothing_read
unfolding symbols_of section_of code_of constraints_of rows_of relabels_of relabel_rows_of declarations transitions constrains relabels gather row_count entries entries_from constraint_records joined each
nothing-holds lent index scope = record {
  accepted = none-accepted;
  blocks = good-top;
  filled = record {
    symbols = empty;
    chained = index;
    scope = scope;
    code = empty;
    constraints = empty;
    rows = empty;
    relabel-records = empty;
    relabel-rows = empty;
    transition-count = refl;
    constraint-count = refl;
    row_count_lem = refl;
    relabel-count = refl;
    relabel-row-count = refl;
  };
}

no_blocks : blocks_in [] ≡ []
unfolding blocks_in gather
no_blocks = refl

pub begins : (t : List ℕ) (lent : Memory) (keys filter : List ℕ) (o : OpenBlocks) → scan t ≡ no_fault → Chained lent.symbols 0 [] → InScope lent.symbols []
    → o.count ≡ 0 → Within t keys filter lent.symbols [] [] o → Rest t 0 lent lent keys filter nothing_read o
unfolding forms_of
begins t lent keys filter o clean index scope zero w = record {
  sofar = [];
  path = [];
  before = [];
  stands = record {
    holds = nothing-holds lent index scope;
    within = subst (λ (ns : List Name). Within t keys filter lent.symbols [] ns o) (sym no_blocks) w;
    left = refl;
    rows = (clean-balanced t clean, clean-names t clean, clean-uncut t clean);
    room = omega (arith, no_code, text-weight t, clean-short t clean);
    few = omega arith;
  };
}

pub starts : {t : List ℕ} {lent : Memory} {keys : List ℕ} {p : Progress} {o : OpenBlocks} → p ≡ nothing_read → o ≡ none_open
    → scan t ≡ no_fault → Chained lent.symbols 0 [] → InScope lent.symbols [] → Rest t 0 lent lent keys (replicate 1024 0) p o
starts {t} {lent} {keys} e f clean index scope =
    rw (e, f) (begins t lent keys (replicate 1024 0) none_open clean index scope refl (standing.begins t keys 1024 (omega arith) scope))

-- ---- the end of the text

module _ {t : List ℕ} {at : ℕ} {lent now : Memory} {keys filter : List ℕ} {s : Progress} {o : OpenBlocks} where
  -- the row at hand is not as the rows are
  odd : {X : Type 0} {sofar : Policy} (path : List Name) {before : List Scoped} (f : Frames) → frames_at t at ≡ f → balanced f.here ≡ false
      → parts_alone f.here && closes f.here ≡ false → Stands t at lent now keys filter s o sofar path before → X
  odd [] f e b c r = absurd (false≢true (sym b ∙ sym (ap (λ (x : Frames). balanced x.here) e) ∙ r.rows.0))
  odd (b ∷ path) f e _ c r =
      absurd (false≢true (sym c ∙ sym (ap (λ (x : Frames). parts_alone x.here && closes x.here) e) ∙ rw (r.rows.0.parts, r.rows.0.shut)))

  ended_here : {sofar : Policy} (path : List Name) {before : List Scoped} → frames_at t at ≡ record { here = ended; around = [] }
      → Stands t at lent now keys filter s o sofar path before → Reads (whole t) lent now (Ok s)
  unfolding read_from scoped_in closes parts_alone balanced
  ended_here {sofar} [] {before} e r =
      subst (λ (x : Read). Reads x lent now (Ok s)) (sym (r.left ∙ ap (λ (f : Frames). read_from before (resumed [] f) sofar) e)) r.holds
  ended_here (b ∷ path) e r = absurd (false≢true (ap (λ (x : Frames). closes x.here) (sym e) ∙ r.rows.0.shut))

  pub finishes : (i : Item) → i ≡ item_at t at → OneOf (0 ∷ 3 ∷ []) (tag_of the_type i) → Rest t at lent now keys filter s o → Reads (whole t) lent now (Ok s)
  unfolding closes parts_alone balanced
  finishes i e h r =
      among (0 ∷ 3 ∷ []) (λ (k : Item). FramesSeen t at k → Reads (whole t) lent now (Ok s)) (
        λ a n k q l. odd r.path _ l.frames refl refl r.stands,
        tt,
        tt,
        λ l. ended_here r.path l.frames r.stands,
      )
      i h (sees e refl)

-- ---- a part is next

open_next : (t : List ℕ) (k : Token) (p q : ℕ) → item_of t k ≡ Item.Open p q → (q ≡ p + 1) × (k ≡ Token.Open p)
open_next t (Token.Open a) p q e = let same : a ≡ p = cc in let past : a + 1 ≡ q = cc in (omega arith, ap Token.Open same)
open_next t (Token.Close a) p q e = absurd (let z : ◌≡◌ {A = ℕ} 0 1 = cc in omega arith)
open_next t (Token.Word a n) p q e = absurd (let z : ◌≡◌ {A = ℕ} 0 1 = cc in omega arith)
open_next t Token.End p q e = absurd (let z : ◌≡◌ {A = ℕ} 0 1 = cc in omega arith)

-- a part: where its parentheses are, and its row
pub record Opens (t : List ℕ) (at place next : ℕ) : Type 0 where
  pub frames : frames_at t at ≡ resuming.judge_block place (frames_at t next)
  pub place_is : (at ≤ place) × (next ≡ place + 1)
  pub below : place < 65536
  pub inside : next ≤ length t

pub opens_at : {t : List ℕ} {at place next : ℕ} {i : Item} → scan t ≡ no_fault → i ≡ item_at t at → i ≡ Item.Open place next → Opens t at place next
unfolding item_at
opens_at {t} {at} {place} {next} clean e f =
    let l = sees e f in
    let n = open_next t (token_at t at) place next (sym e ∙ f) in
    let a = subst (λ (k : Token). seen-token.Ahead t at k) n.1 (token-ahead t at) in
    record {
      frames = l.frames;
      place_is = (a.0, n.0);
      below = omega (arith, a.1, clean-short t clean);
      inside = omega (arith, a.1, n.0);
    }

module _ {t : List ℕ} {at place next : ℕ} {lent now : Memory} {keys filter : List ℕ} {s : Progress} {o : OpenBlocks} (r : Rest t at lent now keys filter s o)
    (p : Opens t at place next)
  where
    abbrev row : Frames
    row = frames_at t next

    abbrev this : Scoped
    this = scoped place r.path row.here

    rows-here : RowsWhole r.path (resuming.judge_block place row)
    rows-here = subst (RowsWhole r.path) p.frames r.stands.rows

    part-row : InPart r.path row
    part-row = inside r.path place row r.stands.holds.blocks.few rows-here

    left_here : whole t ≡ read_from r.before (resumed r.path (resuming.judge_block place row)) r.sofar
    left_here = r.stands.left ∙ ap (λ (f : Frames). read_from r.before (resumed r.path f) r.sofar) p.frames

    -- by how the part is judged
    left_by : (xs : List Scoped) → resumed r.path (resuming.judge_block place row) ≡ this ∷ xs → (j : Judged) → judge r.before r.sofar this ≡ j
        → whole t ≡ judged_at place r.sofar j (read_from (r.before ++ (this ∷ [])) xs)
    left_by xs e j k =
        left_here ∙ ap (λ (l : List Scoped). read_from r.before l r.sofar) e ∙ read_one r.before this xs r.sofar
        ∙ ap (λ (x : Judged). judged_at place r.sofar x (read_from (r.before ++ (this ∷ [])) xs)) k

    -- what is left begins with it, whatever it is
    first-left : (q : Option Name) → block_in row.here ≡ q → (xs : List Scoped) × (resumed r.path (resuming.judge_block place row) ≡ this ∷ xs)
    first-left none e = (_, after-statement r.path place row e)
    first-left (some b) e = (_, after-header r.path place row b e)

    pub refuses : (n : ℕ) (m : Fault) → judge r.before r.sofar this ≡ fault n → fault_number m ≡ n → (after : Memory)
        → Reads (whole t) lent after (Err (fault_at m place))
    refuses n m e f after =
        let x = first-left (block_in row.here) refl in
        subst (λ (y : Read). Reads y lent after (Err (fault_at m place))) (sym (left_by x.0 x.1 (fault n) e)) (f, refl)

    weight-here : weight_in r.path (frames_at t at) ≡ weight row.here + weight_in r.path (out row) + 1
    unfolding weight
    weight-here = ap (weight_in r.path) p.frames ∙ go r.path
      where
        go : (path : List Name) → weight_in path (resuming.judge_block place row) ≡ weight row.here + weight_in path (out row) + 1
        go [] = refl
        go (b ∷ path) = omega arith

-- the memory of the symbols with a scope of its own, and the same symbols and chains
scoped-holds : {p : Policy} {path path' : List Name} {lent : Memory} {sy sy' co cs rs : List ℕ} {s : Progress} → Holds p path lent (memory sy co cs rs) s
    → SymbolsKept sy sy' → GoodPath path' → InScope sy' path' → Holds p path' lent (memory sy' co cs rs) s
scoped-holds {p} {lent = lent} {s = s} h k good scope =
    let g = h.filled in
    record {
      accepted = h.accepted;
      blocks = good;
      filled = record {
        symbols = subst (λ (l : List ℕ). Starts (take name_bytes lent.symbols) (symbols_of p) l s.symbols)
            (sym (symbols-front k name_bytes (omega arith))) g.symbols;
        chained = chained-kept k g.chained;
        scope = scope;
        code = g.code;
        constraints = g.constraints;
        rows = g.rows;
        relabel-records = g.relabel-records;
        relabel-rows = g.relabel-rows;
        transition-count = g.transition-count;
        constraint-count = g.constraint-count;
        row_count_lem = g.row_count_lem;
        relabel-count = g.relabel-count;
        relabel-row-count = g.relabel-row-count;
      };
    }

-- the names of blocks with one part more
blocks_more : (before : List Scoped) (x : Scoped) → blocks_in (before ++ (x ∷ [])) ≡ blocks_in before ++ keep (block_of x) []
unfolding blocks_in gather
blocks_more before x = gather_append block_of before (x ∷ [])

-- ---- a statement

module _ {t : List ℕ} {at place next : ℕ} {lent now now' : Memory} {keys filter : List ℕ} {s : Progress} {o : OpenBlocks} (r : Rest t at lent now keys filter s o)
    (p : Opens t at place next) (plain : is_block (frames_at t next).here ≡ false) {k : Result Stated Fault} (y : States t next place now now' s k) where
  judged : judge r.before r.sofar (this r p) ≡ judge_statement r.path r.sofar (written (row r p).here)
  judged = judge-statement r.before r.sofar (this r p) plain

  stated : StatedBy (judge_statement r.path r.sofar (written (row r p).here)) t next r.sofar r.path place lent now' k
  stated =
      y.says lent r.sofar r.path r.stands.holds p.below (part-row r p).names
      (statement-deep r.path place (row r p) r.stands.holds.blocks.few (rows-here r p))
      (λ st q. omega (arith, statement-fits r.before r.sofar (this r p) st (judged ∙ q), r.stands.room, weight-here r p))

  pub statement-stops : {n : Fault} → k ≡ Err n → Reads (whole t) lent now' (Err (fault_at n place))
  statement-stops {n} e = go (judge_statement r.path r.sofar (written (row r p).here)) refl
      (subst (StatedBy (judge_statement r.path r.sofar (written (row r p).here)) t next r.sofar r.path place lent now') e stated)
    where
      go : (j : Judged) → judge_statement r.path r.sofar (written (row r p).here) ≡ j → StatedBy j t next r.sofar r.path place lent now' (Err n)
          → Reads (whole t) lent now' (Err (fault_at n place))
      go (reads st) i g = absurd g
      go opens i g = absurd g
      go (fault m) i g = refuses r p m n (judged ∙ i) g now'

  -- the blocks are those before
  same_blocks : blocks_in (r.before ++ (this r p ∷ [])) ≡ blocks_in r.before
  same_blocks =
      blocks_more r.before (this r p)
      ∙ ap (λ (b : Option Name). blocks_in r.before ++ keep (b >>= λ b. some (full r.path b)) []) (no_block (row r p).here plain) ∙ append-nil _

  filled_on : {q : Stated} → next < q.past → (st : Statement) → judge_statement r.path r.sofar (written (row r p).here) ≡ reads st
      → StatedBy (reads st) t next r.sofar r.path place lent now' (Ok q) → Rest t q.past lent now' keys filter q.progress o
  filled_on {q} far st i (end, g) =
      let there : out (row r p) ≡ frames_at t q.past = leaves t next ∙ ap (frames_at t) (sym end) in
      let j = judged ∙ i in
      record {
        sofar = r.sofar ++ (line place st ∷ []);
        path = r.path;
        before = r.before ++ (this r p ∷ []);
        stands = record {
          holds = record {
            accepted = statement-accepted r.before r.sofar (this r p) st r.stands.holds.accepted r.stands.holds.blocks (part-row r p).names j;
            blocks = r.stands.holds.blocks;
            filled = g;
          };
          within = subst (λ (ns : List Name). Within t keys filter now'.symbols r.path ns o) (sym same_blocks) (in_scope r.stands.within g.scope);
          left = left_by r p _ (after-statement r.path place (row r p) (no_block (row r p).here plain)) (reads st) j
              ∙ ap (λ (f : Frames). read_from (r.before ++ (this r p ∷ [])) (resumed r.path f) (r.sofar ++ (line place st ∷ []))) there;
          rows = subst (RowsWhole r.path) there (part-row r p).after;
          room = omega (arith, code-longer r.before r.sofar (this r p) st j, r.stands.room, weight-here r p, ap (weight_in r.path) there);
          few = omega (arith, r.stands.few, far, p.place_is);
        };
      }

  pub statement-on : {q : Stated} → k ≡ Ok q → Rest t q.past lent now' keys filter q.progress o
  statement-on {q} e = go (judge_statement r.path r.sofar (written (row r p).here)) refl
      (subst (StatedBy (judge_statement r.path r.sofar (written (row r p).here)) t next r.sofar r.path place lent now') e stated)
    where
      go : (j : Judged) → judge_statement r.path r.sofar (written (row r p).here) ≡ j → StatedBy j t next r.sofar r.path place lent now' (Ok q)
          → Rest t q.past lent now' keys filter q.progress o
      go (reads st) i g = filled_on (subst (StatedAhead t next) e y.ahead).0 st i g
      go opens i g = absurd g
      go (fault m) i g = absurd g

-- ---- a block

-- the rows that are left are closed, so that each has a token
closed-weight : (f : Forms) → closes f ≡ true → 1 ≤ weight f
unfolding closes weight
closed-weight closed e = omega arith
closed-weight ended e = absurd (false≢true e)
closed-weight (word s w f) e = omega arith
closed-weight (part p f g) e = omega arith

rows-weight : (path : List Name) (r : Frames) → RowsWhole path r → length path ≤ weight_in path r
rows-weight [] r h = omega arith
rows-weight (b ∷ path) r (w, h) = omega (arith, closed-weight r.here w.shut, rows-weight path (out r) h)

rows-among : (path : List Name) (r : Frames) → weight_in path r ≤ weight_of r
rows-among [] r = omega arith
rows-among (b ∷ path) r = omega (arith, rows-among path (out r), around-weight r.around)

-- the word that a block starts with, where it stands, and what is beneath it
pub record Word (t : List ℕ) (next start past : ℕ) (w : Name) : Type 0 where
  pub frames : frames_at t next ≡ record { here = word start w (frames_at t past).here; around = (frames_at t past).around }
  pub far : next + 5 ≤ past
  pub is : same w block_word ≡ true

module _ {t : List ℕ} {at place next : ℕ} {lent : Memory} {sy sy' co cs rs keys keys' filter filter' : List ℕ} {s : Progress} {o : OpenBlocks}
    (r : Rest t at lent (memory sy co cs rs) keys filter s o) (p : Opens t at place next) (clean : scan t ≡ no_fault)
    {start past : ℕ} {w : Name} (b : Word t next start past w) {k : Result Entered Fault} (y : Enters t past keys keys' filter filter' sy sy' o k) where
  block_row : (row r p).here ≡ word start w (frames_at t past).here
  block_row = ap (λ (f : Frames). f.here) b.frames

  header_is : block_in (row r p).here ≡ header_in (frames_at t past).here
  header_is = ap block_in block_row ∙ ap (λ (c : Bool). cond c (header_in (frames_at t past).here) none) b.is

  opening-is : judge r.before r.sofar (this r p) ≡ judge_block r.path (blocks_in r.before) (header_in (frames_at t past).here)
  opening-is =
      judge-block r.before r.sofar (this r p) (ap is_block block_row ∙ b.is) ∙ ap (judge_block r.path (blocks_in r.before)) header_is

  behind-names : names_good (frames_at t past).here ≡ true
  unfolding names_good
  behind-names = (both_true (is_name w) (names_good (frames_at t past).here) (sym (ap names_good block_row) ∙ (part-row r p).names)).1

  -- there is room for one block more: each takes up eight bytes
  block_room : o.count < 8192
  block_room =
      omega (
        arith,
        r.stands.few,
        frames-weight t at,
        rows-among r.path (frames_at t at),
        weight-here r p,
        rows-weight r.path (out (row r p)) (part-row r p).after,
        closed-weight (row r p).here (part-row r p).shut,
        length-drop at t,
        clean-short t clean,
      )

  entered : EnteredBy (judge_block r.path (blocks_in r.before) (header_in (frames_at t past).here)) t past keys' filter' sy sy' r.path (blocks_in r.before) o k
  entered = y.says r.path (blocks_in r.before) r.stands.within behind-names (omega (arith, clean-short t clean)) block_room

  header_refused : {n : Fault} → k ≡ Err n → Reads (whole t) lent (memory sy' co cs rs) (Err (fault_at n place))
  header_refused {n} e = go (judge_block r.path (blocks_in r.before) (header_in (frames_at t past).here)) refl
      (subst (EnteredBy (judge_block r.path (blocks_in r.before) (header_in (frames_at t past).here)) t past keys' filter' sy sy' r.path
      (blocks_in r.before) o) e entered)
    where
      go : (j : Judged) → judge_block r.path (blocks_in r.before) (header_in (frames_at t past).here) ≡ j
          → EnteredBy j t past keys' filter' sy sy' r.path (blocks_in r.before) o (Err n) → Reads (whole t) lent (memory sy' co cs rs) (Err (fault_at n place))
      go (reads st) i g = absurd g
      go opens i g = absurd g
      go (fault m) i g = refuses r p m n (opening-is ∙ i) g (memory sy' co cs rs)

  inside_on : {q : Entered} → past < q.inside → judge_block r.path (blocks_in r.before) (header_in (frames_at t past).here) ≡ opens
      → Inside t past keys' filter' sy sy' r.path (blocks_in r.before) o q.blocks q.inside → Rest t q.inside lent (memory sy' co cs rs) keys' filter' s q.blocks
  unfolding weight
  inside_on {q} far i g =
      let f = frames_at t q.inside in
      let both : row r p ≡ resuming.header start w g.start g.name f =
      b.frames ∙ ap (λ (x : Frames). record { here = word start w x.here; around = x.around }) g.row in
      let name : block_in (row r p).here ≡ some g.name = header_is ∙ g.header in
      let header : header_in (word g.start g.name f.here) ≡ some g.name = ap (λ (x : Frames). header_in x.here) (sym g.row) ∙ g.header in
      let more : blocks_in r.before ++ (full r.path g.name ∷ []) ≡ blocks_in (r.before ++ (this r p ∷ [])) =
      sym (blocks_more r.before (this r p) ∙ ap (λ (x : Option Name). blocks_in r.before ++ keep (x >>= λ b. some (full r.path b)) []) name) in
      let behind-weight : weight (row r p).here ≡ weight f.here + 2 = ap (λ (x : Frames). weight x.here) both ∙ omega arith in
      let outs : out (row r p) ≡ out f = ap out both in
      record {
        sofar = r.sofar;
        path = g.name ∷ r.path;
        before = r.before ++ (this r p ∷ []);
        stands = record {
          holds = scoped-holds r.stands.holds g.kept g.within.good g.within.scope;
          within = subst (λ (ns : List Name). Within t keys' filter' sy' (g.name ∷ r.path) ns q.blocks) more g.within;
          left = left_by r p _ (after-header r.path place (row r p) g.name name) opens (opening-is ∙ i)
              ∙ ap (λ (x : Frames). read_from (r.before ++ (this r p ∷ [])) (resumed (g.name ∷ r.path) x) r.sofar) both
              ∙ ap (λ (x : List Scoped). read_from (r.before ++ (this r p ∷ [])) x r.sofar) (block-left r.path start w g.start g.name f g.name);
          rows = block-whole r.path start w g.start g.name f g.name (subst (InPart r.path) both (part-row r p)) header;
          room = omega (arith, r.stands.room, weight-here r p, behind-weight, ap (weight_in r.path) outs);
          few = omega (arith, r.stands.few, g.counted, far, b.far, p.place_is);
        };
      }

  header_read : {q : Entered} → k ≡ Ok q → Rest t q.inside lent (memory sy' co cs rs) keys' filter' s q.blocks
  header_read {q} e = go (judge_block r.path (blocks_in r.before) (header_in (frames_at t past).here)) refl
      (subst (EnteredBy (judge_block r.path (blocks_in r.before) (header_in (frames_at t past).here)) t past keys' filter' sy sy' r.path
      (blocks_in r.before) o) e entered)
    where
      go : (j : Judged) → judge_block r.path (blocks_in r.before) (header_in (frames_at t past).here) ≡ j
          → EnteredBy j t past keys' filter' sy sy' r.path (blocks_in r.before) o (Ok q) → Rest t q.inside lent (memory sy' co cs rs) keys' filter' s q.blocks
      go (reads st) i g = absurd g
      go opens i g = inside_on (subst (EnteredAhead t past) e y.ahead).0 i g
      go (fault m) i g = absurd g

-- the word that an item tells is one
word-token : (t : List ℕ) (k : Token) (s n m q : ℕ) → item_of t k ≡ Item.Word s n m q → (k ≡ Token.Word s n) × (q ≡ s + n)
word-token t (Token.Open a) s n m q e = absurd (let z : ◌≡◌ {A = ℕ} 0 1 = cc in omega arith)
word-token t (Token.Close a) s n m q e = absurd (let z : ◌≡◌ {A = ℕ} 0 1 = cc in omega arith)
word-token t (Token.Word a l) s n m q e =
    let start : a ≡ s = cc in
    let long : l ≡ n = cc in
    let past : a + l ≡ q = cc in
    (ap (λ (x : ℕ). Token.Word x l) start ∙ ap (λ (x : ℕ). Token.Word s x) long, omega arith)
word-token t Token.End s n m q e = absurd (let z : ◌≡◌ {A = ℕ} 0 1 = cc in omega arith)

-- `block` has five letters
five-letters : length block_word ≡ 5
five-letters = refl

-- an item that starts a block is the word `block`
pub record BlockWord (t : List ℕ) (next : ℕ) (first : Item) : Type 0 where
  pub start : ℕ
  pub name : Name
  pub word : Word t next start (place_after first) name

pub block-word : (t : List ℕ) (next : ℕ) (first : Item) → first ≡ item_at t next → starts_block first ≡ true → BlockWord t next first
unfolding item_at
block-word t next (Item.Word s n k q) e h =
    let x = word-token t (token_at t next) s n k q (sym e) in
    let a = subst (λ (y : Token). seen-token.Ahead t next y) x.0 (token-ahead t next) in
    let w = take n (drop s t) in
    let frames = (sees {t = t} {i = next} e refl).frames in
    let is : same w block_word ≡ true = ap (λ (f : Frames). is_block f.here) (sym frames) ∙ sym (block_at t next e) ∙ h in
    let long : length w ≡ n = length-take-le n (drop s t) (omega (arith, length-drop s t, a)) in
    let five : length w ≡ 5 = ap length (same-is w block_word is) ∙ five-letters in
    record { start = s; name = w; word = record { frames = frames; far = omega (arith, a, x.1); is = is } }
block-word t next (Item.Open p q) e h = absurd (false≢true h)
block-word t next (Item.Close q) e h = absurd (false≢true h)
block-word t next Item.End e h = absurd (false≢true h)

module _ {t : List ℕ} {at place next : ℕ} {lent : Memory} {sy sy' co cs rs keys keys' filter filter' : List ℕ} {s : Progress} {o : OpenBlocks}
    (r : Rest t at lent (memory sy co cs rs) keys filter s o) (p : Opens t at place next) (clean : scan t ≡ no_fault)
    {first : Item} (w : BlockWord t next first) {past : ℕ} (d : past ≡ place_after first) {k : Result Entered Fault} (y : Enters t past keys keys' filter filter' sy sy' o k) where
  there : Word t next w.start past w.name
  there = subst (λ (n : ℕ). Word t next w.start n w.name) (sym d) w.word

  pub header-on : {q : Entered} → k ≡ Ok q → Rest t q.inside lent (memory sy' co cs rs) keys' filter' s q.blocks
  header-on e = header_read r p clean there y e

  pub header-stops : {n : Fault} → k ≡ Err n → Reads (whole t) lent (memory sy' co cs rs) (Err (fault_at n place))
  header-stops e = header_refused r p clean there y e

-- and what starts no block is none
pub no-block-word : (t : List ℕ) (next : ℕ) {first : Item} → first ≡ item_at t next → starts_block first ≡ false → is_block (frames_at t next).here ≡ false
no-block-word t next e h = sym (block_at t next e) ∙ h

-- ---- the close of a block

module _ {t : List ℕ} {at q : ℕ} {lent : Memory} {sy sy' co cs rs keys filter : List ℕ} {s : Progress} {o o' : OpenBlocks}
    (l : FramesSeen t at (Item.Close q)) (y : ClosesBlock keys sy sy' o o') where
  close-on : {sofar : Policy} (path : List Name) {before : List Scoped} → Stands t at lent (memory sy co cs rs) keys filter s o sofar path before
      → Rest t q lent (memory sy' co cs rs) keys filter s o'
  unfolding closes parts_alone balanced weight
  close-on [] r = absurd (false≢true (ap (λ (x : Frames). balanced x.here) (sym l.frames) ∙ r.rows.0))
  close-on {sofar} (b ∷ path) {before} r =
      let w = y.closes t filter b path (blocks_in before) r.within in
      record {
        sofar = sofar;
        path = path;
        before = before;
        stands = record {
          holds = scoped-holds r.holds y.kept w.good w.scope;
          within = w;
          left = r.left ∙ ap (λ (f : Frames). read_from before (resumed (b ∷ path) f) sofar) l.frames
              ∙ ap (λ (x : List Scoped). read_from before x sofar) (after-close b path (frames_at t q));
          rows = close-whole b path (frames_at t q) (subst (RowsWhole (b ∷ path)) l.frames r.rows);
          room = omega (arith, r.room, ap (weight_in (b ∷ path)) l.frames);
          few = omega (arith, r.few, y.same, l.ahead);
        };
      }

  pub closes-on : Rest t at lent (memory sy co cs rs) keys filter s o → Rest t q lent (memory sy' co cs rs) keys filter s o'
  closes-on r = close-on r.path r.stands

-- ---- the whole

-- memory that is as long as the maxima ask has room
pub roomy : {a b c : ℕ} → a ≡ 65536 → b ≡ 1536 → c ≡ 18432 → (leb 65536 a && leb 1536 b && leb 18432 c) ≡ true
roomy e f g = rw (e, f, g)

-- the symbols lent may be others after the room for the entries
module _ (lent other c k r : List ℕ) (same : take name_bytes other ≡ take name_bytes lent) where
  pub lent_alike : (x : Read) (now : Memory) (y : Result Progress FaultAt) → Reads x (memory other c k r) now y → Reads x (memory lent c k r) now y
  lent_alike (policy p) now (Ok s) h =
      let g = h.filled in
      record {
        accepted = h.accepted;
        blocks = h.blocks;
        filled = record {
          symbols = subst (λ (l : List ℕ). Starts l (symbols_of p) (take name_bytes now.symbols) s.symbols) same g.symbols;
          chained = g.chained;
          scope = g.scope;
          code = g.code;
          constraints = g.constraints;
          rows = g.rows;
          relabel-records = g.relabel-records;
          relabel-rows = g.relabel-rows;
          transition-count = g.transition-count;
          constraint-count = g.constraint-count;
          row_count_lem = g.row_count_lem;
          relabel-count = g.relabel-count;
          relabel-row-count = g.relabel-row-count;
        };
      }
  lent_alike (policy p) now (Err f) h = h
  lent_alike (refused n at) now (Ok s) h = h
  lent_alike (refused n at) now (Err f) h = h

-- with the chains cleared first and no block open, the text is read whatever the memory held
pub parses : {t lent cleared started c k r : List ℕ} {now : Memory} {y : Result Progress FaultAt} → Cleared lent cleared → scope.Starts cleared started → symbol_bytes ≤ length lent
    → ParsesCleared t (memory started c k r) now y → Parses t (memory lent c k r) now y
parses {t} {lent} {cleared} {started} {c} {k} {r} {now} {y} a b room h = record {
  reads = λ clean.
      lent_alike lent started c k r (symbols-front b.kept name_bytes (omega arith) ∙ a.front (omega arith)) (whole t) now y
      (h.reads clean (chained-kept b.kept (a.chained (omega arith))) b.starts);
}

-- ---- what is left of the text falls

pub past-statement : {t : List ℕ} (at : ℕ) {place next : ℕ} {before after : Memory} {s : Progress} {i : Item} {k : Result Stated Fault} {q : Stated}
    → i ≡ item_at t at → i ≡ Item.Open place next → States t next place before after s k → k ≡ Ok q → length t - q.past < length t - at
past-statement {t} at {next = next} e f y h =
    let l = (sees e f).ahead in
    let a = subst (StatedAhead t next) h y.ahead in
    omega (arith, l, a)
