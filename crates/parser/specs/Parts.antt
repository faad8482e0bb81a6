-- What the reading of one part of the text comes to: a statement, or the header of a block. Assumes nothing.
use Rattle.std.specs.Prelude.{ℕ, ◌+◌, ◌-◌, ◌<◌, ◌≤◌, ◌≡◌, true, List, [], ◌∷◌, ◌++◌, length, Result, MatchResult, IfOk}
use Rattle.std.proofs.Math.Option.{some}
use Rattle.lexer.specs.Scan.{max_level}
use Rattle.lexer.specs.Forms.{word, frames_at, trim, names_good}
use Rattle.policy.specs.declared.Fault.{Fault}
use Rattle.policy.specs.Answers.{fault_number}
use Rattle.policy.specs.Basics.{Name}
use Rattle.policy.specs.Names.{full}
use Rattle.policy.specs.Statements.{Statement, Policy}
use Rattle.policy.specs.Grammar.{written, header_in}
use Rattle.policy.specs.Reading.{Judged, reads, opens, fault, judge_statement, judge_block}
use Rattle.items.specs.Looks.{row_end}
use Rattle.items.specs.declared.Item.{Item}
use Rattle.statement_code.specs.Code.{statement_code, code_of}
use Rattle.scopes.specs.Scope.{SymbolsKept}
use Rattle.statement_reader.specs.Memory.{Memory, Filled, Holds}
use Rattle.statement_reader.specs.declared.Progress.{Progress}
use Rattle.block_reader.specs.Within.{Within}
use Rattle.block_reader.specs.declared.OpenBlocks.{OpenBlocks}
use Rattle.parser.specs.declared.Stated.{Stated}
use Rattle.parser.specs.declared.Entered.{Entered}

-- ---- a statement

-- the statement whose row is at a place, by how it is judged: it is read, and the answer has the place after its close; or its fault is answered
abbrev pub StatedBy : Judged → List ℕ → ℕ → Policy → List Name → ℕ → Memory → Memory → Result Stated Fault → Type 0
StatedBy (reads s) t at p path place lent now r =
    MatchResult r (λ q. (q.past ≡ row_end t at) × Filled (p ++ (record { place = place; says = s } ∷ [])) path lent now q.progress) (λ f. ⊥)
StatedBy opens t at p path place lent now r = ⊥
StatedBy (fault n) t at p path place lent now r = MatchResult r (λ q. ⊥) (λ f. fault_number f ≡ n)

-- the place after a statement lies ahead and in the text
abbrev pub StatedAhead : List ℕ → ℕ → Result Stated Fault → Type 0
StatedAhead t at r = IfOk r (λ q. (at < q.past) × (q.past ≤ length t))

-- after the statements of p, in the blocks of a path, where its words are names, no part of it lies too deep, and there is room for its code
pub record States (t : List ℕ) (at place : ℕ) (before after : Memory) (s : Progress) (r : Result Stated Fault) : Type 0 where
  pub says : (lent : Memory) (p : Policy) (path : List Name) → Holds p path lent before s → place < 65536 → names_good (frames_at t at).here ≡ true
      → trim (frames_at t at).here (max_level - 1) ≡ (frames_at t at).here
      → ((st : Statement) → judge_statement path p (written (frames_at t at).here) ≡ reads st → length (code_of p) + length (statement_code place st) ≤ 65536)
      → StatedBy (judge_statement path p (written (frames_at t at).here)) t at p path place lent after r
  pub ahead : StatedAhead t at r

-- ---- the header of a block

-- a block that is opened: the place at which its parts begin, after its name, and what the memory has then
pub record Inside (t : List ℕ) (at : ℕ) (keys filter sy sy' : List ℕ) (path names : List Name) (o q : OpenBlocks) (next : ℕ) : Type 0 where
  pub name : Name
  pub start : ℕ
  pub header : header_in (frames_at t at).here ≡ some name
  pub row : frames_at t at ≡ record { here = word start name (frames_at t next).here; around = (frames_at t next).around }
  pub within : Within t keys filter sy' (name ∷ path) (names ++ (full path name ∷ [])) q
  pub counted : q.count ≡ o.count + 1
  pub kept : SymbolsKept sy sy'

abbrev pub EnteredBy : Judged → List ℕ → ℕ → List ℕ → List ℕ → List ℕ → List ℕ → List Name → List Name → OpenBlocks → Result Entered Fault → Type 0
EnteredBy (reads s) t at keys filter sy sy' path names o r = ⊥
EnteredBy opens t at keys filter sy sy' path names o r = MatchResult r (λ q. Inside t at keys filter sy sy' path names o q.blocks q.inside) (λ f. ⊥)
EnteredBy (fault n) t at keys filter sy sy' path names o r = MatchResult r (λ q. ⊥) (λ f. fault_number f ≡ n)

-- and so does the place after a block's name
abbrev pub EnteredAhead : List ℕ → ℕ → Result Entered Fault → Type 0
EnteredAhead t at r = IfOk r (λ q. (at < q.inside) × (q.inside ≤ length t))

-- what follows the word `block` at a place, in the blocks of a path, where blocks of these full names were opened
pub record Enters (t : List ℕ) (at : ℕ) (keys keys' filter filter' sy sy' : List ℕ) (o : OpenBlocks) (r : Result Entered Fault) : Type 0 where
  pub says : (path names : List Name) → Within t keys filter sy path names o → names_good (frames_at t at).here ≡ true → length t < 65536 → o.count < 8192
      → EnteredBy (judge_block path names (header_in (frames_at t at).here)) t at keys' filter' sy sy' path names o r
  pub ahead : EnteredAhead t at r

-- the place after an item
abbrev pub place_after : Item → ℕ
place_after (Item.Word s n k q) = q
place_after (Item.Open p q) = q
place_after (Item.Close q) = q
place_after Item.End = 0
