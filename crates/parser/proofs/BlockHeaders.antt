-- The header of a block: its form is judged first, then its name. Assumes nothing.
use Rattle.std.specs.Prelude.{Result, Ok, Err}
use Rattle.policy.specs.declared.Fault.{Fault}
use Prim.Native.Nat.{ℕ, ◌+◌, ◌≤◌}
use mathlib.Core.Path.{◌≡◌, refl, sym, ap, ap₂, subst, ◌∙◌}
use mathlib.Core.Bool.{true}
use mathlib.Core.List.{List}
use mathlib.Core.Option as maybe
use mathlib.Core.Option.{some}
use lib.ListN.{length, take, drop}
use Rattle.std.specs.Prelude.{Option, Some, None}
use Rattle.byte_slices.specs.Parts.{part}
use Rattle.lexer.specs.Class.{is_name}
use Rattle.lexer.specs.Forms.{Forms, word, frames_at, names_good}
use Rattle.policy.specs.Basics.{Name}
use Rattle.policy.specs.Grammar.{header_in}
use Rattle.policy.specs.Reading.{Judged, reads, opens, fault, judge_block}
use Rattle.policy.specs.Sound.{is_good_part}
use Rattle.policy.proofs.Lists.{both_true}
use Rattle.reading_laws.proofs.FullNames.{part-good}
use Rattle.parser.proofs.RestOfText.{header-name}
use Rattle.grammar.specs.Shapes.{HeaderBy, HeaderIs}
use Rattle.byte_slices.specs.declared.Span.{Span}
use Rattle.block_reader.specs.Within.{OneMore, OpensBy, OpensBlock}
use Rattle.block_reader.specs.declared.OpenBlocks.{OpenBlocks}
use Rattle.parser.specs.Parts.{EnteredBy, EnteredAhead, Enters}
use Rattle.parser.specs.declared.Entered.{Entered}

part-is : (t : List ℕ) (s n : ℕ) → part t s n ≡ take n (drop s t)
unfolding part
part-is t s n = refl

-- fault 3
pub no_header : {t : List ℕ} {at : ℕ} {keys keys' filter filter' sy sy' : List ℕ} {o : OpenBlocks} {h : Option Span} → HeaderIs t at h → h ≡ None
    → Enters t at keys keys' filter filter' sy sy' o (Err Fault.NoForm)
no_header {t} {at} {keys} {keys'} {filter} {filter'} {sy} {sy'} {o} x e = record {
  says = λ path names w good short room.
      subst (λ (b : maybe.Option Name). EnteredBy (judge_block path names b) t at keys' filter' sy sy' path names o (Err Fault.NoForm)) (sym (subst (HeaderBy t at) e x.is)) refl;
  ahead = tt;
}

-- what is answered for a block that is opened, or not
abbrev pub answer_of : ℕ → Result OpenBlocks Fault → Result Entered Fault
answer_of next (Ok q) = Ok (record { inside = next; blocks = q })
answer_of next (Err f) = Err f

module _ {t : List ℕ} {at : ℕ} {h : Option Span} {name : Span} (x : HeaderIs t at h) (e : h ≡ Some name) where
  abbrev start : ℕ
  start = name.start

  abbrev len : ℕ
  len = name.length

  named : HeaderBy t at (Some name)
  named = subst (HeaderBy t at) e x.is

  -- the name lies in the text
  pub inside-text : start + len ≤ length t
  inside-text = named.4

  -- it is a name of one part that is not reserved
  good-name : names_good (frames_at t at).here ≡ true → is_good_part (part t start len) ≡ true
  unfolding names_good
  good-name names =
      let w = take len (drop start t) in
      let rest = (frames_at t (start + len)).here in
      let word-name = (both_true (is_name w) (names_good rest) (sym (ap names_good named.1) ∙ names)).0 in
      let taken = (header-name start w rest w (ap header_in (sym named.1) ∙ named.0)).0 in
      subst (λ (v : Name). is_good_part v ≡ true) (sym (part-is t start len)) ((part-good w word-name).has w taken)

  module _ {keys keys' filter filter' sy sy' : List ℕ} {o : OpenBlocks} {k : Result OpenBlocks Fault} (y : OpensBlock t start len keys keys' filter filter' sy sy' o k) where
    entered_by : (path names : List Name) (j : Judged) (r : Result OpenBlocks Fault) → OpensBy (OneMore t keys' filter' sy' path names (part t start len) o) j r
        → EnteredBy j t at keys' filter' sy sy' path names o (answer_of (start + len) r)
    entered_by path names (reads s) (Ok q) g = absurd g
    entered_by path names (reads s) (Err m) g = absurd g
    entered_by path names opens (Ok q) g = record {
      name = part t start len;
      start = start;
      header = named.0 ∙ ap (λ (v : Name). some v) (sym (part-is t start len));
      row =
          ap₂ (λ (f : Forms) (fs : List Forms). record { here = f; around = fs })
          (named.1 ∙ ap (λ (v : Name). word start v (frames_at t (start + len)).here) (sym (part-is t start len))) named.2;
      within = g.inside;
      counted = g.next;
      kept = y.kept;
    }
    entered_by path names opens (Err m) g = absurd g
    entered_by path names (fault n) (Ok q) g = absurd g
    entered_by path names (fault n) (Err m) g = g

    pub entered : (r : Result Entered Fault) → r ≡ answer_of (start + len) k → Enters t at keys keys' filter filter' sy sy' o r
    entered r i = record {
      says = λ path names w good short room.
          let judged = y.judges path names w (good-name good) room short inside-text in
          let is : header_in (frames_at t at).here ≡ some (part t start len) = named.0 ∙ ap (λ (v : Name). some v) (sym (part-is t start len)) in
          subst (λ (b : maybe.Option Name). EnteredBy (judge_block path names b) t at keys' filter' sy sy' path names o r) (sym is)
          (subst (EnteredBy (judge_block path names (some (part t start len))) t at keys' filter' sy sy' path names o) (sym i)
          (entered_by path names (judge_block path names (some (part t start len))) k judged));
      ahead = subst (EnteredAhead t at) (sym i) (ahead_of k);
    }
      where
        ahead_of : (k : Result OpenBlocks Fault) → EnteredAhead t at (answer_of (start + len) k)
        ahead_of (Ok q) = (named.3, named.4)
        ahead_of (Err n) = tt
