-- What is written after a text is compiled is what is printed for it. Assumes nothing.
use Prim.Native.Nat.{ℕ}
use native.Mathlib.Omega.{arith}
use mathlib.Core.Path.{◌≡◌, sym, ap, subst, ◌∙◌}
use mathlib.Core.Bool.{true}
use mathlib.Core.List.{List, [], ◌∷◌}
use lib.ListN.{length}
use Rattle.byte_slices.specs.Parts.{put}
use Rattle.bitset.specs.Relations.{joined}
use Rattle.policy.specs.declared.Fault.{Fault}
use Rattle.policy.specs.declared.Refusal as theRefusal
use Rattle.std.specs.Prelude.{Result, Ok, Err}
use Rattle.policy.specs.Answers.{refusal_in, compiling_of}
use Rattle.policy.specs.Outcome as outcomes
use Rattle.policy.specs.Outcome.{Input, outcome}
use Rattle.policy.specs.Roll.{roll_of, refusal, printed}
use Rattle.sound_constraints.specs.SoundRows.{is_some}
use Rattle.soundness.specs.IsSound.{is_sound}
use Rattle.compiler.specs.Promise.{Compiles}
use Rattle.text_writer.specs.WrittenText.{Appends}
use Rattle.roll_lines.specs.LineWrites.{acceptance, PutsRoll}
use Rattle.roll_lines.proofs.Rolls.{roll-parts}
use Rattle.roll_text.specs.PrintedText.{Prints}
use Rattle.roll_text.proofs.Outcomes.{Holds, refusal-printed, roll-printed}

pub bytes-printed : {x : Input} {table table' before after bytes : List ℕ} {past : ℕ} → table' ≡ outcomes.after x table → Appends before 0 bytes after past
    → bytes ≡ printed x → Prints x table table' before after past
bytes-printed {x} {table} {table'} {before} {after} {bytes} {past} m a e = record {
  memory = m;
  written = a.written ∙ ap (put before 0) e;
  long = omega (arith, a.ends, ap length e);
}

module _ {x : Input} {before after : List ℕ} {r : Result ℕ (theRefusal.Refusal Fault)} (long : length before ≡ 65536) (c : Compiles x before after r) where
  answer : (o : Result ℕ (theRefusal.Refusal Fault)) → r ≡ o → compiling_of o ≡ outcome x 65536
  answer o e = ap compiling_of (sym e) ∙ c.answer ∙ ap (outcome x) long

  module _ {n : ℕ} (e : r ≡ Ok n) where
    holds : Holds x after n
    holds = subst (λ (m : List ℕ). Holds x m n) (sym c.memory) (roll-printed x n before long (answer (Ok n) e))

    -- an accepted text leaves a sound table
    pub table-sound : is_sound after ≡ true
    unfolding is_sound
    table-sound = ap is_some holds.read

    pub prints-roll : {out out' : List ℕ} {past : ℕ} → PutsRoll after n out out' past → Prints x before after out out' past
    prints-roll puts =
        bytes-printed c.memory (puts.says holds.image holds.read)
        (ap (λ (m : ℕ). joined (acceptance m ∷ roll_of holds.image ∷ [])) holds.long ∙ roll-parts holds.image ∙ sym holds.prints)

  pub prints-refusal : {f : theRefusal.Refusal Fault} → r ≡ Err f → {out out' : List ℕ} {past : ℕ} → Appends out 0 (refusal (refusal_in f)) out' past
      → Prints x before after out out' past
  prints-refusal {f} e puts = bytes-printed c.memory puts (sym (refusal-printed x (refusal_in f) (answer (Err f) e)))
