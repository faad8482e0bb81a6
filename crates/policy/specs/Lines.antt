-- Examples of document 02, W-202: "Refusals placed in a text, later ones too, also carry the line: 1 plus the number of LF bytes before the place .. All
-- others carry line 0." Each by computation. Assumes nothing.
use Rattle.std.specs.Prelude.{ℕ, ◌≡◌, refl}
use Rattle.lexer.specs.Spell.{bytes}
use Rattle.policy.specs.Outcome.{of_text, line_at, refusal_at, rejected, outcome}
use Rattle.policy.specs.Roll.{printed}
use Rattle.policy.specs.Computing.{computing}

pub record Lines : Type 0 where
  -- the third line, of three
  pub third : (lent : ℕ) → outcome (of_text (bytes "\n(role a)\n(role a)")) lent ≡ rejected (refusal_at 4 10 3)
  -- an LF in a comment counts, a CR does not
  pub comment : (lent : ℕ) → outcome (of_text (bytes "; a\n; b\r\n(role a)(roletype a t)")) lent ≡ rejected (refusal_at 5 17 3)
  -- an LF at the place does not count, nor one after it
  pub at-the-place : line_at (bytes "\n\n\n") 1 ≡ 2
  pub behind : (lent : ℕ) → outcome (of_text (bytes "()\n\n")) lent ≡ rejected (refusal_at 3 0 1)
  -- the place of an unclosed text is its length, so that all LFs count
  pub unclosed : (lent : ℕ) → outcome (of_text (bytes "(\n")) lent ≡ rejected (refusal_at 2 2 2)
  -- 8 at the declaration
  pub cycle : (lent : ℕ) → outcome (of_text (bytes "\n(roleattribute x)\n(roleattributeset x (x))")) lent ≡ rejected (refusal_at 8 1 2)
  -- the place of 10 is a length
  pub short : outcome (of_text (bytes "\n\n")) 83 ≡ rejected (refusal_at 10 84 0)
  -- "The program prints `refused 5 at 8 line 1`"
  pub prints : printed (of_text (bytes "(role a)(roletype a t)")) ≡ bytes "refused 5 at 8 line 1\n"

pub lines : Lines
unfolding computing
lines = record {
  third = λ lent. refl;
  at-the-place = refl;
  comment = λ lent. refl;
  behind = λ lent. refl;
  unclosed = λ lent. refl;
  cycle = λ lent. refl;
  short = refl;
  prints = refl;
}
