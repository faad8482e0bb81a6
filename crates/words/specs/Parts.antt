-- W-203: where the parts of a word end, as the reader goes over them. What the parts are is said in the lexer's Class. Assumes nothing.
use Rattle.std.specs.Prelude.{ℕ, drop}
use Rattle.lexer.specs.Class.{is_dot}
use Rattle.lexer.specs.Answers.{first_from}
use Rattle.policy.specs.Basics.{Name}

-- the part that starts at a place of a word ends at the next dot, or with the word
abbrev pub part_end : Name → ℕ → ℕ
part_end w at = first_from (drop at w) is_dot at
