-- The numbers in which an answer is handed out. Assumes nothing.
use Rattle.std.specs.Prelude.{ℕ}
use Rattle.lexer.specs.Scan.{Verdict, clean, refused}

-- a verdict's number and place; 0 where there is no fault
abbrev pub number_of : Verdict → ℕ
number_of clean = 0
number_of (refused number place) = number

abbrev pub place_of : Verdict → ℕ
place_of clean = 0
place_of (refused number place) = place
