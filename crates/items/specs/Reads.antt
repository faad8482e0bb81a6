-- What a reading of a row to its close answers. Assumes nothing.
use Rattle.std.specs.Prelude.{ℕ, ◌+◌, ◌<◌, ◌≤◌, ◌≡◌, Bool, true, false, List, eqb, ltb, length, Option, IfSome}
use Rattle.std.specs.Bool.{then_some}
use Rattle.std.proofs.Math.Option as maybe
use Rattle.lexer.specs.Forms.{Forms, closed, ended, word, part}
use Rattle.items.specs.Looks.{row_end}
use Rattle.items.specs.declared.Wanted.{Wanted}

-- there is something
abbrev pub is_some : {A : Type 0} → maybe.Option A → Bool
is_some maybe.none = false
is_some (maybe.some a) = true

-- the answer is the place after the close of the row at the place at, if b is true of that row, and else None; a place lies ahead and in the text
pub record Reads (t : List ℕ) (at : ℕ) (b : Bool) (r : Option ℕ) : Type 0 where
  pub answer : r ≡ then_some b (row_end t at)
  pub ahead : IfSome r (λ q. (at < q) × (q ≤ length t))

-- exactly a close
abbrev pub is_closed : Forms → Bool
is_closed closed = true
is_closed ended = false
is_closed (word s b f) = false
is_closed (part p f g) = false

-- so many are as many as there must be
abbrev pub enough : Wanted → ℕ → Bool
enough Wanted.OneOrMore n = ltb 0 n
enough (Wanted.Exactly k) n = eqb n k

-- n are enough with those that are to come, if they are there
unfoldable pub counted : {A : Type 0} → Wanted → ℕ → maybe.Option (List A) → Bool
counted w n maybe.none = false
counted w n (maybe.some xs) = enough w (n + length xs)
