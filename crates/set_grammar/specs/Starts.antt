-- How a set expression begins, by its first item. Assumes nothing.
use Rattle.std.specs.Prelude.{ℕ}
use Rattle.std.proofs.Math.Option.{Option, none, some}
use Rattle.policy.specs.Words.{Connective, all_c, not_c, and_c, or_c, xor_c, set_word}
use Rattle.words.specs.Numbers.{word_of}
use Rattle.items.specs.declared.Item.{Item}
use Rattle.items.specs.declared.Wanted.{Wanted}
use Rattle.set_grammar.specs.declared.SetStart.{SetStart}

-- "one or more operands (their union), `(all)`, `(not x)`, `(and x y)`, `(or x y)`, `(xor x y)`"
abbrev pub operands_of : Option Connective → Wanted
operands_of none = Wanted.OneOrMore
operands_of (some all_c) = Wanted.Exactly 0
operands_of (some not_c) = Wanted.Exactly 1
operands_of (some and_c) = Wanted.Exactly 2
operands_of (some or_c) = Wanted.Exactly 2
operands_of (some xor_c) = Wanted.Exactly 2

abbrev pub begun : Wanted → ℕ → SetStart
begun w n = record { wanted = w; next = n }

-- after an operator at the place at its operands begin; any other word is the first of them
abbrev pub start_by : ℕ → ℕ → Wanted → SetStart
start_by at q Wanted.OneOrMore = begun Wanted.OneOrMore at
start_by at q (Wanted.Exactly m) = begun (Wanted.Exactly m) q

abbrev pub start_of : ℕ → Item → SetStart
start_of at (Item.Word s n k q) = start_by at q (operands_of (set_word (word_of k)))
start_of at (Item.Open p q) = begun Wanted.OneOrMore at
start_of at (Item.Close q) = begun Wanted.OneOrMore at
start_of at Item.End = begun Wanted.OneOrMore at
