-- What is at a place of a text, and where the row at hand ends. Assumes nothing.
use Rattle.std.specs.Prelude.{ℕ, zero, suc, ◌+◌, List, [], ◌∷◌, length, take, drop}
use Rattle.lexer.specs.Token.{token_at, tokens_at}
use Rattle.lexer.specs.declared.Token.{Token}
use Rattle.words.specs.Numbers.{number_of}
use Rattle.items.specs.declared.Item.{Item}

-- a token as an item: a word has its number, and each the place after it
abbrev pub item_of : List ℕ → Token → Item
item_of t (Token.Open p) = Item.Open p (p + 1)
item_of t (Token.Close p) = Item.Close (p + 1)
item_of t (Token.Word s n) = Item.Word s n (number_of (take n (drop s t))) (s + n)
item_of t Token.End = Item.End

unfoldable pub item_at : List ℕ → ℕ → Item
item_at t at = item_of t (token_at t at)

-- the place after the close of a row, by the tokens to come, where so many rows within it are open; the end where nothing closes it
unfoldable pub past_close : List Token → ℕ → ℕ → ℕ
past_close [] d end = end
past_close (Token.Open p ∷ ks) d end = past_close ks (suc d) end
past_close (Token.Close p ∷ ks) zero end = p + 1
past_close (Token.Close p ∷ ks) (suc d) end = past_close ks d end
past_close (Token.Word s n ∷ ks) d end = past_close ks d end
past_close (Token.End ∷ ks) d end = past_close ks d end

-- the place after the close of the row that a place of a text lies in
unfoldable pub row_end : List ℕ → ℕ → ℕ
row_end t at = past_close (tokens_at t at) 0 (length t)
