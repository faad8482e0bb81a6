-- Texts written in quotes, and what the definitions say of them: the documents' own examples, and both sides of each limit.
-- Assumes nothing.
use Rattle.std.specs.Prelude.{◌≡◌, refl, true, false, List, [], ◌∷◌, ◌++◌, ℕ, zero, suc}
use Prim.Native.String.{String}
use Rattle.lexer.specs.Spell.{bytes}
use Rattle.lexer.specs.Class.{class_of, all_go_on, is_part, all_parts, parts, has_good_parts, is_name}
use Rattle.lexer.specs.Scan.{scan_from, scan, Verdict, clean, refused, verdict_of}
use Rattle.lexer.specs.Token.{tokens_from, tokens_at, tokens, token_at}
use Rattle.lexer.specs.Forms.{closed, ended, word, part, build, frames_at, forms_of, trim, closes, balanced, names_good}
use Rattle.lexer.specs.declared.Token.{Token}

-- what document 01 says of a text's bytes
abbrev pub verdict : List ℕ → Verdict
verdict text = verdict_of (scan text)

-- the bytes of a text, so many times over
abbrev pub times : ℕ → String → List ℕ
times zero s = []
times (suc n) s = bytes s ++ times n s

-- faults 1 and 2
pub record Scans : Type 0 where
  -- nothing, blanks, comments
  pub empty : verdict [] ≡ clean
  pub blanks : verdict (bytes " \t\r\n") ≡ clean
  pub comments : verdict (bytes "; ( ! \"\n ;)") ≡ clean
  -- statements; no blank is needed beside a parenthesis; letters are A to Z and a to z
  pub statements : verdict (bytes "(user u)(role a)\n(role b)") ≡ clean
  pub parts : verdict (bytes "(a(b)c)((d)e)") ≡ clean
  pub no_items : verdict (bytes "()") ≡ clean
  pub capitals : verdict (bytes "(All U1 _ a-1_)") ≡ clean
  -- "text too long": at 65,535, whatever else is wrong
  pub too_long : verdict (times 65536 "!") ≡ refused 1 65535
  -- "wrong byte": at the byte, also right after a good name, and however much else is wrong before it
  pub wrong_byte : verdict (bytes "(role a!b)") ≡ refused 2 7
  pub wrong-later : verdict (bytes "(role a)(role a)!") ≡ refused 2 16
  pub vertical-tab : verdict (bytes "(\u{b})") ≡ refused 2 1
  pub form-feed : verdict (bytes "(\u{c})") ≡ refused 2 1
  pub nul : verdict (bytes "(\0)") ≡ refused 2 1
  pub slash : verdict (bytes "(a/b)") ≡ refused 2 2
  pub quote : verdict (bytes "(\"a\")") ≡ refused 2 1
  pub byte-128 : verdict (40 ∷ 128 ∷ 41 ∷ []) ≡ refused 2 1
  pub byte-255 : verdict (40 ∷ 97 ∷ 255 ∷ 41 ∷ []) ≡ refused 2 2
  -- a "bad name" starts with a digit or `-`: at its first byte
  pub digit-first : verdict (bytes "(1a)") ≡ refused 2 1
  pub dash : verdict (bytes "(-)") ≡ refused 2 1
  pub dash-first : verdict (bytes "( -a)") ≡ refused 2 2
  pub bad-then-wrong : verdict (bytes "(1a!)") ≡ refused 2 1
  -- a "long name": at its first byte, be there a wrong byte after it or the end of the text
  pub name-64 : verdict (bytes "( " ++ times 64 "a" ++ bytes ")") ≡ clean
  pub name-65 : verdict (bytes "( " ++ times 65 "a" ++ bytes ")") ≡ refused 2 2
  pub name-64-then-wrong : verdict (bytes "( " ++ times 64 "a" ++ bytes "!)") ≡ refused 2 66
  pub name-65-then-wrong : verdict (bytes "( " ++ times 65 "a" ++ bytes "!)") ≡ refused 2 2
  pub name-64-to-the-end : verdict (bytes "( " ++ times 64 "a") ≡ refused 2 66
  pub name-65-to-the-end : verdict (bytes "( " ++ times 65 "a") ≡ refused 2 2
  -- a "name outside parentheses", be it good, reserved, bad or long: at its first byte
  pub outside : verdict (bytes "() role") ≡ refused 2 3
  pub outside-reserved : verdict (bytes "() all") ≡ refused 2 3
  pub outside-bad : verdict (bytes "() -a!") ≡ refused 2 3
  pub outside-long : verdict (bytes "() " ++ times 65 "a") ≡ refused 2 3
  pub outside-first : verdict (bytes "1a!") ≡ refused 2 0
  -- "level 33", "close without open": at the byte; "unclosed at end": at the text's length
  pub level-32 : verdict (times 32 "(" ++ times 32 ")") ≡ clean
  pub level-33 : verdict (times 33 "(" ++ times 33 ")") ≡ refused 2 32
  pub level-32-twice : verdict (bytes "(" ++ times 31 "(" ++ times 31 ")" ++ times 31 "(" ++ times 31 ")" ++ bytes ")") ≡ clean
  pub not-open : verdict (bytes "())") ≡ refused 2 2
  pub unclosed : verdict (bytes "(") ≡ refused 2 1
  pub unclosed-32 : verdict (times 32 "(" ++ bytes "  ") ≡ refused 2 34
  -- "LF is a blank that also ends a comment; inside a comment any byte is allowed"
  pub comment-at-name : verdict (bytes "(role a;!(\n)") ≡ clean
  pub comment-over-close : verdict (bytes "(role a ;)") ≡ refused 2 10
  pub comment-over-cr : verdict (bytes "(role a ;\r)") ≡ refused 2 11
  pub comment-ends : verdict (bytes ";\n!") ≡ refused 2 2

-- W-203: dots
pub record Dots : Type 0 where
  -- "A dot may stand between name parts or in front"
  pub between : verdict (bytes "(role a.b)") ≡ clean
  pub in-front : verdict (bytes "(role .a.b-1._c)") ≡ clean
  -- "any other dot .. is fault 2 at the name's first byte"
  pub two : verdict (bytes "(role a..b)") ≡ refused 2 6
  pub behind : verdict (bytes "(role a.)") ≡ refused 2 6
  pub alone : verdict (bytes "(role .)") ≡ refused 2 6
  pub two-in-front : verdict (bytes "(role ..a)") ≡ refused 2 6
  pub digit-behind : verdict (bytes "(role .1)") ≡ refused 2 6
  pub part-of-digit : verdict (bytes "(role a.1b)") ≡ refused 2 6
  pub part-of-dash : verdict (bytes "(role a.-b)") ≡ refused 2 6
  pub digit-before : verdict (bytes "(role 1.a)") ≡ refused 2 6
  -- the first byte of a name with a dot in front is the dot
  pub first-is-dot : verdict (bytes "(roleallow .a. b)") ≡ refused 2 11
  -- "more than 64 bytes not counting a leading dot": dots between parts count, and a part has no limit of its own
  pub dot-and-64 : verdict (bytes "( ." ++ times 64 "a" ++ bytes ")") ≡ clean
  pub dot-and-65 : verdict (bytes "( ." ++ times 65 "a" ++ bytes ")") ≡ refused 2 2
  pub parts-of-64 : verdict (bytes "( a." ++ times 62 "b" ++ bytes ")") ≡ clean
  pub parts-of-65 : verdict (bytes "( a." ++ times 63 "b" ++ bytes ")") ≡ refused 2 2
  pub dot-and-parts-of-64 : verdict (bytes "( .a." ++ times 62 "b" ++ bytes ")") ≡ clean
  pub long-then-dots : verdict (bytes "( " ++ times 65 "a" ++ bytes "..)") ≡ refused 2 2
  -- the lowest place, be there a wrong byte after or the end of the text
  pub dot-then-wrong : verdict (bytes "(role a.!)") ≡ refused 2 6
  pub wrong-then-dot : verdict (bytes "(role a!.b)") ≡ refused 2 7
  pub dot-to-the-end : verdict (bytes "(role a.") ≡ refused 2 6
  pub part-to-the-end : verdict (bytes "(role a.b") ≡ refused 2 9
  -- a blank and a comment part names
  pub two-names : tokens (bytes "(a .b)") ≡ Token.Open 0 ∷ Token.Word 1 1 ∷ Token.Word 3 2 ∷ Token.Close 5 ∷ []
  pub two-names-good : verdict (bytes "(a .b)") ≡ clean
  pub dot-then-blank : verdict (bytes "(a. b)") ≡ refused 2 1
  pub dot-then-comment : verdict (bytes "(a.;\n)") ≡ refused 2 1
  pub dot-in-comment : verdict (bytes "(a;..\n)") ≡ clean
  -- however many parts
  pub ten-parts : verdict (bytes "(a.b.c.d.e.f.g.h.i.j)") ≡ clean
  -- a "name outside parentheses"
  pub outside : verdict (bytes "() a.b") ≡ refused 2 3
  pub outside-dot : verdict (bytes "() .") ≡ refused 2 3
  -- the names that words are, and their parts
  pub whole_word : tokens (bytes "(.a.b)") ≡ Token.Open 0 ∷ Token.Word 1 4 ∷ Token.Close 5 ∷ []
  pub name : is_name (bytes ".a.b") ≡ true
  pub dotted : has_good_parts (bytes "a.b") ≡ true
  pub dotted-in-front : has_good_parts (bytes ".a") ≡ false
  pub parts-of : parts (bytes "a.bc..") ≡ bytes "a" ∷ bytes "bc" ∷ [] ∷ [] ∷ []

-- tokens, names and forms
pub record Reads : Type 0 where
  pub tokens-of : tokens (bytes "(ab;x\n(c))") ≡ Token.Open 0 ∷ Token.Word 1 2 ∷ Token.Open 6 ∷ Token.Word 7 1 ∷ Token.Close 8 ∷ Token.Close 9 ∷ []
  pub comment-parts : tokens (bytes "(a;x\nb)") ≡ Token.Open 0 ∷ Token.Word 1 1 ∷ Token.Word 5 1 ∷ Token.Close 6 ∷ []
  pub token-at : token_at (bytes "(role a)") 5 ≡ Token.Word 6 1
  pub token-within : token_at (bytes "(role a)") 2 ≡ Token.Word 2 3
  pub no-token : token_at (bytes "(role a)") 9 ≡ Token.End
  pub name : is_name (bytes "a-1_") ≡ true
  pub name-empty : is_name [] ≡ false
  pub name-bad : is_name (bytes "-a") ≡ false
  pub name-two : is_name (bytes "a b") ≡ false
  pub name-64 : is_name (times 64 "a") ≡ true
  pub name-65 : is_name (times 65 "a") ≡ false
  pub forms-of : forms_of (bytes "(role a)(b (c) d)")
      ≡ part 0 (word 1 (bytes "role") (word 6 (bytes "a") closed)) (part 8 (word 9 (bytes "b") (part 11 (word 12 (bytes "c") closed) (word 15 (bytes "d") closed))) ended)
  pub unclosed : forms_of (bytes "(a") ≡ part 0 (word 1 (bytes "a") ended) ended
  pub not-open : forms_of (bytes "()) (") ≡ part 0 closed closed
  pub cut : trim (forms_of (bytes "((a)b)")) 1 ≡ part 0 ended ended
  pub good : balanced (forms_of (bytes "(a (b)) ()")) ≡ true
  pub bad : balanced (forms_of (bytes "(a (b)")) ≡ false
  pub too_many : balanced (forms_of (bytes "(a))")) ≡ false
  pub outside : balanced (forms_of (bytes "a (b)")) ≡ false
  pub names : names_good (forms_of (bytes "(role (a) b)")) ≡ true
  pub names-bad : names_good (forms_of (bytes "(role (1a) b)")) ≡ false

pub scans : Scans
unfolding class_of all_go_on is_part all_parts parts has_good_parts is_name scan_from scan
scans = record {
  empty = refl;
  blanks = refl;
  comments = refl;
  statements = refl;
  parts = refl;
  no_items = refl;
  capitals = refl;
  too_long = refl;
  wrong_byte = refl;
  wrong-later = refl;
  vertical-tab = refl;
  form-feed = refl;
  nul = refl;
  slash = refl;
  quote = refl;
  byte-128 = refl;
  byte-255 = refl;
  digit-first = refl;
  dash = refl;
  dash-first = refl;
  bad-then-wrong = refl;
  name-64 = refl;
  name-65 = refl;
  name-64-then-wrong = refl;
  name-65-then-wrong = refl;
  name-64-to-the-end = refl;
  name-65-to-the-end = refl;
  outside = refl;
  outside-reserved = refl;
  outside-bad = refl;
  outside-long = refl;
  outside-first = refl;
  level-32 = refl;
  level-33 = refl;
  level-32-twice = refl;
  not-open = refl;
  unclosed = refl;
  unclosed-32 = refl;
  comment-at-name = refl;
  comment-over-close = refl;
  comment-over-cr = refl;
  comment-ends = refl;
}

pub dots : Dots
unfolding class_of all_go_on is_part all_parts parts has_good_parts is_name scan_from scan tokens_from tokens_at tokens
dots = record {
  between = refl;
  in-front = refl;
  two = refl;
  behind = refl;
  alone = refl;
  two-in-front = refl;
  digit-behind = refl;
  part-of-digit = refl;
  part-of-dash = refl;
  digit-before = refl;
  first-is-dot = refl;
  dot-and-64 = refl;
  dot-and-65 = refl;
  parts-of-64 = refl;
  parts-of-65 = refl;
  dot-and-parts-of-64 = refl;
  long-then-dots = refl;
  dot-then-wrong = refl;
  wrong-then-dot = refl;
  dot-to-the-end = refl;
  part-to-the-end = refl;
  two-names = refl;
  two-names-good = refl;
  dot-then-blank = refl;
  dot-then-comment = refl;
  dot-in-comment = refl;
  ten-parts = refl;
  outside = refl;
  outside-dot = refl;
  whole_word = refl;
  name = refl;
  dotted = refl;
  dotted-in-front = refl;
  parts-of = refl;
}

pub reads : Reads
unfolding class_of all_go_on is_part all_parts parts has_good_parts is_name tokens_from tokens_at tokens token_at build frames_at forms_of trim closes balanced names_good
reads = record {
  tokens-of = refl;
  comment-parts = refl;
  token-at = refl;
  token-within = refl;
  no-token = refl;
  name = refl;
  name-empty = refl;
  name-bad = refl;
  name-two = refl;
  name-64 = refl;
  name-65 = refl;
  forms-of = refl;
  unclosed = refl;
  not-open = refl;
  cut = refl;
  good = refl;
  bad = refl;
  too_many = refl;
  outside = refl;
  names = refl;
  names-bad = refl;
}
