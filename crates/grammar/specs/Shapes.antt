-- The forms of the statements as the reader goes through them, by what a keyword asks for. They are policy's forms: `statement-is` of
-- proofs/Statements.antt. Assumes nothing.
use Rattle.std.specs.Prelude.{ℕ, ◌+◌, ◌<◌, ◌≤◌, ◌≡◌, Bool, false, ◌&&◌, List, eqb, length, take, drop, Option, Some, None, MatchOption}
use Rattle.std.proofs.Math.Option as maybe
use Rattle.byte_slices.specs.declared.Span.{Span}
use Rattle.lexer.specs.Forms.{Forms, closed, ended, word, part, frames_at}
use Rattle.policy.specs.Words as words
use Rattle.policy.specs.Words.{keyword_of, declare_k, class_k, set_k, relation_k, transition_k, constrain_k, relabel_k}
use Rattle.policy.specs.Statements.{thing_of, attribute_of}
use Rattle.policy.specs.Answers.{family_of, relation_of, sides_of}
use Rattle.policy.specs.declared.Sides.{Sides}
use Rattle.policy.specs.Grammar.{set_in, expression_in, row_of, header_in}
use Rattle.words.specs.Numbers.{may_be, taken_as}
use Rattle.words.specs.declared.NameKind.{NameKind}
use Rattle.items.specs.Reads.{is_some, counted, is_closed}
use Rattle.items.specs.declared.Wanted.{Wanted}
use Rattle.items.specs.declared.Item.{Item}
use Rattle.grammar.specs.declared.Keyword.{Keyword}
use Rattle.grammar.specs.declared.Content.{Content}

-- the keyword that an enum of src/ stands for
abbrev pub named : Keyword → words.Keyword
named (Keyword.Thing f) = declare_k (thing_of (family_of f))
named (Keyword.Attribute f) = declare_k (attribute_of (family_of f))
named Keyword.Class = class_k
named (Keyword.Set f) = set_k (family_of f)
named (Keyword.Relation r) = relation_k (relation_of r)
named Keyword.Transition = transition_k
named Keyword.Constrain = constrain_k
named Keyword.Relabel = relabel_k

-- the same, if there is one
abbrev pub keyword_in : Option Keyword → maybe.Option words.Keyword
keyword_in None = maybe.none
keyword_in (Some k) = maybe.some (named k)

-- what a part holds
abbrev pub content_of : Content → Forms → Bool
content_of Content.Permissions f = counted Wanted.OneOrMore 0 (row_of (taken_as NameKind.Part) f)
content_of Content.Set f = is_some (set_in f)
content_of (Content.Constraint n) f = is_some (expression_in (sides_of n) f)

-- a part, and the close
abbrev pub only_part : Content → Forms → Bool
only_part k closed = false
only_part k ended = false
only_part k (word s b f) = false
only_part k (part p f g) = content_of k f && is_closed g

-- a name, a part, and the close: "C (P ...)", "A S"
abbrev pub name_and_part : NameKind → Content → Forms → Bool
name_and_part n k closed = false
name_and_part n k ended = false
name_and_part n k (word s b f) = may_be n b && only_part k f
name_and_part n k (part p f g) = false

-- "(C (P ...)) E"
abbrev pub class_and_constraint : Forms → Bool
class_and_constraint closed = false
class_and_constraint ended = false
class_and_constraint (word s b f) = false
class_and_constraint (part p f g) = name_and_part NameKind.Name Content.Permissions f && only_part (Content.Constraint Sides.Two) g

-- what follows a keyword
abbrev pub by_keyword : words.Keyword → Forms → Bool
by_keyword (declare_k s) f = counted (Wanted.Exactly 1) 0 (row_of (taken_as NameKind.Part) f)
by_keyword class_k f = name_and_part NameKind.Part Content.Permissions f
by_keyword (set_k a) f = name_and_part NameKind.Name Content.Set f
by_keyword (relation_k r) f = counted (Wanted.Exactly 2) 0 (row_of (taken_as NameKind.Name) f)
by_keyword transition_k f = counted (Wanted.Exactly 4) 0 (row_of (taken_as NameKind.Name) f)
by_keyword constrain_k f = class_and_constraint f
by_keyword relabel_k f = name_and_part NameKind.Name (Content.Constraint Sides.Three) f

-- what follows the first word of a statement, by the keyword that it is, if it is one
abbrev pub by_word : maybe.Option words.Keyword → Forms → Bool
by_word maybe.none f = false
by_word (maybe.some k) f = by_keyword k f

-- what the parentheses of a statement hold
abbrev pub is_statement : Forms → Bool
is_statement closed = false
is_statement ended = false
is_statement (word s w f) = by_word (keyword_of w) f
is_statement (part p f g) = false

-- ---- W-203: blocks

-- by an item, whether a block is next
abbrev pub starts_block : Item → Bool
starts_block (Item.Word s n k q) = eqb k 40
starts_block (Item.Open p q) = false
starts_block (Item.Close q) = false
starts_block Item.End = false

-- what follows the word `block` at a place of the text: the name, at its place, and parts alone after it; or the block is of no form
abbrev pub HeaderBy : List ℕ → ℕ → Option Span → Type 0
HeaderBy t at r =
    MatchOption r (header_in (frames_at t at).here ≡ maybe.none) (λ s.
    (header_in (frames_at t at).here ≡ maybe.some (take s.length (drop s.start t)))
    × ((frames_at t at).here ≡ word s.start (take s.length (drop s.start t)) (frames_at t (s.start + s.length)).here)
    × ((frames_at t at).around ≡ (frames_at t (s.start + s.length)).around) × (at < s.start + s.length) × (s.start + s.length ≤ length t))

pub record HeaderIs (t : List ℕ) (at : ℕ) (r : Option Span) : Type 0 where
  pub is : HeaderBy t at r
