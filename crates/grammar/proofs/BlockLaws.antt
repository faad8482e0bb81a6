-- W-203: what the items at a place say of a block there: whether there is one, and what its header is. Assumes nothing.
use mathlib.Core.Path.{◌≡◌, refl, sym, ap, ◌∙◌}
use mathlib.Core.Bool.{Bool, true, false}
use mathlib.Core.List.{List}
use mathlib.Core.Option.{none}
use Prim.Native.Nat.{ℕ, ◌+◌}
use lib.Dec.{eqb}
use Rattle.std.specs.Prelude.{Some, None}
use lib.ListN.{take, drop}
use Rattle.lexer.specs.Forms.{word, frames_at}
use Rattle.policy.specs.Basics.{Name}
use Rattle.policy.specs.Grammar.{parts_alone, is_block, header_in}
use Rattle.words.specs.Numbers.{may_be}
use Rattle.words.specs.declared.NameKind.{NameKind}
use Rattle.words.proofs.Meaning.{block-number}
use Rattle.items.specs.Looks.{item_at}
use Rattle.items.specs.declared.Item.{Item}
use Rattle.items.proofs.Items.{Looked, sees}
use Rattle.items.proofs.Frames as frames
use Rattle.items.proofs.Frames.{here_of, around-of, word_next}
use Rattle.grammar.specs.Shapes.{starts_block, HeaderIs}

-- ---- whether there is a block

by-item : {t : List ℕ} {at : ℕ} (k : Item) → Looked t at k → starts_block k ≡ is_block (frames_at t at).here
by-item {t} (Item.Word s n k q) l =
    let w = take n (drop s t) in
    sym (ap is_block l.here ∙ block-number w ∙ ap (λ (m : ℕ). eqb m 40) l.ahead.2)
by-item (Item.Open p q) l = sym (ap is_block l.here)
by-item (Item.Close q) l = sym (ap is_block l.here)
by-item Item.End l = sym (ap is_block l.here)

-- the item at a place tells whether a block starts there
pub block_at : (t : List ℕ) (at : ℕ) {first : Item} → first ≡ item_at t at → starts_block first ≡ is_block (frames_at t at).here
block_at t at {first} e = by-item first (sees e refl)

-- ---- its header

-- the header of a block by the first word after `block`
module _ (t : List ℕ) (at : ℕ) {s n k q : ℕ} {first : Item} (e : first ≡ item_at t at) (f : first ≡ Item.Word s n k q) where
  abbrev name : Name
  name = take n (drop s t)

  looked : frames.FramesSeen t at (Item.Word s n k q)
  looked = frames.sees e f

  pub unnamed : false ≡ may_be NameKind.Part name → HeaderIs t at None
  unnamed h = record { is = ap header_in (here_of looked) ∙ rw (sym h) }

  pub not-alone : parts_alone (frames_at t q).here ≡ false → HeaderIs t at None
  not-alone h = record { is = ap header_in (here_of looked) ∙ go (may_be NameKind.Part name) refl }
    where
      go : (b : Bool) → may_be NameKind.Part name ≡ b → header_in (word s name (frames_at t q).here) ≡ none
      go true d = rw (d, h)
      go false d = rw d

  pub named : true ≡ may_be NameKind.Part name → parts_alone (frames_at t q).here ≡ true → HeaderIs t at (Some (record { start = s; length = n }))
  named h g =
      let next : q ≡ s + n = word_next t at e f in
      record {
        is = (
          ap header_in (here_of looked) ∙ rw (sym h, g),
          rw next at (here_of looked),
          rw next at (around-of looked),
          rw next at looked.ahead.0,
          rw next at looked.ahead.1,
        );
      }
