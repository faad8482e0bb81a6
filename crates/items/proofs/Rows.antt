-- What a reading of a row says, and how it goes on past a word or a part. Assumes nothing.
use mathlib.Core.Path.{◌≡◌, refl, sym, ap, subst, ◌∙◌}
use mathlib.Core.Bool.{Bool, true, false}
use mathlib.Core.List.{List}
use Prim.Native.Nat.{ℕ, ◌<◌, ◌≤◌}
use native.Mathlib.Omega.{arith}
use lib.ListN.{length}
use Rattle.std.specs.Prelude.{Option, Some, None}
use Rattle.std.specs.Bool.{then_some}
use Rattle.lexer.specs.Forms.{Forms, closed, ended, word, part, trim}
use Rattle.lexer.proofs.Trim.{cut-or-whole}
use Rattle.items.specs.Looks.{row_end}
use Rattle.items.specs.Reads.{Reads, is_closed}
use Rattle.items.specs.declared.Item.{Item}
use Rattle.items.proofs.Items.{Looked}

-- b holds of the row at the place at, and q is the place after its close
pub record Past (t : List ℕ) (at : ℕ) (b : Bool) (q : ℕ) : Type 0 where
  pub good : b ≡ true
  pub end : row_end t at ≡ q
  pub less : at < q
  pub fits : q ≤ length t

-- what a reader said that answered a place, and one that answered none
pub passes : {t : List ℕ} {at q : ℕ} {b : Bool} → Reads t at b (Some q) → Past t at b q
passes {t} {at} {q} {b} l = go b l.answer
  where
    go : (b : Bool) → Some q ≡ then_some b (row_end t at) → Past t at b q
    go true e = record { good = refl; end = cc; less = l.ahead.0; fits = l.ahead.1 }
    go false e = absurd cc

pub refuses : {t : List ℕ} {at : ℕ} {b : Bool} → Reads t at b None → b ≡ false
refuses {t} {at} {b} l = go b l.answer
  where
    go : (b : Bool) → None ≡ then_some b (row_end t at) → b ≡ false
    go true e = absurd cc
    go false e = refl

-- how an answer is given
pub give : {t : List ℕ} {at q : ℕ} {b : Bool} → b ≡ true → row_end t at ≡ q → at < q → q ≤ length t → Reads t at b (Some q)
give e f g h = record { answer = rw (e, f); ahead = (g, h) }

pub refuse : {t : List ℕ} {at : ℕ} {b : Bool} → b ≡ false → Reads t at b None
refuse e = record { answer = rw e; ahead = tt }

-- an answer that `ended` gave
pub at-close : {t : List ℕ} {at q : ℕ} {b : Bool} (r : Option ℕ) (d : Bool) → r ≡ then_some d q → b ≡ d → row_end t at ≡ q → at < q → q ≤ length t → Reads t at b r
at-close {t} {at} {q} {b} r d e f g h l = subst (λ (x : Option ℕ). Reads t at b x) (sym e) (go d f)
  where
    go : (d : Bool) → b ≡ d → Reads t at b (then_some d q)
    go true f = give f g h l
    go false f = refuse f

-- what is read after a place from which the row ends at the same place
moved : {t : List ℕ} {i q : ℕ} {b d : Bool} (r : Option ℕ) → row_end t i ≡ row_end t q → i < q → b ≡ d → Reads t q d r → Reads t i b r
moved (Some j) a h e g = record { answer = g.answer ∙ rw (e, a); ahead = (omega (arith, g.ahead), g.ahead.1) }
moved None a h e g = record { answer = g.answer ∙ rw (e, a); ahead = tt }

pub after-word : {t : List ℕ} {i s n k q : ℕ} {b d : Bool} {r : Option ℕ} → Looked t i (Item.Word s n k q) → b ≡ d → Reads t q d r → Reads t i b r
after-word {r = r} l e g = moved r l.end l.ahead.0 e g

-- where a row ends, past a part
pub beyond : {t : List ℕ} {i p q : ℕ} (j : ℕ) → Looked t i (Item.Open p q) → row_end t q ≡ j → row_end t i ≡ row_end t j
beyond {t} j l e = l.end ∙ ap (row_end t) e

pub after-part : {t : List ℕ} {i p q j : ℕ} {a b d : Bool} {r : Option ℕ} → Looked t i (Item.Open p q) → Past t q a j → b ≡ d → Reads t j d r → Reads t i b r
after-part {r = r} l o e g = moved r (beyond _ l o.end) (omega (arith, l.ahead.0, o.less)) e g

-- a cut changes nothing in a close
pub trim-closed : (f : Forms) (n : ℕ) → is_closed (trim f n) ≡ is_closed f
unfolding trim
trim-closed closed n = refl
trim-closed ended n = refl
trim-closed (word s b f) n = refl
trim-closed (part p f g) n = cut-or-whole p f g n is_closed refl (λ a b. refl)
