-- The class that a row of good form starts with. Assumes nothing.
use mathlib.Core.Path.{◌≡◌, refl, sym, ap, subst, ◌∙◌}
use mathlib.Core.Bool.{Bool, true, false}
use mathlib.Core.List.{List, [], ◌∷◌}
use mathlib.Core.Option.{Option, none, some}
use Prim.Native.Nat.{ℕ, ◌+◌, ◌-◌, ◌≤◌, ◌<◌}
use native.Mathlib.Nat.{zero-add}
use native.Mathlib.Omega.{arith}
use lib.ListN.{take, drop}
use Rattle.std.specs.Prelude as prelude
use Rattle.std.specs.Prelude.{None, Some}
use types.Run.{OneOf}
use Rattle.lexer.specs.Forms.{Forms, closed, ended, word, part, frames_at, trim}
use Rattle.lexer.proofs.Trim.{same-words, starts_part}
use Rattle.policy.specs.Basics.{Name}
use Rattle.policy.specs.Names.{Environment}
use Rattle.symbols.specs.SearchAnswers.{found_class}
use Rattle.std.specs.Prelude.{None}
use Rattle.symbols.specs.Lookup.{found_at}
use Rattle.symbols.specs.declared.Symbol.{Symbol}
use Rattle.symbols.proofs.SymbolLaws.{found-same}
use Rattle.scopes.specs.Symbols.{Symbols, LooksClass}
use Rattle.scopes.proofs.Bounds.{bounded}
use Rattle.items.specs.Looks.{item_at}
use Rattle.items.specs.declared.Item.{Item}
use Rattle.items.proofs.Items.{Looked, word-lent, Alike, alike, by_word}
use Rattle.constrain_statement.specs.ClassNames.{Classes}
use Rattle.constrain_statement.specs.declared.NamedClass.{NamedClass}
use Rattle.constrain_statement.proofs.Masks.{tag}

-- ---- what a row starts with

abbrev pub starts_word : Forms → Bool
starts_word closed = false
starts_word ended = false
starts_word (word s w f) = true
starts_word (part p f g) = false

-- a row of which q is true does not start with an item of which q is false
pub not_there : {X : Type 0} (q : Forms → Bool) (t : List ℕ) (i levels : ℕ) (f : Forms) → trim (frames_at t i).here levels ≡ f → q f ≡ true
    → (ks : List ℕ) → Alike q (λ f. false) ks → {k : Item} → k ≡ item_at t i → OneOf ks (tag k) → X
not_there q t i levels f e h ks a {k} d o =
    let z = sym (alike q (λ f. false) t i k ks levels a d o) ∙ ap q e ∙ h in
    absurd (let z : ◌≡◌ {A = ℕ} 0 1 = cc in omega arith)

no_word : Alike starts_word (λ f. false) (1 ∷ 2 ∷ 3 ∷ [])
no_word = (tt, λ x f g. refl, refl, refl)

pub no_part : Alike starts_part (λ f. false) (0 ∷ 2 ∷ 3 ∷ [])
no_part = (λ s b f. refl, tt, refl, refl)

-- the parts of two rows that are the same
pub same_parts : {p q : ℕ} {f g h k : Forms} → part p f g ≡ part q h k → (f ≡ h) × (g ≡ k)
same_parts e = (cc, cc)

-- ---- the class

module _ {table : List ℕ} {env : Environment} (y : Symbols table env) (w : Name) {r : prelude.Option Symbol} (h : LooksClass table w r) where
  class-as : r ≡ found_class (env.class w)
  class-as = h.classes env y

  class-missing : r ≡ None → env.class w ≡ none
  class-missing d = go (env.class w) refl (sym d ∙ class-as)
    where
      go : (o : Option ℕ) → env.class w ≡ o → None ≡ found_class o → env.class w ≡ none
      go none p g = p
      go (some k) p g = absurd (let z : ◌≡◌ {A = ℕ} 0 1 = cc in omega arith)

  class-number : {sort number : ℕ} → r ≡ found_at sort number → env.class w ≡ some number
  class-number {sort} {number} d = go (env.class w) refl (sym d ∙ class-as)
    where
      go : (o : Option ℕ) → env.class w ≡ o → found_at sort number ≡ found_class o → env.class w ≡ some number
      go none p g = absurd (let z : ◌≡◌ {A = ℕ} 0 1 = cc in omega arith)
      go (some k) p g = let z : number ≡ 0 + k = (found-same g).1 in p ∙ ap some (sym (z ∙ zero-add k))

  class-below : (number : ℕ) → env.class w ≡ some number → number < 32
  class-below number e = (bounded y).classes w number e

-- ---- the answers

module _ {t : List ℕ} {at : ℕ} {table : List ℕ} where
  pub word-missing : {k : Item} → k ≡ item_at t at → OneOf (1 ∷ 2 ∷ 3 ∷ []) (tag k) → Classes t at table None
  word-missing e o = record {
    place = tt;
    says = λ env levels i c rest y h. not_there starts_word t at levels _ h refl (1 ∷ 2 ∷ 3 ∷ []) no_word e o;
  }

  -- what was answered
  pub class-told : {r k : prelude.Option NamedClass} → Classes t at table r → r ≡ k → Classes t at table k
  class-told u e = subst (Classes t at table) e u

  module _ {s n k q : ℕ} (l : Looked t at (Item.Word s n k q)) {r : prelude.Option Symbol} (lent : LooksClass table (take ((s + n) - s) (drop s t)) r) where
    found : LooksClass table (take n (drop s t)) r
    found = subst (λ (w : Name). LooksClass table w r) (word-lent t s n) lent

    behind-word : (levels : ℕ) {i : ℕ} {c : Name} {rest : Forms} → trim (frames_at t at).here levels ≡ word i c rest
        → (take n (drop s t) ≡ c) × (trim (frames_at t q).here levels ≡ rest)
    behind-word levels h = same-words (sym (by_word (λ f. f) levels l) ∙ h)

    pub class-undeclared : r ≡ None → Classes t at table None
    class-undeclared d = record {
      place = tt;
      says = λ env levels i c rest y h.
          ap (λ (w : Name). env.class w) (sym (behind-word levels h).0) ∙ class-missing y (take n (drop s t)) found d;
    }

    module _ {sort number : ℕ} (d : r ≡ found_at sort number) where
      pub class-too-far : 32 ≤ number → Classes t at table None
      class-too-far g = record {
        place = tt;
        says = λ env levels i c rest y h.
            absurd (omega (arith, g, class-below y (take n (drop s t)) found number (class-number y (take n (drop s t)) found d)));
      }

      pub class-found : number < 32 → Classes t at table (Some (record { class = number; next = q }))
      class-found g = record {
        place = (l.end, g);
        says = λ env levels i c rest y h.
            let b = behind-word levels h in
            (ap (λ (w : Name). env.class w) (sym b.0) ∙ class-number y (take n (drop s t)) found d, b.1);
      }
