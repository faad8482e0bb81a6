-- The filter knows no entries at first, then those whose marks are put into it. Assumes nothing.
use mathlib.Core.Path.{◌≡◌, refl, sym, ap, ◌∙◌}
use mathlib.Core.Logic.{◌⊎◌, inl, inr}
use mathlib.Core.Bool.{Bool, true, false, false≢true}
use mathlib.Core.List.{List, [], ◌∷◌, ◌++◌}
use Prim.Native.Nat.{ℕ}
use native.Mathlib.Omega.{arith}
use lib.ListN.{length}
use Rattle.policy.specs.Basics.{Name}
use Rattle.policy.specs.Encode.{NameEntry}
use Rattle.symbols.specs.Lookup.{family_number, is_named, first_named}
use Rattle.std.specs.Prelude.{Option, Some, None, is_some}
use Rattle.std.specs.Option.{option_or}
use Rattle.symbols.specs.declared.Symbol.{Symbol}
use Rattle.symbols.proofs.SearchLaws.{first-cons, first-append}
use Rattle.symbols.proofs.SearchLaws.{named-is}
use Rattle.bloom_filter.specs.Filter.{hash_of, is_marked, marked}
use Rattle.bloom_filter.proofs.FilterLaws.{marked-long, covers-none, covers_more, unmarked}
use Rattle.sound_names.specs.Filter.{Knows}

first-none : (f : ℕ) (w : Name) → first_named f w [] ≡ None
unfolding first_named
first-none f w = refl

-- a name that is found among entries and one more is found among them, or is that one's
found-more : (f : ℕ) (w : Name) (es : List NameEntry) (e : NameEntry) → is_some (first_named f w (es ++ (e ∷ []))) ≡ true
    → (is_some (first_named f w es) ≡ true) ⊎ ((family_number e.sort e.number ≡ f) × (w ≡ e.name))
found-more f w es e h = by (first_named f w es) refl (sym (ap is_some (first-append f w es (e ∷ []))) ∙ h)
  where
    last : (q : Bool) → is_named f w e ≡ q → is_some (first_named f w (e ∷ [])) ≡ true
        → (is_some (first_named f w es) ≡ true) ⊎ ((family_number e.sort e.number ≡ f) × (w ≡ e.name))
    last true g x = inr (named-is f w e g)
    last false g x = absurd (false≢true (sym (ap is_some (first-cons f w e [] false g ∙ first-none f w)) ∙ x))

    by : (r : Option Symbol) → first_named f w es ≡ r → is_some (option_or r (first_named f w (e ∷ []))) ≡ true
        → (is_some (first_named f w es) ≡ true) ⊎ ((family_number e.sort e.number ≡ f) × (w ≡ e.name))
    by (Some y) g x = inl (ap is_some g)
    by None g x = last (is_named f w e) refl x

pub knows-none : (s : List ℕ) → length s ≡ 2048 → Knows s []
knows-none s l = record { long = l; covers = λ f. covers-none s f (λ w. is_some (first_named f w [])) (omega (arith, l)) (λ w. ap is_some (first-none f w)) }

pub knows_more : (s : List ℕ) (es : List NameEntry) (e : NameEntry) → Knows s es → Knows (marked s (hash_of (family_number e.sort e.number) e.name)) (es ++ (e ∷ []))
knows_more s es e k = record {
  long = marked-long s (hash_of (family_number e.sort e.number) e.name) (k.covers 0).some_words ∙ k.long;
  covers = λ f.
      covers_more s f (λ w. is_some (first_named f w es)) (λ w. is_some (first_named f w (es ++ (e ∷ [])))) (family_number e.sort e.number) e.name (k.covers f)
      (λ w. found-more f w es e);
}

-- a name that lacks a mark is not found
pub not_found : (s : List ℕ) (es : List NameEntry) (f : ℕ) (w : Name) (h : ℕ) (q : Bool) → Knows s es → h ≡ hash_of f w → q ≡ is_marked s h → q ≡ false
    → is_some (first_named f w es) ≡ false
not_found s es f w h q k e g z = unmarked s f (λ w. is_some (first_named f w es)) w h (k.covers f) e (sym g ∙ z)
