-- What holds of every class of bytes is computed once for each; and what an arm with several patterns tells of a byte's class: it is one of them. A law for
-- each of the two. Assumes nothing.
use mathlib.Core.Path.{◌≡◌, refl, ap, subst⁻¹}
use mathlib.Core.Bool.{Bool, true, false, not}
use mathlib.Core.List.{List, [], ◌∷◌}
use Prim.Native.Nat.{ℕ}
use lib.Dec.{T}
use lib.ListN.{get_or}
use types.Run.{OneOf, miss}
use mir.Val.{has_key}
use denote.Enum.Bare.{sameb}
use denote.Enum.Declared.{tag_of}
use Rattle.lexer.specs.Class.{ends_comment}
use Rattle.lexer.specs.declared.ByteClass.{ByteClass}
use Rattle.lexer.specs.declared.ByteClass.TheVariants.{Blank, LineFeed, Comment, Open, Close, Letter, Digit, Dot, Wrong}
use Rattle.lexer.specs.contracts.ByteClass.{the_type}

-- what f gives for each class
abbrev at_each : {A : Type 0} → (ByteClass → A) → List A
at_each f = f Blank ∷ f LineFeed ∷ f Comment ∷ f Open ∷ f Close ∷ f Letter ∷ f Digit ∷ f Dot ∷ f Wrong ∷ []

-- functions that give the same for each are the same
pub by-class : {A : Type 0} (f g : ByteClass → A) → at_each f ≡ at_each g → (k : ByteClass) → f k ≡ g k
by-class {A} f g e Blank = ap (λ (l : List A). get_or l 0 (f Blank)) e
by-class {A} f g e LineFeed = ap (λ (l : List A). get_or l 1 (f Blank)) e
by-class {A} f g e Comment = ap (λ (l : List A). get_or l 2 (f Blank)) e
by-class {A} f g e Open = ap (λ (l : List A). get_or l 3 (f Blank)) e
by-class {A} f g e Close = ap (λ (l : List A). get_or l 4 (f Blank)) e
by-class {A} f g e Letter = ap (λ (l : List A). get_or l 5 (f Blank)) e
by-class {A} f g e Digit = ap (λ (l : List A). get_or l 6 (f Blank)) e
by-class {A} f g e Dot = ap (λ (l : List A). get_or l 7 (f Blank)) e
by-class {A} f g e Wrong = ap (λ (l : List A). get_or l 8 (f Blank)) e

-- a comment ends with a line feed and nothing else
pub same-as-line-feed : (k : ByteClass) → sameb the_type k LineFeed ≡ ends_comment k
same-as-line-feed = by-class (λ k. sameb the_type k LineFeed) ends_comment refl

-- the place of a class among the variants, as the check has it
abbrev pub tag : ByteClass → ℕ
tag k = tag_of the_type k

abbrev pub When : Bool → Type 0 → Type 0
When true X = X
When false X = Unit {0}

-- X where x is one of the numbers ks
pub one_of : (ks : List ℕ) (x : ℕ) (X : Type 0) → When (has_key ks x) X → OneOf ks x → X
one_of ks x X w h = go (has_key ks x) refl w
  where
    go : (b : Bool) → has_key ks x ≡ b → When b X → X
    go true e v = v
    go false e v = absurd (miss ks x (subst⁻¹ (λ (q : Bool). T (not q)) e tt) h)

-- P at each class whose place is among ks
abbrev pub Each : List ℕ → (ByteClass → Type 0) → Type 0
Each ks P =
    When (has_key ks 0) (P Blank)
    × When (has_key ks 1) (P LineFeed)
    × When (has_key ks 2) (P Comment)
    × When (has_key ks 3) (P Open)
    × When (has_key ks 4) (P Close)
    × When (has_key ks 5) (P Letter)
    × When (has_key ks 6) (P Digit)
    × When (has_key ks 7) (P Dot)
    × When (has_key ks 8) (P Wrong)

-- so P at a class that is one of them
pub among : (ks : List ℕ) (P : ByteClass → Type 0) → Each ks P → (k : ByteClass) → OneOf ks (tag k) → P k
among ks P a Blank h = one_of ks 0 (P Blank) a.0 h
among ks P a LineFeed h = one_of ks 1 (P LineFeed) a.1 h
among ks P a Comment h = one_of ks 2 (P Comment) a.2 h
among ks P a Open h = one_of ks 3 (P Open) a.3 h
among ks P a Close h = one_of ks 4 (P Close) a.4 h
among ks P a Letter h = one_of ks 5 (P Letter) a.5 h
among ks P a Digit h = one_of ks 6 (P Digit) a.6 h
among ks P a Dot h = one_of ks 7 (P Dot) a.7 h
among ks P a Wrong h = one_of ks 8 (P Wrong) a.8 h
