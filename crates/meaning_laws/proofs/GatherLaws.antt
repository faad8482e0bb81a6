-- What is gathered from a list, cut at one of its values, comes from the list cut where that value stands. By induction on the list.
-- Assumes nothing.
use mathlib.Core.Path.{◌≡◌, refl, ap, subst}
use mathlib.Core.List.{List, [], ◌∷◌, ◌++◌, nil≢cons}
use mathlib.Core.Option.{Option, none, some}
use Rattle.policy.specs.Basics.{gather, keep}

module _ {A B : Type 0} where
  -- the list cut at an element whose value is b, after those whose values are xs
  pub record CutAt (g : A → Option B) (l : List A) (xs : List B) (b : B) : Type 0 where
    pub before : List A
    pub here : A
    pub after : List A
    pub whole : l ≡ before ++ (here ∷ after)
    pub value : g here ≡ some b
    pub earlier : gather g before ≡ xs

  one_more : (g : A → Option B) (x : A) (l : List A) (o : Option B) (xs : List B) (b : B) → g x ≡ o → CutAt g l xs b → CutAt g (x ∷ l) (keep o xs) b
  unfolding gather
  one_more g x l o xs b e c = record {
    before = x ∷ c.before;
    here = c.here;
    after = c.after;
    whole = ap {B = List A} (λ r. x ∷ r) c.whole;
    value = c.value;
    earlier = rw (e, c.earlier);
  }

  pub cut-gathered : (g : A → Option B) (l : List A) (xs : List B) (b : B) (ys : List B) → gather g l ≡ xs ++ (b ∷ ys) → CutAt g l xs b
  unfolding gather
  cut-gathered g [] xs b ys h = absurd (empty xs h)
    where
      empty : (xs : List B) → Path (List B) [] (xs ++ (b ∷ ys)) → ⊥
      empty [] e = nil≢cons e
      empty (x ∷ xs) e = nil≢cons e
  cut-gathered g (x ∷ l) xs b ys h = go (g x) xs refl h (λ zs. cut-gathered g l zs b ys)
    where
      go : (o : Option B) (xs : List B) → g x ≡ o → keep o (gather g l) ≡ xs ++ (b ∷ ys)
          → ((zs : List B) → gather g l ≡ zs ++ (b ∷ ys) → CutAt g l zs b) → CutAt g (x ∷ l) xs b
      go none xs e k ih = one_more g x l none xs b e (ih xs k)
      go (some c) [] e k ih = record { before = []; here = x; after = l; whole = refl; value = rw (e, heads); earlier = refl }
        where
          heads : c ≡ b
          heads = cc
      go (some c) (z ∷ zs) e k ih = subst (λ (v : B). CutAt g (x ∷ l) (v ∷ zs) b) heads (one_more g x l (some c) zs b e (ih zs tails))
        where
          heads : c ≡ z
          heads = cc

          tails : gather g l ≡ zs ++ (b ∷ ys)
          tails = cc
