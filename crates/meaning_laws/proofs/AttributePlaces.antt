-- The list of the places of a family's attributes: place number a is that of the declaration of attribute a. By what a line declares.
-- Assumes nothing.
use Prim.Native.Nat.{ℕ, suc}
use mathlib.Core.Path.{◌≡◌, refl, sym, ap, ◌∙◌}
use mathlib.Core.Bool.{Bool, true, false}
use mathlib.Core.List.{List, [], ◌∷◌, ◌++◌}
use mathlib.Core.Option.{Option, none, some, none-ne-some}
use lib.ListN.{length}
use Rattle.policy.specs.Basics.{Name, ◌>>=◌, gather, keep, given}
use Rattle.policy.specs.Statements.{Family, attribute_of, same_sort, Declaration, plain, class, Statement, declare, as_declaration, of_sort}
use Rattle.policy.specs.Statements.{names_of, count, Line, Policy, declared, declarations}
use Rattle.policy.specs.Faults.{declares_a, place_of, places}
use Rattle.policy.proofs.Lists.{gather_append}
use Rattle.policy.proofs.IfAny.{IfAny}
use Rattle.policy.proofs.ByKind.{declaration-says}
use Rattle.meaning_laws.specs.Mentions.{DeclaredAt}
use Rattle.policy.proofs.Sameness.{sort-same, sort-turned, family-self}
use Rattle.policy.proofs.Options.{given-some}
use Rattle.meaning_laws.proofs.GatherLaws.{cut-gathered}

-- the place and the name of an attribute are kept together
kept-together : {A B : Type 0} (t : Bool) (a : A) (b : B) (xs : List A) (ys : List B) → length xs ≡ length ys
    → length (keep (given t a) xs) ≡ length (keep (given t b) ys)
kept-together true a b xs ys h = ap suc h
kept-together false a b xs ys h = h

-- AS MANY PLACES as declared attributes
pub as_many : (p : Policy) (f : Family) → length (places p f) ≡ count (attribute_of f) (declarations p)
unfolding places count names_of declarations gather
as_many [] f = refl
as_many (l ∷ p) f = by-line (declared l) (as_many p f)
  where
    by-line : (o : Option Declaration) → length (gather (place_of f) p) ≡ length (gather (of_sort (attribute_of f)) (gather declared p))
        → length (keep (o >>= declares_a f l.place) (gather (place_of f) p)) ≡ length (gather (of_sort (attribute_of f)) (keep o (gather declared p)))
    by-line none h = h
    by-line (some (plain t w)) h = rw (sort-turned t (attribute_of f))
        (kept-together (same_sort (attribute_of f) t) l.place w (gather (place_of f) p) (gather (of_sort (attribute_of f)) (gather declared p)) h)
    by-line (some (class w ps)) h = h

-- a line that has a place among them declares an attribute of the family
line_at : (f : Family) (at place : ℕ) (s : Statement) → place_of f (record { place = place; says = s }) ≡ some at
    → (w : Name) × Path Line (record { place = place; says = s }) (record { place = at; says = declare (plain (attribute_of f) w) })
line_at f at place s h = by (as_declaration s) (declaration-says s) h
  where
    by : (o : Option Declaration) → IfAny (λ d. s ≡ declare d) o → (o >>= declares_a f place) ≡ some at
        → (w : Name) × Path Line (record { place = place; says = s }) (record { place = at; says = declare (plain (attribute_of f) w) })
    by none k e = absurd (none-ne-some at e)
    by (some (plain t w)) k e =
        let told = given-some (same_sort t (attribute_of f)) place at e in
        (w, rw (k.has (plain t w) refl, sort-same t (attribute_of f) told.0, told.1))
    by (some (class w ps)) k e = absurd (none-ne-some at e)

-- WHAT STANDS AT A PLACE of the list is declared there, with that number; and the other way round
pub place-declared : (p : Policy) (f : Family) (xs : List ℕ) (at : ℕ) (ys : List ℕ) → places p f ≡ xs ++ (at ∷ ys) → DeclaredAt p f (length xs) at
unfolding places
place-declared p f xs at ys h =
    let cut = cut-gathered (place_of f) p xs at ys h in
    let line = line_at f at cut.here.place cut.here.says cut.value in
    record {
      before = cut.before;
      name = line.0;
      after = cut.after;
      text = cut.whole ∙ ap (λ (l : Line). cut.before ++ (l ∷ cut.after)) line.1;
      number = sym (as_many cut.before f) ∙ ap {B = ℕ} length cut.earlier;
    }

pub declared-place : (p : Policy) (f : Family) (a at : ℕ) → DeclaredAt p f a at → (xs ys : List ℕ) × (places p f ≡ xs ++ (at ∷ ys)) × (length xs ≡ a)
unfolding places gather
declared-place p f a at d = (places d.before f, places d.after f, split, as_many d.before f ∙ d.number)
  where
    split : gather (place_of f) p ≡ gather (place_of f) d.before ++ (at ∷ gather (place_of f) d.after)
    split =
        ap (gather (place_of f)) d.text
        ∙ gather_append (place_of f) d.before (record { place = at; says = declare (plain (attribute_of f) d.name) } ∷ d.after)
        ∙ rw (family-self f)
