-- What the resolver needs of a policy is what its code holds: the sets given to an attribute, the places of the attributes' declarations, the
-- transitions and what the relations give are those of the statements that have code. By cases of a line. Assumes nothing.
use Prim.Native.Nat.{ℕ}
use mathlib.Core.Path.{◌≡◌, refl, ap, ◌∙◌}
use mathlib.Core.Bool.{Bool, ◌||◌}
use mathlib.Core.List.{List, [], ◌∷◌}
use mathlib.Core.Option.{Option, none, some}
use Rattle.policy.specs.Basics.{◌>>=◌, any, gather, keep}
use Rattle.policy.specs.Statements.{Family, thing_of, attribute_of, Declaration, plain, class, Relation, Statement, declare, attributeset, gives, roletransition}
use Rattle.policy.specs.Statements.{constrain, validatetrans, Line, Policy, set_for, sets_for, transition, transitions}
use Rattle.policy.specs.Meaning.{Denotation, line_gives, stands, related}
use Rattle.policy.specs.Faults.{declares_a, place_of, places}
use Rattle.reading_laws.proofs.ReadThen.{line}
use Rattle.code_laws.specs.Coded.{Coded, coded_declaration, coded, coded_in}
use Rattle.code_laws.specs.CodeHolds.{coded_set, coded_place, coded_transition, coded_gives}

-- gathered from what is gathered
keep-keep : {A B : Type 0} (g : A → Option B) (o : Option A) (xs : List A) → gather g (keep o xs) ≡ keep (o >>= g) (gather g xs)
unfolding gather
keep-keep g none xs = refl
keep-keep g (some x) xs = refl

gather-coded : {B : Type 0} (g : Coded → Option B) (h : Line → Option B) → ((l : Line) → (coded l >>= g) ≡ h l) → (p : Policy) → gather g (coded_in p) ≡ gather h p
unfolding coded_in gather
gather-coded g h e [] = refl
gather-coded g h e (l ∷ p) = keep-keep g (coded l) (coded_in p) ∙ rw (e l, gather-coded g h e p)

-- the S given to an attribute
declaration-set : (f : Family) (a at : ℕ) (d : Declaration) → (coded_declaration at d >>= coded_set f a) ≡ none
declaration-set f a at (plain (thing_of g) w) = refl
declaration-set f a at (plain (attribute_of g) w) = refl
declaration-set f a at (class w ps) = refl

line_set : (f : Family) (a at : ℕ) (s : Statement) → (coded (line at s) >>= coded_set f a) ≡ set_for f a (line at s)
line_set f a at (declare d) = declaration-set f a at d
line_set f a at (attributeset g b s) = refl
line_set f a at (gives k x y) = refl
line_set f a at (roletransition r t c n) = refl
line_set f a at (constrain c ps e) = refl
line_set f a at (validatetrans c e) = refl

pub coded-sets : (p : Policy) (f : Family) (a : ℕ) → gather (coded_set f a) (coded_in p) ≡ sets_for f a p
unfolding sets_for
coded-sets p f a = gather-coded (coded_set f a) (set_for f a) (λ l. line_set f a l.place l.says) p

-- the places of the attributes' declarations
declaration-place : (f : Family) (at : ℕ) (d : Declaration) → (coded_declaration at d >>= coded_place f) ≡ declares_a f at d
declaration-place f at (plain (thing_of g) w) = refl
declaration-place f at (plain (attribute_of g) w) = refl
declaration-place f at (class w ps) = refl

line-place : (f : Family) (at : ℕ) (s : Statement) → (coded (line at s) >>= coded_place f) ≡ place_of f (line at s)
line-place f at (declare d) = declaration-place f at d
line-place f at (attributeset g b s) = refl
line-place f at (gives k x y) = refl
line-place f at (roletransition r t c n) = refl
line-place f at (constrain c ps e) = refl
line-place f at (validatetrans c e) = refl

pub coded-places : (p : Policy) (f : Family) → gather (coded_place f) (coded_in p) ≡ places p f
unfolding places
coded-places p f = gather-coded (coded_place f) (place_of f) (λ l. line-place f l.place l.says) p

-- the transitions
declaration-transition : (at : ℕ) (d : Declaration) → (coded_declaration at d >>= coded_transition) ≡ none
declaration-transition at (plain (thing_of g) w) = refl
declaration-transition at (plain (attribute_of g) w) = refl
declaration-transition at (class w ps) = refl

line-transition : (at : ℕ) (s : Statement) → (coded (line at s) >>= coded_transition) ≡ transition (line at s)
line-transition at (declare d) = declaration-transition at d
line-transition at (attributeset g b s) = refl
line-transition at (gives k x y) = refl
line-transition at (roletransition r t c n) = refl
line-transition at (constrain c ps e) = refl
line-transition at (validatetrans c e) = refl

pub coded-transitions : (p : Policy) → gather coded_transition (coded_in p) ≡ transitions p
unfolding transitions
coded-transitions p = gather-coded coded_transition transition (λ l. line-transition l.place l.says) p

-- what the relations give
module _ (for : Denotation) (k : Relation) (x y : ℕ) where
  declaration-gives : (at : ℕ) (d : Declaration) (cs : List Coded) → any (coded_gives for k x y) (keep (coded_declaration at d) cs) ≡ any (coded_gives for k x y) cs
  unfolding any
  declaration-gives at (plain (thing_of g) w) cs = refl
  declaration-gives at (plain (attribute_of g) w) cs = refl
  declaration-gives at (class w ps) cs = refl

  line_gives_lem : (at : ℕ) (s : Statement) (cs : List Coded)
      → any (coded_gives for k x y) (keep (coded (line at s)) cs) ≡ (line_gives for k x y (line at s) || any (coded_gives for k x y) cs)
  unfolding any
  line_gives_lem at (declare d) cs = declaration-gives at d cs
  line_gives_lem at (attributeset g b s) cs = refl
  line_gives_lem at (gives j a b) cs = refl
  line_gives_lem at (roletransition r t c n) cs = refl
  line_gives_lem at (constrain c ps e) cs = refl
  line_gives_lem at (validatetrans c e) cs = refl

  any-coded : (p : Policy) → any (coded_gives for k x y) (coded_in p) ≡ any (line_gives for k x y) p
  unfolding coded_in gather any
  any-coded [] = refl
  any-coded (l ∷ p) = line_gives_lem l.place l.says (coded_in p) ∙ ap (λ (b : Bool). line_gives for k x y l || b) (any-coded p)

pub coded-related : (p : Policy) (k : Relation) (x y : ℕ) → any (coded_gives (stands p) k x y) (coded_in p) ≡ related p k x y
unfolding related
coded-related p k x y = any-coded (stands p) k x y p
