-- The block around and the own name say the full name: a full name was opened exactly where these were. Assumes nothing.
use mathlib.Core.Path.{◌≡◌, refl, sym, ap, ap₂, subst, ◌∙◌}
use mathlib.Core.Bool.{Bool, true, cond, or-true, false≢true, ◌||◌}
use mathlib.Core.List.{List, [], ◌∷◌}
use mathlib.Core.Logic.{◌⊎◌, inl, inr}
use Prim.Native.Nat.{ℕ, zero, suc, ◌-◌, ◌%◌, ◌<◌, ◌≤◌}
use native.Mathlib.Omega.{arith}
use lib.Dec.{eqb, ltb}
use lib.ListN.{length, get_or}
use borrow.Author.Tests.{ltb-true, eq-eqb, eqb-true, eqb-false, ne_eqb, ltb-false}
use Rattle.bitset.proofs.AllLaws.{either}
use Rattle.policy.specs.Basics.{Name, same, any, every, is_in}
use Rattle.policy.specs.Words.{dotless}
use Rattle.policy.specs.Names.{full}
use Rattle.policy.proofs.Lists.{both_true, true-both, either_true, same-is}
use Rattle.scopes.specs.Path.{is_one_part}
use Rattle.scopes.proofs.Unique.{full-unique}
use Rattle.blocks.specs.Opened.{Block, opened_in, block_in, is_block, is_opened}
use Rattle.blocks.specs.Names.{path_of, full_names, Opening, another}

same_self : (w : Name) → same w w ≡ true
unfolding same
same_self [] = refl
same_self (b ∷ w) = rw (eq-eqb b b refl) (same_self w)

-- ---- paths

pub length-opened : (text keys : List ℕ) (n : ℕ) → length (opened_in text keys n) ≡ n
unfolding opened_in
length-opened text keys zero = refl
length-opened text keys (suc n) = ap suc (length-opened text keys n)

-- the whole text has no blocks around it
pub path-whole : (bs : List Block) → path_of bs 0 ≡ []
unfolding path_of
path-whole [] = refl
path-whole (b ∷ bs) = rw (ne_eqb 0 (suc (length bs)) (λ e. omega arith)) (path-whole bs)

-- the path of the last, and of those before it
pub path-last : (b : Block) (bs : List Block) (k : ℕ) → k ≡ suc (length bs) → path_of (b ∷ bs) k ≡ b.name ∷ path_of bs b.parent
unfolding path_of
path-last b bs k e = rw (eq-eqb k (suc (length bs)) e)

pub path-before : (b : Block) (bs : List Block) (k : ℕ) → k ≤ length bs → path_of (b ∷ bs) k ≡ path_of bs k
unfolding path_of
path-before b bs k h = rw (ne_eqb k (suc (length bs)) (λ e. omega arith))

-- paths are of parts
pub path-parts : (bs : List Block) → Opening bs → (k : ℕ) → every is_one_part (path_of bs k) ≡ true
unfolding path_of every
path-parts [] h k = refl
path-parts (b ∷ bs) (another p q n o) k = either (eqb k (suc (length bs)))
    (λ e. rw e (true-both (is_one_part b.name) (every is_one_part (path_of bs b.parent)) q (path-parts bs o b.parent)))
    (λ e. rw e (path-parts bs o k))

-- the block of a number that is not 0 has the path of the block around it after its name
pub record Inside (bs : List Block) (k parent : ℕ) : Type 0 where
  pub name : Name
  pub is : path_of bs k ≡ name ∷ path_of bs parent
  pub below : parent < k

pub path_inside : (text keys : List ℕ) (n : ℕ) → Opening (opened_in text keys n) → (k : ℕ) → 0 < k → k ≤ n
    → Inside (opened_in text keys n) k (get_or keys (k - 1) 0 % 65536)
unfolding opened_in
path_inside text keys zero o k some h = absurd (omega arith)
path_inside text keys (suc n) (another p q f o) k some h =
    let bs = opened_in text keys n in
    let b = block_in text (get_or keys n 0) in
    let long = length-opened text keys n in
    either (eqb k (suc n))
    (λ e.
    let last : k ≡ suc n = eqb-true k (suc n) e in
    let place : k - 1 ≡ n = omega arith in
    let here : get_or keys (k - 1) 0 % 65536 ≡ b.parent = ap (λ (i : ℕ). get_or keys i 0 % 65536) place in
    record {
      name = b.name;
      is = path-last b bs k (omega (arith, long)) ∙ ap (λ (x : List Name). b.name ∷ x) (sym (ap (path_of (b ∷ bs)) here ∙ path-before b bs b.parent p));
      below = omega (arith, here, long);
    })
    (λ e.
    let before : k ≤ n = omega (arith, eqb-false k (suc n) e) in
    let r = path_inside text keys n o k some before in
    let parent = get_or keys (k - 1) 0 % 65536 in
    record {
      name = r.name;
      is = path-before b bs k (omega (arith, long)) ∙ r.is
          ∙ ap (λ (x : List Name). r.name ∷ x) (sym (path-before b bs parent (omega (arith, r.below, long))));
      below = r.below;
    })

-- ---- the number of a path

-- a block that was opened: the number of the one around it, whose path this is
record Around (bs : List Block) (w : Name) (path : List Name) : Type 0 where
  number : ℕ
  below : number ≤ length bs
  is : path_of bs number ≡ path
  opened : is_opened number w bs ≡ true

opened-last : (b : Block) (bs : List Block) (w : Name) → w ≡ b.name → is_opened b.parent w (b ∷ bs) ≡ true
unfolding is_opened any
opened-last b bs w e = rw (eq-eqb b.parent b.parent refl, e, same_self b.name)

opened-before : (b : Block) (bs : List Block) (p : ℕ) (w : Name) → is_opened p w bs ≡ true → is_opened p w (b ∷ bs) ≡ true
unfolding is_opened any
opened-before b bs p w h = rw h (or-true (is_block p w b))

around-last : (b : Block) (bs : List Block) (w : Name) (path : List Name) → b.parent ≤ length bs → w ≡ b.name → path ≡ path_of bs b.parent
    → Around (b ∷ bs) w path
around-last b bs w path h e q = record {
  number = b.parent;
  below = omega arith;
  is = path-before b bs b.parent h ∙ sym q;
  opened = opened-last b bs w e;
}

around-before : (b : Block) (bs : List Block) (w : Name) (path : List Name) → Around bs w path → Around (b ∷ bs) w path
around-before b bs w path a = record {
  number = a.number;
  below = omega (arith, a.below);
  is = path-before b bs a.number a.below ∙ a.is;
  opened = opened-before b bs a.number w a.opened;
}

abbrev first_of : List Name → Name
first_of [] = []
first_of (w ∷ ws) = w

abbrev pub rest_of : List Name → List Name
rest_of [] = []
rest_of (w ∷ ws) = ws

-- a path with a block in it is that of a block that was opened
path-around : (bs : List Block) → Opening bs → (m : ℕ) (w : Name) (path : List Name) → path_of bs m ≡ w ∷ path → Around bs w path
unfolding path_of
path-around [] h m w path e = absurd (let z : ◌≡◌ {A = ℕ} 0 1 = cc in omega arith)
path-around (b ∷ bs) (another p q n o) m w path e = either (eqb m (suc (length bs)))
    (λ t.
    let is : b.name ∷ path_of bs b.parent ≡ w ∷ path = sym (ap (λ (c : Bool). cond c (b.name ∷ path_of bs b.parent) (path_of bs m)) t) ∙ e in
    around-last b bs w path p (sym (ap first_of is)) (sym (ap rest_of is)))
    (λ t. around-before b bs w path (path-around bs o m w path (sym (ap (λ (c : Bool). cond c (b.name ∷ path_of bs b.parent) (path_of bs m)) t) ∙ e)))

-- no two blocks have one path
pub path-unique : (bs : List Block) → Opening bs → (k m : ℕ) → k ≤ length bs → m ≤ length bs → path_of bs k ≡ path_of bs m → k ≡ m
path-unique [] h k m hk hm e = omega arith
path-unique (b ∷ bs) (another p q n o) k m hk hm e = either (ltb (length bs) k)
    (λ tk. either (ltb (length bs) m)
    (λ tm. omega (arith, ltb-true (length bs) k tk, ltb-true (length bs) m tm))
    (λ tm. absurd (new (path-unique bs o) k m (omega (arith, ltb-true (length bs) k tk)) (ltb-false (length bs) m tm) e)))
    (λ tk. either (ltb (length bs) m)
    (λ tm. absurd (new (path-unique bs o) m k (omega (arith, ltb-true (length bs) m tm)) (ltb-false (length bs) k tk) (sym e)))
    (λ tm. path-unique bs o k m (ltb-false (length bs) k tk) (ltb-false (length bs) m tm)
    (sym (path-before b bs k (ltb-false (length bs) k tk)) ∙ e ∙ path-before b bs m (ltb-false (length bs) m tm))))
  where
    new : ((k m : ℕ) → k ≤ length bs → m ≤ length bs → path_of bs k ≡ path_of bs m → k ≡ m)
        → (i j : ℕ) → i ≡ suc (length bs) → j ≤ length bs → path_of (b ∷ bs) i ≡ path_of (b ∷ bs) j → ⊥
    new unique i j hi hj g =
        let a = path-around bs o j b.name (path_of bs b.parent) (sym (path-before b bs j hj) ∙ sym g ∙ path-last b bs i hi) in
        let z = unique a.number b.parent a.below p a.is in
        false≢true (sym n ∙ subst (λ (x : ℕ). is_opened x b.name bs ≡ true) z a.opened)

-- ---- a full name was opened where its block around and its name were, and only there

name-around : (bs : List Block) → Opening bs → (w : Name) (path : List Name) → every is_one_part path ≡ true → dotless w ≡ true
    → is_in (full path w) (full_names bs) ≡ true → Around bs w path
unfolding is_in any full_names
name-around [] h w path ps d e = absurd (false≢true e)
name-around (b ∷ bs) (another p q n o) w path ps d e =
    by (λ t. name-around bs o w path ps d t)
    (either_true (same (full path w) (full (path_of bs b.parent) b.name)) (any (same (full path w)) (full_names bs)) e)
  where
    by : (any (same (full path w)) (full_names bs) ≡ true → Around bs w path)
        → (same (full path w) (full (path_of bs b.parent) b.name) ≡ true) ⊎ (any (same (full path w)) (full_names bs) ≡ true) → Around (b ∷ bs) w path
    by f (inl t) =
        let u = full-unique path (path_of bs b.parent) w b.name ps (path-parts bs o b.parent) d (both_true (ltb 0 (length b.name)) (dotless b.name) q).1
        (same-is (full path w) (full (path_of bs b.parent) b.name) t) in
        around-last b bs w path p u.0 u.1
    by f (inr t) = around-before b bs w path (f t)

pub full-opened : (bs : List Block) → Opening bs → (p : ℕ) (w : Name) → p ≤ length bs → dotless w ≡ true
    → is_in (full (path_of bs p) w) (full_names bs) ≡ true → is_opened p w bs ≡ true
full-opened bs o p w h d e =
    let a = name-around bs o w (path_of bs p) (path-parts bs o p) d e in
    subst (λ (x : ℕ). is_opened x w bs ≡ true) (path-unique bs o a.number p a.below h a.is) a.opened

pub opened-full : (bs : List Block) → Opening bs → (p : ℕ) (w : Name) → is_opened p w bs ≡ true
    → (p < length bs) × (is_in (full (path_of bs p) w) (full_names bs) ≡ true)
unfolding is_opened is_in any full_names
opened-full [] h p w e = absurd (false≢true e)
opened-full (b ∷ bs) (another q r n o) p w e = by (λ t. opened-full bs o p w t) (either_true (is_block p w b) (any (is_block p w) bs) e)
  where
    by : (any (is_block p w) bs ≡ true → (p < length bs) × (is_in (full (path_of bs p) w) (full_names bs) ≡ true))
        → (is_block p w b ≡ true) ⊎ (any (is_block p w) bs ≡ true) → (p < length (b ∷ bs)) × (is_in (full (path_of (b ∷ bs) p) w) (full_names (b ∷ bs)) ≡ true)
    by f (inl t) =
        let z = both_true (eqb b.parent p) (same w b.name) t in
        let is : b.parent ≡ p = eqb-true b.parent p z.0 in
        let name : w ≡ b.name = same-is w b.name z.1 in
        let eq : full (path_of (b ∷ bs) p) w ≡ full (path_of bs b.parent) b.name =
        ap₂ full (path-before b bs p (omega arith) ∙ ap (path_of bs) (sym is)) name in
        (omega arith, rw (eq, same_self (full (path_of bs b.parent) b.name)))
    by f (inr t) =
        let z = f t in
        let eq = ap (λ (x : List Name). full x w) (path-before b bs p (omega (arith, z.0))) in
        let first = same (full (path_of bs p) w) (full (path_of bs b.parent) b.name) in
        (omega (arith, z.0), subst (λ (x : Name). is_in x (full_names (b ∷ bs)) ≡ true) (sym eq) (ap (λ (v : Bool). first || v) z.1 ∙ or-true first))

-- so `add` says no exactly where the full name was opened before
pub opened-exactly : (bs : List Block) → Opening bs → (p : ℕ) (w : Name) → p ≤ length bs → dotless w ≡ true
    → is_opened p w bs ≡ is_in (full (path_of bs p) w) (full_names bs)
opened-exactly bs o p w h d = either (is_opened p w bs)
    (λ t. t ∙ sym (opened-full bs o p w t).1)
    (λ f. either (is_in (full (path_of bs p) w) (full_names bs))
    (λ i. absurd (false≢true (sym f ∙ full-opened bs o p w h d i)))
    (λ i. f ∙ sym i))
