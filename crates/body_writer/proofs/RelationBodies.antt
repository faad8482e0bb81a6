-- A relation's body grows line by line: over the statements read so far it has what their lines give, by the sets of the whole policy. Assumes nothing.
use mathlib.Core.Path.{◌≡◌, refl, sym, ap, ap₂, ◌∙◌, subst}
use mathlib.Core.Logic.{◌⊎◌, inl, inr}
use mathlib.Core.Bool.{Bool, true, false, ◌&&◌, ◌||◌, or-false}
use mathlib.Core.List.{List, [], ◌∷◌, ◌++◌}
use Prim.Native.Nat.{ℕ, ◌+◌, ◌*◌, ◌≤◌, ◌<◌}
use native.Mathlib.Omega.{arith}
use lib.ListN.{length, get_or}
use Rattle.bitset.specs.Sets.{set_of, emptied}
use Rattle.byte_slices.specs.Parts.{part, put}
use Rattle.bitset.specs.Relations.{joined, relation, granted}
use Rattle.byte_slices.proofs.PartLaws.{length_part, part-put-same}
use Rattle.set_rows.proofs.RelationLaws.{relation-ext, length-relation, emptied-relation, granted-sets}
use Rattle.policy.specs.Basics.{any, gather, keep}
use Rattle.policy.specs.Statements.{thing_of, attribute_of, plain, class, Reference, Relation, userrole, roletype, roleallow, from_of, to_of, Statement, declare}
use Rattle.policy.specs.Statements.{attributeset, gives, roletransition, constrain, validatetrans, Policy, declarations}
use Rattle.policy.specs.Meaning.{Denotation, same_relation, line_gives, stands, related}
use Rattle.policy.specs.Image as image
use Rattle.policy.specs.Image.{sets_of}
use Rattle.policy.specs.Accepted.{Accepted}
use Rattle.policy.proofs.Lists.{any_append, any-over}
use Rattle.policy.proofs.Sameness.{relation-same}
use Rattle.statement_code.specs.Code.{reference_unit, relation_number, relation_tag, code_of}
use Rattle.statement_code.proofs.Numbers.{family-few, relation-few}
use Rattle.set_code.specs.Evaluation.{value_of}
use Rattle.meaning_laws.proofs.ListLaws.{decided}
use Rattle.code_reader.specs.AttributeSets.{final_sets}
use Rattle.code_reader.specs.Reading.{step_of}
use Rattle.code_reader.proofs.Items.{Item, declares, fills, relates, moves, tag_of, units_of, items_code, item_in, items, ItemIn}
use Rattle.code_reader.proofs.Numbers.{items-declared}
use Rattle.code_reader.proofs.Passes.{Through, Met, meet, onward, onward-past, finish}
use Rattle.code_reader.proofs.RowLaws.{value-stands}
use Rattle.body_writer.proofs.PutLaws.{put-over}
use Rattle.body_writer.proofs.SetRows.{narrow}
use Rattle.body_writer.proofs.ReferenceSets.{operand_at}

-- ---- what the items give

-- an item gives y to x
abbrev pub item_gives : Denotation → Relation → ℕ → ℕ → Item → Bool
item_gives for k x y (declares f at) = false
item_gives for k x y (fills f at a s) = false
item_gives for k x y (relates j at a b) = same_relation k j && (for (from_of k) a x && for (to_of k) b y)
item_gives for k x y (moves t) = false

-- THE LINES give what their items give
gives-items : (for : Denotation) (k : Relation) (x y : ℕ) (p : Policy) → any (line_gives for k x y) p ≡ any (item_gives for k x y) (items p)
unfolding any items gather
gives-items for k x y [] = refl
gives-items for k x y (l ∷ p) = by-line l.says (gives-items for k x y p)
  where
    by-line : (s : Statement) → any (line_gives for k x y) p ≡ any (item_gives for k x y) (items p)
        → (line_gives for k x y (record { place = l.place; says = s }) || any (line_gives for k x y) p) ≡ any (item_gives for k x y) (keep (item_in l.place s) (items p))
    by-line (declare (plain (thing_of f) w)) h = h
    by-line (declare (plain (attribute_of f) w)) h = h
    by-line (declare (class w ps)) h = h
    by-line (attributeset f a s) h = h
    by-line (gives j a b) h = ap (λ (t : Bool). (same_relation k j && (for (from_of k) a x && for (to_of k) b y)) || t) h
    by-line (roletransition r t c n) h = h
    by-line (constrain c ps e) h = h
    by-line (validatetrans c e) h = h

-- ---- the tag tells the item

relation-number : (k j : Relation) → relation_number k ≡ relation_number j → k ≡ j
relation-number userrole userrole h = refl
relation-number userrole roletype h = absurd (omega (arith, h))
relation-number userrole roleallow h = absurd (omega (arith, h))
relation-number roletype userrole h = absurd (omega (arith, h))
relation-number roletype roletype h = refl
relation-number roletype roleallow h = absurd (omega (arith, h))
relation-number roleallow userrole h = absurd (omega (arith, h))
relation-number roleallow roletype h = absurd (omega (arith, h))
relation-number roleallow roleallow h = refl

relation-self : (k : Relation) → same_relation k k ≡ true
relation-self userrole = refl
relation-self roletype = refl
relation-self roleallow = refl

tag-relates : (k : Relation) (i : Item) → tag_of i ≡ relation_tag k → (at : ℕ) × (x y : Reference) × (i ≡ relates k at x y)
tag-relates k (declares f at) h = absurd (omega (arith, h, relation-few k, family-few f))
tag-relates k (fills f at a s) h = absurd (omega (arith, h, relation-few k, family-few f))
tag-relates k (relates j at x y) h = (at, x, y, ap (λ z. relates z at x y) (relation-number j k (omega (arith, h))))
tag-relates k (moves t) h = absurd (omega (arith, h, relation-few k))

other-relation : (k j : Relation) → (k ≡ j → ⊥) → same_relation k j ≡ false
other-relation k j h = by (decided (same_relation k j))
  where
    by : (same_relation k j ≡ true) ⊎ (same_relation k j ≡ false) → same_relation k j ≡ false
    by (inl e) = absurd (h (relation-same k j e))
    by (inr e) = e

tag-no-relation : (for : Denotation) (k : Relation) (x y : ℕ) (i : Item) → (tag_of i ≡ relation_tag k → ⊥) → item_gives for k x y i ≡ false
tag-no-relation for k x y (declares f at) h = refl
tag-no-relation for k x y (fills f at a s) h = refl
tag-no-relation for k x y (relates j at a b) h = rw (other-relation k j (λ e. h (ap relation_tag (sym e))))
tag-no-relation for k x y (moves t) h = refl

-- ---- the body

-- what is given to the function that writes a relation, where t is the table before
pub record Asked (code fs ts : List ℕ) (at many width size tag : ℕ) (p : Policy) (k : Relation) (t : List ℕ) : Type 0 where
  pub ok : Accepted p
  pub tagged : tag ≡ relation_tag k
  pub coded : code ≡ code_of p
  pub from-sets : fs ≡ final_sets p (from_of k)
  pub to-sets : ts ≡ final_sets p (to_of k)
  pub few : many ≤ 128
  pub wide : width ≡ image.width (to_of k)
  pub sized : size ≡ width * many
  pub room : at + size ≤ length t

module _ (p : Policy) (k : Relation) (many width : ℕ) where
  -- the body that these items give
  abbrev pub body_of : List Item → List ℕ
  body_of is = relation many width (λ u m. any (item_gives (stands p) k u m) is)

  body-over : (is : List Item) (i : Item) → (tag_of i ≡ relation_tag k → ⊥) → body_of is ≡ body_of (is ++ (i ∷ []))
  body-over is i h = relation-ext many width _ _ (λ u m a b. sym (any-over (item_gives (stands p) k u m) is i (tag-no-relation (stands p) k u m i h)))

  body-all : width ≡ image.width (to_of k) → body_of (items p) ≡ joined (sets_of many (to_of k) (related p k))
  unfolding relation related
  body-all w = relation-ext many width _ (related p k) (λ u m a b. sym (gives-items (stands p) k u m p)) ∙ ap (λ (x : ℕ). relation many x (related p k)) w

module _ {code fs ts : List ℕ} {at many width size tag : ℕ} (p : Policy) (k : Relation) (t : List ℕ) (asked : Asked code fs ts at many width size tag p k t) where
  abbrev body : List Item → List ℕ
  body is = body_of p k many width is

  long : (is : List Item) → length (body is) ≡ size
  long is = length-relation many width _ ∙ sym asked.sized

  -- nothing yet
  pub body-none : (u : List ℕ) → u ≡ put t at (emptied (part t at size)) → u ≡ put t at (body [])
  unfolding any
  body-none u e = e ∙ ap (put t at) (emptied-relation many width (part t at size) (length_part t at size asked.room ∙ asked.sized))

  -- one line more
  body_more : (is : List Item) (place : ℕ) (x y : Reference) → ItemIn (declarations p) (relates k place x y)
      → granted width (body is) (set_of 64 (value_of fs (reference_unit x))) (set_of 64 (value_of ts (reference_unit y))) ≡ body (is ++ (relates k place x y ∷ []))
  unfolding any
  body_more is place x y d =
      let less : width ≤ 64 = omega (arith, asked.wide, narrow (to_of k)) in
      granted-sets many width 64 64 _ (value_of fs (reference_unit x)) (value_of ts (reference_unit y)) (omega (arith, asked.few)) less
      ∙ relation-ext many width _ _ (λ u m a b.
      ap (λ (z : Bool). any (item_gives (stands p) k u m) is || z)
      (ap₂ ◌&&◌ (value-stands p asked.ok (from_of k) fs asked.from-sets x d.0 u (omega (arith, a, asked.few)))
      (value-stands p asked.ok (to_of k) ts asked.to-sets y d.1 m (omega (arith, b, less)))
      ∙ sym (or-false _ ∙ ap (λ (z : Bool). z && (stands p (from_of k) x u && stands p (to_of k) y m)) (relation-self k)))
      ∙ sym (any_append (item_gives (stands p) k u m) is (relates k place x y ∷ [])))

  -- in the table
  granted-over : (is js : List Item) (us rs u v : List ℕ) → granted width (body is) us rs ≡ body js → u ≡ put t at (body is)
      → v ≡ put u at (granted width (part u at size) us rs) → v ≡ put t at (body js)
  granted-over is js us rs u v g e h =
      let fits : at + length (body is) ≤ length t = omega (arith, long is, asked.room) in
      let same : part u at size ≡ body is = ap₂ (λ (x : List ℕ) (n : ℕ). part x at n) e (sym (long is)) ∙ part-put-same t at (body is) fits in
      h ∙ ap₂ (λ (x y : List ℕ). put x at y) e (ap (λ (x : List ℕ). granted width x us rs) same ∙ g)
      ∙ put-over t at (body is) (body js) fits (long js ∙ sym (long is))

  -- ---- the pass

  abbrev pub Body : List ℕ → List Item → List Item → Type 0
  Body u done left = u ≡ put t at (body_of p k many width done)

  module _ (place next : ℕ) (inside : place < length code) (u : List ℕ) (through : Through (items p) code place (Body u)) where
    the-met : Met p (items p) code place (Body u)
    the-met = meet p asked.ok (items p) (items-declared p asked.ok) code place (Body u) inside through

    -- a line of the relation adds what it gives, and the next statement is after its two operands
    pub line-more : next ≡ place + 4 → get_or code place 0 ≡ tag → (x y : ℕ) → x ≡ get_or code (place + 2) 0 → y ≡ get_or code (place + 3) 0 → (v : List ℕ)
        → v ≡ put u at (granted width (part u at size) (set_of 64 (value_of fs x)) (set_of 64 (value_of ts y))) → Through (items p) code next (Body v)
    line-more e h x y hx hy v told = go (tag-relates k the-met.item (sym the-met.stand.tag ∙ h ∙ asked.tagged))
      where
        go : (s : ℕ) × (a b : Reference) × (the-met.item ≡ relates k s a b) → Through (items p) code next (Body v)
        go (s, a, b, q) =
            let m = the-met in
            let units = m.stand.units ∙ ap (λ i. units_of i ++ items_code m.rest) q in
            let first : x ≡ reference_unit a = hx ∙ operand_at code place _ 0 (place + 2) units (omega arith) in
            let second : y ≡ reference_unit b = hy ∙ operand_at code place _ 1 (place + 3) units (omega arith) in
            onward-past p (items p) code place (Body u) (Body v) next (omega (arith, e, ap length (m.stand.operands ∙ ap units_of q))) m
            (granted-over m.done (m.done ++ (m.item ∷ [])) _ _ u v
            (body_more m.done s a b (subst (ItemIn (declarations p)) q m.declared) ∙ ap (λ i. body (m.done ++ (i ∷ []))) (sym q))
            m.so_far
            (told ∙ ap₂ (λ (i j : ℕ). put u at (granted width (part u at size) (set_of 64 (value_of fs i)) (set_of 64 (value_of ts j)))) first second))

    -- any other statement adds nothing
    pub line-over : next ≡ step_of code place → (get_or code place 0 ≡ tag → ⊥) → Through (items p) code next (Body u)
    line-over e h =
        let m = the-met in
        onward p (items p) code place (Body u) (Body u) next e m
        (m.so_far ∙ ap (put t at) (body-over p k many width m.done m.item (λ q. h (m.stand.tag ∙ q ∙ sym asked.tagged))))

-- what the loop knows at the end of the code is the whole body
pub lines-all : {code fs ts : List ℕ} {at many width size tag : ℕ} (p : Policy) (k : Relation) (t cleared u : List ℕ) (place : ℕ) → length code ≤ place
    → cleared ≡ put t at (emptied (part t at size))
    → ((q : Policy) (j : Relation) (s : List ℕ) → Asked code fs ts at many width size tag q j s → cleared ≡ put s at (body_of q j many width [])
    → Through (items q) code place (λ done left. u ≡ put s at (body_of q j many width done)))
    → Asked code fs ts at many width size tag p k t → u ≡ put t at (joined (sets_of many (to_of k) (related p k)))
lines-all {many = many} {width = width} p k t cleared u place l e told asked =
    finish (items p) _ place _ l (told p k t asked (body-none p k t asked cleared e)) ∙ ap (put t _) (body-all p k many width asked.wide)
