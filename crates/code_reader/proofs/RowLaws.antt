-- Rows of sets that grow item by item: each set statement of a family adds to the row of its attribute. Assumes nothing.
use Prim.Native.Nat.{ℕ, ◌*◌, ◌/◌, ◌%◌, ◌<◌}
use native.Mathlib.Omega.{arith}
use mathlib.Core.Path.{◌≡◌, refl, sym, ap, ◌∙◌}
use mathlib.Core.Bool.{Bool, false, ◌&&◌, ◌||◌, or-false}
use mathlib.Core.List.{List, [], ◌∷◌, ◌++◌}
use lib.Dec.{eqb}
use lib.ListN.{length}
use borrow.Author.Tests.{eq-eqb, ne_eqb}
use Rattle.bitset.specs.Sets.{set_of, union_of, emptied}
use Rattle.byte_slices.specs.Parts.{part, put}
use Rattle.bitset.specs.Relations.{relation}
use Rattle.bitset.proofs.SetLaws.{union-set_of}
use Rattle.bitset.proofs.SetParts.{put-set_of}
use Rattle.set_rows.proofs.GrantLaws.{row_of, place_of}
use Rattle.set_rows.proofs.RelationLaws.{relation-ext, relation-set_of, relation-empty, row-relation, member-relation}
use Rattle.policy.specs.Basics.{any}
use Rattle.policy.specs.Statements.{Family, Reference, SetExpr, thing, attribute, Policy, declarations}
use Rattle.policy.proofs.Lists.{any_append, any-over}
use Rattle.policy.specs.Meaning.{final, stands}
use Rattle.policy.specs.Accepted.{ReferenceIn, Accepted}
use Rattle.statement_code.specs.Code.{set_tag, reference_unit}
use Rattle.set_code.specs.Evaluation.{sets_in, value_of}
use Rattle.set_code.proofs.Leaves.{value-of-reference}
use Rattle.code_reader.proofs.Items.{Item, fills, tag_of, gain, gain-here, tag-no-gain}
use Rattle.code_reader.specs.AttributeSets.{final_sets}
use Rattle.code_reader.proofs.Numbers.{few-attributes, numbered-R}

-- a number of a row is read back
pub sets-in : (R : ℕ → ℕ → Bool) (a n : ℕ) → a < 64 → n < 512 → sets_in (relation 64 64 R) a n ≡ R a n
unfolding sets_in
sets-in R a n h l = member-relation 64 64 R a n h l

-- a set is added to row c
pub row-gains : (R : ℕ → ℕ → Bool) (g : ℕ → Bool) (c : ℕ) → c < 64
    → put (relation 64 64 R) (64 * c) (union_of (part (relation 64 64 R) (64 * c) 64) (set_of 64 g)) ≡ relation 64 64 (λ a m. R a m || (eqb a c && g m))
row-gains R g c l =
    ap (λ (s : List ℕ). put (relation 64 64 R) (64 * c) (union_of s (set_of 64 g))) (row-relation 64 64 R c l)
    ∙ ap (λ (s : List ℕ). put (relation 64 64 R) (64 * c) s) (union-set_of 64 (R c) g)
    ∙ ap (λ (t : List ℕ). put t (64 * c) (set_of 64 (λ m. R c m || g m))) (relation-set_of 64 64 R)
    ∙ put-set_of 4096 (64 * c) 64 (λ m. R (m / 512) (m % 512)) (λ m. R c m || g m) new (omega (arith, l))
    (λ m k. outside m (omega (arith, k)))
    (λ m k. rw (row_of 64 c m k, place_of 64 c m k, eq-eqb c c refl))
    (λ m k. outside m (omega (arith, k)))
    ∙ sym (relation-set_of 64 64 (λ a m. R a m || (eqb a c && g m)))
  where
    new : ℕ → Bool
    new m = R (m / 512) (m % 512) || (eqb (m / 512) c && g (m % 512))

    outside : (m : ℕ) → (m / 512 ≡ c → ⊥) → new m ≡ R (m / 512) (m % 512)
    outside m h = rw (ne_eqb (m / 512) c h) (or-false (R (m / 512) (m % 512)))

module _ (f : Family) (v : SetExpr Reference → ℕ → Bool) where
  -- the rows that these items give
  abbrev pub rows_of : List Item → List ℕ
  rows_of is = relation 64 64 (λ a m. any (gain f v a m) is)

  pub rows_none : (s : List ℕ) → length s ≡ 4096 → emptied s ≡ rows_of []
  unfolding emptied any
  rows_none s h = ap (λ (w : ℕ). set_of w (λ n. false)) h ∙ sym (relation-empty 64 64)

  pub rows_more : (is : List Item) (at c : ℕ) (s : SetExpr Reference) (rows : List ℕ) → c < 64 → rows ≡ rows_of is
      → put rows (64 * c) (union_of (part rows (64 * c) 64) (set_of 64 (v s))) ≡ rows_of (is ++ (fills f at c s ∷ []))
  unfolding any
  rows_more is at c s rows l h =
      rw h (row-gains (λ a m. any (gain f v a m) is) (v s) c l)
      ∙ relation-ext 64 64 (λ a m. any (gain f v a m) is || (eqb a c && v s m)) (λ a m. any (gain f v a m) (is ++ (fills f at c s ∷ [])))
      (λ a m k j. sym (any_append (gain f v a m) is (fills f at c s ∷ [])
      ∙ ap (λ (t : Bool). any (gain f v a m) is || t) (or-false (gain f v a m (fills f at c s)) ∙ gain-here f v a m at c s)))

  pub rows-over : (is : List Item) (i : Item) (rows : List ℕ) → (tag_of i ≡ set_tag f → ⊥) → rows ≡ rows_of is → rows ≡ rows_of (is ++ (i ∷ []))
  rows-over is i rows h e =
      e ∙ relation-ext 64 64 (λ a m. any (gain f v a m) is) (λ a m. any (gain f v a m) (is ++ (i ∷ [])))
      (λ a m k j. sym (any-over (gain f v a m) is i (tag-no-gain f v a m i h)))

-- a reference of the code stands, by the final sets of its family, for what it stands for in the policy
module _ (p : Policy) (ok : Accepted p) (f : Family) (rows : List ℕ) (h : rows ≡ final_sets p f) where
  pub value-stands : (r : Reference) → ReferenceIn (declarations p) f r → (n : ℕ) → n < 512 → value_of rows (reference_unit r) n ≡ stands p f r n
  unfolding stands
  value-stands (thing m) d n l = value-of-reference rows (thing m) (numbered-R p ok f (thing m) d) n
  value-stands (attribute a) d n l =
      value-of-reference rows (attribute a) (numbered-R p ok f (attribute a) d) n
      ∙ ap (λ (t : List ℕ). sets_in t a n) h ∙ sets-in (final p f) a n (omega (arith, d, few-attributes p ok f)) l
