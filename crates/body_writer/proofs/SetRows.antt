-- Sets written one after the other: the next row of a relation is the next set, in as many bytes as it is given. Assumes nothing.
use mathlib.Core.Path.{◌≡◌, sym, ap, ap₂, ◌∙◌, subst}
use mathlib.Core.Bool.{Bool}
use mathlib.Core.List.{List, ◌++◌}
use Prim.Native.Nat.{ℕ, ◌+◌, ◌*◌, ◌/◌, ◌%◌, ◌≤◌, ◌<◌}
use native.Mathlib.Nat.{mul_comm}
use native.Mathlib.Omega.{arith}
use lib.ListN.{length, take}
use Rattle.bitset.specs.Sets.{set_of, tabulate}
use Rattle.byte_slices.specs.Parts.{part, put}
use Rattle.bitset.specs.Relations.{joined, relation}
use Rattle.bitset.proofs.SetLaws.{set_of-ext, length-set_of}
use Rattle.bitset.proofs.SetParts.{part-set_of}
use Rattle.set_rows.proofs.GrantLaws.{row_of, place_of, row_next}
use Rattle.set_rows.proofs.RelationLaws.{set_of-add, relation-set_of, length-relation, row-relation}
use Rattle.policy.specs.Statements.{Family, users, roles, types, Policy}
use Rattle.policy.specs.Meaning.{final}
use Rattle.policy.specs.Image as image
use Rattle.policy.specs.Image.{sets_of}
use Rattle.code_reader.specs.AttributeSets.{final_sets}
use Rattle.body_writer.specs.WrittenBytes.{Appended}
use Rattle.body_writer.proofs.PutLaws.{appended_then, appended-none}

-- the first bytes of a set
pub take-set_of : (v w : ℕ) (f : ℕ → Bool) → w ≤ v → take w (set_of v f) ≡ set_of w f
unfolding part
take-set_of v w f h = part-set_of v 0 w f (omega arith) ∙ set_of-ext w (λ n. f (8 * 0 + n)) f (λ n l. ap f (same n))
  where
    same : (n : ℕ) → 8 * 0 + n ≡ n
    same n = omega arith

-- one row more
pub relation-more : (n w : ℕ) (f : ℕ → ℕ → Bool) → relation (n + 1) w f ≡ relation n w f ++ set_of w (f n)
relation-more n w f =
    let F : ℕ → Bool = λ m. f (m / (8 * w)) (m % (8 * w)) in
    relation-set_of (n + 1) w f ∙ ap (λ (v : ℕ). set_of v F) (row_next w n) ∙ set_of-add (w * n) w F
    ∙ ap₂ ◌++◌ (sym (relation-set_of n w f)) (set_of-ext w (λ m. F (8 * (w * n) + m)) (f n) (λ m l. ap₂ f (row_of w n m l) (place_of w n m l)))

-- no row is written
pub no-set : (w : ℕ) (f : ℕ → ℕ → Bool) (t : List ℕ) (at : ℕ) → Appended (relation 0 w f) t at t at
unfolding relation joined tabulate
no-set w f t at = appended-none t at

-- no set has more bytes than one of types
pub narrow : (f : Family) → image.width f ≤ 64
narrow users = omega arith
narrow roles = omega arith
narrow types = omega arith

-- the next of a family's sets is written after the others
pub next-set : (p : Policy) (f : Family) (sets set : List ℕ) (width n : ℕ) (t u v : List ℕ) (at i j : ℕ) → sets ≡ final_sets p f → width ≡ image.width f → n < 64
    → set ≡ part sets (64 * n) 64 → Appended (relation n width (final p f)) t at u i → (width ≤ length set → Appended (take width set) u i v j)
    → Appended (relation (n + 1) width (final p f)) t at v j
next-set p f sets set width n t u v at i j h w l e before told =
    let less : width ≤ 64 = omega (arith, w, narrow f) in
    let row : set ≡ set_of 64 (final p f n) = e ∙ ap (λ (s : List ℕ). part s (64 * n) 64) h ∙ row-relation 64 64 (final p f) n l in
    let first : take width set ≡ set_of width (final p f n) = ap (take width) row ∙ take-set_of 64 width (final p f n) less in
    let long : length set ≡ 64 = ap length row ∙ length-set_of 64 (final p f n) in
    subst (λ (bytes : List ℕ). Appended bytes t at v j)
    (ap (λ (s : List ℕ). relation n width (final p f) ++ s) first ∙ sym (relation-more n width (final p f)))
    (appended_then before (told (omega arith)))

-- all of them are
pub all-sets : (p : Policy) (f : Family) (width many n : ℕ) (t u : List ℕ) (at i : ℕ) → width ≡ image.width f → n ≡ many → at + many * width ≤ length t
    → Appended (relation n width (final p f)) t at u i → u ≡ put t at (joined (sets_of many f (final p f)))
unfolding relation
all-sets p f width many n t u at i w e room a =
    a.written (subst (λ (x : ℕ). at + x ≤ length t) (mul_comm many width ∙ sym (length-relation n width (final p f) ∙ ap (λ (x : ℕ). width * x) e)) room)
    ∙ ap₂ (λ (x y : ℕ). put t at (relation x y (final p f))) e w
