-- What the functions under the evaluation leave, as sets by their rules: all numbers below a bound, one reference, an operator's set with one
-- operand more. Assumes nothing.
use Prim.Native.Nat.{ℕ, ◌+◌, ◌-◌, ◌*◌, ◌<◌, ◌≤◌}
use native.Mathlib.Omega.{arith}
use mathlib.Core.Path.{◌≡◌, sym, ap, ◌∙◌}
use mathlib.Core.Bool.{Bool, false, not, ◌&&◌, ◌||◌, and-true}
use mathlib.Core.List.{List}
use lib.Dec.{eqb, ltb}
use lib.ListN.{length}
use borrow.Author.Tests.{lt-ltb, le-ltb}
use Rattle.bitset.specs.Sets.{member, set_of, inserted, union_of, copy_of, emptied, complement_of}
use Rattle.byte_slices.specs.Parts.{part}
use Rattle.bitset.proofs.SetLaws.{member-set_of, set_of-ext, inserted-set_of, complement-set_of, operator-set_of}
use Rattle.policy.specs.Statements.{Reference, thing, attribute}
use Rattle.policy.specs.Meaning.{stands_in}
use Rattle.statement_code.specs.Code.{reference_unit}
use Rattle.set_code.specs.Evaluation.{sets_in, value_of, join_of, joined_by}
use Rattle.statement_code.specs.Numbered.{NumberedR}

pub filled : (s : List ℕ) (bound : ℕ) → length s ≡ 64 → complement_of bound (emptied s) ≡ set_of 64 (λ n. ltb n bound)
unfolding emptied
filled s bound h =
    ap (λ (w : ℕ). complement_of bound (set_of w (λ n. false))) h
    ∙ complement-set_of bound 64 (λ n. false)
    ∙ set_of-ext 64 (λ n. ltb n bound && not false) (λ n. ltb n bound) (λ n l. and-true (ltb n bound))

-- a thing stands for itself alone
pub thing-alone : (sets : List ℕ) (u : ℕ) → u < 1024 → set_of 64 (λ n. eqb n u) ≡ set_of 64 (value_of sets u)
thing-alone sets u l = set_of-ext 64 (λ n. eqb n u) (value_of sets u) (λ n k. rw (lt-ltb u 1024 l))

pub filled_none : (s : List ℕ) → length s ≡ 64 → emptied s ≡ set_of 64 (λ n. ltb n 0)
unfolding emptied
filled_none s h =
    ap (λ (w : ℕ). set_of w (λ n. false)) h ∙ set_of-ext 64 (λ n. false) (λ n. ltb n 0) (λ n l. rw (le-ltb n 0 (omega arith)))

pub one-thing : (s sets : List ℕ) (u : ℕ) → length s ≡ 64 → u < 1024 → inserted (emptied s) u ≡ set_of 64 (value_of sets u)
unfolding emptied
one-thing s sets u h l =
    ap (λ (w : ℕ). inserted (set_of w (λ n. false)) u) h
    ∙ inserted-set_of 64 (λ n. false) u
    ∙ thing-alone sets u l

pub one-attribute : (s sets : List ℕ) (u : ℕ) → length s ≡ 64 → 1024 ≤ u → copy_of s (part sets (64 * (u - 1024)) 64) ≡ set_of 64 (value_of sets u)
unfolding copy_of sets_in
one-attribute s sets u h l =
    ap (λ (w : ℕ). set_of w (member (part sets (64 * (u - 1024)) 64))) h
    ∙ set_of-ext 64 (member (part sets (64 * (u - 1024)) 64)) (value_of sets u) (λ n k. rw (le-ltb u 1024 l))

-- the unit of a reference stands for what the reference stands for
pub value-of-reference : (sets : List ℕ) (r : Reference) → NumberedR r → (n : ℕ) → value_of sets (reference_unit r) n ≡ stands_in (sets_in sets) r n
value-of-reference sets (thing m) h n = rw (lt-ltb m 1024 h)
value-of-reference sets (attribute a) h n =
    let past : 1024 ≤ 1024 + a = omega arith in
    let number : 1024 + a - 1024 ≡ a = omega arith in
    rw (le-ltb (1024 + a) 1024 past, number)

pub joined-sets : (op : ℕ) (f g : ℕ → Bool) → joined_by op (set_of 64 f) (set_of 64 g) ≡ set_of 64 (λ n. join_of op (f n) (g n))
unfolding joined_by
joined-sets op f g = operator-set_of (join_of op) 64 f g

-- a set gains another by its rule
gained : (s : List ℕ) (f g : ℕ → Bool) → length s ≡ 64 → ((n : ℕ) → g n ≡ f n) → set_of (length s) (λ n. member s n || g n) ≡ union_of s (set_of 64 f)
unfolding union_of
gained s f g h same =
    set_of-ext (length s) (λ n. member s n || g n) (λ n. member s n || member (set_of 64 f) n)
    (λ n l. ap (λ (x : Bool). member s n || x) (same n ∙ sym (member-set_of 64 f n (omega arith))))

pub gained-thing : (s sets : List ℕ) (u : ℕ) → length s ≡ 64 → u < 1024 → inserted s u ≡ union_of s (set_of 64 (value_of sets u))
unfolding inserted
gained-thing s sets u h l = gained s (value_of sets u) (λ n. eqb n u) h (λ n. rw (lt-ltb u 1024 l))

pub gained-attribute : (s sets : List ℕ) (u : ℕ) → length s ≡ 64 → 1024 ≤ u → union_of s (part sets (64 * (u - 1024)) 64) ≡ union_of s (set_of 64 (value_of sets u))
unfolding union_of sets_in
gained-attribute s sets u h l = gained s (value_of sets u) (member (part sets (64 * (u - 1024)) 64)) h (λ n. rw (le-ltb u 1024 l))

-- an operator that only adds joins by union
pub joined-union : (op : ℕ) (a b : List ℕ) → ((x y : Bool) → join_of op x y ≡ (x || y)) → joined_by op a b ≡ union_of a b
unfolding joined_by union_of
joined-union op a b h =
    set_of-ext (length a) (λ n. join_of op (member a n) (member b n)) (λ n. member a n || member b n) (λ n l. h (member a n) (member b n))
