-- Rows that are put one after the other: what is kept before them, and that together they are the bytes of all of them. Assumes nothing.
use mathlib.Core.Path.{◌≡◌, refl, sym, ap, subst, ◌∙◌}
use mathlib.Core.List.{List, [], ◌∷◌, ◌++◌}
use Prim.Native.Nat.{ℕ, suc, ◌+◌, ◌*◌, ◌/◌, ◌≤◌, ◌<◌}
use native.Mathlib.Omega.{arith}
use lib.ListN.{length, take, set, length-set, length-append}
use lib.Seq.{sets, length-sets, take-set-le, take-take}
use Rattle.byte_slices.specs.Parts.{put}
use Rattle.bitset.specs.Relations.{joined}
use Rattle.byte_slices.proofs.PartLaws.{put-none, put-put, sets-put}
use Rattle.policy.specs.Basics.{each, le}
use Rattle.policy.specs.Rows.{Row, row}
use Rattle.policy.specs.Encode.{row_bytes}
use Rattle.policy.proofs.Lists.{joined-append, each_append}
use Rattle.constraint_writer.specs.ExpressionWrites.{Kept, Wrote}

-- the bytes of some rows
abbrev bytes_of : List Row → List ℕ
bytes_of rs = joined (each row_bytes rs)

six-each : (rs : List Row) → length (bytes_of rs) ≡ 6 * length rs
unfolding joined each le
six-each [] = refl
six-each (r ∷ rs) = omega (arith, six-each rs)

-- ---- what is kept

pub all-kept : (t : List ℕ) (n : ℕ) → Kept t t n
all-kept t n = record { long = refl; front = refl }

pub kept_on : {a b c : List ℕ} {m n : ℕ} → m ≤ n → Kept a b m → Kept b c n → Kept a c m
kept_on {a} {b} {c} {m} {n} h k l = record {
  long = l.long ∙ k.long;
  front = cut c ∙ ap (take (6 * m)) l.front ∙ sym (cut b) ∙ k.front;
}
  where
    cut : (x : List ℕ) → take (6 * m) x ≡ take (6 * m) (take (6 * n) x)
    cut x = sym (take-take (6 * m) (6 * n) x (omega arith))

take-sets : (n : ℕ) (l : List ℕ) (i : ℕ) (vs : List ℕ) → n ≤ i → take n (sets l i vs) ≡ take n l
take-sets n l i [] h = refl
take-sets n l i (a ∷ vs) h = take-sets n (set l i a) (suc i) vs (omega arith) ∙ take-set-le n l i a h

-- ---- one row

six-stores : (t : List ℕ) (o k c p : ℕ) (s : List ℕ)
    → sets (set (set (set (set t o k) (o + 1) c) (o + 2) p) (o + 3) 0) (o + 4) s ≡ sets t o (k ∷ c ∷ p ∷ 0 ∷ s)
six-stores t o k c p s =
    let e1 : o + 1 ≡ suc o = omega arith in
    let e2 : o + 2 ≡ suc (suc o) = omega arith in
    let e3 : o + 3 ≡ suc (suc (suc o)) = omega arith in
    let e4 : o + 4 ≡ suc (suc (suc (suc o))) = omega arith in
    rw (e1, e2, e3, e4)

module _ (t : List ℕ) (n k c p i : ℕ) (h : n < length t / 6) where
  -- what is before the number
  abbrev begun : List ℕ
  begun = set (set (set (set t (6 * n) k) (6 * n + 1) c) (6 * n + 2) p) (6 * n + 3) 0

  abbrev bytes : List ℕ
  bytes = bytes_of (row k c p i ∷ [])

  pub begun-long : length begun ≡ length t
  begun-long = simp length-set

  pub stored : (u : List ℕ) → u ≡ put begun (6 * n + 4) (le 2 i) → Wrote t u n (row k c p i ∷ [])
  unfolding joined each le
  stored u e =
      let all : u ≡ sets t (6 * n) bytes =
      e ∙ sym (sets-put begun (6 * n + 4) (le 2 i) (omega (arith, begun-long))) ∙ six-stores t (6 * n) k c p (le 2 i) in
      subst (λ (x : List ℕ). Wrote t x n (row k c p i ∷ [])) (sym all) (record {
        kept = record { long = length-sets t (6 * n) bytes; front = take-sets (6 * n) t (6 * n) bytes (omega arith) };
        put-there = λ g. sets-put t (6 * n) bytes (omega arith);
      })

-- ---- rows after rows

pub none-wrote : (t : List ℕ) (n : ℕ) → Wrote t t n []
unfolding joined each
none-wrote t n = record { kept = all-kept t n; put-there = λ g. sym (put-none t (6 * n)) }

pub wrote_on : {a b c : List ℕ} {n : ℕ} (m : ℕ) (rs qs : List Row) → m ≡ n + length rs → Wrote a b n rs → Wrote b c m qs → Wrote a c n (rs ++ qs)
wrote_on {a} {b} {c} {n} m rs qs e u v = record {
  kept = kept_on (omega arith) u.kept v.kept;
  put-there = λ g.
      let many = length-append rs qs in
      let first = six-each rs in
      let second = six-each qs in
      let same = u.kept.long in
      let place : 6 * m ≡ 6 * n + length (bytes_of rs) = omega arith in
      v.put-there (omega arith)
      ∙ ap (λ (o : ℕ). put b o (bytes_of qs)) place
      ∙ ap (λ (x : List ℕ). put x (6 * n + length (bytes_of rs)) (bytes_of qs)) (u.put-there (omega arith))
      ∙ put-put a (6 * n) (bytes_of rs) (bytes_of qs) (omega arith)
      ∙ ap (put a (6 * n)) (sym (ap joined (each_append row_bytes rs qs) ∙ joined-append (each row_bytes rs) (each row_bytes qs)));
}
