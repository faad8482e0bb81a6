-- Only what is laid out has bodies: bytes that `bodies_in` cuts apart are the layout of those bodies in an edition that there is, and
-- then anything. By induction on the pairs and on the bodies. Assumes nothing.
use Prim.Native.Nat.{ℕ, zero, suc, ◌+◌, ◌*◌, ◌<◌, ◌≤◌}
use native.Mathlib.Omega.{arith}
use mathlib.Core.Path.{◌≡◌, refl, sym, ap, ap₂, ◌∙◌, subst}
use mathlib.Core.Bool.{◌&&◌, cond}
use mathlib.Core.List.{List, [], ◌∷◌, ◌++◌, append_assoc, head-eq_of_cons-eq, tail-eq_of_cons-eq, nil≢cons}
use mathlib.Core.Option.{none, some, some-injective}
use lib.Dec.{eqb, leb, ltb}
use lib.ListN.{length, take, drop, length-drop, take-append-drop}
use lib.Seq.{drop-drop, length-take-le}
use borrow.Author.Tests.{eqb-true, leb-true, ltb-true}
use Rattle.bitset.specs.Relations.{joined}
use Rattle.policy.specs.Basics.{more, each, le, unle}
use Rattle.policy.specs.Encode.{pairs, sections_of, first_body, layout}
use Rattle.policy.specs.Sound.{body_lengths, split_bodies, edition_in, has_header, bodies_in}
use Rattle.policy.proofs.Lists.{both_true}
use Rattle.policy.proofs.Options.{if_some}
use Rattle.table_laws.specs.SoundTable.{Bytes}
use Rattle.table_laws.proofs.ListLaws.{bound, more-after, all_drop}
use Rattle.table_laws.proofs.LittleEndian.{le-unle-take}
use Rattle.table_laws.proofs.LayoutLaws.{layout-front}

-- parts that were cut from t are at its front
pub split-only : (ns t : List ℕ) (bs : List (List ℕ)) → split_bodies ns t ≡ some bs → (each length bs ≡ ns) × (rest : List ℕ) × (t ≡ joined bs ++ rest)
unfolding split_bodies each joined
split-only [] t bs h = subst (λ (bs : List (List ℕ)). (each length bs ≡ []) × (rest : List ℕ) × (t ≡ joined bs ++ rest)) (some-injective [] bs h) (refl, t, refl)
split-only (n ∷ ns) t bs h =
    let g = if_some (leb n (length t)) (more (some (take n t)) (split_bodies ns (drop n t))) bs h in
    let m = more-after (take n t) (split_bodies ns (drop n t)) bs g.1 in
    let r = split-only ns (drop n t) m.0 m.1 in
    subst (λ (bs : List (List ℕ)). (each length bs ≡ n ∷ ns) × (rest : List ℕ) × (t ≡ joined bs ++ rest)) (sym m.2) (
      ap₂ {C = List ℕ} (λ x l. x ∷ l) (length-take-le n t (leb-true n (length t) g.0)) r.0,
      r.1,
      sym (take-append-drop n t) ∙ ap (λ (l : List ℕ). take n t ++ l) r.2 ∙ sym (append_assoc (take n t) (joined m.0) r.1),
    )

-- two numbers of w bytes, and what follows them
two-front : (w : ℕ) (t rest : List ℕ) (a b : ℕ) → Bytes t → w + w ≤ length t → unle (take w t) ≡ a → unle (take w (drop w t)) ≡ b
    → drop (w + w) t ≡ rest → t ≡ le w a ++ (le w b ++ rest)
two-front w t rest a b h l p q r =
    sym (take-append-drop w t)
    ∙ ap₂ ◌++◌ (sym (le-unle-take w t h (omega arith)) ∙ ap (le w) p)
    (sym (take-append-drop w (drop w t))
    ∙ ap₂ ◌++◌ (sym (le-unle-take w (drop w t) (all_drop (λ b. b < 256) w t h) (omega (arith, length-drop w t))) ∙ ap (le w) q) (drop-drop w w t ∙ r))

-- k pairs that say where bodies of these lengths lie are those that `pairs` writes
pub lengths-only : (k o : ℕ) (t : List ℕ) (bs : List (List ℕ)) → Bytes t → 8 * k ≤ length t → body_lengths k o t ≡ some (each length bs)
    → (length bs ≡ k) × (t ≡ pairs o bs ++ drop (8 * k) t)
unfolding body_lengths each pairs
lengths-only zero o t [] b l h = (refl, refl)
lengths-only zero o t (x ∷ bs) b l h = absurd (nil≢cons (some-injective [] (length x ∷ each length bs) h))
lengths-only (suc k) o t bs b l h =
    let n = unle (take 4 (drop 4 t)) in
    let g = if_some (eqb (unle (take 4 t)) o) (more (some n) (body_lengths k (o + n) (drop 8 t))) (each length bs) h in
    let m = more-after n (body_lengths k (o + n) (drop 8 t)) (each length bs) g.1 in
    with_first bs m.0 m.2 (eqb-true (unle (take 4 t)) o g.0)
    (λ xs e. lengths-only k (o + n) (drop 8 t) xs (all_drop (λ b. b < 256) 8 t b) (omega (arith, length-drop 8 t)) (m.1 ∙ ap some e))
  where
    behind : drop (8 * k) (drop 8 t) ≡ drop (8 * suc k) t
    behind = let e : 8 + 8 * k ≡ 8 * suc k = omega arith in drop-drop (8 * k) 8 t ∙ ap (λ (j : ℕ). drop j t) e

    with_first : (bs : List (List ℕ)) (ns : List ℕ) → each length bs ≡ unle (take 4 (drop 4 t)) ∷ ns → unle (take 4 t) ≡ o
        → ((xs : List (List ℕ)) → ns ≡ each length xs → (length xs ≡ k) × (drop 8 t ≡ pairs (o + unle (take 4 (drop 4 t))) xs ++ drop (8 * k) (drop 8 t)))
        → (length bs ≡ suc k) × (t ≡ pairs o bs ++ drop (8 * suc k) t)
    with_first [] ns e p r = absurd (nil≢cons e)
    with_first (x ∷ bs) ns e p r =
        let here : unle (take 4 (drop 4 t)) ≡ length x = sym (head-eq_of_cons-eq e) in
        let after = r bs (sym (tail-eq_of_cons-eq e)) in (
          ap suc after.0,
          two-front 4 t (pairs (o + length x) bs ++ drop (8 * suc k) t) o (length x) b (omega arith) p here
              (after.1 ∙ ap₂ (λ (a : ℕ) (r : List ℕ). pairs (o + a) bs ++ r) here behind)
              ∙ rw (
                append_assoc (le 4 o) (le 4 (length x) ++ pairs (o + length x) bs) (drop (8 * suc k) t),
                append_assoc (le 4 (length x))
                    (pairs (o + length x) bs) (drop (8 * suc k) t),
              ),
        )

-- bytes that are the layout of bodies in their own edition, and then anything
pub record LaidOut (t : List ℕ) (bs : List (List ℕ)) : Type 0 where
  pub known : 0 < sections_of (edition_in t)
  pub many : length bs ≡ sections_of (edition_in t)
  pub rest : List ℕ
  pub laid : t ≡ layout (edition_in t) bs ++ rest

-- only bodies laid out are cut apart
pub layout-only : (t : List ℕ) (bs : List (List ℕ)) → Bytes t → bodies_in t ≡ some bs → LaidOut t bs
unfolding bodies_in
layout-only t bs b h =
    let e = edition_in t in
    let first = first_body e in
    let s = bound (cond (has_header e t) (body_lengths (sections_of e) first (drop 4 t)) none) (λ ns. split_bodies ns (drop first t)) bs h in
    let c = if_some (has_header e t) (body_lengths (sections_of e) first (drop 4 t)) s.0 s.1 in
    let d = both_true (ltb 0 (sections_of e) && leb first (length t)) (eqb (unle (take 2 (drop 2 t))) (sections_of e)) c.0 in
    let f = both_true (ltb 0 (sections_of e)) (leb first (length t)) d.0 in
    let long : first ≤ length t = leb-true first (length t) f.1 in
    let cuts = split-only s.0 (drop first t) bs s.2 in
    let at = lengths-only (sections_of e) first (drop 4 t) bs (all_drop (λ b. b < 256) 4 t b) (omega (arith, length-drop 4 t)) (c.1 ∙ ap some (sym cuts.0)) in
    record {
      known = ltb-true 0 (sections_of e) f.0;
      many = at.0;
      rest = cuts.1;
      laid =
          two-front 2 t (pairs first bs ++ (joined bs ++ cuts.1)) e (sections_of e) b (omega arith) refl
          (eqb-true (unle (take 2 (drop 2 t))) (sections_of e) d.1)
          (at.1 ∙ ap (λ (r : List ℕ). pairs first bs ++ r) (drop-drop (8 * sections_of e) 4 t ∙ cuts.2))
          ∙ sym (layout-front e bs cuts.1);
    }
