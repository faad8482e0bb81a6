-- The bytes of a slice at an offset: what is lent is the part, what comes back is put, and a part that lies apart is as it was.
-- Assumes nothing.
use mathlib.Core.Path.{◌≡◌, sym, ap, ap₂, ◌∙◌}
use mathlib.Core.List.{List, [], ◌++◌, append_assoc, ◌∷◌}
use Prim.Native.Nat.{ℕ, ◌+◌, ◌-◌, ◌≤◌, ◌<◌, min, suc, zero}
use native.Mathlib.Nat.{add-zero, add-suc, suc-add, sub-zero}
use native.Mathlib.Decide.{dec_lt}
use native.Mathlib.Omega.{arith}
use lib.ListN.{length, get_or, take, drop, length-append, length-take, length-drop, take-append-drop, get_or-append, get_or-eq_default, set}
use lib.Seq.{ext_get_or, length-take-le, get_or-take, get_or-drop, get_or-append-add, take-take, take-add, drop-drop, drop-append-le, take_at, drop-append-add, sets, sets-eq, drop-cons, take-nil, take_all}
use borrow.Rule.Slice.PartMut.{put_mid, Post-is}
use Rattle.byte_slices.specs.Parts.{part, put}
use native.Mathlib.Numerals.{add-one}

-- ---- a part

pub length-part-min : (t : List ℕ) (o w : ℕ) → length (part t o w) ≡ min w (length t - o)
unfolding part
length-part-min t o w = simp (length-take, length-drop)

pub length_part : (t : List ℕ) (o w : ℕ) → o + w ≤ length t → length (part t o w) ≡ w
length_part t o w h = omega (arith, length-part-min t o w)

pub length-part-le : (t : List ℕ) (o w : ℕ) → length (part t o w) ≤ w
length-part-le t o w = omega (arith, length-part-min t o w)

pub get_d_part : (t : List ℕ) (o w i : ℕ) → i < w → get_or (part t o w) i 0 ≡ get_or t (o + i) 0
unfolding part
get_d_part t o w i h = rw (get_or-take, get_or-drop)

-- a part of bytes has bytes
pub small-part : (t : List ℕ) (o w : ℕ) → ((i : ℕ) → get_or t i 0 < 256) → (i : ℕ) → get_or (part t o w) i 0 < 256
small-part t o w small i = at (dec_lt i w)
  where
    at : Dec (i < w) → get_or (part t o w) i 0 < 256
    at (yes h) = rw (get_d_part t o w i h) (small (o + i))
    at (no h) = let e : get_or (part t o w) i 0 ≡ 0 = get_or-eq_default (part t o w) 0 (omega (arith, length-part-le t o w)) in omega arith

-- a list is cut at its end anyway
pub take-cut : (n : ℕ) (l : List ℕ) → take (min n (length l)) l ≡ take n l
take-cut n l =
    ext_get_or 0 (take (min n (length l)) l) (take n l) (simp length-take (omega arith))
    (λ i h.
    let m : i < min n (length l) = omega (arith, length-take (min n (length l)) l) in
    get_or-take (min n (length l)) l i 0 m ∙ sym (get_or-take n l i 0 (omega arith)))

-- from the same place on, or both from past the end on
drop-same : (m n : ℕ) (l : List ℕ) → min m (length l) ≡ min n (length l) → drop m l ≡ drop n l
drop-same m n l e =
    ext_get_or 0 (drop m l) (drop n l) (simp length-drop (omega arith))
    (λ i h.
    let k : m + i ≡ n + i = omega (arith, length-drop m l) in
    get_or-drop m l i 0 ∙ ap (λ (j : ℕ). get_or l j 0) k ∙ sym (get_or-drop n l i 0))

cut-start : (o len : ℕ) → min (min o len) len ≡ min o len
cut-start o len = omega arith

cut-width : (o w len : ℕ) → min (o + w) len - min o len ≡ min w (len - o)
cut-width o w len = omega arith

-- what is lent from the cut start to the cut end is the part
pub part-lent : (t : List ℕ) (o w start end : ℕ) → start ≡ min o (length t) → end ≡ min (o + w) (length t) → take (end - start) (drop start t) ≡ part t o w
unfolding part
part-lent t o w start end p q =
    ap₂ (λ (n : ℕ) (l : List ℕ). take n l)
    (ap₂ ◌-◌ q p ∙ cut-width o w (length t) ∙ ap (min w) (sym (length-drop o t)))
    (ap (λ (n : ℕ). drop n t) p ∙ drop-same (min o (length t)) o t (cut-start o (length t)))
    ∙ take-cut w (drop o t)

-- a part of a part
pub part-part : (t : List ℕ) (o W p v : ℕ) → p + v ≤ W → part (part t o W) p v ≡ part t (o + p) v
part-part t o W p v h =
    ext_get_or 0 (part (part t o W) p v) (part t (o + p) v)
    (length-part-min (part t o W) p v ∙ ap (λ (n : ℕ). min v (n - p)) (length-part-min t o W) ∙ inner (length t) ∙ sym (length-part-min t (o + p) v))
    (λ i l.
    let k : i < v = omega (arith, length-part-le (part t o W) p v) in
    let e : o + (p + i) ≡ o + p + i = omega arith in
    get_d_part (part t o W) p v i k ∙ get_d_part t o W (p + i) (omega arith) ∙ ap (λ (n : ℕ). get_or t n 0) e ∙ sym (get_d_part t (o + p) v i k))
  where
    inner : (len : ℕ) → min v (min W (len - o) - p) ≡ min v (len - (o + p))
    inner len = omega arith

-- a part and what is after it
part-rest : (t : List ℕ) (o w : ℕ) → part t o w ++ drop (o + length (part t o w)) t ≡ drop o t
unfolding part
part-rest t o w =
    ap (λ (l : List ℕ). part t o w ++ l) (drop-same (o + length (part t o w)) (o + w) t (omega (arith, length-part-min t o w)) ∙ sym (drop-drop w o t))
    ∙ take-append-drop w (drop o t)

-- ---- and what is put there

-- where s fits after the offset
module _ (t : List ℕ) (o : ℕ) (s : List ℕ) (h : o + length s ≤ length t) where
  head : length (take o t) ≡ o
  head = length-take-le o t (omega arith)

  pub length-put : length (put t o s) ≡ length t
  unfolding put
  length-put = simp (length-append, length-drop) (omega (arith, head))

  pub get_d-put-in : (i : ℕ) → i < length s → get_or (put t o s) (o + i) 0 ≡ get_or s i 0
  unfolding put
  get_d-put-in i l =
      ap (λ (n : ℕ). get_or (put t o s) (n + i) 0) (sym head) ∙ get_or-append-add (take o t) (s ++ drop (o + length s) t) i 0
      ∙ get_or-append s (drop (o + length s) t) 0 i l

  pub get_d-put-before : (i : ℕ) → i < o → get_or (put t o s) i 0 ≡ get_or t i 0
  unfolding put
  get_d-put-before i l = get_or-append (take o t) (s ++ drop (o + length s) t) 0 i (omega (arith, head)) ∙ get_or-take o t i 0 l

  pub get_d-put-after : (i : ℕ) → o + length s ≤ i → get_or (put t o s) i 0 ≡ get_or t i 0
  unfolding put
  get_d-put-after i l =
      let e : i ≡ length (take o t) + (length s + (i - (o + length s))) = omega (arith, head) in
      let f : o + length s + (i - (o + length s)) ≡ i = omega arith in
      ap (λ (n : ℕ). get_or (put t o s) n 0) e
      ∙ get_or-append-add (take o t) (s ++ drop (o + length s) t) (length s + (i - (o + length s))) 0
      ∙ get_or-append-add s (drop (o + length s) t) (i - (o + length s)) 0
      ∙ get_or-drop (o + length s) t (i - (o + length s)) 0 ∙ ap (λ (n : ℕ). get_or t n 0) f

  -- the part that was put is what was put
  pub part-put-same : part (put t o s) o (length s) ≡ s
  part-put-same =
      let long : length (part (put t o s) o (length s)) ≡ length s = length_part (put t o s) o (length s) (omega (arith, length-put)) in
      ext_get_or 0 (part (put t o s) o (length s)) s long
      (λ i l. get_d_part (put t o s) o (length s) i (omega arith) ∙ get_d-put-in i (omega arith))

  -- a part that lies before or after it is as it was
  pub part-put-before : (p v : ℕ) → p + v ≤ o → part (put t o s) p v ≡ part t p v
  part-put-before p v l =
      ext_get_or 0 (part (put t o s) p v) (part t p v) (omega (arith, length-part-min (put t o s) p v, length-part-min t p v, length-put))
      (λ i m.
      let k : i < v = omega (arith, length-part-le (put t o s) p v) in
      get_d_part (put t o s) p v i k ∙ get_d-put-before (p + i) (omega arith) ∙ sym (get_d_part t p v i k))

  pub part-put-after : (p v : ℕ) → o + length s ≤ p → part (put t o s) p v ≡ part t p v
  part-put-after p v l =
      ext_get_or 0 (part (put t o s) p v) (part t p v) (omega (arith, length-part-min (put t o s) p v, length-part-min t p v, length-put))
      (λ i m.
      let k : i < v = omega (arith, length-part-le (put t o s) p v) in
      get_d_part (put t o s) p v i k ∙ get_d-put-after (p + i) (omega arith) ∙ sym (get_d_part t p v i k))

-- nothing is put
pub put-none : (t : List ℕ) (o : ℕ) → put t o [] ≡ t
unfolding put
put-none t o = rw add-zero (take-append-drop o t)

-- a part is put where it stands
pub put_same : (t : List ℕ) (o w : ℕ) → put t o (part t o w) ≡ t
unfolding put
put_same t o w = rw (part-rest t o w) (take-append-drop o t)

-- bytes are put into a part, and the part where it stands
pub put-part : (t : List ℕ) (o w p : ℕ) (s : List ℕ) → p + length s ≤ length (part t o w) → put t o (put (part t o w) p s) ≡ put t (o + p) s
unfolding put part
put-part t o w p s h =
    let b = part t o w in
    let q = p + length s in
    let rest = drop (o + length b) t in
    let before : take o t ++ take p b ≡ take (o + p) t =
    ap (λ (l : List ℕ). take o t ++ l) (take-take p w (drop o t) (omega (arith, length-part-le t o w))) ∙ sym (take-add o p t) in
    let behind : drop q b ++ rest ≡ drop (o + p + length s) t =
    sym (drop-append-le q b rest h) ∙ ap (drop q) (part-rest t o w) ∙ drop-drop q o t ∙ ap (λ (n : ℕ). drop n t) (regroup (length s)) in
    ap (λ (n : ℕ). take o t ++ ((take p b ++ (s ++ drop q b)) ++ drop (o + n) t)) (length-put b p s h)
    ∙ ap (λ (l : List ℕ). take o t ++ l) (append_assoc (take p b) (s ++ drop q b) rest)
    ∙ sym (append_assoc (take o t) (take p b) ((s ++ drop q b) ++ rest))
    ∙ ap₂ ◌++◌ before (append_assoc s (drop q b) rest ∙ ap (λ (l : List ℕ). s ++ l) behind)
  where
    regroup : (n : ℕ) → o + (p + n) ≡ o + p + n
    regroup n = omega arith

-- what is put after what was put is put with it
pub put-put : (t : List ℕ) (o : ℕ) (us vs : List ℕ) → o + length us ≤ length t → put (put t o us) (o + length us) vs ≡ put t o (us ++ vs)
unfolding put
put-put t o us vs h =
    let p = take o t ++ us in
    let long : length p ≡ o + length us = length-append (take o t) us ∙ ap (λ (n : ℕ). n + length us) (length-take-le o t (omega arith)) in
    let whole : take o t ++ (us ++ drop (o + length us) t) ≡ p ++ drop (o + length us) t = sym (append_assoc (take o t) us (drop (o + length us) t)) in
    let first : take (o + length us) (take o t ++ (us ++ drop (o + length us) t)) ≡ p =
    ap (take (o + length us)) whole ∙ take_at p (drop (o + length us) t) (o + length us) long in
    let rest : drop (o + length us + length vs) (take o t ++ (us ++ drop (o + length us) t)) ≡ drop (o + length (us ++ vs)) t =
    ap₂ drop (ap (λ (n : ℕ). n + length vs) (sym long)) whole ∙ drop-append-add p (drop (o + length us) t) (length vs)
    ∙ drop-drop (length vs) (o + length us) t ∙ ap (λ (n : ℕ). drop n t) (let d : o + length us + length vs ≡ o + length (us ++ vs) = omega (arith, length-append us vs) in d) in
    ap₂ (λ (a b : List ℕ). a ++ (vs ++ b)) first rest
    ∙ append_assoc (take o t) us (vs ++ drop (o + length (us ++ vs)) t)
    ∙ ap (λ (l : List ℕ). take o t ++ l) (sym (append_assoc us vs (drop (o + length (us ++ vs)) t)))

-- the same of two that were put
pub put_then : (t : List ℕ) (o : ℕ) (us vs : List ℕ) {u v : List ℕ} {q : ℕ} → o + length us ≤ length t → u ≡ put t o us → q ≡ o + length us → v ≡ put u q vs
    → v ≡ put t o (us ++ vs)
put_then t o us vs h e p f = f ∙ ap₂ (λ (l : List ℕ) (n : ℕ). put l n vs) e p ∙ put-put t o us vs h

-- bytes stored one after the other are bytes put
pub sets-put : (t : List ℕ) (o : ℕ) (s : List ℕ) → o + length s ≤ length t → sets t o s ≡ put t o s
unfolding put
sets-put t o s h = sets-eq s t o h ∙ append_assoc (take o t) s (drop (o + length s) t)

pub sets-append : (l : List ℕ) (i : ℕ) (vs ws : List ℕ) → sets (sets l i vs) (i + length vs) ws ≡ sets l i (vs ++ ws)
sets-append l i [] ws = rw add-zero
sets-append l i (a ∷ vs) ws = rw (add-suc i (length vs), ← suc-add i (length vs)) (sets-append (set l i a) (suc i) vs ws)

-- what was lent from the cut start to the cut end comes back as what F makes of the part
pub put_back : (t : List ℕ) (o w start end : ℕ) (F : List ℕ → List ℕ) (s : List ℕ)
    → start ≡ min o (length t) → end ≡ min (o + w) (length t) → ((p : List ℕ) → length (F p) ≡ length p)
    → s ≡ F (take (end - start) (drop start t)) → put_mid start (end - start) t s ≡ put t o (F (part t o w))
unfolding put
put_back t o w start end F s p q keeps e =
    let is : s ≡ F (part t o w) = e ∙ ap F (part-lent t o w start end p q) in
    let long : length (F (part t o w)) ≡ min w (length t - o) = keeps (part t o w) ∙ length-part-min t o w in
    ap₂ (λ (a b : List ℕ). a ++ b) (ap (λ (n : ℕ). take n t) p ∙ take-cut o t)
    (ap₂ (λ (a b : List ℕ). a ++ b) is (Post-is start end t (omega arith) ∙ drop-same end (o + length (F (part t o w))) t (cut-end end (length (F (part t o w))) q long)))
  where
    cut-end : (e n : ℕ) → e ≡ min (o + w) (length t) → n ≡ min w (length t - o) → min e (length t) ≡ min (o + n) (length t)
    cut-end e n a b = omega arith

-- bytes that take the place of as many are put there
pub put_over : (t : List ℕ) (at len : ℕ) {s p : List ℕ} → s ≡ p → length p ≡ len → put_mid at (at + len - at) t s ≡ put t at p
unfolding put
put_over t at len e long =
    ap₂ (λ (a b : List ℕ). take at t ++ (a ++ b)) e (Post-is at (at + len) t (omega arith) ∙ ap (λ (n : ℕ). drop (at + n) t) (sym long))

-- ---- parts of parts, and their first bytes

pub part_none : (t : List ℕ) (o w : ℕ) → w ≡ 0 → part t o w ≡ []
unfolding part
part_none t o w h = rw h

pub part-whole : (t : List ℕ) → part t 0 (length t) ≡ t
unfolding part
part-whole t = take_all (length t) t (omega arith)

pub part-present : (t : List ℕ) (o w : ℕ) → part t o (min w (length t - o)) ≡ part t o w
unfolding part
part-present t o w = rw (← length-drop o t) (take-cut w (drop o t))

pub part-cons : (t : List ℕ) (o w : ℕ) → 0 < w → o < length t → part t o w ≡ get_or t o 0 ∷ part t (o + 1) (w - 1)
unfolding part
part-cons t o w h l =
    let z : w ≡ suc (w - 1) = omega arith in
    ap (λ (n : ℕ). take n (drop o t)) z ∙ rw (drop-cons t o 0 l, add-one o)

pub part-head : (t : List ℕ) (o w : ℕ) → 4 ≤ w → o + 4 ≤ length t
    → part t o w ≡ get_or t o 0 ∷ get_or t (o + 1) 0 ∷ get_or t (o + 2) 0 ∷ get_or t (o + 3) 0 ∷ part t (o + 4) (w - 4)
part-head t o w h l =
    part-cons t o w (omega arith) (omega arith)
    ∙ ap (λ (r : List ℕ). get_or t o 0 ∷ r) (part-cons t (o + 1) (w - 1) (omega arith) (omega arith)
    ∙ ap (λ (r : List ℕ). get_or t (o + 1) 0 ∷ r) (ap₂ (part t) (omega arith) (omega arith) ∙ part-cons t (o + 2) (w - 2) (omega arith) (omega arith)
    ∙ ap (λ (r : List ℕ). get_or t (o + 2) 0 ∷ r) (ap₂ (part t) (omega arith) (omega arith) ∙ part-cons t (o + 3) (w - 3) (omega arith) (omega arith)
    ∙ ap (λ (r : List ℕ). get_or t (o + 3) 0 ∷ r) (ap₂ (part t) (omega arith) (omega arith)))))

pub drop-take : (n m : ℕ) (l : List ℕ) → drop n (take m l) ≡ take (m - n) (drop n l)
drop-take zero m l = rw sub-zero
drop-take (suc n) zero l = let e : 0 - suc n ≡ 0 = omega arith in rw e
drop-take (suc n) (suc m) [] = rw take-nil
drop-take (suc n) (suc m) (a ∷ l) = let e : suc m - suc n ≡ m - n = omega arith in rw e (drop-take n m l)

pub take_part : (t : List ℕ) (o w n : ℕ) → n ≤ w → take n (part t o w) ≡ part t o n
unfolding part
take_part t o w n h = take-take n w (drop o t) h

pub drop-part : (t : List ℕ) (o w n : ℕ) → drop n (part t o w) ≡ part t (o + n) (w - n)
unfolding part
drop-part t o w n = drop-take n w (drop o t) ∙ rw (drop-drop n o t)

pub part_join : (t : List ℕ) (o v w : ℕ) → part t o (v + w) ≡ part t o v ++ part t (o + v) w
unfolding part
part_join t o v w = take-add v w (drop o t) ∙ rw (drop-drop v o t)
