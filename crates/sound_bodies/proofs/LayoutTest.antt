-- The test of the layout, and what the header of a table that passes it says of each body that its edition has. By induction on the pairs. Assumes nothing.
use Prim.Native.Nat.{ℕ, zero, suc, ◌+◌, ◌-◌, ◌*◌, ◌<◌, ◌≤◌}
use native.Mathlib.Nat.{add-zero}
use native.Mathlib.Omega.{arith}
use mathlib.Core.Path.{◌≡◌, refl, sym, ap, ◌∙◌, subst}
use mathlib.Core.Bool.{Bool, true, false, ◌&&◌, cond, and-false}
use mathlib.Core.List.{List, [], ◌∷◌}
use mathlib.Core.Option.{Option, none, some, some-injective}
use lib.Dec.{eqb, leb, ltb}
use lib.ListN.{length, get_or, take, drop, length-drop, length-append, get_or-eq_default}
use lib.Seq.{drop-drop, length-take-le}
use borrow.Author.Tests.{eqb-true, eq-eqb, ne_eqb, leb-true, leb-false, ltb-true, le-leb, lt-leb}
use Rattle.bitset.specs.Relations.{joined}
use Rattle.policy.specs.Basics.{◌>>=◌, more, unle}
use Rattle.policy.specs.Encode.{sections_of, first_body}
use Rattle.policy.specs.Sound.{body_lengths, split_bodies, edition_in, has_header, bodies_in}
use Rattle.policy.proofs.Lists.{both_true, each-length}
use Rattle.policy.proofs.Options.{if_some}
use Rattle.table_laws.proofs.ListLaws.{bound, more-after}
use Rattle.table_laws.proofs.LayoutOnly.{split-only}
use Rattle.table_laws.proofs.Editions.{edition-known}
use Rattle.table_reader.specs.Records.{start_in, length_in}
use Rattle.sound_constraints.specs.SoundRows.{is_some}
use Rattle.sound_bodies.specs.SoundBodies.{follow}

-- bodies that start past the end do not end within it
follow-past : (k o n : ℕ) (t : List ℕ) → n < o → follow k o n t ≡ false
unfolding follow
follow-past zero o n t h = lt-leb o n h
follow-past (suc k) o n t h =
    rw (follow-past k (o + unle (take 4 (drop 4 t))) n (drop 8 t) (omega arith)) (and-false (eqb (unle (take 4 t)) o))

-- a body is cut off where it ends within the bytes
cut_off : (n : ℕ) (ns : Option (List ℕ)) (t : List ℕ)
    → is_some (more (some n) ns >>= λ ns. split_bodies ns t) ≡ (leb n (length t) && is_some (ns >>= λ ns. split_bodies ns (drop n t)))
unfolding split_bodies
cut_off n none t = sym (and-false (leb n (length t)))
cut_off n (some ns) t = by (leb n (length t)) (split_bodies ns (drop n t))
  where
    by : (b : Bool) (o : Option (List (List ℕ))) → is_some (cond b (more (some (take n t)) o) none) ≡ (b && is_some o)
    by false o = refl
    by true none = refl
    by true (some bs) = refl

follow-law : (k o : ℕ) (p t : List ℕ) → o ≤ length t → is_some (body_lengths k o p >>= λ ns. split_bodies ns (drop o t)) ≡ follow k o (length t) p
unfolding follow body_lengths split_bodies
follow-law zero o p t h = sym (le-leb o (length t) h)
follow-law (suc k) o p t h = by (λ l. follow-law k (o + unle (take 4 (drop 4 p))) (drop 8 p) t l) (eqb (unle (take 4 p)) o)
  where
    n : ℕ
    n = unle (take 4 (drop 4 p))

    within : (o + n ≤ length t → is_some (body_lengths k (o + n) (drop 8 p) >>= λ ns. split_bodies ns (drop (o + n) t)) ≡ follow k (o + n) (length t) (drop 8 p))
        → (b : Bool) → leb n (length (drop o t)) ≡ b
        → (b && is_some (body_lengths k (o + n) (drop 8 p) >>= λ ns. split_bodies ns (drop n (drop o t)))) ≡ follow k (o + n) (length t) (drop 8 p)
    within next true e =
        ap (λ (u : List ℕ). is_some (body_lengths k (o + n) (drop 8 p) >>= λ ns. split_bodies ns u)) (drop-drop n o t)
        ∙ next (omega (arith, leb-true n (length (drop o t)) e, length-drop o t))
    within next false e = sym (follow-past k (o + n) (length t) (drop 8 p) (omega (arith, leb-false n (length (drop o t)) e, length-drop o t)))

    by : (o + n ≤ length t → is_some (body_lengths k (o + n) (drop 8 p) >>= λ ns. split_bodies ns (drop (o + n) t)) ≡ follow k (o + n) (length t) (drop 8 p))
        → (b : Bool) → is_some (cond b (more (some n) (body_lengths k (o + n) (drop 8 p))) none >>= λ ns. split_bodies ns (drop o t))
        ≡ (b && follow k (o + n) (length t) (drop 8 p))
    by next false = refl
    by next true = cut_off n (body_lengths k (o + n) (drop 8 p)) (drop o t) ∙ within next (leb n (length (drop o t))) refl

-- a table is laid out: its header is that of an edition that there is, and the bodies follow each other
pub laid_out : (t : List ℕ) →
    let e = edition_in t in
    is_some (bodies_in t) ≡ (has_header e t && follow (sections_of e) (first_body e) (length t) (drop 4 t))
unfolding bodies_in
laid_out t = by (ltb 0 (sections_of e)) (leb (first_body e) (length t)) refl (eqb (unle (take 2 (drop 2 t))) (sections_of e))
  where
    e : ℕ
    e = edition_in t

    by : (a b : Bool) → leb (first_body e) (length t) ≡ b → (c : Bool)
        → is_some (cond (a && b && c) (body_lengths (sections_of e) (first_body e) (drop 4 t)) none >>= λ ns. split_bodies ns (drop (first_body e) t))
        ≡ (a && b && c && follow (sections_of e) (first_body e) (length t) (drop 4 t))
    by true true long true = follow-law (sections_of e) (first_body e) (drop 4 t) t (leb-true (first_body e) (length t) long)
    by true true long false = refl
    by true false long c = refl
    by false b long c = refl

-- ONE BODY AFTER THE OTHER: of m bodies, of which the first starts at `first`, those from number k on follow from o on where all do

module _ (m first : ℕ) (t : List ℕ) (o k : ℕ) (left : follow (m - k) o (length t) (drop (4 + 8 * k) t) ≡ follow m first (length t) (drop 4 t)) where
  module _ (less : k < m) where
    step : follow (m - k) o (length t) (drop (4 + 8 * k) t) ≡ (eqb (start_in t k) o && follow (m - (k + 1)) (o + length_in t k) (length t) (drop (4 + 8 * (k + 1)) t))
    unfolding follow
    step =
        let s : m - k ≡ suc (m - (k + 1)) = omega arith in
        let f : 4 + 8 * k + 4 ≡ 8 + 8 * k = omega arith in
        let e : 4 + 8 * k + 8 ≡ 4 + 8 * (k + 1) = omega arith in
        rw (s, drop-drop 4 (4 + 8 * k) t, drop-drop 8 (4 + 8 * k) t, f, e)

    pub follow-not : (start_in t k ≡ o → ⊥) → false ≡ follow m first (length t) (drop 4 t)
    follow-not h = rw (step, ne_eqb (start_in t k) o h) at left

    pub follow-next : {n : ℕ} → start_in t k ≡ o → n ≡ length_in t k
        → follow (m - (k + 1)) (o + n) (length t) (drop (4 + 8 * (k + 1)) t) ≡ follow m first (length t) (drop 4 t)
    follow-next h e = rw e (rw (step, eq-eqb (start_in t k) o h) at left)

  pub follow-end : m ≤ k → leb o (length t) ≡ follow m first (length t) (drop 4 t)
  unfolding follow
  follow-end h = let z : m - k ≡ 0 = omega arith in rw z at left

-- WHAT THE HEADER SAYS OF EACH BODY

-- body k starts where those before it end, is as long as the header says, and is the part of the table there
pub record BodyAt (t : List ℕ) (bs : List (List ℕ)) (k : ℕ) : Type 0 where
  pub start : start_in t k ≡ first_body (edition_in t) + length (joined (take k bs))
  pub long : length (get_or bs k []) ≡ length_in t k
  pub bytes : get_or bs k [] ≡ take (length_in t k) (drop (start_in t k) t)

-- the same of pairs at the front of p, the first body starting at o
record PairAt (p t : List ℕ) (bs : List (List ℕ)) (o k : ℕ) : Type 0 where
  start : unle (take 4 (drop (8 * k) p)) ≡ o + length (joined (take k bs))
  long : length (get_or bs k []) ≡ unle (take 4 (drop (8 * k + 4) p))
  bytes : get_or bs k [] ≡ take (unle (take 4 (drop (8 * k + 4) p))) (drop (unle (take 4 (drop (8 * k) p))) t)

pairs-at : (m o : ℕ) (p t ns : List ℕ) (bs : List (List ℕ)) → body_lengths m o p ≡ some ns → split_bodies ns (drop o t) ≡ some bs → (k : ℕ) → k < m → PairAt p t bs o k
unfolding body_lengths split_bodies joined
pairs-at zero o p t ns bs e f k h = absurd (omega arith)
pairs-at (suc m) o p t ns bs e f k h =
    let n = unle (take 4 (drop 4 p)) in
    let g = if_some (eqb (unle (take 4 p)) o) (more (some n) (body_lengths m (o + n) (drop 8 p))) ns e in
    let l = more-after n (body_lengths m (o + n) (drop 8 p)) ns g.1 in
    let cut = if_some (leb n (length (drop o t))) (more (some (take n (drop o t))) (split_bodies l.0 (drop n (drop o t)))) bs (rw l.2 at f) in
    let after = more-after (take n (drop o t)) (split_bodies l.0 (drop n (drop o t))) bs cut.1 in
    let here : unle (take 4 p) ≡ o = eqb-true (unle (take 4 p)) o g.0 in
    let long : length (take n (drop o t)) ≡ n = length-take-le n (drop o t) (leb-true n (length (drop o t)) cut.0) in
    subst (λ (bs : List (List ℕ)). PairAt p t bs o k) (sym after.2)
    (by here long (λ j i. pairs-at m (o + n) (drop 8 p) t l.0 after.0 l.1 (ap (split_bodies l.0) (sym (drop-drop n o t)) ∙ after.1) j i) k h)
  where
    by : {bs : List (List ℕ)} → unle (take 4 p) ≡ o → length (take (unle (take 4 (drop 4 p))) (drop o t)) ≡ unle (take 4 (drop 4 p))
        → ((j : ℕ) → j < m → PairAt (drop 8 p) t bs (o + unle (take 4 (drop 4 p))) j) → (k : ℕ) → k < suc m
        → PairAt p t (take (unle (take 4 (drop 4 p))) (drop o t) ∷ bs) o k
    by here long later zero h = record {
      start = here ∙ sym (add-zero o);
      long = long;
      bytes = ap (λ (s : ℕ). take (unle (take 4 (drop 4 p))) (drop s t)) (sym here);
    }
    by {bs} here long later (suc j) h =
        let r = later j (omega arith) in
        let x = take (unle (take 4 (drop 4 p))) (drop o t) in
        let s : 8 * suc j ≡ 8 + 8 * j = omega arith in
        let s4 : 8 * suc j + 4 ≡ 8 + (8 * j + 4) = omega arith in
        let start : drop (8 * suc j) p ≡ drop (8 * j) (drop 8 p) = ap (λ (n : ℕ). drop n p) s ∙ sym (drop-drop (8 * j) 8 p) in
        let size : drop (8 * suc j + 4) p ≡ drop (8 * j + 4) (drop 8 p) = ap (λ (n : ℕ). drop n p) s4 ∙ sym (drop-drop (8 * j + 4) 8 p) in
        record {
          start = rw start (r.start ∙ omega (arith, long, length-append x (joined (take j bs))));
          long = rw size r.long;
          bytes = rw (start, size) r.bytes;
        }

-- as many lengths are read as are asked for
lengths-many : (m o : ℕ) (p ns : List ℕ) → body_lengths m o p ≡ some ns → length ns ≡ m
unfolding body_lengths
lengths-many zero o p ns e = ap length (sym (some-injective [] ns e))
lengths-many (suc m) o p ns e =
    let n = unle (take 4 (drop 4 p)) in
    let g = if_some (eqb (unle (take 4 p)) o) (more (some n) (body_lengths m (o + n) (drop 8 p))) ns e in
    let l = more-after n (body_lengths m (o + n) (drop 8 p)) ns g.1 in
    ap length l.2 ∙ ap suc (lengths-many m (o + n) (drop 8 p) l.0 l.1)

-- no edition has body 9 without body 10
both-or-neither : (e : ℕ) → 8 < sections_of e → 9 < sections_of e
both-or-neither zero h = absurd (omega arith)
both-or-neither (suc zero) h = absurd (omega arith)
both-or-neither (suc (suc zero)) h = omega arith
both-or-neither (suc (suc (suc e))) h = absurd (omega arith)

-- A TABLE THAT IS LAID OUT

module _ (t : List ℕ) (bs : List (List ℕ)) (laid : bodies_in t ≡ some bs) where
  -- the header that was tested, the lengths that it says, and the bodies that are cut out by them
  record Cut : Type 0 where
    header : has_header (edition_in t) t ≡ true
    lengths : List ℕ
    read : body_lengths (sections_of (edition_in t)) (first_body (edition_in t)) (drop 4 t) ≡ some lengths
    cut : split_bodies lengths (drop (first_body (edition_in t)) t) ≡ some bs

  cuts : Cut
  unfolding bodies_in
  cuts =
      let e = edition_in t in
      let lengths = body_lengths (sections_of e) (first_body e) (drop 4 t) in
      let s = bound (cond (has_header e t) lengths none) (λ ns. split_bodies ns (drop (first_body e) t)) bs laid in
      let c = if_some (has_header e t) lengths s.0 s.1 in
      record { header = c.0; lengths = s.0; read = c.1; cut = s.2 }

  -- it is of an edition that there is, and has the bodies of this edition
  pub edition-there : 0 < sections_of (edition_in t)
  edition-there =
      let e = edition_in t in
      let long = (both_true (ltb 0 (sections_of e) && leb (first_body e) (length t)) (eqb (unle (take 2 (drop 2 t))) (sections_of e)) cuts.header).0 in
      ltb-true 0 (sections_of e) (both_true (ltb 0 (sections_of e)) (leb (first_body e) (length t)) long).0

  bodies-many : length bs ≡ sections_of (edition_in t)
  bodies-many =
      let e = edition_in t in
      sym (each-length length bs)
      ∙ ap length (split-only cuts.lengths (drop (first_body e) t) bs cuts.cut).0
      ∙ lengths-many (sections_of e) (first_body e) (drop 4 t) cuts.lengths cuts.read

  -- THE HEADER SAYS WHERE EACH BODY STANDS
  pub bodies-at : (k : ℕ) → k < sections_of (edition_in t) → BodyAt t bs k
  bodies-at k h =
      let e = edition_in t in
      let r = pairs-at (sections_of e) (first_body e) (drop 4 t) t cuts.lengths bs cuts.read cuts.cut k h in
      let start : drop (8 * k) (drop 4 t) ≡ drop (4 + 8 * k) t = drop-drop (8 * k) 4 t in
      let sum : 4 + (8 * k + 4) ≡ 8 + 8 * k = omega arith in
      let size : drop (8 * k + 4) (drop 4 t) ≡ drop (8 + 8 * k) t = drop-drop (8 * k + 4) 4 t ∙ ap (λ (n : ℕ). drop n t) sum in
      record {
        start = rw (← start) r.start;
        long = rw (← size) r.long;
        bytes = rw (← start, ← size) r.bytes;
      }

  -- among them the first eight
  pub least_at : (k : ℕ) → k < 8 → BodyAt t bs k
  least_at k h = bodies-at k (omega (arith, (edition-known (edition_in t) edition-there).least))

  -- the bodies 9 and 10 stand where the edition has them, and are empty where it does not
  pub relabels-at : leb (sections_of (edition_in t)) 8 ≡ false → BodyAt t bs 8 × BodyAt t bs 9
  relabels-at h =
      let more = leb-false (sections_of (edition_in t)) 8 h in (bodies-at 8 (omega arith), bodies-at 9 (both-or-neither (edition_in t) (omega arith)))

  pub relabels-none : leb (sections_of (edition_in t)) 8 ≡ true → (get_or bs 8 [] ≡ []) × (get_or bs 9 [] ≡ [])
  relabels-none h =
      let few = leb-true (sections_of (edition_in t)) 8 h in (
        get_or-eq_default bs [] {n = 8} (omega (arith, bodies-many)),
        get_or-eq_default bs [] {n = 9} (omega (arith, bodies-many)),
      )
