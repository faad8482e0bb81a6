-- The computed test for a cycle decides the plain statement: after as many rounds as a family has attributes, everything that is
-- mentioned, directly or through others, is reached. Each round reaches one attribute more or nothing new. Assumes nothing.
use Prim.Native.Nat.{ℕ, zero, suc, ◌+◌, ◌≤◌, ◌<◌}
use native.Mathlib.Omega.{arith}
use mathlib.Core.Path.{◌≡◌, sym, ap, ◌∙◌}
use mathlib.Core.Logic.{◌⊎◌, inl, inr, ◌↔◌}
use mathlib.Core.Bool.{Bool, true, false, not, ◌&&◌, ◌||◌, and-true, and-false, or-false}
use mathlib.Core.List.{List}
use lib.Dec.{eqb, ltb}
use borrow.Author.Tests.{eqb-true, eqb-false, lt-ltb, le-ltb, ltb-true, ltb-false, not-true, not-false}
use Rattle.policy.specs.Basics.{any, gather, given, keep, is_among}
use Rattle.policy.specs.Statements.{Family, Policy}
use Rattle.policy.specs.Faults.{mentions, attributes_in, below, mentioned_by, reach, on_cycle}
use Rattle.policy.specs.Accepted.{Accepted}
use Rattle.policy.proofs.Lists.{both_true}
use Rattle.bitset.proofs.CountLaws.{count_below-le}
use Rattle.meaning_laws.specs.Mentions.{Mentions, directly, through}
use Rattle.meaning_laws.proofs.ListLaws.{decided, from_either, or_right, any-in, any_out}
use Rattle.meaning_laws.proofs.CountLaws.{among_below, count-more, find-below}
use Rattle.meaning_laws.proofs.DirectMention.{mentions-exactly, direct-declared}

-- the numbers below m that pass a test, as a list
among-kept : (o : Bool) (m b : ℕ) (r : List ℕ) → is_among b (keep (given o m) r) ≡ (eqb b m && o || is_among b r)
unfolding is_among any
among-kept true m b r = rw (and-true (eqb b m))
among-kept false m b r = rw (and-false (eqb b m))

below_next : (b m : ℕ) → (b ≡ m → ⊥) → ltb b (suc m) ≡ ltb b m
below_next b m ne = by (decided (ltb b m))
  where
    by : (ltb b m ≡ true) ⊎ (ltb b m ≡ false) → ltb b (suc m) ≡ ltb b m
    by (inl e) = lt-ltb b (suc m) (omega (arith, ltb-true b m e)) ∙ sym e
    by (inr e) = le-ltb b (suc m) (omega (arith, ne, ltb-false b m e)) ∙ sym e

among_below_lem : (t : ℕ → Bool) (m b : ℕ) → is_among b (gather (λ x. given (t x) x) (below m)) ≡ (ltb b m && t b)
unfolding gather below is_among any
among_below_lem t zero b = rw (le-ltb b 0 (omega arith))
among_below_lem t (suc m) b = among-kept (t m) m b (gather (λ x. given (t x) x) (below m)) ∙ by (decided (eqb b m)) (among_below_lem t m b)
  where
    by : (eqb b m ≡ true) ⊎ (eqb b m ≡ false) → is_among b (gather (λ x. given (t x) x) (below m)) ≡ (ltb b m && t b)
        → (eqb b m && t m || is_among b (gather (λ x. given (t x) x) (below m))) ≡ (ltb b (suc m) && t b)
    by (inl e) ih = rw (ih, e, le-ltb b m (omega (arith, eqb-true b m e)), lt-ltb b (suc m) (omega (arith, eqb-true b m e)), eqb-true b m e) (or-false (t m))
    by (inr e) ih = rw (ih, e, below_next b m (eqb-false b m e))

module _ (p : Policy) (f : Family) (ok : Accepted p) where
  -- b is in the list of what a mentions
  abbrev Names : ℕ → ℕ → Type 0
  Names a b = is_among b (mentions p f a) ≡ true

  names-declared : (a b : ℕ) → Names a b → b < attributes_in p f
  names-declared a b h = (direct-declared p f ok a b ((mentions-exactly p f a b).1 h)).1

  -- one round: these attributes and what they mention
  in-wider : (xs : List ℕ) (b : ℕ) → is_among b (mentioned_by p f xs) ≡ (ltb b (attributes_in p f) && (is_among b xs || any (λ a. is_among b (mentions p f a)) xs))
  unfolding mentioned_by
  in-wider xs b = among_below_lem (λ b. is_among b xs || any (λ a. is_among b (mentions p f a)) xs) (attributes_in p f) b

  wider-keeps : (xs : List ℕ) (b : ℕ) → b < attributes_in p f → is_among b xs ≡ true → is_among b (mentioned_by p f xs) ≡ true
  wider-keeps xs b l h = rw (in-wider xs b, lt-ltb b (attributes_in p f) l, h)

  wider-adds : (xs : List ℕ) (a b : ℕ) → is_among a xs ≡ true → Names a b → is_among b (mentioned_by p f xs) ≡ true
  wider-adds xs a b h k = rw (in-wider xs b, lt-ltb b (attributes_in p f) (names-declared a b k))
      (or_right (is_among b xs) (any (λ a. is_among b (mentions p f a)) xs) (any-in (λ a. is_among b (mentions p f a)) a xs h k))

  wider-only : (xs : List ℕ) (b : ℕ) → is_among b (mentioned_by p f xs) ≡ true → (is_among b xs ≡ true) ⊎ ((a : ℕ) × (is_among a xs ≡ true) × Names a b)
  wider-only xs b h = from_either (is_among b xs) (any (λ a. is_among b (mentions p f a)) xs)
      (λ e. inl e)
      (λ e. inr (any_out (λ a. is_among b (mentions p f a)) xs e))
      (both_true (ltb b (attributes_in p f)) (is_among b xs || any (λ a. is_among b (mentions p f a)) xs) (sym (in-wider xs b) ∙ h)).1

  -- SOUND: only what is mentioned is reached
  reached-mentioned : (k a : ℕ) (xs : List ℕ) → ((x : ℕ) → is_among x xs ≡ true → Mentions p f a x)
      → (b : ℕ) → is_among b (reach k p f xs) ≡ true → Mentions p f a b
  unfolding reach
  reached-mentioned zero a xs h b e = h b e
  reached-mentioned (suc k) a xs h b e = reached-mentioned k a (mentioned_by p f xs) (λ x q. by x (wider-only xs x q)) b e
    where
      by : (x : ℕ) → (is_among x xs ≡ true) ⊎ ((y : ℕ) × (is_among y xs ≡ true) × Names y x) → Mentions p f a x
      by x (inl q) = h x q
      by x (inr q) = through (h q.0 q.1) (directly ((mentions-exactly p f q.0 x).1 q.2))

  -- COMPLETE: a list that holds what its members mention
  abbrev Closed : List ℕ → Type 0
  Closed xs = (a b : ℕ) → is_among a xs ≡ true → Names a b → is_among b xs ≡ true

  closed_after : (xs : List ℕ) → Closed xs → Closed (mentioned_by p f xs)
  closed_after xs c a b h k = wider-keeps xs b (names-declared a b k) (c a b (inside (wider-only xs a h)) k)
    where
      inside : (is_among a xs ≡ true) ⊎ ((y : ℕ) × (is_among y xs ≡ true) × Names y a) → is_among a xs ≡ true
      inside (inl q) = q
      inside (inr q) = c q.0 a q.1 q.2

  -- how many attributes are among these
  abbrev size : List ℕ → ℕ
  size xs = among_below (attributes_in p f) xs

  -- one round reaches nothing new, or one attribute more
  round : (xs : List ℕ) → Closed xs ⊎ (suc (size xs) ≤ size (mentioned_by p f xs))
  round xs = by (find-below (attributes_in p f) (λ b. is_among b (mentioned_by p f xs) && not (is_among b xs)))
    where
      old : (b : ℕ) → is_among b (mentioned_by p f xs) ≡ true → (is_among b (mentioned_by p f xs) && not (is_among b xs)) ≡ false → is_among b xs ≡ true
      old b e q = not-false (is_among b xs) (sym (ap (λ t. t && not (is_among b xs)) e) ∙ q)

      by : ((b : ℕ) → b < attributes_in p f → (is_among b (mentioned_by p f xs) && not (is_among b xs)) ≡ false)
          ⊎ ((b : ℕ) × (b < attributes_in p f) × ((is_among b (mentioned_by p f xs) && not (is_among b xs)) ≡ true))
          → Closed xs ⊎ (suc (size xs) ≤ size (mentioned_by p f xs))
      by (inl h) = inl (λ a b e k. old b (wider-adds xs a b e k) (h b (names-declared a b k)))
      by (inr h) =
          let new = both_true (is_among h.0 (mentioned_by p f xs)) (not (is_among h.0 xs)) h.2 in
          inr (count-more (attributes_in p f) (λ y. is_among y xs) (λ y. is_among y (mentioned_by p f xs)) h.0 (wider-keeps xs) h.1
          (not-true (is_among h.0 xs) new.1) new.0)

  closed_on : (k : ℕ) (xs : List ℕ) → Closed xs → Closed (reach k p f xs)
  unfolding reach
  closed_on zero xs c = c
  closed_on (suc k) xs c = closed_on k (mentioned_by p f xs) (closed_after xs c)

  -- k rounds reach everything, or k attributes more
  grown : (k : ℕ) (xs : List ℕ) → Closed (reach k p f xs) ⊎ (k + size xs ≤ size (reach k p f xs))
  unfolding reach
  grown zero xs = inr (omega arith)
  grown (suc k) xs = by (round xs) (grown k (mentioned_by p f xs))
    where
      end : List ℕ
      end = reach k p f (mentioned_by p f xs)

      by : Closed xs ⊎ (suc (size xs) ≤ size (mentioned_by p f xs)) → Closed end ⊎ (k + size (mentioned_by p f xs) ≤ size end) → Closed end ⊎ (suc k + size xs ≤ size end)
      by (inl c) r = inl (closed_on k (mentioned_by p f xs) (closed_after xs c))
      by (inr h) (inl c) = inl c
      by (inr h) (inr g) = inr (omega (arith, h, g))

  enough : (xs : List ℕ) → Closed (reach (attributes_in p f) p f xs)
  enough xs = by (grown (attributes_in p f) xs) (round end)
    where
      end : List ℕ
      end = reach (attributes_in p f) p f xs

      by : Closed end ⊎ (attributes_in p f + size xs ≤ size end) → Closed end ⊎ (suc (size end) ≤ size (mentioned_by p f end)) → Closed end
      by (inl c) r = c
      by (inr h) (inl c) = c
      by (inr h) (inr g) = absurd (omega (arith, h, g, count_below-le (attributes_in p f) (λ y. is_among y (mentioned_by p f end))))

  kept_on : (k : ℕ) (xs : List ℕ) (b : ℕ) → b < attributes_in p f → is_among b xs ≡ true → is_among b (reach k p f xs) ≡ true
  unfolding reach
  kept_on zero xs b l h = h
  kept_on (suc k) xs b l h = kept_on k (mentioned_by p f xs) b l (wider-keeps xs b l h)

  -- what a closed list's members mention, directly or through others, it holds
  closed-through : (xs : List ℕ) → Closed xs → {b c : ℕ} → Mentions p f b c → is_among b xs ≡ true → is_among c xs ≡ true
  closed-through xs h (directly {a = b} {b = c} m) e = h b c e ((mentions-exactly p f b c).0 m)
  closed-through xs h (through m n) e = closed-through xs h n (closed-through xs h m e)

  mentioned-reached : {a b : ℕ} → Mentions p f a b → is_among b (reach (attributes_in p f) p f (mentions p f a)) ≡ true
  mentioned-reached (directly {a} {b} m) = kept_on (attributes_in p f) (mentions p f a) b (direct-declared p f ok a b m).1 ((mentions-exactly p f a b).0 m)
  mentioned-reached (through {a} {b} {c} m n) = closed-through (reach (attributes_in p f) p f (mentions p f a)) (enough (mentions p f a)) n (mentioned-reached m)

  -- ON A CYCLE: the computed test says exactly whether an attribute's sets mention it, directly or through others
  pub on-cycle-exactly : (a : ℕ) → (on_cycle p f a ≡ true) ↔ Mentions p f a a
  unfolding on_cycle
  on-cycle-exactly a = (reached-mentioned (attributes_in p f) a (mentions p f a) (λ x h. directly ((mentions-exactly p f a x).1 h)) a, mentioned-reached)
