-- The names of a row that were looked at differ, and their first eight bytes are kept. The next one is among them, or they and it differ too. Assumes nothing.
use mathlib.Core.Path.{◌≡◌, refl, sym, ap, ◌∙◌}
use mathlib.Core.Bool.{Bool, true, false, not, false≢true}
use mathlib.Core.List.{List, [], ◌∷◌, ◌++◌, append-nil}
use Prim.Native.Nat.{ℕ, ◌+◌, ◌≤◌}
use native.Mathlib.Omega.{arith}
use lib.ListN.{length, take, drop, set, take-append-drop, length-set}
use lib.Seq.{take-add}
use Rattle.byte_slices.specs.Parts.{part}
use Rattle.lexer.specs.Forms.{frames_at}
use Rattle.lexer.proofs.Ends.{rest}
use Rattle.policy.specs.Basics.{Name, is_in, differ}
use Rattle.policy.proofs.Differing.{differ-more, differ_new}
use Rattle.name_index.specs.Index.{front_of}
use Rattle.name_rows.specs.WordRows.{words_in, is_among_first, may_be_among, WordHere}
use Rattle.name_rows.proofs.Rows.{words-here}
use Rattle.name_rows.proofs.Fronts.{Keeps, keeps-none, keeps-more, not-among}

-- ---- the first names of a list, and the next

module _ (ws : List Name) (k : ℕ) (x : Name) (xs : List Name) (e : drop k ws ≡ x ∷ xs) where
  whole : take k ws ++ (x ∷ xs) ≡ ws
  whole = ap (λ (r : List Name). take k ws ++ r) (sym e) ∙ take-append-drop k ws

  one_more : take (k + 1) ws ≡ take k ws ++ (x ∷ [])
  one_more = take-add k 1 ws ∙ ap (λ (r : List Name). take k ws ++ take 1 r) e

  not-apart : is_in x (take k ws) ≡ true → differ ws ≡ false
  not-apart h = by (differ ws) refl
    where
      by : (q : Bool) → differ ws ≡ q → q ≡ false
      by false d = refl
      by true d = absurd (false≢true (sym (differ_new (take k ws) x xs (ap differ whole ∙ d)) ∙ h))

-- ---- the names of the row at a place

-- the first k of them are before i, and differ; fs has their first eight bytes, as far as there is room
pub record Passed (t : List ℕ) (at : ℕ) (fs : List ℕ) (k i : ℕ) : Type 0 where
  pub left : drop k (words_in (frames_at t at).here) ≡ words_in (frames_at t i).here
  pub apart : differ (take k (words_in (frames_at t at).here)) ≡ true
  pub keeps : Keeps fs k (words_in (frames_at t at).here)
  pub long : 32 ≡ length fs
  pub few : k ≤ i

module _ (t : List ℕ) (at : ℕ) where
  abbrev ws : List Name
  ws = words_in (frames_at t at).here

  pub passed_none : (fs : List ℕ) → 32 ≡ length fs → Passed t at fs 0 at
  unfolding differ
  passed_none fs l = record { left = refl; apart = refl; keeps = keeps-none fs ws; long = l; few = omega arith }

  module _ (fs : List ℕ) (k i : ℕ) (p : Passed t at fs k i) where
    -- there are no more
    pub none-twice : words_in (frames_at t i).here ≡ [] → false ≡ not (differ ws)
    none-twice h =
        let all : take k ws ≡ ws = sym (append-nil (take k ws)) ∙ ap (λ (r : List Name). take k ws ++ r) (sym (p.left ∙ h)) ∙ take-append-drop k ws in
        ap not (sym p.apart ∙ ap differ all)

    module _ (start len : ℕ) (h : WordHere t i start len) where
      abbrev next : drop k ws ≡ part t start len ∷ words_in (frames_at t (start + len)).here
      next = p.left ∙ words-here h

      -- where its first eight bytes are not those of one of them, it is none of them
      pub not-passed : (front : ℕ) → front ≡ front_of (part t start len) → false ≡ may_be_among fs k front → is_among_first t at k (part t start len) ≡ false
      not-passed front e g = not-among fs k front (part t start len) ws e p.keeps g

      pub stands-twice : is_among_first t at k (part t start len) ≡ true → true ≡ not (differ ws)
      stands-twice q = ap not (sym (not-apart ws k (part t start len) (words_in (frames_at t (start + len)).here) next q))

      pub passed-more : (front : ℕ) → front ≡ front_of (part t start len) → is_among_first t at k (part t start len) ≡ false
          → Passed t at (set fs k front) (k + 1) (start + len)
      passed-more front e q = record {
        left = rest ws (words_in (frames_at t (start + len)).here) (part t start len) k next;
        apart = ap differ more ∙ differ-more (take k ws) (part t start len) p.apart q;
        keeps = keeps-more fs k front (part t start len) ws more e p.keeps;
        long = p.long ∙ sym (length-set fs k front);
        few = omega (arith, p.few, h.ahead);
      }
        where
          more : take (k + 1) ws ≡ take k ws ++ (part t start len ∷ [])
          more = one_more ws k (part t start len) (words_in (frames_at t (start + len)).here) next
