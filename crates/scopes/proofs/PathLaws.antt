-- Full names and dots: the last dot of a block's full name is after the full name of the block around it. Assumes nothing.
use mathlib.Core.Path.{◌≡◌, refl, sym, ap, ◌∙◌}
use mathlib.Core.Bool.{true, false, not, and-false}
use mathlib.Core.List.{List, [], ◌∷◌, ◌++◌, append_assoc}
use Prim.Native.Nat.{ℕ, suc, ◌+◌, ◌<◌, ◌≤◌}
use native.Mathlib.Omega.{arith}
use lib.Dec.{eqb, ltb}
use lib.ListN.{length, get_or, take, drop, length-append, length-drop}
use lib.Seq.{take-append_seam, split_at, length-take-le}
use Rattle.std.proofs.lemmas.List.{get_or-drop}
use Rattle.std.specs.Prelude.{Option, MatchOption, unwrap_or, Some, None}
use borrow.Author.Tests.{ltb-true, ne_eqb}
use Rattle.policy.specs.Basics.{Name, every}
use Rattle.policy.specs.Words.{dotless}
use Rattle.policy.specs.Names.{full}
use Rattle.policy.proofs.Lists.{both_true, true-both}
use Rattle.scopes.specs.Path.{scope_of, is_one_part}
use Rattle.scopes.specs.Scope.{last_dot, within}

-- ---- the last dot of a name

pub cut-dotless : (s : Name) → dotless s ≡ true → last_dot s ≡ 0
unfolding last_dot dotless
cut-dotless [] h = refl
cut-dotless (c ∷ s) h = rw (both_true (not (eqb c 46)) (dotless s) h).1

not-dotless : (a d : Name) → dotless (a ++ (46 ∷ d)) ≡ false
unfolding dotless
not-dotless [] d = refl
not-dotless (c ∷ a) d = rw (not-dotless a d) (and-false (not (eqb c 46)))

-- after it there is none
pub cut-last : (a d : Name) → dotless d ≡ true → last_dot (a ++ (46 ∷ d)) ≡ length a
unfolding last_dot
cut-last [] d h = rw h
cut-last (c ∷ a) d h = rw (not-dotless a d, cut-last a d h) (omega arith)

-- a name with no dot in any place, or in none after one
no-dot : (s : Name) → ((k : ℕ) → k < length s → get_or s k 0 ≡ 46 → ⊥) → dotless s ≡ true
unfolding dotless
no-dot [] h = refl
no-dot (c ∷ s) h = rw (ne_eqb c 46 (h 0 (omega arith))) (no-dot s (λ k l. h (suc k) (omega arith)))

no_last : (s : Name) → ((k : ℕ) → k < length s → get_or s k 0 ≡ 46 → ⊥) → 0 ≡ last_dot s
no_last s h = sym (cut-dotless s (no-dot s h))

last-at : (s : Name) (i : ℕ) → i < length s → get_or s i 0 ≡ 46 → ((k : ℕ) → i + 1 ≤ k → k < length s → get_or s k 0 ≡ 46 → ⊥) → i ≡ last_dot s
last-at s i inside here after =
    let split : s ≡ take i s ++ (46 ∷ drop (suc i) s) =
    split_at s i 0 inside ∙ ap (λ (c : ℕ). take i s ++ (c ∷ drop (suc i) s)) here in
    let rest : dotless (drop (suc i) s) ≡ true =
    no-dot (drop (suc i) s)
    (λ k l e. after (suc i + k) (omega arith) (omega (arith, length-drop (suc i) s)) (sym (get_or-drop (suc i) s k 0) ∙ e)) in
    sym (ap last_dot split ∙ cut-last (take i s) (drop (suc i) s) rest ∙ length-take-le i s (omega arith))

-- the last place that has a dot, where there is one
abbrev pub LastDot : Name → Option ℕ → Type 0
LastDot s r =
    MatchOption r ((k : ℕ) → k < length s → get_or s k 0 ≡ 46 → ⊥)
    (λ i. (i < length s) × (get_or s i 0 ≡ 46) × ((k : ℕ) → i + 1 ≤ k → k < length s → get_or s k 0 ≡ 46 → ⊥))

pub last-dot-is : (s : Name) (r : Option ℕ) → LastDot s r
    → (unwrap_or r 0 ≡ last_dot s) × (0 < length s → unwrap_or r 0 < length s) × (unwrap_or r 0 ≤ length s)
last-dot-is s None h = (no_last s h, λ l. l, omega arith)
last-dot-is s (Some i) h = (last-at s i h.0 h.1 h.2, λ l. h.0, omega (arith, h.0))

-- ---- full names

-- in a block: its full name, a dot, and the name
pub full-in : (p : Name) (path : List Name) (w : Name) → full (p ∷ path) w ≡ full path p ++ (46 ∷ w)
unfolding full
full-in p path w = append_assoc (full path p) (46 ∷ []) w

pub full-long : (p : Name) (path : List Name) (w : Name) → length (full (p ∷ path) w) ≡ length (full path p) + 1 + length w
full-long p path w = ap length (full-in p path w) ∙ omega (arith, length-append (full path p) (46 ∷ w))

pub full-some : (path : List Name) (b : Name) → 0 < length b → 0 < length (full path b)
unfolding full
full-some [] b h = h
full-some (p ∷ path) b h = omega (arith, full-long p path b)

pub cut-full : (path : List Name) (b : Name) → dotless b ≡ true → last_dot (full path b) ≡ length (scope_of path)
unfolding full
cut-full [] b h = cut-dotless b h
cut-full (p ∷ path) b h = ap last_dot (full-in p path b) ∙ cut-last (full path p) b h

pub front-full : (path : List Name) (b : Name) → take (length (scope_of path)) (full path b) ≡ scope_of path
unfolding full
front-full [] b = refl
front-full (p ∷ path) b = ap (take (length (full path p))) (full-in p path b) ∙ take-append_seam (full path p) (46 ∷ b)

-- ---- the parts of a path

pub first_part : (b : Name) (path : List Name) → every is_one_part (b ∷ path) ≡ true → (0 < length b) × (dotless b ≡ true)
unfolding every
first_part b path h =
    let q = both_true (ltb 0 (length b)) (dotless b) (both_true (is_one_part b) (every is_one_part path) h).0 in
    (ltb-true 0 (length b) q.0, q.1)

pub other-parts : (b : Name) (path : List Name) → every is_one_part (b ∷ path) ≡ true → every is_one_part path ≡ true
unfolding every
other-parts b path h = (both_true (is_one_part b) (every is_one_part path) h).1

pub part-more : (b : Name) (path : List Name) → is_one_part b ≡ true → every is_one_part path ≡ true → every is_one_part (b ∷ path) ≡ true
unfolding every
part-more b path h g = true-both (is_one_part b) (every is_one_part path) h g

-- a block that is open has a full name of at least a byte
pub some_block : (b : Name) (path : List Name) → every is_one_part (b ∷ path) ≡ true → 0 < length (scope_of (b ∷ path))
some_block b path h = full-some path b (first_part b path h).0

-- no block is open exactly where the scope is empty
pub no_block : (path : List Name) → every is_one_part path ≡ true → length (scope_of path) ≡ 0 → path ≡ []
no_block [] h e = refl
no_block (b ∷ path) h e = absurd (omega (arith, some_block b path h))

-- ---- a name in the block of a full name

pub within-some : (s w : Name) → 0 < length s → within s w ≡ s ++ (46 ∷ w)
within-some [] w h = absurd (omega arith)
within-some (c ∷ s) w h = append_assoc (c ∷ s) (46 ∷ []) w

-- the full name of the innermost block is all that a path puts in front of a name
pub within-full : (path : List Name) (w : Name) → every is_one_part path ≡ true → within (scope_of path) w ≡ full path w
unfolding full
within-full [] w h = refl
within-full (b ∷ path) w h = within-some (full path b) w (some_block b path h) ∙ sym (full-in b path w)
