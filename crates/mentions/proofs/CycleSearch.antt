-- What the items say of the attributes that each attribute mentions, and the pass that looks for the first attribute in its own row. Assumes nothing.
use Prim.Native.Nat.{ℕ, ◌+◌, ◌<◌}
use native.Mathlib.Omega.{arith}
use mathlib.Core.Path.{◌≡◌, refl, sym, ap, ◌∙◌}
use mathlib.Core.Bool.{Bool, true, false, cond, ◌||◌}
use mathlib.Core.List.{List, [], ◌∷◌, ◌++◌}
use mathlib.Core.Option.{none, some}
use lib.ListN.{length, get_or, drop}
use lib.Dec.{eqb}
use Rattle.bitset.specs.Sets.{set_of}
use Rattle.bitset.proofs.SetLaws.{set_of-ext}
use Rattle.policy.specs.Basics.{gather, keep, is_among, any, each}
use Rattle.policy.specs.Statements.{Family, Reference, SetExpr, Policy, sets_for}
use Rattle.policy.specs.Faults.{mentions_s, on_cycle, places, first_cycle, family_cycle, mentions}
use Rattle.policy.specs.Accepted.{Accepted}
use Rattle.statement_code.specs.Code.{set_code, attribute_tag}
use Rattle.statement_code.specs.Numbered.{Numbered}
use Rattle.meaning_laws.proofs.ListLaws.{chosen}
use Rattle.code_reader.specs.Reading.{operands_of, step_of}
use Rattle.code_reader.proofs.Items.{Item, declares, items, place_in, places-items, place_here, tag-declares, tag-no-place, gain, sets-items}
use Rattle.code_reader.proofs.Numbers.{items-declared}
use Rattle.code_reader.proofs.Passes.{Through, Met, meet, onward}
use Rattle.bitset.specs.Relations.{joined}
use Rattle.policy.proofs.Lists.{any_append}
use Rattle.code_reader.proofs.OperandLaws.{Tagged, operands_of_lem}
use Rattle.statement_code.proofs.Numbers.{set_below}
use Rattle.mentions.proofs.OperandAttributes.{units-mention}

any-joined : {A : Type 0} (c : ℕ → Bool) (g : A → List ℕ) (xs : List A) → any c (joined (each g xs)) ≡ any (λ x. any c (g x)) xs
unfolding any joined each
any-joined c g [] = refl
any-joined c g (x ∷ xs) = any_append c (g x) (joined (each g xs)) ∙ ap (λ (t : Bool). any c (g x) || t) (any-joined c g xs)

pub mentions-items : (p : Policy) (f : Family) (a b : ℕ) → is_among b (mentions p f a) ≡ any (gain f (λ s x. is_among x (mentions_s s)) a b) (items p)
unfolding mentions is_among
mentions-items p f a b = any-joined (eqb b) mentions_s (sets_for f a p) ∙ sets-items f (λ s x. is_among x (mentions_s s)) a b p

-- the attributes that S mentions, as a test
abbrev pub named : SetExpr Reference → ℕ → Bool
named s b = is_among b (mentions_s s)

-- the attributes among the operands are those that S mentions
pub mentioned-set : (code : List ℕ) (from : ℕ) (s : SetExpr Reference) (rest : List ℕ) → Numbered s → Tagged rest → drop from code ≡ set_code s ++ rest
    → set_of 64 (λ b. is_among (1024 + b) (operands_of (drop from code))) ≡ set_of 64 (named s)
mentioned-set code from s rest h k q =
    let only : operands_of (drop from code) ≡ set_code s = ap operands_of q ∙ operands_of_lem (set_code s) rest (set_below s h) k in
    set_of-ext 64 (λ b. is_among (1024 + b) (operands_of (drop from code))) (named s) (λ b l. ap (is_among (1024 + b)) only ∙ units-mention b (omega (arith, l)) s h)

-- ---- the first attribute in its own row

-- the answer is still to be found among the places left, of attributes from a on
abbrev pub Seeks : Policy → Family → ℕ → List Item → List Item → Type 0
Seeks p f a done left = first_cycle p f a (gather (place_in f) left) ≡ family_cycle p f

pub seeks-first : (p : Policy) (f : Family) → Seeks p f 0 [] (items p)
seeks-first p f = ap (first_cycle p f 0) (sym (places-items p f))

pub seeks-none : (p : Policy) (f : Family) (a : ℕ) → Seeks p f a (items p) [] → none ≡ family_cycle p f
unfolding gather first_cycle
seeks-none p f a h = h

-- where none is on a cycle there is nothing to find
pub seeks-nothing : (p : Policy) (f : Family) → ((a : ℕ) → on_cycle p f a ≡ false) → none ≡ family_cycle p f
unfolding first_cycle
seeks-nothing p f off = go 0 (places p f)
  where
    go : (a : ℕ) (ats : List ℕ) → none ≡ first_cycle p f a ats
    go a [] = refl
    go a (x ∷ xs) = rw (off a, first_cycle) (go (a + 1) xs)

module _ (p : Policy) (ok : Accepted p) (f : Family) (a : ℕ) (code : List ℕ) (at : ℕ) (inside : at < length code) (t : Through (items p) code at (Seeks p f a)) where
  the-next : Met p (items p) code at (Seeks p f a)
  the-next = meet p ok (items p) (items-declared p ok) code at (Seeks p f a) inside t

  -- a declaration of the family: its attribute is on a cycle, or the next ones are asked
  chosen-here : get_or code at 0 ≡ attribute_tag f
      → cond (on_cycle p f a) (some (get_or code (at + 1) 0)) (first_cycle p f (a + 1) (gather (place_in f) the-next.rest)) ≡ family_cycle p f
  unfolding gather first_cycle
  chosen-here h = go (tag-declares f the-next.item (sym the-next.stand.tag ∙ h))
    where
      go : (x : ℕ) × (the-next.item ≡ declares f x)
          → cond (on_cycle p f a) (some (get_or code (at + 1) 0)) (first_cycle p f (a + 1) (gather (place_in f) the-next.rest)) ≡ family_cycle p f
      go (x, q) =
          let m = the-next in
          rw (m.stand.place, q) (sym (chosen (on_cycle p f a) (some x) (first_cycle p f (a + 1) (gather (place_in f) m.rest))))
          ∙ ap (λ o. first_cycle p f a (keep o (gather (place_in f) m.rest))) (sym (ap (place_in f) q ∙ place_here f x))
          ∙ m.so_far

  pub found_here : get_or code at 0 ≡ attribute_tag f → on_cycle p f a ≡ true → some (get_or code (at + 1) 0) ≡ family_cycle p f
  found_here h on = ap (λ (b : Bool). cond b (some (get_or code (at + 1) 0)) (first_cycle p f (a + 1) (gather (place_in f) the-next.rest))) (sym on) ∙ chosen-here h

  pub seeks-on : (next : ℕ) → next ≡ step_of code at → get_or code at 0 ≡ attribute_tag f → on_cycle p f a ≡ false → Through (items p) code next (Seeks p f (a + 1))
  seeks-on next e h off =
      onward p (items p) code at (Seeks p f a) (Seeks p f (a + 1)) next e the-next
      (ap (λ (b : Bool). cond b (some (get_or code (at + 1) 0)) (first_cycle p f (a + 1) (gather (place_in f) the-next.rest))) (sym off) ∙ chosen-here h)

  pub seeks-over : (next : ℕ) → next ≡ step_of code at → (get_or code at 0 ≡ attribute_tag f → ⊥) → Through (items p) code next (Seeks p f a)
  unfolding gather
  seeks-over next e h =
      let m = the-next in
      onward p (items p) code at (Seeks p f a) (Seeks p f a) next e m
      (ap (λ o. first_cycle p f a (keep o (gather (place_in f) m.rest))) (sym (tag-no-place f m.item (λ q. h (m.stand.tag ∙ q)))) ∙ m.so_far)
