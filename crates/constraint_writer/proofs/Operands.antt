-- What a side is compared with, by what its second word is found to be. Assumes nothing.
use mathlib.Core.Path.{◌≡◌, refl, sym, ap, subst, ◌∙◌}
use mathlib.Core.Bool.{true, false, false≢true, true≢false}
use mathlib.Core.List.{List, [], ◌∷◌}
use mathlib.Core.Option.{Option, none, some}
use Prim.Native.Nat.{ℕ, zero, suc, ◌+◌, ◌-◌, ◌≤◌, ◌<◌}
use native.Mathlib.Omega.{arith}
use lib.ListN.{get_or, take, drop}
use Rattle.std.specs.Prelude as prelude
use Rattle.std.specs.Prelude.{None, Some, is_some}
use Rattle.policy.specs.Statements.{Family, users, roles, types, Side, source, target, process, thing_of, attribute_of, Reference, thing, attribute, Sort}
use Rattle.policy.specs.Words.{three_sides, Component, component_of}
use Rattle.policy.specs.Names.{refer, Named, reference_of}
use Rattle.policy.specs.Rows.{comp_code}
use Rattle.policy.specs.Encode.{sort_code}
use Rattle.policy.specs.Basics.{Name, ◌>>=◌}
use Rattle.policy.proofs.Sorts.{thing-sort, attribute-sort}
use Rattle.words.specs.Numbers.{word_of}
use Rattle.items.specs.declared.Item.{Item}
use Rattle.items.proofs.Frames.{FramesSeen}
use Rattle.items.proofs.Items.{word-lent}
use Rattle.scopes.specs.Symbols.{Looks}
use Rattle.symbols.specs.SearchAnswers.{family_code, found_named}
use Rattle.std.specs.Prelude.{None}
use Rattle.symbols.specs.Lookup.{found_at}
use Rattle.symbols.specs.declared.Symbol.{Symbol}
use Rattle.symbols.proofs.SymbolLaws.{found-same}
use Rattle.constraint_writer.specs.RowFields.{code_of, operand_of, Compares}
use Rattle.constraint_writer.specs.declared.Operand.{Operand}

-- ---- components

-- the number of a component's family: u1 u2 r1 r2 t1 t2, then u3 r3, and t3
abbrev family_at : ℕ → ℕ
family_at k = get_or (0 ∷ 0 ∷ 1 ∷ 1 ∷ 2 ∷ 2 ∷ 0 ∷ 1 ∷ []) k 2

family-code : (f : Family) (s : Side) → family_at (comp_code f s) ≡ family_code f
family-code users source = refl
family-code users target = refl
family-code users process = refl
family-code roles source = refl
family-code roles target = refl
family-code roles process = refl
family-code types source = refl
family-code types target = refl
family-code types process = refl

pub family-is : (k : ℕ) {r : ℕ} → family_at k ≡ r → (f : Family) (s : Side) → k ≡ comp_code f s → r ≡ family_code f
family-is k e f s d = sym e ∙ ap (λ (n : ℕ). family_at n) d ∙ family-code f s

pub two-of-users : (k : ℕ) → k < 2 → family_at k ≡ 0
two-of-users zero h = refl
two-of-users (suc zero) h = refl
two-of-users (suc (suc k)) h = absurd (omega arith)

pub two-of-roles : (k : ℕ) → 2 ≤ k → k < 4 → family_at k ≡ 1
two-of-roles zero g h = absurd (omega arith)
two-of-roles (suc zero) g h = absurd (omega arith)
two-of-roles (suc (suc zero)) g h = refl
two-of-roles (suc (suc (suc zero))) g h = refl
two-of-roles (suc (suc (suc (suc k)))) g h = absurd (omega arith)

pub all-of-types : (k : ℕ) → 4 ≤ k → (k ≡ 6 → ⊥) → (k ≡ 7 → ⊥) → family_at k ≡ 2
all-of-types zero g a b = absurd (omega arith)
all-of-types (suc zero) g a b = absurd (omega arith)
all-of-types (suc (suc zero)) g a b = absurd (omega arith)
all-of-types (suc (suc (suc zero))) g a b = absurd (omega arith)
all-of-types (suc (suc (suc (suc zero)))) g a b = refl
all-of-types (suc (suc (suc (suc (suc zero))))) g a b = refl
all-of-types (suc (suc (suc (suc (suc (suc zero)))))) g a b = absurd (a refl)
all-of-types (suc (suc (suc (suc (suc (suc (suc zero))))))) g a b = absurd (b refl)
all-of-types (suc (suc (suc (suc (suc (suc (suc (suc k)))))))) g a b = refl

no-component : (o : Option Component) → is_some (code_of o) ≡ false → o ≡ none
no-component none e = refl
no-component (some x) e = absurd (true≢false e)

-- the kind of a row and a number
abbrev of : ℕ → ℕ → prelude.Option Operand
of k n = Some (record { kind = k; number = n })

two-sides : (o : Option Component) (r : Option Reference) → is_some (code_of o) ≡ true → of 3 0 ≡ operand_of o r
two-sides none r h = absurd (false≢true h)
two-sides (some x) r h = refl

-- ---- what is found

-- what stands for a name, as a thing or an attribute
abbrev referred : Option Named → Option Reference
referred o = o >>= λ d. some (reference_of d)

module _ (d : Named) (sort n : ℕ) (e : found_at (sort_code d.sort) d.number ≡ found_at sort n) where
  same-sort : sort_code d.sort ≡ sort
  same-sort = (found-same e).0

  same_number : d.number ≡ n
  same_number = (found-same e).1

  abbrev by-sort : Sort → prelude.Option Operand
  by-sort s = operand_of none (some (elim s [ thing_of f ↦ thing d.number | attribute_of f ↦ attribute d.number ]))

  as-thing : sort < 3 → (s : Sort) → d.sort ≡ s → of 4 n ≡ by-sort s
  as-thing h (thing_of f) q = rw same_number
  as-thing h (attribute_of f) q = absurd (omega (arith, attribute-sort f, same-sort, ap sort_code q))

  as-attribute : 3 ≤ sort → (s : Sort) → d.sort ≡ s → of 5 n ≡ by-sort s
  as-attribute h (attribute_of f) q = rw same_number
  as-attribute h (thing_of f) q = absurd (omega (arith, thing-sort f, same-sort, ap sort_code q))

thing-found : (o : Option Named) (sort n : ℕ) → found_named o ≡ found_at sort n → sort < 3 → of 4 n ≡ operand_of none (referred o)
thing-found none sort n e h = absurd (let z : ◌≡◌ {A = ℕ} 0 1 = cc in omega arith)
thing-found (some d) sort n e h = as-thing d sort n e h d.sort refl

attribute-found : (o : Option Named) (sort n : ℕ) → found_named o ≡ found_at sort n → 3 ≤ sort → of 5 n ≡ operand_of none (referred o)
attribute-found none sort n e h = absurd (let z : ◌≡◌ {A = ℕ} 0 1 = cc in omega arith)
attribute-found (some d) sort n e h = as-attribute d sort n e h d.sort refl

none_found : (o : Option Named) → found_named o ≡ None → None ≡ operand_of none (referred o)
none_found none e = refl
none_found (some d) e = absurd (let z : ◌≡◌ {A = ℕ} 0 1 = cc in omega arith)

-- ---- the answers

module _ (w : Name) (number side : ℕ) (symbols : List ℕ) (code : prelude.Option ℕ) (is : code ≡ code_of (component_of three_sides (word_of number))) where
  pub a-side : is_some code ≡ true → Compares w number side symbols (of 3 0)
  a-side h = record { operand = λ env f s y e. two-sides (component_of three_sides (word_of number)) _ (ap is_some (sym is) ∙ h) }

  module _ (h : is_some code ≡ false) (family : ℕ) (d : (f : Family) (s : Side) → side ≡ comp_code f s → family ≡ family_code f) (r : prelude.Option Symbol) (e : Looks symbols family w r) where
    by-reference : (k : prelude.Option Symbol) (o : prelude.Option Operand) → r ≡ k → ((x : Option Named) → found_named x ≡ k → o ≡ operand_of none (referred x))
        → Compares w number side symbols o
    unfolding refer
    by-reference k o g q = record {
      operand = λ env f s y i.
          let found : r ≡ found_named (env.find f w) = e.names env f y (sym (d f s i)) in
          rw (no-component (component_of three_sides (word_of number)) (ap is_some (sym is) ∙ h)) (q (env.find f w) (sym found ∙ g));
    }

    pub a-thing : (sort n : ℕ) → r ≡ found_at sort n → sort < 3 → Compares w number side symbols (of 4 n)
    a-thing sort n g l = by-reference (found_at sort n) (of 4 n) g (λ x d. thing-found x sort n d l)

    pub an-attribute : (sort n : ℕ) → r ≡ found_at sort n → 3 ≤ sort → Compares w number side symbols (of 5 n)
    an-attribute sort n g l = by-reference (found_at sort n) (of 5 n) g (λ x d. attribute-found x sort n d l)

    pub missing : r ≡ None → Compares w number side symbols None
    missing g = by-reference None None g none_found

-- what was answered of the bytes that are lent is said of the word
pub compares-told : {t : List ℕ} {at start len x next : ℕ} → FramesSeen t at (Item.Word start len x next) → {symbols : List ℕ} {number side : ℕ} {r k : prelude.Option Operand}
    → Compares (take ((start + len) - start) (drop start t)) number side symbols r → r ≡ k → Compares (take len (drop start t)) number side symbols k
compares-told {t} {start = start} {len = len} l {symbols} {number} {side} {k = k} c e =
    subst (λ (w : Name). Compares w number side symbols k) (word-lent t start len)
    (subst (Compares (take ((start + len) - start) (drop start t)) number side symbols) e c)
