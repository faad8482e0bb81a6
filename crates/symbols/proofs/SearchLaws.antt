-- A search among the entries of declarations: how it goes on by an entry, by the permissions of a class, and by a declaration, and what
-- numbers that go on from a first one come to. Assumes nothing.
use mathlib.Core.Path.{◌≡◌, refl, sym, ap, ◌∙◌}
use mathlib.Core.Bool.{Bool, true, false, ◌||◌, cond}
use mathlib.Core.List.{List, [], ◌∷◌, ◌++◌}
use mathlib.Core.Option as maybe
use mathlib.Core.Option.{none, some}
use Prim.Native.Nat.{ℕ, ◌+◌, ◌*◌, ◌/◌, ◌≤◌, ◌<◌}
use native.Mathlib.Omega.{arith}
use borrow.Author.Tests.{eq-eqb, ne_eqb, eqb-true}
use lib.ListN.{length}
use lib.Dec.{eqb}
use Rattle.policy.specs.Basics.{Name, same, any, is_in, next, index_of}
use Rattle.policy.specs.Statements.{users, roles, types, Sort, thing_of, attribute_of, Declaration, plain, class, class_names, count}
use Rattle.policy.specs.Encode.{NameEntry, name_entry, sort_code, permission_entries, entries_from}
use Rattle.policy.proofs.Lists.{both_true, same-is}
use Rattle.std.specs.Prelude.{Option, None, is_some}
use Rattle.std.specs.Option.{option_or}
use Rattle.symbols.specs.Lookup.{family_number, is_named, found_at, first_named}
use Rattle.symbols.specs.SearchAnswers.{found_number}
use Rattle.symbols.specs.declared.Symbol.{Symbol}

-- ---- by an entry

pub first-cons : (f : ℕ) (w : Name) (e : NameEntry) (es : List NameEntry) (q : Bool) → is_named f w e ≡ q
    → first_named f w (e ∷ es) ≡ cond q (found_at e.sort e.number) (first_named f w es)
unfolding first_named
first-cons f w e es q h = rw h

pub first-append : (f : ℕ) (w : Name) (xs ys : List NameEntry) → first_named f w (xs ++ ys) ≡ option_or (first_named f w xs) (first_named f w ys)
unfolding first_named
first-append f w [] ys = refl
first-append f w (x ∷ xs) ys = by (first-append f w xs ys) (is_named f w x)
  where
    by : first_named f w (xs ++ ys) ≡ option_or (first_named f w xs) (first_named f w ys) → (q : Bool)
        → cond q (found_at x.sort x.number) (first_named f w (xs ++ ys))
        ≡ option_or (cond q (found_at x.sort x.number) (first_named f w xs)) (first_named f w ys)
    by ih true = refl
    by ih false = ih

-- an entry of another family is passed over
pub skip-entry : (f : ℕ) (w : Name) (e : NameEntry) (es : List NameEntry) → (family_number e.sort e.number ≡ f → ⊥) → first_named f w (e ∷ es) ≡ first_named f w es
skip-entry f w e es h = first-cons f w e es false (rw (ne_eqb (family_number e.sort e.number) f h))

-- an entry of the family is the one, or is passed over
pub own-entry : (f : ℕ) (w : Name) (e : NameEntry) (es : List NameEntry) → family_number e.sort e.number ≡ f
    → first_named f w (e ∷ es) ≡ cond (same w e.name) (found_at e.sort e.number) (first_named f w es)
own-entry f w e es h = first-cons f w e es (same w e.name) (rw (eq-eqb (family_number e.sort e.number) f h))

-- ---- numbers that go on

pub found-next : (s n : ℕ) (o : maybe.Option ℕ) → found_number s (n + 1) o ≡ found_number s n (next o)
found-next s n none = refl
found-next s n (some k) = ap (found_at s) (omega arith)

pub found-index : (w : Name) (s n : ℕ) (x : Name) (xs : List Name) (r : Option Symbol) → r ≡ found_number s (n + 1) (index_of w xs)
    → cond (same w x) (found_at s n) r ≡ found_number s n (index_of w (x ∷ xs))
unfolding index_of
found-index w s n x xs r h = by (same w x)
  where
    by : (q : Bool) → cond q (found_at s n) r ≡ found_number s n (cond q (some 0) (next (index_of w xs)))
    by true = ap (found_at s) (omega arith)
    by false = h ∙ found-next s n (index_of w xs)

-- something is found exactly where the name is one of them
pub found_in : (w : Name) (s n : ℕ) (xs : List Name) → is_some (found_number s n (index_of w xs)) ≡ is_in w xs
unfolding index_of is_in any
found_in w s n [] = refl
found_in w s n (x ∷ xs) = by (found_in w s (n + 1) xs) (same w x)
  where
    by : is_some (found_number s (n + 1) (index_of w xs)) ≡ any (same w) xs → (q : Bool) → is_some (found_number s n (cond q (some 0) (next (index_of w xs)))) ≡ (q || any (same w) xs)
    by ih true = refl
    by ih false = ap is_some (sym (found-next s n (index_of w xs))) ∙ ih

-- ---- permissions of one class

pub permissions-other : (f : ℕ) (w : Name) (n : ℕ) (ps : List Name) → ((k : ℕ) → n ≤ k → k < n + length ps → 4 + k / 32 ≡ f → ⊥)
    → first_named f w (permission_entries n ps) ≡ None
unfolding permission_entries first_named
permissions-other f w n [] h = refl
permissions-other f w n (p ∷ ps) h =
    skip-entry f w (name_entry 7 n p) (permission_entries (n + 1) ps) (h n (omega arith) (omega arith))
    ∙ permissions-other f w (n + 1) ps (λ k l g. h k (omega arith) (omega arith))

pub permissions-own : (c : ℕ) (w : Name) (n : ℕ) (ps : List Name) → c * 32 ≤ n → n + length ps ≤ c * 32 + 32
    → first_named (4 + c) w (permission_entries n ps) ≡ found_number 7 n (index_of w ps)
unfolding permission_entries first_named index_of
permissions-own c w n [] h l = refl
permissions-own c w n (p ∷ ps) h l =
    own-entry (4 + c) w (name_entry 7 n p) (permission_entries (n + 1) ps) (omega arith)
    ∙ found-index w 7 n p ps (first_named (4 + c) w (permission_entries (n + 1) ps)) (permissions-own c w (n + 1) ps (omega arith) (omega arith))

-- ---- which family a sort belongs to

pub sort-below : (s : Sort) (n : ℕ) → family_number (sort_code s) n < 3
sort-below (thing_of users) n = omega arith
sort-below (thing_of roles) n = omega arith
sort-below (thing_of types) n = omega arith
sort-below (attribute_of users) n = omega arith
sort-below (attribute_of roles) n = omega arith
sort-below (attribute_of types) n = omega arith

-- things and attributes are passed over where a class or a permission is looked for; a class and its permissions where one of them is not
pub skip-plain : (f : ℕ) (w : Name) (e : List Declaration) (s : Sort) (v : Name) (ds : List Declaration) → 3 ≤ f
    → first_named f w (entries_from e (plain s v ∷ ds)) ≡ first_named f w (entries_from (e ++ (plain s v ∷ [])) ds)
unfolding entries_from
skip-plain f w e s v ds h = skip-entry f w (name_entry (sort_code s) (count s e) v) (entries_from (e ++ (plain s v ∷ [])) ds) (λ q. omega (arith, sort-below s (count s e)))

module _ (f : ℕ) (w : Name) (e : List Declaration) (v : Name) (ps : List Name) (ds : List Declaration) where
  pub after-class : (f ≡ 3 → ⊥)
      → first_named f w (entries_from e (class v ps ∷ ds))
      ≡ option_or (first_named f w (permission_entries (length (class_names e) * 32) ps)) (first_named f w (entries_from (e ++ (class v ps ∷ [])) ds))
  unfolding entries_from
  after-class h =
      skip-entry f w (name_entry 6 (length (class_names e)) v) (permission_entries (length (class_names e) * 32) ps ++ entries_from (e ++ (class v ps ∷ [])) ds) (λ q. h (sym q))
      ∙ first-append f w (permission_entries (length (class_names e) * 32) ps) (entries_from (e ++ (class v ps ∷ [])) ds)

  pub skip-permissions : first_named f w (permission_entries (length (class_names e) * 32) ps) ≡ None → (f ≡ 3 → ⊥)
      → first_named f w (entries_from e (class v ps ∷ ds)) ≡ first_named f w (entries_from (e ++ (class v ps ∷ [])) ds)
  skip-permissions q h = after-class h ∙ ap (λ (r : Option Symbol). option_or r (first_named f w (entries_from (e ++ (class v ps ∷ [])) ds))) q

-- an entry that a search is for has its family and its name
pub named-is : (f : ℕ) (w : Name) (e : NameEntry) → is_named f w e ≡ true → (family_number e.sort e.number ≡ f) × (w ≡ e.name)
named-is f w e h =
    let b = both_true (eqb (family_number e.sort e.number) f) (same w e.name) h in
    (eqb-true (family_number e.sort e.number) f b.0, same-is w e.name b.1)
