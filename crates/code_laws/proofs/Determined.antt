-- The code determines the statements that have code: S by its code and what is after it, then one statement after the other. By induction on S
-- and on the statements, with the one-step laws for the other side. Assumes nothing.
use Prim.Native.Nat.{ℕ}
use mathlib.Core.Path.{◌≡◌, refl, sym, ap, ap₂, ◌∙◌, subst}
use mathlib.Core.List.{List, [], ◌∷◌, ◌++◌, append_assoc}
use Rattle.bitset.specs.Relations.{joined}
use Rattle.policy.specs.Basics.{each, All}
use Rattle.policy.specs.Statements.{Reference, SetExpr, name_s, all_s, not_s, and_s, or_s, xor_s, union_s, empty_s}
use Rattle.statement_code.specs.Code.{reference_unit, end_unit, set_code, row_code}
use Rattle.code_laws.specs.Shape.{IsRow}
use Rattle.statement_code.specs.Numbered.{NumberedR}
use Rattle.code_laws.specs.Kinds.{Readable, reference_of, Two, StartsS}
use Rattle.code_laws.specs.Coded.{Coded, attribute_at, set_at, relation_at, transition_at, coded_units, units_of, CodedReadable, StartsC}
use Rattle.code_laws.proofs.FirstUnits.{reference-back, reference-kind, set-starts, never-end, attribute-tag, set-tag, relation-tag, coded-starts}

-- the reference of a unit
reference-determined : (r q : Reference) → NumberedR r → NumberedR q → reference_unit r ≡ reference_unit q → r ≡ q
reference-determined r q h k e = sym (reference-back r h) ∙ ap reference_of e ∙ reference-back q k

tail-same : (u : ℕ) (xs ys : List ℕ) → u ∷ xs ≡ u ∷ ys → xs ≡ ys
tail-same u xs ys e = cc

-- an S that has the code of s is s, and what is after the two is the same
pub record Determined (s : SetExpr Reference) : Type 0 where
  pub only : (t : SetExpr Reference) (xs ys : List ℕ) → Readable t → set_code s ++ xs ≡ set_code t ++ ys → (s ≡ t) × (xs ≡ ys)

record RowDetermined (s : SetExpr Reference) : Type 0 where
  only : (t : SetExpr Reference) (xs ys : List ℕ) → IsRow t → Readable t → row_code s ++ xs ≡ row_code t ++ ys → (s ≡ t) × (xs ≡ ys)

-- what the first unit of s says of an S that has its code
begins : (s t : SetExpr Reference) (xs ys : List ℕ) → Readable t → set_code s ++ xs ≡ set_code t ++ ys → StartsS t ys (set_code s ++ xs)
begins s t xs ys k e = subst (StartsS t ys) (sym e) (set-starts t k ys)

not-determined : (x : SetExpr Reference) → Determined x → Determined (not_s x)
unfolding set_code
not-determined x f = record {
  only = λ t xs ys k e.
      let p = begins (not_s x) t xs ys k e in
      let q = f.only p.operand (end_unit ∷ xs) (end_unit ∷ ys) p.readable (simp append_assoc at p.units) in
      (ap not_s q.0 ∙ sym p.is, tail-same end_unit xs ys q.1);
}

two-determined : (op : SetExpr Reference → SetExpr Reference → SetExpr Reference) (x y : SetExpr Reference) → Determined x → Determined y
    → ((t : SetExpr Reference) (xs ys : List ℕ) → Readable t → set_code (op x y) ++ xs ≡ set_code t ++ ys → Two op t ((set_code x ++ (set_code y ++ (end_unit ∷ []))) ++ xs) ys)
    → Determined (op x y)
two-determined op x y f g b = record {
  only = λ t xs ys k e.
      let p = b t xs ys k e in
      let q = f.only p.left _ _ p.readable.0 (simp append_assoc at p.units) in
      let r = g.only p.right _ _ p.readable.1 q.1 in
      (ap₂ op q.0 r.0 ∙ sym p.is, tail-same end_unit xs ys r.1);
}

module _ (x y : SetExpr Reference) (h : Readable x) (f : Determined x) (g : RowDetermined y) where
  union-only : (t : SetExpr Reference) (xs ys : List ℕ) → IsRow t → Readable t → (set_code x ++ row_code y) ++ xs ≡ row_code t ++ ys → (union_s x y ≡ t) × (xs ≡ ys)
  unfolding set_code
  union-only (name_s r) xs ys w k e = absurd w
  union-only all_s xs ys w k e = absurd w
  union-only (not_s z) xs ys w k e = absurd w
  union-only (and_s z t) xs ys w k e = absurd w
  union-only (or_s z t) xs ys w k e = absurd w
  union-only (xor_s z t) xs ys w k e = absurd w
  union-only (union_s z t) xs ys w k e =
      let a = f.only z _ _ k.0 (simp append_assoc at e) in
      let b = g.only t xs ys k.1 k.2 a.1 in
      (ap₂ union_s a.0 b.0, b.1)
  union-only empty_s xs ys w k e = absurd (never-end x ys (row_code y ++ xs) h (simp append_assoc at (sym e)))

empty-only : (t : SetExpr Reference) (xs ys : List ℕ) → IsRow t → Readable t → end_unit ∷ xs ≡ row_code t ++ ys → (empty_s ≡ t) × (xs ≡ ys)
unfolding set_code
empty-only (name_s r) xs ys w k e = absurd w
empty-only all_s xs ys w k e = absurd w
empty-only (not_s z) xs ys w k e = absurd w
empty-only (and_s z t) xs ys w k e = absurd w
empty-only (or_s z t) xs ys w k e = absurd w
empty-only (xor_s z t) xs ys w k e = absurd w
empty-only (union_s z t) xs ys w k e = absurd (never-end z xs (row_code t ++ ys) k.0 (simp append_assoc at e))
empty-only empty_s xs ys w k e = (refl, tail-same end_unit xs ys e)

mutual
  unfolding set_code

  pub set-determined : (s : SetExpr Reference) → Readable s → Determined s
  set-determined (name_s r) h = record { only = λ t xs ys k e. let p = rw (reference-kind r h) at (begins (name_s r) t xs ys k e) in (sym p.0, p.1) }
  set-determined all_s h = record { only = λ t xs ys k e. let p = begins all_s t xs ys k e in (sym p.0, tail-same end_unit xs ys p.1) }
  set-determined (not_s x) h = not-determined x (set-determined x h)
  set-determined (and_s x y) h = two-determined and_s x y (set-determined x h.0) (set-determined y h.1) (begins (and_s x y))
  set-determined (or_s x y) h = two-determined or_s x y (set-determined x h.0) (set-determined y h.1) (begins (or_s x y))
  set-determined (xor_s x y) h = two-determined xor_s x y (set-determined x h.0) (set-determined y h.1) (begins (xor_s x y))
  set-determined (union_s x y) h = record {
    only = λ t xs ys k e.
        let p = begins (union_s x y) t xs ys k e in
        union-only x y h.0 (set-determined x h.0) (row-determined y h.1 h.2) t xs ys p.0 k p.1;
  }
  set-determined empty_s h = record { only = λ t xs ys k e. let p = begins empty_s t xs ys k e in empty-only t xs ys p.0 k p.1 }

  row-determined : (s : SetExpr Reference) → IsRow s → Readable s → RowDetermined s
  row-determined (name_s r) v h = absurd v
  row-determined all_s v h = absurd v
  row-determined (not_s x) v h = absurd v
  row-determined (and_s x y) v h = absurd v
  row-determined (or_s x y) v h = absurd v
  row-determined (xor_s x y) v h = absurd v
  row-determined (union_s x y) v h = record { only = union-only x y h.0 (set-determined x h.0) (row-determined y h.1 h.2) }
  row-determined empty_s v h = record { only = empty-only }

-- STATEMENTS
coded-begins : (c d : Coded) (xs ys : List ℕ) → CodedReadable d → coded_units c ++ xs ≡ coded_units d ++ ys → StartsC d ys (coded_units c ++ xs)
coded-begins c d xs ys k e = subst (StartsC d ys) (sym e) (coded-starts d k ys)

pub coded-determined : (c d : Coded) (xs ys : List ℕ) → CodedReadable c → CodedReadable d → coded_units c ++ xs ≡ coded_units d ++ ys → (c ≡ d) × (xs ≡ ys)
coded-determined (attribute_at f at) d xs ys h k e =
    let p = rw (attribute-tag f) at (coded-begins (attribute_at f at) d xs ys k e) in
    let u = p.units in
    let i = p.is in
    (cc, cc)
coded-determined (set_at f at a s) d xs ys h k e =
    let p = rw (set-tag f) at (coded-begins (set_at f at a s) d xs ys k e) in
    let u = p.units in
    let q = (set-determined s h).only p.set xs ys p.readable (cc) in
    let i = p.is in
    let j = q.0 in
    (cc, q.1)
coded-determined (relation_at l at x y) d xs ys h k e =
    let p = rw (relation-tag l) at (coded-begins (relation_at l at x y) d xs ys k e) in
    let u = p.units in
    let a = reference-determined x p.from h.0 p.readable.0 (cc) in
    let b = reference-determined y p.to h.1 p.readable.1 (cc) in
    let i = p.is in
    (cc, cc)
coded-determined (transition_at at r t c n) d xs ys h k e =
    let p = coded-begins (transition_at at r t c n) d xs ys k e in
    let u = p.units in
    let a = reference-determined r p.role h.0 p.readable.0 (cc) in
    let b = reference-determined t p.type h.1 p.readable.1 (cc) in
    let i = p.is in
    (cc, cc)

pub statements-determined : (cs ds : List Coded) → All CodedReadable cs → All CodedReadable ds → units_of cs ≡ units_of ds → cs ≡ ds
unfolding units_of joined each
statements-determined [] [] h k e = refl
statements-determined [] (d ∷ ds) h k e = absurd (subst (StartsC d (units_of ds)) (sym e) (coded-starts d k.0 (units_of ds)))
statements-determined (c ∷ cs) [] h k e = absurd (subst (StartsC c (units_of cs)) e (coded-starts c h.0 (units_of cs)))
statements-determined (c ∷ cs) (d ∷ ds) h k e =
    let a = coded-determined c d (units_of cs) (units_of ds) h.0 k.0 e in
    let b = statements-determined cs ds h.1 k.1 a.1 in
    let i = a.0 in
    cc
