-- A name that is looked up in an environment that the symbols have as a name of one sort, or of a kind, is resolved so. Assumes nothing.
use mathlib.Core.Path.{◌≡◌, refl, sym, ap, ◌∙◌}
use mathlib.Core.Bool.{Bool, true, false, cond}
use mathlib.Core.List.{List}
use mathlib.Core.Option.{Option, none, some}
use Prim.Native.Nat.{ℕ, ◌+◌, ◌≤◌, ◌<◌}
use native.Mathlib.Nat.{zero-add}
use native.Mathlib.Omega.{arith}
use borrow.Author.Tests.{eq-eqb, ne_eqb, lt-leb, le-leb}
use lib.Dec.{eqb, leb}
use Rattle.std.specs.Prelude as prelude
use Rattle.std.specs.Prelude.{None, Some}
use Rattle.policy.specs.Basics.{Name, ◌>>=◌, given}
use Rattle.policy.specs.Answers as answers
use Rattle.policy.specs.declared.Family as theFamily
use Rattle.policy.specs.Statements.{Family, users, roles, types, Sort, thing_of, attribute_of, Reference, family_of, same_sort}
use Rattle.policy.specs.Encode.{sort_code}
use Rattle.policy.specs.Names.{refer, Named, number_in}
use Rattle.policy.proofs.IfAny.{IfAny}
use Rattle.statement_code.specs.Code as code
use Rattle.statement_code.specs.Code.{reference_unit}
use Rattle.symbols.specs.Lookup.{family_number, found_at}
use Rattle.symbols.specs.SearchAnswers.{family_code, found_class, found_named}
use Rattle.scopes.specs.Symbols.{Looks}
use Rattle.std.specs.Prelude.{Some, None}
use Rattle.symbols.specs.declared.Symbol.{Symbol}
use Rattle.scopes.proofs.Bounds.{bounded}
use Rattle.symbols.proofs.CountLaws.{same_code}
use Rattle.symbols.proofs.ReferencesFound.{code_of}
use Rattle.set_writer.specs.NameLookup.{referred, Refers}
use Rattle.statement_writer.specs.NameKinds.{unit_in, referred_by, Numbers, Names}
use Rattle.statement_writer.specs.declared.Kind.{Kind}

-- ---- one sort

-- a number that no name has is taken for none
abbrev small : Option ℕ → prelude.Option ℕ
small none = None
small (some n) = cond (leb 1024 n) None (Some n)

-- what is found, as the number of a name of the sort
abbrev pub number_by : ℕ → prelude.Option Symbol → prelude.Option ℕ
number_by sort (Some x) = cond (eqb x.sort sort) (small (some x.number)) None
number_by sort None = None

small_is : (n : ℕ) → n < 1024 → small (some n) ≡ Some n
small_is n h = rw (lt-leb 1024 n h)

by-sort : (s : Sort) (o : Option Named) → IfAny (λ d. d.number < 512) o
    → number_by (sort_code s) (found_named o) ≡ referred_by (o >>= λ d. given (same_sort s d.sort) d.number)
by-sort s none h = refl
by-sort s (some d) h = rw (same_code s d.sort) (go (same_sort s d.sort))
  where
    go : (b : Bool) → cond b (small (some d.number)) None ≡ referred_by (cond b (some d.number) none)
    go true = small_is d.number (omega (arith, h.has d refl))
    go false = refl

by-class : (o : Option ℕ) → IfAny (λ c. c < 32) o → number_by 6 (found_class o) ≡ referred_by o
by-class none h = refl
by-class (some n) h = ap (λ (k : ℕ). small (some k)) (zero-add n) ∙ small_is n (omega (arith, h.has n refl))

pub numbers : {table : List ℕ} {sort family : ℕ} {w : Name} {r : prelude.Option ℕ} {found : prelude.Option Symbol} → family ≡ family_number sort 0
    → Looks table family w found → r ≡ number_by sort found → Numbers table sort w r
unfolding number_in
numbers {sort = sort} {family} {w} {found = found} f e h = record {
  of-sort = λ env s y q.
      let at : family ≡ family_code (family_of s) = f ∙ ap (λ (n : ℕ). family_number n 0) (sym q) ∙ code_of s 0 in
      h ∙ ap (λ (n : ℕ). number_by n found) (sym q) ∙ ap (number_by (sort_code s)) (e.names env (family_of s) y (sym at))
      ∙ by-sort s (env.find (family_of s) w) (record { has = λ d k. (bounded y).names (family_of s) w d k });
  of-class = λ env y q.
      let at : family ≡ 3 = f ∙ ap (λ (n : ℕ). family_number n 0) (sym q) in
      h ∙ ap (λ (n : ℕ). number_by n found) (sym q) ∙ ap (number_by 6) (e.classes env y (sym at))
      ∙ by-class (env.class w) (record { has = λ c k. (bounded y).classes w c k });
}

-- the ways of the search
module _ (s sort n : ℕ) where
  pub other-sort : (s ≡ sort → ⊥) → None ≡ number_by sort (found_at s n)
  other-sort d = rw (ne_eqb s sort d)

  pub too_large : s ≡ sort → 1024 ≤ n → None ≡ number_by sort (found_at s n)
  too_large e h = rw (eq-eqb s sort e, le-leb 1024 n h)

  pub of-the-sort : s ≡ sort → n < 1024 → Some n ≡ number_by sort (found_at s n)
  of-the-sort e h = rw (eq-eqb s sort e, lt-leb 1024 n h)

-- ---- a kind

pub same_number : (f : Family) → family_code f ≡ code.family_number f
same_number users = refl
same_number roles = refl
same_number types = refl

attribute-number : (f : Family) → sort_code (attribute_of f) ≡ 3 + code.family_number f
attribute-number users = refl
attribute-number roles = refl
attribute-number types = refl

reference-unit : (o : Option Reference) → referred o ≡ referred_by (o >>= λ r. some (reference_unit r))
reference-unit none = refl
reference-unit (some r) = refl

module _ {table : List ℕ} {k : Kind} {w : Name} {r : prelude.Option ℕ} where
  pub as-reference : (f : theFamily.Family) (n : ℕ) → k ≡ Kind.Reference f → n ≡ code.family_number (answers.family_of f) → Refers table n w r → Names table k w r
  as-reference f n q e m = record {
    resolves = λ env y.
        m.resolves env (answers.family_of f) y (same_number (answers.family_of f) ∙ sym e) ∙ reference-unit (refer env (answers.family_of f) w)
        ∙ ap (λ (x : Kind). referred_by (unit_in env x w)) (sym q);
  }

  pub as-attribute : (f : theFamily.Family) (n : ℕ) → k ≡ Kind.Attribute f → n ≡ code.family_number (answers.family_of f) → Numbers table (3 + n) w r → Names table k w r
  as-attribute f n q e m = record {
    resolves = λ env y.
        m.of-sort env (attribute_of (answers.family_of f)) y (attribute-number (answers.family_of f) ∙ ap (λ (i : ℕ). 3 + i) (sym e))
        ∙ ap (λ (x : Kind). referred_by (unit_in env x w)) (sym q);
  }

  pub as-class : k ≡ Kind.Class → Numbers table 6 w r → Names table k w r
  as-class q m = record { resolves = λ env y. m.of-class env y refl ∙ ap (λ (x : Kind). referred_by (unit_in env x w)) (sym q) }

  pub as-role : k ≡ Kind.Role → Numbers table 1 w r → Names table k w r
  as-role q m = record { resolves = λ env y. m.of-sort env (thing_of roles) y refl ∙ ap (λ (x : Kind). referred_by (unit_in env x w)) (sym q) }
