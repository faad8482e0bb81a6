-- What is left of an S when the units of its operator and of some operands are written: the further operands are in the row at hand, and the
-- units so far with theirs are those of S. A step for an operand, and the three ways to end. Assumes nothing.
use mathlib.Core.Path.{◌≡◌, refl, sym, ap, subst, ◌∙◌}
use mathlib.Core.Bool.{Bool, true, false, not}
use mathlib.Core.List.{List, [], ◌∷◌, ◌++◌, append_assoc}
use mathlib.Core.Option.{Option, none, some, some-injective, none-ne-some}
use Prim.Native.Nat.{ℕ}
use lib.ListN.{length}
use Rattle.std.specs.Prelude.{None, Some}
use Rattle.lexer.specs.Forms.{Forms, closed, ended, word, part}
use Rattle.policy.specs.Basics.{Name, ◌>>=◌, given, more}
use Rattle.policy.specs.Words.{is_reserved, as_name}
use Rattle.policy.specs.Statements.{Family, Reference, SetExpr, name_s}
use Rattle.policy.specs.Grammar.{operands, set_in}
use Rattle.policy.specs.Reading.{refer_s}
use Rattle.policy.specs.Names.{Environment}
use Rattle.statement_code.specs.Code.{set_code, end_unit}
use Rattle.statement_code.specs.UnitWrites.{Wrote}
use Rattle.set_writer.specs.Sets.{set_units, row_units, behind, Operands, Answers}
use Rattle.set_writer.specs.declared.Written.{Written}
use Rattle.statement_code.proofs.UnitLaws.{wrote_then}

-- ---- a row by its first operand

pub record Split (o : Option (SetExpr Name)) (r : Option (List (SetExpr Name))) (xs : List (SetExpr Name)) : Type 0 where
  pub first : SetExpr Name
  pub others : List (SetExpr Name)
  pub here : o ≡ some first
  pub later : r ≡ some others
  pub is : xs ≡ first ∷ others

split : (o : Option (SetExpr Name)) (r : Option (List (SetExpr Name))) (xs : List (SetExpr Name)) → more o r ≡ some xs → Split o r xs
split none r xs h = absurd (none-ne-some xs h)
split (some x) none xs h = absurd (none-ne-some xs h)
split (some x) (some ys) xs h = record { first = x; others = ys; here = refl; later = refl; is = sym (some-injective (x ∷ ys) xs h) }

pub split-word : (s : ℕ) (w : Name) (r : Forms) (xs : List (SetExpr Name)) → operands (word s w r) ≡ some xs → Split (as_name w >>= λ n. some (name_s n)) (operands r) xs
unfolding operands
split-word s w r xs h = split (as_name w >>= λ n. some (name_s n)) (operands r) xs h

pub split-part : (p : ℕ) (i r : Forms) (xs : List (SetExpr Name)) → operands (part p i r) ≡ some xs → Split (set_in i) (operands r) xs
unfolding operands
split-part p i r xs h = split (set_in i) (operands r) xs h

-- a word that is an operand is a name
pub is_name : (w : Name) (x : SetExpr Name) → (as_name w >>= λ n. some (name_s n)) ≡ some x → x ≡ name_s w
is_name w x h = go (not (is_reserved w)) h
  where
    go : (b : Bool) → (given b w >>= λ n. some (name_s n)) ≡ some x → x ≡ name_s w
    go true e = sym (some-injective (name_s w) x e)
    go false e = absurd (none-ne-some x e)

-- ---- units before units

again : (us vs : List ℕ) (o : Option (List ℕ)) → behind us (behind vs o) ≡ behind (us ++ vs) o
again us vs none = refl
again us vs (some ws) = ap some (sym (append_assoc us vs ws))

-- what has no units has an undeclared name
no-units : (o : Option (SetExpr Reference)) → (o >>= λ s. some (set_code s)) ≡ none → o ≡ none
no-units none h = refl
no-units (some s) h = absurd (none-ne-some (set_code s) (sym h))

module _ (env : Environment) (f : Family) where
  pub record Left (w : SetExpr Name) (before : List ℕ) (to : ℕ) (g : Forms) (code : List ℕ) (u : ℕ) : Type 0 where
    pub each : List (SetExpr Name)
    pub row : operands g ≡ some each
    pub units : List ℕ
    pub wrote : Wrote before to units code u
    pub whole : set_units env f w ≡ behind units (row_units env f each)

  -- the operator is written
  pub begun : {w : SetExpr Name} {before code : List ℕ} {to u unit : ℕ} {g : Forms} → Operands unit g w → Wrote before to (unit ∷ []) code u → Left w before to g code u
  begun {unit = unit} h k = record { each = h.each; row = h.row; units = unit ∷ []; wrote = k; whole = h.units env f }

  row_step : (x : SetExpr Name) (xs : List (SetExpr Name)) (s : SetExpr Reference) → refer_s env f x ≡ some s → row_units env f (x ∷ xs) ≡ behind (set_code s) (row_units env f xs)
  unfolding row_units
  row_step x xs s e = rw e

  row-none : (x : SetExpr Name) (xs : List (SetExpr Name)) → refer_s env f x ≡ none → row_units env f (x ∷ xs) ≡ none
  unfolding row_units
  row-none x xs e = rw e

  module _ {w : SetExpr Name} {before code : List ℕ} {to u : ℕ} {g : Forms} (l : Left w before to g code u) where
    -- an operand is written
    pub step : {o : Option (SetExpr Name)} {r : Forms} {after : List ℕ} {v : ℕ} → Split o (operands r) l.each → (x : SetExpr Name) (s : SetExpr Reference)
        → o ≡ some x → refer_s env f x ≡ some s → length code ≡ length before → Wrote code u (set_code s) after v → Left w before to r after v
    step p x s e h n k =
        let same : p.first ≡ x = some-injective p.first x (sym p.here ∙ e) in
        record {
          each = p.others;
          row = p.later;
          units = l.units ++ set_code s;
          wrote = wrote_then n l.wrote k;
          whole = l.whole ∙ ap (λ (xs : List (SetExpr Name)). behind l.units (row_units env f xs)) (p.is ∙ ap (λ (y : SetExpr Name). y ∷ p.others) same)
              ∙ ap (behind l.units) (row_step x p.others s h) ∙ again l.units (set_code s) (row_units env f p.others);
        }

    -- a name of an operand is not declared
    pub stop : {o : Option (SetExpr Name)} {r : Option (List (SetExpr Name))} → Split o r l.each → (x : SetExpr Name) → o ≡ some x → refer_s env f x ≡ none
        → refer_s env f w ≡ none
    stop p x e h =
        let same : p.first ≡ x = some-injective p.first x (sym p.here ∙ e) in
        no-units (refer_s env f w)
        (l.whole ∙ ap (λ (xs : List (SetExpr Name)). behind l.units (row_units env f xs)) (p.is ∙ ap (λ (y : SetExpr Name). y ∷ p.others) same)
        ∙ ap (behind l.units) (row-none x p.others h))

  -- the end mark is written
  pub done : {w : SetExpr Name} {before code after : List ℕ} {to u : ℕ} (p : Written) → Left w before to closed code u → length code ≡ length before
      → Wrote code u (end_unit ∷ []) after p.to → Answers before to (refer_s env f w) after (Some p)
  unfolding operands row_units
  done {w} {before} {code} {after} {to} {u} p l n k =
      go (refer_s env f w)
      (l.whole ∙ ap (λ (xs : List (SetExpr Name)). behind l.units (row_units env f xs)) (sym (some-injective [] l.each l.row)))
      (wrote_then n l.wrote k)
    where
      go : (o : Option (SetExpr Reference)) → (o >>= λ s. some (set_code s)) ≡ some (l.units ++ (end_unit ∷ [])) → Wrote before to (l.units ++ (end_unit ∷ [])) after p.to
          → Answers before to o after (Some p)
      go none e h = absurd (none-ne-some (l.units ++ (end_unit ∷ [])) e)
      go (some s) e h = subst (λ (us : List ℕ). Wrote before to us after p.to) (sym (some-injective (set_code s) (l.units ++ (end_unit ∷ [])) e)) h

  -- a row that the end of the text cuts is none
  pub cut : {w : SetExpr Name} {before code : List ℕ} {to u : ℕ} → Left w before to ended code u → ⊥
  unfolding operands
  cut l = none-ne-some l.each l.row

-- an undeclared name is answered so
pub undeclared : (before after : List ℕ) (to : ℕ) (o : Option (SetExpr Reference)) → o ≡ none → Answers before to o after None
undeclared before after to none e = refl
undeclared before after to (some s) e = none-ne-some s (sym e)
