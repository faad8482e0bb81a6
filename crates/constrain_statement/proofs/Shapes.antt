-- What a constrain of good form consists of. Assumes nothing.
use mathlib.Core.Path.{◌≡◌, refl, sym, ap, ◌∙◌}
use mathlib.Core.Bool.{not}
use mathlib.Core.List.{List, [], ◌∷◌}
use mathlib.Core.Option.{Option, some, some-injective}
use Prim.Native.Nat.{ℕ}
use Rattle.lexer.specs.Forms.{Forms, closed, ended, word, part}
use Rattle.policy.specs.Basics.{Name, ◌>>=◌}
use Rattle.policy.specs.Words.{is_reserved, as_name, as_part, constrain_k, two_sides}
use Rattle.policy.specs.Statements.{Constraint, Written, constrain}
use Rattle.policy.specs.Grammar.{row_of, one_or_more, class_in, expression_in, formed}
use Rattle.policy.proofs.Options.{given-some}
use Rattle.table_laws.proofs.ListLaws.{bound-then}
use Rattle.constraint_writer.proofs.WrittenRows.{never}
use Rattle.constrain_statement.specs.ClassPermissions.{ScopeForm}

-- ---- "C (P ...)"

record Classed {A : Type 0} (f : Forms) (g : Name → List Name → Option A) (a : A) : Type 0 where
  pub class : Name
  pub permissions : List Name
  pub form : ScopeForm f class permissions
  pub then : g class permissions ≡ some a

one-or-more : (ps qs : List Name) → one_or_more ps ≡ some qs → ps ≡ qs
one-or-more [] qs h = never h
one-or-more (p ∷ ps) qs h = some-injective (p ∷ ps) qs h

module _ {A : Type 0} (g : Name → List Name → Option A) (a : A) where
  named : (s r : ℕ) (v : Name) (k : Forms) → (as_name v >>= λ c. row_of as_part k >>= λ ps. one_or_more ps >>= λ ps. g c ps) ≡ some a → Classed (word s v (part r k closed)) g a
  named s r v k e =
      bound-then (as_name v) (λ c. row_of as_part k >>= λ ps. one_or_more ps >>= λ ps. g c ps) a e λ c d e.
      bound-then (row_of as_part k) (λ ps. one_or_more ps >>= λ ps. g c ps) a e λ ps n e.
      bound-then (one_or_more ps) (λ ps. g c ps) a e λ qs m e.
      record {
        class = c;
        permissions = qs;
        form = record {
          start = s;
          place = r;
          inner = k;
          row = ap (λ (w : Name). word s w (part r k closed)) (given-some (not (is_reserved v)) v c d).1;
          names = n ∙ ap some (one-or-more ps qs m);
        };
        then = e;
      }

  classed : (f : Forms) → class_in as_name f g ≡ some a → Classed f g a
  classed closed e = never e
  classed ended e = never e
  classed (part p i f) e = never e
  classed (word s v closed) e = never e
  classed (word s v ended) e = never e
  classed (word s v (word r u f)) e = never e
  classed (word s v (part r k ended)) e = never e
  classed (word s v (part r k (word x u f))) e = never e
  classed (word s v (part r k (part x u f))) e = never e
  classed (word s v (part r k closed)) e = named s r v k e

-- ---- "(C (P ...)) E"

pub record Shape (f : Forms) (w : Written) : Type 0 where
  pub scope-place : ℕ
  pub scope : Forms
  pub expression-place : ℕ
  pub expression : Forms
  pub row : f ≡ part scope-place scope (part expression-place expression closed)
  pub class : Name
  pub permissions : List Name
  pub body : Constraint Name
  pub scoped : ScopeForm scope class permissions
  pub expressed : expression_in two_sides expression ≡ some body
  pub written : w ≡ constrain class permissions body

pub shape : (f : Forms) (w : Written) → formed constrain_k f ≡ some w → Shape f w
shape closed w e = never e
shape ended w e = never e
shape (word s v f) w e = never e
shape (part p i closed) w e = never e
shape (part p i ended) w e = never e
shape (part p i (word s v f)) w e = never e
shape (part p i (part q j ended)) w e = never e
shape (part p i (part q j (word s v f))) w e = never e
shape (part p i (part q j (part r k f))) w e = never e
shape (part p i (part q j closed)) w e =
    let c = classed (λ c ps. expression_in two_sides j >>= λ e. some (constrain c ps e)) w i e in
    bound-then (expression_in two_sides j) (λ e. some (constrain c.class c.permissions e)) w c.then λ b d e.
    record {
      scope-place = p;
      scope = i;
      expression-place = q;
      expression = j;
      row = refl;
      class = c.class;
      permissions = c.permissions;
      body = b;
      scoped = c.form;
      expressed = d;
      written = sym (some-injective (constrain c.class c.permissions b) w e);
    }
