-- What a validatetrans statement of good form consists of. Assumes nothing.
use mathlib.Core.Path.{◌≡◌, sym, ap}
use mathlib.Core.Bool.{not}
use mathlib.Core.Option.{some, some-injective}
use Prim.Native.Nat.{ℕ}
use Rattle.lexer.specs.Forms.{Forms, closed, ended, word, part}
use Rattle.policy.specs.Basics.{Name, ◌>>=◌}
use Rattle.policy.specs.Words.{is_reserved, as_name, three_sides}
use Rattle.policy.specs.Statements.{Constraint, Written, validatetrans}
use Rattle.policy.specs.Grammar.{expression_in, relabel_form}
use Rattle.policy.proofs.Options.{given-some}
use Rattle.table_laws.proofs.ListLaws.{bound-then}
use Rattle.constraint_writer.proofs.WrittenRows.{never}

-- "C E", and the close
pub record RelabelShape (f : Forms) (w : Written) : Type 0 where
  pub class-place : ℕ
  pub class : Name
  pub expression-place : ℕ
  pub expression : Forms
  pub row : f ≡ word class-place class (part expression-place expression closed)
  pub body : Constraint Name
  pub expressed : expression_in three_sides expression ≡ some body
  pub written : w ≡ validatetrans class body

named : (s : ℕ) (v : Name) (p : ℕ) (j : Forms) (w : Written) → (as_name v >>= λ c. expression_in three_sides j >>= λ e. some (validatetrans c e)) ≡ some w
    → RelabelShape (word s v (part p j closed)) w
named s v p j w e =
    bound-then (as_name v) (λ c. expression_in three_sides j >>= λ e. some (validatetrans c e)) w e λ c d e.
    bound-then (expression_in three_sides j) (λ e. some (validatetrans c e)) w e λ b g e.
    record {
      class-place = s;
      class = c;
      expression-place = p;
      expression = j;
      row = ap (λ (w : Name). word s w (part p j closed)) (given-some (not (is_reserved v)) v c d).1;
      body = b;
      expressed = g;
      written = sym (some-injective (validatetrans c b) w e);
    }

pub relabel-shape : (f : Forms) (w : Written) → relabel_form f ≡ some w → RelabelShape f w
relabel-shape closed w e = never e
relabel-shape ended w e = never e
relabel-shape (part p i f) w e = never e
relabel-shape (word s v closed) w e = never e
relabel-shape (word s v ended) w e = never e
relabel-shape (word s v (word r u f)) w e = never e
relabel-shape (word s v (part p j ended)) w e = never e
relabel-shape (word s v (part p j (word r u f))) w e = never e
relabel-shape (word s v (part p j (part r k f))) w e = never e
relabel-shape (word s v (part p j closed)) w e = named s v p j w e
