-- DEMAND 3 FROM THE PROMISE OF COMPILE: whoever has the promise has the demand, with no other fact about the compiler. Assumes nothing.
use Prim.Native.Nat.{ℕ}
use mathlib.Core.Path.{◌≡◌, refl, sym, ap, subst, ◌∙◌}
use mathlib.Core.List.{List, [], ◌++◌}
use lib.ListN.{take}
use Rattle.std.specs.Prelude.{Ok}
use Rattle.lexer.specs.Spell.{bytes}
use Rattle.policy.specs.Statements.{Policy}
use Rattle.policy.specs.Reading.{Read, policy, refused}
use Rattle.policy.specs.Deciding.{Question, Relabelling, Answer}
use Rattle.policy.specs.Answer.{relabel_answer}
use Rattle.policy.specs.Image.{image_of}
use Rattle.policy.specs.Encode.{encode, newest}
use Rattle.policy.specs.Sound.{image_in}
use Rattle.policy.specs.Outcome.{of_text}
use Rattle.policy.specs.Questions.{valid_on, new_role_on, change_on, relabel_on}
use Rattle.policy.specs.Computing.{computing}
use Rattle.answer_laws.specs.Longer.{OneConstrainMore, OneRelabelMore, ConstrainText, RelabelText, KeepsDenials, KeepsAnswersOn, RelabelsKept}
use Rattle.answer_laws.proofs.GrantsExactly.{relabel-grants-exactly}
use Rattle.demand_laws.specs.ByText.{is_refusal}
use Rattle.demand_laws.proofs.Demand3.{Accepts, accepted-table, table-read, table-answers, table-valid, table-new-role, table-grants-only, table-grants-when}
use Rattle.demand_laws.proofs.Demand3.{declared-unrefused, longer-table-denies, constrain-added, table-relabels, relabel-unrefused, longer-table-relabels}
use Rattle.demand_laws.proofs.Demand3.{relabel-table-keeps, relabel-added}
use Rattle.compiler.specs.Promise.{Compiles}
use Rattle.demands.specs.Demands.{Demand3}

-- a text has one list of statements
abbrev statements_of : Read → Policy
statements_of (policy p) = p
statements_of (refused n at) = []

module _ {text before now : List ℕ} {n : ℕ} (c : Compiles (of_text text) before now (Ok n)) where
  -- the text's statements, and that their table is written
  pub accepts : Accepts (of_text text) before n
  accepts = accepted-table (of_text text) before n (sym c.answer)

  -- the first n bytes of the memory are the table of the statements
  pub written : take n now ≡ encode newest (image_of accepts.statements)
  written = ap (take n) c.memory ∙ accepts.table

  -- what is asked of those bytes is asked of that table
  moved : {A : Type 0} (f : List ℕ → A) (behind : List ℕ) → f (take n now ++ behind) ≡ f (encode newest (image_of accepts.statements) ++ behind)
  moved f behind = ap (λ (t : List ℕ). f (t ++ behind)) written

-- a text that says the same and then one statement, compiled too
module _ {text before now text' before' now' : List ℕ} {n n' : ℕ} (c : Compiles (of_text text) before now (Ok n))
    (c' : Compiles (of_text text') before' now' (Ok n')) where
  -- what holds of the tables of the statements holds of the bytes
  of-tables : (P : List ℕ → List ℕ → Type 0) → P (encode newest (image_of (accepts c).statements)) (encode newest (image_of (accepts c').statements)) → P (take n now) (take n' now')
  of-tables P h = rw (written c, written c') h

  keeps : OneConstrainMore (accepts c).statements (accepts c').statements → KeepsDenials (take n now) (take n' now')
  keeps m =
      of-tables KeepsDenials (longer-table-denies (of_text text) (of_text text') (accepts c).statements (accepts c').statements m (accepts c).read (accepts c').read)

  keeps-relabels : OneConstrainMore (accepts c).statements (accepts c').statements → KeepsAnswersOn relabel_on (take n now) (take n' now')
  keeps-relabels m = of-tables (KeepsAnswersOn relabel_on)
      (longer-table-relabels (of_text text) (of_text text') (accepts c).statements (accepts c').statements m (accepts c).read (accepts c').read)

  keeps-with-relabel : OneRelabelMore (accepts c).statements (accepts c').statements → RelabelsKept (take n now) (take n' now')
  keeps-with-relabel m =
      of-tables RelabelsKept (relabel-table-keeps (of_text text) (of_text text') (accepts c).statements (accepts c').statements m (accepts c).read (accepts c').read)

pub demand-3 : {text before now : List ℕ} {n : ℕ} → Compiles (of_text text) before now (Ok n) → Demand3 text (take n now)
demand-3 {text} {before} {now} {n} c =
    let p = (accepts c).statements in
    let r = (accepts c).read in
    let answers : (behind : List ℕ) (q : Question)
    → change_on (take n now ++ behind) q ≡ _ = λ behind q. moved c (λ t. change_on t q) behind ∙ table-answers (of_text text) p r behind q in
    let relabels : (behind : List ℕ) (q : Relabelling)
    → relabel_on (take n now ++ behind) q ≡ relabel_answer p q = λ behind q. moved c (λ t. relabel_on t q) behind ∙ table-relabels (of_text text) p r behind q in
    record {
      statements = p;
      read = r;
      answers = answers;
      never-refused = λ behind q d. ap (λ (a : Answer). is_refusal a.verdict) (answers behind q) ∙ declared-unrefused p q d;
      grants-only = λ behind q g. table-grants-only (of_text text) p r behind q (sym (moved c (λ t. (change_on t q).verdict) behind) ∙ g);
      grants-when = λ behind q d g. moved c (λ t. (change_on t q).verdict) behind ∙ table-grants-when (of_text text) p r behind q d g;
      longer-denies = λ longer before' now' n' c' said r' m. keeps c c' (subst (OneConstrainMore p) (ap statements_of (sym r' ∙ (accepts c').read)) m);
      added-denies = λ more before' now' n' c' u. keeps c c' (constrain-added text more p (accepts c').statements r (accepts c').read u);
      relabels = relabels;
      relabels-never-refused = λ behind q d. ap (λ (a : Answer). is_refusal a.verdict) (relabels behind q) ∙ relabel-unrefused p q d;
      relabels-grant = λ behind q. rw (relabels behind q) (relabel-grants-exactly p q);
      longer-relabels = λ longer before' now' n' c' said r' m. keeps-relabels c c' (subst (OneConstrainMore p) (ap statements_of (sym r' ∙ (accepts c').read)) m);
      longer-keeps = λ longer before' now' n' c' said r' m. keeps-with-relabel c c' (subst (OneRelabelMore p) (ap statements_of (sym r' ∙ (accepts c').read)) m);
      added-relabels = λ more before' now' n' c' u. keeps-relabels c c' (constrain-added text more p (accepts c').statements r (accepts c').read u);
      added-keeps = λ more before' now' n' c' u. keeps-with-relabel c c' (relabel-added text more p (accepts c').statements r (accepts c').read u);
      valid = λ behind x. moved c (λ t. valid_on t x) behind ∙ table-valid (of_text text) p r behind x;
      new-role = λ behind x y z. moved c (λ t. new_role_on t x y z) behind ∙ table-new-role (of_text text) p r behind x y z;
      holds = λ behind. moved c image_in behind ∙ table-read (of_text text) p r behind;
    }

-- bytes that one would add are such a text, blanks and comments around it or not
pub a-constrain : ConstrainText (bytes " (constrain (c (p q)) (or (eq u1 u2) (not (eq r1 a)))) ; the last")
unfolding computing
a-constrain = record { class = _; perms = _; body = _; is = record { place = 1; inner = _; alone = refl; form = refl } }

pub a-validatetrans : RelabelText (bytes "(validatetrans c (or (eq u1 u2) (eq r3 a))) ; the last")
unfolding computing
a-validatetrans = record { class = _; body = _; is = record { place = 0; inner = _; alone = refl; form = refl } }
