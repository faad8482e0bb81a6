-- Demand 3, the last sentence: a policy with one constrain more at its end, and what its table keeps; and W-205's, one validatetrans more. Assumes nothing.
use Rattle.std.specs.Prelude.{ℕ, ◌≡◌, Bool, true, false, List, [], ◌∷◌, ◌++◌}
use Rattle.std.proofs.Math.Option.{some}
use Rattle.lexer.specs.Forms.{Forms, ended, part, forms_of}
use Rattle.policy.specs.Basics.{Name, each}
use Rattle.policy.specs.Statements.{Reference, Constraint, constrain, validatetrans, Written, Statement, Line, Policy}
use Rattle.policy.specs.Grammar.{written}
use Rattle.policy.specs.Deciding.{Question, Relabelling, Verdict, granted, denied, fails, refuses, Answer}
use Rattle.policy.specs.Answer.{answer, relabel_answer}
use Rattle.policy.specs.Questions.{change_on, relabel_on}

-- what the statements say, in text order, without the places where they stand
unfoldable pub said : Policy → List Statement
said p = each (λ (l : Line). l.says) p

-- "The longer policy has the same statements in order, then one constrain"
pub record OneConstrainMore (first longer : Policy) : Type 0 where
  pub class : ℕ
  pub perms : List ℕ
  pub body : Constraint Reference
  pub last : said longer ≡ said first ++ (constrain class perms body ∷ [])

-- W-205: the same, then one validatetrans
pub record OneRelabelMore (first longer : Policy) : Type 0 where
  pub class : ℕ
  pub body : Constraint Reference
  pub last : said longer ≡ said first ++ (validatetrans class body ∷ [])

-- the bytes of one statement and of nothing else, blanks and comments aside
pub record StatementText (text : List ℕ) (w : Written) : Type 0 where
  pub place : ℕ
  pub inner : Forms
  pub alone : forms_of text ≡ part place inner ended
  pub form : written inner ≡ some w

-- it is of the form `(constrain (C (P ...)) E)`
pub record ConstrainText (text : List ℕ) : Type 0 where
  pub class : Name
  pub perms : List Name
  pub body : Constraint Name
  pub is : StatementText text (constrain class perms body)

-- W-205: of the form `(validatetrans C E)`
pub record RelabelText (text : List ℕ) : Type 0 where
  pub class : Name
  pub body : Constraint Name
  pub is : StatementText text (validatetrans class body)

-- a denial, by any number
abbrev pub is_denied : Verdict → Bool
is_denied granted = false
is_denied (denied n) = true
is_denied (fails n i) = true
is_denied (refuses n at) = false

-- "its table denies every question that the first table denies", whatever is after each of them; and by the same denial, constraint's number and
-- number consulted. Of a question to the bytes of a table
pub record KeepsDenialsOn {Q : Type 0} (on : List ℕ → Q → Answer) (first longer : List ℕ) : Type 0 where
  pub denies : (behind behind' : List ℕ) (q : Q) → is_denied (on (first ++ behind) q).verdict ≡ true → is_denied (on (longer ++ behind') q).verdict ≡ true
  pub by-the-same : (behind behind' : List ℕ) (q : Q) → is_denied (on (first ++ behind) q).verdict ≡ true → on (longer ++ behind') q ≡ on (first ++ behind) q

abbrev pub KeepsDenials : List ℕ → List ℕ → Type 0
KeepsDenials first longer = KeepsDenialsOn change_on first longer

-- W-205: with one validatetrans more the table keeps the denials of relabellings, and every answer to a change; with one constrain more it keeps every answer
-- to a relabelling
abbrev pub KeepsAnswersOn : {Q : Type 0} → (List ℕ → Q → Answer) → List ℕ → List ℕ → Type 0
KeepsAnswersOn {Q} on first longer = (behind behind' : List ℕ) (q : Q) → on (longer ++ behind') q ≡ on (first ++ behind) q

pub record RelabelsKept (first longer : List ℕ) : Type 0 where
  pub denials : KeepsDenialsOn relabel_on first longer
  pub changes : KeepsAnswersOn change_on first longer

-- W-205, of the statements: one validatetrans more leaves every denial of a relabelling as it is, statement's number and number consulted too, and every
-- answer to a change; one constrain more leaves every answer to a relabelling
pub record RelabelsApart : Type 0 where
  pub denies : (p p' : Policy) → OneRelabelMore p p' → (q : Relabelling) → is_denied (relabel_answer p q).verdict ≡ true → relabel_answer p' q ≡ relabel_answer p q
  pub changes : (p p' : Policy) → OneRelabelMore p p' → (q : Question) → answer p' q ≡ answer p q
  pub relabels : (p p' : Policy) → OneConstrainMore p p' → (q : Relabelling) → relabel_answer p' q ≡ relabel_answer p q
