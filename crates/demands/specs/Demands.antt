-- DEMAND 3, word for word, with W-205, of a text that was accepted and of the table that was written for it. Assumes nothing.
use Rattle.std.specs.Prelude.{ℕ, ◌≡◌, ◌↔◌, true, false, List, ◌∷◌, ◌++◌, take, Ok}
use Rattle.std.proofs.Math.Option.{some}
use Rattle.policy.specs.Statements.{Policy, declarations}
use Rattle.policy.specs.Reading.{policy}
use Rattle.policy.specs.Meaning.{Context}
use Rattle.policy.specs.Deciding.{valid_reply, Question, granted, declared_question, Relabelling, declared_relabel}
use Rattle.policy.specs.Answer.{given_by, answer, relabel_answer}
use Rattle.policy.specs.Image.{image_of}
use Rattle.policy.specs.Sound.{image_in}
use Rattle.policy.specs.Outcome.{of_text, policy_of}
use Rattle.policy.specs.Questions.{valid_on, new_role_on, change_on, relabel_on}
use Rattle.answer_laws.specs.ByStatements.{new_role_by}
use Rattle.answer_laws.specs.Granting.{Grants, GrantsRelabel}
use Rattle.answer_laws.specs.Longer.{OneConstrainMore, OneRelabelMore, ConstrainText, RelabelText, KeepsDenials, KeepsAnswersOn, RelabelsKept}
use Rattle.demand_laws.specs.ByText.{is_refusal}
use Rattle.compiler.specs.Promise.{Compiles}

pub record Demand3 (text table : List ℕ) : Type 0 where
  -- the statements of the text, as read
  pub statements : Policy
  pub read : policy_of (of_text text) ≡ policy statements
  -- "whatever stands behind the table later, the written table, unaltered and read without the text, gives the answer that the statements
  -- give .. grant or denial, the denial's number, the failing constraint's number and the number consulted"
  pub answers : (behind : List ℕ) (q : Question) → change_on (table ++ behind) q ≡ answer statements q
  -- "any change question in numbers it declares .. never a refusal"
  pub never-refused : (behind : List ℕ) (q : Question) → declared_question (declarations statements) q ≡ true → is_refusal (change_on (table ++ behind) q).verdict ≡ false
  -- "It grants exactly when by the statements both contexts are valid, the role change is allowed where process transition or
  -- dyntransition asks it, and every constraint on that class and permission is true as written"
  pub grants-only : (behind : List ℕ) (q : Question) → (change_on (table ++ behind) q).verdict ≡ granted → Grants statements q
  pub grants-when : (behind : List ℕ) (q : Question) → declared_question (declarations statements) q ≡ true → Grants statements q → (change_on (table ++ behind) q).verdict ≡ granted
  -- "Add one constrain statement at the end: if the longer policy is accepted, its table denies every question that the first table denies": of every text
  -- that says the same statements in order, wherever they are in it, and then one constrain
  pub longer-denies : (longer before now : List ℕ) (n : ℕ) → Compiles (of_text longer) before now (Ok n) → (said : Policy) → policy_of (of_text longer) ≡ policy said
      → OneConstrainMore statements said → KeepsDenials table (take n now)
  -- and of the bytes: this text, a line feed, and the bytes of one constrain
  pub added-denies : (more before now : List ℕ) (n : ℕ) → Compiles (of_text (text ++ (10 ∷ more))) before now (Ok n) → ConstrainText more
      → KeepsDenials table (take n now)
  -- W-205: "Demand 3 covers this question", that of relabelling: the answer that the statements give, in declared numbers never a refusal, and granted
  -- exactly when by the statements all three contexts are valid and every validatetrans of the class is true as written
  pub relabels : (behind : List ℕ) (q : Relabelling) → relabel_on (table ++ behind) q ≡ relabel_answer statements q
  pub relabels-never-refused : (behind : List ℕ) (q : Relabelling) → declared_relabel (declarations statements) q ≡ true
      → is_refusal (relabel_on (table ++ behind) q).verdict ≡ false
  pub relabels-grant : (behind : List ℕ) (q : Relabelling) → ((relabel_on (table ++ behind) q).verdict ≡ granted) ↔ GrantsRelabel statements q
  -- ".. and a validatetrans added at the end": a constrain more leaves the answers to relabellings as they are; a validatetrans more denies every relabelling
  -- that the first table denies, and leaves the answers to changes as they are. Of every text that says the same statements and then one more
  pub longer-relabels : (longer before now : List ℕ) (n : ℕ) → Compiles (of_text longer) before now (Ok n) → (said : Policy) → policy_of (of_text longer) ≡ policy said
      → OneConstrainMore statements said → KeepsAnswersOn relabel_on table (take n now)
  pub longer-keeps : (longer before now : List ℕ) (n : ℕ) → Compiles (of_text longer) before now (Ok n) → (said : Policy) → policy_of (of_text longer) ≡ policy said
      → OneRelabelMore statements said → RelabelsKept table (take n now)
  -- and of the bytes
  pub added-relabels : (more before now : List ℕ) (n : ℕ) → Compiles (of_text (text ++ (10 ∷ more))) before now (Ok n) → ConstrainText more
      → KeepsAnswersOn relabel_on table (take n now)
  pub added-keeps : (more before now : List ℕ) (n : ℕ) → Compiles (of_text (text ++ (10 ∷ more))) before now (Ok n) → RelabelText more
      → RelabelsKept table (take n now)
  -- valid context and new role give back what the statements say
  pub valid : (behind : List ℕ) (c : Context) → valid_on (table ++ behind) c ≡ valid_reply (given_by statements) c
  pub new-role : (behind : List ℕ) (r y c : ℕ) → new_role_on (table ++ behind) r y c ≡ new_role_by statements r y c
  -- and so do name of and entry: they read from the image of the statements
  pub holds : (behind : List ℕ) → image_in (table ++ behind) ≡ some (image_of statements)
