-- What is read refers to few enough things, attributes and classes: the numbers in it are below 1024. From the maxima. Assumes nothing.
use native.Mathlib.Omega.{arith}
use mathlib.Core.Path.{◌≡◌}
use mathlib.Core.Bool.{true}
use mathlib.Core.List.{List, []}
use Rattle.policy.specs.Basics.{All}
use Rattle.policy.specs.Statements.{roles, types, thing_of, attribute_of, Declaration, Statement, declare, attributeset, gives, roletransition, constrain, from_of}
use Rattle.policy.specs.Statements.{validatetrans, to_of, Line, Policy, declarations}
use Rattle.policy.specs.Sound.{good_from}
use Rattle.policy.specs.Accepted.{StatementIn, Accepted}
use Rattle.policy.proofs.Counts.{few-of, few-classes}
use Rattle.policy.proofs.Gathered.{all_map}
use Rattle.statement_code.specs.Numbered.{StatementNumbered}
use Rattle.statement_code.proofs.Numbers.{reference-numbered, set-numbered}

module _ (ds : List Declaration) (good : good_from [] ds ≡ true) where
  pub statement-numbered : (s : Statement) → StatementIn ds s → StatementNumbered s
  statement-numbered (declare d) h = tt
  statement-numbered (attributeset f a s) h = (omega (arith, few-of (attribute_of f) ds good), set-numbered ds good f s h.1)
  statement-numbered (gives k x y) h = (reference-numbered ds good (from_of k) x h.0, reference-numbered ds good (to_of k) y h.1)
  statement-numbered (roletransition r t c n) h =
      (reference-numbered ds good roles r h.0, reference-numbered ds good types t h.1, omega (arith, few-classes ds good), omega (arith, few-of (thing_of roles) ds good))
  statement-numbered (constrain c ps e) h = tt
  statement-numbered (validatetrans c e) h = tt

abbrev pub LineNumbered : Line → Type 0
LineNumbered l = StatementNumbered l.says

pub accepted-numbered : (p : Policy) → Accepted p → All LineNumbered p
accepted-numbered p a =
    all_map (λ (l : Line). StatementIn (declarations p) l.says) LineNumbered (λ l h. statement-numbered (declarations p) a.names l.says h) p a.statements
