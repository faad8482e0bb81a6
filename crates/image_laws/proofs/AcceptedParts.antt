-- What reading leaves of the statements, gathered by their kind: the transitions, the constrains, the validatetrans. Assumes nothing.
use mathlib.Core.Path.{◌≡◌, subst}
use mathlib.Core.Option.{Option}
use Rattle.policy.specs.Basics.{gather, All}
use Rattle.policy.specs.Statements.{Statement, roletransition, constrain, validatetrans, Line, Policy, declarations, Transition, transition, transitions}
use Rattle.policy.specs.Statements.{Constrain, constrained, constrains, Relabel, relabelled, relabels}
use Rattle.policy.specs.Accepted.{StatementIn, Accepted}
use Rattle.policy.proofs.IfAny.{IfAny}
use Rattle.policy.proofs.ByKind.{transition-says, constrain-says, relabel-says}
use Rattle.meaning_laws.proofs.ListLaws.{all-gathered}

-- a transition, a constrain and a validatetrans as their statements are left
abbrev pub TransitionIn : Policy → Transition → Type 0
TransitionIn p t = StatementIn (declarations p) (roletransition t.role t.type t.class t.new)

abbrev pub ConstrainIn : Policy → Constrain → Type 0
ConstrainIn p c = StatementIn (declarations p) (constrain c.class c.perms c.body)

abbrev pub RelabelIn : Policy → Relabel → Type 0
RelabelIn p c = StatementIn (declarations p) (validatetrans c.class c.body)

module _ (p : Policy) (ok : Accepted p) where
  -- what is gathered from lines of one kind, of which each says what was gathered from it
  gathered : {B : Type 0} (says : B → Statement) (f : Line → Option B) → ((l : Line) → IfAny (λ b. l.says ≡ says b) (f l))
      → All (λ b. StatementIn (declarations p) (says b)) (gather f p)
  gathered says f k = all-gathered (λ (l : Line). StatementIn (declarations p) l.says) _ f
      (λ l b h e. subst (StatementIn (declarations p)) ((k l).has b e) h) p ok.statements

  pub transitions-in : All (TransitionIn p) (transitions p)
  unfolding transitions
  transitions-in = gathered (λ (t : Transition). roletransition t.role t.type t.class t.new) transition
      (λ l. record { has = λ t e. ((transition-says l.place l.says).has t e).0 })

  pub constrains-in : All (ConstrainIn p) (constrains p)
  unfolding constrains
  constrains-in = gathered (λ (c : Constrain). constrain c.class c.perms c.body) constrained (λ l. constrain-says l.says)

  pub relabels-in : All (RelabelIn p) (relabels p)
  unfolding relabels
  relabels-in = gathered (λ (c : Relabel). validatetrans c.class c.body) relabelled (λ l. relabel-says l.says)
