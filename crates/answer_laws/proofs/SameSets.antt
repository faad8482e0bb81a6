-- Two policies that declare the same, give attributes the same sets and relate the same things: every reference stands for the same, a decision is given the
-- same, and the answers differ at most by the statements that are asked. Assumes nothing.
use Prim.Native.Nat.{ℕ, zero, suc}
use mathlib.Core.Path.{◌≡◌, refl, ap, ap₂, ◌∙◌, fun_ext}
use mathlib.Core.Bool.{Bool}
use mathlib.Core.List.{List}
use mathlib.Core.Option.{Option}
use lib.Dec.{eqb}
use Rattle.policy.specs.Basics.{any, gather}
use Rattle.policy.specs.Statements.{Family, Reference, Constraint, Statement, Line, Policy, Declaration, declarations, sets_for, count, thing_of, Relation}
use Rattle.policy.specs.Statements.{Constrain, as_constrain, constrains, constrain_body, Relabel, as_relabel, relabels, relabel_body}
use Rattle.policy.specs.Meaning.{Set, Contexts, count_in, union_of, nested, final, stands, stands_in, Denotation, line_gives, related, holds}
use Rattle.policy.specs.Deciding.{Given, Question, Answer, first_failing, contexts_of, ruled_by, Relabelling, relabel_contexts, ruled_relabel}
use Rattle.policy.specs.Answer.{given_by, names_asked, answer, relabel_answer}

pub record SameSets (p p' : Policy) : Type 0 where
  pub declares : declarations p' ≡ declarations p
  pub sets : (f : Family) (a : ℕ) → sets_for f a p' ≡ sets_for f a p
  pub gives : (s : Denotation) (k : Relation) (x y : ℕ) → any (line_gives s k x y) p' ≡ any (line_gives s k x y) p

-- how a question is decided: the decision where the statements that it asks answer, which of them it asks, by which denial and of which contexts
pub record Ruling (A : Type 0) : Type 0 where
  pub rule : Given → Answer → Answer
  pub denial : ℕ
  pub names : A → Bool
  pub contexts : Contexts
  pub body : A → Constraint Reference
  -- the statements of their kind
  pub taken : Statement → Option A

abbrev pub change_ruling : Question → Ruling Constrain
change_ruling q = record {
  rule = λ g rest. ruled_by g q rest;
  denial = 4;
  names = names_asked q.class q.perm;
  contexts = contexts_of q;
  body = constrain_body;
  taken = as_constrain;
}

abbrev pub relabel_ruling : Relabelling → Ruling Relabel
relabel_ruling q = record {
  rule = λ g rest. ruled_relabel g q rest;
  denial = 6;
  names = λ s. eqb s.class q.class;
  contexts = relabel_contexts q;
  body = relabel_body;
  taken = as_relabel;
}

module _ {A : Type 0} (k : Ruling A) where
  -- the statements of its kind
  abbrev pub taken_in : Policy → List A
  taken_in p = gather (λ (l : Line). k.taken l.says) p

  -- the answer of the statements of p, where those that are asked are among these
  abbrev pub ruled_with : Policy → List A → Answer
  ruled_with p cs = k.rule (given_by p) (first_failing k.denial k.names (λ s. holds (stands p) k.contexts (k.body s)) 0 cs)

  abbrev pub ruled : Policy → Answer
  ruled p = ruled_with p (taken_in p)

pub change-ruled : (p : Policy) (q : Question) → answer p q ≡ ruled (change_ruling q) p
unfolding answer constrains
change-ruled p q = refl

pub relabel-ruled : (p : Policy) (q : Relabelling) → relabel_answer p q ≡ ruled (relabel_ruling q) p
unfolding relabel_answer relabels
relabel-ruled p q = refl

module _ (p p' : Policy) (h : SameSets p p') where
  count_same : (f : Family) → count_in p' f ≡ count_in p f
  unfolding count_in
  count_same f = ap (count (thing_of f)) h.declares

  nested_same : (f : Family) (k : ℕ) → nested k p' f ≡ nested k p f
  unfolding nested union_of
  nested_same f zero = refl
  nested_same f (suc k) = fun_ext λ a. fun_ext λ n. rw (nested_same f k, h.sets f a, count_same f)

  stands_same : stands p' ≡ stands p
  unfolding stands final
  stands_same = fun_ext λ f. fun_ext λ r. fun_ext λ n. ap (λ (s : ℕ → Set). stands_in s r n) (nested_same f 64)

  related_same : (k : Relation) (x y : ℕ) → related p' k x y ≡ related p k x y
  unfolding related
  related_same k x y = h.gives (stands p') k x y ∙ ap (λ (s : Denotation). any (line_gives s k x y) p) stands_same

  -- both give a decision the same
  given-same : given_by p' ≡ given_by p
  given-same =
      ap₂ (λ (ds : List Declaration) (r : Relation → ℕ → Set). record { names = ds; gives = r }) h.declares (fun_ext λ k. fun_ext λ x. fun_ext λ y. related_same k x y)

  pub ruled-same-sets : {A : Type 0} (k : Ruling A) → ruled k p' ≡ ruled_with k p (taken_in k p')
  ruled-same-sets k =
      ap₂ (λ (g : Given) (s : Denotation). k.rule g (first_failing k.denial k.names (λ c. holds s k.contexts (k.body c)) 0 (taken_in k p')))
      given-same stands_same
