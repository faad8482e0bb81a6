-- What is given in two ways, with the same names and the same relations between declared numbers, is decided alike. By the parts of a declared
-- question. Assumes nothing.
use Prim.Native.Nat.{ℕ, ◌<◌}
use mathlib.Core.Path.{◌≡◌, ap, ap₂, ◌∙◌}
use mathlib.Core.Bool.{Bool, true, ◌&&◌, ◌||◌}
use mathlib.Core.List.{List}
use lib.Dec.{ltb}
use lib.ListN.{length}
use borrow.Author.Tests.{ltb-true}
use Rattle.policy.specs.Statements.{Side, source, target, process}
use Rattle.policy.specs.Statements.{Family, users, roles, types, thing_of, Declaration, count, class_names, permissions, Relation, userrole, roletype, roleallow, from_of, to_of}
use Rattle.policy.specs.Meaning.{Context, Contexts, part}
use Rattle.policy.specs.Deciding.{Given, is_object, valid_by, Question, contexts_of, Answer, decide, declared_context, declared_question, asks_role, role_may, may_become, ruled_by}
use Rattle.policy.specs.Deciding.{Relabelling, relabel_contexts, decide_relabel, declared_relabel, ruled_relabel}
use Rattle.policy.proofs.Lists.{both_true}
use Rattle.answer_laws.proofs.FourTests.{change-tests, relabel-tests, tests_agree}

-- THE NUMBERS

-- a context of declared numbers
abbrev pub InRange : List Declaration → Context → Type 0
InRange ds c = (f : Family) → part f c < count (thing_of f) ds

pub in-range : (ds : List Declaration) (c : Context) → declared_context ds c ≡ true → InRange ds c
unfolding declared_context
in-range ds c h = λ f. by f
  where
    below : Family → Bool
    below f = ltb (part f c) (count (thing_of f) ds)

    front : (below users && below roles ≡ true) × (below types ≡ true)
    front = both_true (below users && below roles) (below types) h

    by : (f : Family) → part f c < count (thing_of f) ds
    by users = ltb-true c.user (count (thing_of users) ds) (both_true (below users) (below roles) front.0).0
    by roles = ltb-true c.role (count (thing_of roles) ds) (both_true (below users) (below roles) front.0).1
    by types = ltb-true c.type (count (thing_of types) ds) front.1

-- contexts of declared numbers, by their sides
abbrev pub AllDeclared : List Declaration → Contexts → Type 0
AllDeclared ds on = (x : Side) → declared_context ds (on x) ≡ true

-- a change, and a relabelling, in declared numbers
pub record Declared (ds : List Declaration) (q : Question) : Type 0 where
  pub contexts : AllDeclared ds (contexts_of q)
  pub perm : q.perm < length (permissions ds q.class)

each-side : (P : Side → Type 0) → P source → P target → P process → (x : Side) → P x
each-side P s t p source = s
each-side P s t p target = t
each-side P s t p process = p

pub declared-parts : (ds : List Declaration) (q : Question) → declared_question ds q ≡ true → Declared ds q
unfolding declared_question
declared-parts ds q h =
    let s = declared_context ds q.source in
    let t = declared_context ds q.target in
    let c = ltb q.class (length (class_names ds)) in
    let k = ltb q.perm (length (permissions ds q.class)) in
    let last = both_true (s && t && c) k h in
    let both = both_true s t (both_true (s && t) c last.0).0 in
    record { contexts = each-side _ both.0 both.1 both.0; perm = ltb-true q.perm (length (permissions ds q.class)) last.1 }

pub relabel-declared : (ds : List Declaration) (q : Relabelling) → declared_relabel ds q ≡ true → AllDeclared ds (relabel_contexts q)
unfolding declared_relabel
relabel-declared ds q h =
    let o = declared_context ds q.old in
    let n = declared_context ds q.new in
    let p = declared_context ds q.process in
    let front = both_true (o && n) p (both_true (o && n && p) (ltb q.class (length (class_names ds))) h).0 in
    let both = both_true o n front.0 in
    each-side _ both.0 both.1 front.1

-- WHAT IS GIVEN

-- the same names, and of declared numbers the same relations
pub record Agree (g h : Given) : Type 0 where
  pub names : g.names ≡ h.names
  pub gives : (k : Relation) (x y : ℕ) → x < count (thing_of (from_of k)) g.names → y < count (thing_of (to_of k)) g.names → g.gives k x y ≡ h.gives k x y

module _ (g h : Given) (same : Agree g h) where
  pub agree-valid : (c : Context) → declared_context g.names c ≡ true → valid_by g c ≡ valid_by h c
  unfolding valid_by
  agree-valid c d =
      let in-it = in-range g.names c d in
      ap₂ ◌||◌
      (ap₂ ◌&&◌ (same.gives userrole c.user c.role (in-it users) (in-it roles)) (same.gives roletype c.role c.type (in-it roles) (in-it types)))
      (ap (λ (ds : List Declaration). is_object ds c.role) same.names)

  agree-may : (q : Question) → Declared g.names q → may_become g q ≡ may_become h q
  unfolding may_become
  agree-may q d =
      ap₂ (λ (ds : List Declaration) (may : Bool). role_may (asks_role ds q.class q.perm) q.source.role q.target.role may)
      same.names
      (same.gives roleallow q.source.role q.target.role (in-range g.names q.source (d.contexts source) roles)
      (in-range g.names q.target (d.contexts target) roles))

  -- the same decision, where the statements that are asked answer the same to what is declared
  pub agree-rules : (q : Question) (r s : Answer) → (declared_question g.names q ≡ true → r ≡ s) → ruled_by g q r ≡ ruled_by h q s
  unfolding ruled_by
  agree-rules q r s rest =
      tests_agree 3 _ change-tests (declared_question g.names q) _ _ _ _ _ _ r s (λ d.
      let parts = declared-parts g.names q d in
      (agree-valid q.source (parts.contexts source), agree-valid q.target (parts.contexts target), agree-may q parts, rest d))
      ∙ ap (λ (ds : List Declaration). decide (declared_question ds q) (valid_by h q.source) (valid_by h q.target) (may_become h q) s) same.names

  pub agree-relabels : (q : Relabelling) (r s : Answer) → (declared_relabel g.names q ≡ true → r ≡ s) → ruled_relabel g q r ≡ ruled_relabel h q s
  unfolding ruled_relabel
  agree-relabels q r s rest =
      tests_agree 5 _ relabel-tests (declared_relabel g.names q) _ _ _ _ _ _ r s (λ d.
      let parts = relabel-declared g.names q d in
      (agree-valid q.old (parts source), agree-valid q.new (parts target), agree-valid q.process (parts process), rest d))
      ∙ ap (λ (ds : List Declaration). decide_relabel (declared_relabel ds q) (valid_by h q.old) (valid_by h q.new) (valid_by h q.process) s) same.names
