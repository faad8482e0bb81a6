-- `resolver::resolve` meets its contract: the faults in their order. Assumes nothing.
use mathlib.Core.Path.{◌≡◌, sym, ap, ◌∙◌}
use Rattle.policy.specs.Statements.{users, roles, types, Policy}
use Rattle.policy.specs.Meaning.{count_in}
use Rattle.policy.specs.Faults.{cycle}
use Rattle.policy.specs.Accepted.{Accepted}
use Rattle.statement_code.specs.Code.{code_of}
use Rattle.code_reader.specs.Reading.{found_of}
use Rattle.resolver.proofs.FaultLaws.{cycle-found, cycle-first, clash-next, sound-last}
use Rattle.resolver.proofs.resolve.Goals as goal
use Rattle.resolver.proofs.resolve.Goals.{After-or-2}

-- the three families have been searched
cycle-told : (c : After-or-2) (p : Policy) → Accepted p → c.args.code.now ≡ code_of p
    → c.args.users ≡ count_in p users → c.args.roles ≡ count_in p roles → c.args.types ≡ count_in p types → found_of c.or-2.result ≡ cycle p
cycle-told c p ok q u r t =
    cycle-found p _ _ _ _ (c.or-2.ensures ∙ rw c.or.ensures) (c.resolve_family-in_users.ensures p ok q u).1
    (c.resolve_family-in_roles.ensures p ok q r).1 (c.resolve_family-in_types.ensures p ok q t).1

pub returns-in-Some : goal.returns-in-Some
returns-in-Some c = record {
  resolves =
      λ p ok q u r t. record {
        user-sets = (c.resolve_family-in_users.ensures p ok q u).0;
        role-sets = (c.resolve_family-in_roles.ensures p ok q r).0;
        type-sets = (c.resolve_family-in_types.ensures p ok q t).0;
        answer = cycle-first p _ (sym (ap found_of c.in-Some.is) ∙ cycle-told (goal.at.returns-in-Some c).After-or-2 p ok q u r t);
      };
  refuses = tt;
}

pub returns-in-Some-clash : goal.returns-in-Some-clash
returns-in-Some-clash c = record {
  resolves =
      λ p ok q u r t. record {
        user-sets = (c.resolve_family-in_users.ensures p ok q u).0;
        role-sets = (c.resolve_family-in_roles.ensures p ok q r).0;
        type-sets = (c.resolve_family-in_types.ensures p ok q t).0;
        answer =
            clash-next p _ (sym (ap found_of c.in_default.is) ∙ cycle-told (goal.at.returns-in-Some-clash c).After-or-2 p ok q u r t)
            (sym (ap found_of c.in-Some-clash.is) ∙ c.clash.ensures p ok q
            (c.resolve_family-in_roles.ensures p ok q r).0 (c.resolve_family-in_types.ensures p ok q t).0);
      };
  refuses = tt;
}

pub returns : goal.returns
returns c = record {
  resolves =
      λ p ok q u r t. record {
        user-sets = (c.resolve_family-in_users.ensures p ok q u).0;
        role-sets = (c.resolve_family-in_roles.ensures p ok q r).0;
        type-sets = (c.resolve_family-in_types.ensures p ok q t).0;
        answer =
            sound-last p (sym (ap found_of c.in_default.is) ∙ cycle-told (goal.at.returns c).After-or-2 p ok q u r t)
            (sym (ap found_of c.in_default-clash.is) ∙ c.clash.ensures p ok q
            (c.resolve_family-in_roles.ensures p ok q r).0 (c.resolve_family-in_types.ensures p ok q t).0);
      };
  refuses = tt;
}
