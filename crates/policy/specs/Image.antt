-- Document 01, "The table": its content without its bytes. A section's bytes are its body: section 5 and body 5 are one thing, counted from 1 as in the
-- documents. Assumes nothing.
use Rattle.std.specs.Prelude.{ℕ, List}
use Rattle.policy.specs.Basics.{each, is_among}
use Rattle.policy.specs.Statements.{Family, users, roles, types, thing_of, attribute_of, Declaration, Policy, count}
use Rattle.policy.specs.Statements.{declarations, transitions, Transition, constrains, Constrain, relabels, Relabel, userrole, roletype, roleallow}
use Rattle.policy.specs.Meaning.{Set, stands, related, final}
use Rattle.bitset.specs.Sets.{set_of, from_bits, tabulate}
use Rattle.policy.specs.Rows.{Row, rows_of}

-- the bytes of a set of users or roles, and of types
abbrev pub width : Family → ℕ
width users = 16
width roles = 16
width types = 64

-- body 5: "role set 16, type set 64, class 1, new role 1"
pub record TransitionEntry : Type 0 where
  pub roles : List ℕ
  pub types : List ℕ
  pub class : ℕ
  pub new : ℕ

-- bodies 6 and 7: a constraint's class, permission mask and rows; "constraints take up the rows in order with none left"
pub record ConstraintEntry : Type 0 where
  pub class : ℕ
  pub mask : ℕ
  pub rows : List Row

-- W-205, bodies 9 and 10: the class of a validatetrans statement, and its rows
pub record RelabelEntry : Type 0 where
  pub class : ℕ
  pub rows : List Row

-- what the sections hold; each set is its bytes
pub record Image : Type 0 where
  pub names : List Declaration
  pub user_roles : List (List ℕ)
  pub role_types : List (List ℕ)
  pub role_roles : List (List ℕ)
  pub transitions : List TransitionEntry
  pub constraints : List ConstraintEntry
  pub user_sets : List (List ℕ)
  pub role_sets : List (List ℕ)
  pub type_sets : List (List ℕ)
  pub relabels : List RelabelEntry

-- the sets f 0, f 1, .., n of them, in the bytes of a family
abbrev pub sets_of : ℕ → Family → (ℕ → Set) → List (List ℕ)
sets_of n g f = tabulate n (λ i. set_of (width g) (f i))

-- a bit for each permission
unfoldable pub mask_of : List ℕ → ℕ
mask_of ps = from_bits 32 (λ k. is_among k ps)

abbrev pub transition_entry : Policy → Transition → TransitionEntry
transition_entry p t = record {
  roles = set_of (width roles) (stands p roles t.role);
  types = set_of (width types) (stands p types t.type);
  class = t.class;
  new = t.new;
}

abbrev pub constraint_entry : Constrain → ConstraintEntry
constraint_entry c = record { class = c.class; mask = mask_of c.perms; rows = rows_of c.body }

abbrev pub relabel_entry : Relabel → RelabelEntry
relabel_entry c = record { class = c.class; rows = rows_of c.body }

-- what the table of a policy holds
unfoldable pub image_of : Policy → Image
image_of p =
    let ds = declarations p in
    record {
      names = ds;
      user_roles = sets_of (count (thing_of users) ds) roles (related p userrole);
      role_types = sets_of (count (thing_of roles) ds) types (related p roletype);
      role_roles = sets_of (count (thing_of roles) ds) roles (related p roleallow);
      transitions = each (transition_entry p) (transitions p);
      constraints = each constraint_entry (constrains p);
      user_sets = sets_of (count (attribute_of users) ds) users (final p users);
      role_sets = sets_of (count (attribute_of roles) ds) roles (final p roles);
      type_sets = sets_of (count (attribute_of types) ds) types (final p types);
      relabels = each relabel_entry (relabels p);
    }
