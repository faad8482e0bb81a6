-- On a sound table the bytes say of contexts what the image says. Assumes nothing.
use Prim.Native.Nat.{ℕ, ◌<◌, ◌≤◌}
use native.Mathlib.Omega.{arith}
use mathlib.Core.Path.{◌≡◌, refl, ap, subst}
use mathlib.Core.Bool.{true, ◌&&◌}
use mathlib.Core.List.{List, []}
use lib.Dec.{ltb}
use lib.ListN.{length, get_or}
use borrow.Author.Tests.{ltb-true, lt-ltb}
use Rattle.bitset.specs.Relations.{joined}
use Rattle.bitset.specs.Sets.{member}
use Rattle.policy.specs.Statements.{users, roles, types, Sort, thing_of, Declaration, count}
use Rattle.policy.specs.Meaning.{Context}
use Rattle.policy.specs.Encode.{bodies}
use Rattle.policy.specs.Deciding.{declared_context}
use Rattle.policy.specs.Questions.{in_set}
use Rattle.policy.proofs.Lists.{both_true}
use Rattle.policy.proofs.Counts.{few-of}
use Rattle.policy.proofs.Sorts.{max-small}
use Rattle.table_laws.specs.SoundTable.{Sound}
use Rattle.table_laws.proofs.Pieces.{Wide}
use Rattle.table_laws.proofs.ImageReadBack.{Laid}
use Rattle.table_laws.proofs.WellFormed.{formed}
use Rattle.table_laws.proofs.WellFormedLaid.{well-formed-laid}
use Rattle.table_reader.specs.Records.{start_in}
use Rattle.table_reader.proofs.RecordLaws.{Stands, set-part}
use Rattle.table_reader.proofs.SoundPlaces.{stands_of}
use Rattle.soundness.proofs.SoundTable.{things-of}
use Rattle.decisions.specs.TableAnswers.{declares_context, set_has}
use Rattle.table_names.specs.TableNames.{counts_in}

module _ (t : List ℕ) (s : Sound t) where
  laid_of : Laid s.image
  laid_of = well-formed-laid s.image s.formed

  pub few : (x : Sort) → count x s.image.names ≤ 512
  few x = omega (arith, few-of x s.image.names (formed s.image s.formed).names, max-small x)

  -- CONTEXTS

  pub declares-context : (c : Context) → declares_context (counts_in t) c ≡ declared_context s.image.names c
  unfolding declares_context declared_context
  declares-context c = rw (things-of t s (thing_of users), things-of t s (thing_of roles), things-of t s (thing_of types))

  -- a set of a body
  set-of : (b w : ℕ) (ss : List (List ℕ)) → get_or (bodies s.image) b [] ≡ joined ss → Wide w ss → length ss ≤ 512 → (k n : ℕ) → k < length ss
      → set_has t b w k n ≡ in_set ss k n
  unfolding set_has
  set-of b w ss e wide many k n h =
      rw (lt-ltb k 65536 (omega arith))
      (ap (λ (x : List ℕ). member x n) (set-part w ss wide k h (subst (Stands t (start_in t b)) e (stands_of t s b))))

  module _ (n : ℕ) where
    pub user-role : (u : ℕ) → u < count (thing_of users) s.image.names → set_has t 1 16 u n ≡ in_set s.image.user_roles u n
    unfolding bodies
    user-role u h =
        let sets = laid_of.user_roles in
        set-of 1 16 s.image.user_roles refl sets.wide (omega (arith, sets.many, few (thing_of users))) u n (omega (arith, sets.many))

    pub role-type : (r : ℕ) → r < count (thing_of roles) s.image.names → set_has t 2 64 r n ≡ in_set s.image.role_types r n
    unfolding bodies
    role-type r h =
        let sets = laid_of.role_types in
        set-of 2 64 s.image.role_types refl sets.wide (omega (arith, sets.many, few (thing_of roles))) r n (omega (arith, sets.many))

    pub role-role : (r : ℕ) → r < count (thing_of roles) s.image.names → set_has t 3 16 r n ≡ in_set s.image.role_roles r n
    unfolding bodies
    role-role r h =
        let sets = laid_of.role_roles in
        set-of 3 16 s.image.role_roles refl sets.wide (omega (arith, sets.many, few (thing_of roles))) r n (omega (arith, sets.many))

-- a context's numbers by themselves
pub record Declared (ds : List Declaration) (c : Context) : Type 0 where
  pub user : c.user < count (thing_of users) ds
  pub role : c.role < count (thing_of roles) ds
  pub type : c.type < count (thing_of types) ds

pub declared-numbers : (ds : List Declaration) (c : Context) → declared_context ds c ≡ true → Declared ds c
unfolding declared_context
declared-numbers ds c h =
    let u = ltb c.user (count (thing_of users) ds) in
    let r = ltb c.role (count (thing_of roles) ds) in
    let y = ltb c.type (count (thing_of types) ds) in
    let p = both_true (u && r) y h in
    let q = both_true u r p.0 in
    record {
      user = ltb-true c.user (count (thing_of users) ds) q.0;
      role = ltb-true c.role (count (thing_of roles) ds) q.1;
      type = ltb-true c.type (count (thing_of types) ds) p.1;
    }
