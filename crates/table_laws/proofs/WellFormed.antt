-- What `well_formed` tests, part by part. Assumes nothing.
use Prim.Native.Nat.{ℕ, ◌^◌, ◌<◌, ◌≤◌}
use native.Mathlib.Omega.{arith}
use mathlib.Core.Path.{◌≡◌, refl}
use mathlib.Core.Logic.{◌⊎◌, inl, inr}
use mathlib.Core.Bool.{Bool, true, false, ◌&&◌, ◌||◌, cond, false≢true}
use mathlib.Core.List.{List, []}
use lib.Dec.{eqb, ltb}
use lib.ListN.{length}
use borrow.Author.Tests.{eqb-true, leb-true, ltb-true}
use Rattle.policy.specs.Basics.{every, All}
use Rattle.policy.specs.Statements.{Family, users, roles, types, Sort, thing_of, attribute_of, Declaration, count, class_names, permissions}
use Rattle.policy.specs.Rows.{Row, balanced}
use Rattle.policy.specs.Image.{Image, TransitionEntry, ConstraintEntry, RelabelEntry, width}
use Rattle.policy.specs.Sound.{good_from, good_set, good_sets, good_transition, of_comp, good_row, good_constraint, good_relabel, well_formed}
use Rattle.bitset.specs.Sets.{within}
use Rattle.policy.proofs.Lists.{both_true, either_true}
use Rattle.table_laws.specs.SoundTable.{all_rows, relabel_rows}
use Rattle.table_laws.proofs.ListLaws.{every-all}
use Rattle.policy.proofs.Gathered.{all_map}
use Rattle.table_laws.proofs.Records.{WideTransition}
use Rattle.table_laws.proofs.ImageReadBack.{Sets}

-- the parts of the test
pub record Formed (i : Image) : Type 0 where
  pub names : good_from [] i.names ≡ true
  pub user_roles : good_sets i.names (count (thing_of users) i.names) roles i.user_roles ≡ true
  pub role_types : good_sets i.names (count (thing_of roles) i.names) types i.role_types ≡ true
  pub role_roles : good_sets i.names (count (thing_of roles) i.names) roles i.role_roles ≡ true
  pub few-transitions : length i.transitions ≤ 128
  pub transitions : All (λ (m : TransitionEntry). good_transition i.names m ≡ true) i.transitions
  pub few-constraints : length i.constraints ≤ 128
  pub constraints : All (λ (c : ConstraintEntry). good_constraint i.names c ≡ true) i.constraints
  pub few-rows : length (all_rows i) ≤ 2048
  pub user_sets : good_sets i.names (count (attribute_of users) i.names) users i.user_sets ≡ true
  pub role_sets : good_sets i.names (count (attribute_of roles) i.names) roles i.role_sets ≡ true
  pub type_sets : good_sets i.names (count (attribute_of types) i.names) types i.type_sets ≡ true
  pub few-relabels : length i.relabels ≤ 64
  pub relabels : All (λ (v : RelabelEntry). good_relabel i.names v ≡ true) i.relabels
  pub few-relabel-rows : length (relabel_rows i) ≤ 1024

module _ {R : Type 0} (b : Bool) where
  -- the last part of a test, and those before it
  apart : (a : Bool) → (a && b) ≡ true → (a ≡ true → b ≡ true → R) → R
  apart a h k = let p = both_true a b h in k p.0 p.1

pub formed : (i : Image) → well_formed i ≡ true → Formed i
unfolding well_formed
formed i h =
    apart _ _ h λ h few-ws.
    apart _ _ h λ h vs.
    apart _ _ h λ h ts.
    apart _ _ h λ h rs.
    apart _ _ h λ h us.
    apart _ _ h λ h few.
    apart _ _ h λ h cs.
    apart _ _ h λ h ms.
    apart _ _ h λ h rr.
    apart _ _ h λ h rt.
    apart _ _ h λ ns ur.
    apart _ _ cs λ few-cs all-cs.
    apart _ _ ms λ few-ms all-ms.
    apart _ _ vs λ few-vs all-vs.
    record {
      names = ns;
      user_roles = ur;
      role_types = rt;
      role_roles = rr;
      few-transitions = leb-true (length i.transitions) 128 few-ms;
      transitions = every-all (good_transition i.names) i.transitions all-ms;
      few-constraints = leb-true (length i.constraints) 128 few-cs;
      constraints = every-all (good_constraint i.names) i.constraints all-cs;
      few-rows = leb-true (length (all_rows i)) 2048 few;
      user_sets = us;
      role_sets = rs;
      type_sets = ts;
      few-relabels = leb-true (length i.relabels) 64 few-vs;
      relabels = every-all (good_relabel i.names) i.relabels all-vs;
      few-relabel-rows = leb-true (length (relabel_rows i)) 1024 few-ws;
    }

-- so many sets, each of its family's width
pub sets_of : (ds : List Declaration) (n : ℕ) (f : Family) (ss : List (List ℕ)) → good_sets ds n f ss ≡ true → Sets n (width f) ss
sets_of ds n f ss h = apart _ _ h λ many all. record {
  many = eqb-true (length ss) n many;
  wide = all_map _ _ (λ s g. eqb-true (length s) (width f) (both_true (eqb (length s) (width f)) (within (count (thing_of f) ds) s) g).0) ss (every-all (good_set ds f) ss all);
}

-- a transition's sets are of their widths; its numbers are declared
pub record GoodTransition (ds : List Declaration) (m : TransitionEntry) : Type 0 where
  pub wide : WideTransition m
  pub class : m.class < length (class_names ds)
  pub new : m.new < count (thing_of roles) ds

pub good-transition : (ds : List Declaration) (m : TransitionEntry) → good_transition ds m ≡ true → GoodTransition ds m
good-transition ds m h =
    let parts : (
    good_set ds roles m.roles && good_set ds types m.types
    && ltb m.class (length (class_names ds)) && ltb m.new (count (thing_of roles) ds)
    ) ≡ true = h in
    apart _ _ parts λ h new. apart _ _ h λ h class. apart _ _ h λ rs ts.
    record {
      wide = record {
        roles = eqb-true (length m.roles) 16 (both_true (eqb (length m.roles) 16) (within (count (thing_of roles) ds) m.roles) rs).0;
        types = eqb-true (length m.types) 64 (both_true (eqb (length m.types) 64) (within (count (thing_of types) ds) m.types) ts).0;
      };
      class = ltb-true m.class (length (class_names ds)) class;
      new = ltb-true m.new (count (thing_of roles) ds) new;
    }

pub record GoodConstraint (ds : List Declaration) (c : ConstraintEntry) : Type 0 where
  pub class : c.class < length (class_names ds)
  pub mask : c.mask < 2 ^ length (permissions ds c.class)
  pub rows : All (λ (r : Row). good_row 6 ds r ≡ true) c.rows

pub good-constraint : (ds : List Declaration) (c : ConstraintEntry) → good_constraint ds c ≡ true → GoodConstraint ds c
good-constraint ds c h =
    let class = ltb c.class (length (class_names ds)) in
    let some = ltb 0 c.mask in
    let mask = ltb c.mask (2 ^ length (permissions ds c.class)) in
    let rows = every (good_row 6 ds) c.rows in
    apart (balanced c.rows 0) (class && some && mask && rows) h λ h stack.
    apart rows (class && some && mask) h λ h rows.
    apart mask (class && some) h λ h mask.
    apart some class h λ class some.
    record {
      class = ltb-true c.class (length (class_names ds)) class;
      mask = ltb-true c.mask (2 ^ length (permissions ds c.class)) mask;
      rows = every-all (good_row 6 ds) c.rows rows;
    }

pub record GoodRelabel (ds : List Declaration) (v : RelabelEntry) : Type 0 where
  pub class : v.class < length (class_names ds)
  pub rows : All (λ (r : Row). good_row 9 ds r ≡ true) v.rows

pub good-relabel : (ds : List Declaration) (v : RelabelEntry) → good_relabel ds v ≡ true → GoodRelabel ds v
good-relabel ds v h =
    let class = ltb v.class (length (class_names ds)) in
    let rows = every (good_row 9 ds) v.rows in
    apart (balanced v.rows 0) (class && rows) h λ h stack.
    apart rows class h λ class rows.
    record { class = ltb-true v.class (length (class_names ds)) class; rows = every-all (good_row 9 ds) v.rows rows }

-- a row's fields fit their bytes
pub record SmallRow (r : Row) : Type 0 where
  pub kind : r.kind < 256
  pub comp : r.comp < 256
  pub op : r.op < 256
  pub num : r.num < 65536

-- one side of a choice is true
chosen : {R : Type 0} (t a b : Bool) → cond t a b ≡ true → (t ≡ true → a ≡ true → R) → (b ≡ true → R) → R
chosen true a b h k l = k refl h
chosen false a b h k l = l h

-- whatever components there are, if their numbers fit a byte
pub good-row : (n : ℕ) → n ≤ 256 → (ds : List Declaration) (r : Row) → ((s : Sort) → count s ds ≤ 65536) → good_row n ds r ≡ true → SmallRow r
good-row n byte ds r few h =
    chosen (ltb r.kind 3) _ _ h
    (λ k h. apart _ _ h λ h n. apart _ _ h λ c o.
    let kind = ltb-true r.kind 3 k in
    let comp = eqb-true r.comp 0 c in
    let op = eqb-true r.op 0 o in
    let num = eqb-true r.num 0 n in
    record { kind = omega arith; comp = omega arith; op = omega arith; num = omega arith })
    (λ h. chosen (eqb r.kind 3) _ _ h
    (λ k h. sides (eqb-true r.kind 3 k) (either_true _ _ h))
    (λ h. chosen (eqb r.kind 4) _ _ h
    (λ k h. named (thing_of (of_comp r.comp)) (omega (arith, eqb-true r.kind 4 k)) h)
    (λ h. chosen (eqb r.kind 5) _ _ h
    (λ k h. named (attribute_of (of_comp r.comp)) (omega (arith, eqb-true r.kind 5 k)) h)
    (λ h. absurd (false≢true h)))))
  where
    both-sides : (t : Bool) (m : ℕ) → r.kind ≡ 3 → (t ≡ true → r.comp < 256) → m ≤ 256
        → (t && ltb r.op m && eqb r.num 0) ≡ true → SmallRow r
    both-sides t m k c l h =
        let n = both_true (t && ltb r.op m) (eqb r.num 0) h in
        let o = both_true t (ltb r.op m) n.0 in
        record {
          kind = omega arith;
          comp = c o.0;
          op = omega (arith, ltb-true r.op m o.1);
          num = omega (arith, eqb-true r.num 0 n.1);
        }

    or-four : (eqb r.comp 0 ≡ true) ⊎ (eqb r.comp 4 ≡ true) → r.comp < 256
    or-four (inl c) = omega (arith, eqb-true r.comp 0 c)
    or-four (inr c) = omega (arith, eqb-true r.comp 4 c)

    sides : r.kind ≡ 3
        → (((eqb r.comp 0 || eqb r.comp 4) && ltb r.op 2 && eqb r.num 0) ≡ true) ⊎ ((eqb r.comp 2 && ltb r.op 5 && eqb r.num 0) ≡ true)
        → SmallRow r
    sides k (inl h) = both-sides (eqb r.comp 0 || eqb r.comp 4) 2 k (λ c. or-four (either_true (eqb r.comp 0) (eqb r.comp 4) c)) (omega arith) h
    sides k (inr h) = both-sides (eqb r.comp 2) 5 k (λ c. omega (arith, eqb-true r.comp 2 c)) (omega arith) h

    named : (s : Sort) → r.kind < 256 → (ltb r.comp n && ltb r.op 2 && ltb r.num (count s ds)) ≡ true → SmallRow r
    named s k h =
        let m = both_true (ltb r.comp n && ltb r.op 2) (ltb r.num (count s ds)) h in
        let o = both_true (ltb r.comp n) (ltb r.op 2) m.0 in
        record {
          kind = k;
          comp = omega (arith, byte, ltb-true r.comp n o.0);
          op = omega (arith, ltb-true r.op 2 o.1);
          num = omega (arith, ltb-true r.num (count s ds) m.1, few s);
        }
