-- The sets of a policy's image are bytes: they are made of rules. Assumes nothing.
use Prim.Native.Nat.{ℕ, zero, suc, ◌+◌, ◌*◌, ◌<◌}
use mathlib.Core.Path.{◌≡◌}
use mathlib.Core.Bool.{Bool, true}
use mathlib.Core.List.{List, [], ◌∷◌}
use Rattle.policy.specs.Basics.{each, All}
use Rattle.policy.specs.Statements.{Family, users, roles, types, thing_of, attribute_of, Policy, Transition, count, declarations, transitions, userrole, roletype, roleallow}
use Rattle.policy.specs.Meaning.{Set, stands, related, final}
use Rattle.policy.specs.Image.{TransitionEntry, width, sets_of, transition_entry, image_of}
use Rattle.policy.specs.Encode.{encode}
use Rattle.policy.specs.Sound.{well_formed}
use Rattle.bitset.specs.Sets.{from_bits, tabulate, set_of}
use Rattle.bitset.proofs.BitLaws.{from_bits-lt}
use Rattle.table_laws.specs.SoundTable.{Bytes, SetsOfBytes}
use Rattle.table_laws.proofs.TableBytes.{encode-bytes}

tabulate-all : {A : Type 0} (P : A → Type 0) (n : ℕ) (g : ℕ → A) → ((k : ℕ) → P (g k)) → All P (tabulate n g)
unfolding tabulate
tabulate-all P zero g h = tt
tabulate-all P (suc n) g h = (h 0, tabulate-all P n (λ k. g (suc k)) (λ k. h (suc k)))

pub set-bytes : (w : ℕ) (f : ℕ → Bool) → Bytes (set_of w f)
unfolding set_of
set-bytes w f = tabulate-all (λ b. b < 256) w (λ i. from_bits 8 (λ k. f (8 * i + k))) (λ i. from_bits-lt 8 (λ k. f (8 * i + k)))

sets-bytes : (n : ℕ) (g : Family) (f : ℕ → Set) → All Bytes (sets_of n g f)
sets-bytes n g f = tabulate-all Bytes n (λ i. set_of (width g) (f i)) (λ i. set-bytes (width g) (f i))

moves-bytes : (p : Policy) (ts : List Transition) → All (λ (m : TransitionEntry). Bytes m.roles × Bytes m.types) (each (transition_entry p) ts)
unfolding each
moves-bytes p [] = tt
moves-bytes p (t ∷ ts) = ((set-bytes 16 (stands p roles t.role), set-bytes 64 (stands p types t.type)), moves-bytes p ts)

pub image-bytes : (p : Policy) → SetsOfBytes (image_of p)
unfolding image_of
image-bytes p = record {
  user_roles = sets-bytes (count (thing_of users) (declarations p)) roles (related p userrole);
  role_types = sets-bytes (count (thing_of roles) (declarations p)) types (related p roletype);
  role_roles = sets-bytes (count (thing_of roles) (declarations p)) roles (related p roleallow);
  transitions = moves-bytes p (transitions p);
  user_sets = sets-bytes (count (attribute_of users) (declarations p)) users (final p users);
  role_sets = sets-bytes (count (attribute_of roles) (declarations p)) roles (final p roles);
  type_sets = sets-bytes (count (attribute_of types) (declarations p)) types (final p types);
}

-- so the table of a policy whose image is well formed is bytes
pub policy-bytes : (e : ℕ) (p : Policy) → well_formed (image_of p) ≡ true → Bytes (encode e (image_of p))
policy-bytes e p h = encode-bytes (image_of p) h (image-bytes p) e
