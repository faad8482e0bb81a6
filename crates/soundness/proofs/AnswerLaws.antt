-- What the answers of the layout, the names and the other bodies say of the whole table, one after the other. Assumes nothing.
use Prim.Native.Nat.{ℕ}
use native.Mathlib.Omega.{arith}
use mathlib.Core.Path.{◌≡◌, refl, sym, ap, ap₂, subst, ◌∙◌}
use mathlib.Core.Bool.{Bool, true, false, false≢true}
use mathlib.Core.List.{List, []}
use mathlib.Core.Option as maybe
use lib.ListN.{length}
use Rattle.std.specs.Option as option
use Rattle.std.specs.Prelude.{Option, Some, None}
use Rattle.byte_slices.specs.Parts.{part}
use Rattle.bitset.proofs.SetLaws.{length-tabulate, get_d_tabulate}
use Rattle.policy.specs.Statements.{users, roles, types, thing_of, attribute_of, Declaration, permissions}
use Rattle.policy.specs.Sound.{good_from, bodies_in}
use Rattle.policy.specs.declared.NameCounts.{NameCounts}
use Rattle.policy.proofs.Counts.{few-of, few-classes}
use Rattle.symbols.specs.Section.{between}
use Rattle.sound_names.specs.SoundNames.{sound_names, counts_of, counted_of, permission_counts, permissions_after}
use Rattle.sound_names.proofs.Answers.{sound-good, answered-unsound, Named, answered-sound}
use Rattle.table_reader.specs.Records.{start_in, length_in}
use Rattle.table_names.specs.TableNames.{names_start, names_end}
use Rattle.sound_constraints.specs.Totals.{totals_in}
use Rattle.sound_constraints.specs.SoundRows.{is_some}
use Rattle.sound_bodies.specs.SoundBodies.{bodies_sound}
use Rattle.sound_bodies.specs.FewSets.{Few}
use Rattle.sound_bodies.proofs.SoundImage.{not-laid-out, names-not-sound, PermissionsOf, bodies-decide}
use Rattle.soundness.specs.IsSound.{is_sound}
use Rattle.soundness.specs.TableCounts.{Tells}

-- what the count then tells
pub tells-not : (t ps : List ℕ) → false ≡ is_sound t → Tells t None ps
tells-not t ps h = record { refuses = λ f. refl; counts = λ f. absurd (false≢true (h ∙ f)) }

-- and what is sound where it tells something or nothing
module _ (t ps : List ℕ) {r : Option NameCounts} (h : Tells t r ps) where
  pub sound-by : {n : NameCounts} → r ≡ Some n → true ≡ is_sound t
  sound-by {n} is = by (is_sound t) refl
    where
      by : (q : Bool) → is_sound t ≡ q → true ≡ q
      by true e = refl
      by false e =
          let other : Some n ≡ None = sym is ∙ h.refuses e in
          absurd (cc)

  pub unsound-by : r ≡ None → false ≡ is_sound t
  unfolding is_sound
  unsound-by is = by (is_sound t) refl
    where
      by : (q : Bool) → is_sound t ≡ q → false ≡ q
      by false e = refl
      by true e = sym (names-not-sound t (answered-unsound (sound_names (part t (start_in t 0) (length_in t 0))) (sym is ∙ (h.counts e).0))) ∙ e

  pub tells-sound : option.is_some r ≡ is_sound t
  tells-sound = by r refl
    where
      by : (o : Option NameCounts) → r ≡ o → option.is_some o ≡ is_sound t
      by None e = unsound-by e
      by (Some n) e = sound-by e

-- the layout refuses
pub unlaid : (t : List ℕ) → is_some (bodies_in t) ≡ false → false ≡ is_sound t
unfolding is_sound
unlaid t h = sym (not-laid-out t h)

module _ (t : List ℕ) {start end : ℕ} (starts : start ≡ names_start t) (ends : end ≡ names_end t) where
  body : between t start end ≡ part t (start_in t 0) (length_in t 0)
  body = ap₂ (part t) starts (omega (arith, starts, ends))

  answer-here : {r : Option NameCounts} → r ≡ counted_of (sound_names (between t start end)) → r ≡ counted_of (sound_names (part t (start_in t 0) (length_in t 0)))
  answer-here answer = answer ∙ ap (λ (b : List ℕ). counted_of (sound_names b)) body

  -- the names refuse
  pub unnamed : None ≡ counted_of (sound_names (between t start end)) → false ≡ is_sound t
  unfolding is_sound
  unnamed answer = sym (names-not-sound t (answered-unsound (sound_names (part t (start_in t 0) (length_in t 0))) (answer-here answer)))

  module _ {n : NameCounts} (answer : Some n ≡ counted_of (sound_names (between t start end))) where
    named : Named n (sound_names (part t (start_in t 0) (length_in t 0)))
    named = answered-sound n (sound_names (part t (start_in t 0) (length_in t 0))) (answer-here answer)

    good : good_from [] named.names ≡ true
    good = (sound-good (part t (start_in t 0) (length_in t 0)) named.names named.are).1

    -- the counts of good names fit into two bytes
    few-counted : Few (counts_of named.names)
    few-counted = record {
      users = omega (arith, few-of (thing_of users) named.names good);
      roles = omega (arith, few-of (thing_of roles) named.names good);
      user-attributes = omega (arith, few-of (attribute_of users) named.names good);
      role-attributes = omega (arith, few-of (attribute_of roles) named.names good);
      type-attributes = omega (arith, few-of (attribute_of types) named.names good);
    }

    pub few : Few n
    few = subst Few (sym named.counts) few-counted

    module _ (before : List ℕ) {ps : List ℕ} (after : ps ≡ permissions_after (sound_names (between t start end)) before) where
      permissions-counted : ps ≡ permission_counts named.names
      permissions-counted = after ∙ ap (λ (o : maybe.Option (List Declaration)). permissions_after o before) (ap sound_names body ∙ named.are)

      pub permissions-length : length ps ≡ 32
      permissions-length = ap (λ (l : List ℕ). length l) permissions-counted ∙ length-tabulate 32 (λ c. length (permissions named.names c))

      of-class : PermissionsOf named.names ps
      of-class k l = rw permissions-counted
          (get_d_tabulate 32 (λ c. length (permissions named.names c)) k 0 (omega (arith, l, few-classes named.names good)))

      -- the other bodies decide
      pub decided : is_some (bodies_in t) ≡ true → {b : Bool} → b ≡ bodies_sound (totals_in n ps) t → b ≡ is_sound t
      unfolding is_sound
      decided laid e = e ∙ ap (λ (n : NameCounts). bodies_sound (totals_in n ps) t) named.counts ∙ sym (bodies-decide t laid named.names named.are ps of-class)

      -- then the count tells what body 1 declares
      pub tells-so : true ≡ is_sound t → Tells t (Some n) ps
      tells-so h = record {
        refuses = λ f. absurd (false≢true (sym f ∙ sym h));
        counts = λ f. (answer-here answer, permissions-counted ∙ sym (ap (λ (o : maybe.Option (List Declaration)). permissions_after o []) named.are));
      }
