-- Bytes that are no sound table are refused by 11, whatever is asked. Assumes nothing.
use Prim.Native.Nat.{ℕ}
use mathlib.Core.Path.{◌≡◌, sym, ap}
use mathlib.Core.Bool.{false}
use mathlib.Core.List.{List}
use Rattle.policy.specs.Meaning.{Context}
use Rattle.policy.specs.Deciding.{Question, Relabelling, refuses, unconsulted, refused}
use Rattle.policy.specs.Questions.{asked, valid, valid_on, new_role, new_role_on, decided, change, change_on, relabel, relabel_on}
use Rattle.soundness.specs.IsSound.{is_sound}
use Rattle.soundness.proofs.SoundTable.{no-image}

module _ (t : List ℕ) (h : is_sound t ≡ false) where
  pub valid-unsound : (c : Context) → refused 11 0 ≡ valid_on t c
  unfolding valid_on
  valid-unsound c = sym (ap (asked (λ i. valid i c)) (no-image t h))

  pub new-role-unsound : (r y c : ℕ) → refused 11 0 ≡ new_role_on t r y c
  unfolding new_role_on
  new-role-unsound r y c = sym (ap (asked (λ i. new_role i r y c)) (no-image t h))

  pub change-unsound : (q : Question) → unconsulted (refuses 11 0) ≡ change_on t q
  unfolding change_on
  change-unsound q = sym (ap (decided (λ i. change i q)) (no-image t h))

  pub relabel-unsound : (q : Relabelling) → unconsulted (refuses 11 0) ≡ relabel_on t q
  unfolding relabel_on
  relabel-unsound q = sym (ap (decided (λ i. relabel i q)) (no-image t h))
