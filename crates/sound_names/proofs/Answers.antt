-- What the answer of `check_names` tells its caller: the declarations of the body, that they are good, and their counts. Assumes nothing.
use mathlib.Core.Path.{◌≡◌, refl, sym, ap, ◌∙◌}
use mathlib.Core.Bool.{true}
use mathlib.Core.List.{List, []}
use mathlib.Core.Option as maybe
use Prim.Native.Nat.{ℕ}
use Rattle.std.specs.Prelude.{Some, None}
use Rattle.policy.specs.Basics.{given}
use Rattle.policy.specs.Statements.{Declaration}
use Rattle.policy.specs.Sound.{names_at, good_from}
use Rattle.policy.specs.declared.NameCounts.{NameCounts}
use Rattle.policy.proofs.Options.{given-some}
use Rattle.table_laws.proofs.ListLaws.{bound}
use Rattle.sound_names.specs.SoundNames.{sound_names, counts_of, counted_of}

-- a body that is sound names good declarations
pub sound-good : (body : List ℕ) (ds : List Declaration) → sound_names body ≡ maybe.some ds → (names_at body ≡ maybe.some ds) × (good_from [] ds ≡ true)
unfolding sound_names
sound-good body ds h =
    let b = bound (names_at body) (λ ds. given (good_from [] ds) ds) ds h in
    let g = given-some (good_from [] b.0) b.0 ds b.2 in
    (b.1 ∙ ap maybe.some g.1, sym (ap (good_from []) g.1) ∙ g.0)

pub answered-unsound : (o : maybe.Option (List Declaration)) → None ≡ counted_of o → o ≡ maybe.none
answered-unsound maybe.none h = refl
answered-unsound (maybe.some ds) h = absurd (cc)

module _ (n : NameCounts) where
  -- the declarations, with their counts
  pub record Named (o : maybe.Option (List Declaration)) : Type 0 where
    pub names : List Declaration
    pub are : o ≡ maybe.some names
    pub counts : n ≡ counts_of names

  pub answered-sound : (o : maybe.Option (List Declaration)) → Some n ≡ counted_of o → Named o
  answered-sound maybe.none h = absurd (cc)
  answered-sound (maybe.some ds) h = record { names = ds; are = refl; counts = cc }
