-- The bytes of a good name are below 256: from there on every number is a wrong byte. Assumes nothing.
use Prim.Native.Nat.{ℕ, ◌<◌, ◌≤◌}
use native.Mathlib.Omega.{arith}
use mathlib.Core.Path.{◌≡◌, refl, sym, ap, ◌∙◌}
use mathlib.Core.Bool.{Bool, true, false, not, ◌&&◌, false≢true}
use mathlib.Core.List.{List, [], ◌∷◌}
use lib.Dec.{leb, ltb}
use lib.ListN.{length}
use borrow.Author.Tests.{ne_eqb, le-leb, lt-leb, ltb-true, ltb-false}
use Rattle.lexer.specs.declared.ByteClass.{ByteClass}
use Rattle.lexer.specs.declared.ByteClass.TheVariants.{Wrong}
use Rattle.lexer.specs.Class.{class_of, is_dot, max_name, parts, has_good_parts}
use Rattle.lexer.proofs.Names.{fits, parts_from, dotted-from}
use Rattle.policy.specs.Words.{is_reserved}
use Rattle.policy.specs.Maxima.{max_parts}
use Rattle.policy.specs.Sound.{is_good}
use Rattle.policy.proofs.Lists.{both_true}
use Rattle.table_laws.specs.SoundTable.{Bytes}

wrong-above : (b : ℕ) → 256 ≤ b → class_of b ≡ Wrong
unfolding class_of
wrong-above b h = rw (
  ne_eqb b 32 (λ e. omega arith),
  ne_eqb b 9 (λ e. omega arith),
  ne_eqb b 13 (λ e. omega arith),
  ne_eqb b 59 (λ e. omega arith),
  ne_eqb b 40 (λ e. omega arith),
  ne_eqb b 41 (λ e. omega arith),
  ne_eqb b 95 (λ e. omega arith),
  ne_eqb b 45 (λ e. omega arith),
  ne_eqb b 46 (λ e. omega arith),
  ne_eqb b 10 (λ e. omega arith),
  le-leb 65 b (omega arith),
  lt-leb b 90 (omega arith),
  le-leb 97 b (omega arith),
  lt-leb b 122 (omega arith),
  le-leb 48 b (omega arith),
  lt-leb b 57 (omega arith),
)

-- what no wrong byte has is had by bytes alone
not-wrong : (f : ByteClass → Bool) → f Wrong ≡ false → (b : ℕ) → f (class_of b) ≡ true → b < 256
not-wrong f z b h = by (ltb b 256) refl
  where
    by : (t : Bool) → ltb b 256 ≡ t → b < 256
    by true e = ltb-true b 256 e
    by false e = absurd (false≢true (sym z ∙ ap f (sym (wrong-above b (ltb-false b 256 e))) ∙ h))

-- bytes that are parts, from the start of one or from within it
no-wrong : (fresh : Bool) → fits fresh Wrong ≡ false
no-wrong true = refl
no-wrong false = refl

part_bytes : (bs : List ℕ) (fresh : Bool) → parts_from bs fresh ≡ true → Bytes bs
unfolding parts_from
part_bytes [] fresh h = tt
part_bytes (b ∷ bs) fresh h =
    let p = both_true (fits fresh (class_of b)) (parts_from bs (is_dot (class_of b))) h in
    (not-wrong (fits fresh) (no-wrong fresh) b p.0, part_bytes bs (is_dot (class_of b)) p.1)

pub name-bytes : (w : List ℕ) → is_good w ≡ true → Bytes w
name-bytes w h =
    let a = both_true (has_good_parts w && leb (length w) max_name && leb (length (parts w)) max_parts) (not (is_reserved w)) h in
    let b = both_true (has_good_parts w && leb (length w) max_name) (leb (length (parts w)) max_parts) a.0 in
    part_bytes w true (sym (dotted-from w) ∙ (both_true (has_good_parts w) (leb (length w) max_name) b.0).0)
