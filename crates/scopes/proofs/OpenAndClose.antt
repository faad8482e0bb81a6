-- Blocks opened and closed: what the scope is then. Assumes nothing.
use mathlib.Core.Path.{◌≡◌, refl, sym, ap, subst, ◌∙◌}
use mathlib.Core.Bool.{true, false≢true}
use mathlib.Core.List.{List}
use Prim.Native.Nat.{ℕ, ◌+◌, ◌≤◌}
use native.Mathlib.Omega.{arith}
use lib.ListN.{length, take, set, length-set}
use borrow.Author.Tests.{le-leb}
use Rattle.byte_slices.specs.Parts.{part, put}
use Rattle.byte_slices.proofs.PartLaws.{length_part, length-part-le, length-put, part-put-same}
use Rattle.policy.specs.Basics.{Name, every}
use Rattle.policy.specs.Names.{full}
use Rattle.scopes.specs.Path.{scope_of}
use Rattle.scopes.specs.Scope.{scope_length, scope_in, InScope, last_dot, ComposedBy, Names, Starts, EntersBlock, LeavesBlock, symbol_bytes}
use Rattle.std.specs.Prelude.{Some}
use Rattle.scopes.proofs.PathLaws.{cut-full, front-full, first_part, other-parts, part-more}
use Rattle.scopes.proofs.Memory.{kept_on, kept_set, kept_put, long-set, scope-set, scope-take, scope-none}
use Rattle.name_index.specs.Index.{index_bytes}

-- at the whole-text level
pub started : (t : List ℕ) → symbol_bytes ≤ length t → Starts t (set t index_bytes 0)
unfolding every
started t room = record {
  kept = kept_set t index_bytes 0 (omega arith) (omega arith);
  starts = record {
    room = omega (arith, length-set t index_bytes 0);
    fits = omega (arith, long-set t 0 room);
    stands = ap (scope_in (set t index_bytes 0)) (long-set t 0 room) ∙ scope-none (set t index_bytes 0);
    parts = refl;
  };
}

-- a block closed
module _ (t : List ℕ) (n m : ℕ) (room : symbol_bytes ≤ length t) (short : n ≤ 64) (is : scope_length t ≤ 64 → n ≡ scope_length t)
    (cut : m ≡ last_dot (scope_in t n)) (within : m ≤ n) where
  pub left : LeavesBlock t (set t index_bytes m)
  left = record {
    kept = kept_set t index_bytes m (omega arith) (omega arith);
    leaves = λ b path sc.
        let st : scope_in t n ≡ full path b = ap (scope_in t) (is sc.fits) ∙ sc.stands in
        let length-is : m ≡ length (scope_of path) = cut ∙ ap last_dot st ∙ cut-full path b (first_part b path sc.parts).1 in
        record {
          room = omega (arith, length-set t index_bytes m);
          fits = omega (arith, long-set t m room);
          stands = ap (scope_in (set t index_bytes m)) (long-set t m room) ∙ scope-set t m m room ∙ sym (scope-take t n m within) ∙ ap (take m) st
              ∙ ap (λ (k : ℕ). take k (full path b)) length-is ∙ front-full path b;
          parts = other-parts b path sc.parts;
        };
  }

-- a block opened: its full name was put together in memory of its own
module _ (t : List ℕ) (b : Name) (room : symbol_bytes ≤ length t) {z whole : List ℕ} where
  module _ {m : ℕ} (h : Names t b z whole (Some m)) (lent : length z ≡ 64) where
    pub short : m ≤ 64
    short = h.short

    pub lent-all : length whole ≡ 64
    lent-all = h.long ∙ lent

    fits_in : 188649 + length (part whole 0 m) ≤ length t
    fits_in = omega (arith, length-part-le whole 0 m, short)

    -- the memory with the name after the length
    abbrev mid : List ℕ
    mid = put t 188649 (part whole 0 m)

    room_mid : symbol_bytes ≤ length mid
    room_mid = omega (arith, length-put t 188649 (part whole 0 m) fits_in)

    scope-mid : scope_in mid m ≡ part whole 0 m
    unfolding scope_in
    scope-mid =
        ap (part mid 188649) (sym (length_part whole 0 m (omega (arith, short, lent-all)))) ∙ part-put-same t 188649 (part whole 0 m) fits_in

    composed : (path : List Name) → InScope t path → ComposedBy (full path b) whole (Some m)
    composed path sc = h.is path sc

    pub entered : {u : List ℕ} → u ≡ mid → EntersBlock t (set u index_bytes m) b true
    entered {u} q = subst (λ (l : List ℕ). EntersBlock t (set l index_bytes m) b true) (sym q) (record {
      kept = kept_on (kept_put t 188649 (part whole 0 m) (omega arith) fits_in) (kept_set mid index_bytes m (omega arith) (omega (arith, room_mid)));
      answers = λ path sc. sym (le-leb (length (full path b)) 64 (omega (arith, (composed path sc).1, short)));
      enters = λ path sc p r. record {
        room = omega (arith, room_mid, length-set mid index_bytes m);
        fits = omega (arith, long-set mid m room_mid, short);
        stands = ap (scope_in (set mid index_bytes m)) (long-set mid m room_mid) ∙ scope-set mid m m room_mid ∙ scope-mid ∙ (composed path sc).0;
        parts = part-more b path p sc.parts;
      };
      stays = λ e. absurd (false≢true (sym e));
    })
