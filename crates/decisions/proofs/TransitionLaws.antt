-- Transitions one by one in the bytes of a table, and on a sound table. Assumes nothing.
use Prim.Native.Nat.{ℕ, ◌+◌, ◌-◌, ◌*◌, ◌/◌, ◌<◌}
use native.Mathlib.Omega.{arith}
use mathlib.Core.Path.{◌≡◌, refl, sym, ap, ◌∙◌}
use mathlib.Core.Bool.{Bool, true, false, ◌&&◌, cond}
use mathlib.Core.List.{List}
use lib.Dec.{eqb, ltb}
use lib.ListN.{length, get_or, take, drop}
use lib.Seq.{drop-drop, get_or-drop}
use Rattle.byte_slices.specs.Parts.{part}
use Rattle.bitset.specs.Relations.{joined}
use Rattle.bitset.specs.Sets.{member}
use Rattle.policy.specs.Basics.{each}
use Rattle.policy.specs.Statements.{roles, types, thing_of}
use Rattle.policy.specs.Image.{TransitionEntry}
use Rattle.policy.specs.Encode.{transition_bytes, bodies}
use Rattle.policy.specs.Sound.{transition_at}
use Rattle.policy.specs.Deciding.{answered, refused}
use Rattle.policy.specs.Questions.{matches, first_transition, new_role, new_role_on}
use Rattle.policy.proofs.Lists.{each-length}
use Rattle.table_laws.specs.SoundTable.{Sound}
use Rattle.table_laws.proofs.Pieces.{wide-length}
use Rattle.table_laws.proofs.ImageReadBack.{transitions-wide}
use Rattle.table_laws.proofs.WellFormedLaid.{well-formed-laid}
use Rattle.table_laws.proofs.QuestionLaws.{asked-sound}
use Rattle.table_reader.specs.Records.{records, start_in, length_in}
use Rattle.table_reader.proofs.RecordLaws.{records-step, records-none}
use Rattle.table_reader.proofs.BodyRecords.{transitions-part}
use Rattle.table_reader.proofs.SoundPlaces.{known-section, length-of, stands_of}
use Rattle.decisions.specs.TableAnswers.{transitions_in}
use Rattle.soundness.proofs.SoundTable.{things-of, classes-of}
use Rattle.policy.specs.declared.NameCounts.{NameCounts}
use Rattle.decisions.specs.KnownNames.{Counts}

-- ONE BY ONE

-- each field where it stands
pub transition-fields : (at : ℕ) (t : List ℕ)
    → transition_at (drop at t) ≡ record { roles = part t at 16; types = part t (at + 16) 64; class = get_or t (at + 80) 0; new = get_or t (at + 81) 0 }
unfolding part
transition-fields at t = λ i. record {
  roles = take 16 (drop at t);
  types = take 64 (drop-drop 16 at t i);
  class = behind 80 i;
  new = behind 81 i;
}
  where
    behind : (k : ℕ) → get_or (drop k (drop at t)) 0 0 ≡ get_or t (at + k) 0
    behind k =
        let place : at + k + 0 ≡ at + k = omega arith in
        ap (λ (l : List ℕ). get_or l 0 0) (drop-drop k at t) ∙ get_or-drop (at + k) t 0 0 ∙ ap (λ (n : ℕ). get_or t n 0) place

pub matches-fields : (r y c at : ℕ) (t : List ℕ)
    → matches r y c (transition_at (drop at t)) ≡ (member (part t at 16) r && member (part t (at + 16) 64) y && eqb (get_or t (at + 80) 0) c)
matches-fields r y c at t = ap (matches r y c) (transition-fields at t)

module _ (r y c : ℕ) (t : List ℕ) (at left : ℕ) where
  -- the transitions that are left
  abbrev left_over : List TransitionEntry
  left_over = records 82 transition_at left (drop at t)

  module _ (rest : ℕ) (some_left : left ≡ rest + 1) (next : ℕ) (behind : next ≡ at + 82) where
    abbrev later : List TransitionEntry
    later = records 82 transition_at rest (drop next t)

    first-left : (b : Bool) → matches r y c (transition_at (drop at t)) ≡ b
        → first_transition r y c left_over ≡ cond b (transition_at (drop at t)).new (first_transition r y c later)
    unfolding first_transition
    first-left b q =
        ap (first_transition r y c) (records-step 82 transition_at t at next left rest some_left behind)
        ∙ ap (λ (b : Bool). cond b (transition_at (drop at t)).new (first_transition r y c later)) q

    pub transition-passed : matches r y c (transition_at (drop at t)) ≡ false → first_transition r y c later ≡ first_transition r y c left_over
    transition-passed q = sym (first-left false q)

  pub transition-found : 0 < left → matches r y c (transition_at (drop at t)) ≡ true → get_or t (at + 81) 0 ≡ first_transition r y c left_over
  transition-found h q = sym (first-left (left - 1) (omega arith) (at + 82) refl true q ∙ ap (λ (m : TransitionEntry). m.new) (transition-fields at t))

  pub transition-none : left ≡ 0 → r ≡ first_transition r y c left_over
  unfolding first_transition
  transition-none q = sym (ap (first_transition r y c) (records-none 82 transition_at t at left q))

-- ON A SOUND TABLE

module _ (t : List ℕ) (s : Sound t) where
  transitions-of : transitions_in t ≡ s.image.transitions
  unfolding bodies
  transitions-of =
      let ms = s.image.transitions in
      let laid = well-formed-laid s.image s.formed in
      let long : length (joined (each transition_bytes ms)) ≡ length ms * 82 =
      wide-length 82 (each transition_bytes ms) (transitions-wide ms laid.transitions) ∙ ap (λ (n : ℕ). n * 82) (each-length transition_bytes ms) in
      let many : length_in t 4 / 82 ≡ length ms = omega (arith, length-of t s 4 (known-section t s 4 (omega arith)), long) in
      ap (λ (n : ℕ). records 82 transition_at n (drop (start_in t 4) t)) many ∙ transitions-part ms laid.transitions (stands_of t s 4)

  -- **New role**, by what the bytes say
  pub new-role-of : {n : NameCounts} → Counts t n → (r y c : ℕ)
      → new_role_on t r y c ≡ cond (ltb r n.roles && ltb y n.types && ltb c n.classes) (answered (first_transition r y c (transitions_in t))) (refused 12 0)
  unfolding new_role_on new_role
  new-role-of counted r y c =
      asked-sound (λ i. new_role i r y c) t s
      ∙ sym (rw (counted.counts, things-of t s (thing_of roles), things-of t s (thing_of types), classes-of t s, transitions-of))
