-- The question of relabelling on a sound table, by what the bytes say. Assumes nothing.
use Prim.Native.Nat.{ℕ}
use mathlib.Core.Path.{◌≡◌, refl, sym, ap, ◌∙◌}
use mathlib.Core.Bool.{Bool, true, false, ◌&&◌}
use mathlib.Core.List.{List}
use lib.Dec.{eqb, ltb}
use lib.ListN.{length}
use Rattle.std.specs.Prelude.{Option}
use Rattle.policy.specs.Statements.{class_names}
use Rattle.policy.specs.Image.{Image}
use Rattle.policy.specs.Deciding.{Relabelling, relabel_contexts, Answer, first_failing, declared_context, declared_relabel, decide_relabel, ruled_relabel}
use Rattle.policy.specs.Questions.{rows_hold, relabel, decided, relabel_on}
use Rattle.policy.proofs.Lists.{both_true}
use Rattle.table_laws.specs.SoundTable.{Sound}
use Rattle.table_laws.proofs.SoundLaws.{sound-read}
use Rattle.policy.specs.declared.NameCounts.{NameCounts}
use Rattle.table_names.specs.declared.SpecialNumbers.{SpecialNumbers}
use Rattle.decisions.specs.TableAnswers.{declares_contexts, declares_relabelling, is_valid_by}
use Rattle.decisions.specs.KnownNames.{Knows}
use Rattle.soundness.proofs.SoundTable.{classes-of}
use Rattle.decisions.proofs.SoundLaws.{declares-context}
use Rattle.decisions.proofs.ContextLaws.{is-valid-of}

-- what the validatetrans statements of the image answer
abbrev pub relabels_say : Image → Relabelling → Answer
relabels_say i q = first_failing 6 (λ x. eqb x.class q.class) (λ x. rows_hold i (relabel_contexts q) x.rows) 0 i.relabels

module _ (t : List ℕ) (s : Sound t) {n : NameCounts} {x : Option SpecialNumbers} (known : Knows t n x) (q : Relabelling) where
  declares-relabelling : declares_relabelling n q ≡ declared_relabel s.image.names q
  unfolding declares_relabelling declares_contexts declared_relabel
  declares-relabelling =
      ap (λ (n : NameCounts). declares_relabelling n q) known.counted.counts
      ∙ rw (declares-context t s q.old, declares-context t s q.new, declares-context t s q.process, classes-of t s)

  -- what the bytes say of the three contexts and of the rest
  abbrev said : Answer
  said = decide_relabel (declares_relabelling n q) (is_valid_by t x q.old) (is_valid_by t x q.new) (is_valid_by t x q.process) (relabels_say s.image q)

  pub relabel-of : relabel_on t q ≡ said
  unfolding relabel_on relabel ruled_relabel declared_relabel decide_relabel
  relabel-of = ap (decided (λ i. relabel i q)) (sound-read t s) ∙ by (declared_relabel s.image.names q) refl
    where
      by : (b : Bool) → declared_relabel s.image.names q ≡ b → relabel s.image q ≡ said
      by true e =
          let ds = s.image.names in
          let old = declared_context ds q.old in
          let new = declared_context ds q.new in
          let process = declared_context ds q.process in
          let all = both_true (old && new && process) (ltb q.class (length (class_names ds))) e in
          let two = both_true (old && new) process all.0 in
          let one = both_true old new two.0 in
          sym (rw (
            declares-relabelling,
            is-valid-of t s known q.old one.0,
            is-valid-of t s known q.new one.1,
            is-valid-of t s known q.process two.1,
          ))
      by false e = rw (declares-relabelling, e)
