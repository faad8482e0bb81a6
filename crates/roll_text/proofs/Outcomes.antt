-- What is printed for a text, by what compiling it answers and leaves in the lent memory. Assumes nothing.
use Prim.Native.Nat.{ℕ}
use mathlib.Core.Path.{◌≡◌, refl, sym, ap, ◌∙◌}
use mathlib.Core.Bool.{Bool, true, false, cond, false≢true}
use mathlib.Core.List.{List}
use mathlib.Core.Option.{some}
use lib.Dec.{leb}
use lib.ListN.{length, drop}
use Rattle.policy.specs.Statements.{Policy}
use Rattle.policy.specs.Reading.{Read, policy, refused}
use Rattle.policy.specs.Image.{Image, image_of}
use Rattle.policy.specs.Encode.{encode, newest}
use Rattle.policy.specs.Sound.{image_in}
use Rattle.policy.specs.Outcome.{Input, policy_of, Compiled, compiles, refuses, compiled, Refusal, refusal_of, Outcome, accepted, rejected, outcome_of, after_of, outcome, after}
use Rattle.policy.specs.Roll.{refusal, roll, printed}
use Rattle.policy.proofs.Outcomes.{is_accepted, length_in, compiled_by}
use Rattle.demand_laws.proofs.Demand3.{table-read}

-- the memory holds a table of n bytes, and what is printed is the roll of its image
pub record Holds (x : Input) (memory : List ℕ) (n : ℕ) : Type 0 where
  pub image : Image
  pub read : image_in memory ≡ some image
  pub long : n ≡ length (encode newest image)
  pub prints : printed x ≡ roll image

-- the refusal of an answer
abbrev refused_by : Outcome → Refusal → Refusal
refused_by (accepted n) d = d
refused_by (rejected r) d = r

-- what is printed, by what compiling gives
abbrev print : Input → Compiled → List ℕ
print x c = elim c [ refuses n at ↦ refusal (refusal_of x n at) | compiles i ↦ roll i ]

module _ (x : Input) where
  -- A REFUSAL

  printed-by : (c : Compiled) → compiled x 65536 ≡ c → printed x ≡ print x c
  unfolding printed
  printed-by c e = ap (print x) e

  answered-by : (c : Compiled) → compiled x 65536 ≡ c → outcome x 65536 ≡ outcome_of x c
  unfolding outcome
  answered-by c e = ap (outcome_of x) e

  pub refusal-printed : (r : Refusal) → rejected r ≡ outcome x 65536 → printed x ≡ refusal r
  refusal-printed r h = by (compiled x 65536) refl
    where
      by : (c : Compiled) → compiled x 65536 ≡ c → printed x ≡ refusal r
      by (compiles i) e = absurd (false≢true (ap is_accepted (h ∙ answered-by (compiles i) e)))
      by (refuses m k) e =
          let same = h ∙ answered-by (refuses m k) e in
          printed-by (refuses m k) e ∙ sym (ap (λ (o : Outcome). refusal (refused_by o r)) same)

  -- A ROLL

  compiled_by_lem : (r : Read) → policy_of x ≡ r → compiled x 65536 ≡ compiled_by r 65536
  unfolding compiled
  compiled_by_lem r e = ap (λ (s : Read). compiled_by s 65536) e

  module _ (n : ℕ) (before : List ℕ) (long : length before ≡ 65536) (h : accepted n ≡ outcome x 65536) where
    memory-by : (c : Compiled) → compiled x 65536 ≡ c → after x before ≡ after_of c before
    unfolding after
    memory-by c e = ap (λ (c : Compiled). after_of c before) (ap (compiled x) long ∙ e)

    of-policy : (p : Policy) → policy_of x ≡ policy p → (b : Bool) → leb (length (encode newest (image_of p))) 65536 ≡ b → Holds x (after x before) n
    of-policy p e false f =
        let c = compiled_by_lem (policy p) e ∙ ap (λ (b : Bool). cond b (compiles (image_of p)) (refuses 10 (length (encode newest (image_of p))))) f in
        absurd (false≢true (sym (ap is_accepted (h ∙ answered-by (refuses 10 (length (encode newest (image_of p)))) c))))
    of-policy p e true f =
        let c = compiled_by_lem (policy p) e ∙ ap (λ (b : Bool). cond b (compiles (image_of p)) (refuses 10 (length (encode newest (image_of p))))) f in
        record {
          image = image_of p;
          read = ap image_in (memory-by (compiles (image_of p)) c) ∙ table-read x p e (drop (length (encode newest (image_of p))) before);
          long = ap length_in (h ∙ answered-by (compiles (image_of p)) c);
          prints = printed-by (compiles (image_of p)) c;
        }

    pub roll-printed : Holds x (after x before) n
    roll-printed = by (policy_of x) refl
      where
        by : (r : Read) → policy_of x ≡ r → Holds x (after x before) n
        by (refused m k) e = absurd (false≢true (sym (ap is_accepted (h ∙ answered-by (refuses m k) (compiled_by_lem (refused m k) e)))))
        by (policy p) e = of-policy p e (leb (length (encode newest (image_of p))) 65536) refl
