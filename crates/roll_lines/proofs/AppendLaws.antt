-- What is appended after appended bytes is appended with them. Assumes nothing.
use mathlib.Core.Path.{◌≡◌, ap, ap₂, ◌∙◌}
use mathlib.Core.List.{List, [], ◌∷◌, ◌++◌, append-nil}
use Prim.Native.Nat.{ℕ, ◌+◌, ◌≤◌}
use native.Mathlib.Omega.{arith}
use lib.ListN.{length, length-append}
use Rattle.byte_slices.specs.Parts.{put}
use Rattle.bitset.specs.Relations.{joined}
use Rattle.byte_slices.proofs.PartLaws.{length-put, put-put}
use Rattle.text_writer.specs.WrittenText.{Appends}

module _ {t u : List ℕ} {at p : ℕ} {a : List ℕ} where
  pub appends-then : {v b : List ℕ} {q : ℕ} → at + length a ≤ length t → Appends t at a u p → Appends u p b v q → Appends t at (a ++ b) v q
  appends-then {v} {b} {q} h f g = record {
    written = g.written ∙ ap₂ (λ (x : List ℕ) (y : ℕ). put x y b) f.written f.ends ∙ put-put t at a b h;
    ends = omega (arith, f.ends, g.ends, length-append a b);
  }

  -- nothing after the last bytes
  pub appends-last : Appends t at a u p → Appends t at (a ++ []) u p
  appends-last f = rw append-nil f

  pub appends-length : at + length a ≤ length t → Appends t at a u p → length u ≡ length t
  appends-length h f = ap length f.written ∙ length-put t at a h

-- the parts of a line, one after the other
pub three-parts : {a b c d : List ℕ} {at p q r : ℕ} {k l m : List ℕ} → at + (length k + (length l + length m)) ≤ length a
    → Appends a at k b p → Appends b p l c q → Appends c q m d r → Appends a at (joined (k ∷ l ∷ m ∷ [])) d r
unfolding joined
three-parts {a} {b} {c} {d} {at} {p} {q} {r} {k} {l} {m} h f g i =
    let one : at + length k ≤ length a = omega arith in
    let same = appends-length one f in
    appends-then one f (appends-then (omega (arith, h, same, f.ends)) g (appends-last i))

pub four-parts : {a b c d e : List ℕ} {at p q r s : ℕ} {k l m n : List ℕ} → at + (length k + (length l + (length m + length n))) ≤ length a
    → Appends a at k b p → Appends b p l c q → Appends c q m d r → Appends d r n e s → Appends a at (joined (k ∷ l ∷ m ∷ n ∷ [])) e s
unfolding joined
four-parts {a} {b} {c} {d} {e} {at} {p} {q} {r} {s} {k} {l} {m} {n} h one two three four =
    let k-fits : at + length k ≤ length a = omega arith in
    let b-long = appends-length k-fits one in
    appends-then k-fits one (three-parts (omega (arith, h, b-long, one.ends)) two three four)

pub five-parts : {a b c d e f : List ℕ} {at p q r s z : ℕ} {k l m n o : List ℕ} → at + (length k + (length l + (length m + (length n + length o)))) ≤ length a
    → Appends a at k b p → Appends b p l c q → Appends c q m d r → Appends d r n e s → Appends e s o f z → Appends a at (joined (k ∷ l ∷ m ∷ n ∷ o ∷ [])) f z
unfolding joined
five-parts {a} {b} {c} {d} {e} {f} {at} {p} {q} {r} {s} {z} {k} {l} {m} {n} {o} h one two three four five =
    let k-fits : at + length k ≤ length a = omega arith in
    let b-long = appends-length k-fits one in
    let l-fits : p + length l ≤ length b = omega (arith, h, b-long, one.ends) in
    let c-long = appends-length l-fits two in
    appends-then k-fits one
    (appends-then l-fits two
    (three-parts (omega (arith, h, b-long, c-long, one.ends, two.ends)) three four five))
