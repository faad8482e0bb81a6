-- Memory that starts with some content: what is put after the content is content too. One law for all memories. And a memory of two parts, of which one
-- is lent. Assumes nothing.
use Prim.Native.Nat.{ℕ, ◌+◌, ◌-◌, ◌≤◌, ◌<◌}
use native.Mathlib.Nat.{zero-add}
use native.Mathlib.Omega.{arith}
use mathlib.Core.Path.{◌≡◌, refl, sym, ap, ap₂, ◌∙◌}
use mathlib.Core.List.{List, [], ◌++◌, append-nil}
use lib.ListN.{length, take, drop, length-append, length-drop, drop_of_length-le}
use lib.Seq.{take_at, take_all, drop_at, length-take-le}
use borrow.Rule.Slice.PartMut.{put_mid, take_put}
use Rattle.byte_slices.specs.Parts.{put}
use Rattle.statement_code.specs.UnitWrites.{Wrote}
use Rattle.byte_slices.proofs.PartLaws.{put-none, put-put}
use Rattle.statement_reader.specs.Memory.{Starts}

-- nothing is there yet
pub empty : {lent : List ℕ} → Starts lent [] lent 0
empty = record { is = refl; ends = refl; fits = omega arith }

whole : (lent c : List ℕ) → put lent 0 c ≡ c ++ drop (length c) lent
unfolding put
whole lent c = ap (λ (n : ℕ). c ++ drop n lent) (zero-add (length c))

module _ {lent content now : List ℕ} {end : ℕ} (s : Starts lent content now end) where
  pub now-long : length now ≡ length lent
  now-long =
      ap length s.is ∙ length-append content (drop (length content) lent)
      ∙ omega (arith, length-drop (length content) lent, s.fits)

  pub front : take end now ≡ content
  front = ap₂ take s.ends s.is ∙ take_at content (drop (length content) lent) (length content) refl

  -- what is put at the end
  pub put-behind : (bytes after : List ℕ) (past : ℕ) → after ≡ put now end bytes → past ≡ end + length bytes → past ≤ length now → Starts lent (content ++ bytes) after past
  put-behind bytes after past e m f = record {
    is =
        e ∙ ap₂ (λ (x : List ℕ) (n : ℕ). put x n bytes) (s.is ∙ sym (whole lent content)) (s.ends ∙ sym (zero-add (length content)))
        ∙ put-put lent 0 content bytes (omega (arith, s.fits)) ∙ whole lent (content ++ bytes);
    ends = omega (arith, m, s.ends, length-append content bytes);
    fits = omega (arith, m, f, s.ends, now-long, length-append content bytes);
  }

  -- the same of units that are written where there is room
  pub wrote-behind : (units after : List ℕ) (past : ℕ) → Wrote now end units after past → length content + length units ≤ length lent → Starts lent (content ++ units) after past
  wrote-behind units after past w f =
      let room : end + length units ≤ length now = omega (arith, f, s.ends, now-long) in
      put-behind units after past (w.code room) (w.past room) (omega (arith, w.past room, room))

-- no units
pub wrote_none : (now : List ℕ) (end : ℕ) → Wrote now end [] now end
wrote_none now end = record { past = λ l. omega arith; code = λ l. sym (put-none now end) }

-- ---- a memory of two parts, the first of n bytes. One of them is lent and comes back, and the other is as it was

pub record FrontLent (n : ℕ) (before after part back : List ℕ) : Type 0 where
  pub was : part ≡ take n before
  pub is : take n after ≡ back
  pub kept : drop n after ≡ drop n before

pub record RestLent (n : ℕ) (before after part back : List ℕ) : Type 0 where
  pub was : part ≡ drop n before
  pub is : drop n after ≡ back
  pub kept : take n after ≡ take n before

pub front-lent : (n : ℕ) (t s : List ℕ) → n ≤ length t → length s ≡ length (take n t) → FrontLent n t (s ++ drop n t) (take n t) s
front-lent n t s h e =
    let long : length s ≡ n = e ∙ length-take-le n t h in
    record { was = refl; is = take_at s (drop n t) n long; kept = drop_at s (drop n t) n long }

pub rest-lent : (n : ℕ) (t s : List ℕ) → n ≤ length t → RestLent n t (put_mid n (length t - n) t s) (take (length t - n) (drop n t)) s
rest-lent n t s h =
    let long : length (drop n t) ≤ length t - n = omega (arith, length-drop n t) in
    record {
      was = take_all (length t - n) (drop n t) long;
      is =
          drop_at (take n t) (s ++ drop (length t - n) (drop n t)) n (length-take-le n t h)
          ∙ ap (λ (l : List ℕ). s ++ l) (drop_of_length-le (drop n t) long) ∙ append-nil s;
      kept = take_put n (length t - n) t s h;
    }

-- where content is in the second part, the memory is as long as it was lent
pub rest-long : (n m : ℕ) (lent now : List ℕ) {content : List ℕ} {end : ℕ} → Starts (drop n lent) content (drop n now) end → n < m → m ≤ length now → m ≤ length lent
rest-long n m lent now s h l = omega (arith, now-long s, length-drop n lent, length-drop n now)
