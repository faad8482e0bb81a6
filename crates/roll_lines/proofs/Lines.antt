-- The turns of the loop that writes the lines of users or roles. Assumes nothing.
use Prim.Native.Nat.{ℕ, zero, suc, ◌+◌, ◌*◌, ◌<◌, ◌≤◌}
use native.Mathlib.Nat.{add-zero}
use native.Mathlib.Omega.{arith}
use mathlib.Core.Path.{◌≡◌, refl, sym, ap, ap₂, subst, ◌∙◌}
use mathlib.Core.List.{List, [], ◌∷◌, ◌++◌, append_assoc, append-nil}
use mathlib.Core.Option.{some, none-ne-some, some-injective}
use lib.ListN.{length, length-append, get_elem?, take}
use lib.Seq.{take_all}
use Rattle.byte_slices.specs.Parts.{part}
use Rattle.bitset.specs.Relations.{joined}
use Rattle.bitset.specs.Sets.{count}
use Rattle.byte_slices.proofs.PartLaws.{put-none}
use Rattle.policy.specs.Basics.{Name}
use Rattle.policy.specs.Image.{Image}
use Rattle.policy.specs.Sound.{image_in}
use Rattle.policy.specs.Deciding.{answered, refused}
use Rattle.policy.specs.Questions.{Part, name_on, entry_on}
use Rattle.policy.specs.Roll.{decimal, roll_line, roll_lines}
use Rattle.table_laws.specs.SoundTable.{Bytes}
use Rattle.table_laws.specs.Shown.{or_twelve, records_in}
use Rattle.table_laws.proofs.SoundLaws.{sound-read}
use Rattle.soundness.proofs.SoundTable.{sound-table}
use Rattle.table_parts.specs.ShownPart.{shown_part}
use Rattle.text_writer.specs.WrittenText.{Appends}
use Rattle.text_writer.proofs.Digits.{few-digits}
use Rattle.roll_lines.specs.LineWrites.{things_in, Printable, PutsLines}
use Rattle.roll_lines.proofs.AppendLaws.{appends-then, appends-length}
use Rattle.roll_lines.proofs.NamesOfThings.{place-within, place-past, some-place, all-place, shown-name, shown-none, shown-set, shown-short, things-few}
use Rattle.roll_lines.proofs.NamesOfThings.{things-short, thing-shown, record-shown}

-- THE LINES

module _ (kind of : List ℕ) where
  -- one line more
  lines_more : (n : ℕ) (ws : List Name) (ss : List (List ℕ)) (w : Name) (s : List ℕ) → get_elem? ws n ≡ some w → get_elem? ss n ≡ some s
      → roll_lines kind of (take n ws) (take n ss) ++ roll_line kind w of s ≡ roll_lines kind of (take (suc n) ws) (take (suc n) ss)
  unfolding roll_lines
  lines_more n [] ss w s h k = absurd (none-ne-some w h)
  lines_more n (v ∷ ws) [] w s h k = absurd (none-ne-some s k)
  lines_more zero (v ∷ ws) (r ∷ ss) w s h k =
      ap₂ (λ (x : Name) (y : List ℕ). roll_line kind x of y) (sym (some-injective v w h)) (sym (some-injective r s k)) ∙ sym (append-nil (roll_line kind v of r))
  lines_more (suc n) (v ∷ ws) (r ∷ ss) w s h k =
      append_assoc (roll_line kind v of r) (roll_lines kind of (take n ws) (take n ss)) (roll_line kind w of s)
      ∙ ap (λ (x : List ℕ). roll_line kind v of r ++ x) (lines_more n ws ss w s h k)

  line-short : (w : Name) (s : List ℕ) → length (roll_line kind w of s) ≤ length kind + (length w + (length of + 21))
  unfolding joined
  line-short w s = omega (
    arith,
    length-append kind (w ++ (of ++ (decimal (count s) ++ (10 ∷ [])))),
    length-append w (of ++ (decimal (count s) ++ (10 ∷ []))),
    length-append of (decimal (count s) ++ (10 ∷ [])),
    length-append (decimal (count s)) (10 ∷ []),
    few-digits 20 (count s),
  )

-- THE LOOP

-- the lines of the numbers below n are written
pub record Put (t : List ℕ) (sort body : ℕ) (kind of before : List ℕ) (at : ℕ) (now : List ℕ) (end n : ℕ) : Type 0 where
  pub same : length now ≡ length before
  pub near : end ≤ at + 97 * n
  pub few : n ≤ 128
  pub says : (i : Image) → image_in t ≡ some i → length (things_in i sort) ≡ length (records_in i body)
      → Appends before at (roll_lines kind of (take n (things_in i sort)) (take n (records_in i body))) now end

module _ (t : List ℕ) (sort body : ℕ) (kind of before : List ℕ) (at : ℕ) where
  pub none-put : Put t sort body kind of before at before at 0
  unfolding roll_lines
  none-put = record {
    same = refl;
    near = omega arith;
    few = omega arith;
    says = λ i h l. record { written = sym (put-none before at); ends = sym (add-zero at) };
  }

  module _ (b : Bytes t) (printable : Printable t sort kind of before at) {now : List ℕ} {end n : ℕ} (so_far : Put t sort body kind of before at now end n) where
    module _ {p : Part} (found : answered p ≡ name_on t sort n) where
      name-here : (i : Image) → image_in t ≡ some i → get_elem? (things_in i sort) n ≡ some (part t p.start p.size)
      name-here i h = shown-name t (name_on t sort n) (get_elem? (things_in i sort) n) p (thing-shown t b i h sort n printable.thing) found

      pub number-few : n < 128
      number-few =
          let s = sound-table t b printable.sound in
          omega (arith, place-within (things_in s.image sort) n _ (name-here s.image (sound-read t s)), things-few s.image s.formed sort)

      name-few : length (part t p.start p.size) ≤ 64
      name-few =
          let s = sound-table t b printable.sound in
          all-place (λ (w : Name). length w ≤ 64) (things_in s.image sort) n _ (things-short s.image s.formed sort)
          (name-here s.image (sound-read t s))

      module _ {name set : List ℕ} (named : name ≡ part t p.start p.size) (its : set ≡ shown_part (entry_on t body n) t) where
        pub line-room : end + (length kind + (length name + (length of + 21))) ≤ length now
        line-room = omega (arith, so_far.same, so_far.near, number-few, name-few, ap length named, printable.kind-short, printable.of-short, printable.room)

        pub set_room : 8 * length set < 18446744073709551616
        set_room = omega (arith, ap length its, shown-short t (entry_on t body n), printable.short)

        pub line-put : {after : List ℕ} {past : ℕ} → Appends now end (roll_line kind name of set) after past → Put t sort body kind of before at after past (n + 1)
        line-put {after} {past} a =
            let short = line-short kind of name set in
            let fits : end + length (roll_line kind name of set) ≤ length now = omega (arith, line-room, short) in
            record {
              same = appends-length fits a ∙ so_far.same;
              near = omega (arith, a.ends, short, so_far.near, name-few, ap length named, printable.kind-short, printable.of-short);
              few = omega (arith, number-few);
              says = λ i h l.
                  let w = name-here i h ∙ ap some (sym named) in
                  let s = some-place (records_in i body) n (omega (arith, l, place-within (things_in i sort) n _ w)) in
                  let is_set : s.0 ≡ set = sym (its ∙ shown-set t (entry_on t body n) s.0 (record-shown t b i h body n ∙ ap or_twelve s.1)) in
                  let next : suc n ≡ n + 1 = omega arith in
                  let first = so_far.says i h l in
                  subst (λ (x : List ℕ). Appends before at x after past)
                  (lines_more kind of n (things_in i sort) (records_in i body) name set w (s.1 ∙ ap some is_set)
                  ∙ ap (λ (m : ℕ). roll_lines kind of (take m (things_in i sort)) (take m (records_in i body))) next)
                  (appends-then (omega (arith, first.ends, so_far.near, so_far.few, printable.room)) first a);
            }

    pub lines-put : {k m : ℕ} → refused k m ≡ name_on t sort n → PutsLines t sort body kind of before at now end
    lines-put {k} {m} missed = record {
      same = so_far.same;
      near = omega (arith, so_far.near, so_far.few);
      says = λ i h l.
          let past = place-past (things_in i sort) n (shown-none t (name_on t sort n) (get_elem? (things_in i sort) n) k m (thing-shown t b i h sort n printable.thing) missed) in
          subst (λ (x : List ℕ). Appends before at x now end)
          (ap₂ (λ (x : List Name) (y : List (List ℕ)). roll_lines kind of x y) (take_all n (things_in i sort) past) (take_all n (records_in i body) (omega (arith, past, l))))
          (so_far.says i h l);
    }
