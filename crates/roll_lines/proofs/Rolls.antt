-- The first line, the lines of the users and those of the roles are the roll of the image that a table holds. Assumes nothing.
use Prim.Native.Nat.{ℕ, ◌+◌, ◌≤◌}
use native.Mathlib.Omega.{arith}
use mathlib.Core.Path.{◌≡◌, sym, ap}
use mathlib.Core.List.{List, [], ◌∷◌, ◌++◌, append_assoc}
use lib.ListN.{length, length-append}
use Rattle.lexer.specs.Spell.{bytes}
use Rattle.bitset.specs.Relations.{joined}
use Rattle.policy.specs.Statements.{count}
use Rattle.policy.specs.Image.{Image}
use Rattle.policy.specs.Encode.{encode, newest}
use Rattle.policy.specs.Roll.{decimal, roll_of, roll}
use Rattle.table_laws.specs.SoundTable.{Bytes}
use Rattle.table_laws.specs.Shown.{records_in}
use Rattle.table_laws.proofs.WellFormedLaid.{well-formed-laid}
use Rattle.table_laws.proofs.ImageOnly.{image-formed}
use Rattle.text_writer.specs.WrittenText.{Appends}
use Rattle.text_writer.proofs.Digits.{few-digits}
use Rattle.roll_lines.specs.LineWrites.{acceptance, things_in, PutsLines, PutsRoll}
use Rattle.roll_lines.proofs.AppendLaws.{appends-then, appends-last, appends-length}

pub acceptance-short : (n : ℕ) → length (acceptance n) ≤ 36
unfolding joined
acceptance-short n = omega (
  arith,
  length-append (bytes "accepted ") (decimal n ++ bytes " bytes\n"),
  length-append (decimal n) (bytes " bytes\n"),
  few-digits 20 n,
)

pub roll-put : {t a b c d : List ℕ} {n p q r : ℕ} → Bytes t → 24868 ≤ length a → Appends a 0 (acceptance n) b p
    → PutsLines t 0 2 (bytes "user ") (bytes " roles ") b p c q → PutsLines t 1 3 (bytes "role ") (bytes " types ") c q d r → PutsRoll t n a d r
unfolding joined roll_of things_in records_in count
roll-put {t} {a} {b} {c} {d} {n} {p} {q} {r} small room first users-put roles-put = record {
  says = λ i h.
      let laid = well-formed-laid i (image-formed t i h) in
      let short = acceptance-short n in
      let fits : 0 + length (acceptance n) ≤ length a = omega (arith, short, room) in
      let same = appends-length fits first in
      let us = users-put.says i h (sym laid.user_roles.many) in
      let rs = roles-put.says i h (sym laid.role_types.many) in
      appends-then fits first
      (appends-last (appends-then (omega (arith, us.ends, users-put.near, first.ends, short, room, same)) us rs));
}

-- the first line ends where the lines of users begin
pub roll-parts : (i : Image) → joined (acceptance (length (encode newest i)) ∷ roll_of i ∷ []) ≡ roll i
unfolding joined
roll-parts i = ap (λ (x : List ℕ). bytes "accepted " ++ x) (append_assoc (decimal (length (encode newest i))) (bytes " bytes\n") (roll_of i ++ []))
