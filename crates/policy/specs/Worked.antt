-- Document 01, "Checked by hand", and document 02, W-205: P1 to P12, proved of the rules themselves as one list under one claim. Assumes nothing.
use Rattle.std.specs.Prelude.{ℕ, zero, suc, ◌+◌, ◌*◌, ◌≡◌, refl, true, List, [], ◌∷◌, ◌++◌, eqb, ltb, length, take, drop, replicate}
use Rattle.lexer.specs.Spell.{bytes}
use Rattle.policy.specs.Basics.{Name, unle}
use Rattle.policy.specs.Statements.{users, roles, types, thing_of, plain, class, thing, eq, Constraint, sides_e, and_e, Reference, need, userrole}
use Rattle.policy.specs.Statements.{roletype, declare, gives, Statement, Line, Policy}
use Rattle.policy.specs.Reading.{policy, refused, read_policy}
use Rattle.policy.specs.Meaning.{Context, final}
use Rattle.policy.specs.Deciding.{Question, denied, unconsulted}
use Rattle.policy.specs.Answer.{answer}
use Rattle.bitset.specs.Sets.{set_of, tabulate}
use Rattle.policy.specs.Outcome.{of_text, compiles, refuses, refusal_at, accepted, rejected, outcome, compiled, policy_of}
use Rattle.policy.specs.Encode.{sections_of, newest, encode}
use Rattle.policy.specs.Questions.{change_on}
use Rattle.policy.specs.Computing.{computing}

-- "The printed roll": its text, and its statements as read
abbrev pub roll_text : List ℕ
roll_text = bytes "(user u)(role a)(role b)(type t)(userrole u a)(roletype a t)"

abbrev line : ℕ → Statement → Line
line p s = record { place = p; says = s }

abbrev roll_lines : Policy
roll_lines =
    line 0 (declare (plain (thing_of users) (bytes "u")))
    ∷ line 8 (declare (plain (thing_of roles) (bytes "a")))
    ∷ line 16 (declare (plain (thing_of roles) (bytes "b")))
    ∷ line 24 (declare (plain (thing_of types) (bytes "t")))
    ∷ line 32 (gives userrole (thing 0) (thing 0))
    ∷ line 46 (gives roletype (thing 0) (thing 0))
    ∷ []

-- the table of a text; nothing where it is refused
abbrev pub table_of : List ℕ → List ℕ
table_of text = elim (compiled (of_text text) 65536) [ compiles i ↦ encode newest i | refuses n p ↦ [] ]

-- the offsets of the sections of a table
abbrev pub offsets : List ℕ → List ℕ
offsets t = tabulate (sections_of newest) (λ k. unle (take 4 (drop (4 + 8 * k) t)))

-- the final set of roleattribute 0 of a text, in 16 bytes; nothing where it is refused
abbrev pub first_set : List ℕ → List ℕ
first_set text = elim (policy_of (of_text text)) [ policy p ↦ set_of 16 (final p roles 0) | refused n at ↦ [] ]

-- n + 1 comparisons joined by `and`, to the right and to the left
abbrev pub comparison : Constraint Reference
comparison = sides_e users eq

abbrev pub to_right : ℕ → Constraint Reference
to_right zero = comparison
to_right (suc n) = and_e comparison (to_right n)

abbrev to_left : ℕ → Constraint Reference
to_left zero = comparison
to_left (suc n) = and_e (to_left n) comparison

-- (u,a,t) to (u,b,t)
abbrev pub context : ℕ → ℕ → ℕ → Context
context u r t = record { user = u; role = r; type = t }

abbrev asked : ℕ → Question
asked k = record { source = context 0 0 0; target = context 0 1 0; class = 0; perm = k }

pub record Worked : Type 0 where
  pub p1 : outcome (of_text (bytes "")) 84 ≡ accepted 84
  pub p2 : (read_policy roll_text ≡ policy roll_lines) × (outcome (of_text roll_text) 280 ≡ accepted 280)
      × (offsets (table_of roll_text) ≡ 84 ∷ 104 ∷ 120 ∷ 248 ∷ 280 ∷ 280 ∷ 280 ∷ 280 ∷ 280 ∷ 280 ∷ [])
  pub p3 : (lent : ℕ) → outcome (of_text (bytes "(role a)(role a)")) lent ≡ rejected (refusal_at 4 8 1)
  pub p4 : (lent : ℕ) → outcome (of_text (bytes "(role a)(roletype a t)")) lent ≡ rejected (refusal_at 5 8 1)
  pub p5 : (lent : ℕ) → outcome (of_text (bytes "(")) lent ≡ rejected (refusal_at 2 1 1)
  pub p6 : (lent : ℕ) → outcome (of_text (bytes "()")) lent ≡ rejected (refusal_at 3 0 1)
  pub p7 : (lent : ℕ) → outcome (of_text (bytes "(roleattribute x)(roleattributeset x (x))")) lent ≡ rejected (refusal_at 8 0 1)
  pub p8 : first_set (bytes "(role a)(role b)(role c)(roleattribute x)(roleattributeset x (not (a b)))") ≡ set_of 16 (λ n. eqb n 2)
  pub p9 : first_set (bytes "(role a)(role b)(role c)(roleattribute x)(roleattributeset x (xor (a b) (b c)))") ≡ 5 ∷ replicate 15 0
  pub p10 : (need (to_right 4) ≡ 5) × (need (to_right 5) ≡ 6) × (need (to_left 4) ≡ 2) × (need (to_left 5) ≡ 2)
  pub p11 : ((at : ℕ) (c : Name) (ps : List Name) (k : ℕ) → ltb k (length ps) ≡ true
      → answer (roll_lines ++ (line at (declare (class c ps)) ∷ [])) (asked k) ≡ unconsulted (denied 2))
      × (change_on (table_of (roll_text ++ bytes "(class process (transition))")) (asked 0) ≡ unconsulted (denied 2))
  pub p12 : set_of 16 (λ n. eqb n 64) ≡ replicate 8 0 ++ (1 ∷ replicate 7 0)

any-permission : (at : ℕ) (c : Name) (ps : List Name) (k : ℕ) → ltb k (length ps) ≡ true
    → answer (roll_lines ++ (line at (declare (class c ps)) ∷ [])) (asked k) ≡ unconsulted (denied 2)
unfolding computing
any-permission at c ps k h = rw h

pub worked : Worked
unfolding computing
worked = record {
  p1 = refl;
  p2 = (refl, refl, refl);
  p3 = λ lent. refl;
  p4 = λ lent. refl;
  p5 = λ lent. refl;
  p6 = λ lent. refl;
  p7 = λ lent. refl;
  p8 = refl;
  p9 = refl;
  p10 = (refl, refl, refl, refl);
  p11 = (any-permission, refl);
  p12 = refl;
}
