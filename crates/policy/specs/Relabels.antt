-- Document 02, W-205: worked examples of validatetrans statements, of tables in editions 1 and 2, and of the question of relabelling, as one list under one
-- claim. Assumes nothing.
use Rattle.std.specs.Prelude.{ℕ, ◌-◌, ◌≡◌, refl, List, [], ◌∷◌, ◌++◌, length, take, drop}
use Rattle.std.proofs.Math.Option.{none, some}
use Rattle.lexer.specs.Spell.{bytes}
use Rattle.policy.specs.Reading.{policy, refused as faulty, read_policy}
use Rattle.policy.specs.Meaning.{Context}
use Rattle.policy.specs.Deciding.{Relabelling, Answer, granted as grants, denied, fails, refuses, unconsulted, answered, refused}
use Rattle.policy.specs.Encode.{encode}
use Rattle.policy.specs.Sound.{image_in}
use Rattle.policy.specs.Questions.{relabel_on, entry_on}
use Rattle.policy.specs.Worked.{table_of, context}
use Rattle.policy.specs.Computing.{computing}

-- the number and place that a text is refused with; 0 and 0 where it is not
abbrev fault : List ℕ → ℕ × ℕ
fault text = elim (read_policy text) [ policy p ↦ (0, 0) | faulty n at ↦ (n, at) ]

-- after a class `c` with a permission, a user `u` and a role `a`: 29 bytes
abbrev with : List ℕ → List ℕ
with statement = bytes "(class c (p))(user u)(role a)" ++ statement

-- a table in another edition, where the table holds an image
abbrev in_edition : ℕ → List ℕ → List ℕ
in_edition e t = elim (image_in t) [ none ↦ [] | some i ↦ encode e i ]

-- files of user u with any type carry the role object_r; clerk c is in the role a with the type t
abbrev lease : List ℕ
lease = bytes "(user u)(user c)(role a)(role object_r)(type t)(type s)(userrole c a)(roletype a t)(class file (read))(class dir (read))"

-- a file may be relabelled by clerk c alone; its user stays; its new type is s
abbrev rules : List ℕ
rules = bytes "(validatetrans file (eq u3 c))(validatetrans dir (neq u1 u2))(validatetrans file (and (eq u1 u2) (eq t2 s)))"

-- class, the old, the new and the process context of a question
abbrev asking : ℕ → Context → Context → Context → Relabelling
asking k o n p = record { class = k; old = o; new = n; process = p }

abbrev ask : Relabelling → Answer
ask q = relabel_on (table_of (lease ++ rules)) q

-- 12 on every sound table of `with`, which declares no type
abbrev ask-it : List ℕ → Answer
ask-it t = relabel_on t (asking 0 (context 0 0 0) (context 0 0 0) (context 0 0 0))

-- a table that ends with a row, whose component is made another
abbrev with_component : ℕ → List ℕ → List ℕ
with_component c t = take (length t - 5) t ++ (c ∷ drop (length t - 4) t)

abbrev file : ℕ → ℕ → Context
file u t = context u 1 t

abbrev clerk : Context
clerk = context 1 0 0

pub record Relabels : Type 0 where
  -- "`(validatetrans C E)` .. E as in constrain, x also u3, r3 or t3"
  pub third-side : fault (with (bytes "(validatetrans c (and (eq u3 u) (or (neq r3 a) (eq r1 r2))))")) ≡ (0, 0)
  -- "no pair with side 3"
  pub pairs : (fault (with (bytes "(validatetrans c (eq u1 u3))")) ≡ (3, 29)) × (fault (with (bytes "(validatetrans c (eq u3 u3))")) ≡ (3, 29))
      × (fault (with (bytes "(validatetrans c (dom r1 r3))")) ≡ (3, 29)) × (fault (with (bytes "(validatetrans c (dom r3 a))")) ≡ (3, 29))
  -- u3 only here
  pub constrain : fault (bytes "(class c (p))(user u)(constrain (c (p)) (eq u3 u))") ≡ (3, 21)
  -- one class and one E
  pub forms : (fault (with (bytes "(validatetrans (c) (eq u1 u2))")) ≡ (3, 29)) × (fault (with (bytes "(validatetrans (c (p)) (eq u1 u2))")) ≡ (3, 29))
      × (fault (with (bytes "(validatetrans c (eq u1 u2) (eq u1 u2))")) ≡ (3, 29)) × (fault (with (bytes "(mlsvalidatetrans c (eq u1 u2))")) ≡ (3, 29))
  pub undeclared : (fault (with (bytes "(validatetrans d (eq u1 u2))")) ≡ (5, 29)) × (fault (with (bytes "(validatetrans c (eq u3 a))")) ≡ (5, 29))
  -- "Refusals: 6 and 7 as for constrain"
  pub stack : fault (with (bytes "(validatetrans c (or (eq u1 u2)(or (eq u1 u2)(or (eq u1 u2)(or (eq u1 u2)(or (eq u1 u2)(eq u1 u2)))))))")) ≡ (7, 29)
  -- "9 holds class and row count, 2 bytes each, 10 the rows", "u3, r3, t3 as 6, 7, 8"
  pub bodies : (length (table_of (bytes "(class c (p))(user u)(validatetrans c (eq u3 u))")) ≡ 125)
      × (drop 115 (table_of (bytes "(class c (p))(user u)(validatetrans c (eq u3 u))")) ≡ 0 ∷ 0 ∷ 1 ∷ 0 ∷ 4 ∷ 6 ∷ 0 ∷ 0 ∷ 0 ∷ 0 ∷ [])
  -- components 6 to 8 are "legal only here", and 9 is none
  pub components : (ask-it (with_component 6 (table_of (with (bytes "(validatetrans c (eq u1 u))")))) ≡ unconsulted (refuses 12 0))
      × (ask-it (with_component 9 (table_of (with (bytes "(validatetrans c (eq u1 u))")))) ≡ unconsulted (refuses 11 0))
      × (ask-it (with_component 1 (table_of (with (bytes "(constrain (c (p)) (eq u1 u))")))) ≡ unconsulted (refuses 12 0))
      × (ask-it (with_component 6 (table_of (with (bytes "(constrain (c (p)) (eq u1 u))")))) ≡ unconsulted (refuses 11 0))
  -- "denials 1 old, 2 new, 5 process not valid", in this order; "consulted .. 0 for denials 1, 2 and 5"
  pub old : ask (asking 0 (context 0 0 0) (context 0 0 0) (context 0 0 0)) ≡ unconsulted (denied 1)
  pub new : ask (asking 0 (file 0 0) (context 0 0 0) (context 0 0 0)) ≡ unconsulted (denied 2)
  pub process : ask (asking 0 (file 0 0) (file 0 1) (context 0 0 0)) ≡ unconsulted (denied 5)
  pub unknown : ask (asking 2 (file 0 0) (file 0 1) clerk) ≡ unconsulted (refuses 12 0)
  -- "6 with the first failing statement's number": among all validatetrans; "consulted as for a change": those of the class
  pub first : ask (asking 0 (file 0 0) (file 0 1) (file 0 0)) ≡ record { verdict = fails 6 0; consulted = 1 }
  pub third : ask (asking 0 (file 0 0) (file 1 1) clerk) ≡ record { verdict = fails 6 2; consulted = 2 }
  pub other-class : ask (asking 1 (file 0 0) (file 0 1) clerk) ≡ record { verdict = fails 6 1; consulted = 1 }
  pub granted : ask (asking 0 (file 0 0) (file 0 1) clerk) ≡ record { verdict = grants; consulted = 2 }
  -- no role allow is asked: none is said from a to object_r, and the clerk's own context becomes a file's
  pub no-role-allow : ask (asking 0 clerk (file 1 1) clerk) ≡ record { verdict = grants; consulted = 2 }
  -- "Readers take edition 1 as having none": granted with 0; "Entry serves all later bodies too"
  pub edition-1 : relabel_on (in_edition 1 (table_of lease)) (asking 0 (file 0 0) (file 1 1) (file 0 0)) ≡ unconsulted grants
  pub entries : (entry_on (table_of (lease ++ rules)) 9 2 ≡ answered (record { start = length (table_of (lease ++ rules)) - 34; size = 4 }))
      × (entry_on (in_edition 1 (table_of lease)) 9 0 ≡ refused 12 0)

pub relabels : Relabels
unfolding computing
relabels = record {
  third-side = refl;
  pairs = (refl, refl, refl, refl);
  constrain = refl;
  forms = (refl, refl, refl, refl);
  undeclared = (refl, refl);
  stack = refl;
  bodies = (refl, refl);
  components = (refl, refl, refl, refl);
  old = refl;
  new = refl;
  process = refl;
  unknown = refl;
  first = refl;
  third = refl;
  other-class = refl;
  granted = refl;
  no-role-allow = refl;
  edition-1 = refl;
  entries = (refl, refl);
}
