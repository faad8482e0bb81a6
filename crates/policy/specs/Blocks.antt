-- Document 02, W-203: worked examples of blocks and dotted names, proved of the rules themselves as one list under one claim. Assumes nothing.
use Rattle.std.specs.Prelude.{ℕ, ◌≡◌, refl, true, false, List, [], ◌∷◌, ◌++◌}
use Prim.Native.String.{String}
use Rattle.lexer.specs.Spell.{bytes}
use Rattle.policy.specs.Basics.{Name}
use Rattle.policy.specs.Statements.{Declaration, users, roles, thing_of, class, thing, eq, sides_e, roleallow, gives, constrain, Statement, Line, names_of, declarations}
use Rattle.policy.specs.Names.{tries}
use Rattle.policy.specs.Reading.{Read, policy, refused, read_policy}
use Rattle.policy.specs.Deciding.{is_object, asks_role}
use Rattle.policy.specs.Sound.{is_good, is_good_part}
use Rattle.policy.specs.Computing.{computing}

-- what is read of a text; what it declares, the full names of its roles; its last statement
abbrev of : String → Read
of t = read_policy (bytes t)

abbrev declared : Read → List Declaration
declared (policy p) = declarations p
declared (refused n at) = []

abbrev roles_of : Read → List Name
roles_of r = names_of (thing_of roles) (declared r)

abbrev last : List Line → List Statement
last [] = []
last (l ∷ []) = l.says ∷ []
last (k ∷ l ∷ ls) = last (l ∷ ls)

abbrev last_of : Read → List Statement
last_of (policy p) = last p
last_of (refused n at) = []

-- `(roleallow R R)` of two roles
abbrev allows : ℕ → ℕ → List Statement
allows r s = gives roleallow (thing r) (thing s) ∷ []

-- each of the two words that are treated apart, in a block and at the whole-text level
abbrev twice : List Declaration
twice = declared (of "(block b(class process (transition))(role object_r))(class process (transition))(role object_r)")

-- a name of 60 bytes
abbrev sixty : String
sixty = "abcdefghijklmnopqrstuvwxyzabcdefghijklmnopqrstuvwxyzabcdefgh"

pub record Blocks : Type 0 where
  -- "puts the names declared inside under `b.`"
  pub full-names : roles_of (of "(block b(role a)(block c(role a)))(role a)") ≡ bytes "b.a" ∷ bytes "b.c.a" ∷ bytes "a" ∷ []
  -- "any other use is tried in the innermost block, then outward"
  pub in_order : tries (bytes "q" ∷ bytes "p" ∷ []) (bytes "m.n") ≡ bytes "p.q.m.n" ∷ bytes "p.m.n" ∷ bytes "m.n" ∷ []
  pub innermost : last_of (of "(role a)(block b(role a)(roleallow a a))") ≡ allows 1 1
  pub then-outward : last_of (of "(role a)(block b(block c(roleallow a a)))") ≡ allows 0 0
  pub whole-name-outward : last_of (of "(block c(role a))(block b(block c)(roleallow c.a c.a))") ≡ allows 0 0
  -- "A leading dot means the whole-text level"
  pub leading-dot : last_of (of "(role a)(block b(role a)(roleallow .a .b.a))") ≡ allows 0 1
  pub only-there : of "(block b(role a)(roleallow .a a))" ≡ refused 5 16
  -- "the first hit of the family decides", also of the wrong sort
  pub wrong-sort : of "(type t)(class c (p))(role a)(roleattribute b)(block k(role b)(roleattribute a)(roletransition b t c a))" ≡ refused 5 79
  pub other-family : last_of (of "(role a)(block b(type a)(roleallow a a))") ≡ allows 0 0
  -- "A block is tried before the statements in it"
  pub header-first : of "(block b(role a)(role a) x)" ≡ refused 3 0
  pub block-before : of "(block b)(block b(role a)(role a))" ≡ refused 4 9
  pub empty_block : of "(block b)" ≡ policy []
  -- "3 for a dot in a declared, block or permission name"
  pub dotted-role : of "(role a.b)" ≡ refused 3 0
  pub dotted-block : of "(role a)(block .b)" ≡ refused 3 8
  pub dotted-permission : of "(class c (p.q))" ≡ refused 3 0
  -- "Permissions take no block's name"
  pub permission-names : declared (of "(block b(class c (p q)))") ≡ class (bytes "b.c") (bytes "p" ∷ bytes "q" ∷ []) ∷ []
  pub permission : last_of (of "(block b(class c (p))(constrain (c (p)) (eq u1 u2)))") ≡ constrain 0 (0 ∷ []) (sides_e users eq) ∷ []
  -- "A name with a reserved part counts as reserved"
  pub reserved-part : of "(user u)(userrole u b.all)" ≡ refused 3 8
  pub reserved-dot : of "(user u)(userrole u .all)" ≡ refused 3 8
  -- "4 for a block opened twice under one full name"
  pub opened-twice : of "(block b)(block b)" ≡ refused 4 9
  pub inside-itself : of "(block a(block a))" ≡ policy []
  pub elsewhere : roles_of (of "(block a(block b))(block b)(role b)") ≡ bytes "b" ∷ []
  -- "blocks nest to 8", "6 for .. a ninth level"
  pub eight-levels : roles_of (of "(block a(block b(block c(block d(block e(block f(block g(block h(role i)))))))))") ≡ bytes "a.b.c.d.e.f.g.h.i" ∷ []
  pub nine-levels : of "(block a(block a(block a(block a(block a(block a(block a(block a(block a)))))))))" ≡ refused 6 64
  pub ninth-of-no-form : of "(block a(block a(block a(block a(block a(block a(block a(block a(block a b)))))))))" ≡ refused 3 64
  -- ten parts in a use: 5
  pub ten-parts : of "(user u)(userrole u a.b.c.d.e.f.g.h.i.j)" ≡ refused 5 8
  -- "6 for a full name too long": 64 bytes and 65
  pub full-64 : roles_of (read_policy (bytes "(block " ++ bytes sixty ++ bytes "(role abc))")) ≡ (bytes sixty ++ bytes ".abc") ∷ []
  pub full-65 : read_policy (bytes "(block " ++ bytes sixty ++ bytes "(role abcd))") ≡ refused 6 67
  pub block-65 : read_policy (bytes "(block " ++ bytes sixty ++ bytes "(block yyyyy))") ≡ refused 6 67
  -- "Only the full names `process` and `object_r` are treated apart"
  pub process-in-a-block : asks_role twice 0 0 ≡ false
  pub process-itself : asks_role twice 1 0 ≡ true
  pub object-in-a-block : is_object twice 0 ≡ false
  pub object-itself : is_object twice 1 ≡ true
  -- "Tables, sound ones included, hold the full dotted name without leading dot, at most 64 bytes and nine parts, a permission's one"
  pub nine-parts-sound : is_good (bytes "a.b.c.d.e.f.g.h.i") ≡ true
  pub ten-parts-unsound : is_good (bytes "a.b.c.d.e.f.g.h.i.j") ≡ false
  pub reserved-unsound : is_good (bytes "b.all") ≡ false
  pub leading-dot-unsound : is_good (bytes ".a") ≡ false
  pub permission-unsound : is_good_part (bytes "p.q") ≡ false

pub blocks : Blocks
unfolding computing
blocks = record {
  full-names = refl;
  in_order = refl;
  innermost = refl;
  then-outward = refl;
  whole-name-outward = refl;
  leading-dot = refl;
  only-there = refl;
  wrong-sort = refl;
  other-family = refl;
  header-first = refl;
  block-before = refl;
  empty_block = refl;
  dotted-role = refl;
  dotted-block = refl;
  dotted-permission = refl;
  permission-names = refl;
  permission = refl;
  reserved-part = refl;
  reserved-dot = refl;
  opened-twice = refl;
  inside-itself = refl;
  elsewhere = refl;
  eight-levels = refl;
  nine-levels = refl;
  ninth-of-no-form = refl;
  ten-parts = refl;
  full-64 = refl;
  full-65 = refl;
  block-65 = refl;
  process-in-a-block = refl;
  process-itself = refl;
  object-in-a-block = refl;
  object-itself = refl;
  nine-parts-sound = refl;
  ten-parts-unsound = refl;
  reserved-unsound = refl;
  leading-dot-unsound = refl;
  permission-unsound = refl;
}
