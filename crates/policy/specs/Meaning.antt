-- Document 01, "What a promise says here": what the statements say, each by its own form. No table, rows or stack. Assumes nothing.
use Rattle.std.specs.Prelude.{ℕ, zero, suc, Bool, true, false, not, ◌&&◌, ◌||◌, eqb, ltb}
use Rattle.std.proofs.Math.Option.{none, some}
use Rattle.policy.specs.Basics.{any}
use Rattle.policy.specs.Statements.{Family, users, roles, types, thing_of, Reference, thing, attribute, SetExpr, name_s, all_s, not_s, and_s, or_s, xor_s}
use Rattle.policy.specs.Statements.{union_s, empty_s, Side, source, target, Op, eq, neq, dom, domby, incomp, Constraint, sides_e, name_e, not_e, and_e, or_e}
use Rattle.policy.specs.Statements.{Relation, userrole, roletype, roleallow, from_of, to_of, Line, as_gives}
use Rattle.policy.specs.Statements.{Policy, count, declarations, sets_for}

-- a set of numbers, as a test
abbrev pub Set : Type 0
Set = ℕ → Bool

-- the same relation
abbrev pub same_relation : Relation → Relation → Bool
same_relation userrole userrole = true
same_relation userrole roletype = false
same_relation userrole roleallow = false
same_relation roletype userrole = false
same_relation roletype roletype = true
same_relation roletype roleallow = false
same_relation roleallow userrole = false
same_relation roleallow roletype = false
same_relation roleallow roleallow = true

-- "A thing stands for itself alone", an attribute for its set
abbrev pub stands_in : (ℕ → Set) → Reference → Set
stands_in sets (thing m) n = eqb n m
stands_in sets (attribute a) n = sets a n

-- one of two, and not both
abbrev pub one_of : Bool → Bool → Bool
one_of true b = not b
one_of false b = b

-- S by its form, where c things are declared and the attributes have these sets: "`(all)` is every user, role or type of the
-- whole text; `not` is taken within it"
unfoldable pub of_s : ℕ → (ℕ → Set) → SetExpr Reference → Set
of_s c sets (name_s r) n = stands_in sets r n
of_s c sets all_s n = ltb n c
of_s c sets (not_s x) n = ltb n c && not (of_s c sets x n)
of_s c sets (and_s x y) n = of_s c sets x n && of_s c sets y n
of_s c sets (or_s x y) n = of_s c sets x n || of_s c sets y n
of_s c sets (xor_s x y) n = one_of (of_s c sets x n) (of_s c sets y n)
of_s c sets (union_s x y) n = of_s c sets x n || of_s c sets y n
of_s c sets empty_s n = false

-- how many things of a family the whole text declares
unfoldable pub count_in : Policy → Family → ℕ
count_in p f = count (thing_of f) (declarations p)

-- "the union of the S in its statements, each by its form, and without any for nothing", the other attributes having these sets
unfoldable pub union_of : Policy → Family → (ℕ → Set) → ℕ → Set
union_of p f sets a n = any (λ s. of_s (count_in p f) sets s n) (sets_for f a p)

-- the same with attributes that mention others, so many deep
unfoldable pub nested : ℕ → Policy → Family → ℕ → Set
nested zero p f a n = false
nested (suc k) p f a n = union_of p f (nested k p f) a n

-- an attribute's final set. No chain of mentions without a cycle is longer than the 64 attributes of a family
unfoldable pub final : Policy → Family → ℕ → Set
final p f a n = nested 64 p f a n

-- what a reference stands for, wherever it is used
unfoldable pub stands : Policy → Family → Reference → Set
stands p f r n = stands_in (final p f) r n

-- what each reference of each family stands for
abbrev pub Denotation : Type 0
Denotation = Family → Reference → Set

-- one line gives y to x: "`userrole` gives every user of its first set every role of its second", and the others likewise
abbrev pub line_gives : Denotation → Relation → ℕ → ℕ → Line → Bool
line_gives for k x y l = elim (as_gives l.says) [
  | none ↦ false
  | some g ↦ same_relation k g.relation && (for (from_of k) g.from x && for (to_of k) g.to y)
]

-- "What all such lines together give"
unfoldable pub related : Policy → Relation → ℕ → Set
related p k x y = any (line_gives (stands p) k x y) p

-- a context
pub record Context : Type 0 where
  pub user : ℕ
  pub role : ℕ
  pub type : ℕ

-- the component of a family
abbrev pub part : Family → Context → ℕ
part users c = c.user
part roles c = c.role
part types c = c.type

-- the context of each side: "Side 1 is the source, 2 the target"; W-205: "the old context (side 1), the new one (2) and the clerk's process (3)"
abbrev pub Contexts : Type 0
Contexts = Side → Context

-- "`eq` is sameness, or membership ..; `neq` is its opposite"; "`dom` and `domby` read as `eq`, `incomp` as `neq`"
abbrev pub compares : Op → Bool → Bool
compares eq b = b
compares neq b = not b
compares dom b = b
compares domby b = b
compares incomp b = not b

-- E by its form, of the contexts of its sides
unfoldable pub holds : Denotation → Contexts → Constraint Reference → Bool
holds for on (sides_e f o) = compares o (eqb (part f (on source)) (part f (on target)))
holds for on (name_e f x o r) = compares o (for f r (part f (on x)))
holds for on (not_e e) = not (holds for on e)
holds for on (and_e e g) = holds for on e && holds for on g
holds for on (or_e e g) = holds for on e || holds for on g
