-- The keywords and reserved words of document 01, and what W-203 and W-205 add to them. Assumes nothing.
use Prim.Native.String.{String}
use Rattle.std.specs.Prelude.{Bool, true, false, not, ◌&&◌, List, [], ◌∷◌}
use Rattle.std.proofs.Math.Option.{Option}
use Rattle.lexer.specs.Spell.{bytes}
use Rattle.lexer.specs.Class.{is, parts}
use Rattle.policy.specs.Basics.{Name, is_in, any, Under, lookup, given}
use Rattle.policy.specs.Statements.{Family, users, roles, types, Sort, thing_of, attribute_of, Side, source, target, process, Op, eq, neq, dom, domby, incomp}
use Rattle.policy.specs.Statements.{Relation, userrole, roletype, roleallow}

-- a word and its value
abbrev pub ◌↦→◌ : {A : Type 0} → String → A → Under A
s ↦→ a = record { word = bytes s; value = a }

infix 70 ◌↦→◌
-- "Reserved, never names of things"
unfoldable pub reserved : List Name
reserved =
    bytes "all" ∷ bytes "and" ∷ bytes "or" ∷ bytes "xor" ∷ bytes "not" ∷ bytes "eq" ∷ bytes "neq" ∷ bytes "dom" ∷ bytes "domby" ∷ bytes "incomp"
    ∷ bytes "u1" ∷ bytes "u2" ∷ bytes "u3" ∷ bytes "r1" ∷ bytes "r2" ∷ bytes "r3" ∷ bytes "t1" ∷ bytes "t2" ∷ bytes "t3"
    ∷ bytes "l1" ∷ bytes "l2" ∷ bytes "h1" ∷ bytes "h2" ∷ []

-- W-203: "A name with a reserved part counts as reserved"
unfoldable pub is_reserved : Name → Bool
is_reserved w = any (λ p. is_in p reserved) (parts w)

-- "A reserved word where a name is asked for .. is fault 3"
abbrev pub as_name : Name → Option Name
as_name w = given (not (is_reserved w)) w

-- W-203: "3 for a dot in a declared, block or permission name": such a name is one part
unfoldable pub dotless : Name → Bool
dotless [] = true
dotless (b ∷ w) = not (is "." b) && dotless w

abbrev pub as_part : Name → Option Name
as_part w = given (dotless w && not (is_reserved w)) w

-- what a statement's first word says it is
pub data Keyword : Type 0 where
  declare_k : Sort → Keyword
  class_k : Keyword
  set_k : Family → Keyword
  relation_k : Relation → Keyword
  transition_k constrain_k relabel_k : Keyword

unfoldable pub keyword_of : Name → Option Keyword
keyword_of w = lookup w (
    "user" ↦→ declare_k (thing_of users)
    ∷ "role" ↦→ declare_k (thing_of roles)
    ∷ "type" ↦→ declare_k (thing_of types)
    ∷ "userattribute" ↦→ declare_k (attribute_of users)
    ∷ "roleattribute" ↦→ declare_k (attribute_of roles)
    ∷ "typeattribute" ↦→ declare_k (attribute_of types)
    ∷ "class" ↦→ class_k
    ∷ "userattributeset" ↦→ set_k users
    ∷ "roleattributeset" ↦→ set_k roles
    ∷ "typeattributeset" ↦→ set_k types
    ∷ "userrole" ↦→ relation_k userrole
    ∷ "roletype" ↦→ relation_k roletype
    ∷ "roleallow" ↦→ relation_k roleallow
    ∷ "roletransition" ↦→ transition_k
    ∷ "constrain" ↦→ constrain_k
    ∷ "validatetrans" ↦→ relabel_k
    ∷ [])

-- W-203: the word that a block starts with
abbrev pub block_word : Name
block_word = bytes "block"

-- the operators of S and of E
pub data Connective : Type 0 where
  all_c not_c and_c or_c xor_c : Connective

unfoldable pub set_word : Name → Option Connective
set_word w = lookup w ("all" ↦→ all_c ∷ "not" ↦→ not_c ∷ "and" ↦→ and_c ∷ "or" ↦→ or_c ∷ "xor" ↦→ xor_c ∷ [])

unfoldable pub expression_word : Name → Option Connective
expression_word w = lookup w ("not" ↦→ not_c ∷ "and" ↦→ and_c ∷ "or" ↦→ or_c ∷ [])

-- "op: `eq neq`; rop: also `dom domby incomp`"
unfoldable pub op_of : Name → Option Op
op_of w = lookup w ("eq" ↦→ eq ∷ "neq" ↦→ neq ∷ "dom" ↦→ dom ∷ "domby" ↦→ domby ∷ "incomp" ↦→ incomp ∷ [])

abbrev pub is_plain : Op → Bool
is_plain eq = true
is_plain neq = true
is_plain dom = false
is_plain domby = false
is_plain incomp = false

-- which sides an E may name: a constrain's two, or, W-205, the three of a relabelling
pub data Sides : Type 0 where
  two_sides three_sides : Sides

-- a component of the context of a side
pub record Component : Type 0 where
  pub family : Family
  pub side : Side

abbrev pub component : Family → Side → Component
component f s = record { family = f; side = s }

-- "x one of u1 u2 r1 r2 t1 t2"
abbrev pub of_two_sides : List (Under Component)
of_two_sides =
    "u1" ↦→ component users source ∷ "u2" ↦→ component users target
    ∷ "r1" ↦→ component roles source ∷ "r2" ↦→ component roles target
    ∷ "t1" ↦→ component types source ∷ "t2" ↦→ component types target
    ∷ []

-- W-205: "x also u3, r3 or t3"
abbrev pub components : Sides → List (Under Component)
components two_sides = of_two_sides
components three_sides =
    "u3" ↦→ component users process ∷ "r3" ↦→ component roles process ∷ "t3" ↦→ component types process ∷ of_two_sides

unfoldable pub component_of : Sides → Name → Option Component
component_of n w = lookup w (components n)

-- the words of denial 3
abbrev pub process_word : Name
process_word = bytes "process"

abbrev pub transition_words : List Name
transition_words = bytes "transition" ∷ bytes "dyntransition" ∷ []

-- document 02, W-201: the role that is treated apart
abbrev pub object_r : Name
object_r = bytes "object_r"
