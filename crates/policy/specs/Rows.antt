-- Document 01, "The table", body 7: rows, and the stack that runs them. Assumes nothing.
use Rattle.std.specs.Prelude.{Bool, false, not, ◌&&◌, ◌||◌, cond, List, [], ◌∷◌, ◌++◌, ℕ, suc, pred, ◌+◌, eqb, leb}
use Rattle.policy.specs.Statements.{Family, users, roles, types, Reference, thing, attribute, Side, source, target, process, Op, eq, neq, dom, domby, incomp}
use Rattle.policy.specs.Statements.{Constraint, sides_e, name_e, not_e, and_e, or_e}
use Rattle.policy.specs.Maxima.{max_stack}

-- "kind, component, operator, 0, number"
pub record Row : Type 0 where
  pub kind : ℕ
  pub comp : ℕ
  pub op : ℕ
  pub num : ℕ

abbrev pub row : ℕ → ℕ → ℕ → ℕ → Row
row k c o n = record { kind = k; comp = c; op = o; num = n }

-- "u1 u2 r1 r2 t1 t2 as 0 to 5"; W-205: "u3, r3, t3 as 6, 7, 8"
abbrev pub comp_code : Family → Side → ℕ
comp_code users source = 0
comp_code users target = 1
comp_code users process = 6
comp_code roles source = 2
comp_code roles target = 3
comp_code roles process = 7
comp_code types source = 4
comp_code types target = 5
comp_code types process = 8

-- "eq neq dom domby incomp as 0 to 4"
abbrev pub op_code : Op → ℕ
op_code eq = 0
op_code neq = 1
op_code dom = 2
op_code domby = 3
op_code incomp = 4

-- "4 side and thing, 5 side and attribute"
abbrev pub name_row : ℕ → ℕ → Reference → Row
name_row c o (thing n) = row 4 c o n
name_row c o (attribute a) = row 5 c o a

-- "operands before operators, left first"; "0 not, 1 and, 2 or, 3 two sides"
unfoldable pub rows_of : Constraint Reference → List Row
rows_of (sides_e f o) = row 3 (comp_code f source) (op_code o) 0 ∷ []
rows_of (name_e f s o r) = name_row (comp_code f s) (op_code o) r ∷ []
rows_of (not_e a) = rows_of a ++ (row 0 0 0 0 ∷ [])
rows_of (and_e a b) = rows_of a ++ (rows_of b ++ (row 1 0 0 0 ∷ []))
rows_of (or_e a b) = rows_of a ++ (rows_of b ++ (row 2 0 0 0 ∷ []))

-- what a row is asked about: the numbers by component, and the attributes' sets by component, number and thing
pub record View : Type 0 where
  pub side : ℕ → ℕ
  pub inset : ℕ → ℕ → ℕ → Bool

-- operators 1 and 4 are the opposite of sameness
abbrev pub op_test : ℕ → Bool → Bool
op_test o b = cond (eqb o 1) (not b) (cond (eqb o 4) (not b) b)

-- the two sides are the same, the side is the thing, or the side is in the attribute's set
abbrev pub is_same : View → Row → Bool
is_same v r =
    cond (eqb r.kind 3) (eqb (v.side r.comp) (v.side (r.comp + 1)))
    (cond (eqb r.kind 4) (eqb (v.side r.comp) r.num)
    (v.inset r.comp r.num (v.side r.comp)))

-- the stack's top is the list's head
abbrev pub not_top : List Bool → List Bool
not_top [] = []
not_top (x ∷ s) = not x ∷ s

abbrev pub and_top : List Bool → List Bool
and_top [] = []
and_top (x ∷ []) = x ∷ []
and_top (y ∷ (x ∷ s)) = (x && y) ∷ s

abbrev pub or_top : List Bool → List Bool
or_top [] = []
or_top (x ∷ []) = x ∷ []
or_top (y ∷ (x ∷ s)) = (x || y) ∷ s

-- the stack after a row
abbrev pub run_row : View → Row → List Bool → List Bool
run_row v r s =
    cond (eqb r.kind 0) (not_top s)
    (cond (eqb r.kind 1) (and_top s)
    (cond (eqb r.kind 2) (or_top s)
    (op_test r.op (is_same v r) ∷ s)))

unfoldable pub run : View → List Row → List Bool → List Bool
run v [] s = s
run v (r ∷ rs) s = run v rs (run_row v r s)

-- what is left on the stack after the last row
abbrev pub top : List Bool → Bool
top [] = false
top (b ∷ s) = b

-- the depth of the stack after a row: `not` takes one and leaves one, `and` and `or` take two and leave one
abbrev pub after : Row → ℕ → ℕ
after r d = cond (eqb r.kind 0) d (cond (eqb r.kind 1) (pred d) (cond (eqb r.kind 2) (pred d) (suc d)))

-- "leave between 1 and 5 on the stack after every row and 1 after the last", from a depth d on
unfoldable pub balanced : List Row → ℕ → Bool
balanced [] d = eqb d 1
balanced (r ∷ rs) d = leb 1 (after r d) && leb (after r d) max_stack && balanced rs (after r d)
