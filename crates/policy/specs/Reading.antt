-- Document 01, "Refusal numbers", and document 02, W-203: the reading of a text into its statements, with faults 1 to 7 in their order. Assumes nothing.
use Rattle.lexer.specs.declared.ScanFault.{ScanFault}
use Rattle.std.specs.Prelude.{ℕ, ◌+◌, Bool, true, false, not, ◌&&◌, cond, List, [], ◌∷◌, ◌++◌, leb, ltb, length, Ok, Err}
use Rattle.std.proofs.Math.Option.{Option, none, some}
use Rattle.lexer.specs.Scan.{scan, max_text, Scanned}
use Rattle.lexer.specs.Class.{max_name}
use Rattle.lexer.specs.Forms.{forms_of}
use Rattle.policy.specs.Basics.{Name, ◌>>=◌, each_of, is_in, differ}
use Rattle.policy.specs.Statements.{Family, roles, types, thing_of, attribute_of, Declaration, plain, class, Reference, SetExpr, name_s, all_s, not_s, and_s}
use Rattle.policy.specs.Statements.{or_s, xor_s, union_s, empty_s, Constraint, sides_e, name_e, not_e, and_e, or_e, from_of, to_of, declare, attributeset, gives}
use Rattle.policy.specs.Statements.{roletransition, constrain, validatetrans, Written, Statement, Policy, family_of, family_names, class_names, count, declarations}
use Rattle.policy.specs.Statements.{transitions, constrains, constrain_body, relabels, relabel_body, size, need}
use Rattle.policy.specs.Names.{full, Environment, environment_of, refer, number_in}
use Rattle.policy.specs.Maxima.{max_of, max_classes, max_permissions, max_transitions, max_constraints, max_rows, max_relabels, max_relabel_rows, max_stack, max_depth}
use Rattle.policy.specs.Grammar.{written, is_block, block_in}
use Rattle.policy.specs.Scopes.{Scoped, scoped_in, blocks_in}

-- W-203: what is declared has its full name. "Permissions take no block's name"
abbrev pub full_declaration : List Name → Declaration → Declaration
full_declaration path (plain s w) = plain s (full path w)
full_declaration path (class w ps) = class (full path w) ps

abbrev pub in_blocks : List Name → Written → Written
in_blocks path (declare d) = declare (full_declaration path d)
in_blocks path (attributeset f a s) = attributeset f a s
in_blocks path (gives r x y) = gives r x y
in_blocks path (roletransition r t c n) = roletransition r t c n
in_blocks path (constrain c ps e) = constrain c ps e
in_blocks path (validatetrans c e) = validatetrans c e

-- FAULT 4: "name declared again in its family, or permission twice in a class"
abbrev pub is_new : List Declaration → Declaration → Bool
is_new ds (plain s w) = not (is_in w (family_names (family_of s) ds))
is_new ds (class w ps) = not (is_in w (class_names ds)) && differ ps

abbrev pub again : List Declaration → Written → Bool
again ds (declare d) = not (is_new ds d)
again ds (attributeset f a s) = false
again ds (gives r x y) = false
again ds (roletransition r t c n) = false
again ds (constrain c ps e) = false
again ds (validatetrans c e) = false

-- FAULT 5: the numbers of the names; none where one is "not declared before, or of the wrong sort"
unfoldable pub refer_s : Environment → Family → SetExpr Name → Option (SetExpr Reference)
refer_s env f (name_s w) = refer env f w >>= λ r. some (name_s r)
refer_s env f all_s = some all_s
refer_s env f (not_s x) = refer_s env f x >>= λ x. some (not_s x)
refer_s env f (and_s x y) = refer_s env f x >>= λ x. refer_s env f y >>= λ y. some (and_s x y)
refer_s env f (or_s x y) = refer_s env f x >>= λ x. refer_s env f y >>= λ y. some (or_s x y)
refer_s env f (xor_s x y) = refer_s env f x >>= λ x. refer_s env f y >>= λ y. some (xor_s x y)
refer_s env f (union_s x y) = refer_s env f x >>= λ x. refer_s env f y >>= λ y. some (union_s x y)
refer_s env f empty_s = some empty_s

unfoldable pub refer_e : Environment → Constraint Name → Option (Constraint Reference)
refer_e env (sides_e f o) = some (sides_e f o)
refer_e env (name_e f s o w) = refer env f w >>= λ r. some (name_e f s o r)
refer_e env (not_e x) = refer_e env x >>= λ x. some (not_e x)
refer_e env (and_e x y) = refer_e env x >>= λ x. refer_e env y >>= λ y. some (and_e x y)
refer_e env (or_e x y) = refer_e env x >>= λ x. refer_e env y >>= λ y. some (or_e x y)

abbrev pub resolved : Environment → Written → Option Statement
resolved env (declare d) = some (declare d)
resolved env (attributeset f a s) = number_in env (attribute_of f) a >>= λ a. refer_s env f s >>= λ s. some (attributeset f a s)
resolved env (gives r x y) = refer env (from_of r) x >>= λ x. refer env (to_of r) y >>= λ y. some (gives r x y)
resolved env (roletransition r t c n) =
    refer env roles r >>= λ r. refer env types t >>= λ t. env.class c >>= λ c.
    number_in env (thing_of roles) n >>= λ n. some (roletransition r t c n)
resolved env (constrain c ps e) =
    env.class c >>= λ c. each_of (λ p. env.permission c p) ps >>= λ ps.
    refer_e env e >>= λ e. some (constrain c ps e)
resolved env (validatetrans c e) = env.class c >>= λ c. refer_e env e >>= λ e. some (validatetrans c e)

-- FAULT 6: "one of the other maxima passed"; W-205: "6 and 7 as for constrain"; W-203: "6 for a full name too long"
abbrev pub is_short : Declaration → Bool
is_short (plain s w) = leb (length w) max_name
is_short (class w ps) = leb (length w) max_name

abbrev pub has_room : List Declaration → Declaration → Bool
has_room ds (plain s w) = ltb (count s ds) (max_of s)
has_room ds (class w ps) = ltb (length (class_names ds)) max_classes && leb (length ps) max_permissions

-- the rows of statements whose E is their body
unfoldable pub row_count : {A : Type 0} → (A → Constraint Reference) → List A → ℕ
row_count body [] = 0
row_count body (c ∷ cs) = size (body c) + row_count body cs

abbrev pub fits : Policy → Statement → Bool
fits p (declare d) = has_room (declarations p) d && is_short d
fits p (attributeset f a s) = true
fits p (gives r x y) = true
fits p (roletransition r t c n) = ltb (length (transitions p)) max_transitions
fits p (constrain c ps e) = ltb (length (constrains p)) max_constraints && leb (row_count constrain_body (constrains p) + size e) max_rows
fits p (validatetrans c e) = ltb (length (relabels p)) max_relabels && leb (row_count relabel_body (relabels p) + size e) max_relabel_rows

-- FAULT 7: "stack need above 5"
abbrev pub shallow : Statement → Bool
shallow (declare d) = true
shallow (attributeset f a s) = true
shallow (gives r x y) = true
shallow (roletransition r t c n) = true
shallow (constrain c ps e) = leb (need e) max_stack
shallow (validatetrans c e) = leb (need e) max_stack

-- a statement as read, a block that is opened, or the number of a fault: "each tried for 3, 4, 5, 6, 7"
pub data Judged : Type 0 where
  reads : Statement → Judged
  opens : Judged
  fault : ℕ → Judged

abbrev pub judge_maxima : Policy → Statement → Judged
judge_maxima p s = cond (fits p s) (cond (shallow s) (reads s) (fault 7)) (fault 6)

abbrev pub judge_resolved : Policy → Option Statement → Judged
judge_resolved p none = fault 5
judge_resolved p (some s) = judge_maxima p s

-- a statement in the blocks of a path, after the statements of p
abbrev pub judge_statement : List Name → Policy → Option Written → Judged
judge_statement path p none = fault 3
judge_statement path p (some w) = elim (again (declarations p) (in_blocks path w)) [
  | true ↦ fault 4
  | false ↦ judge_resolved p (resolved (environment_of (declarations p) path) (in_blocks path w))
]

-- W-203: a block of a name in the blocks of a path has neither "a full name too long" nor "a ninth level"
abbrev pub block_fits : List Name → Name → Bool
block_fits path b = ltb (length path) max_depth && leb (length (full path b)) max_name

-- W-203: a block in the blocks of a path, by its name, where there are blocks of these full names: "3 for a dot in a .. block .. name, 4 for a block opened
-- twice under one full name, 6 for a full name too long or a ninth level"
abbrev pub judge_block : List Name → List Name → Option Name → Judged
judge_block path blocks none = fault 3
judge_block path blocks (some b) =
    cond (is_in (full path b) blocks) (fault 4) (cond (block_fits path b) opens (fault 6))

-- a statement or block after those before it, whose statements are p
unfoldable pub judge : List Scoped → Policy → Scoped → Judged
judge before p x = cond (is_block x.form) (judge_block x.path (blocks_in before) (block_in x.form)) (judge_statement x.path p (written x.form))

-- the statements of a text, or a refusal's number and place
pub data Read : Type 0 where
  policy : Policy → Read
  refused : ℕ → ℕ → Read

-- "then statements in text order", after those before them, whose statements are p. A refusal is "each at its statement, or at the block's own parenthesis"
unfoldable pub read_from : List Scoped → List Scoped → Policy → Read
read_from before [] p = policy p
read_from before (x ∷ xs) p = elim (judge before p x) [
  | reads s ↦ read_from (before ++ (x ∷ [])) xs (p ++ (record { place = x.place; says = s } ∷ []))
  | opens ↦ read_from (before ++ (x ∷ [])) xs p
  | fault n ↦ refused n x.place
]

-- the statements and blocks of a whole text
abbrev pub read_all : List Scoped → Read
read_all xs = read_from [] xs []

-- "Order: 1; then 2, where the scan stops at the first byte that is wrong (lowest place); then statements in text order"
abbrev pub after_scan : Scanned → Read → Read
after_scan (Err ScanFault.TooLong) r = refused 1 max_text
after_scan (Err (ScanFault.Wrong p)) r = refused 2 p
after_scan (Ok _) r = r

unfoldable pub read_policy : List ℕ → Read
read_policy text = after_scan (scan text) (read_all (scoped_in [] (forms_of text)))
