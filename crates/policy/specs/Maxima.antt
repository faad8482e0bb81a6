-- Document 01, "How many", and document 02: the maxima, each of the thing that it limits. Those of text, name and level are the lexer's. Assumes nothing.
use Rattle.std.specs.Prelude.{ℕ}
use Rattle.policy.specs.Statements.{users, roles, types, Sort, thing_of, attribute_of}

-- "Users 128, roles 128, types 512, attributes 64 per family"
abbrev pub max_of : Sort → ℕ
max_of (thing_of users) = 128
max_of (thing_of roles) = 128
max_of (thing_of types) = 512
max_of (attribute_of f) = 64

-- "classes 32, permissions 32 per class"
abbrev pub max_classes : ℕ
max_classes = 32

abbrev pub max_permissions : ℕ
max_permissions = 32

-- "transitions 128, constraints 128, constraint rows 2,048 in all"
abbrev pub max_transitions : ℕ
max_transitions = 128

abbrev pub max_constraints : ℕ
max_constraints = 128

abbrev pub max_rows : ℕ
max_rows = 2048

-- W-205: "At most 64 such statements and 1,024 rows"
abbrev pub max_relabels : ℕ
max_relabels = 64

abbrev pub max_relabel_rows : ℕ
max_relabel_rows = 1024

-- W-203: "blocks nest to 8"; full names have "at most .. nine parts": those of eight blocks, and an own name
abbrev pub max_depth : ℕ
max_depth = 8

abbrev pub max_parts : ℕ
max_parts = 9

-- "Stack need of E: .. At most 5"
abbrev pub max_stack : ℕ
max_stack = 5
