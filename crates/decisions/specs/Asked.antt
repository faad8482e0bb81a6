-- What is asked, by its numbers. Assumes nothing.
use Rattle.std.specs.Prelude.{ℕ}
use Rattle.policy.specs.Meaning.{Context}
use Rattle.policy.specs.Deciding.{Question, Relabelling}
use Rattle.decisions.specs.declared.Context as theContext

-- "**Valid context** (user, role, type)"
abbrev pub context : ℕ → ℕ → ℕ → Context
context u r t = record { user = u; role = r; type = t }

-- what the struct of src/ stands for
abbrev pub context_of : theContext.Context → Context
context_of c = context c.user c.role c.kind

-- "**Change** (source, target, class, permission by its place in the class)"
abbrev pub question : theContext.Context → theContext.Context → ℕ → ℕ → Question
question s t c k = record { source = context_of s; target = context_of t; class = c; perm = k }

-- W-205: "A new question gives class and three contexts", old, new and the process
abbrev pub relabelling : ℕ → theContext.Context → theContext.Context → theContext.Context → Relabelling
relabelling c o n p = record { class = c; old = context_of o; new = context_of n; process = context_of p }
