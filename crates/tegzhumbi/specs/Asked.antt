-- What is asked, by the numbers of src/. Assumes nothing.
use Rattle.policy.specs.Meaning.{Context}
use Rattle.policy.specs.Deciding.{Question, Relabelling}
use Rattle.policy.specs.declared.Class as theClass
use Rattle.policy.specs.declared.Permission as thePermission
use Rattle.tegzhumbi.specs.declared.Context as theContext

-- "**Valid context** (user, role, type)"
abbrev pub context_of : theContext.Context → Context
context_of c = record { user = c.user.0; role = c.role.0; type = c.kind.0 }

-- "**Change** (source, target, class, permission by its place in the class)"
abbrev pub question : theContext.Context → theContext.Context → theClass.Class → thePermission.Permission → Question
question s t c k = record { source = context_of s; target = context_of t; class = c.0; perm = k.0 }

-- W-205: "A new question gives class and three contexts"
abbrev pub relabelling : theClass.Class → theContext.Context → theContext.Context → theContext.Context → Relabelling
relabelling c o n p = record { class = c.0; old = context_of o; new = context_of n; process = context_of p }
