-- Documents 01 and 02 (W-201, W-205), **Valid context**, **Change** and the question of relabelling: a valid context, the order of the denials and the number
-- consulted, over what is given. The statements and a table both decide by these lines; here is neither. Assumes nothing.
use Rattle.std.specs.Prelude.{ℕ, ◌+◌, Bool, true, false, not, ◌&&◌, ◌||◌, cond, List, [], ◌∷◌, eqb, ltb, length, get_or}
use Rattle.policy.specs.Basics.{same, is_in}
use Rattle.policy.specs.Words.{process_word, transition_words, object_r}
use Rattle.policy.specs.Statements.{users, roles, types, thing_of, source, target, process, Declaration, names_of, class_names, permissions, count, Relation}
use Rattle.policy.specs.Statements.{userrole, roletype, roleallow}
use Rattle.policy.specs.Meaning.{Set, Context, Contexts}

-- what a decision is made from, whoever gives it: the names declared, and the relations as tests: `gives userrole u` are the roles of user u,
-- `gives roletype r` the types of role r, `gives roleallow r` the roles that role r may become
pub record Given : Type 0 where
  pub names : List Declaration
  pub gives : Relation → ℕ → Set

-- the role is named `object_r`: by its own name, whatever its number
unfoldable pub is_object : List Declaration → ℕ → Bool
is_object ds r = same (get_or (names_of (thing_of roles) ds) r []) object_r

-- **Valid context** (user, role, type): "the role is among the user's, the type among the role's"; document 02, W-201: "a context whose role is
-- named `object_r` is valid with any declared user and any declared type". That the numbers are declared is asked before
unfoldable pub valid_by : Given → Context → Bool
valid_by g c = (g.gives userrole c.user c.role && g.gives roletype c.role c.type) || is_object g.names c.role

-- an answer, or a refusal's number and place
pub data Reply (A : Type 0) : Type 0 where
  answered : A → Reply A
  refused : ℕ → ℕ → Reply A

-- "(source, target, class, permission by its place in the class)"
pub record Question : Type 0 where
  pub source : Context
  pub target : Context
  pub class : ℕ
  pub perm : ℕ

-- its contexts by their sides. A change has no third side and a constrain names none (fault 3): the process that changes is the source
abbrev pub contexts_of : Question → Contexts
contexts_of q source = q.source
contexts_of q target = q.target
contexts_of q process = q.source

-- W-205: "A new question gives class and three contexts"
pub record Relabelling : Type 0 where
  pub class : ℕ
  pub old : Context
  pub new : Context
  pub process : Context

-- "the old context (side 1), the new one (2) and the clerk's process (3)"
abbrev pub relabel_contexts : Relabelling → Contexts
relabel_contexts q source = q.old
relabel_contexts q target = q.new
relabel_contexts q process = q.process

-- granted; a denial by its number, 1, 2, 3 or 5; a denial by its number, 4 or 6, with the number of the first failing statement; a refusal by its number, 11
-- or 12, and its place, 0
pub data Verdict : Type 0 where
  granted : Verdict
  denied : ℕ → Verdict
  fails : ℕ → ℕ → Verdict
  refuses : ℕ → ℕ → Verdict

-- "With it goes the number consulted"
pub record Answer : Type 0 where
  pub verdict : Verdict
  pub consulted : ℕ

-- "0 for denials 1 to 3 and for refusals"; W-205, of a relabelling: "consulted as for a change, 0 for denials 1, 2 and 5"
abbrev pub unconsulted : Verdict → Answer
unconsulted v = record { verdict = v; consulted = 0 }

-- one more consulted
abbrev pub one_more : Answer → Answer
one_more a = record { verdict = a.verdict; consulted = 1 + a.consulted }

-- a statement that does not name what is asked; one that does, and fails, denial n: "4 the first failing constraint, with its number"; one that does, and
-- holds: before the answer of the later ones
abbrev pub consult : ℕ → Bool → Bool → ℕ → Answer → Answer
consult n false b i later = later
consult n true false i later = record { verdict = fails n i; consulted = 1 }
consult n true true i later = one_more later

-- "the constraints naming that class and permission, up to and including the first that fails"; n is the denial, i the number of the first of the list
unfoldable pub first_failing : {A : Type 0} → ℕ → (A → Bool) → (A → Bool) → ℕ → List A → Answer
first_failing n names holds i [] = unconsulted granted
first_failing n names holds i (x ∷ xs) = consult n (names x) (holds x) i (first_failing n names holds (i + 1) xs)

-- "Denials in order": are all numbers declared, is the source valid, is the target, may the role change; then the constraints
unfoldable pub decide : Bool → Bool → Bool → Bool → Answer → Answer
decide false s t r rest = unconsulted (refuses 12 0)
decide true false t r rest = unconsulted (denied 1)
decide true true false r rest = unconsulted (denied 2)
decide true true true false rest = unconsulted (denied 3)
decide true true true true rest = rest

-- the numbers of a context, and of a question, are declared
unfoldable pub declared_context : List Declaration → Context → Bool
declared_context ds c =
    ltb c.user (count (thing_of users) ds) && ltb c.role (count (thing_of roles) ds) && ltb c.type (count (thing_of types) ds)

unfoldable pub declared_question : List Declaration → Question → Bool
declared_question ds q =
    declared_context ds q.source && declared_context ds q.target
    && ltb q.class (length (class_names ds)) && ltb q.perm (length (permissions ds q.class))

-- **Valid context**, of declared numbers
abbrev pub valid_reply : Given → Context → Reply Bool
valid_reply g c = cond (declared_context g.names c) (answered (valid_by g c)) (refused 12 0)

-- "class `process`, permission `transition` or `dyntransition`"
unfoldable pub asks_role : List Declaration → ℕ → ℕ → Bool
asks_role ds c k = same (get_or (class_names ds) c []) process_word && is_in (get_or (permissions ds c) k []) transition_words

-- not (that class and permission, "roles differ and source may not become target")
abbrev pub role_may : Bool → ℕ → ℕ → Bool → Bool
role_may asks a b may = not asks || eqb a b || may

-- denial 3 is not met: "class `process`, permission `transition` or `dyntransition`, roles differ and source may not become target"
unfoldable pub may_become : Given → Question → Bool
may_become g q =
    let old = q.source.role in
    let new = q.target.role in
    role_may (asks_role g.names q.class q.perm) old new (g.gives roleallow old new)

-- **Change**: the decision, where the constraints answer `rest`
unfoldable pub ruled_by : Given → Question → Answer → Answer
ruled_by g q rest = decide (declared_question g.names q) (valid_by g q.source) (valid_by g q.target) (may_become g q) rest

-- W-205: "denials 1 old, 2 new, 5 process not valid, 6 ..": are all numbers declared, is each of the three contexts valid; then the statements
unfoldable pub decide_relabel : Bool → Bool → Bool → Bool → Answer → Answer
decide_relabel false o n p rest = unconsulted (refuses 12 0)
decide_relabel true false n p rest = unconsulted (denied 1)
decide_relabel true true false p rest = unconsulted (denied 2)
decide_relabel true true true false rest = unconsulted (denied 5)
decide_relabel true true true true rest = rest

unfoldable pub declared_relabel : List Declaration → Relabelling → Bool
declared_relabel ds q =
    declared_context ds q.old && declared_context ds q.new && declared_context ds q.process && ltb q.class (length (class_names ds))

-- relabelling: the decision, where the validatetrans statements answer `rest`. No role allow is asked
unfoldable pub ruled_relabel : Given → Relabelling → Answer → Answer
ruled_relabel g q rest = decide_relabel (declared_relabel g.names q) (valid_by g q.old) (valid_by g q.new) (valid_by g q.process) rest
