-- The numbers in which an answer is handed out to other languages: document 01's number and values for each of its cases. Assumes nothing.
use Rattle.std.specs.Prelude.{ℕ, ◌<◌, Bool, true, false}
use Rattle.policy.specs.Meaning.{Context}
use Rattle.policy.specs.Deciding as decided
use Rattle.policy.specs.Deciding.{Question, Relabelling, Verdict, granted, denied, fails, refuses, Reply, answered, refused}
use Rattle.policy.specs.Outcome.{Outcome, accepted, rejected}
use Rattle.policy.specs.Questions as replies
use Rattle.answer_numbers.specs.declared.Compiled.{Compiled}
use Rattle.answer_numbers.specs.declared.Answer.{Answer}
use Rattle.answer_numbers.specs.declared.Part.{Part}

abbrev pub compiled_of : ℕ → ℕ → ℕ → Compiled
compiled_of n at l = record { number = n; place = at; line = l }

abbrev pub answer_of : ℕ → ℕ → ℕ → ℕ → Answer
answer_of o n i k = record { outcome = o; number = n; constraint = i; consulted = k }

abbrev pub part_of : ℕ → ℕ → ℕ → Part
part_of n s l = record { number = n; start = s; length = l }

-- "**Change** (source, target, class, permission by its place in the class)"
abbrev pub asking : Context → Context → ℕ → ℕ → Question
asking s t c k = record { source = s; target = t; class = c; perm = k }

-- W-205: "class and three contexts"
abbrev pub relabelling : ℕ → Context → Context → Context → Relabelling
relabelling c o n p = record { class = c; old = o; new = n; process = p }

-- "Refusal numbers", each with the "Place given" and, W-202, "the line"; 0 with the table's length and line 0 where there is none
abbrev pub compiled_numbers : Outcome → Compiled
compiled_numbers (accepted n) = compiled_of 0 n 0
compiled_numbers (rejected r) = compiled_of r.number r.place r.line

-- "A table is **sound** when ..": 1, else 0
abbrev pub sound_number : Bool → ℕ
sound_number true = 1
sound_number false = 0

-- "**Valid context**": outcome 0 valid, 1 not valid, 2 "11, then 12"
abbrev pub valid_numbers : Reply Bool → Answer
valid_numbers (answered true) = answer_of 0 0 0 0
valid_numbers (answered false) = answer_of 1 0 0 0
valid_numbers (refused n at) = answer_of 2 n 0 0

-- "Denials in order: 1 source not valid; 2 target not valid; 3 ..; 4 the first failing constraint, with its number. Otherwise granted": outcome 0
-- granted, 1 denied, 2 "11, then 12". "With it goes the number consulted". So for a relabelling
abbrev pub verdict_numbers : Verdict → ℕ → Answer
verdict_numbers granted k = answer_of 0 0 0 k
verdict_numbers (denied n) k = answer_of 1 n 0 k
verdict_numbers (fails n i) k = answer_of 1 n i k
verdict_numbers (refuses n at) k = answer_of 2 n 0 k

abbrev pub change_numbers : decided.Answer → Answer
change_numbers a = verdict_numbers a.verdict a.consulted

-- "**New role**": outcome 0 with the role, 2 "11, then 12"
abbrev pub new_role_numbers : Reply ℕ → Answer
new_role_numbers (answered r) = answer_of 0 r 0 0
new_role_numbers (refused n at) = answer_of 2 n 0 0

-- "the part of the lent table that holds" a name or an entry; "an empty part on refusal"
abbrev pub part_numbers : Reply replies.Part → Part
part_numbers (answered p) = part_of 0 p.start p.size
part_numbers (refused n at) = part_of n 0 0

-- the numbers fit into four bytes
pub record CompiledFits (c : Compiled) : Type 0 where
  pub number : c.number < 4294967296
  pub place : c.place < 4294967296
  pub line : c.line < 4294967296

pub record Fits (a : Answer) : Type 0 where
  pub number : a.number < 4294967296
  pub constraint : a.constraint < 4294967296
  pub consulted : a.consulted < 4294967296

pub record PartFits (p : Part) : Type 0 where
  pub number : p.number < 4294967296
  pub start : p.start < 4294967296
  pub length : p.length < 4294967296
