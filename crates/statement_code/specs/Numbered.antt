-- The numbers of things and attributes are small enough for the units of references to tell them apart. Assumes nothing.
use Rattle.std.specs.Prelude.{◌<◌}
use Rattle.policy.specs.Statements.{Reference, thing, attribute, SetExpr, name_s, all_s, not_s, and_s, or_s, xor_s, union_s, empty_s, Statement, declare, attributeset}
use Rattle.policy.specs.Statements.{gives, roletransition, constrain, validatetrans}

abbrev pub NumberedR : Reference → Type 0
NumberedR (thing n) = n < 1024
NumberedR (attribute a) = a < 1024

abbrev pub Numbered : SetExpr Reference → Type 0
Numbered (name_s r) = NumberedR r
Numbered all_s = Unit {0}
Numbered (not_s x) = Numbered x
Numbered (and_s x y) = Numbered x × Numbered y
Numbered (or_s x y) = Numbered x × Numbered y
Numbered (xor_s x y) = Numbered x × Numbered y
Numbered (union_s x y) = Numbered x × Numbered y
Numbered empty_s = Unit {0}

-- and those of attributes, classes and roles that are alone are as small
abbrev pub StatementNumbered : Statement → Type 0
StatementNumbered (declare d) = Unit {0}
StatementNumbered (attributeset f a s) = (a < 1024) × Numbered s
StatementNumbered (gives k x y) = NumberedR x × NumberedR y
StatementNumbered (roletransition r t c n) = NumberedR r × NumberedR t × (c < 1024) × (n < 1024)
StatementNumbered (constrain c ps e) = Unit {0}
StatementNumbered (validatetrans c e) = Unit {0}
