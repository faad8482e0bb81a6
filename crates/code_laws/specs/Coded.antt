-- The statements that have code, as the code holds them, and what the code of a policy says of each. Assumes nothing.
use Rattle.std.specs.Prelude.{ℕ, ◌≡◌, List, [], ◌∷◌, ◌++◌}
use Rattle.std.proofs.Math.Option.{Option, none, some}
use Rattle.bitset.specs.Relations.{joined}
use Rattle.policy.specs.Basics.{each, gather}
use Rattle.policy.specs.Statements.{Family, thing_of, attribute_of, Declaration, plain, class, Reference, SetExpr, Relation, declare, attributeset, gives}
use Rattle.policy.specs.Statements.{roletransition, constrain, validatetrans, Line, Policy}
use Rattle.statement_code.specs.Code.{reference_unit, set_code, attribute_tag, set_tag, relation_tag, transition_tag}
use Rattle.statement_code.specs.Numbered.{NumberedR}
use Rattle.code_laws.specs.Kinds.{Readable, Tag, attribute_t, set_t, relation_t, transition_t, no_t, tag_of}

-- the place comes first; then what the statement names. An attribute is declared; a set is given to one; a relation is given; a role transition
pub data Coded : Type 0 where
  attribute_at : Family → ℕ → Coded
  set_at : Family → ℕ → ℕ → SetExpr Reference → Coded
  relation_at : Relation → ℕ → Reference → Reference → Coded
  transition_at : ℕ → Reference → Reference → ℕ → ℕ → Coded

abbrev pub coded_declaration : ℕ → Declaration → Option Coded
coded_declaration at (plain (thing_of f) w) = none
coded_declaration at (plain (attribute_of f) w) = some (attribute_at f at)
coded_declaration at (class w ps) = none

abbrev pub coded : Line → Option Coded
coded l = elim l.says [
  | declare d ↦ coded_declaration l.place d
  | attributeset f a s ↦ some (set_at f l.place a s)
  | gives k x y ↦ some (relation_at k l.place x y)
  | roletransition r t c n ↦ some (transition_at l.place r t c n)
  | constrain c ps e ↦ none
  | validatetrans c e ↦ none
]

-- the statements of a policy that have code, in text order
unfoldable pub coded_in : Policy → List Coded
coded_in p = gather coded p

-- the units of one, and of several
abbrev pub coded_units : Coded → List ℕ
coded_units (attribute_at f at) = attribute_tag f ∷ at ∷ []
coded_units (set_at f at a s) = set_tag f ∷ at ∷ a ∷ set_code s
coded_units (relation_at k at x y) = relation_tag k ∷ at ∷ reference_unit x ∷ reference_unit y ∷ []
coded_units (transition_at at r t c n) = transition_tag ∷ at ∷ reference_unit r ∷ reference_unit t ∷ c ∷ n ∷ []

unfoldable pub units_of : List Coded → List ℕ
units_of cs = joined (each coded_units cs)

-- its references and its S are told apart by their code
abbrev pub CodedReadable : Coded → Type 0
CodedReadable (attribute_at f at) = Unit {0}
CodedReadable (set_at f at a s) = Readable s
CodedReadable (relation_at k at x y) = NumberedR x × NumberedR y
CodedReadable (transition_at at r t c n) = NumberedR r × NumberedR t

-- what the statement is, by its tag; us are the units after the tag, rest those after the statement
pub record AttributeParts (f : Family) (s : Coded) (us rest : List ℕ) : Type 0 where
  pub place : ℕ
  pub is : s ≡ attribute_at f place
  pub units : us ≡ place ∷ rest

pub record SetParts (f : Family) (s : Coded) (us rest : List ℕ) : Type 0 where
  pub place : ℕ
  pub to : ℕ
  pub set : SetExpr Reference
  pub is : s ≡ set_at f place to set
  pub readable : Readable set
  pub units : us ≡ place ∷ to ∷ (set_code set ++ rest)

pub record RelationParts (k : Relation) (s : Coded) (us rest : List ℕ) : Type 0 where
  pub place : ℕ
  pub from : Reference
  pub to : Reference
  pub is : s ≡ relation_at k place from to
  pub readable : NumberedR from × NumberedR to
  pub units : us ≡ place ∷ reference_unit from ∷ reference_unit to ∷ rest

pub record TransitionParts (s : Coded) (us rest : List ℕ) : Type 0 where
  pub place : ℕ
  pub role : Reference
  pub type : Reference
  pub class : ℕ
  pub new : ℕ
  pub is : s ≡ transition_at place role type class new
  pub readable : NumberedR role × NumberedR type
  pub units : us ≡ place ∷ reference_unit role ∷ reference_unit type ∷ class ∷ new ∷ rest

abbrev pub PartsC : Tag → Coded → List ℕ → List ℕ → Type 0
PartsC (attribute_t f) s us rest = AttributeParts f s us rest
PartsC (set_t f) s us rest = SetParts f s us rest
PartsC (relation_t k) s us rest = RelationParts k s us rest
PartsC transition_t s us rest = TransitionParts s us rest
PartsC no_t s us rest = ⊥

abbrev pub StartsC : Coded → List ℕ → List ℕ → Type 0
StartsC s rest [] = ⊥
StartsC s rest (u ∷ us) = PartsC (tag_of u) s us rest
