-- The code of a policy is the code of its statements that have code, and what is read has statements that their code tells apart: so the code of
-- what is read determines those statements. Assumes nothing.
use Prim.Native.Nat.{ℕ, ◌≤◌}
use native.Mathlib.Omega.{arith}
use mathlib.Core.Path.{◌≡◌, refl, sym, ap, ◌∙◌, subst}
use mathlib.Core.List.{List, [], ◌∷◌, ◌++◌, append_assoc}
use lib.ListN.{length}
use Rattle.lexer.specs.Forms.{forms_of}
use Rattle.bitset.specs.Relations.{joined}
use Rattle.policy.specs.Basics.{each, gather, keep, All}
use Rattle.policy.specs.Statements.{thing_of, attribute_of, Declaration, plain, class, Statement, declare, attributeset, gives, roletransition, constrain, validatetrans, Line}
use Rattle.policy.specs.Statements.{Policy}
use Rattle.policy.specs.Scopes.{Scoped, scoped_in}
use Rattle.policy.specs.Reading.{Judged, reads, opens, fault, judge, policy, read_from, read_policy}
use Rattle.policy.proofs.Lists.{all_append}
use Rattle.policy.proofs.Gathered.{OfValue, all-gather}
use Rattle.reading_laws.proofs.ReadThen.{line, judged_at, read_one}
use Rattle.reading_laws.proofs.ReadAccepted.{read-accepted}
use Rattle.reading_laws.proofs.LongerText.{read-clean}
use Rattle.statement_code.specs.Code.{declaration_code, statement_code, line_code, code_of}
use Rattle.code_laws.specs.Shape.{StatementRowed}
use Rattle.statement_code.specs.Numbered.{StatementNumbered}
use Rattle.code_laws.specs.Kinds.{tag_of}
use Rattle.code_laws.specs.Coded.{Coded, coded_declaration, coded, coded_in, units_of, CodedReadable, PartsC}
use Rattle.code_laws.proofs.StatementShape.{judge-shaped}
use Rattle.code_laws.proofs.Numbers.{LineNumbered, accepted-numbered}
use Rattle.code_laws.proofs.FirstUnits.{readable, coded-parts}
use Rattle.code_laws.proofs.Determined.{statements-determined}

-- THE SAME CODE
declaration-coded : (at : ℕ) (d : Declaration) (cs : List Coded) → declaration_code at d ++ units_of cs ≡ units_of (keep (coded_declaration at d) cs)
unfolding units_of joined each
declaration-coded at (plain (thing_of f) w) cs = refl
declaration-coded at (plain (attribute_of f) w) cs = refl
declaration-coded at (class w ps) cs = refl

line-coded : (at : ℕ) (s : Statement) (cs : List Coded) → statement_code at s ++ units_of cs ≡ units_of (keep (coded (line at s)) cs)
unfolding units_of joined each
line-coded at (declare d) cs = declaration-coded at d cs
line-coded at (attributeset f a s) cs = refl
line-coded at (gives k x y) cs = refl
line-coded at (roletransition r t c n) cs = refl
line-coded at (constrain c ps e) cs = refl
line-coded at (validatetrans c e) cs = refl

pub code-coded : (p : Policy) → code_of p ≡ units_of (coded_in p)
unfolding code_of coded_in gather units_of joined each
code-coded [] = refl
code-coded (l ∷ p) = ap (λ (r : List ℕ). line_code l ++ r) (code-coded p) ∙ line-coded l.place l.says (coded_in p)

-- WHAT IS READ
abbrev pub LineRowed : Line → Type 0
LineRowed l = StatementRowed l.says

pub row-rowed : (before xs : List Scoped) (p q : Policy) → read_from before xs p ≡ policy q → All LineRowed p → All LineRowed q
unfolding read_from
row-rowed before [] p q h a = let same : p ≡ q = cc in subst (All LineRowed) same a
row-rowed before (x ∷ xs) p q h a = go (judge before p x) refl (sym (read_one before x xs p) ∙ h) λ o. row-rowed (before ++ (x ∷ [])) xs o q
  where
    go : (j : Judged) → judge before p x ≡ j → judged_at x.place p j (read_from (before ++ (x ∷ [])) xs) ≡ policy q
        → ((o : Policy) → read_from (before ++ (x ∷ [])) xs o ≡ policy q → All LineRowed o → All LineRowed q) → All LineRowed q
    go (reads s) e k rest =
        rest (p ++ (line x.place s ∷ [])) k (all_append LineRowed p (line x.place s ∷ []) a ((judge-shaped before p x s e).rowed, tt))
    go opens e k rest = rest p k a
    go (fault n) e k rest = let z : ◌≡◌ {A = ℕ} 0 1 = cc in absurd (omega arith)

pub read-rowed : (text : List ℕ) (p : Policy) → read_policy text ≡ policy p → All LineRowed p
read-rowed text p h = row-rowed [] (scoped_in [] (forms_of text)) [] p (read-clean text p h).1 tt

-- a line whose numbers are small and whose S is rowed
abbrev pub LineReadable : Line → Type 0
LineReadable l = LineNumbered l × LineRowed l

declaration-readable : (at : ℕ) (d : Declaration) → OfValue CodedReadable (coded_declaration at d)
declaration-readable at (plain (thing_of f) w) = tt
declaration-readable at (plain (attribute_of f) w) = tt
declaration-readable at (class w ps) = tt

line-readable : (at : ℕ) (s : Statement) → StatementNumbered s → StatementRowed s → OfValue CodedReadable (coded (line at s))
line-readable at (declare d) h k = declaration-readable at d
line-readable at (attributeset f a s) h k = readable s h.1 k
line-readable at (gives j x y) h k = h
line-readable at (roletransition r t c n) h k = (h.0, h.1)
line-readable at (constrain c ps e) h k = tt
line-readable at (validatetrans c e) h k = tt

pub lines-readable : (p : Policy) → All LineReadable p → All CodedReadable (coded_in p)
unfolding coded_in
lines-readable p a = all-gather CodedReadable LineReadable coded (λ l h. line-readable l.place l.says h.0 h.1) p a

all_both : (p : Policy) → All LineNumbered p → All LineRowed p → All LineReadable p
all_both [] h k = tt
all_both (l ∷ p) h k = ((h.0, k.0), all_both p h.1 k.1)

pub read-readable : (text : List ℕ) (p : Policy) → read_policy text ≡ policy p → All LineReadable p
read-readable text p h = all_both p (accepted-numbered p (read-accepted text p h)) (read-rowed text p h)

-- THE CODE DETERMINES THE STATEMENTS
pub code-determines : (p q : Policy) → All LineReadable p → All LineReadable q → code_of p ≡ code_of q → coded_in p ≡ coded_in q
code-determines p q a b e =
    statements-determined (coded_in p) (coded_in q) (lines-readable p a) (lines-readable q b) (sym (code-coded p) ∙ e ∙ code-coded q)

pub texts-determined : (t u : List ℕ) (p q : Policy) → read_policy t ≡ policy p → read_policy u ≡ policy q → code_of p ≡ code_of q → coded_in p ≡ coded_in q
texts-determined t u p q h k = code-determines p q (read-readable t p h) (read-readable u q k)

-- A READER'S NEXT STATEMENT
-- where more stands than what is after the code, a statement starts
pub record Next (cs : List Coded) (u : ℕ) (us rest : List ℕ) : Type 0 where
  pub first : Coded
  pub others : List Coded
  pub is : cs ≡ first ∷ others
  pub readable : CodedReadable first × All CodedReadable others
  pub parts : PartsC (tag_of u) first us (units_of others ++ rest)

pub next-statement : (cs : List Coded) (u : ℕ) (us rest : List ℕ) → All CodedReadable cs → u ∷ us ≡ units_of cs ++ rest → length rest ≤ length us → Next cs u us rest
unfolding units_of joined each
next-statement [] u us rest a e l = let same : length (u ∷ us) ≡ length rest = ap length e in absurd (omega arith)
next-statement (c ∷ cs) u us rest a e l =
    record { first = c; others = cs; is = refl; readable = a; parts = coded-parts c u us (units_of cs ++ rest) a.0 (simp append_assoc at e) }
