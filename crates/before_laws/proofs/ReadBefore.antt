-- A text without dots and blocks is read as document 01 reads it: its statements are in no block, their names are what is written, and none
-- is too long. Assumes nothing.
use Rattle.lexer.specs.declared.ScanFault.{ScanFault}
use Rattle.std.specs.Prelude.{Ok, Err}
use Prim.Native.Nat.{ℕ}
use mathlib.Core.Path.{◌≡◌, refl, ap, ◌∙◌}
use mathlib.Core.Bool.{true, false, not, and-true}
use mathlib.Core.List.{List, [], ◌∷◌, ◌++◌}
use mathlib.Core.Option.{Option, none, some}
use borrow.Author.Tests.{not-true, le-leb}
use lib.ListN.{length}
use Rattle.lexer.specs.Class.{max_name}
use Rattle.lexer.specs.Forms.{Forms, closed, ended, word, part, forms_of}
use Rattle.lexer.specs.Scan.{scan, Scanned}
use Rattle.policy.specs.Basics.{Name, each_of}
use Rattle.policy.specs.Words.{dotless}
use Rattle.policy.specs.Statements.{roles, types, thing_of, attribute_of, from_of, to_of, plain, class}
use Rattle.policy.specs.Statements.{declare, attributeset, gives, roletransition, constrain, validatetrans, Written, Statement, as_declaration, Policy, declarations}
use Rattle.policy.specs.Names.{Environment, environment_of, refer, number_in}
use Rattle.policy.specs.Grammar.{written, is_block}
use Rattle.policy.specs.Scopes.{Scoped, scoped, scoped_in}
use Rattle.policy.specs.Reading.{again, refer_s, refer_e, resolved, is_short, has_room, judge_resolved, judge_statement, judge, read_from, after_scan, read_policy}
use Rattle.policy.specs.Reading.{Judged, reads, opens, fault, Read, refused}
use Rattle.policy.proofs.IfAny.{IfAny, nothing, just, whatever}
use Rattle.policy.proofs.Lists.{both_true}
use Rattle.policy.proofs.Dotless.{reserved-alone}
use Rattle.policy.proofs.BlockLaws.{no_block, in-no-blocks}
use Rattle.before_laws.specs.Before as before
use Rattle.before_laws.specs.Before.{forms_before, blockless, read_before, AsBefore}
use Rattle.before_laws.proofs.Dotless.{part-is-name}
use Rattle.before_laws.proofs.PlainWords.{Words, Plain, text-words}
use Rattle.before_laws.proofs.ResolvedAlike.{resolved-same, names-as-before}
use Rattle.before_laws.proofs.ScanBefore.{scan-as-before}
use Rattle.before_laws.proofs.TokensBefore.{tokens-as-before, forms-as-before}
use Rattle.before_laws.proofs.WrittenNames.{Names, written-names}

-- ---- a statement

-- what it declares is not too long
abbrev Short : Statement → Type 0
Short s = IfAny (λ d. is_short d ≡ true) (as_declaration s)

-- a name that is declared is a word of the text
resolved-short : (env : Environment) (w : Written) → Names Plain w → IfAny Short (resolved env w)
resolved-short env (declare (plain s w)) x = just (just (le-leb (length w) max_name x.1))
resolved-short env (declare (class w ps)) x = just (just (le-leb (length w) max_name x.1))
resolved-short env (attributeset f a s) x = whatever (number_in env (attribute_of f) a) _ λ a. whatever (refer_s env f s) _ λ s. just nothing
resolved-short env (gives r v w) x = whatever (refer env (from_of r) v) _ λ v. whatever (refer env (to_of r) w) _ λ w. just nothing
resolved-short env (roletransition r t c n) x =
    whatever (refer env roles r) _ λ r. whatever (refer env types t) _ λ t. whatever (env.class c) _ λ c.
    whatever (number_in env (thing_of roles) n) _ λ n. just nothing
resolved-short env (constrain c ps e) x =
    whatever (env.class c) _ λ c. whatever (each_of (λ p. env.permission c p) ps) _ λ ps. whatever (refer_e env e) _ λ e. just nothing
resolved-short env (validatetrans c e) x = whatever (env.class c) _ λ c. whatever (refer_e env e) _ λ e. just nothing

-- so W-203's fault 6 is not found
resolving-as-before : (p : Policy) (o : Option Statement) → IfAny Short o → judge_resolved p o ≡ before.judge_resolved p o
resolving-as-before p none h = refl
resolving-as-before p (some (declare d)) h =
    let short : is_short d ≡ true = (h.has (declare d) refl).has d refl in
    rw (short, and-true (has_room (declarations p) d))
resolving-as-before p (some (attributeset f a s)) h = refl
resolving-as-before p (some (gives r x y)) h = refl
resolving-as-before p (some (roletransition r t c n)) h = refl
resolving-as-before p (some (constrain c ps e)) h = refl
resolving-as-before p (some (validatetrans c e)) h = refl

-- a statement by its form: tried for faults 4 to 7 as before
naming-as-before : (p : Policy) (o : Option Written) → IfAny (Names Plain) o → judge_statement [] p o ≡ before.judge_statement p o
naming-as-before p none h = refl
naming-as-before p (some w) h =
    let ds = declarations p in
    let env = environment_of ds [] in
    let x : Names Plain w = h.has w refl in
    ap (λ (v : Written). elim (again ds v) [ true ↦ fault 4 | false ↦ judge_resolved p (resolved env v) ]) (in-no-blocks w)
    ∙ ap (λ (j : Judged). elim (again ds w) [ true ↦ fault 4 | false ↦ j ])
    (resolving-as-before p (resolved env w) (resolved-short env w x)
    ∙ ap (before.judge_resolved p) (resolved-same Plain env (before.environment_of ds) (names-as-before ds) w x))

-- ---- a row of statements

module _ (at : ℕ) (inner : Forms) (e : is_block inner ≡ false) where
  -- so nothing in it is a statement of its own
  one-scoped : (after : Forms) → scoped_in [] (part at inner after) ≡ scoped at [] inner ∷ scoped_in [] after
  unfolding scoped_in
  one-scoped after =
      ap (λ (o : Option Name). scoped at [] inner ∷ (elim o [ none ↦ [] | some b ↦ scoped_in (b ∷ []) inner ] ++ scoped_in [] after)) (no_block inner e)

  -- and it is tried as a statement
  judged-as-before : (xs : List Scoped) (p : Policy) → Words Plain inner → judge xs p (scoped at [] inner) ≡ before.judge_statement p (written inner)
  unfolding judge
  judged-as-before xs p x = rw e (naming-as-before p (written inner) (written-names Plain inner x))

-- by induction over the row, whatever was read before it
row-as-before : (f : Forms) (xs : List Scoped) (p : Policy) → blockless f ≡ true → Words Plain f → read_from xs (scoped_in [] f) p ≡ before.read_from f p
unfolding scoped_in read_from before.read_from blockless
row-as-before closed xs p h x = refl
row-as-before ended xs p h x = refl
row-as-before (word at w after) xs p h x = row-as-before after xs p h x.1
row-as-before (part at inner after) xs p h x =
    let both = both_true (not (is_block inner)) (blockless after) h in
    let e = not-true (is_block inner) both.0 in
    ap (λ (ys : List Scoped). read_from xs ys p) (one-scoped at inner e after)
    ∙ ap here (judged-as-before at inner e xs p x.0)
    ∙ go (before.judge_statement p (written inner)) (λ q. row-as-before after (xs ++ (scoped at [] inner ∷ [])) q both.1 x.1)
  where
    -- what today's reading makes of the statement's answer
    here : Judged → Read
    here j = elim j [
      | reads s ↦ read_from (xs ++ (scoped at [] inner ∷ [])) (scoped_in [] after) (p ++ (record { place = at; says = s } ∷ []))
      | opens ↦ read_from (xs ++ (scoped at [] inner ∷ [])) (scoped_in [] after) p
      | fault n ↦ refused n at
    ]

    go : (j : Judged) → ((q : Policy) → read_from (xs ++ (scoped at [] inner ∷ [])) (scoped_in [] after) q ≡ before.read_from after q)
        → here j ≡ elim j [
          | reads s ↦ before.read_from after (p ++ (record { place = at; says = s } ∷ []))
          | opens ↦ before.read_from after p
          | fault n ↦ refused n at
        ]
    go (reads s) ih = ih (p ++ (record { place = at; says = s } ∷ []))
    go opens ih = ih p
    go (fault n) ih = refl

-- ---- the text

-- the row is read only where the scan is clean
text-as-before : (t : List ℕ) → dotless t ≡ true → blockless (forms_before t) ≡ true → read_policy t ≡ read_before t
unfolding read_policy read_before
text-as-before t e h =
    go (scan t) refl
    ∙ ap (λ (s : Scanned). after_scan s (before.read_from (forms_of t) [])) (scan-as-before t e)
    ∙ ap (λ (f : Forms). after_scan (before.scan t) (before.read_from f [])) (forms-as-before t e)
  where
    go : (s : Scanned) → scan t ≡ s → after_scan s (read_from [] (scoped_in [] (forms_of t)) []) ≡ after_scan s (before.read_from (forms_of t) [])
    go (Err ScanFault.TooLong) f = refl
    go (Err (ScanFault.Wrong place)) f = refl
    go (Ok _) f = row-as-before (forms_of t) [] [] (ap blockless (forms-as-before t e) ∙ h) (text-words t e f)

-- W-203 changes nothing for texts without dots and blocks
pub as_before : AsBefore
as_before = record { words = λ w e. (reserved-alone w e, part-is-name w e); splits = tokens-as-before; reads = text-as-before }
