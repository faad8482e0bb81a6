-- THE PLACE OF A REFUSAL 1 TO 9 IS AT MOST 65,535: it lies in the text, or at its end. Assumes nothing.
use Rattle.lexer.specs.declared.ScanFault.{ScanFault}
use Rattle.std.specs.Prelude.{Ok, Err}
use Prim.Native.Nat.{ℕ, ◌+◌, ◌≤◌}
use native.Mathlib.Omega.{arith}
use mathlib.Core.Path.{◌≡◌, refl, sym, ap, subst}
use mathlib.Core.Bool.{Bool, true, false, cond}
use mathlib.Core.List.{List, [], ◌∷◌, ◌++◌}
use mathlib.Core.Option.{Option, none, some}
use lib.Dec.{eqb, ltb}
use lib.ListN.{length, take, drop}
use borrow.Author.Tests.{ltb-false}
use Rattle.lexer.specs.declared.ByteClass.{ByteClass}
use Rattle.lexer.specs.declared.ByteClass.TheVariants.{Blank, LineFeed, Comment, Open, Close, Letter, Digit, Dot, Wrong}
use Rattle.lexer.specs.Class.{class_of, in_word, ends_comment, is_name}
use Rattle.lexer.specs.Scan.{Mode, between, in_comment, in_name, State, going, stopped, max_text, max_level, step_between, step, closed_at, end_of, scan_from, scan, Scanned, no_fault}
use Rattle.lexer.proofs.Clean.{clean-short}
use Rattle.lexer.specs.Forms.{forms_of}
use Rattle.policy.specs.Basics.{any, ◌>>=◌, given, each, All}
use Rattle.policy.specs.Statements.{Family, users, roles, types, attribute_of, Declaration, plain, class, same_sort, roletransition, Line}
use Rattle.policy.specs.Statements.{as_declaration, Policy, Transition, transition, transitions}
use Rattle.policy.specs.Grammar.{is_block}
use Rattle.policy.specs.Scopes.{Scoped, scoped_in}
use Rattle.policy.specs.Reading.{Read, policy, refused, read_policy}
use Rattle.policy.specs.Faults.{declares_a, place_of, places, on_cycle, first_cycle, family_cycle, cycle, clashes, first_clash, clash}
use Rattle.policy.specs.Outcome.{Input, accept, policy_of}
use Rattle.policy.proofs.Gathered.{OfValue, all-gather}
use Rattle.policy.proofs.IfAny.{IfAny, nothing, just, or-else}
use Rattle.policy.proofs.ByKind.{transition-says}
use Rattle.reading_laws.proofs.ReadThen.{statement_at, line_places, read-places}
use Rattle.reading_laws.proofs.FaultOrder.{RefusedFor, too_long, wrong_byte, at-statement, fault-order, fault-number}
use Rattle.reading_laws.proofs.OpensAt.{OpensAt, forms-open, ScopedOpens, scoped-open, fault-place, opens-within}
use Rattle.reading_laws.proofs.LongerText.{read-clean}

-- FAULT 2

-- a state at a place knows of no later place
abbrev StateIn : State → ℕ → Type 0
StateIn (going between level) at = Unit {0}
StateIn (going in_comment level) at = Unit {0}
StateIn (going (in_name first len) level) at = first ≤ at
StateIn (stopped place) at = place ≤ at

either : (b : Bool) (x y : State) (at : ℕ) → StateIn x at → StateIn y at → StateIn (cond b x y) at
either true x y at h k = h
either false x y at h k = k

between_in : (level at : ℕ) (k : ByteClass) → StateIn (step_between level at k) (at + 1)
between_in level at Blank = tt
between_in level at LineFeed = tt
between_in level at Comment = tt
between_in level at Open = either (ltb level max_level) (going between (level + 1)) (stopped at) (at + 1) tt (omega arith)
between_in level at Close = either (eqb level 0) (stopped at) (going between _) (at + 1) (omega arith) tt
between_in level at Letter = either (eqb level 0) (stopped at) (going (in_name at 1) level) (at + 1) (omega arith) (omega arith)
between_in level at Digit = omega arith
between_in level at Dot = either (eqb level 0) (stopped at) (going (in_name at 1) level) (at + 1) (omega arith) (omega arith)
between_in level at Wrong = omega arith

comment-in : (b : Bool) (level at : ℕ) → StateIn (going (cond b between in_comment) level) at
comment-in true level at = tt
comment-in false level at = tt

step_in : (text : List ℕ) (m : Mode) (level at : ℕ) (k : ByteClass) → StateIn (going m level) at → StateIn (step text m level at k) (at + 1)
step_in text between level at k h = between_in level at k
step_in text in_comment level at k h = comment-in (ends_comment k) level (at + 1)
step_in text (in_name first len) level at k h =
    either (in_word k) (going (in_name first (len + 1)) level) _ (at + 1) (omega arith)
    (either (is_name (take len (drop first text))) (step_between level at k) (stopped first) (at + 1) (between_in level at k) (omega arith))

abbrev place_in : Scanned → ℕ
place_in (Ok _) = 0
place_in (Err ScanFault.TooLong) = 0
place_in (Err (ScanFault.Wrong place)) = place

closed_in : (level at : ℕ) → place_in (closed_at level at) ≤ at
closed_in level at = by (eqb level 0)
  where
    by : (b : Bool) → place_in (cond b no_fault (Err (ScanFault.Wrong at))) ≤ at
    by true = omega arith
    by false = omega arith

end-in : (text : List ℕ) (m : Mode) (level at : ℕ) → StateIn (going m level) at → place_in (end_of text m level at) ≤ at
end-in text between level at h = closed_in level at
end-in text in_comment level at h = closed_in level at
end-in text (in_name first len) level at h = by (is_name (take len (drop first text)))
  where
    by : (b : Bool) → place_in (cond b (closed_at level at) (Err (ScanFault.Wrong first))) ≤ at
    by true = closed_in level at
    by false = h

scan-from-in : (text bs : List ℕ) (s : State) (at : ℕ) → StateIn s at → place_in (scan_from text bs s at) ≤ at + length bs
unfolding scan_from
scan-from-in text [] (stopped place) at h = omega arith
scan-from-in text [] (going m level) at h = omega (arith, end-in text m level at h)
scan-from-in text (b ∷ bs) (stopped place) at h = omega arith
scan-from-in text (b ∷ bs) (going m level) at h = omega (arith, scan-from-in text bs (step text m level at (class_of b)) (at + 1) (step_in text m level at (class_of b) h))

-- the place of a fault 2 is in the text, or at its end
wrong-in : (text : List ℕ) (at : ℕ) → scan text ≡ Err (ScanFault.Wrong at) → at ≤ max_text
unfolding scan
wrong-in text at e = by (ltb max_text (length text)) refl e
  where
    by : (b : Bool) → ltb max_text (length text) ≡ b → cond b (Err ScanFault.TooLong) (scan_from text text (going between 0) 0) ≡ Err (ScanFault.Wrong at) → at ≤ max_text
    by true l k = let z : ◌≡◌ {A = ℕ} 0 1 = cc in absurd (omega arith)
    by false l k = omega (arith, ltb-false max_text (length text) l, scan-from-in text text (going between 0) 0 tt, ap place_in k)

-- FAULTS 3 TO 7

clean-in : (text : List ℕ) (at : ℕ) → scan text ≡ no_fault → OpensAt text at → at ≤ max_text
clean-in text at e o = omega (arith, opens-within text at o, clean-short text e)

pub read-place : (text : List ℕ) (n at : ℕ) → read_policy text ≡ refused n at → at ≤ max_text
read-place text n at e = by (fault-order text n at e)
  where
    by : {m b : ℕ} → RefusedFor text m b → b ≤ max_text
    by (too_long e) = omega arith
    by (wrong_byte b e) = wrong-in text b e
    by (at-statement m b e s) = clean-in text b e (fault-place text m b (fault-number s.faulty).0 (at-statement m b e s))

-- FAULTS 8 AND 9

module _ (P : ℕ → Type 0) where
  abbrev LineAt : Line → Type 0
  LineAt l = P l.place

  -- the places of statements are among those of statements and blocks
  statement-at : (x : Scoped) → P x.place → OfValue P (statement_at x)
  statement-at x h = by (is_block x.form)
    where
      by : (b : Bool) → OfValue P (cond b none (some x.place))
      by true = tt
      by false = h

  lines_at : (p : Policy) → All P (line_places p) → All LineAt p
  unfolding each
  lines_at [] h = tt
  lines_at (l ∷ ls) h = (h.0, lines_at ls h.1)

  declared-at : (f : Family) (at : ℕ) (d : Declaration) → P at → OfValue P (declares_a f at d)
  declared-at f at (plain s w) h = by (same_sort s (attribute_of f))
    where
      by : (b : Bool) → OfValue P (given b at)
      by true = h
      by false = tt
  declared-at f at (class w ps) h = tt

  place_at : (f : Family) (l : Line) → LineAt l → OfValue P (place_of f l)
  place_at f l h = by (as_declaration l.says)
    where
      by : (o : Option Declaration) → OfValue P (o >>= declares_a f l.place)
      by none = tt
      by (some d) = declared-at f l.place d h

  moves-at : (l : Line) → LineAt l → OfValue (λ (t : Transition). P t.place) (transition l)
  moves-at l h = by (transition l) (transition-says l.place l.says)
    where
      by : (o : Option Transition) → IfAny (λ t. (l.says ≡ roletransition t.role t.type t.class t.new) × (t.place ≡ l.place)) o
          → OfValue (λ (t : Transition). P t.place) o
      by none k = tt
      by (some t) k = subst P (sym (k.has t refl).1) h

  first-cycle-at : (p : Policy) (f : Family) (a : ℕ) (ats : List ℕ) → All P ats → IfAny P (first_cycle p f a ats)
  unfolding first_cycle
  first-cycle-at p f a [] h = nothing
  first-cycle-at p f a (at ∷ ats) h = by (on_cycle p f a) (first-cycle-at p f (a + 1) ats h.1)
    where
      by : (b : Bool) → IfAny P (first_cycle p f (a + 1) ats) → IfAny P (elim b [ true ↦ some at | false ↦ first_cycle p f (a + 1) ats ])
      by true k = just h.0
      by false k = k

  cycle-at : (p : Policy) → All LineAt p → IfAny P (cycle p)
  unfolding cycle places
  cycle-at p h = or-else _ _ (of users) (or-else _ _ (of roles) (of types))
    where
      of : (f : Family) → IfAny P (family_cycle p f)
      of f = first-cycle-at p f 0 (places p f) (all-gather P LineAt (place_of f) (place_at f) p h)

  first-clash-at : (p : Policy) (earlier ts : List Transition) → All (λ (t : Transition). P t.place) ts → IfAny P (first_clash p earlier ts)
  unfolding first_clash
  first-clash-at p earlier [] h = nothing
  first-clash-at p earlier (t ∷ ts) h = by (any (clashes p t) earlier) (first-clash-at p (earlier ++ (t ∷ [])) ts h.1)
    where
      by : (b : Bool) → IfAny P (first_clash p (earlier ++ (t ∷ [])) ts) → IfAny P (elim b [ true ↦ some t.place | false ↦ first_clash p (earlier ++ (t ∷ [])) ts ])
      by true k = just h.0
      by false k = k

  clash-at : (p : Policy) → All LineAt p → IfAny P (clash p)
  unfolding clash transitions
  clash-at p h = first-clash-at p [] (transitions p) (all-gather (λ (t : Transition). P t.place) LineAt transition moves-at p h)

-- what a refusal's place satisfies
abbrev RefusedAt : (ℕ → Type 0) → Read → Type 0
RefusedAt P (policy p) = Unit {0}
RefusedAt P (refused n at) = P at

accept-at : (P : ℕ → Type 0) (p : Policy) → IfAny P (cycle p) → IfAny P (clash p) → RefusedAt P (accept p)
unfolding accept
accept-at P p h k = by (cycle p) (clash p) h k
  where
    by : (x y : Option ℕ) → IfAny P x → IfAny P y → RefusedAt P (elim x [ some at ↦ refused 8 at | none ↦ elim y [ some at ↦ refused 9 at | none ↦ policy p ] ])
    by (some at) y h k = h.has at refl
    by none (some at) h k = k.has at refl
    by none none h k = tt

-- EVERY REFUSAL BEFORE 10
pub refusal-place : (x : Input) (n at : ℕ) → policy_of x ≡ refused n at → at ≤ max_text
unfolding policy_of each
refusal-place x n at e = by (read_policy x.text) refl e
  where
    lines : (p : Policy) → read_policy x.text ≡ policy p → All (LineAt (λ at. at ≤ max_text)) p
    lines p r =
        let clean = read-clean x.text p r in
        let xs = scoped_in [] (forms_of x.text) in
        lines_at (λ at. at ≤ max_text) p
        (subst (All (λ at. at ≤ max_text)) (sym (read-places [] xs [] p clean.1))
        (all-gather (λ at. at ≤ max_text) (ScopedOpens x.text) statement_at
        (λ y o. statement-at (λ at. at ≤ max_text) y (clean-in x.text y.place clean.0 o)) xs (scoped-open x.text [] (forms_of x.text) (forms-open x.text))))

    by : (r : Read) → read_policy x.text ≡ r → elim r [ refused n at ↦ refused n at | policy p ↦ accept p ] ≡ refused n at → at ≤ max_text
    by (refused m b) h k = let same : b ≡ at = cc in subst (λ at. at ≤ max_text) same (read-place x.text m b h)
    by (policy p) h k =
        subst (RefusedAt (λ at. at ≤ max_text)) k (accept-at (λ at. at ≤ max_text) p (cycle-at (λ at. at ≤ max_text) p (lines p h)) (clash-at (λ at. at ≤ max_text) p (lines p h)))
