-- `words::is_name` meets its contract: a word without dots is its only part, and one with dots is no part. Assumes nothing.
use mathlib.Core.Path.{◌≡◌, sym, ap, ◌∙◌}
use mathlib.Core.Bool.{Bool, true, false, not}
use mathlib.Core.List.{List}
use Prim.Native.Nat.{ℕ, ◌+◌, ◌-◌}
use native.Mathlib.Omega.{arith}
use lib.ListN.{take, drop}
use Rattle.policy.specs.Basics.{Name, is_in}
use Rattle.policy.specs.Words.{reserved, is_reserved, dotless}
use Rattle.policy.proofs.Dotless.{reserved-alone}
use Rattle.words.specs.Numbers.{may_be}
use Rattle.words.specs.declared.NameKind.{NameKind}
use Rattle.words.proofs.is_name.Goals as goal

-- a word without dots may be a name of either kind if it is not reserved
alone : (k : NameKind) (w : Name) (r : Bool) → dotless w ≡ true → r ≡ is_in w reserved → not r ≡ may_be k w
alone NameKind.Name w r d e = ap not (e ∙ sym (reserved-alone w d))
alone NameKind.Part w r d e = rw d (ap not (e ∙ sym (reserved-alone w d)))

-- one with dots, if it has no reserved part and may have parts
dotted : (k : NameKind) (w : Name) (r : Bool) → k ≡ NameKind.Name → r ≡ is_reserved w → not r ≡ may_be k w
dotted k w r n e = rw n (ap not e)

no_part : (k : NameKind) (w : Name) → k ≡ NameKind.Part → dotless w ≡ false → false ≡ may_be k w
no_part k w n d = rw (n, d)

-- the bytes that are lent
lent : (k : NameKind) (t : List ℕ) (start len : ℕ) → may_be k (take ((start + len) - start) (drop start t)) ≡ may_be k (take len (drop start t))
lent k t start len =
    let e : (start + len) - start ≡ len = omega arith in
    ap (λ (n : ℕ). may_be k (take n (drop start t))) e

pub returns-then-is_dotless : goal.returns-then-is_dotless
returns-then-is_dotless c =
    let a = c.args in
    alone a.kind _ _ (sym c.is_dotless.ensures ∙ c.if-is_dotless.true) c.is_reserved_word.ensures ∙ lent a.kind a.text.now a.start a.len

pub returns-in-Name : goal.returns-in-Name
returns-in-Name c =
    let a = c.args in
    dotted a.kind _ _ c.in-Name.is c.has_reserved_part.ensures ∙ lent a.kind a.text.now a.start a.len

pub returns-in-Part : goal.returns-in-Part
returns-in-Part c =
    let a = c.args in
    no_part a.kind _ c.in-Part.is (sym c.is_dotless.ensures ∙ c.if-is_dotless.false)
    ∙ lent a.kind a.text.now a.start a.len
