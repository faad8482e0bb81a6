-- `items::names_form` meets its contract: what is left of the row decides, with the names so far. Assumes nothing.
use mathlib.Core.Path.{◌≡◌, refl, sym, ap, ◌∙◌}
use mathlib.Core.Bool.{true, false}
use mathlib.Core.List.{List, [], ◌∷◌}
use Prim.Native.Nat.{ℕ}
use native.Mathlib.Omega.{arith}
use types.Run.{OneOf, miss}
use denote.Enum.Declared.{tag_of}
use Rattle.lexer.specs.Forms.{frames_at}
use Rattle.lexer.specs.declared.Token.{Token}
use Rattle.lexer.specs.contracts.Token.{the_type}
use Rattle.words.specs.declared.NameKind.{NameKind}
use Rattle.items.specs.Looks.{item_of}
use Rattle.items.specs.declared.Wanted.{Wanted}
use Rattle.items.proofs.Items.{Looked, reads}
use Rattle.items.proofs.Rows.{refuse, at-close}
use Rattle.items.proofs.Counts.{word-name, close-name, end-name, part-name}
use Rattle.items.proofs.names_form.Invariants.{left}
use Rattle.items.proofs.names_form.Goals as goal

-- neither a part nor the end goes on with names
no_name : {t : List ℕ} {i : ℕ} (kind : NameKind) (v : Wanted) (n : ℕ) (k : Token) → Looked t i (item_of t k) → OneOf (0 ∷ 3 ∷ []) (tag_of the_type k)
    → left kind v n (frames_at t i).here ≡ false
no_name kind v n (Token.Open p) l h = ap (left kind v n) l.here ∙ part-name kind v n _ _ _
no_name kind v n Token.End l h = ap (left kind v n) l.here ∙ end-name kind v n
no_name kind v n (Token.Close p) l h = absurd (miss (0 ∷ 3 ∷ []) 1 tt h)
no_name kind v n (Token.Word s m) l h = absurd (miss (0 ∷ 3 ∷ []) 2 tt h)

pub loop-start-init : goal.loop-start-init
loop-start-init c = (omega arith, refl, refl)

pub is_name-requires : goal.is_name-requires
is_name-requires c = (reads c.next.ensures c.in-Word.is).ahead.3

pub returns-then-not-is_name : goal.returns-then-not-is_name
returns-then-not-is_name c =
    let kind = c.args.kind in
    let l = reads c.next.ensures c.in-Word.is in
    refuse
    (sym c.loop-start.invariant.2 ∙ ap (left kind _ _) l.here ∙ word-name kind _ _ _ _ _ false (sym c.if-not-is_name.true ∙ c.is_name.ensures))

pub overflow_add-i : goal.overflow_add-i
overflow_add-i c =
    let l = reads c.next.ensures c.in-Word.is in
    omega (arith, l.ahead.1)

pub overflow_add-count : goal.overflow_add-count
overflow_add-count c =
    let l = reads c.next.ensures c.in-Word.is in
    omega (arith, c.loop-start.invariant.0, l.ahead.0, l.ahead.1)

pub loop-start-smaller : goal.loop-start-smaller
loop-start-smaller c =
    let l = reads c.next.ensures c.in-Word.is in
    omega (arith, l.ahead.0, l.ahead.1)

pub loop-start-preserved : goal.loop-start-preserved
loop-start-preserved c =
    let kind = c.args.kind in
    let l = reads c.next.ensures c.in-Word.is in
    let named = sym c.if-not-is_name.false ∙ c.is_name.ensures in (
      omega (arith, c.loop-start.invariant.0, l.ahead.0),
      sym l.end ∙ c.loop-start.invariant.1,
      sym (ap (left kind _ _) l.here ∙ word-name kind _ _ _ _ _ true named) ∙ c.loop-start.invariant.2,
    )

pub overflow_add-place : goal.overflow_add-place
overflow_add-place c =
    let l = reads c.next.ensures c.in-Close.is in
    omega (arith, l.ahead.1)

pub returns-in-Close : goal.returns-in-Close
returns-in-Close c =
    let kind = c.args.kind in
    let l = reads c.next.ensures c.in-Close.is in
    at-close _ _ c.ended.ensures
    (sym c.loop-start.invariant.2 ∙ ap (left kind _ _) l.here ∙ close-name kind _ _)
    (sym c.loop-start.invariant.1 ∙ l.end)
    (omega (arith, c.loop-start.invariant.0, l.ahead.0))
    l.ahead.1

pub returns-in-Open : goal.returns-in-Open
returns-in-Open c =
    let kind = c.args.kind in
    refuse (sym c.loop-start.invariant.2 ∙ no_name kind _ _ c.next.result (reads c.next.ensures refl) c.in-Open.in-Open-own.keys3)
