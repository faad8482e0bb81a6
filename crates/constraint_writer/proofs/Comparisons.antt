-- The row of a comparison, by its three words. Assumes nothing.
use mathlib.Core.Path.{◌≡◌, refl, sym, ap, ◌∙◌}
use mathlib.Core.Bool.{Bool, true, false, not, ◌&&◌, ◌||◌}
use mathlib.Core.List.{List, [], ◌∷◌}
use mathlib.Core.Option.{Option, none, some}
use Prim.Native.Nat.{ℕ, ◌+◌, ◌-◌}
use native.Mathlib.Omega.{arith}
use lib.Dec.{eqb}
use Rattle.std.specs.Prelude as prelude
use Rattle.std.specs.Prelude.{None, Some}
use Rattle.std.proofs.lemmas.Option.{none-some, same_Some}
use lib.ListN.{take, drop}
use types.Run.{OneOf}
use denote.Enum.Declared.{tag_of}
use Rattle.lexer.specs.Forms.{Forms, closed, ended, word, part, frames_at, trim}
use Rattle.policy.specs.Basics.{Name, ◌>>=◌, given}
use Rattle.policy.specs.Words.{is_reserved, is_plain, op_of, three_sides, Component, component_of}
use Rattle.policy.specs.Statements.{Family, Side, source, target, process, Op, Reference, thing, attribute, Constraint, sides_e, name_e, need}
use Rattle.policy.specs.Grammar.{are_sides, is_roles, compared, comparison}
use Rattle.policy.specs.Names.{refer, Environment}
use Rattle.policy.specs.Reading.{refer_e}
use Rattle.policy.specs.Rows.{Row, row, comp_code, op_code, rows_of}
use Rattle.policy.proofs.Options.{given-some}
use Rattle.words.specs.Numbers.{word_of}
use Rattle.words.proofs.Meaning.{component-number}
use Rattle.items.proofs.Frames.{FramesSeen}
use Rattle.items.specs.Looks.{item_at}
use Rattle.items.specs.declared.Item.{Item}
use Rattle.items.proofs.Frames.{here_of, around-of, closes}
use Rattle.items.proofs.Items.{Alike, alike-here}
use Rattle.items.specs.contracts.Item.{the_type}
use Rattle.scopes.specs.Symbols.{Symbols}
use Rattle.constraint_writer.specs.ExpressionWrites.{Wrote, Writes}
use Rattle.constraint_writer.specs.RowFields.{code_of, operator_of, operand_of, Compares}
use Rattle.constraint_writer.specs.declared.Operand.{Operand}
use Rattle.constraint_writer.proofs.RowBytes.{all-kept}
use Rattle.constraint_writer.proofs.WrittenRows.{rows_named, never, settled, unsettled}

-- ---- the row

abbrev row_by : ℕ → ℕ → prelude.Option Operand → Option (List Row)
row_by o c None = none
row_by o c (Some x) = some (row x.kind c o x.number ∷ [])

-- a comparison by the meanings of its first two words, its last word and whether that is a component
abbrev by_words : Option Op → Option Component → Name → Option Component → Option (Constraint Name)
by_words o x u y = o >>= λ o. x >>= λ x. compared o x u y

side-first : (x y : Component) (b : Bool) → are_sides x y && b ≡ true → x.side ≡ source
side-first x y b e = go x.side refl
  where
    false-true : {X : Type 0} → false ≡ true → X
    false-true d = absurd (let z : ◌≡◌ {A = ℕ} 0 1 = cc in omega arith)

    go : (s : Side) → x.side ≡ s → s ≡ source
    go source d = refl
    go target d = false-true (rw d at e)
    go process d = false-true (rw d at e)

module _ (env : Environment) (u : Name) where
  of-sides : (o : Op) (x y : Component) (e : Constraint Name) → compared o x u (some y) ≡ some e
      → rows_named env e ≡ row_by (op_code o) (comp_code x.family x.side) (Some (record { kind = 3; number = 0 }))
  unfolding refer_e rows_of
  of-sides o x y e h =
      let b = given-some (are_sides x y && (is_plain o || is_roles x.family)) (sides_e x.family o) e h in
      rw (side-first x y (is_plain o || is_roles x.family) b.0) (ap (rows_named env) (sym b.1))

  of-name : (o : Op) (x : Component) (e : Constraint Name) → compared o x u none ≡ some e
      → rows_named env e ≡ row_by (op_code o) (comp_code x.family x.side) (operand_of none (refer env x.family u))
  unfolding refer_e rows_of
  of-name o x e h = go (not (is_reserved u)) h
    where
      by-reference : (r : Option Reference) → refer env x.family u ≡ r
          → rows_named env (name_e x.family x.side o u) ≡ row_by (op_code o) (comp_code x.family x.side) (operand_of none r)
      by-reference none p = rw p
      by-reference (some (thing n)) p = rw p
      by-reference (some (attribute n)) p = rw p

      go : (b : Bool) → (given b u >>= λ n. given (is_plain o) (name_e x.family x.side o n)) ≡ some e
          → rows_named env e ≡ row_by (op_code o) (comp_code x.family x.side) (operand_of none (refer env x.family u))
      go false g = never g
      go true g =
          ap (rows_named env) (sym (given-some (is_plain o) (name_e x.family x.side o u) e g).1) ∙ by-reference (refer env x.family u) refl

  row_of : (o : Option Op) (x y : Option Component) (e : Constraint Name) → by_words o x u y ≡ some e
      → {operator side : ℕ} → Some operator ≡ operator_of o → Some side ≡ code_of x
      → (k : prelude.Option Operand) → ((f : Family) (s : Side) → side ≡ comp_code f s → k ≡ operand_of y (refer env f u))
      → rows_named env e ≡ row_by operator side k
  row_of none x y e h p q k g = never h
  row_of (some o) none y e h p q k g = never h
  row_of (some o) (some x) (some y) e h {operator} {side} p q k g =
      let is = same_Some side (comp_code x.family x.side) q in
      rw (same_Some operator (op_code o) p, is) (of-sides o x y e h ∙ ap (row_by (op_code o) (comp_code x.family x.side)) (sym (g x.family x.side is)))
  row_of (some o) (some x) none e h {operator} {side} p q k g =
      let is = same_Some side (comp_code x.family x.side) q in
      rw (same_Some operator (op_code o) p, is) (of-name o x e h ∙ ap (row_by (op_code o) (comp_code x.family x.side)) (sym (g x.family x.side is)))

-- "a comparison 1"
need-of : (o : Option Op) (x : Option Component) (u : Name) (y : Option Component) (e : Constraint Name) → by_words o x u y ≡ some e → 1 ≡ need e
unfolding need
need-of none x u y e h = never h
need-of (some o) none u y e h = never h
need-of (some o) (some x) u (some y) e h = ap need (given-some (are_sides x y && (is_plain o || is_roles x.family)) (sides_e x.family o) e h).1
need-of (some o) (some x) u none e h = go (not (is_reserved u)) h
  where
    go : (b : Bool) → (given b u >>= λ n. given (is_plain o) (name_e x.family x.side o n)) ≡ some e → 1 ≡ need e
    go false g = never g
    go true g = ap need (given-some (is_plain o) (name_e x.family x.side o u) e g).1

-- ---- rows that are no comparison

nothing : {A B : Type 0} (o : Option A) (f : A → Option B) → ((a : A) → f a ≡ none) → (o >>= f) ≡ none
nothing none f h = refl
nothing (some a) f h = h a

no-op : (o : Option Op) → None ≡ operator_of o → o ≡ none
no-op none h = refl
no-op (some o) h = absurd (none-some (op_code o) h)

no-side : (x : Option Component) → None ≡ code_of x → x ≡ none
no-side none h = refl
no-side (some x) h = absurd (none-some (comp_code x.family x.side) h)

module _ (w : Name) where
  no-first : Alike (comparison three_sides w) (λ f. none) (1 ∷ 2 ∷ 3 ∷ [])
  no-first = (tt, λ x f g. nothing (op_of w) _ (λ o. refl), nothing (op_of w) _ (λ o. refl), nothing (op_of w) _ (λ o. refl))

  module _ (s : ℕ) (v : Name) where
    no_second : Alike (λ f. comparison three_sides w (word s v f)) (λ f. none) (1 ∷ 2 ∷ 3 ∷ [])
    no_second = (tt, λ x f g. nothing (op_of w) _ (λ o. refl), nothing (op_of w) _ (λ o. refl), nothing (op_of w) _ (λ o. refl))

    module _ (r : ℕ) (u : Name) where
      no-close : Alike (λ f. comparison three_sides w (word s v (word r u f))) (λ f. none) (0 ∷ 1 ∷ 3 ∷ [])
      no-close = (λ a b f. nothing (op_of w) _ (λ o. refl), λ x f g. nothing (op_of w) _ (λ o. refl), tt, nothing (op_of w) _ (λ o. refl))

-- what is where a comparison has its first word, its second, its close
abbrev tag : Item → ℕ
tag k = tag_of the_type k

pub first-missing : (t : List ℕ) (at : ℕ) (w : Name) {i : Item} → i ≡ item_at t at → OneOf (1 ∷ 2 ∷ 3 ∷ []) (tag i) → comparison three_sides w (frames_at t at).here ≡ none
first-missing t at w {i} d h = alike-here (comparison three_sides w) (λ f. none) t at i (1 ∷ 2 ∷ 3 ∷ []) (no-first w) d h

module _ {t : List ℕ} {at : ℕ} (w : Name) where
  module _ {s n x p : ℕ} (l : FramesSeen t at (Item.Word s n x p)) where
    pub second-missing : {i : Item} → i ≡ item_at t p → OneOf (1 ∷ 2 ∷ 3 ∷ []) (tag i) → comparison three_sides w (frames_at t at).here ≡ none
    second-missing {i} d h =
        let v = take n (drop s t) in
        ap (comparison three_sides w) (here_of l) ∙ alike-here (λ f. comparison three_sides w (word s v f)) (λ f. none) t p i (1 ∷ 2 ∷ 3 ∷ []) (no_second w s v) d h

    pub close-missing : {r k y q : ℕ} → FramesSeen t p (Item.Word r k y q) → {i : Item} → i ≡ item_at t q → OneOf (0 ∷ 1 ∷ 3 ∷ []) (tag i)
        → comparison three_sides w (frames_at t at).here ≡ none
    close-missing {r} {k} {y} {q} l2 {i} d h =
        let v = take n (drop s t) in
        let u = take k (drop r t) in
        ap (comparison three_sides w) (here_of l ∙ ap (word s v) (here_of l2))
        ∙ alike-here (λ f. comparison three_sides w (word s v (word r u f))) (λ f. none) t q i (0 ∷ 1 ∷ 3 ∷ []) (no-close w s v r u) d h

-- ---- a cut changes nothing in a comparison

cut-alike : {B : Type 0} (q : Forms → B) (b : B) → q ended ≡ b → ((x : ℕ) (f g : Forms) → q (part x f g) ≡ b) → (x : ℕ) (f g : Forms) (n : ℕ)
    → q (trim (part x f g) n) ≡ q (part x f g)
unfolding trim
cut-alike q b e h x f g n = go (eqb n 0)
  where
    go : (c : Bool) → q (elim c [ true ↦ ended | false ↦ part x (trim f (n - 1)) (trim g n) ]) ≡ q (part x f g)
    go true = e ∙ sym (h x f g)
    go false = h x (trim f (n - 1)) (trim g n) ∙ sym (h x f g)

pub cut-comparison : (w : Name) (f : Forms) (n : ℕ) → comparison three_sides w (trim f n) ≡ comparison three_sides w f
unfolding trim
cut-comparison w closed n = refl
cut-comparison w ended n = refl
cut-comparison w (part x f g) n = cut-alike (comparison three_sides w) none (no-first w).3 (no-first w).1 x f g n
cut-comparison w (word s v closed) n = refl
cut-comparison w (word s v ended) n = refl
cut-comparison w (word s v (part x f g)) n = cut-alike (λ f. comparison three_sides w (word s v f)) none (no_second w s v).3 (no_second w s v).1 x f g n
cut-comparison w (word s v (word r u closed)) n = refl
cut-comparison w (word s v (word r u ended)) n = refl
cut-comparison w (word s v (word r u (word a b f))) n = refl
cut-comparison w (word s v (word r u (part x f g))) n =
    cut-alike (λ f. comparison three_sides w (word s v (word r u f))) none (no-close w s v r u).3 (no-close w s v r u).1 x f g n

-- ---- two words and a close

module _ {t : List ℕ} {at s n x p r k y q j : ℕ} (l : FramesSeen t at (Item.Word s n x p)) (l2 : FramesSeen t p (Item.Word r k y q))
    (l3 : FramesSeen t q (Item.Close j)) (w : Name) where
  in_words : comparison three_sides w (frames_at t at).here ≡ by_words (op_of w) (component_of three_sides (take n (drop s t))) (take k (drop r t)) (component_of three_sides (take k (drop r t)))
  in_words = ap (comparison three_sides w) (here_of l ∙ ap (word s (take n (drop s t))) (here_of l2 ∙ ap (word r (take k (drop r t))) (here_of l3)))

  component-is : component_of three_sides (take n (drop s t)) ≡ component_of three_sides (word_of x)
  component-is = component-number (take n (drop s t)) three_sides ∙ ap (λ (i : ℕ). component_of three_sides (word_of i)) l.ahead.2

  component-is-2 : component_of three_sides (take k (drop r t)) ≡ component_of three_sides (word_of y)
  component-is-2 = component-number (take k (drop r t)) three_sides ∙ ap (λ (i : ℕ). component_of three_sides (word_of i)) l2.ahead.2

  -- the first word of the expression is no operator of a comparison
  pub operator-missing : None ≡ operator_of (op_of w) → comparison three_sides w (frames_at t at).here ≡ none
  operator-missing h =
      in_words ∙ ap (λ (o : Option Op). by_words o (component_of three_sides (take n (drop s t))) (take k (drop r t)) (component_of three_sides (take k (drop r t))))
      (no-op (op_of w) h)

  -- the word after it is no component
  pub component-missing : None ≡ code_of (component_of three_sides (word_of x)) → comparison three_sides w (frames_at t at).here ≡ none
  component-missing h =
      in_words
      ∙ ap (λ (y : Option Component). by_words (op_of w) y (take k (drop r t)) (component_of three_sides (take k (drop r t))))
      (component-is ∙ no-side (component_of three_sides (word_of x)) h)
      ∙ nothing (op_of w) _ (λ o. refl)

  module _ {symbols : List ℕ} {operator side : ℕ} (b : Some operator ≡ operator_of (op_of w)) (a : Some side ≡ code_of (component_of three_sides (word_of x))) where
    one-row : {o : prelude.Option Operand} → Compares (take k (drop r t)) y side symbols o → (env : Environment) (e : Constraint Name) → Symbols symbols env
        → comparison three_sides w (frames_at t at).here ≡ some e → rows_named env e ≡ row_by operator side o
    one-row {o} c env e h g =
        row_of env (take k (drop r t)) (op_of w) (component_of three_sides (take n (drop s t))) (component_of three_sides (take k (drop r t))) e (sym in_words ∙ g)
        b (a ∙ ap code_of (sym component-is)) o
        (λ f i d. c.operand env f i h d ∙ ap (λ (z : Option Component). operand_of z (refer env f (take k (drop r t)))) (sym component-is-2))

    pub not-declared : {before : List ℕ} {first : ℕ} → Compares (take k (drop r t)) y side symbols None
        → Writes t at (comparison three_sides w (frames_at t at).here) symbols before before first None
    not-declared {before} {first} c = record {
      kept = all-kept before first;
      reads = tt;
      needs = λ e g. tt;
      rows = λ env e h g. unsettled env e before before first (one-row c env e h g);
    }

    pub compared-row : {before after : List ℕ} {first : ℕ} {o : Operand} → Compares (take k (drop r t)) y side symbols (Some o)
        → Wrote before after first (row o.kind side operator o.number ∷ [])
        → Writes t at (comparison three_sides w (frames_at t at).here) symbols before after first (Some (record { at = j; row = first + 1; need = 1 }))
    compared-row {before} {after} {first} {o} c u = record {
      kept = u.kept;
      reads = record {
        rest = sym (closes at l3 (sym (around-of l ∙ around-of l2)));
        less = omega (arith, l.ahead.0, l2.ahead.0, l3.ahead.0);
        fits = l3.ahead.1;
        some-row = omega arith;
        few-rows = omega (arith, l.ahead.0, l2.ahead.0, l3.ahead.0);
        few-values = omega (arith, l.ahead.0, l2.ahead.0, l3.ahead.0);
      };
      needs = λ e g. need-of (op_of w) (component_of three_sides (take n (drop s t))) (take k (drop r t)) (component_of three_sides (take k (drop r t))) e (sym in_words ∙ g);
      rows = λ env e h g.
          settled env e before after first (record { at = j; row = first + 1; need = 1 }) (row o.kind side operator o.number ∷ []) (one-row c env e h g) refl u;
    }
