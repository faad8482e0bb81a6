-- The rows of an operator's expression, operand by operand: those of the operands so far are written, those of the operands left follow, and then
-- the operator's own row. Assumes nothing.
use mathlib.Core.Path.{◌≡◌, refl, sym, ap, subst, ◌∙◌}
use mathlib.Core.List.{List, [], ◌∷◌, ◌++◌, append_assoc}
use mathlib.Core.Option.{Option, none, some, some-injective}
use Prim.Native.Nat.{ℕ, max, ◌+◌, ◌-◌, ◌<◌, ◌≤◌}
use native.Mathlib.Omega.{arith}
use lib.ListN.{length, take, drop, length-append}
use Rattle.std.specs.Prelude as prelude
use Rattle.std.specs.Prelude.{None, Some}
use Rattle.std.proofs.lemmas.Option.{none-some, same_Some}
use Rattle.lexer.specs.Forms.{Forms, Frames, closed, ended, word, part, frames_at, trim}
use Rattle.policy.specs.Basics.{Name, ◌>>=◌, more}
use Rattle.policy.specs.Words.{Connective, all_c, not_c, and_c, or_c, xor_c, expression_word, op_of, three_sides}
use Rattle.policy.specs.Statements.{Reference, Constraint, not_e, and_e, or_e, need}
use Rattle.policy.specs.Grammar.{comparison, form_e, connected, expressions, expression_in}
use Rattle.policy.specs.Reading.{refer_e}
use Rattle.policy.specs.Rows.{Row, row, rows_of}
use Rattle.policy.specs.Names.{Environment}
use Rattle.words.specs.Numbers.{word_of}
use Rattle.words.proofs.Meaning.{expression-number, op-number}
use Rattle.items.proofs.Frames.{FramesSeen}
use Rattle.items.specs.declared.Item.{Item}
use Rattle.items.proofs.Frames.{around-of, closes, by_word, by_part, by-close}
use Rattle.items.proofs.Items.{Alike}
use Rattle.scopes.specs.Symbols.{Symbols}
use Rattle.constraint_writer.specs.ExpressionWrites.{Kept, Wrote, Writes}
use Rattle.constraint_writer.specs.RowFields.{kind_of}
use Rattle.constraint_writer.specs.declared.RowsWritten.{RowsWritten}
use Rattle.constraint_writer.proofs.RowBytes.{all-kept, kept_on, none-wrote, wrote_on}
use Rattle.constraint_writer.proofs.WrittenRows.{rows_named, never, settled, unsettled, Settled, settles, unsettles}
use Rattle.constraint_writer.proofs.Comparisons.{cut-comparison}
use Rattle.constraint_writer.proofs.StackNeeds.{need_left, none_yet, part-needs, close-needs}

-- ---- the rows left

-- some rows before the others, if those are there
abbrev pub after : List Row → Option (List Row) → Option (List Row)
after d none = none
after d (some rs) = some (d ++ rs)

after-after : (d a : List Row) (r : Option (List Row)) → after d (after a r) ≡ after (d ++ a) r
after-after d a none = refl
after-after d a (some rs) = ap some (sym (append_assoc d a rs))

-- the rows of some operands, and then their operator's row
unfoldable pub rows_left : Environment → List (Constraint Name) → Row → Option (List Row)
rows_left env [] o = some (o ∷ [])
rows_left env (e ∷ es) o = rows_named env e >>= λ a. after a (rows_left env es o)

module _ (env : Environment) where
  one-operand : (a : Constraint Name) → rows_named env (not_e a) ≡ rows_left env (a ∷ []) (row 0 0 0 0)
  unfolding refer_e rows_of rows_left
  one-operand a = go (refer_e env a)
    where
      go : (x : Option (Constraint Reference)) → ((x >>= λ x. some (not_e x)) >>= λ y. some (rows_of y)) ≡ ((x >>= λ x. some (rows_of x)) >>= λ a. after a (some (row 0 0 0 0 ∷ [])))
      go none = refl
      go (some x) = refl

  two_operands : (join : Constraint Reference → Constraint Reference → Constraint Reference) (o : Row)
      → ((x y : Constraint Reference) → rows_of (join x y) ≡ rows_of x ++ (rows_of y ++ (o ∷ [])))
      → (x y : Option (Constraint Reference)) → ((x >>= λ x. y >>= λ y. some (join x y)) >>= λ z. some (rows_of z))
      ≡ ((x >>= λ x. some (rows_of x)) >>= λ a. after a ((y >>= λ y. some (rows_of y)) >>= λ b. after b (some (o ∷ []))))
  two_operands join o h none y = refl
  two_operands join o h (some x) none = refl
  two_operands join o h (some x) (some y) = ap some (h x y)

  -- an expression by its operator and its operands
  by_form : (c : Connective) {kind : ℕ} → Some kind ≡ kind_of (some c) → (es : List (Constraint Name)) (e : Constraint Name) → form_e c es ≡ some e
      → rows_named env e ≡ rows_left env es (row kind 0 0 0)
  unfolding refer_e rows_of rows_left
  by_form all_c k es e h = never h
  by_form xor_c k es e h = never h
  by_form not_c k [] e h = never h
  by_form not_c {kind} k (a ∷ []) e h = rw (same_Some kind 0 k) (ap (rows_named env) (sym (some-injective (not_e a) e h)) ∙ one-operand a)
  by_form not_c k (a ∷ b ∷ es) e h = never h
  by_form and_c k [] e h = never h
  by_form and_c k (a ∷ []) e h = never h
  by_form and_c {kind} k (a ∷ b ∷ []) e h =
      rw (same_Some kind 1 k)
      (ap (rows_named env) (sym (some-injective (and_e a b) e h)) ∙ two_operands and_e (row 1 0 0 0) (λ x y. refl) (refer_e env a) (refer_e env b))
  by_form and_c k (a ∷ b ∷ c ∷ es) e h = never h
  by_form or_c k [] e h = never h
  by_form or_c k (a ∷ []) e h = never h
  by_form or_c {kind} k (a ∷ b ∷ []) e h =
      rw (same_Some kind 2 k)
      (ap (rows_named env) (sym (some-injective (or_e a b) e h)) ∙ two_operands or_e (row 2 0 0 0) (λ x y. refl) (refer_e env a) (refer_e env b))
  by_form or_c k (a ∷ b ∷ c ∷ es) e h = never h

-- ---- so far

-- the operands before the row f are written as the rows done, and those of f are left
pub record SoFar (env : Environment) (e : Constraint Name) (f : Forms) (kind first n : ℕ) (before now : List ℕ) : Type 0 where
  pub done : List Row
  pub left : List (Constraint Name)
  pub reads : expressions three_sides f ≡ some left
  pub whole : rows_named env e ≡ after done (rows_left env left (row kind 0 0 0))
  pub count : n ≡ first + length done
  pub wrote : Wrote before now first done

-- what holds before each operand and before the close: after count operands the next row is n, and d is needed of the stack
pub record Loop (t : List ℕ) (at levels : ℕ) (symbols : List ℕ) (kind first : ℕ) (before : List ℕ) (i n count d : ℕ) (now : List ℕ) : Type 0 where
  pub ahead : at < i
  pub rises : first ≤ n
  pub few : at + n ≤ i + first
  pub few-operands : at + count ≤ i
  pub few-values : at + d ≤ i
  pub around : (frames_at t i).around ≡ (frames_at t at).around
  pub kept : Kept before now first
  pub needs : (e : Constraint Name) → expression_in three_sides (trim (frames_at t at).here levels) ≡ some e
      → need_left (expressions three_sides (trim (frames_at t i).here levels)) count d ≡ some (need e)
  pub so_far : (env : Environment) (e : Constraint Name) → Symbols symbols env → expression_in three_sides (trim (frames_at t at).here levels) ≡ some e
      → SoFar env e (trim (frames_at t i).here levels) kind first n before now

-- ---- how an expression begins

pub no_word : Alike (expression_in three_sides) (λ f. none) (1 ∷ 2 ∷ 3 ∷ [])
unfolding expression_in
no_word = (tt, λ x f g. refl, refl, refl)

module _ {t : List ℕ} {at s k number q : ℕ} (l : FramesSeen t at (Item.Word s k number q)) where
  number_is : expression_word (take k (drop s t)) ≡ expression_word (word_of number)
  number_is = expression-number (take k (drop s t)) ∙ ap (λ (n : ℕ). expression_word (word_of n)) l.ahead.2

  module _ {found : prelude.Option ℕ} (is : found ≡ kind_of (expression_word (word_of number))) (levels : ℕ) where
    -- with an operator
    by-operator : (env : Environment) (e : Constraint Name) (f : Forms) (first : ℕ) (before : List ℕ) (c : Option Connective) (es : Option (List (Constraint Name)))
        → expressions three_sides f ≡ es → {kind : ℕ} → Some kind ≡ kind_of c → connected three_sides (take k (drop s t)) f c es ≡ some e → SoFar env e f kind first first before before
    by-operator env e f first before none es d {kind} h g = absurd (none-some kind (sym h))
    by-operator env e f first before (some c) none d h g = never g
    by-operator env e f first before (some c) (some xs) d {kind} h g = record {
      done = [];
      left = xs;
      reads = d;
      whole = by_form env c h xs e g ∙ unprefixed (rows_left env xs (row kind 0 0 0));
      count = omega arith;
      wrote = none-wrote before first;
    }
      where
        unprefixed : (r : Option (List Row)) → r ≡ after [] r
        unprefixed none = refl
        unprefixed (some rs) = refl

    kind-is : found ≡ kind_of (expression_word (take k (drop s t)))
    kind-is = is ∙ ap kind_of (sym number_is)

    pub begun : {kind : ℕ} → found ≡ Some kind → {symbols before : List ℕ} {first : ℕ} → Loop t at levels symbols kind first before q first 0 0 before
    unfolding expression_in
    begun {kind} h {symbols} {before} {first} = record {
      ahead = l.ahead.0;
      rises = omega arith;
      few = omega (arith, l.ahead.0);
      few-operands = omega (arith, l.ahead.0);
      few-values = omega (arith, l.ahead.0);
      around = sym (around-of l);
      kept = all-kept before first;
      needs = λ e g. none_yet _ _ (expression_word (take k (drop s t))) _ e kind (sym h ∙ kind-is) (sym (by_word (expression_in three_sides) levels l) ∙ g);
      so_far = λ env e y g.
          by-operator env e (trim (frames_at t q).here levels) first before (expression_word (take k (drop s t))) _ refl (sym h ∙ kind-is)
          (sym (by_word (expression_in three_sides) levels l) ∙ g);
    }

    -- with a comparison's word
    by-comparison : (w : Name) (f : Forms) (c : Option Connective) (es : Option (List (Constraint Name))) (e : Constraint Name) → None ≡ kind_of c
        → connected three_sides w f c es ≡ some e → comparison three_sides w f ≡ some e
    by-comparison w f none es e h g = g
    by-comparison w f (some c) none e h g = never g
    by-comparison w f (some all_c) (some xs) e h g = never g
    by-comparison w f (some xor_c) (some xs) e h g = never g
    by-comparison w f (some not_c) (some xs) e h g = absurd (none-some 0 h)
    by-comparison w f (some and_c) (some xs) e h g = absurd (none-some 1 h)
    by-comparison w f (some or_c) (some xs) e h g = absurd (none-some 2 h)

    pub compares : found ≡ None → (e : Constraint Name) → expression_in three_sides (trim (frames_at t at).here levels) ≡ some e → comparison three_sides (word_of number) (frames_at t q).here ≡ some e
    unfolding expression_in
    compares h e g =
        let w = take k (drop s t) in
        let f = (frames_at t q).here in
        let op-is : op_of (word_of number) ≡ op_of w = sym (op-number w ∙ ap (λ (n : ℕ). op_of (word_of n)) l.ahead.2) in
        rw op-is (sym (cut-comparison w f levels)
        ∙ by-comparison w (trim f levels) (expression_word w) (expressions three_sides (trim f levels)) e (sym h ∙ kind-is) (sym (by_word (expression_in three_sides) levels l) ∙ g))

-- ---- an operand, and the close

pub record First (o : Option (Constraint Name)) (r : Option (List (Constraint Name))) (left : List (Constraint Name)) : Type 0 where
  pub operand : Constraint Name
  pub others : List (Constraint Name)
  pub is : o ≡ some operand
  pub rest : r ≡ some others
  pub list : left ≡ operand ∷ others

first_of : (o : Option (Constraint Name)) (r : Option (List (Constraint Name))) (left : List (Constraint Name)) → more o r ≡ some left → First o r left
first_of none r left e = never e
first_of (some x) none left e = never e
first_of (some x) (some xs) left e = record { operand = x; others = xs; is = refl; rest = refl; list = sym (some-injective (x ∷ xs) left e) }

first_part : (p : ℕ) (f g : Forms) (left : List (Constraint Name)) → expressions three_sides (part p f g) ≡ some left → First (expression_in three_sides f) (expressions three_sides g) left
unfolding expressions
first_part p f g left e = first_of (expression_in three_sides f) (expressions three_sides g) left e

close-left : (left : List (Constraint Name)) → expressions three_sides closed ≡ some left → left ≡ []
unfolding expressions
close-left left e = sym (some-injective [] left e)

-- no operand where the row ends, or at a word
pub end_none : expressions three_sides ended ≡ none
unfolding expressions
end_none = refl

pub word_none : (s : ℕ) (b : Name) (f : Forms) → expressions three_sides (word s b f) ≡ none
unfolding expressions
word_none s b f = refl

module _ {env : Environment} {e : Constraint Name} {f : Forms} {kind first n : ℕ} {before now : List ℕ} (s : SoFar env e f kind first n before now) where
  module _ (p : ℕ) (g h : Forms) (d : expressions three_sides f ≡ expressions three_sides (part p g h)) where
    one : First (expression_in three_sides g) (expressions three_sides h) s.left
    one = first_part p g h s.left (sym d ∙ s.reads)

    by-operand : rows_named env e ≡ after s.done (rows_named env one.operand >>= λ a. after a (rows_left env one.others (row kind 0 0 0)))
    unfolding rows_left
    by-operand = s.whole ∙ ap (λ (x : List (Constraint Name)). after s.done (rows_left env x (row kind 0 0 0))) one.list

    -- an operand that is written is done
    one_more : {m : ℕ} {new : List ℕ} → ((x : Constraint Name) → expression_in three_sides g ≡ some x → Settled env x now new n m) → SoFar env e h kind first m before new
    one_more w =
        let it = w one.operand one.is in
        record {
          done = s.done ++ it.rows;
          left = one.others;
          reads = one.rest;
          whole =
              by-operand
              ∙ ap (λ (o : Option (List Row)). after s.done (o >>= λ a. after a (rows_left env one.others (row kind 0 0 0)))) it.named
              ∙ after-after s.done it.rows (rows_left env one.others (row kind 0 0 0));
          count = omega (arith, s.count, it.count, length-append s.done it.rows);
          wrote = wrote_on n s.done it.rows s.count s.wrote it.wrote;
        }

    -- with one of which a name is not declared, the whole has no rows
    none_more : ((x : Constraint Name) → expression_in three_sides g ≡ some x → rows_named env x ≡ none) → rows_named env e ≡ none
    none_more w =
        by-operand ∙ ap (λ (o : Option (List Row)). after s.done (o >>= λ a. after a (rows_left env one.others (row kind 0 0 0)))) (w one.operand one.is)

  -- at the close the operator's row is left
  all_done : expressions three_sides f ≡ expressions three_sides closed → rows_named env e ≡ some (s.done ++ (row kind 0 0 0 ∷ []))
  unfolding rows_left
  all_done d =
      s.whole ∙ ap (λ (x : List (Constraint Name)). after s.done (rows_left env x (row kind 0 0 0))) (close-left s.left (sym d ∙ s.reads))

-- ---- the turns of the loop

module _ {t symbols before now : List ℕ} {at levels kind first i n count d : ℕ} (g : Loop t at levels symbols kind first before i n count d now) where
  -- what is at the place is no operand
  pub no_operand : expressions three_sides (trim (frames_at t i).here levels) ≡ none
      → Writes t at (expression_in three_sides (trim (frames_at t at).here levels)) symbols before now first None
  no_operand o = record { kept = g.kept; reads = tt; needs = λ e h. tt; rows = λ env e y h. never (sym o ∙ (g.so_far env e y h).reads) }

  module _ {p q : ℕ} {new : List ℕ} (l : FramesSeen t i (Item.Open p q)) (deep : levels ≡ 0 → ⊥) where
    pub operand-done : {o : RowsWritten} {b : ℕ} → Writes t q (expression_in three_sides (trim (frames_at t q).here (levels - 1))) symbols now new n (Some o)
        → b ≡ max d (count + o.need) → Loop t at levels symbols kind first before o.at o.row (count + 1) b new
    operand-done {o} {b} w f = record {
      ahead = omega (arith, g.ahead, l.ahead.0, w.reads.less);
      rises = omega (arith, g.rises, w.reads.some-row);
      few = omega (arith, g.few, l.ahead.0, w.reads.few-rows);
      few-operands = omega (arith, g.few-operands, l.ahead.0, w.reads.less);
      few-values = omega (arith, g.few-operands, g.few-values, l.ahead.0, w.reads.less, w.reads.few-values, f);
      around = ap (λ (x : Frames). x.around) w.reads.rest ∙ sym (around-of l) ∙ g.around;
      kept = kept_on g.rises g.kept w.kept;
      needs = λ e h.
          rw f
          (subst (λ (x : Frames). need_left (expressions three_sides (trim x.here levels)) (count + 1) (max d (count + o.need)) ≡ some (need e)) (sym w.reads.rest)
          (part-needs count d (need e) p _ _ o.need w.needs (sym (by_part (λ f. need_left (expressions three_sides f) count d) levels l deep) ∙ g.needs e h)));
      so_far = λ env e y h.
          subst (λ (x : Frames). SoFar env e (trim x.here levels) kind first o.row before new) (sym w.reads.rest)
          (one_more (g.so_far env e y h) p _ _ (by_part (expressions three_sides) levels l deep) (λ x d. settles env x now new n (w.rows env x y d)));
    }

    pub operand-undeclared : Writes t q (expression_in three_sides (trim (frames_at t q).here (levels - 1))) symbols now new n None
        → Writes t at (expression_in three_sides (trim (frames_at t at).here levels)) symbols before new first None
    operand-undeclared w = record {
      kept = kept_on g.rises g.kept w.kept;
      reads = tt;
      needs = λ e h. tt;
      rows = λ env e y h.
          unsettled env e before new first
          (none_more (g.so_far env e y h) p _ _ (by_part (expressions three_sides) levels l deep) (λ x d. unsettles env x now new n (w.rows env x y d)));
    }

  pub finished : {j : ℕ} {new : List ℕ} → FramesSeen t i (Item.Close j) → Wrote now new n (row kind 0 0 0 ∷ [])
      → Writes t at (expression_in three_sides (trim (frames_at t at).here levels)) symbols before new first (Some (record { at = j; row = n + 1; need = d }))
  finished {j} {new} l w = record {
    kept = kept_on g.rises g.kept w.kept;
    reads = record {
      rest = sym (closes at l g.around);
      less = omega (arith, g.ahead, l.ahead.0);
      fits = l.ahead.1;
      some-row = omega (arith, g.rises);
      few-rows = omega (arith, g.few, l.ahead.0);
      few-values = omega (arith, g.few-values, l.ahead.0);
    };
    needs = λ e h. close-needs count d (need e) (sym (by-close (λ f. need_left (expressions three_sides f) count d) levels l) ∙ g.needs e h);
    rows = λ env e y h.
        let s = g.so_far env e y h in
        settled env e before new first (record { at = j; row = n + 1; need = d }) (s.done ++ (row kind 0 0 0 ∷ [])) (all_done s (by-close (expressions three_sides) levels l))
        (omega (arith, s.count, length-append s.done (row kind 0 0 0 ∷ []))) (wrote_on n s.done (row kind 0 0 0 ∷ []) s.count s.wrote w);
  }
