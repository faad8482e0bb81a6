-- How the operands of a set expression are counted, by the first of them and from its beginning. Assumes nothing.
use mathlib.Core.Path.{◌≡◌, refl, sym, ap, subst, ◌∙◌}
use mathlib.Core.Bool.{Bool, true, false, not, ◌&&◌}
use mathlib.Core.List.{List}
use mathlib.Core.Option.{Option, none, some}
use Prim.Native.Nat.{ℕ, suc, ◌+◌, ◌≤◌}
use native.Mathlib.Nat.{le_refl}
use native.Mathlib.Omega.{arith}
use borrow.Author.Tests.{lt-ltb}
use lib.Dec.{eqb}
use lib.ListN.{length, take, drop}
use Rattle.lexer.specs.Forms.{Forms, closed, ended, word, part, frames_at, trim}
use Rattle.policy.specs.Basics.{Name, ◌>>=◌, more}
use Rattle.policy.specs.Words.{is_reserved, as_name, Connective, all_c, not_c, and_c, or_c, xor_c, set_word}
use Rattle.policy.specs.Statements.{SetExpr, name_s, all_s, not_s, and_s, or_s, xor_s}
use Rattle.policy.specs.Grammar.{union_of, form_s, headed, operands, set_in}
use Rattle.words.specs.Numbers.{number_of, word_of}
use Rattle.words.proofs.Meaning.{set-number}
use Rattle.items.specs.Looks.{item_at, row_end}
use Rattle.items.specs.Reads.{is_some, enough, counted}
use Rattle.items.specs.declared.Item.{Item}
use Rattle.items.specs.declared.Wanted.{Wanted}
use Rattle.items.proofs.Items.{Looked, sees, by_word, by-close, by_end, alike-open}
use Rattle.items.proofs.Counts.{one_more, one_less, no_more, of-none, of_one_lem, of_two_lem}
use Rattle.set_grammar.specs.Starts.{operands_of, begun, start_by, start_of}
use Rattle.set_grammar.specs.declared.SetStart.{SetStart}

-- a word that is a name is an operand
is-operand : (w : Name) (b : Bool) → b ≡ not (is_reserved w) → is_some (as_name w >>= λ n. some (name_s n)) ≡ b
is-operand w true e = rw (sym e)
is-operand w false e = rw (sym e)

-- a union is one or more operands
union-counts : (x : Option (SetExpr Name)) (xs : Option (List (SetExpr Name))) → counted Wanted.OneOrMore 0 (more x xs) ≡ is_some (union_of x xs)
unfolding counted
union-counts none xs = refl
union-counts (some x) none = refl
union-counts (some x) (some xs) = lt-ltb 0 (0 + suc (length xs)) (omega arith)

-- the operands of an operator
operator-counts : (c : Connective) (xs : Option (List (SetExpr Name))) → counted (operands_of (some c)) 0 xs ≡ is_some (xs >>= form_s c)
operator-counts all_c xs = of-none all_s xs
operator-counts not_c xs = of_one_lem not_s xs
operator-counts and_c xs = of_two_lem and_s xs
operator-counts or_c xs = of_two_lem or_s xs
operator-counts xor_c xs = of_two_lem xor_s xs

-- ---- the operands of an S, by the first of them, after n

module _ (v : Wanted) (n : ℕ) where
  pub word-operand : (w : Name) (s : ℕ) (f : Forms) (b : Bool) → b ≡ not (is_reserved w) → counted v n (operands (word s w f)) ≡ b && counted v (n + 1) (operands f)
  unfolding operands
  word-operand w s f true h = one_more v n (as_name w >>= λ n. some (name_s n)) (operands f) (is-operand w true h)
  word-operand w s f false h = one_less v n (as_name w >>= λ n. some (name_s n)) (operands f) (is-operand w false h)

  pub part-operand : (p : ℕ) (f g : Forms) (b : Bool) → is_some (set_in f) ≡ b → counted v n (operands (part p f g)) ≡ b && counted v (n + 1) (operands g)
  unfolding operands
  part-operand p f g true h = one_more v n (set_in f) (operands g) h
  part-operand p f g false h = one_less v n (set_in f) (operands g) h

  pub close-operand : counted v n (operands closed) ≡ enough v n
  unfolding operands
  close-operand = no_more (SetExpr Name) v n

  pub end-operand : counted v n (operands ended) ≡ false
  unfolding operands counted
  end-operand = refl

-- ---- how an S begins

never : {m : ℕ} → Wanted.OneOrMore ≡ Wanted.Exactly m → ⊥
never e = let z : ◌≡◌ {A = ℕ} 0 1 = cc in omega arith

-- with a word that is an operator
operator-row : (w : Name) (s k : ℕ) (f : Forms) (m : ℕ) → number_of w ≡ k → Wanted.Exactly m ≡ operands_of (set_word (word_of k))
    → counted (Wanted.Exactly m) 0 (operands f) ≡ is_some (set_in (word s w f))
unfolding set_in
operator-row w s k f m e h = go (set_word w) refl (h ∙ ap operands_of (sym (set-number w ∙ ap (λ (n : ℕ). set_word (word_of n)) e)))
  where
    go : (c : Option Connective) → set_word w ≡ c → Wanted.Exactly m ≡ operands_of (set_word w)
        → counted (Wanted.Exactly m) 0 (operands f) ≡ is_some (headed w (set_word w) (operands f))
    go none d g =
        let z : ◌≡◌ {A = Wanted} (Wanted.Exactly m) Wanted.OneOrMore = rw d at g in
        absurd (let z : ◌≡◌ {A = ℕ} 0 1 = cc in omega arith)
    go (some c) d g =
        rw d (ap (λ (x : Wanted). counted x 0 (operands f)) (rw d at g) ∙ operator-counts c (operands f))

-- with one that is not
name-row : (w : Name) (s k : ℕ) (f : Forms) → number_of w ≡ k → Wanted.OneOrMore ≡ operands_of (set_word (word_of k))
    → counted Wanted.OneOrMore 0 (operands (word s w f)) ≡ is_some (set_in (word s w f))
unfolding set_in
name-row w s k f e h = go (set_word w) refl (h ∙ ap operands_of (sym (set-number w ∙ ap (λ (n : ℕ). set_word (word_of n)) e)))
  where
    go : (c : Option Connective) → set_word w ≡ c → Wanted.OneOrMore ≡ operands_of (set_word w)
        → counted Wanted.OneOrMore 0 (operands (word s w f)) ≡ is_some (headed w (set_word w) (operands f))
    go none d g = rw d (union-counts (as_name w >>= λ n. some (name_s n)) (operands f))
    go (some all_c) d g = absurd (never (rw d at g))
    go (some not_c) d g = absurd (never (rw d at g))
    go (some and_c) d g = absurd (never (rw d at g))
    go (some or_c) d g = absurd (never (rw d at g))
    go (some xor_c) d g = absurd (never (rw d at g))

-- where the operands begin, and how many there must be
pub record Started (t : List ℕ) (at : ℕ) (r : SetStart) : Type 0 where
  pub row : (n : ℕ) → counted r.wanted 0 (operands (trim (frames_at t r.next).here n)) ≡ is_some (set_in (trim (frames_at t at).here n))
  pub end : row_end t r.next ≡ row_end t at
  pub ahead : at ≤ r.next

abbrev union : Forms → Bool
union f = counted Wanted.OneOrMore 0 (operands f)

abbrev set : Forms → Bool
set f = is_some (set_in f)

-- a row that starts with a word
by_first : (t : List ℕ) (at s m k q : ℕ) (v : Wanted) → Looked t at (Item.Word s m k q) → v ≡ operands_of (set_word (word_of k)) → Started t at (start_by at q v)
by_first t at s m k q Wanted.OneOrMore l e = record {
  row = λ n. by_word union n l ∙ name-row (take m (drop s t)) s k (trim (frames_at t q).here n) l.ahead.2 e ∙ sym (by_word set n l);
  end = refl;
  ahead = le_refl at;
}
by_first t at s m k q (Wanted.Exactly c) l e = record {
  row = λ n. operator-row (take m (drop s t)) s k (trim (frames_at t q).here n) c l.ahead.2 e ∙ sym (by_word set n l);
  end = sym l.end;
  ahead = omega (arith, l.ahead.0);
}

-- with any other item
by-other : (t : List ℕ) (at : ℕ) → ((n : ℕ) → union (trim (frames_at t at).here n) ≡ set (trim (frames_at t at).here n)) → Started t at (begun Wanted.OneOrMore at)
by-other t at e = record { row = e; end = refl; ahead = le_refl at }

started : (t : List ℕ) (at : ℕ) (k : Item) → item_at t at ≡ k → Started t at (start_of at k)
unfolding set_in counted
started t at (Item.Word s m k q) e = by_first t at s m k q (operands_of (set_word (word_of k))) (sees refl e) refl
started t at (Item.Open p q) e =
    by-other t at (λ n. alike-open union set n (λ f g. union-counts (set_in f) (operands g)) refl (sees refl e) (eqb n 0) refl)
started t at (Item.Close q) e = by-other t at (λ n. by-close union n (sees refl e) ∙ sym (by-close set n (sees refl e)))
started t at Item.End e = by-other t at (λ n. by_end union n (sees refl e) ∙ sym (by_end set n (sees refl e)))

-- what a caller of `set_start` knows
pub starts : {t : List ℕ} {at : ℕ} {r : SetStart} → r ≡ start_of at (item_at t at) → Started t at r
starts {t} {at} e = subst (λ (x : SetStart). Started t at x) (sym e) (started t at (item_at t at) refl)
