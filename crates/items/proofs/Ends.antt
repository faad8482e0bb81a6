-- Where a row ends: the end of a row that holds another goes on after that one, and what the text reads as there is what is around the row; it is found
-- token by token, and lies in the text. Each by one induction over the tokens to come. Assumes nothing.
use mathlib.Core.Path.{◌≡◌, refl, sym, ap, subst, ◌∙◌}
use mathlib.Core.List.{List, [], ◌∷◌}
use Prim.Native.Nat.{ℕ, zero, suc, ◌+◌, ◌-◌, ◌≤◌}
use native.Mathlib.Nat.{zero-add, suc-add, le_refl}
use native.Mathlib.Numerals.{add-one}
use native.Mathlib.Omega.{arith}
use lib.ListN.{length}
use lib.Seq.{drop-length}
use Rattle.lexer.specs.Scan.{between}
use Rattle.lexer.specs.Token.{tokens_from, tokens_at, first_of, token_at}
use Rattle.lexer.specs.Forms.{Frames, ended, out, build, frames_at}
use Rattle.lexer.specs.declared.Token.{Token}
use Rattle.lexer.proofs.Seen.{Ahead, tokens_by, token-ahead, tokens-by}
use Rattle.items.specs.Looks.{past_close, row_end}

abbrev rest : List Token → List Token
rest [] = []
rest (k ∷ ks) = ks

module _ (t : List ℕ) where
  -- the tokens after the first
  behind : (k : Token) (ks : List Token) (at : ℕ) → tokens_at t at ≡ k ∷ ks → tokens_by t k ≡ k ∷ ks
  unfolding token_at
  behind k ks at e = ap (tokens_by t) (sym (ap first_of e)) ∙ sym (tokens-by t at) ∙ e

  no-tokens : tokens_at t (length t) ≡ []
  unfolding tokens_at tokens_from
  no-tokens = ap (λ (l : List ℕ). tokens_from l between (length t)) (drop-length t)

  -- so many rows further out
  nested : (ks : List Token) (at : ℕ) → tokens_at t at ≡ ks → (d e : ℕ)
      → past_close ks (suc (d + e)) (length t) ≡ past_close (tokens_at t (past_close ks d (length t))) e (length t)
  unfolding past_close
  nested [] at h d e = sym (ap (λ (ks : List Token). past_close ks e (length t)) no-tokens)
  nested (Token.Open p ∷ ks) at h d e =
      ap (λ (n : ℕ). past_close ks (suc n) (length t)) (sym (suc-add d e))
      ∙ nested ks (p + 1) (ap rest (behind (Token.Open p) ks at h)) (suc d) e
  nested (Token.Close p ∷ ks) at h zero e =
      ap (λ (n : ℕ). past_close ks n (length t)) (zero-add e)
      ∙ ap (λ (l : List Token). past_close l e (length t)) (sym (ap rest (behind (Token.Close p) ks at h)))
  nested (Token.Close p ∷ ks) at h (suc d) e =
      ap (λ (n : ℕ). past_close ks n (length t)) (suc-add d e)
      ∙ nested ks (p + 1) (ap rest (behind (Token.Close p) ks at h)) d e
  nested (Token.Word s n ∷ ks) at h d e = nested ks (s + n) (ap rest (behind (Token.Word s n) ks at h)) d e
  nested (Token.End ∷ ks) at h d e =
      let z = behind Token.End ks at h in
      absurd (let z : ◌≡◌ {A = ℕ} 0 1 = cc in omega arith)

  -- the frames so many rows further out
  abbrev outs : ℕ → Frames → Frames
  outs zero r = out r
  outs (suc d) r = outs d (out r)

  outs-nothing : (d : ℕ) → outs d (record { here = ended; around = [] }) ≡ record { here = ended; around = [] }
  outs-nothing zero = refl
  outs-nothing (suc d) = outs-nothing d

  left : (ks : List Token) (at : ℕ) → tokens_at t at ≡ ks → (d : ℕ) → outs d (build t ks) ≡ frames_at t (past_close ks d (length t))
  unfolding past_close build frames_at
  left [] at h d = outs-nothing d ∙ sym (ap (build t) no-tokens)
  left (Token.Open p ∷ ks) at h zero = left ks (p + 1) (ap rest (behind (Token.Open p) ks at h)) 1
  left (Token.Open p ∷ ks) at h (suc d) = left ks (p + 1) (ap rest (behind (Token.Open p) ks at h)) (suc (suc d))
  left (Token.Close p ∷ ks) at h zero = ap (build t) (sym (ap rest (behind (Token.Close p) ks at h)))
  left (Token.Close p ∷ ks) at h (suc d) = left ks (p + 1) (ap rest (behind (Token.Close p) ks at h)) d
  left (Token.Word s n ∷ ks) at h zero = left ks (s + n) (ap rest (behind (Token.Word s n) ks at h)) zero
  left (Token.Word s n ∷ ks) at h (suc d) = left ks (s + n) (ap rest (behind (Token.Word s n) ks at h)) (suc d)
  left (Token.End ∷ ks) at h d =
      let z = behind Token.End ks at h in
      absurd (let z : ◌≡◌ {A = ℕ} 0 1 = cc in omega arith)

  -- ---- the laws

  -- after the close of a row stands what is around it
  pub leaves : (at : ℕ) → out (frames_at t at) ≡ frames_at t (row_end t at)
  unfolding frames_at row_end
  leaves at = left (tokens_at t at) at refl 0

  -- the end of a row, by its first token
  abbrev pub end_by : Token → ℕ
  end_by (Token.Open p) = row_end t (row_end t (p + 1))
  end_by (Token.Close p) = p + 1
  end_by (Token.Word s n) = row_end t (s + n)
  end_by Token.End = length t

  pub ends_by : (at : ℕ) (k : Token) → tokens_at t at ≡ tokens_by t k → row_end t at ≡ end_by k
  unfolding row_end past_close
  ends_by at (Token.Open p) e = ap (λ (ks : List Token). past_close ks 0 (length t)) e ∙ nested (tokens_at t (p + 1)) (p + 1) refl 0 0
  ends_by at (Token.Close p) e = ap (λ (ks : List Token). past_close ks 0 (length t)) e
  ends_by at (Token.Word s n) e = ap (λ (ks : List Token). past_close ks 0 (length t)) e
  ends_by at Token.End e = ap (λ (ks : List Token). past_close ks 0 (length t)) e

  -- ---- the end of a row, token by token

  -- the end of the row at hand from a place on, where so many rows within it are open
  abbrev pub end_from : ℕ → ℕ → ℕ
  end_from at d = past_close (tokens_at t at) d (length t)

  pub whole_row : (at : ℕ) → end_from at 0 ≡ row_end t at
  unfolding row_end
  whole_row at = refl

  module _ (at d : ℕ) where
    pub past_open : (p : ℕ) → tokens_at t at ≡ tokens_by t (Token.Open p) → end_from at d ≡ end_from (p + 1) (d + 1)
    unfolding past_close
    past_open p e = ap (λ (ks : List Token). past_close ks d (length t)) e ∙ ap (λ (n : ℕ). end_from (p + 1) n) (sym (add-one d))

    pub past-close : (p : ℕ) → tokens_at t at ≡ tokens_by t (Token.Close p) → (d ≡ 0 → ⊥) → end_from at d ≡ end_from (p + 1) (d - 1)
    unfolding past_close
    past-close p e h =
        let n : d ≡ suc (d - 1) = omega (arith, h) in
        ap (λ (n : ℕ). end_from at n) n ∙ ap (λ (ks : List Token). past_close ks (suc (d - 1)) (length t)) e

    pub last-close : (p : ℕ) → tokens_at t at ≡ tokens_by t (Token.Close p) → d ≡ 0 → end_from at d ≡ p + 1
    unfolding past_close
    last-close p e h = ap (λ (n : ℕ). end_from at n) h ∙ ap (λ (ks : List Token). past_close ks 0 (length t)) e

    pub past_word : (s n : ℕ) → tokens_at t at ≡ tokens_by t (Token.Word s n) → end_from at d ≡ end_from (s + n) d
    unfolding past_close
    past_word s n e = ap (λ (ks : List Token). past_close ks d (length t)) e

    pub at-end : tokens_at t at ≡ tokens_by t Token.End → end_from at d ≡ length t
    unfolding past_close
    at-end e = ap (λ (ks : List Token). past_close ks d (length t)) e

  -- ---- the end of a row lies ahead, and in the text

  first-ahead : (k : Token) (ks : List Token) (at : ℕ) → tokens_at t at ≡ k ∷ ks → Ahead t at k
  unfolding token_at
  first-ahead k ks at e = subst (λ (x : Token). Ahead t at x) (ap first_of e) (token-ahead t at)

  from_on : (ks : List Token) (at : ℕ) → tokens_at t at ≡ ks → at ≤ length t → (d : ℕ) → (at ≤ past_close ks d (length t)) × (past_close ks d (length t) ≤ length t)
  unfolding past_close
  from_on [] at h l d = (l, le_refl (length t))
  from_on (Token.Open p ∷ ks) at h l d =
      let a = first-ahead (Token.Open p) ks at h in
      let r = from_on ks (p + 1) (ap rest (behind (Token.Open p) ks at h)) (omega arith) (suc d) in
      (omega arith, r.1)
  from_on (Token.Close p ∷ ks) at h l zero =
      let a = first-ahead (Token.Close p) ks at h in
      (omega arith, omega arith)
  from_on (Token.Close p ∷ ks) at h l (suc d) =
      let a = first-ahead (Token.Close p) ks at h in
      let r = from_on ks (p + 1) (ap rest (behind (Token.Close p) ks at h)) (omega arith) d in
      (omega arith, r.1)
  from_on (Token.Word s n ∷ ks) at h l d =
      let a = first-ahead (Token.Word s n) ks at h in
      let r = from_on ks (s + n) (ap rest (behind (Token.Word s n) ks at h)) (omega arith) d in
      (omega arith, r.1)
  from_on (Token.End ∷ ks) at h l d =
      let z = behind Token.End ks at h in
      absurd (let z : ◌≡◌ {A = ℕ} 0 1 = cc in omega arith)

  pub ends-ahead : (at : ℕ) → at ≤ length t → (at ≤ row_end t at) × (row_end t at ≤ length t)
  unfolding row_end
  ends-ahead at l = from_on (tokens_at t at) at refl l 0
