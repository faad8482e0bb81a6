-- Names that are written one after the other: one name, and names after names. Assumes nothing.
use mathlib.Core.Path.{◌≡◌, refl, sym, ap, subst, ◌∙◌}
use mathlib.Core.Bool.{true≢false}
use mathlib.Core.List.{List, [], ◌∷◌, ◌++◌}
use mathlib.Core.Option.{Option, none, some}
use Prim.Native.Nat.{ℕ, ◌+◌, ◌-◌}
use native.Mathlib.Omega.{arith}
use lib.ListN.{length, take, drop}
use Rattle.std.specs.Prelude as prelude
use Rattle.std.specs.Prelude.{None, Some, IfSome}
use Rattle.lexer.specs.Forms.{Forms, frames_at, trim}
use Rattle.policy.specs.Basics.{Name, ◌>>=◌}
use Rattle.policy.specs.Names.{Environment}
use Rattle.items.specs.declared.Item.{Item}
use Rattle.items.proofs.Frames.{FramesSeen, by_word}
use Rattle.items.proofs.Items.{word-lent}
use Rattle.statement_code.specs.UnitWrites.{Stored}
use Rattle.set_writer.specs.declared.Written.{Written}
use Rattle.statement_code.proofs.UnitLaws.{wrote_then, keeps_then, keeps-all}
use Rattle.statement_writer.specs.NameKinds.{unit_in, referred_by, Names, first_unit, behind_first, names_units, behind_names, Past, AnswersNames, WritesNames}
use Rattle.statement_writer.specs.declared.Kind.{Kind}

-- ---- what an answer says of the names

-- names without units are answered so
lacking : (before after : List ℕ) (to : ℕ) (o : Option (List ℕ)) → o ≡ none → AnswersNames before to o after None
lacking before after to o e = subst (λ (x : Option (List ℕ)). AnswersNames before to x after None) (sym e) refl

pub lacks : (before after : List ℕ) (to : ℕ) (o : Option (List ℕ)) → AnswersNames before to o after None → o ≡ none
lacks before after to none h = refl
lacks before after to (some us) h = absurd h

is-unit : (o : Option ℕ) (u : ℕ) → Some u ≡ referred_by o → o ≡ some u
is-unit none u e = absurd (let z : ◌≡◌ {A = ℕ} 0 1 = cc in omega arith)
is-unit (some n) u e = let z : u ≡ n = cc in ap some (sym z)

is-missing : (o : Option ℕ) → None ≡ referred_by o → o ≡ none
is-missing none e = refl
is-missing (some n) e = absurd (let z : ◌≡◌ {A = ℕ} 0 1 = cc in omega arith)

-- ---- one name

abbrev pub alone : Option ℕ → Option (List ℕ)
alone o = o >>= λ u. some (u ∷ [])

-- the name that is lent is the word
of_word : (t : List ℕ) (s n : ℕ) {table : List ℕ} {k : Kind} {r : prelude.Option ℕ} → Names table k (take ((s + n) - s) (drop s t)) r
    → Names table k (take n (drop s t)) r
of_word t s n {table} {k} {r} m = subst (λ (w : Name). Names table k w r) (word-lent t s n) m

module _ {t : List ℕ} {at : ℕ} {k : Kind} {table : List ℕ} {before : List ℕ} {to : ℕ} where
  -- no word is there
  pub no_word : ((env : Environment) (levels : ℕ) → first_unit env k (trim (frames_at t at).here levels) ≡ none)
      → WritesNames t at (k ∷ []) table before to before None
  no_word h = record {
    keeps = keeps-all;
    moves = tt;
    says = λ env levels y. lacking before before to (names_units env (k ∷ []) (trim (frames_at t at).here levels)) (ap alone (h env levels));
  }

  module _ {s n i q : ℕ} (l : FramesSeen t at (Item.Word s n i q)) {r : prelude.Option ℕ} (m : Names table k (take ((s + n) - s) (drop s t)) r) where
    -- a name that is not declared
    pub no_name : r ≡ None → WritesNames t at (k ∷ []) table before to before None
    no_name e = record {
      keeps = keeps-all;
      moves = tt;
      says = λ env levels y.
          let is : first_unit env k (trim (frames_at t at).here levels) ≡ none =
          by_word (first_unit env k) levels l ∙ is-missing (unit_in env k (take n (drop s t))) (sym e ∙ (of_word t s n m).resolves env y) in
          lacking before before to (names_units env (k ∷ []) (trim (frames_at t at).here levels)) (ap alone is);
    }

    -- one that is
    pub one_name : {unit u : ℕ} {after : List ℕ} → r ≡ Some unit → Stored before to unit after u
        → WritesNames t at (k ∷ []) table before to after (Some (record { at = q; to = u }))
    one_name {unit} {u} {after} e st = record {
      keeps = st.keeps;
      moves = record { row = λ levels. sym (by_word behind_first levels l); ahead = st.ahead };
      says = λ env levels y.
          let is : first_unit env k (trim (frames_at t at).here levels) ≡ some unit =
          by_word (first_unit env k) levels l ∙ is-unit (unit_in env k (take n (drop s t))) unit (sym e ∙ (of_word t s n m).resolves env y) in
          subst (λ (o : Option (List ℕ)). AnswersNames before to o after (Some (record { at = q; to = u }))) (sym (ap alone is)) st.wrote;
    }

-- ---- names after names

abbrev both : Option (List ℕ) → Option (List ℕ) → Option (List ℕ)
both x y = x >>= λ us. y >>= λ vs. some (us ++ vs)

both-none : (y : Option (List ℕ)) → y ≡ both (some []) y
both-none none = refl
both-none (some vs) = refl

both-more : (o : Option ℕ) (x y : Option (List ℕ)) → (o >>= λ u. both x y >>= λ us. some (u ∷ us)) ≡ both (o >>= λ u. x >>= λ us. some (u ∷ us)) y
both-more none x y = refl
both-more (some u) none y = refl
both-more (some u) (some us) none = refl
both-more (some u) (some us) (some vs) = refl

units-append : (env : Environment) (ks ls : List Kind) (g : Forms) → names_units env (ks ++ ls) g ≡ both (names_units env ks g) (names_units env ls (behind_names ks g))
units-append env [] ls g = both-none (names_units env ls g)
units-append env (k ∷ ks) ls g =
    ap (λ (o : Option (List ℕ)). first_unit env k g >>= λ u. o >>= λ us. some (u ∷ us)) (units-append env ks ls (behind_first g))
    ∙ both-more (first_unit env k g) (names_units env ks (behind_first g)) (names_units env ls (behind_names ks (behind_first g)))

behind-append : (ks ls : List Kind) (g : Forms) → behind_names (ks ++ ls) g ≡ behind_names ls (behind_names ks g)
behind-append [] ls g = refl
behind-append (k ∷ ks) ls g = behind-append ks ls (behind_first g)

module _ (a b c : List ℕ) (i : ℕ) (p : Written) (long : length b ≡ length a) where
  answers-then : (x y : Option (List ℕ)) (r : prelude.Option Written) → AnswersNames a i x b (Some p) → AnswersNames b p.to y c r → AnswersNames a i (both x y) c r
  answers-then none y r h g = absurd (true≢false h)
  answers-then (some us) none r h g = g
  answers-then (some us) (some vs) None h g = absurd g
  answers-then (some us) (some vs) (Some s) h g = wrote_then long h g

module _ {t : List ℕ} {at : ℕ} {table : List ℕ} {a b : List ℕ} {i : ℕ} {r : prelude.Option Written} (ks ls : List Kind) (m : WritesNames t at ks table a i b r) where
  -- the first of them are not all declared
  pub names-stop : r ≡ None → WritesNames t at (ks ++ ls) table a i b None
  names-stop e =
      let z = subst (λ (x : prelude.Option Written). WritesNames t at ks table a i b x) e m in
      record {
        keeps = z.keeps;
        moves = tt;
        says = λ env levels y.
            let g = trim (frames_at t at).here levels in
            let no : names_units env ks g ≡ none = lacks a b i (names_units env ks g) (z.says env levels y) in
            lacking a b i (names_units env (ks ++ ls) g) (units-append env ks ls g ∙ ap (λ (x : Option (List ℕ)). both x (names_units env ls (behind_names ks g))) no);
      }

  -- they are, and the others are written after them
  pub names-then : {p : Written} {c : List ℕ} {s : prelude.Option Written} → r ≡ Some p → WritesNames t p.at ls table b p.to c s → WritesNames t at (ks ++ ls) table a i c s
  names-then {p} {c} {s} e n =
      let z = subst (λ (x : prelude.Option Written). WritesNames t at ks table a i b x) e m in
      record {
        keeps = keeps_then z.moves.ahead z.keeps n.keeps;
        moves = go z.moves s n.moves;
        says = λ env levels y.
            let g = trim (frames_at t at).here levels in
            let h = subst (λ (f : Forms). AnswersNames b p.to (names_units env ls f) c s) (z.moves.row levels) (n.says env levels y) in
            subst (λ (o : Option (List ℕ)). AnswersNames a i o c s) (sym (units-append env ks ls g))
            (answers-then a b c i p z.keeps.long (names_units env ks g) (names_units env ls (behind_names ks g)) s (z.says env levels y) h);
      }
    where
      go : Past t at ks i p → (s : prelude.Option Written) → IfSome s (Past t p.at ls p.to) → IfSome s (Past t at (ks ++ ls) i)
      go x None w = tt
      go x (Some v) w = record {
        row = λ levels. w.row levels ∙ ap (behind_names ls) (x.row levels) ∙ sym (behind-append ks ls (trim (frames_at t at).here levels));
        ahead = omega (arith, x.ahead, w.ahead);
      }
