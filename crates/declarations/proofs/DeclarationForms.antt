-- What the form of a declaration says of its row: the names that are declared are its words, and they are good parts. Assumes nothing.
use mathlib.Core.Path.{◌≡◌, refl, sym, ap, ap₂, subst, ◌∙◌}
use mathlib.Core.Bool.{true, not, ◌&&◌}
use mathlib.Core.List.{List, [], ◌∷◌}
use mathlib.Core.Option.{Option, none, some, none-ne-some, some-injective}
use Prim.Native.Nat.{ℕ, ◌+◌}
use native.Mathlib.Omega.{arith}
use Rattle.byte_slices.specs.Parts as parts
use Rattle.lexer.specs.Class.{is_name}
use Rattle.lexer.specs.Forms.{Forms, closed, ended, word, part, frames_at, names_good}
use Rattle.lexer.proofs.Trim.{same-words}
use Rattle.policy.specs.Basics.{Name, every, ◌>>=◌, of_one}
use Rattle.policy.specs.Words.{is_reserved, dotless, as_part, declare_k, class_k}
use Rattle.policy.specs.Statements.{Sort, Declaration, plain, class, declare, Written}
use Rattle.policy.specs.Grammar.{row_of, one_or_more, formed}
use Rattle.policy.specs.Sound.{is_good_part, good_permissions}
use Rattle.policy.proofs.Lists.{both_true, true-both}
use Rattle.policy.proofs.Options.{given-some}
use Rattle.reading_laws.proofs.FullNames.{good_parts, part-good}
use Rattle.table_laws.proofs.ListLaws.{bound-then, more-some}
use Rattle.name_rows.specs.WordRows.{words_in, WordHere, Inside}
use Rattle.name_rows.proofs.Rows.{words-here}

-- ---- rows of names

names-words : (f : Forms) (ps : List Name) → row_of as_part f ≡ some ps → words_in f ≡ ps
unfolding row_of words_in
names-words closed ps h = some-injective [] ps h
names-words ended ps h = absurd (none-ne-some ps h)
names-words (part p i r) ps h = absurd (none-ne-some ps h)
names-words (word at w r) ps h =
    let m = more-some (as_part w) (row_of as_part r) ps h in
    ap₂ (λ (x : Name) (xs : List Name). x ∷ xs) (given-some (dotless w && not (is_reserved w)) w m.0 m.2).1 (names-words r m.1 m.3) ∙ sym m.4

names-good : (f : Forms) (ps : List Name) → names_good f ≡ true → row_of as_part f ≡ some ps → every is_good_part ps ≡ true
unfolding row_of names_good every
names-good closed ps g h = subst (λ (qs : List Name). every is_good_part qs ≡ true) (some-injective [] ps h) refl
names-good ended ps g h = absurd (none-ne-some ps h)
names-good (part p i r) ps g h = absurd (none-ne-some ps h)
names-good (word at w r) ps g h =
    let m = more-some (as_part w) (row_of as_part r) ps h in
    let b = both_true (is_name w) (names_good r) g in
    subst (λ (qs : List Name). every is_good_part qs ≡ true) (sym m.4)
    (true-both (is_good_part m.0) (every is_good_part m.1) ((part-good w b.0).has m.0 m.2) (names-good r m.1 b.1 m.3))

first_of : (x y : Name) (xs ys : List Name) → x ∷ xs ≡ y ∷ ys → x ≡ y
first_of x y xs ys h = cc

declared_same : (a b : Declaration) → ◌≡◌ {A = Written} (declare a) (declare b) → a ≡ b
declared_same a b h = cc

-- ---- `(user U)` and the like

record PlainRow (s : Sort) (f : Forms) (d : Declaration) : Type 0 where
  pub name : Name
  pub row : row_of as_part f ≡ some (name ∷ [])
  pub is : d ≡ plain s name

plain_row : (s : Sort) (f : Forms) (d : Declaration) → formed (declare_k s) f ≡ some (declare d) → PlainRow s f d
plain_row s f d h = by (row_of as_part f) refl h
  where
    by : (o : Option (List Name)) → row_of as_part f ≡ o → ◌≡◌ {A = Option Written} (o >>= of_one (λ w. declare (plain s w))) (some (declare d)) → PlainRow s f d
    by none e q = absurd (none-ne-some (declare d) q)
    by (some []) e q = absurd (none-ne-some (declare d) q)
    by (some (w ∷ [])) e q =
        record { name = w; row = e; is = sym (declared_same (plain s w) d (some-injective (declare (plain s w)) (declare d) q)) }
    by (some (w ∷ v ∷ ws)) e q = absurd (none-ne-some (declare d) q)

pub plain-has-word : (t : List ℕ) (at : ℕ) (s : Sort) (d : Declaration) → words_in (frames_at t at).here ≡ [] → formed (declare_k s) (frames_at t at).here ≡ some (declare d) → ⊥
plain-has-word t at s d h f =
    let p = plain_row s (frames_at t at).here d f in
    no-first p.name (sym h ∙ names-words (frames_at t at).here (p.name ∷ []) p.row)
  where
    no-first : (w : Name) → [] ≡ w ∷ [] → ⊥
    no-first w e = let z : ◌≡◌ {A = ℕ} 0 1 = cc in omega arith

pub plain_here : {t : List ℕ} {at start len : ℕ} → WordHere t at start len → (s : Sort) (d : Declaration) → names_good (frames_at t at).here ≡ true
    → formed (declare_k s) (frames_at t at).here ≡ some (declare d) → (d ≡ plain s (parts.part t start len)) × (is_good_part (parts.part t start len) ≡ true)
unfolding every
plain_here {t} {at} {start} {len} h s d g f =
    let p = plain_row s (frames_at t at).here d f in
    let same : p.name ≡ parts.part t start len =
    first_of p.name (parts.part t start len) [] (words_in (frames_at t (start + len)).here)
    (sym (names-words (frames_at t at).here (p.name ∷ []) p.row) ∙ words-here h) in
    let good = both_true (is_good_part p.name) true (names-good (frames_at t at).here (p.name ∷ []) g p.row) in
    (p.is ∙ ap (plain s) same, subst (λ (w : Name). is_good_part w ≡ true) same good.0)

-- ---- `(class C (P ...))`

record ClassRow (f : Forms) (d : Declaration) : Type 0 where
  pub place : ℕ
  pub name : Name
  pub opening : ℕ
  pub row : Forms
  pub form : f ≡ word place name (part opening row closed)
  pub perms : List Name
  pub names : row_of as_part row ≡ some perms
  pub is : d ≡ class name perms
  pub good : names_good f ≡ true → good_parts (class name perms) ≡ true

one-or-more : (ps qs : List Name) → one_or_more ps ≡ some qs → (ps ≡ qs) × (every is_good_part ps ≡ true → good_permissions ps ≡ true)
one-or-more [] qs h = absurd (none-ne-some qs h)
one-or-more (p ∷ ps) qs h = (some-injective (p ∷ ps) qs h, λ g. g)

class-row : (f : Forms) (d : Declaration) → formed class_k f ≡ some (declare d) → ClassRow f d
unfolding names_good
class-row closed d h = absurd (none-ne-some (declare d) h)
class-row ended d h = absurd (none-ne-some (declare d) h)
class-row (part p i r) d h = absurd (none-ne-some (declare d) h)
class-row (word at w closed) d h = absurd (none-ne-some (declare d) h)
class-row (word at w ended) d h = absurd (none-ne-some (declare d) h)
class-row (word at w (word p v r)) d h = absurd (none-ne-some (declare d) h)
class-row (word at w (part p i ended)) d h = absurd (none-ne-some (declare d) h)
class-row (word at w (part p i (word q v r))) d h = absurd (none-ne-some (declare d) h)
class-row (word at w (part p i (part q j r))) d h = absurd (none-ne-some (declare d) h)
class-row (word at w (part p i closed)) d h =
    bound-then (as_part w) _ (declare d) h λ c named h.
    bound-then (row_of as_part i) _ (declare d) h λ ps names h.
    bound-then (one_or_more ps) _ (declare d) h λ qs more h.
    let is_c = (given-some (dotless w && not (is_reserved w)) w c named).1 in
    let many = one-or-more ps qs more in
    record {
      place = at;
      name = w;
      opening = p;
      row = i;
      form = refl;
      perms = ps;
      names = names;
      is = sym (declared_same (class c qs) d (some-injective (declare (class c qs)) (declare d) h)) ∙ sym (ap₂ class is_c many.0);
      good = λ g.
          let b = both_true (is_name w) (names_good i && true) g in
          true-both (is_good_part w) (good_permissions ps) (subst (λ (x : Name). is_good_part x ≡ true) (sym is_c) ((part-good w b.0).has c named))
          (many.1 (names-good i ps (both_true (names_good i) true b.1).0 names));
    }

pub class-has-word : (t : List ℕ) (at : ℕ) (d : Declaration) → words_in (frames_at t at).here ≡ [] → formed class_k (frames_at t at).here ≡ some (declare d) → ⊥
unfolding words_in
class-has-word t at d h f =
    let c = class-row (frames_at t at).here d f in
    no-first c.name (words_in (part c.opening c.row closed)) (sym h ∙ ap words_in c.form)
  where
    no-first : (w : Name) (ws : List Name) → [] ≡ w ∷ ws → ⊥
    no-first w ws e = let z : ◌≡◌ {A = ℕ} 0 1 = cc in omega arith

pub class-here : {t : List ℕ} {at start len row : ℕ} → WordHere t at start len → Inside t (start + len) row → (d : Declaration) → names_good (frames_at t at).here ≡ true
    → formed class_k (frames_at t at).here ≡ some (declare d)
    → (d ≡ class (parts.part t start len) (words_in (frames_at t row).here)) × (good_parts (class (parts.part t start len) (words_in (frames_at t row).here)) ≡ true)
class-here {t} {at} {start} {len} {row} h i d g f =
    let c = class-row (frames_at t at).here d f in
    let same = same-words (sym c.form ∙ h.here) in
    let inner : (frames_at t row).here ≡ c.row = i.row c.opening c.row closed (sym same.1) in
    let perms : c.perms ≡ words_in (frames_at t row).here = sym (ap words_in inner ∙ names-words c.row c.perms c.names) in
    let is : class c.name c.perms ≡ class (parts.part t start len) (words_in (frames_at t row).here) = ap₂ class same.0 perms in
    (c.is ∙ is, subst (λ (x : Declaration). good_parts x ≡ true) is (c.good g))
