-- A row of permissions of a class as a mask: what is left of the row adds to the mask so far what the whole row adds to none. Assumes nothing.
use mathlib.Core.Path.{◌≡◌, refl, sym, ap, subst, ◌∙◌}
use mathlib.Core.Bool.{not, ◌&&◌, ◌||◌}
use mathlib.Core.List.{List, [], ◌∷◌}
use mathlib.Core.Option.{Option, none, some, some-injective}
use Prim.Native.Nat.{ℕ, ◌+◌, ◌-◌, ◌*◌, ◌%◌, ◌^◌, ◌<◌}
use native.Mathlib.Omega.{arith}
use lib.Dec.{eqb}
use lib.ListN.{take, drop}
use types.Run.{OneOf}
use denote.Enum.Declared.{tag_of}
use Rattle.bitset.specs.Sets.{bit, from_bits}
use Rattle.bitset.proofs.BitLaws.{from_bits-lt}
use Rattle.lexer.specs.Forms.{Forms, word, frames_at}
use Rattle.policy.specs.Basics.{Name, ◌>>=◌, more, each_of}
use Rattle.policy.specs.Words.{is_reserved, dotless, as_part}
use Rattle.policy.specs.Grammar.{row_of}
use Rattle.policy.specs.Image.{mask_of}
use Rattle.table_laws.proofs.ListLaws.{more-some}
use Rattle.policy.specs.Names.{Environment}
use Rattle.policy.proofs.Options.{given-some}
use Rattle.symbols.specs.SearchAnswers.{found_permission}
use Rattle.scopes.specs.Symbols.{Symbols, LooksPermission}
use Rattle.std.specs.Prelude as prelude
use Rattle.std.specs.Prelude.{None}
use Rattle.symbols.specs.Lookup.{found_at}
use Rattle.symbols.specs.declared.Symbol.{Symbol}
use Rattle.symbols.proofs.SymbolLaws.{found-same}
use Rattle.scopes.proofs.Bounds.{bounded}
use Rattle.items.specs.Looks.{item_at, row_end}
use Rattle.items.specs.declared.Item.{Item}
use Rattle.items.proofs.Items.{Looked, word-lent, alike-here}
use Rattle.items.specs.contracts.Item.{the_type}
use Rattle.constraint_writer.proofs.WrittenRows.{never}
use Rattle.constrain_statement.specs.ClassPermissions.{numbers_of, Masks}
use Rattle.std.specs.Prelude.{None, Some}
use Rattle.constrain_statement.proofs.MaskBits.{gained, gained-of-none, gained-nothing, gained-one}

-- the mask with the numbers that are there
abbrev added : ℕ → Option (List ℕ) → Option ℕ
added m o = o >>= λ ns. some (gained m ns)

from-none : (o : Option (List ℕ)) → added 0 o ≡ (o >>= λ ns. some (mask_of ns))
from-none none = refl
from-none (some ns) = ap some (gained-of-none ns)

one-first : (m k : ℕ) (o : Option (List ℕ)) → added (from_bits 32 (λ j. bit m j || eqb j k)) o ≡ added m (more (some k) o)
one-first m k none = refl
one-first m k (some ns) = ap some (gained-one m k ns)

-- what is left of the permissions ps in the row f, where the mask so far is m
pub record Left (env : Environment) (c : ℕ) (ps : List Name) (f : Forms) (m : ℕ) : Type 0 where
  pub rest : List Name
  pub names : row_of as_part f ≡ some rest
  pub total : added m (numbers_of env c rest) ≡ added 0 (numbers_of env c ps)

-- the row at the place at is read up to the place i
pub record Going (t : List ℕ) (at : ℕ) (table : List ℕ) (family i m : ℕ) : Type 0 where
  pub same_row : row_end t i ≡ row_end t at
  pub small : m < 2 ^ 32
  pub left : (env : Environment) (c : ℕ) (ps : List Name) → Symbols table env → family ≡ 4 + c → row_of as_part (frames_at t at).here ≡ some ps
      → Left env c ps (frames_at t i).here m

pub begun : {t : List ℕ} {at : ℕ} {table : List ℕ} {family : ℕ} → Going t at table family at 0
begun = record { same_row = refl; small = omega arith; left = λ env c ps y e h. record { rest = ps; names = h; total = refl } }

-- ---- one name

pub record FirstName (w : Name) (f : Forms) (rest : List Name) : Type 0 where
  pub others : List Name
  pub row : rest ≡ w ∷ others
  pub names : row_of as_part f ≡ some others

first-name : (s : ℕ) (w : Name) (f : Forms) (rest : List Name) → row_of as_part (word s w f) ≡ some rest → FirstName w f rest
unfolding row_of
first-name s w f rest h =
    let p = more-some (as_part w) (row_of as_part f) rest h in
    let same = (given-some (dotless w && not (is_reserved w)) w p.0 p.2).1 in
    record { others = p.1; row = p.4 ∙ ap (λ (v : Name). v ∷ p.1) (sym same); names = p.3 }

-- what a permission's name is found as is its place in the class
pub record Numbered (env : Environment) (c : ℕ) (w : Name) (number : ℕ) : Type 0 where
  pub place : ℕ
  pub index : env.permission c w ≡ some place
  pub low : number % 32 ≡ place

module _ {table : List ℕ} {env : Environment} (y : Symbols table env) (c : ℕ) (w : Name) where
  found_as : (family : ℕ) → family ≡ 4 + c → (r : prelude.Option Symbol) → LooksPermission table family w r → r ≡ found_permission c (env.permission c w)
  found_as family e r h = h.permissions env c y (sym e)

  numbered : (sort number : ℕ) → found_at sort number ≡ found_permission c (env.permission c w) → Numbered env c w number
  numbered sort number h = go (env.permission c w) refl h
    where
      go : (o : Option ℕ) → env.permission c w ≡ o → found_at sort number ≡ found_permission c o → Numbered env c w number
      go none p g = absurd (let z : ◌≡◌ {A = ℕ} 0 1 = cc in omega arith)
      go (some k) p g =
          let z : number ≡ c * 32 + k = (found-same g).1 in
          record {
            place = k;
            index = p;
            low = omega (arith, (bounded y).permissions c w k p);
          }

  not-numbered : None ≡ found_permission c (env.permission c w) → env.permission c w ≡ none
  not-numbered h = go (env.permission c w) refl h
    where
      go : (o : Option ℕ) → env.permission c w ≡ o → None ≡ found_permission c o → env.permission c w ≡ none
      go none p g = p
      go (some k) p g = absurd (let z : ◌≡◌ {A = ℕ} 0 1 = cc in omega arith)

-- ---- the loop

-- the place of an item among the variants
abbrev pub tag : Item → ℕ
tag k = tag_of the_type k

module _ {t : List ℕ} {at : ℕ} {table : List ℕ} {family i m : ℕ} (g : Going t at table family i m) where
  module _ {s n k q : ℕ} (l : Looked t i (Item.Word s n k q)) {r : prelude.Option Symbol} (lent : LooksPermission table family (take ((s + n) - s) (drop s t)) r) where
    h : LooksPermission table family (take n (drop s t)) r
    h = subst (λ (w : Name). LooksPermission table family w r) (word-lent t s n) lent

    name-first : {env : Environment} {c : ℕ} {ps : List Name} (x : Left env c ps (frames_at t i).here m) → FirstName (take n (drop s t)) (frames_at t q).here x.rest
    name-first x = first-name s (take n (drop s t)) (frames_at t q).here x.rest (sym (ap (row_of as_part) l.here) ∙ x.names)

    pub one_more : {sort number v : ℕ} → r ≡ found_at sort number → v ≡ from_bits 32 (λ j. bit m j || eqb j (number % 32)) → Going t at table family q v
    unfolding each_of
    one_more {sort} {number} {v} d e = record {
      same_row = sym l.end ∙ g.same_row;
      small = subst (λ (x : ℕ). x < 2 ^ 32) (sym e) (from_bits-lt 32 (λ j. bit m j || eqb j (number % 32)));
      left = λ env c ps y f b.
          let x = g.left env c ps y f b in
          let a = name-first x in
          let w = take n (drop s t) in
          let p = numbered y c w sort number (sym d ∙ found_as y c w family f r h) in
          record {
            rest = a.others;
            names = a.names;
            total =
                ap (λ (z : ℕ). added z (numbers_of env c a.others)) (e ∙ ap (λ (z : ℕ). from_bits 32 (λ j. bit m j || eqb j z)) p.low)
                ∙ one-first m p.place (numbers_of env c a.others)
                ∙ ap (λ (o : Option ℕ). added m (more o (numbers_of env c a.others))) (sym p.index)
                ∙ ap (λ (z : List Name). added m (numbers_of env c z)) (sym a.row)
                ∙ x.total;
          };
    }

    pub not-of-class : r ≡ None → Masks t at table family None
    unfolding each_of
    not-of-class d = record {
      place = tt;
      says = λ env c ps y f b.
          let x = g.left env c ps y f b in
          let a = name-first x in
          let w = take n (drop s t) in
          let p = not-numbered y c w (sym d ∙ found_as y c w family f r h) in
          ap (λ (o : Option ℕ). added m (more o (numbers_of env c a.others))) (sym p)
          ∙ ap (λ (z : List Name). added m (numbers_of env c z)) (sym a.row)
          ∙ x.total
          ∙ from-none (numbers_of env c ps);
    }

  pub finished : {q : ℕ} → Looked t i (Item.Close q) → Masks t at table family (Some (record { mask = m; next = q }))
  unfolding row_of each_of
  finished l = record {
    place = sym g.same_row ∙ l.end;
    says = λ env c ps y f b.
        let x = g.left env c ps y f b in
        let none_left : [] ≡ x.rest = some-injective [] x.rest (sym (ap (row_of as_part) l.here) ∙ x.names) in
        sym (ap some (gained-nothing m g.small))
        ∙ ap (λ (z : List Name). added m (numbers_of env c z)) none_left
        ∙ x.total
        ∙ from-none (numbers_of env c ps);
  }

  pub no_names : {k : Item} → k ≡ item_at t i → OneOf (1 ∷ 3 ∷ []) (tag k) → Masks t at table family None
  unfolding row_of
  no_names {k} e o = record {
    place = tt;
    says = λ env c ps y f b.
        never (sym (alike-here (row_of as_part) (λ f. none) t i k (1 ∷ 3 ∷ []) (tt, λ x u v. refl, tt, refl) e o) ∙ (g.left env c ps y f b).names);
  }
