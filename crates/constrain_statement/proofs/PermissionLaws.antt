-- The class and the permissions of a constrain of good form, item by item. Assumes nothing.
use mathlib.Core.Path.{◌≡◌, refl, sym, ap, subst, ◌∙◌}
use mathlib.Core.Bool.{false}
use mathlib.Core.List.{List, [], ◌∷◌}
use mathlib.Core.Option.{Option, none, some, some-injective}
use Prim.Native.Nat.{ℕ, ◌+◌, ◌-◌}
use native.Mathlib.Omega.{arith}
use types.Run.{OneOf}
use Rattle.std.specs.Prelude as prelude
use Rattle.std.specs.Prelude.{None, Some}
use Rattle.lexer.specs.Scan.{max_level}
use Rattle.lexer.specs.Forms.{closed, part, frames_at, trim}
use Rattle.lexer.proofs.Trim.{starts_part}
use Rattle.policy.specs.Basics.{Name, ◌>>=◌}
use Rattle.policy.specs.Words.{as_part}
use Rattle.policy.specs.Grammar.{row_of}
use Rattle.policy.specs.Image.{mask_of}
use Rattle.table_laws.proofs.ListLaws.{bound-then}
use Rattle.policy.specs.Names.{Environment}
use Rattle.scopes.specs.Symbols.{Symbols}
use Rattle.items.specs.Looks.{item_at, row_end}
use Rattle.items.specs.Reads.{is_closed}
use Rattle.items.specs.declared.Item.{Item}
use Rattle.items.proofs.Items.{Looked, Alike, by_part}
use Rattle.items.proofs.Counts.{trim-names}
use Rattle.constrain_statement.specs.ClassNames.{Classes}
use Rattle.constrain_statement.specs.ClassPermissions.{numbers_of, mask_in, Masks, ScopeForm, Scopes}
use Rattle.constrain_statement.specs.declared.NamedClass.{NamedClass}
use Rattle.constrain_statement.specs.declared.PermissionMask.{PermissionMask}
use Rattle.constrain_statement.proofs.Masks.{tag}
use Rattle.constrain_statement.proofs.ClassLaws.{not_there, no_part, same_parts, class-told}

no-close : Alike is_closed (λ f. false) (0 ∷ 1 ∷ 3 ∷ [])
no-close = (λ s b f. refl, λ x f g. refl, tt, refl)

-- ---- what is where, by the form

-- the levels that are left in the part that holds them
abbrev levels : ℕ
levels = max_level - 2

module _ {t table : List ℕ} {at : ℕ} {n : NamedClass} (k : Classes t at table (Some n)) {env : Environment} (y : Symbols table env) {c : Name} {ps : List Name}
    (h : ScopeForm (trim (frames_at t at).here levels) c ps) where
  class-then : (env.class c ≡ some n.class) × (trim (frames_at t n.next).here levels ≡ part h.place h.inner closed)
  class-then = k.says env levels h.start c (part h.place h.inner closed) y h.row

  module _ {p j : ℕ} (l2 : Looked t n.next (Item.Open p j)) where
    behind-open : (trim (frames_at t j).here (levels - 1) ≡ h.inner) × (trim (frames_at t (row_end t j)).here levels ≡ closed)
    behind-open = same_parts (sym (by_part (λ f. f) levels (row_end t j) l2 refl (λ z. omega arith)) ∙ class-then.1)

    names-there : row_of as_part (frames_at t j).here ≡ some ps
    names-there = sym (trim-names as_part (frames_at t j).here (levels - 1)) ∙ ap (row_of as_part) behind-open.0 ∙ h.names

    close-there : (o : ℕ) → row_end t j ≡ o → trim (frames_at t o).here levels ≡ closed
    close-there o e = subst (λ (x : ℕ). trim (frames_at t x).here levels ≡ closed) e behind-open.1

-- ---- the answers

no-mask : (o : Option (List ℕ)) → none ≡ (o >>= λ ns. some (mask_of ns)) → o ≡ none
no-mask none e = refl
no-mask (some ns) e = absurd (let z : ◌≡◌ {A = ℕ} 0 1 = cc in omega arith)

module _ {t table : List ℕ} {at : ℕ} {r : prelude.Option NamedClass} (k : Classes t at table r) where
  pub no-class : r ≡ None → Scopes t at table None
  no-class d = record {
    place = tt;
    says = λ env c ps y h. ap (λ (o : Option ℕ). o >>= λ n. numbers_of env n ps) ((class-told k d).says env levels h.start c _ y h.row);
  }

  module _ {n : NamedClass} (d : r ≡ Some n) where
    pub part-missing : {i : Item} → i ≡ item_at t n.next → OneOf (0 ∷ 2 ∷ 3 ∷ []) (tag i) → Scopes t at table None
    part-missing e o = record {
      place = tt;
      says = λ env c ps y h. not_there starts_part t n.next levels _ (class-then (class-told k d) y h).1 refl (0 ∷ 2 ∷ 3 ∷ []) no_part e o;
    }

    module _ {p j : ℕ} (l2 : Looked t n.next (Item.Open p j)) where
      numbers-there : {m : prelude.Option PermissionMask} → Masks t j table (4 + n.class) m → {env : Environment} {c : Name} {ps : List Name} → Symbols table env
          → ScopeForm (trim (frames_at t at).here levels) c ps → mask_in m ≡ (numbers_of env n.class ps >>= λ ns. some (mask_of ns))
      numbers-there m {env} {c} {ps} y h = m.says env n.class ps y refl (names-there (class-told k d) y h l2)

      pub permission-undeclared : {x : prelude.Option PermissionMask} → Masks t j table (4 + n.class) x → x ≡ None → Scopes t at table None
      permission-undeclared m e = record {
        place = tt;
        says = λ env c ps y h.
            ap (λ (o : Option ℕ). o >>= λ n. numbers_of env n ps) (class-then (class-told k d) y h).0
            ∙ no-mask (numbers_of env n.class ps) (sym (ap mask_in e) ∙ numbers-there m y h);
      }

      module _ {x : prelude.Option PermissionMask} {o : PermissionMask} (m : Masks t j table (4 + n.class) x) (e : x ≡ Some o) where
        told : Masks t j table (4 + n.class) (Some o)
        told = subst (Masks t j table (4 + n.class)) e m

        pub close-missing : {i : Item} → i ≡ item_at t o.next → OneOf (0 ∷ 1 ∷ 3 ∷ []) (tag i) → Scopes t at table None
        close-missing a i = record {
          place = tt;
          says = λ env c ps y h. not_there is_closed t o.next levels _ (close-there (class-told k d) y h l2 o.next told.place) refl (0 ∷ 1 ∷ 3 ∷ []) no-close a i;
        }

        pub scoped : {z : ℕ} → Looked t o.next (Item.Close z) → Scopes t at table (Some (record { class = n.class; mask = o.mask; next = z }))
        scoped l3 = record {
          place = (class-told k d).place.0 ∙ l2.end ∙ ap (row_end t) told.place ∙ l3.end;
          says = λ env c ps y h.
              bound-then (numbers_of env n.class ps) (λ ns. some (mask_of ns)) o.mask (sym (numbers-there told y h)) λ ns a b.
              record {
                numbers = ns;
                class-is = (class-then (class-told k d) y h).0;
                permissions-are = a;
                mask_is = sym (some-injective (mask_of ns) o.mask b);
              };
        }
