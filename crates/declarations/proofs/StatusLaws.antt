-- What the chains say of a sort and of a name: how many entries the sort has, and whether the name's family has it. Assumes nothing.
use Rattle.std.specs.Prelude.{Err, Ok}
use Rattle.policy.specs.declared.Fault.{Fault}
use mathlib.Core.Path.{◌≡◌, sym, ap, ◌∙◌}
use mathlib.Core.List.{List}
use Prim.Native.Nat.{ℕ, ◌+◌, ◌<◌}
use native.Mathlib.Omega.{arith}
use lib.ListN.{length}
use Rattle.policy.specs.Basics.{Name}
use Rattle.policy.specs.Statements.{Declaration, class_names}
use Rattle.policy.specs.Statements as statements
use Rattle.policy.specs.Encode.{entries}
use Rattle.policy.proofs.Sorts.{code_below}
use Rattle.symbols.specs.Lookup.{family_number, first_named, count_sort, found_at}
use Rattle.name_index.specs.Index.{word_in, index_bytes}
use Rattle.name_chains.specs.Chains.{Tries}
use Rattle.name_chains.specs.declared.Tried.{Tried}
use Rattle.std.specs.Prelude.{Option, None}
use Rattle.symbols.specs.declared.Symbol.{Symbol}
use Rattle.symbols.proofs.CountLaws.{count-things, count-classes}
use Rattle.declarations.specs.SortCounts.{standing, Counts, Stands}
use Rattle.declarations.specs.Declares.{Holds}

-- ---- counts

module _ {t : List ℕ} {sort r : ℕ} where
  count-is : r ≡ word_in t (6436 + sort) → sort < 8 → (end : ℕ) (ds : List Declaration) → Holds t end ds → r ≡ count_sort sort (entries ds)
  count-is h l end ds y = h ∙ y.chained.counts sort l

  pub counts : r ≡ word_in t (6436 + sort) → sort < 8 → Counts t sort r
  counts h l = record {
    things = λ end ds s y e. count-is h l end ds y ∙ ap (λ (k : ℕ). count_sort k (entries ds)) e ∙ count-things s ds;
    classes = λ end ds y e. count-is h l end ds y ∙ ap (λ (k : ℕ). count_sort k (entries ds)) e ∙ count-classes ds;
  }

  -- symbols have an index; no sort has such a number
  pub no_index : length t < index_bytes → Counts t sort r
  no_index h = record { things = λ end ds s y e. absurd (omega (arith, y.chained.room)); classes = λ end ds y e. absurd (omega (arith, y.chained.room)) }

  pub no-sort : 7 < sort → Counts t sort r
  no-sort h = record { things = λ end ds s y e. absurd (omega (arith, code_below s)); classes = λ end ds y e. absurd (omega arith) }

-- ---- names

module _ {t : List ℕ} (sort : ℕ) {family : ℕ} {w : Name} {tried : Tried} (f : family ≡ family_number sort 0) (h : Tries t family w tried) where
  looked : (end : ℕ) (ds : List Declaration) → Holds t end ds → tried.found ≡ first_named (family_number sort 0) w (entries ds)
  looked end ds y = (h.tries end (entries ds) y.chained).finds ∙ ap (λ (n : ℕ). first_named n w (entries ds)) f

  pub is-taken : (s n : ℕ) → tried.found ≡ found_at s n → Stands t sort w (Err Fault.DeclaredAgain)
  is-taken s n e = record {
    names = λ end ds k y q. ap (λ (x : Option Symbol). standing x (statements.count k ds)) (sym e ∙ looked end ds y);
    classes = λ end ds y q. ap (λ (x : Option Symbol). standing x (length (class_names ds))) (sym e ∙ looked end ds y);
  }

  pub is_free : {r : ℕ} → tried.found ≡ None → Counts t sort r → Stands t sort w (Ok r)
  is_free e c = record {
    names = λ end ds k y q. ap Ok (c.things end ds k y q) ∙ ap (λ (x : Option Symbol). standing x (statements.count k ds)) (sym e ∙ looked end ds y);
    classes = λ end ds y q. ap Ok (c.classes end ds y q) ∙ ap (λ (x : Option Symbol). standing x (length (class_names ds))) (sym e ∙ looked end ds y);
  }
