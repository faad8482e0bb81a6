-- What the parser leaves is what the resolver and the table's writer ask for. Assumes nothing.
use Prim.Native.Nat.{ℕ, ◌*◌}
use native.Mathlib.Omega.{arith}
use mathlib.Core.Path.{◌≡◌, sym, ap, subst, ◌∙◌}
use mathlib.Core.List.{List, []}
use lib.ListN.{length, take, drop, length-take}
use lib.Seq.{take-take}
use Rattle.policy.specs.Statements.{Family, thing_of, attribute_of, Policy, declarations}
use Rattle.policy.specs.Meaning.{count_in}
use Rattle.policy.specs.Image.{image_of}
use Rattle.policy.specs.Encode.{sort_code, bodies}
use Rattle.statement_code.specs.Code.{code_of}
use Rattle.declarations.specs.SortCounts.{Counts}
use Rattle.declarations.specs.Declares as declaring
use Rattle.declarations.specs.Declares.{section_of}
use Rattle.statement_reader.specs.declared.Progress.{Progress}
use Rattle.statement_reader.specs.Memory.{Memory, symbols_of, constraints_of, rows_of, relabels_of, relabel_rows_of, constraint_room, row_room, Starts, Holds}
use Rattle.statement_reader.proofs.MemoryLaws.{front}
use Rattle.table_writer.specs.declared.Sizes.{Sizes}
use Rattle.table_writer.specs.TableSizes.{body, attributes_in, SizesOf}
use Rattle.table_writer.specs.TableBodies.{Copied}
use Rattle.symbols.specs.Section.{name_bytes}

-- the content in front of the first n bytes of a memory
front_of : (n : ℕ) (lent now : List ℕ) {content : List ℕ} {end : ℕ} → Starts (take n lent) content (take n now) end → take end now ≡ content
front_of n lent now {content} {end} s = sym (take-take end n now (omega (arith, s.ends, s.fits, length-take n lent))) ∙ front s

-- how many of a sort the symbols count
module _ (p : Policy) {table : List ℕ} {end sort r : ℕ} (f : Family) (s : declaring.Holds table end (declarations p)) (counts : Counts table sort r) where
  pub things-counted : sort ≡ sort_code (thing_of f) → r ≡ count_in p f
  unfolding count_in
  things-counted e = counts.things end (declarations p) (thing_of f) s e

  pub attributes-counted : sort ≡ sort_code (attribute_of f) → r ≡ attributes_in p f
  attributes-counted e = counts.things end (declarations p) (attribute_of f) s e

module _ {p : Policy} {lent now : Memory} {s : Progress} (h : Holds p [] lent now s) where
  -- the symbols end before their chains
  symbols-front : take s.symbols now.symbols ≡ symbols_of p
  symbols-front = front_of name_bytes lent.symbols now.symbols h.filled.symbols

  pub symbols-held : declaring.Holds now.symbols s.symbols (declarations p)
  unfolding symbols_of
  symbols-held = record {
    front = symbols-front;
    inside = omega (arith, h.filled.chained.below, h.filled.chained.room);
    good = h.accepted.names;
    chained = h.filled.chained;
  }

  pub names-long : s.symbols ≡ length (body 0 p)
  unfolding symbols_of section_of bodies image_of
  names-long = h.filled.symbols.ends

  names-front : take s.symbols now.symbols ≡ body 0 p
  unfolding symbols_of section_of bodies image_of
  names-front = symbols-front

  constraints-front : take (10 * s.constraints) now.constraints ≡ body 5 p
  unfolding constraints_of bodies image_of
  constraints-front = front_of constraint_room lent.constraints now.constraints h.filled.constraints

  rows-front : take (6 * s.rows) now.rows ≡ body 6 p
  unfolding rows_of bodies image_of
  rows-front = front_of row_room lent.rows now.rows h.filled.rows

  relabels-front : take (4 * s.relabels) (drop constraint_room now.constraints) ≡ body 8 p
  unfolding relabels_of bodies image_of
  relabels-front = front h.filled.relabel-records

  relabel-rows-front : take (6 * s.relabel_rows) (drop row_room now.rows) ≡ body 9 p
  unfolding relabel_rows_of bodies image_of
  relabel-rows-front = front h.filled.relabel-rows

  -- by the sizes of the table
  pub copied : {z : Sizes} → SizesOf p z → Copied p z now.symbols now.constraints now.rows
  copied sizes = record {
    names = ap (λ (n : ℕ). take n now.symbols) (sizes.names ∙ sym names-long) ∙ names-front;
    constraints = ap (λ (n : ℕ). take (10 * n) now.constraints) (sizes.constraints ∙ sym h.filled.constraint-count) ∙ constraints-front;
    rows = ap (λ (n : ℕ). take (6 * n) now.rows) (sizes.rows ∙ sym h.filled.row_count_lem) ∙ rows-front;
    relabels = ap (λ (n : ℕ). take (4 * n) (drop constraint_room now.constraints)) (sizes.relabels ∙ sym h.filled.relabel-count) ∙ relabels-front;
    relabel-rows = ap (λ (n : ℕ). take (6 * n) (drop row_room now.rows)) (sizes.relabel-rows ∙ sym h.filled.relabel-row-count) ∙ relabel-rows-front;
  }

  pub code-taken : take s.code now.code ≡ code_of p
  code-taken = front h.filled.code

  pub symbols-in : {table : List ℕ} → now.symbols ≡ table → declaring.Holds table s.symbols (declarations p)
  symbols-in e = subst (λ (t : List ℕ). declaring.Holds t s.symbols (declarations p)) e symbols-held
