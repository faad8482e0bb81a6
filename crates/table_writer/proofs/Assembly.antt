-- The bodies as their writers leave them, and the table as header and bodies one after the other. Assumes nothing.
use mathlib.Core.Path.{◌≡◌, refl, sym, ap, ◌∙◌}
use mathlib.Core.List.{List, ◌++◌, append_assoc, append-nil}
use Prim.Native.Nat.{ℕ, ◌+◌, ◌*◌, ◌≤◌}
use native.Mathlib.Omega.{arith}
use native.Mathlib.Nat.{zero-add}
use lib.ListN.{length, take, drop, length-append, length-take}
use lib.Seq.{take_all}
use Rattle.byte_slices.specs.Parts.{part, put}
use Rattle.bitset.specs.Relations.{joined}
use Rattle.policy.specs.Basics.{each, le}
use Rattle.policy.specs.Statements.{Family, users, roles, types, userrole, roletype, roleallow, from_of, to_of, Policy, transitions}
use Rattle.policy.specs.Meaning.{count_in, related, final}
use Rattle.policy.specs.Accepted.{Accepted}
use Rattle.policy.specs.Answers.{relation_of}
use Rattle.policy.specs.declared.Relation.{Relation}
use Rattle.policy.specs.Image.{image_of, width, sets_of, transition_entry}
use Rattle.policy.specs.Encode.{transition_bytes, bodies, pairs, encode, sections_of, first_body, newest}
use Rattle.table_laws.proofs.LayoutLaws.{pairs-length}
use Rattle.statement_code.specs.Code.{code_of}
use Rattle.code_reader.specs.AttributeSets.{final_sets}
use Rattle.body_writer.specs.WrittenBytes.{Copies}
use Rattle.body_writer.specs.Bodies.{WritesRelation, WritesTransitions, WritesSets}
use Rattle.table_writer.specs.declared.Starts.{Starts}
use Rattle.table_writer.specs.PutBytes.{Puts}
use Rattle.table_writer.specs.TableSizes.{body, sections, first_sections, later_sections, attributes_in, StartsOf, header}
use Rattle.table_writer.proofs.BodyLengths.{transitions-long}
use Rattle.table_writer.proofs.HeaderLaws.{pairs-append}

-- what is copied
pub copy-puts : {src before after : List ℕ} {len at : ℕ} (n : ℕ) (bytes : List ℕ) → Copies src len before at after → len ≡ n → take n src ≡ bytes → n ≡ length bytes
    → Puts bytes before at after
copy-puts {src} {before} {after} {len} {at} n bytes f l e h = record {
  written = λ room.
      f.bytes (omega (arith, length-take n src, ap length e)) (omega arith) ∙ ap (put before at) (ap (λ (m : ℕ). take m src) l ∙ e);
}

-- what is copied from a part of the memory
pub part-puts : {src before after : List ℕ} {len at : ℕ} (memory : List ℕ) (from n : ℕ) (bytes : List ℕ) → Copies src len before at after → src ≡ part memory from len → len ≡ n
    → take n (drop from memory) ≡ bytes → n ≡ length bytes → Puts bytes before at after
unfolding part
part-puts {src} memory from n bytes f s l e h =
    let front : src ≡ bytes = s ∙ ap (λ (m : ℕ). take m (drop from memory)) l ∙ e in
    copy-puts n bytes f l (ap (take n) front ∙ take_all n bytes (omega (arith, h))) h

module _ (p : Policy) where
  pub user-roles-are : (many : ℕ) → many ≡ count_in p users → joined (sets_of many roles (related p userrole)) ≡ body 1 p
  unfolding bodies image_of count_in
  user-roles-are many e = ap (λ (n : ℕ). joined (sets_of n roles (related p userrole))) e

  pub role-types-are : (many : ℕ) → many ≡ count_in p roles → joined (sets_of many types (related p roletype)) ≡ body 2 p
  unfolding bodies image_of count_in
  role-types-are many e = ap (λ (n : ℕ). joined (sets_of n types (related p roletype))) e

  pub role-roles-are : (many : ℕ) → many ≡ count_in p roles → joined (sets_of many roles (related p roleallow)) ≡ body 3 p
  unfolding bodies image_of count_in
  role-roles-are many e = ap (λ (n : ℕ). joined (sets_of n roles (related p roleallow))) e

  transitions-are : joined (each transition_bytes (each (transition_entry p) (transitions p))) ≡ body 4 p
  unfolding bodies image_of
  transitions-are = refl

  pub transitions-puts : {code role_sets type_sets before after : List ℕ} {at : ℕ} → WritesTransitions code role_sets type_sets before at after → Accepted p → code ≡ code_of p
      → role_sets ≡ final_sets p roles → type_sets ≡ final_sets p types → Puts (body 4 p) before at after
  transitions-puts {before = before} {at = at} f ok code rs ts = record {
    written = λ room. f.body p ok code rs ts (omega (arith, transitions-long p ok)) ∙ ap (put before at) transitions-are;
  }

  pub sets-are : joined (sets_of (attributes_in p users) users (final p users)) ++
      (joined (sets_of (attributes_in p roles) roles (final p roles)) ++ joined (sets_of (attributes_in p types) types (final p types))) ≡ body 7 p
  unfolding bodies image_of
  sets-are = refl

  -- so many sets of a relation, made from the code and the final sets
  pub relation-puts : {code from to before after : List ℕ} {relation : Relation} {at many w : ℕ} (bytes : List ℕ) → WritesRelation code relation from to before at many w after
      → Accepted p → code ≡ code_of p → from ≡ final_sets p (from_of (relation_of relation)) → to ≡ final_sets p (to_of (relation_of relation)) → many ≤ 128
      → w ≡ width (to_of (relation_of relation)) → length bytes ≡ many * w → joined (sets_of many (to_of (relation_of relation)) (related p (relation_of relation))) ≡ bytes
      → Puts bytes before at after
  relation-puts {before = before} {relation = relation} {at = at} bytes f ok code from to few wide long is = record {
    written = λ room. f.body p (relation_of relation) refl ok code from to few wide (omega arith) ∙ ap (put before at) is;
  }

  -- the sets of a family's attributes
  pub sets-puts : {sets before after : List ℕ} {at many w : ℕ} (f : Family) → WritesSets sets many w before at after → sets ≡ final_sets p f → w ≡ width f
      → many ≡ attributes_in p f → attributes_in p f ≤ 64 → length (joined (sets_of (attributes_in p f) f (final p f))) ≡ attributes_in p f * w
      → Puts (joined (sets_of (attributes_in p f) f (final p f))) before at after
  sets-puts {before = before} {at = at} {many = many} {w = w} f g is wide e few long = record {
    written = λ room.
        g.body p f is wide (omega arith) (rw e (omega arith))
        ∙ ap (λ (n : ℕ). put before at (joined (sets_of n f (final p f)))) e;
  }

  -- the pairs of the first sections take up 64 bytes, and those of the later ones follow
  pub first-pairs-long : length (pairs (first_body newest) (first_sections p)) ≡ 64
  unfolding bodies
  first-pairs-long = pairs-length (first_sections p) (first_body newest)

  pub header_is : (r : Starts) → StartsOf p r
      → (le 2 newest ++ le 2 (sections_of newest)) ++ (pairs (first_body newest) (first_sections p) ++ pairs r.relabels (later_sections p)) ≡ header p
  unfolding bodies joined
  header_is r at =
      ap (λ (ps : List ℕ). (le 2 newest ++ le 2 (sections_of newest)) ++ ps) (sym (pairs-append (first_body newest) r.relabels (first_sections p) (later_sections p) ends))
      ∙ append_assoc (le 2 newest) (le 2 (sections_of newest)) (pairs (first_body newest) (first_sections p ++ later_sections p))
      ∙ ap (λ (bs : List (List ℕ)). header_of bs) all
    where
      header_of : List (List ℕ) → List ℕ
      header_of bs = le 2 newest ++ (le 2 (sections_of newest) ++ pairs (first_body newest) bs)

      all : first_sections p ++ later_sections p ≡ sections p
      all = refl

      joined-long : length (joined (first_sections p))
          ≡ length (body 0 p) + (length (body 1 p) + (length (body 2 p) + (length (body 3 p) + (length (body 4 p) + (length (body 5 p) + (length (body 6 p) + length (body 7 p)))))))
      joined-long = simp (length-append, append-nil)

      ends : r.relabels ≡ first_body newest + length (joined (first_sections p))
      ends = omega (
        arith,
        at.user-roles,
        at.role-types,
        at.role-roles,
        at.transitions,
        at.constraints,
        at.rows,
        at.user-sets,
        at.relabels,
        joined-long,
      )

  -- "the bodies follow .. in order, without gaps"
  pub table_is : header p ++ ((body 0 p ++ (body 1 p ++ (body 2 p ++ body 3 p))) ++ ((body 4 p ++ (body 5 p ++ body 6 p)) ++ (body 7 p ++ (body 8 p ++ body 9 p)))) ≡ encode newest (image_of p)
  unfolding encode bodies joined
  table_is = simp (append_assoc, append-nil)

  -- where the parts of the table end
  pub header-long : length (header p) ≡ first_body newest
  unfolding le bodies
  header-long = omega (arith, pairs-length (sections p) (first_body newest))

  pub relations-end : (r : Starts) → StartsOf p r → r.transitions ≡ first_body newest + length (body 0 p ++ (body 1 p ++ (body 2 p ++ body 3 p)))
  relations-end r at = omega (
    arith,
    at.user-roles,
    at.role-types,
    at.role-roles,
    at.transitions,
    length-append (body 0 p) (body 1 p ++ (body 2 p ++ body 3 p)),
    length-append (body 1 p) (body 2 p ++ body 3 p),
    length-append (body 2 p) (body 3 p),
  )

  pub rules-end : (r : Starts) → StartsOf p r → r.user_sets ≡ r.transitions + length (body 4 p ++ (body 5 p ++ body 6 p))
  rules-end r at = omega (
    arith,
    at.constraints,
    at.rows,
    at.user-sets,
    length-append (body 4 p) (body 5 p ++ body 6 p),
    length-append (body 5 p) (body 6 p),
  )

-- what is put in front is before the rest of the memory
pub puts-front : {bytes before after : List ℕ} → Puts bytes before 0 after → length bytes ≤ length before → after ≡ bytes ++ drop (length bytes) before
unfolding put
puts-front {bytes} {before} {after} f h = f.written (omega arith) ∙ ap (λ (n : ℕ). bytes ++ drop n before) (zero-add (length bytes))
