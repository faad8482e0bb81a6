-- The question name-of shows the name that the declarations give. Assumes nothing.
use Prim.Native.Nat.{ℕ, zero, suc, ◌+◌, ◌/◌, ◌%◌, ◌<◌, ◌≤◌}
use native.Mathlib.Omega.{arith}
use mathlib.Core.Path.{◌≡◌, refl, sym, ap, ◌∙◌}
use mathlib.Core.Bool.{Bool, true, false, ◌&&◌, cond}
use mathlib.Core.List.{List, [], ◌∷◌, ◌++◌, append_assoc, append-nil}
use mathlib.Core.Option.{none, some}
use lib.Dec.{eqb}
use lib.ListN.{length, get_elem?, take, drop}
use lib.Seq.{drop-drop, drop-append_seam, take-append_seam}
use borrow.Author.Tests.{ne_eqb}
use Rattle.bitset.specs.Relations.{joined}
use Rattle.policy.specs.Basics.{◌>>=◌, each, le, All}
use Rattle.policy.specs.Statements.{users, roles, types, thing_of, attribute_of, Declaration, names_of, class_names, permissions}
use Rattle.policy.specs.Image.{Image}
use Rattle.policy.specs.Encode.{NameEntry, entry_bytes, entries, bodies, sections_of, first_body, encode}
use Rattle.policy.specs.Sound.{good_from, sort_of, well_formed}
use Rattle.policy.specs.Deciding.{answered}
use Rattle.policy.specs.Questions.{name_from, name_of}
use Rattle.table_laws.specs.SoundTable.{FitsEdition}
use Rattle.table_laws.specs.Shown.{shown, or_twelve, name_in}
use Rattle.policy.proofs.Gathered.{all_map}
use Rattle.table_laws.proofs.NamesFit.{GoodEntry, entries_fit}
use Rattle.table_laws.proofs.WellFormed.{formed}
use Rattle.table_laws.proofs.LayoutLaws.{table-bodies}
use Rattle.table_laws.proofs.Numbered.{named, Other, over, thing-named, class-named}
use Rattle.table_laws.proofs.PermissionNumbered.{permission-named}

-- entries that are from o on
from-shown : (s n : ℕ) (es : List NameEntry) (o : ℕ) (t rest : List ℕ) → drop o t ≡ joined (each entry_bytes es) ++ rest
    → shown t (name_from s n o es) ≡ or_twelve (named s n es)
unfolding name_from named joined each
from-shown s n [] o t rest h = refl
from-shown s n (e ∷ es) o t rest h = by (eqb e.sort s && eqb e.number n) (from-shown s n es (o + length (entry_bytes e)) t rest behind)
  where
    after : List ℕ
    after = joined (each entry_bytes es) ++ rest

    front : drop o t ≡ entry_bytes e ++ after
    front = h ∙ append_assoc (entry_bytes e) (joined (each entry_bytes es)) rest

    behind : drop (o + length (entry_bytes e)) t ≡ after
    behind = sym (drop-drop (length (entry_bytes e)) o t) ∙ ap (drop (length (entry_bytes e))) front ∙ drop-append_seam (entry_bytes e) after

    name : take (length e.name) (drop (o + 4) t) ≡ e.name
    name = ap (take (length e.name)) (sym (drop-drop 4 o t) ∙ ap (drop 4) front ∙ four) ∙ take-append_seam e.name after
      where
        four : drop 4 (entry_bytes e ++ after) ≡ e.name ++ after
        four = unfold le in refl

    by : (b : Bool) → shown t (name_from s n (o + length (entry_bytes e)) es) ≡ or_twelve (named s n es)
        → shown t (cond b (answered (record { start = o + 4; size = length e.name })) (name_from s n (o + length (entry_bytes e)) es)) ≡ or_twelve
        (cond b (some e.name) (named s n es))
    by true k = ap answered name
    by false k = k

-- no entry has a sort from 8 on
no-sort : (ds : List Declaration) → All GoodEntry (entries ds) → (s n : ℕ) → 8 ≤ s → named s n (entries ds) ≡ none
unfolding named
no-sort ds g s n h =
    ap (named s n) (sym (append-nil (entries ds)))
    ∙ over s n (entries ds) [] (all_map GoodEntry (Other s) (λ e x q. omega (arith, x.sort, q)) (entries ds) g)

good : (ds : List Declaration) → good_from [] ds ≡ true → All GoodEntry (entries ds)
unfolding entries
good ds h = entries_fit [] ds h

-- the name of a sort and number
name-named : (i : Image) → well_formed i ≡ true → (s n : ℕ) → named s n (entries i.names) ≡ name_in i.names s n
unfolding name_in
name-named i h zero n = thing-named (thing_of users) i.names n
name-named i h (suc zero) n = thing-named (thing_of roles) i.names n
name-named i h (suc (suc zero)) n = thing-named (thing_of types) i.names n
name-named i h (suc (suc (suc zero))) n = thing-named (attribute_of users) i.names n
name-named i h (suc (suc (suc (suc zero)))) n = thing-named (attribute_of roles) i.names n
name-named i h (suc (suc (suc (suc (suc zero))))) n = thing-named (attribute_of types) i.names n
name-named i h (suc (suc (suc (suc (suc (suc zero)))))) n = class-named i.names n
name-named i h (suc (suc (suc (suc (suc (suc (suc zero))))))) n = permission-named i.names (formed i h).names n
name-named i h (suc (suc (suc (suc (suc (suc (suc (suc s)))))))) n = beyond (suc (suc (suc (suc (suc (suc (suc (suc s)))))))) (omega arith) refl
  where
    beyond : (s : ℕ) → 8 ≤ s → sort_of s ≡ none
        → named s n (entries i.names)
        ≡ cond (eqb s 6) (get_elem? (class_names i.names) n)
        (cond (eqb s 7) (get_elem? (permissions i.names (n / 32)) (n % 32)) (sort_of s >>= λ s. get_elem? (names_of s i.names) n))
    beyond s l q = rw (ne_eqb s 6 (λ x. omega arith), ne_eqb s 7 (λ x. omega arith), q) (no-sort i.names (good i.names (formed i h).names) s n l)

-- THE NAME SHOWN IS THE ONE DECLARED, whatever is after the table; and where there is none the answer is 12
pub name-shown : (e : ℕ) (i : Image) → 0 < sections_of e → FitsEdition e i → well_formed i ≡ true → (rest : List ℕ) (s n : ℕ)
    → shown (encode e i ++ rest) (name_of e i s n) ≡ or_twelve (name_in i.names s n)
unfolding name_of bodies joined
name-shown e i known fits h rest s n =
    from-shown s n (entries i.names) (first_body e) (encode e i ++ rest) (joined (drop 1 (bodies i)) ++ rest)
    (table-bodies e i known fits rest ∙ append_assoc (joined (each entry_bytes (entries i.names))) (joined (drop 1 (bodies i))) rest)
    ∙ ap or_twelve (name-named i h s n)
