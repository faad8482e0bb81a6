-- Among the entries of declarations, number n of a sort is the nth thing of that sort. One law for the six sorts of things and attributes
-- and for the classes: the entries of that sort are numbered by how many there are before. By induction on the declarations. Assumes nothing.
use Prim.Native.Nat.{ℕ, zero, suc, ◌+◌, ◌*◌}
use native.Mathlib.Omega.{arith}
use native.Mathlib.Nat.{zero-add, add-zero}
use mathlib.Core.Path.{◌≡◌, refl, sym, ap, ◌∙◌}
use mathlib.Core.Logic.{◌⊎◌, inl, inr}
use mathlib.Core.Bool.{Bool, true, false, ◌&&◌, cond, false≢true}
use mathlib.Core.List.{List, [], ◌∷◌, ◌++◌}
use mathlib.Core.Option.{Option, none, some}
use lib.Dec.{eqb}
use lib.ListN.{length, get_elem?, length-append}
use borrow.Author.Tests.{eq-eqb, ne_eqb}
use Rattle.policy.specs.Basics.{Name, gather, keep, All}
use Rattle.policy.specs.Statements.{Sort, Declaration, plain, class, same_sort, of_sort, of_class, count, names_of, class_names}
use Rattle.policy.specs.Encode.{NameEntry, name_entry, sort_code, permission_entries, entries_of, entries_from, entries}
use Rattle.policy.proofs.Lists.{gather-over, gather-last}
use Rattle.policy.proofs.Sameness.{sort-same, sort-self}
use Rattle.policy.proofs.Sorts.{code_below, code-sort}

-- the name of the first entry of a sort and number
unfoldable pub named : ℕ → ℕ → List NameEntry → Option Name
named s n [] = none
named s n (e ∷ es) = cond (eqb e.sort s && eqb e.number n) (some e.name) (named s n es)

-- entries of other sorts are passed over
abbrev pub Other : ℕ → NameEntry → Type 0
Other s e = e.sort ≡ s → ⊥

pub over : (s n : ℕ) (es fs : List NameEntry) → All (Other s) es → named s n (es ++ fs) ≡ named s n fs
unfolding named
over s n [] fs h = refl
over s n (e ∷ es) fs h = rw (ne_eqb e.sort s h.0) (over s n es fs h.1)

-- what is in the entries of one declaration for those that f takes, under the code c
record Entered (c : ℕ) (f : Declaration → Option Name) (e : List Declaration) (d : Declaration) (w : Name) : Type 0 where
  takes : f d ≡ some w
  after : List NameEntry
  first : entries_of e d ≡ name_entry c (length (gather f e)) w ∷ after
  others : All (Other c) after

record Absent (c : ℕ) (f : Declaration → Option Name) (e : List Declaration) (d : Declaration) : Type 0 where
  leaves : f d ≡ none
  others : All (Other c) (entries_of e d)

abbrev Enters : ℕ → (Declaration → Option Name) → Type 0
Enters c f = (e : List Declaration) (d : Declaration) → Absent c f e d ⊎ ((w : Name) × Entered c f e d w)

module _ (c : ℕ) (f : Declaration → Option Name) (enters : Enters c f) where
  numbered : (e ds : List Declaration) (m : ℕ) → named c (length (gather f e) + m) (entries_from e ds) ≡ get_elem? (gather f ds) m
  unfolding named entries_from gather
  numbered e [] m = refl
  numbered e (d ∷ ds) m = by (enters e d) m (λ k. numbered (e ++ (d ∷ [])) ds k)
    where
      rest : List NameEntry
      rest = entries_from (e ++ (d ∷ [])) ds

      by : Absent c f e d ⊎ ((w : Name) × Entered c f e d w) → (m : ℕ)
          → ((k : ℕ) → named c (length (gather f (e ++ (d ∷ []))) + k) (entries_from (e ++ (d ∷ [])) ds) ≡ get_elem? (gather f ds) k)
          → named c (length (gather f e) + m) (entries_of e d ++ entries_from (e ++ (d ∷ [])) ds) ≡ get_elem? (keep (f d) (gather f ds)) m
      by (inl a) m after =
          over c (length (gather f e) + m) (entries_of e d) rest a.others
          ∙ ap (λ (xs : List Name). named c (length xs + m) rest) (sym (gather-over f e d a.leaves))
          ∙ after m ∙ ap (λ (o : Option Name). get_elem? (keep o (gather f ds)) m) (sym a.leaves)
      by (inr (w, a)) zero after =
          ap (λ (es : List NameEntry). named c (length (gather f e) + 0) (es ++ rest)) a.first
          ∙ rw (eq-eqb c c refl, eq-eqb (length (gather f e)) (length (gather f e) + 0) (sym (add-zero (length (gather f e)))))
          (ap (λ (o : Option Name). get_elem? (keep o (gather f ds)) 0) (sym a.takes))
      by (inr (w, a)) (suc m) after =
          let count : length (gather f (e ++ (d ∷ []))) ≡ length (gather f e) + 1 = ap length (gather-last f e d w a.takes) ∙ length-append (gather f e) (w ∷ []) in
          let same : length (gather f e) + suc m ≡ length (gather f (e ++ (d ∷ []))) + m = omega arith in
          ap (λ (es : List NameEntry). named c (length (gather f e) + suc m) (es ++ rest)) a.first
          ∙ rw (eq-eqb c c refl, ne_eqb (length (gather f e)) (length (gather f e) + suc m) (λ x. omega arith)) (over c (length (gather f e) + suc m) a.after rest a.others)
          ∙ ap (λ (n : ℕ). named c n rest) same
          ∙ after m ∙ ap (λ (o : Option Name). get_elem? (keep o (gather f ds)) (suc m)) (sym a.takes)

permissions-other : (c : ℕ) → (7 ≡ c → ⊥) → (n : ℕ) (ps : List Name) → All (Other c) (permission_entries n ps)
unfolding permission_entries
permissions-other c h n [] = tt
permissions-other c h n (p ∷ ps) = (h, permissions-other c h (n + 1) ps)

enters-sort : (s : Sort) → Enters (sort_code s) (of_sort s)
unfolding count names_of
enters-sort s e (class w ps) = inl (record {
  leaves = refl;
  others = (λ x. omega (arith, code_below s), permissions-other (sort_code s) (λ x. omega (arith, code_below s)) (length (class_names e) * 32) ps);
})
enters-sort s e (plain t w) = by (same_sort s t) refl
  where
    by : (b : Bool) → same_sort s t ≡ b → Absent (sort_code s) (of_sort s) e (plain t w) ⊎ ((w' : Name) × Entered (sort_code s) (of_sort s) e (plain t w) w')
    by true q = inr (
      w,
      record {
        takes = ap (λ (b : Bool). cond b (some w) none) q;
        after = [];
        first = ap {B = List NameEntry} (λ (u : Sort). name_entry (sort_code u) (length (gather (of_sort u) e)) w ∷ []) (sym (sort-same s t q));
        others = tt;
      },
    )
    by false q = inl (record {
      leaves = ap (λ (b : Bool). cond b (some w) none) q;
      others = (λ x. false≢true (sym q ∙ ap (same_sort s) (code-sort t s x) ∙ sort-self s), tt);
    })

enters-class : Enters 6 of_class
unfolding class_names
enters-class e (plain t w) = inl (record { leaves = refl; others = (λ x. omega (arith, code_below t), tt) })
enters-class e (class w ps) = inr (
  w,
  record {
    takes = refl;
    after = permission_entries (length (class_names e) * 32) ps;
    first = refl;
    others = permissions-other 6 (λ x. omega arith) (length (class_names e) * 32) ps;
  },
)

-- number n of a sort; and of the classes
pub thing-named : (s : Sort) (ds : List Declaration) (n : ℕ) → named (sort_code s) n (entries ds) ≡ get_elem? (names_of s ds) n
unfolding entries names_of gather
thing-named s ds n = ap (λ (k : ℕ). named (sort_code s) k (entries_from [] ds)) (sym (zero-add n)) ∙ numbered (sort_code s) (of_sort s) (enters-sort s) [] ds n

pub class-named : (ds : List Declaration) (n : ℕ) → named 6 n (entries ds) ≡ get_elem? (class_names ds) n
unfolding entries class_names gather
class-named ds n = ap (λ (k : ℕ). named 6 k (entries_from [] ds)) (sym (zero-add n)) ∙ numbered 6 of_class enters-class [] ds n
