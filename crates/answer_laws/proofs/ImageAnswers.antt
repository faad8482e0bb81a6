-- What the image of a policy answers to a change, and to a relabelling, is what its statements answer. Assumes nothing.
use Prim.Native.Nat.{ℕ, ◌+◌, ◌*◌, ◌<◌}
use native.Mathlib.Omega.{arith}
use mathlib.Core.Path.{◌≡◌, refl, sym, ap, ◌∙◌}
use mathlib.Core.Bool.{Bool, ◌&&◌}
use mathlib.Core.List.{List, [], ◌∷◌, ◌++◌, append_assoc, append-nil}
use lib.Dec.{eqb}
use Rattle.policy.specs.Basics.{each, is_among, All}
use Rattle.policy.specs.Statements.{Family, users, roles, types, thing_of, attribute_of, Reference, thing, attribute, Side, source, target, process}
use Rattle.policy.specs.Statements.{Op, eq, neq, dom}
use Rattle.policy.specs.Statements.{domby, incomp, Constraint, sides_e, name_e, not_e, and_e, or_e, Policy, constrains, declarations, count, Relation}
use Rattle.policy.specs.Statements.{constrain_body, Relabel, relabels, relabel_body, userrole, roletype, roleallow, from_of, to_of}
use Rattle.policy.specs.Meaning.{Set, Contexts, count_in, final, stands, related, part, compares, holds}
use Rattle.policy.specs.Faults.{attributes_in}
use Rattle.policy.specs.Deciding.{Question, contexts_of, Relabelling, relabel_contexts, first_failing}
use Rattle.policy.specs.Answer.{given_by, names_asked, answer, relabel_answer}
use Rattle.bitset.specs.Sets.{set_of, member, bit}
use Rattle.policy.specs.Rows.{Row, row, rows_of, op_code, comp_code, op_test, View, run, top}
use Rattle.policy.specs.Image.{image_of, sets_of, width, mask_of, ConstraintEntry, constraint_entry, RelabelEntry, relabel_entry}
use Rattle.policy.specs.Sound.{of_comp}
use Rattle.policy.specs.Questions.{in_set, given_sets, given_in, side_of, sets_in, view_of, rows_hold, entry_names, change, relabel}
use Rattle.image_laws.proofs.Fits.{Known, Fits}
use Rattle.policy.proofs.Sorts.{comp-family}
use Rattle.bitset.proofs.BitLaws.{bit-from_bits}
use Rattle.bitset.proofs.SetLaws.{get_d_tabulate, member-set_of}
use Rattle.answer_laws.proofs.Agreement.{InRange, in-range, AllDeclared, declared-parts, relabel-declared, Agree, agree-rules, agree-relabels}

pub sets-law : (n : ℕ) (g : Family) (f : ℕ → Set) (k m : ℕ) → k < n → m < 8 * width g → in_set (sets_of n g f) k m ≡ f k m
sets-law n g f k m h l = ap (λ (s : List ℕ). member s m) (get_d_tabulate n (λ i. set_of (width g) (f i)) k [] h) ∙ member-set_of (width g) (f k) m l

same_op : (o : Op) (b : Bool) → op_test (op_code o) b ≡ compares o b
same_op eq b = refl
same_op neq b = refl
same_op dom b = refl
same_op domby b = refl
same_op incomp b = refl

same-side : (on : Contexts) (f : Family) (x : Side) → side_of on (comp_code f x) ≡ part f (on x)
same-side on users source = refl
same-side on users target = refl
same-side on roles source = refl
same-side on roles target = refl
same-side on types source = refl
same-side on types target = refl
same-side on users process = refl
same-side on roles process = refl
same-side on types process = refl

same-sides : (on : Contexts) (f : Family) → eqb (side_of on (comp_code f source)) (side_of on (comp_code f source + 1)) ≡ eqb (part f (on source)) (part f (on target))
same-sides on users = refl
same-sides on roles = refl
same-sides on types = refl

module _ (p : Policy) (ok : Fits p) (on : Contexts) (known : (x : Side) → InRange (declarations p) (on x)) where
  small : (f : Family) (x : Side) → part f (on x) < 8 * width f
  unfolding count_in
  small f x = omega (arith, known x f, ok.few f)

  attribute-law : (f : Family) (a n : ℕ) → a < attributes_in p f → n < 8 * width f → in_set (sets_in (image_of p) f) a n ≡ final p f a n
  unfolding image_of attributes_in
  attribute-law users a n h l = sets-law (count (attribute_of users) (declarations p)) users (final p users) a n h l
  attribute-law roles a n h l = sets-law (count (attribute_of roles) (declarations p)) roles (final p roles) a n h l
  attribute-law types a n h l = sets-law (count (attribute_of types) (declarations p)) types (final p types) a n h l

  view : View
  view = view_of (image_of p) on

  set-law : (f : Family) (x : Side) (a : ℕ) → a < attributes_in p f
      → in_set (sets_in (image_of p) (of_comp (comp_code f x))) a (side_of on (comp_code f x)) ≡ final p f a (part f (on x))
  set-law f x a h = rw (comp-family f x, same-side on f x) (attribute-law f a (part f (on x)) h (small f x))

  -- the rows of E leave the truth of E on the stack
  rows-law : (e : Constraint Reference) (rest : List Row) (st : List Bool) → Known p e
      → run view (rows_of e ++ rest) st ≡ run view rest (holds (stands p) on e ∷ st)
  unfolding run rows_of holds stands view
  rows-law (sides_e f o) rest st h = ap (λ (b : Bool). run view rest (b ∷ st)) (same_op o _ ∙ ap (compares o) (same-sides on f))
  rows-law (name_e f x o (thing n)) rest st h = ap (λ (b : Bool). run view rest (b ∷ st)) (same_op o _ ∙ ap (λ (k : ℕ). compares o (eqb k n)) (same-side on f x))
  rows-law (name_e f x o (attribute a)) rest st h = ap (λ (b : Bool). run view rest (b ∷ st)) (same_op o _ ∙ ap (compares o) (set-law f x a h))
  rows-law (not_e a) rest st h = rw (append_assoc (rows_of a) (row 0 0 0 0 ∷ []) rest) (rows-law a (row 0 0 0 0 ∷ rest) st h)
  rows-law (and_e a b) rest st h =
      rw (append_assoc (rows_of a) (rows_of b ++ (row 1 0 0 0 ∷ [])) rest, append_assoc (rows_of b) (row 1 0 0 0 ∷ []) rest)
      (rows-law a (rows_of b ++ (row 1 0 0 0 ∷ rest)) st h.0 ∙ rows-law b (row 1 0 0 0 ∷ rest) (holds (stands p) on a ∷ st) h.1)
  rows-law (or_e a b) rest st h =
      rw (append_assoc (rows_of a) (rows_of b ++ (row 2 0 0 0 ∷ [])) rest, append_assoc (rows_of b) (row 2 0 0 0 ∷ []) rest)
      (rows-law a (rows_of b ++ (row 2 0 0 0 ∷ rest)) st h.0 ∙ rows-law b (row 2 0 0 0 ∷ rest) (holds (stands p) on a ∷ st) h.1)

  body-law : (e : Constraint Reference) → Known p e → rows_hold (image_of p) on (rows_of e) ≡ holds (stands p) on e
  unfolding view run
  body-law e h = ap top (ap (λ (rs : List Row). run view rs []) (sym (append-nil (rows_of e))) ∙ rows-law e [] [] h)

  -- entries that hold the rows of their statements' E, and name what is asked where these do, answer what the statements answer
  entries-law : {A B : Type 0} (m : ℕ) (body : A → Constraint Reference) (entry : A → B) (rows : B → List Row) (names : B → Bool) (names' : A → Bool)
      → ((a : A) → rows (entry a) ≡ rows_of (body a)) → ((a : A) → names (entry a) ≡ names' a) → (i : ℕ) (xs : List A) → All (λ a. Known p (body a)) xs
      → first_failing m names (λ x. rows_hold (image_of p) on (rows x)) i (each entry xs) ≡ first_failing m names' (λ s. holds (stands p) on (body s)) i xs
  unfolding first_failing each
  entries-law m body entry rows names names' h k i [] known = refl
  entries-law m body entry rows names names' h k i (x ∷ xs) known =
      rw (h x, k x, body-law (body x) known.0, entries-law m body entry rows names names' h k (i + 1) xs known.1)

mask-law : (ps : List ℕ) (k : ℕ) → k < 32 → bit (mask_of ps) k ≡ is_among k ps
unfolding mask_of
mask-law ps k h = bit-from_bits 32 (λ k. is_among k ps) k h

-- the image gives what the statements give
pub image-agrees : (p : Policy) → Fits p → Agree (given_in (image_of p)) (given_by p)
unfolding image_of count_in
image-agrees p ok = record { names = refl; gives = by }
  where
    by : (k : Relation) (x y : ℕ) → x < count (thing_of (from_of k)) (declarations p) → y < count (thing_of (to_of k)) (declarations p)
        → in_set (given_sets (image_of p) k) x y ≡ related p k x y
    by userrole x y h l = sets-law (count (thing_of users) (declarations p)) roles (related p userrole) x y h (omega (arith, ok.few roles))
    by roletype x y h l = sets-law (count (thing_of roles) (declarations p)) types (related p roletype) x y h (omega (arith, ok.few types))
    by roleallow x y h l = sets-law (count (thing_of roles) (declarations p)) roles (related p roleallow) x y h (omega (arith, ok.few roles))

module _ (p : Policy) (ok : Fits p) where
  in-ranges : (on : Contexts) → AllDeclared (declarations p) on → (x : Side) → InRange (declarations p) (on x)
  in-ranges on d x = in-range (declarations p) (on x) (d x)

  -- DEMAND 3 without bytes: the image of a policy answers every change question as its statements do
  pub image-answers : (q : Question) → change (image_of p) q ≡ answer p q
  unfolding change answer image_of
  image-answers q = agree-rules (given_in (image_of p)) (given_by p) (image-agrees p ok) q _ _ λ d.
      let parts = declared-parts (declarations p) q d in
      entries-law p ok (contexts_of q) (in-ranges (contexts_of q) parts.contexts) 4 constrain_body constraint_entry (λ (x : ConstraintEntry). x.rows)
      (entry_names q.class q.perm) (names_asked q.class q.perm) (λ c. refl)
      (λ c. ap (λ b. eqb c.class q.class && b) (mask-law c.perms q.perm (omega (arith, parts.perm, ok.few-permissions q.class))))
      0 (constrains p) ok.known

  -- W-205: and every question of relabelling
  pub image-relabels : (q : Relabelling) → relabel (image_of p) q ≡ relabel_answer p q
  unfolding relabel relabel_answer image_of
  image-relabels q = agree-relabels (given_in (image_of p)) (given_by p) (image-agrees p ok) q _ _ λ d.
      entries-law p ok (relabel_contexts q) (in-ranges (relabel_contexts q) (relabel-declared (declarations p) q d)) 6 relabel_body relabel_entry
      (λ (x : RelabelEntry). x.rows) (λ (x : RelabelEntry). eqb x.class q.class) (λ (s : Relabel). eqb s.class q.class) (λ c. refl) (λ c. refl)
      0 (relabels p) ok.known-relabels
