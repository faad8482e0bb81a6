-- Transitions are written one after the other, in the order of the statements. Assumes nothing.
use mathlib.Core.Path.{◌≡◌, refl, sym, ap, ap₂, ◌∙◌, subst}
use mathlib.Core.List.{List, [], ◌∷◌, ◌++◌, append-nil}
use Prim.Native.Nat.{ℕ, ◌+◌, ◌*◌, ◌≤◌, ◌<◌}
use native.Mathlib.Omega.{arith}
use lib.ListN.{length, get_or, take, length-append}
use Rattle.bitset.specs.Sets.{set_of}
use Rattle.byte_slices.specs.Parts.{put}
use Rattle.bitset.specs.Relations.{joined}
use Rattle.bitset.proofs.SetLaws.{length-set_of}
use Rattle.policy.specs.Basics.{each, gather}
use Rattle.policy.specs.Statements.{roles, types, thing_of, Policy, declarations, Transition, transitions}
use Rattle.policy.specs.Meaning.{stands}
use Rattle.policy.specs.Image.{transition_entry}
use Rattle.policy.specs.Encode.{transition_bytes}
use Rattle.policy.specs.Accepted.{Accepted}
use Rattle.policy.proofs.Lists.{joined-append, each_append, gather-over, gather-last}
use Rattle.policy.proofs.Counts.{few-of, few-classes}
use Rattle.statement_code.specs.Code.{transition_tag}
use Rattle.set_code.specs.Evaluation.{value_of}
use Rattle.clashes.specs.Clashes.{Codes}
use Rattle.code_reader.specs.AttributeSets.{final_sets}
use Rattle.code_reader.specs.declared.CodedTransition.{CodedTransition}
use Rattle.code_reader.specs.Reading.{step_of}
use Rattle.code_reader.proofs.Items.{Item, moves, units_of, items_code, items, ItemIn, move_in, transitions-items, tag-moves, tag-no-move}
use Rattle.code_reader.proofs.Numbers.{items-declared}
use Rattle.clashes.proofs.ClashLaws.{Reads}
use Rattle.code_reader.proofs.Passes.{Through, Met, meet, onward}
use Rattle.body_writer.specs.WrittenBytes.{Appended}
use Rattle.body_writer.specs.Bodies.{WritesTransition}
use Rattle.body_writer.proofs.PutLaws.{appended_then, appended-none}
use Rattle.body_writer.proofs.SetRows.{take-set_of}
use Rattle.body_writer.proofs.ReferenceSets.{set-stands, operand_at}

-- ---- one transition

-- its two sets and its two numbers, one after the other
pub entry-written : (p : Policy) → Accepted p → (t : Transition) (m : CodedTransition) → Codes p t m → (rs ts : List ℕ) → rs ≡ final_sets p roles → ts ≡ final_sets p types
    → (first second : List ℕ) → first ≡ set_of 64 (value_of rs m.roles) → second ≡ set_of 64 (value_of ts m.types)
    → {a b c d e : List ℕ} {g h i j k : ℕ} → (16 ≤ length first → Appended (take 16 first) a g b h) → (64 ≤ length second → Appended (take 64 second) b h c i)
    → Appended (m.class ∷ []) c i d j → Appended (m.new ∷ []) d j e k → Appended (transition_bytes (transition_entry p t)) a g e k
entry-written p ok t m codes rs ts hr ht first second f s {a} {b} {c} {d} {e} {g} {h} {i} {j} {k} one two three four =
    let long : length first ≡ 64 = ap length f ∙ length-set_of 64 _ in
    let wide : length second ≡ 64 = ap length s ∙ length-set_of 64 _ in
    let role_set : take 16 first ≡ set_of 16 (stands p roles t.role) =
    ap (take 16) f ∙ take-set_of 64 16 _ (omega arith) ∙ ap (λ (u : ℕ). set_of 16 (value_of rs u)) codes.role ∙ set-stands p ok roles rs hr t.role
    codes.roles-declared 16 (omega arith) in
    let type-set : take 64 second ≡ set_of 64 (stands p types t.type) =
    ap (take 64) s ∙ take-set_of 64 64 _ (omega arith) ∙ ap (λ (u : ℕ). set_of 64 (value_of ts u)) codes.type ∙ set-stands p ok types ts ht t.type
    codes.types-declared 64 (omega arith) in
    subst (λ (bytes : List ℕ). Appended bytes a g e k)
    (ap₂ (λ (x y : List ℕ). x ++ y) role_set (ap₂ (λ (x y : List ℕ). x ++ y) type-set (ap₂ (λ (x y : ℕ). x ∷ y ∷ []) codes.class codes.new)))
    (appended_then (one (omega arith)) (appended_then (two (omega arith)) (appended_then three four)))

-- ---- all of them

module _ (p : Policy) where
  -- the bytes of some transitions
  abbrev pub bytes_of : List Transition → List ℕ
  bytes_of ts = joined (each transition_bytes (each (transition_entry p) ts))

  bytes-more : (ts : List Transition) (t : Transition) → bytes_of ts ++ transition_bytes (transition_entry p t) ≡ bytes_of (ts ++ (t ∷ []))
  unfolding joined each
  bytes-more ts t = sym (
      ap (λ xs. joined (each transition_bytes xs)) (each_append (transition_entry p) ts (t ∷ []))
      ∙ ap joined (each_append transition_bytes (each (transition_entry p) ts) (transition_entry p t ∷ []))
      ∙ joined-append (each transition_bytes (each (transition_entry p) ts)) (transition_bytes (transition_entry p t) ∷ [])
      ∙ ap (λ (x : List ℕ). bytes_of ts ++ x) (append-nil (transition_bytes (transition_entry p t))))

  bytes-long : (ts : List Transition) → length (bytes_of ts) ≡ 82 * length ts
  unfolding joined each
  bytes-long [] = refl
  bytes-long (t ∷ ts) =
      let r = length-set_of 16 (stands p roles t.role) in
      let y = length-set_of 64 (stands p types t.type) in
      let one = length-append (set_of 16 (stands p roles t.role)) (set_of 64 (stands p types t.type) ++ (t.class ∷ t.new ∷ [])) in
      let two = length-append (set_of 64 (stands p types t.type)) (t.class ∷ t.new ∷ []) in
      omega (arith, length-append (transition_bytes (transition_entry p t)) (bytes_of ts), bytes-long ts, r, y, one, two)

-- a transition is at a place
pub record Moved (p : Policy) (code : List ℕ) (at : ℕ) (i : Item) : Type 0 where
  pub the : Transition
  pub is : i ≡ moves the
  pub codes : (m : CodedTransition) → Reads code at m → Codes p the m
  pub class-byte : the.class < 256
  pub new-byte : the.new < 256

module _ (p : Policy) (t : List ℕ) (to : ℕ) where
  -- the transitions done are written
  abbrev pub Bytes : List ℕ → ℕ → List Item → List Item → Type 0
  Bytes u r done left = Appended (bytes_of p (gather move_in done)) t to u r

  pub bytes-none : Bytes t to [] (items p)
  unfolding gather joined each
  bytes-none = appended-none t to

  pub bytes-all : (u : List ℕ) (r : ℕ) → to + 82 * length (transitions p) ≤ length t → Bytes u r (items p) [] → u ≡ put t to (bytes_of p (transitions p))
  bytes-all u r room h =
      let same = transitions-items p in
      (subst (λ ts. Appended (bytes_of p ts) t to u r) (sym same) h).written (omega (arith, room, bytes-long p (transitions p)))

  module _ (ok : Accepted p) (code : List ℕ) (at next : ℕ) (inside : at < length code) (e : next ≡ step_of code at) (u : List ℕ) (r : ℕ)
      (through : Through (items p) code at (Bytes u r)) where
    the-met : Met p (items p) code at (Bytes u r)
    the-met = meet p ok (items p) (items-declared p ok) code at (Bytes u r) inside through

    moved : get_or code at 0 ≡ transition_tag → Moved p code at the-met.item
    moved h = go (tag-moves the-met.item (sym the-met.stand.tag ∙ h))
      where
        go : (x : Transition) × (the-met.item ≡ moves x) → Moved p code at the-met.item
        go (x, q) =
            let units = the-met.stand.units ∙ ap (λ i. units_of i ++ items_code the-met.rest) q in
            let d : ItemIn (declarations p) (moves x) = subst (ItemIn (declarations p)) q the-met.declared in
            record {
              the = x;
              is = q;
              codes = λ m reads. record {
                role = reads.0 ∙ operand_at code at _ 0 (at + 2) units (omega arith);
                type = reads.1 ∙ operand_at code at _ 1 (at + 3) units (omega arith);
                class = reads.2 ∙ operand_at code at _ 2 (at + 4) units (omega arith);
                new = reads.3 ∙ operand_at code at _ 3 (at + 5) units (omega arith);
                roles-declared = d.0;
                types-declared = d.1;
              };
              class-byte = omega (arith, d.2, few-classes (declarations p) ok.names);
              new-byte = omega (arith, d.3, few-of (thing_of roles) (declarations p) ok.names);
            }

    -- a transition is written after the others
    pub move-more : get_or code at 0 ≡ transition_tag → (m : CodedTransition) → Reads code at m → (rs ts : List ℕ) → rs ≡ final_sets p roles → ts ≡ final_sets p types
        → (v : List ℕ) (s : ℕ) → WritesTransition m rs ts u r v s → Through (items p) code next (Bytes v s)
    move-more h m reads rs ts hr ht v s told =
        let it = moved h in
        let codes = it.codes m reads in
        onward p (items p) code at (Bytes u r) (Bytes v s) next e the-met
        (subst (λ bytes. Appended bytes t to v s)
        (bytes-more p (gather move_in the-met.done) it.the
        ∙ ap (bytes_of p) (sym (gather-last move_in the-met.done the-met.item it.the (ap move_in it.is))))
        (appended_then the-met.so_far
        (told.entry p it.the ok codes (omega (arith, codes.class, it.class-byte)) (omega (arith, codes.new, it.new-byte)) hr ht)))

    -- any other statement is passed over
    pub move-over : (get_or code at 0 ≡ transition_tag → ⊥) → Through (items p) code next (Bytes u r)
    move-over h =
        let m = the-met in
        onward p (items p) code at (Bytes u r) (Bytes u r) next e m
        (subst (λ ts. Appended (bytes_of p ts) t to u r) (sym (gather-over move_in m.done m.item (tag-no-move m.item (λ q. h (m.stand.tag ∙ q))))) m.so_far)
