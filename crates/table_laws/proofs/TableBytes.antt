-- The table of a well-formed image whose sets are bytes is bytes; and only such an image's is. Assumes nothing.
use Prim.Native.Nat.{ℕ, ◌+◌, ◌<◌}
use native.Mathlib.Omega.{arith}
use mathlib.Core.Path.{◌≡◌, subst}
use mathlib.Core.Bool.{true}
use mathlib.Core.List.{List, [], ◌∷◌, ◌++◌}
use lib.ListN.{length, get_or, take}
use Rattle.bitset.specs.Relations.{joined}
use Rattle.policy.specs.Basics.{each, le, All}
use Rattle.policy.specs.Statements.{roles, thing_of}
use Rattle.policy.specs.Rows.{Row}
use Rattle.policy.specs.Image.{Image, TransitionEntry}
use Rattle.policy.specs.Encode.{NameEntry, entries, entry_bytes, transition_bytes, ConstraintRecord, constraint_bytes, constraint_records, row_bytes}
use Rattle.policy.specs.Encode.{RelabelRecord, relabel_record, relabel_bytes, bodies, pairs, sections_of, first_body, encode}
use Rattle.policy.specs.Sound.{well_formed}
use Rattle.policy.proofs.Lists.{all_append, all_left, all_right}
use Rattle.table_laws.specs.SoundTable.{Bytes, SetsOfBytes, all_rows, relabel_rows}
use Rattle.table_laws.proofs.ListLaws.{joined-all, all-joined, all-each, all_both, all_take}
use Rattle.table_laws.proofs.LittleEndian.{le_bytes}
use Rattle.policy.proofs.Counts.{few-of, few-classes}
use Rattle.policy.proofs.Gathered.{all_get_d}
use Rattle.table_laws.proofs.Editions.{section-least}
use Rattle.table_laws.proofs.NamesFit.{GoodEntry, entries_fit}
use Rattle.table_laws.proofs.NamesRoom.{name-short}
use Rattle.table_laws.proofs.NameBytes.{name-bytes}
use Rattle.table_laws.proofs.WellFormed.{formed, GoodTransition, SmallRow}
use Rattle.table_laws.proofs.WellFormedLaid.{transitions-good, rows-small, relabel-rows-small}
use Rattle.table_laws.proofs.ImageOnly.{bodies-bytes}

-- two parts that are bytes
two : (xs ys : List ℕ) → Bytes xs → Bytes ys → Bytes (xs ++ ys)
two xs ys h k = all_append (λ b. b < 256) xs ys h k

-- a number of w bytes, and then bytes
number : (w n : ℕ) (ys : List ℕ) → Bytes ys → Bytes (le w n ++ ys)
number w n ys h = two (le w n) ys (le_bytes w n) h

pairs-bytes : (o : ℕ) (bs : List (List ℕ)) → Bytes (pairs o bs)
unfolding pairs
pairs-bytes o [] = tt
pairs-bytes o (b ∷ bs) = number 4 o (le 4 (length b) ++ pairs (o + length b) bs) (number 4 (length b) (pairs (o + length b) bs) (pairs-bytes (o + length b) bs))

entry-bytes : (e : NameEntry) → GoodEntry e → Bytes (entry_bytes e)
entry-bytes e g = (
  omega (arith, g.sort),
  number 2 e.number (length e.name ∷ e.name) (omega (arith, name-short e.name g.name), name-bytes e.name g.name),
)

constraints-bytes : (hs : List ConstraintRecord) → All Bytes (each constraint_bytes hs)
unfolding each
constraints-bytes [] = tt
constraints-bytes (h ∷ hs) = (
  number 2 h.class (le 4 h.mask ++ (le 2 h.first ++ le 2 h.rows))
      (number 4 h.mask (le 2 h.first ++ le 2 h.rows) (number 2 h.first (le 2 h.rows) (le_bytes 2 h.rows))),
  constraints-bytes hs,
)

relabels-bytes : (hs : List RelabelRecord) → All Bytes (each relabel_bytes hs)
unfolding each
relabels-bytes [] = tt
relabels-bytes (h ∷ hs) = (number 2 h.class (le 2 h.rows) (le_bytes 2 h.rows), relabels-bytes hs)

row-bytes : (r : Row) → SmallRow r → Bytes (row_bytes r)
row-bytes r s = (s.kind, (s.comp, (s.op, (omega arith, le_bytes 2 r.num))))

-- what holds of a transition of bytes
abbrev SetsOf : TransitionEntry → Type 0
SetsOf m = Bytes m.roles × Bytes m.types

module _ (i : Image) (h : well_formed i ≡ true) (b : SetsOfBytes i) where
  transition-bytes : (m : TransitionEntry) → GoodTransition i.names m × SetsOf m → Bytes (transition_bytes m)
  transition-bytes m p =
      two m.roles (m.types ++ (m.class ∷ m.new ∷ [])) p.1.0
      (two m.types (m.class ∷ m.new ∷ []) p.1.1
      (omega (arith, p.0.class, few-classes i.names (formed i h).names), (omega (arith, p.0.new, few-of (thing_of roles) i.names (formed i h).names), tt)))

  moves : All Bytes (each transition_bytes i.transitions)
  moves = all-each (λ (m : TransitionEntry). GoodTransition i.names m × SetsOf m) Bytes transition_bytes transition-bytes i.transitions
      (all_both (GoodTransition i.names) SetsOf i.transitions (transitions-good i h) b.transitions)

  bodies-all : All Bytes (bodies i)
  unfolding bodies entries
  bodies-all = (
    all (each entry_bytes (entries i.names)) (all-each GoodEntry Bytes entry_bytes entry-bytes (entries i.names) (entries_fit [] i.names (formed i h).names)),
    (
      all i.user_roles b.user_roles,
      (
        all i.role_types b.role_types,
        (
          all i.role_roles b.role_roles,
          (
            all (each transition_bytes i.transitions) moves,
            (
              all (each constraint_bytes (constraint_records 0 i.constraints)) (constraints-bytes (constraint_records 0 i.constraints)),
              (
                rows (all_rows i) (rows-small i h),
                (
                  two (joined i.user_sets) (joined i.role_sets ++ joined i.type_sets) (all i.user_sets b.user_sets)
                      (two (joined i.role_sets) (joined i.type_sets) (all i.role_sets b.role_sets) (all i.type_sets b.type_sets)),
                  (
                    all (each relabel_bytes (each relabel_record i.relabels)) (relabels-bytes (each relabel_record i.relabels)),
                    (rows (relabel_rows i) (relabel-rows-small i h), tt),
                  ),
                ),
              ),
            ),
          ),
        ),
      ),
    ),
  )
    where
      all : (ss : List (List ℕ)) → All Bytes ss → Bytes (joined ss)
      all ss h = joined-all (λ b. b < 256) ss h

      rows : (rs : List Row) → All SmallRow rs → Bytes (joined (each row_bytes rs))
      rows rs small = all (each row_bytes rs) (all-each SmallRow Bytes row_bytes row-bytes rs small)

  -- EVERY ELEMENT OF THE TABLE IS A BYTE, in any edition
  pub encode-bytes : (e : ℕ) → Bytes (encode e i)
  unfolding encode
  encode-bytes e =
      let bs = take (sections_of e) (bodies i) in
      number 2 e (le 2 (sections_of e) ++ (pairs (first_body e) bs ++ joined bs))
      (number 2 (sections_of e) (pairs (first_body e) bs ++ joined bs)
      (two (pairs (first_body e) bs) (joined bs) (pairs-bytes (first_body e) bs) (joined-all (λ b. b < 256) bs (all_take Bytes (sections_of e) (bodies i) bodies-all))))

-- a transition that was written as bytes
sets-bytes : (m : TransitionEntry) → Bytes (transition_bytes m) → SetsOf m
sets-bytes m h =
    let p : ℕ → Type 0 = λ b. b < 256 in
    let after = m.class ∷ m.new ∷ [] in
    (all_left p m.roles (m.types ++ after) h, all_left p m.types after (all_right p m.roles (m.types ++ after) h))

moves-bytes : (ms : List TransitionEntry) → All Bytes (each transition_bytes ms) → All SetsOf ms
unfolding each
moves-bytes [] h = tt
moves-bytes (m ∷ ms) h = (sets-bytes m h.0, moves-bytes ms h.1)

-- the sets of an image whose table is bytes are bytes
pub bytes-sets : (e : ℕ) → 0 < sections_of e → (i : Image) (rest : List ℕ) → Bytes (encode e i ++ rest) → SetsOfBytes i
unfolding encode bodies
bytes-sets e known i rest h =
    let p : ℕ → Type 0 = λ b. b < 256 in
    let bs = take (sections_of e) (bodies i) in
    let body : (k : ℕ) → k < 8 → Bytes (get_or (bodies i) k []) =
    λ k l. subst Bytes (section-least e i known k l) (all_get_d Bytes bs k [] (bodies-bytes e bs rest h) tt) in
    let rs = joined i.role_sets ++ joined i.type_sets in
    let sets = body 7 (omega arith) in
    let after = all_right p (joined i.user_sets) rs sets in
    record {
      user_roles = all-joined p i.user_roles (body 1 (omega arith));
      role_types = all-joined p i.role_types (body 2 (omega arith));
      role_roles = all-joined p i.role_roles (body 3 (omega arith));
      transitions = moves-bytes i.transitions (all-joined p (each transition_bytes i.transitions) (body 4 (omega arith)));
      user_sets = all-joined p i.user_sets (all_left p (joined i.user_sets) rs sets);
      role_sets = all-joined p i.role_sets (all_left p (joined i.role_sets) (joined i.type_sets) after);
      type_sets = all-joined p i.type_sets (all_right p (joined i.role_sets) (joined i.type_sets) after);
    }
