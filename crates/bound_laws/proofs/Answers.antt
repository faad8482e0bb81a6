-- THE NUMBERS OF THE QUESTIONS' ANSWERS ARE SMALL, for every list of bytes and all numbers: a denial is 6 at most, a refusal 11 or 12, a statement or a role
-- below 128, the number consulted 128 at most, and a part lies within the first 186,068 bytes. Assumes nothing.
use Prim.Native.Nat.{ℕ, zero, suc, ◌+◌, ◌-◌, ◌*◌, ◌<◌, ◌≤◌}
use native.Mathlib.Nat.{mul-le-mul_right, suc-mul}
use native.Mathlib.Omega.{arith}
use mathlib.Core.Path.{◌≡◌, refl}
use mathlib.Core.Bool.{Bool, true, false, cond, ◌&&◌}
use mathlib.Core.List.{List, [], ◌∷◌, ◌++◌}
use mathlib.Core.Option.{Option, none, some}
use lib.Dec.{eqb, ltb}
use lib.ListN.{length, length-append, get_or, take}
use borrow.Author.Tests.{ltb-true}
use Rattle.bitset.specs.Relations.{joined}
use Rattle.policy.specs.Basics.{each, All}
use Rattle.policy.specs.Statements.{roles, types, thing_of, count, class_names}
use Rattle.policy.specs.Deciding.{Question, Relabelling, Verdict, granted, denied, fails, refuses, Answer, consult, first_failing, ruled_by, ruled_relabel, Reply, answered}
use Rattle.policy.specs.Deciding.{refused}
use Rattle.policy.specs.Image.{Image, TransitionEntry}
use Rattle.policy.specs.Encode.{NameEntry, entries, entry_bytes, transition_bytes, constraint_bytes, constraint_records, relabel_record, relabel_bytes}
use Rattle.policy.specs.Encode.{bodies, first_body}
use Rattle.policy.specs.Sound.{well_formed, edition_in, image_in, good_transition}
use Rattle.policy.specs.Questions.{change, relabel, decided, change_on, relabel_on, matches, first_transition, new_role, new_role_on, asked, Part, name_from, name_of, name_on, Records}
use Rattle.policy.specs.Questions.{record_from, records, entry_of, entry_on}
use Rattle.policy.proofs.Lists.{both_true, each-length}
use Rattle.policy.proofs.Counts.{few-of}
use Rattle.policy.proofs.Gathered.{all_map}
use Rattle.symbols.proofs.AppendLaws.{entry_length}
use Rattle.table_laws.proofs.Pieces.{wide-length}
use Rattle.table_laws.proofs.Records.{constraint-wide, relabel-wide}
use Rattle.table_laws.proofs.ImageReadBack.{every-wide, transitions-wide}
use Rattle.table_laws.proofs.Lengths.{bodies-length, constraint-records-length}
use Rattle.table_laws.proofs.Editions.{sections-most}
use Rattle.table_laws.proofs.ListLaws.{joined-room}
use Rattle.table_laws.proofs.WellFormed.{formed, good-transition}
use Rattle.table_laws.proofs.WellFormedLaid.{widths, table-room}
use Rattle.table_laws.proofs.ImageOnly.{image-formed}
use Rattle.answer_laws.proofs.FourTests.{FourTests, change-tests, relabel-tests}

-- CHANGE, AND RELABELLING

abbrev pub SmallVerdict : Verdict → Type 0
SmallVerdict granted = Unit {0}
SmallVerdict (denied n) = n ≤ 5
SmallVerdict (fails m n) = (m ≤ 6) × (n < 128)
SmallVerdict (refuses n at) = n ≤ 12

pub record SmallAnswer (a : Answer) : Type 0 where
  pub verdict : SmallVerdict a.verdict
  pub consulted : a.consulted ≤ 128

-- a failing statement is one of those from i on, and no more are consulted than there are
abbrev FailsBelow : ℕ → Verdict → Type 0
FailsBelow n granted = Unit {0}
FailsBelow n (denied k) = ⊥
FailsBelow n (fails m k) = (m ≤ 6) × (k < n)
FailsBelow n (refuses k at) = ⊥

record Within (n k : ℕ) (a : Answer) : Type 0 where
  fails : FailsBelow n a.verdict
  consulted : a.consulted ≤ k

wider : (n m : ℕ) (v : Verdict) → n ≤ m → FailsBelow n v → FailsBelow m v
wider n m granted l h = tt
wider n m (denied k) l h = h
wider n m (fails d k) l h = (h.0, omega (arith, h.1))
wider n m (refuses k at) l h = h

module _ {A : Type 0} (d : ℕ) (few : d ≤ 6) (names holds : A → Bool) where
  first-within : (i : ℕ) (xs : List A) → Within (i + length xs) (length xs) (first_failing d names holds i xs)
  unfolding first_failing
  first-within i [] = record { fails = tt; consulted = omega arith }
  first-within i (x ∷ xs) = by (names x) (holds x) (first_failing d names holds (i + 1) xs) (first-within (i + 1) xs)
    where
      by : (n b : Bool) (later : Answer) → Within (i + 1 + length xs) (length xs) later → Within (i + suc (length xs)) (suc (length xs)) (consult d n b i later)
      by false b later h = record { fails = wider _ _ later.verdict (omega arith) h.fails; consulted = omega (arith, h.consulted) }
      by true false later h = record { fails = (omega arith, omega arith); consulted = omega arith }
      by true true later h = record { fails = wider _ _ later.verdict (omega arith) h.fails; consulted = omega (arith, h.consulted) }

small : (n k : ℕ) (a : Answer) → n ≤ 128 → k ≤ 128 → Within n k a → SmallAnswer a
small n k a l m h = record { verdict = by a.verdict h.fails; consulted = omega (arith, h.consulted) }
  where
    by : (v : Verdict) → FailsBelow n v → SmallVerdict v
    by granted f = tt
    by (denied _) f = elim f [ ]
    by (refuses _ _) f = elim f [ ]
    by (fails m j) f = (f.0, omega (arith, f.1))

tests-small : (n : ℕ) (f : Bool → Bool → Bool → Bool → Answer → Answer) → FourTests n f → n ≤ 5 → (d s t r : Bool) (rest : Answer) → SmallAnswer rest
    → SmallAnswer (f d s t r rest)
tests-small n f is l false s t r rest h = rw (is.undeclared s t r rest) (record { verdict = omega arith; consulted = omega arith })
tests-small n f is l true false t r rest h = rw (is.first t r rest) (record { verdict = omega arith; consulted = omega arith })
tests-small n f is l true true false r rest h = rw (is.second r rest) (record { verdict = omega arith; consulted = omega arith })
tests-small n f is l true true true false rest h = rw (is.third rest) (record { verdict = omega arith; consulted = omega arith })
tests-small n f is l true true true true rest h = rw (is.passed rest) h

pub change-small : (t : List ℕ) (q : Question) → SmallAnswer (change_on t q)
unfolding change_on change ruled_by
change-small t q = by (image_in t) refl
  where
    by : (o : Option Image) → image_in t ≡ o → SmallAnswer (decided (λ i. change i q) o)
    by none e = record { verdict = omega arith; consulted = omega arith }
    by (some i) e =
        let few = (formed i (image-formed t i e)).few-constraints in
        tests-small 3 _ change-tests (omega arith) _ _ _ _ _ (small _ _ _ (omega arith) few (first-within 4 (omega arith) _ _ 0 i.constraints))

pub relabel-small : (t : List ℕ) (q : Relabelling) → SmallAnswer (relabel_on t q)
unfolding relabel_on relabel ruled_relabel
relabel-small t q = by (image_in t) refl
  where
    by : (o : Option Image) → image_in t ≡ o → SmallAnswer (decided (λ i. relabel i q) o)
    by none e = record { verdict = omega arith; consulted = omega arith }
    by (some i) e =
        let few = (formed i (image-formed t i e)).few-relabels in
        tests-small 5 _ relabel-tests (omega arith) _ _ _ _ _ (small _ _ _ (omega arith) (omega arith) (first-within 6 (omega arith) _ _ 0 i.relabels))

-- NEW ROLE

abbrev pub SmallRole : Reply ℕ → Type 0
SmallRole (answered r) = r < 128
SmallRole (refused n at) = n ≤ 12

first-new : (n r t c : ℕ) (ms : List TransitionEntry) → r < n → All (λ (m : TransitionEntry). m.new < n) ms → first_transition r t c ms < n
unfolding first_transition
first-new n r t c [] l h = l
first-new n r t c (m ∷ ms) l h = by (matches r t c m) (first-new n r t c ms l h.1)
  where
    by : (b : Bool) → first_transition r t c ms < n → cond b m.new (first_transition r t c ms) < n
    by true k = h.0
    by false k = k

new-below : (i : Image) → well_formed i ≡ true → All (λ (m : TransitionEntry). m.new < count (thing_of roles) i.names) i.transitions
new-below i h = all_map (λ (m : TransitionEntry). good_transition i.names m ≡ true) (λ (m : TransitionEntry). m.new < count (thing_of roles) i.names)
    (λ m g. (good-transition i.names m g).new) i.transitions (formed i h).transitions

pub new-role-small : (t : List ℕ) (r y c : ℕ) → SmallRole (new_role_on t r y c)
unfolding new_role_on new_role
new-role-small t r y c = by (image_in t) refl
  where
    in_image : (i : Image) → well_formed i ≡ true → (d : Bool)
        → (ltb r (count (thing_of roles) i.names) && ltb y (count (thing_of types) i.names) && ltb c (length (class_names i.names))) ≡ d
        → SmallRole (cond d (answered (first_transition r y c i.transitions)) (refused 12 0))
    in_image i h false e = omega arith
    in_image i h true e =
        let a = (both_true _ _ (both_true _ _ e).0).0 in
        omega (
          arith,
          first-new (count (thing_of roles) i.names) r y c i.transitions (ltb-true r (count (thing_of roles) i.names) a) (new-below i h),
          few-of (thing_of roles) i.names (formed i h).names,
        )

    by : (o : Option Image) → image_in t ≡ o → SmallRole (asked (λ i. new_role i r y c) o)
    by none e = omega arith
    by (some i) e = in_image i (image-formed t i e) _ refl

-- NAME OF, AND ENTRY

abbrev PartIn : ℕ → Reply Part → Type 0
PartIn k (answered p) = p.start + p.size ≤ k
PartIn k (refused n at) = n ≤ 12

abbrev pub SmallPart : Reply Part → Type 0
SmallPart r = PartIn 186068 r

part-wider : (n m : ℕ) (r : Reply Part) → n ≤ m → PartIn n r → PartIn m r
part-wider n m (answered p) l h = omega arith
part-wider n m (refused k at) l h = h

name_in : (s n o : ℕ) (es : List NameEntry) → PartIn (o + length (joined (each entry_bytes es))) (name_from s n o es)
unfolding name_from joined each
name_in s n o [] = omega arith
name_in s n o (e ∷ es) = by (eqb e.sort s && eqb e.number n) (name_in s n (o + length (entry_bytes e)) es)
  where
    by : (b : Bool) → PartIn (o + length (entry_bytes e) + length (joined (each entry_bytes es))) (name_from s n (o + length (entry_bytes e)) es)
        → PartIn (o + length (entry_bytes e ++ joined (each entry_bytes es)))
        (cond b (answered (record { start = o + 4; size = length e.name })) (name_from s n (o + length (entry_bytes e)) es))
    by true h = omega (arith, length-append (entry_bytes e) (joined (each entry_bytes es)), entry_length e)
    by false h = part-wider _ _ (name_from s n (o + length (entry_bytes e)) es) (omega (arith, length-append (entry_bytes e) (joined (each entry_bytes es)))) h

-- the bytes of some runs of records
abbrev total : List Records → ℕ
total [] = 0
total (r ∷ rs) = r.number * r.width + total rs

record-in : (k o : ℕ) (rs : List Records) → PartIn (o + total rs) (record_from k o rs)
unfolding record_from
record-in k o [] = omega arith
record-in k o (r ∷ rs) = by (ltb k r.number) refl (record-in (k - r.number) (o + r.number * r.width) rs)
  where
    by : (b : Bool) → ltb k r.number ≡ b → PartIn (o + r.number * r.width + total rs) (record_from (k - r.number) (o + r.number * r.width) rs)
        → PartIn (o + (r.number * r.width + total rs))
        (cond b (answered (record { start = o + k * r.width; size = r.width })) (record_from (k - r.number) (o + r.number * r.width) rs))
    by true e h = omega (arith, mul-le-mul_right {m = suc k} {n = r.number} r.width (ltb-true k r.number e), suc-mul k r.width)
    by false e h = part-wider _ _ (record_from (k - r.number) (o + r.number * r.width) rs) (omega arith) h

module _ (e : ℕ) (i : Image) (h : well_formed i ≡ true) where
  table-bound : first_body e + length (joined (bodies i)) ≤ 186068
  table-bound = omega (arith, bodies-length e i (widths i h), table-room i h e, sections-most e, (formed i h).few-relabels, (formed i h).few-relabel-rows)

  name-small : (s n : ℕ) → SmallPart (name_of e i s n)
  unfolding name_of bodies joined
  name-small s n =
      part-wider _ _ (name_from s n (first_body e) (entries i.names))
      (omega (arith, table-bound, joined-room (bodies i) 0))
      (name_in s n (first_body e) (entries i.names))

  body-small : (b k : ℕ) (rs : List Records) → total rs ≤ length (get_or (bodies i) b []) → SmallPart (record_from k (first_body e + length (joined (take b (bodies i)))) rs)
  body-small b k rs l = part-wider _ _ (record_from k (first_body e + length (joined (take b (bodies i)))) rs) (omega (arith, table-bound, joined-room (bodies i) b)) (record-in k _ rs)

  entry-small : (b k : ℕ) → SmallPart (entry_of e i b k)
  unfolding entry_of record_from bodies
  entry-small zero k = omega arith
  entry-small (suc zero) k = omega arith
  entry-small (suc (suc zero)) k = body-small 1 k (get_or (records i) 2 []) (omega (arith, wide-length 16 i.user_roles (widths i h).user_roles))
  entry-small (suc (suc (suc zero))) k = body-small 2 k (get_or (records i) 3 []) (omega (arith, wide-length 64 i.role_types (widths i h).role_types))
  entry-small (suc (suc (suc (suc zero)))) k = body-small 3 k (get_or (records i) 4 []) (omega (arith, wide-length 16 i.role_roles (widths i h).role_roles))
  entry-small (suc (suc (suc (suc (suc zero))))) k =
      body-small 4 k (get_or (records i) 5 [])
      (omega (
        arith,
        wide-length 82 (each transition_bytes i.transitions) (transitions-wide i.transitions (widths i h).transitions),
        each-length transition_bytes i.transitions,
      ))
  entry-small (suc (suc (suc (suc (suc (suc zero)))))) k =
      body-small 5 k (get_or (records i) 6 [])
      (omega (
        arith,
        wide-length 10 (each constraint_bytes (constraint_records 0 i.constraints))
            (every-wide 10 constraint_bytes constraint-wide (constraint_records 0 i.constraints)),
        each-length constraint_bytes (constraint_records 0 i.constraints),
        constraint-records-length 0 i.constraints,
      ))
  entry-small (suc (suc (suc (suc (suc (suc (suc zero))))))) k = body-small 6 k (get_or (records i) 7 []) (omega arith)
  entry-small (suc (suc (suc (suc (suc (suc (suc (suc zero)))))))) k =
      body-small 7 k (get_or (records i) 8 [])
      (omega (
        arith,
        wide-length 16 i.user_sets (widths i h).user_sets,
        wide-length 16 i.role_sets (widths i h).role_sets,
        wide-length 64 i.type_sets (widths i h).type_sets,
        length-append (joined i.user_sets) (joined i.role_sets ++ joined i.type_sets),
        length-append (joined i.role_sets) (joined i.type_sets),
      ))
  entry-small (suc (suc (suc (suc (suc (suc (suc (suc (suc zero))))))))) k =
      body-small 8 k (get_or (records i) 9 [])
      (omega (
        arith,
        wide-length 4 (each relabel_bytes (each relabel_record i.relabels)) (every-wide 4 relabel_bytes relabel-wide (each relabel_record i.relabels)),
        each-length relabel_bytes (each relabel_record i.relabels),
        each-length relabel_record i.relabels,
      ))
  entry-small (suc (suc (suc (suc (suc (suc (suc (suc (suc (suc zero)))))))))) k = body-small 9 k (get_or (records i) 10 []) (omega arith)
  entry-small (suc (suc (suc (suc (suc (suc (suc (suc (suc (suc (suc b))))))))))) k = omega arith

asked-small : (t : List ℕ) (f : Image → Reply Part) → ((i : Image) → well_formed i ≡ true → SmallPart (f i)) → SmallPart (asked f (image_in t))
asked-small t f g = by (image_in t) refl
  where
    by : (o : Option Image) → image_in t ≡ o → SmallPart (asked f o)
    by none e = omega arith
    by (some i) e = g i (image-formed t i e)

pub name-part-small : (t : List ℕ) (s n : ℕ) → SmallPart (name_on t s n)
unfolding name_on
name-part-small t s n = asked-small t (λ i. name_of (edition_in t) i s n) (λ i h. name-small (edition_in t) i h s n)

pub entry-part-small : (t : List ℕ) (b k : ℕ) → SmallPart (entry_on t b k)
unfolding entry_on
entry-part-small t b k = asked-small t (λ i. entry_of (edition_in t) i b k) (λ i h. entry-small (edition_in t) i h b k)
