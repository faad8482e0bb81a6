-- The question entry shows the entry of the image: a set, a transition, the record of a constraint or of a validatetrans statement, a row. One
-- law over runs of records, by induction on the runs. Assumes nothing.
use Prim.Native.Nat.{ℕ, zero, suc, ◌+◌, ◌-◌, ◌*◌, ◌/◌, ◌<◌}
use native.Mathlib.Omega.{arith}
use native.Mathlib.Nat.{suc-mul, zero-mul, zero-add, suc-add}
use mathlib.Core.Path.{◌≡◌, refl, sym, ap, ◌∙◌}
use mathlib.Core.Bool.{Bool, true, false, cond}
use mathlib.Core.List.{List, [], ◌∷◌, ◌++◌, append_assoc, append-nil}
use mathlib.Core.Option.{some}
use lib.Dec.{ltb}
use lib.ListN.{length, get_or, get_elem?, take, drop}
use lib.Seq.{take_at, drop_at, drop-drop}
use borrow.Author.Tests.{ltb-true, ltb-false}
use Rattle.bitset.specs.Relations.{joined}
use Rattle.policy.specs.Basics.{each}
use Rattle.policy.specs.Rows.{Row}
use Rattle.policy.specs.Image.{Image}
use Rattle.policy.specs.Encode.{transition_bytes, constraint_bytes, constraint_records, row_bytes, relabel_record, relabel_bytes, bodies, sections_of}
use Rattle.policy.specs.Encode.{first_body, encode}
use Rattle.policy.specs.Sound.{well_formed}
use Rattle.policy.specs.Deciding.{answered}
use Rattle.policy.specs.Questions.{Records, records_of, record_from, entry_of}
use Rattle.policy.proofs.Lists.{each-length}
use Rattle.table_laws.specs.SoundTable.{FitsEdition, all_rows, relabel_rows}
use Rattle.table_laws.specs.Shown.{shown, or_twelve, records_in}
use Rattle.table_laws.proofs.LayoutLaws.{table_at}
use Rattle.table_laws.proofs.Pieces.{Wide, wide-length}
use Rattle.table_laws.proofs.Records.{constraint-wide, relabel-wide, row-wide}
use Rattle.table_laws.proofs.ImageReadBack.{every-wide, transitions-wide}
use Rattle.table_laws.proofs.Lengths.{constraint-records-length, rows-length}
use Rattle.table_laws.proofs.WellFormedLaid.{widths}

-- part k of parts of one width
piece-at : (w : ℕ) (ss : List (List ℕ)) → Wide w ss → (k : ℕ) → k < length ss → (rest : List ℕ) → take w (drop (k * w) (joined ss ++ rest)) ≡ get_or ss k []
unfolding joined
piece-at w [] h k l rest = absurd (omega arith)
piece-at w (s ∷ ss) h zero l rest = rw (zero-mul w, append_assoc s (joined ss) rest) (take_at s (joined ss ++ rest) w h.0)
piece-at w (s ∷ ss) h (suc k) l rest =
    rw (turned k w, append_assoc s (joined ss) rest, ← drop-drop (k * w) w (s ++ (joined ss ++ rest)), drop_at s (joined ss ++ rest) w h.0)
    (piece-at w ss h.1 k (omega arith) rest)
  where
    turned : (k w : ℕ) → suc k * w ≡ w + k * w
    turned k w = omega (arith, suc-mul k w)

-- element k of two lists
module _ {A : Type 0} where
  in_left : (xs ys : List A) (k : ℕ) (d : A) → k < length xs → get_elem? (xs ++ ys) k ≡ some (get_or xs k d)
  in_left [] ys k d h = absurd (omega arith)
  in_left (x ∷ xs) ys zero d h = refl
  in_left (x ∷ xs) ys (suc k) d h = in_left xs ys k d (omega arith)

  in_right : (xs ys : List A) (k : ℕ) → get_elem? (xs ++ ys) (length xs + k) ≡ get_elem? ys k
  in_right [] ys k = rw zero-add
  in_right (x ∷ xs) ys k = rw suc-add (in_right xs ys k)

-- runs that say how many records there are in each group, and how wide
abbrev Runs : List Records → List (List (List ℕ)) → Type 0
Runs [] [] = Unit {0}
Runs [] (g ∷ gs) = ⊥
Runs (r ∷ rs) [] = ⊥
Runs (r ∷ rs) (g ∷ gs) = (r.number ≡ length g) × Wide r.width g × Runs rs gs

record-shown : (rs : List Records) (gs : List (List (List ℕ))) → Runs rs gs → (k o : ℕ) (t rest : List ℕ) → drop o t ≡ joined (each joined gs) ++ rest
    → shown t (record_from k o rs) ≡ or_twelve (get_elem? (joined gs) k)
unfolding record_from joined each
record-shown [] [] h k o t rest e = refl
record-shown [] (g ∷ gs) h k o t rest e = absurd h
record-shown (r ∷ rs) [] h k o t rest e = absurd h
record-shown (r ∷ rs) (g ∷ gs) h k o t rest e =
    by (ltb k r.number) refl
    (λ j. record-shown rs gs h.2 j (o + r.number * r.width) t rest)
  where
    front : drop o t ≡ joined g ++ (joined (each joined gs) ++ rest)
    front = e ∙ append_assoc (joined g) (joined (each joined gs)) rest

    behind : drop (o + r.number * r.width) t ≡ joined (each joined gs) ++ rest
    behind = sym (drop-drop (r.number * r.width) o t) ∙ ap (drop (r.number * r.width)) front
        ∙ drop_at (joined g) (joined (each joined gs) ++ rest) (r.number * r.width) (wide-length r.width g h.1 ∙ ap (λ (n : ℕ). n * r.width) (sym h.0))

    by : (b : Bool) → ltb k r.number ≡ b
        → ((j : ℕ) → drop (o + r.number * r.width) t ≡ joined (each joined gs) ++ rest → shown t (record_from j (o + r.number * r.width) rs) ≡ or_twelve (get_elem? (joined gs) j))
        → shown t (cond b (answered (record { start = o + k * r.width; size = r.width })) (record_from (k - r.number) (o + r.number * r.width) rs)) ≡
        or_twelve (get_elem? (g ++ joined gs) k)
    by true q after =
        let l = ltb-true k r.number q in
        rw (
          in_left g (joined gs) k [] (omega (arith, h.0)),
          ← drop-drop (k * r.width) o t,
          front,
          piece-at r.width g h.1 k (omega (arith, h.0)) (joined (each joined gs) ++ rest),
        )
    by false q after =
        let l = ltb-false k r.number q in
        let whole : k ≡ length g + (k - r.number) = omega (arith, h.0) in
        after (k - r.number) behind ∙ ap or_twelve (sym (in_right g (joined gs) (k - r.number)) ∙ ap (get_elem? (g ++ joined gs)) (sym whole))

module _ (e : ℕ) (i : Image) (known : 0 < sections_of e) (fits : FitsEdition e i) (h : well_formed i ≡ true) (rest : List ℕ) where
  -- a body that is the groups' records, one after the other
  body-shown : (b : ℕ) (rs : List Records) (gs : List (List (List ℕ))) → Runs rs gs → get_or (bodies i) b [] ≡ joined (each joined gs) → (k : ℕ)
      → shown (encode e i ++ rest) (record_from k (first_body e + length (joined (take b (bodies i)))) rs) ≡ or_twelve (get_elem? (joined gs) k)
  body-shown b rs gs r same k =
      record-shown rs gs r k (first_body e + length (joined (take b (bodies i)))) (encode e i ++ rest) (joined (drop (suc b) (bodies i)) ++ rest)
      (table_at e i known fits rest b ∙ ap (λ (x : List ℕ). x ++ (joined (drop (suc b) (bodies i)) ++ rest)) same)

  -- a body of one run
  one-run : (b n w : ℕ) (g : List (List ℕ)) → n ≡ length g → Wide w g → get_or (bodies i) b [] ≡ joined g → (k : ℕ)
      → shown (encode e i ++ rest) (record_from k (first_body e + length (joined (take b (bodies i)))) (records_of n w ∷ [])) ≡ or_twelve (get_elem? g k)
  unfolding joined each
  one-run b n w g m wide same k =
      body-shown b (records_of n w ∷ []) (g ∷ []) (m, wide, tt) (same ∙ sym (append-nil (joined g))) k ∙ ap (λ (r : List (List ℕ)). or_twelve (get_elem? r k)) (append-nil g)

  -- a body of rows
  rows_run : (b : ℕ) (rs : List Row) → get_or (bodies i) b [] ≡ joined (each row_bytes rs) → (k : ℕ)
      → shown (encode e i ++ rest) (record_from k (first_body e + length (joined (take b (bodies i)))) (records_of (length (get_or (bodies i) b []) / 6) 6 ∷ []))
      ≡ or_twelve (get_elem? (each row_bytes rs) k)
  rows_run b rs same k = one-run b (length (get_or (bodies i) b []) / 6) 6 (each row_bytes rs) many (every-wide 6 row_bytes row-wide rs) same k
    where
      many : length (get_or (bodies i) b []) / 6 ≡ length (each row_bytes rs)
      many = omega (arith, ap length same, rows-length rs, each-length row_bytes rs)

  last-body : joined i.user_sets ++ (joined i.role_sets ++ joined i.type_sets) ≡ joined (each joined (i.user_sets ∷ i.role_sets ∷ i.type_sets ∷ []))
  unfolding joined each
  last-body = rw (append-nil (joined i.type_sets))

  last-records : joined (i.user_sets ∷ i.role_sets ∷ i.type_sets ∷ []) ≡ i.user_sets ++ (i.role_sets ++ i.type_sets)
  unfolding joined
  last-records = rw (append-nil i.type_sets)

  -- THE ENTRY SHOWN IS THE IMAGE'S, whatever is after the table; and where there is none the answer is 12
  pub entry-shown : (b k : ℕ) → shown (encode e i ++ rest) (entry_of e i b k) ≡ or_twelve (get_elem? (records_in i b) k)
  unfolding entry_of records_in record_from bodies
  entry-shown zero k = refl
  entry-shown (suc zero) k = refl
  entry-shown (suc (suc zero)) k = one-run 1 (length i.user_roles) 16 i.user_roles refl (widths i h).user_roles refl k
  entry-shown (suc (suc (suc zero))) k = one-run 2 (length i.role_types) 64 i.role_types refl (widths i h).role_types refl k
  entry-shown (suc (suc (suc (suc zero)))) k = one-run 3 (length i.role_roles) 16 i.role_roles refl (widths i h).role_roles refl k
  entry-shown (suc (suc (suc (suc (suc zero))))) k =
      one-run 4 (length i.transitions) 82 (each transition_bytes i.transitions) (sym (each-length transition_bytes i.transitions))
      (transitions-wide i.transitions (widths i h).transitions) refl k
  entry-shown (suc (suc (suc (suc (suc (suc zero)))))) k =
      one-run 5 (length i.constraints) 10 (each constraint_bytes (constraint_records 0 i.constraints))
      (sym (each-length constraint_bytes (constraint_records 0 i.constraints) ∙ constraint-records-length 0 i.constraints))
      (every-wide 10 constraint_bytes constraint-wide (constraint_records 0 i.constraints)) refl k
  entry-shown (suc (suc (suc (suc (suc (suc (suc zero))))))) k =
      rows_run 6 (all_rows i) refl k
  entry-shown (suc (suc (suc (suc (suc (suc (suc (suc zero)))))))) k =
      body-shown 7 (records_of (length i.user_sets) 16 ∷ records_of (length i.role_sets) 16 ∷ records_of (length i.type_sets) 64 ∷ [])
      (i.user_sets ∷ i.role_sets ∷ i.type_sets ∷ [])
      (refl, (widths i h).user_sets, (refl, (widths i h).role_sets, (refl, (widths i h).type_sets, tt))) last-body k
      ∙ ap (λ (r : List (List ℕ)). or_twelve (get_elem? r k)) last-records
  entry-shown (suc (suc (suc (suc (suc (suc (suc (suc (suc zero))))))))) k =
      one-run 8 (length i.relabels) 4 (each relabel_bytes (each relabel_record i.relabels))
      (sym (each-length relabel_bytes (each relabel_record i.relabels) ∙ each-length relabel_record i.relabels))
      (every-wide 4 relabel_bytes relabel-wide (each relabel_record i.relabels)) refl k
  entry-shown (suc (suc (suc (suc (suc (suc (suc (suc (suc (suc zero)))))))))) k = rows_run 9 (relabel_rows i) refl k
  entry-shown (suc (suc (suc (suc (suc (suc (suc (suc (suc (suc (suc b))))))))))) k = refl
