-- Only the table of an image has that image in it: bytes in which `image_in` finds i are `encode e i` for their edition e, which i fits, and then
-- anything. Each body is the one that is written by its own law. Assumes nothing.
use Prim.Native.Nat.{ℕ, zero, suc, ◌*◌, ◌/◌, ◌<◌, ◌≤◌}
use native.Mathlib.Omega.{arith}
use mathlib.Core.Path.{◌≡◌, refl, sym, ap, ap₂, ◌∙◌, subst}
use mathlib.Core.Bool.{true}
use mathlib.Core.List.{List, [], ◌∷◌, ◌++◌}
use mathlib.Core.Option.{some, some-injective}
use lib.ListN.{length, get_or, take, drop, take-append-drop, get_or-eq_default}
use lib.Seq.{ext_get_or, get_or-take, length-take-le}
use Rattle.bitset.specs.Relations.{joined}
use Rattle.policy.specs.Basics.{each, each_of, le, All}
use Rattle.policy.specs.Statements.{users, roles, types, thing_of, attribute_of, count}
use Rattle.policy.specs.Rows.{Row}
use Rattle.policy.specs.Image.{Image, TransitionEntry}
use Rattle.policy.specs.Encode.{transition_bytes, ConstraintRecord, constraint_bytes, constraint_records, row_bytes, RelabelRecord, relabel_record}
use Rattle.policy.specs.Encode.{relabel_bytes, bodies}
use Rattle.policy.specs.Encode.{pairs, sections_of, first_body, layout, encode}
use Rattle.policy.specs.Sound.{exactly, transition_at, row_at, constraint_at, assign_rows, relabel_at, assign_relabels, image_from, edition_in, bodies_in, names_at, well_formed, image_in}
use Rattle.policy.proofs.Lists.{all_left, all_right}
use Rattle.table_laws.specs.SoundTable.{Bytes, FitsEdition, all_rows, relabel_rows}
use Rattle.table_laws.proofs.ListLaws.{bound-then, all-joined, all_both, each_back}
use Rattle.policy.proofs.Gathered.{all_get_d}
use Rattle.policy.proofs.Options.{given-some}
use Rattle.table_laws.proofs.Editions.{edition-known}
use Rattle.table_laws.proofs.LayoutOnly.{layout-only}
use Rattle.table_laws.proofs.Pieces.{Wide, exactly-only}
use Rattle.table_laws.proofs.Records.{transition-only, constraint-only, relabel-only, rows-only}
use Rattle.table_laws.proofs.NamesOnly.{names-only}
use Rattle.table_laws.proofs.Constraints.{assign-only, relabels-only}

-- records of w bytes are those of their bytes
records-written : {A : Type 0} (w : ℕ) (read : List ℕ → A) (write : A → List ℕ) → ((t : List ℕ) → length t ≡ w → Bytes t → write (read t) ≡ t)
    → (ts : List (List ℕ)) → Wide w ts → All Bytes ts → each write (each read ts) ≡ ts
records-written w read write only ts wide b = each_back (λ (t : List ℕ). (length t ≡ w) × Bytes t) read write (λ t h. only t h.0 h.1) ts
    (all_both (λ (t : List ℕ). length t ≡ w) Bytes ts wide b)

module _ (bs : List (List ℕ)) where
  abbrev body : ℕ → List ℕ
  body k = get_or bs k []

  -- what is found in the bodies bs
  record Found (i : Image) : Type 0 where
    names : names_at (body 0) ≡ some i.names
    user_roles : exactly (count (thing_of users) i.names) 16 (body 1) ≡ some i.user_roles
    role_types : exactly (count (thing_of roles) i.names) 64 (body 2) ≡ some i.role_types
    role_roles : exactly (count (thing_of roles) i.names) 16 (body 3) ≡ some i.role_roles
    ms : List (List ℕ)
    moves : exactly (length (body 4) / 82) 82 (body 4) ≡ some ms
    transitions : each transition_at ms ≡ i.transitions
    hs : List (List ℕ)
    records : exactly (length (body 5) / 10) 10 (body 5) ≡ some hs
    ts : List (List ℕ)
    lines : exactly (length (body 6) / 6) 6 (body 6) ≡ some ts
    rs : List Row
    rows : each_of row_at ts ≡ some rs
    constraints : assign_rows 0 (each constraint_at hs) rs ≡ some i.constraints
    user_sets : exactly (count (attribute_of users) i.names) 16 (take (16 * count (attribute_of users) i.names) (body 7)) ≡ some i.user_sets
    role_sets :
        exactly (count (attribute_of roles) i.names) 16 (take (16 * count (attribute_of roles) i.names) (drop (16 * count (attribute_of users) i.names) (body 7)))
        ≡ some i.role_sets
    type_sets :
        exactly (count (attribute_of types) i.names) 64 (drop (16 * count (attribute_of roles) i.names) (drop (16 * count (attribute_of users) i.names) (body 7)))
        ≡ some i.type_sets
    vs : List (List ℕ)
    statements : exactly (length (body 8) / 4) 4 (body 8) ≡ some vs
    us : List (List ℕ)
    relabel-lines : exactly (length (body 9) / 6) 6 (body 9) ≡ some us
    ws : List Row
    relabel-rows : each_of row_at us ≡ some ws
    relabels : assign_relabels (each relabel_at vs) ws ≡ some i.relabels

  found : (i : Image) → image_from bs ≡ some i → Found i
  found i h =
      bound-then (names_at (body 0)) _ i h λ ds names h.
      let ua = 16 * count (attribute_of users) ds in
      let ra = 16 * count (attribute_of roles) ds in
      bound-then (exactly (count (thing_of users) ds) 16 (body 1)) _ i h λ ur user_roles h.
      bound-then (exactly (count (thing_of roles) ds) 64 (body 2)) _ i h λ rt role_types h.
      bound-then (exactly (count (thing_of roles) ds) 16 (body 3)) _ i h λ rr role_roles h.
      bound-then (exactly (length (body 4) / 82) 82 (body 4)) _ i h λ ms moves h.
      bound-then (exactly (length (body 5) / 10) 10 (body 5)) _ i h λ hs records h.
      bound-then (exactly (length (body 6) / 6) 6 (body 6)) _ i h λ ts lines h.
      bound-then (each_of row_at ts) _ i h λ rs rows h.
      bound-then (assign_rows 0 (each constraint_at hs) rs) _ i h λ cs constraints h.
      bound-then (exactly (count (attribute_of users) ds) 16 (take ua (body 7))) _ i h λ us user_sets h.
      bound-then (exactly (count (attribute_of roles) ds) 16 (take ra (drop ua (body 7)))) _ i h λ ss role_sets h.
      bound-then (exactly (count (attribute_of types) ds) 64 (drop ra (drop ua (body 7)))) _ i h λ ys type_sets h.
      bound-then (exactly (length (body 8) / 4) 4 (body 8)) _ i h λ vs statements h.
      bound-then (exactly (length (body 9) / 6) 6 (body 9)) _ i h λ xs relabel-lines h.
      bound-then (each_of row_at xs) _ i h λ ws relabel-rows h.
      bound-then (assign_relabels (each relabel_at vs) ws) _ i h λ rel relabels h.
      subst Found (some-injective _ i h)
      (record {
        names = names;
        user_roles = user_roles;
        role_types = role_types;
        role_roles = role_roles;
        ms = ms;
        moves = moves;
        transitions = refl;
        hs = hs;
        records = records;
        ts = ts;
        lines = lines;
        rs = rs;
        rows = rows;
        constraints = constraints;
        user_sets = user_sets;
        role_sets = role_sets;
        type_sets = type_sets;
        vs = vs;
        statements = statements;
        us = xs;
        relabel-lines = relabel-lines;
        ws = ws;
        relabel-rows = relabel-rows;
        relabels = relabels;
      })

  -- ten bodies by their places
  abbrev places : List (List ℕ)
  places = body 0 ∷ body 1 ∷ body 2 ∷ body 3 ∷ body 4 ∷ body 5 ∷ body 6 ∷ body 7 ∷ body 8 ∷ body 9 ∷ []

  -- the bodies of an image are those in which it is found, one that is not there being empty
  from-only : (i : Image) → All Bytes bs → Found i → bodies i ≡ places
  unfolding bodies
  from-only i bytes f = λ j.
      names-only (body 0) i.names (byte 0) f.names j
      ∷ (exactly-only (count (thing_of users) i.names) 16 (body 1) i.user_roles f.user_roles).whole j
      ∷ (exactly-only (count (thing_of roles) i.names) 64 (body 2) i.role_types f.role_types).whole j
      ∷ (exactly-only (count (thing_of roles) i.names) 16 (body 3) i.role_roles f.role_roles).whole j
      ∷ five j
      ∷ six j
      ∷ seven j
      ∷ eight j
      ∷ nine j
      ∷ ten j
      ∷ []
    where
      byte : (k : ℕ) → Bytes (body k)
      byte k = all_get_d Bytes bs k [] bytes tt

      five : joined (each transition_bytes i.transitions) ≡ body 4
      five =
          let p = exactly-only (length (body 4) / 82) 82 (body 4) f.ms f.moves in
          ap (λ (ms : List TransitionEntry). joined (each transition_bytes ms)) (sym f.transitions)
          ∙ ap joined (each_back (λ s. length s ≡ 82) transition_at transition_bytes transition-only f.ms p.wide) ∙ p.whole

      dealt : (constraint_records 0 i.constraints ≡ each constraint_at f.hs) × (all_rows i ≡ f.rs)
      dealt = assign-only 0 (each constraint_at f.hs) f.rs i.constraints f.constraints

      six : joined (each constraint_bytes (constraint_records 0 i.constraints)) ≡ body 5
      six =
          let p = exactly-only (length (body 5) / 10) 10 (body 5) f.hs f.records in
          let b = all-joined (λ b. b < 256) f.hs (rw p.whole (byte 5)) in
          ap (λ (hs : List ConstraintRecord). joined (each constraint_bytes hs)) dealt.0 ∙ ap joined (records-written 10 constraint_at constraint_bytes constraint-only f.hs p.wide b) ∙ p.whole

      -- the rows that are read from a body
      rows_of : (k : ℕ) (ts : List (List ℕ)) (rs rows : List Row) → exactly (length (body k) / 6) 6 (body k) ≡ some ts → each_of row_at ts ≡ some rs → rows ≡ rs
          → joined (each row_bytes rows) ≡ body k
      rows_of k ts rs rows lines read same =
          let p = exactly-only (length (body k) / 6) 6 (body k) ts lines in
          let b = all-joined (λ b. b < 256) ts (rw p.whole (byte k)) in
          ap (λ (rs : List Row). joined (each row_bytes rs)) same ∙ ap joined (rows-only ts rs p.wide b read) ∙ p.whole

      seven : joined (each row_bytes (all_rows i)) ≡ body 6
      seven = rows_of 6 f.ts f.rs (all_rows i) f.lines f.rows dealt.1

      eight : joined i.user_sets ++ (joined i.role_sets ++ joined i.type_sets) ≡ body 7
      eight =
          let ua = 16 * count (attribute_of users) i.names in
          let ra = 16 * count (attribute_of roles) i.names in
          ap₂ ◌++◌ (exactly-only (count (attribute_of users) i.names) 16 (take ua (body 7)) i.user_sets f.user_sets).whole
          (ap₂ ◌++◌ (exactly-only (count (attribute_of roles) i.names) 16 (take ra (drop ua (body 7))) i.role_sets f.role_sets).whole
          (exactly-only (count (attribute_of types) i.names) 64 (drop ra (drop ua (body 7))) i.type_sets f.type_sets).whole
          ∙ take-append-drop ra (drop ua (body 7)))
          ∙ take-append-drop ua (body 7)

      dealt-out : (each relabel_record i.relabels ≡ each relabel_at f.vs) × (relabel_rows i ≡ f.ws)
      dealt-out = relabels-only (each relabel_at f.vs) f.ws i.relabels f.relabels

      nine : joined (each relabel_bytes (each relabel_record i.relabels)) ≡ body 8
      nine =
          let p = exactly-only (length (body 8) / 4) 4 (body 8) f.vs f.statements in
          let b = all-joined (λ b. b < 256) f.vs (rw p.whole (byte 8)) in
          ap (λ (hs : List RelabelRecord). joined (each relabel_bytes hs)) dealt-out.0
          ∙ ap joined (records-written 4 relabel_at relabel_bytes relabel-only f.vs p.wide b) ∙ p.whole

      ten : joined (each row_bytes (relabel_rows i)) ≡ body 9
      ten = rows_of 9 f.us f.ws (relabel_rows i) f.relabel-lines f.relabel-rows dealt-out.1

  module _ (few : length bs ≤ 10) where
    -- ten places have what the bodies have, at each place
    place : (k : ℕ) → get_or places k [] ≡ body k
    place zero = refl
    place (suc zero) = refl
    place (suc (suc zero)) = refl
    place (suc (suc (suc zero))) = refl
    place (suc (suc (suc (suc zero)))) = refl
    place (suc (suc (suc (suc (suc zero))))) = refl
    place (suc (suc (suc (suc (suc (suc zero)))))) = refl
    place (suc (suc (suc (suc (suc (suc (suc zero))))))) = refl
    place (suc (suc (suc (suc (suc (suc (suc (suc zero)))))))) = refl
    place (suc (suc (suc (suc (suc (suc (suc (suc (suc zero))))))))) = refl
    place (suc (suc (suc (suc (suc (suc (suc (suc (suc (suc k)))))))))) =
        sym (get_or-eq_default bs [] {n = suc (suc (suc (suc (suc (suc (suc (suc (suc (suc k)))))))))} (omega arith))

    -- so as many of them as there are bodies are those
    places-take : take (length bs) places ≡ bs
    places-take =
        let long = length-take-le (length bs) places few in
        ext_get_or [] (take (length bs) places) bs long (λ k l. get_or-take (length bs) places k [] (omega (arith, l, long)) ∙ place k)

-- the bodies of a table of bytes are bytes
pub bodies-bytes : (e : ℕ) (bs : List (List ℕ)) (rest : List ℕ) → Bytes (layout e bs ++ rest) → All Bytes bs
bodies-bytes e bs rest b =
    let p : ℕ → Type 0 = λ n. n < 256 in
    let after = pairs (first_body e) bs ++ joined bs in
    all-joined p bs (all_right p (pairs (first_body e) bs) (joined bs)
    (all_right p (le 2 (sections_of e)) after (all_right p (le 2 e) (le 2 (sections_of e) ++ after) (all_left p (layout e bs) rest b))))

-- what a sound table holds is well-formed
pub image-formed : (t : List ℕ) (i : Image) → image_in t ≡ some i → well_formed i ≡ true
unfolding image_in
image-formed t i h =
    bound-then (bodies_in t) _ i h λ bs cut h.
    bound-then (image_from bs) _ i h λ im read h.
    let g = given-some (well_formed im) im i h in
    subst (λ (i : Image). well_formed i ≡ true) g.1 g.0

-- bytes that are the table of a well-formed image in their own edition, which it fits, and then anything
pub record TableOf (t : List ℕ) (i : Image) : Type 0 where
  pub known : 0 < sections_of (edition_in t)
  pub formed : well_formed i ≡ true
  pub fits : FitsEdition (edition_in t) i
  pub rest : List ℕ
  pub laid : t ≡ encode (edition_in t) i ++ rest

-- bodies in which a well-formed image is found, laid out
from-laid : (t : List ℕ) → Bytes t → (bs : List (List ℕ)) → bodies_in t ≡ some bs → (i : Image) → image_from bs ≡ some i → well_formed i ≡ true → TableOf t i
unfolding encode
from-laid t b bs cut i read good =
    let e = edition_in t in
    let l = layout-only t bs b cut in
    let few : length bs ≤ 10 = omega (arith, l.many, (edition-known e l.known).most) in
    let same = from-only bs i (bodies-bytes e bs l.rest (subst Bytes l.laid b)) (found bs i read) in
    let taken : take (sections_of e) (bodies i) ≡ bs = ap (take (sections_of e)) same ∙ ap (λ (n : ℕ). take n (places bs)) (sym l.many) ∙ places-take bs few in
    record {
      known = l.known;
      formed = good;
      fits = λ k m. ap (λ (cs : List (List ℕ)). get_or cs k []) same ∙ place bs few k ∙ get_or-eq_default bs [] {n = k} (omega (arith, l.many, m));
      rest = l.rest;
      laid = l.laid ∙ ap (λ (cs : List (List ℕ)). layout e cs ++ l.rest) (sym taken);
    }

-- ONLY THE TABLE OF A WELL-FORMED IMAGE IS READ AS THAT IMAGE
pub table-only : (t : List ℕ) → Bytes t → (i : Image) → image_in t ≡ some i → TableOf t i
unfolding image_in
table-only t b i h =
    bound-then (bodies_in t) _ i h λ bs cut h.
    bound-then (image_from bs) _ i h λ im read h.
    let g = given-some (well_formed im) im i h in
    subst (TableOf t) g.1 (from-laid t b bs cut im read g.0)
