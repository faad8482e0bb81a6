-- A TABLE IS SOUND EXACTLY WHERE IT IS LAID OUT, ITS NAMES ARE SOUND AND ITS OTHER BODIES ARE. The steps of `image_from` are tests one after the
-- other; they are brought into the order of the bodies, and each body's tests are those of its law in SoundBodyLaws. Assumes nothing.
use Prim.Native.Nat.{ℕ, ◌*◌, ◌/◌, ◌^◌, ◌<◌}
use native.Mathlib.Omega.{arith}
use mathlib.Core.Path.{◌≡◌, refl, sym, ap, ◌∙◌}
use mathlib.Core.Bool.{Bool, true, false, ◌&&◌, and-false, and_assoc}
use mathlib.Core.List.{List, []}
use mathlib.Core.Option.{Option, none, some, some-injective}
use lib.Dec.{eqb, leb, ltb}
use lib.ListN.{length, get_or, take, drop}
use borrow.Author.Tests.{ltb-true}
use Rattle.byte_slices.specs.Parts.{part}
use Rattle.bitset.specs.Relations.{joined}
use Rattle.policy.specs.Basics.{◌>>=◌, given, each, each_of, every}
use Rattle.policy.specs.Statements.{Family, users, roles, types, thing_of, attribute_of, Declaration, count, class_names, permissions}
use Rattle.policy.specs.Maxima.{max_transitions, max_constraints, max_rows, max_relabels, max_relabel_rows}
use Rattle.policy.specs.Rows.{balanced}
use Rattle.policy.specs.Image.{Image, ConstraintEntry, RelabelEntry}
use Rattle.policy.specs.Sound.{good_from, good_sets, good_transition, good_constraint, pieces, exactly, transition_at, constraint_at, row_at, assign_rows, names_at}
use Rattle.policy.specs.Sound.{good_relabel, relabel_at, assign_relabels, well_formed, bodies_in, image_from, image_in}
use Rattle.policy.proofs.Lists.{both_true, true-both, same_tests}
use Rattle.policy.proofs.Options.{given-some, given-passes}
use Rattle.table_laws.proofs.Constraints.{rows_in}
use Rattle.table_laws.proofs.ListLaws.{bound-then}
use Rattle.table_laws.proofs.WellFormed.{formed}
use Rattle.table_reader.specs.Records.{start_in, length_in}
use Rattle.sound_constraints.specs.Totals.{Totals, totals_of, things_of, attributes_of, totals_in}
use Rattle.sound_constraints.specs.SoundRows.{is_some, passes, fits_row, fits_mask, fits_constraint}
use Rattle.sound_names.specs.SoundNames.{sound_names, counts_of}
use Rattle.sound_bodies.specs.SoundBodies.{relations_sound, has_records, transitions_sound, attributes_sound, relabels_sound, bodies_sound}
use Rattle.sound_bodies.proofs.LayoutTest.{least_at}
use Rattle.sound_bodies.proofs.SoundBodyLaws.{set_body, transition-body, constraint-bodies, relabel-bodies, attribute-body}

-- THE STEPS AS TESTS

module _ {A B C : Type 0} (G : B → Option C) where
  -- a value that is given if a test passes
  step : (b : Bool) (x : A) (f : A → Option B) {p : Bool} → is_some (f x >>= G) ≡ p → is_some ((given b x >>= f) >>= G) ≡ (b && p)
  step true x f e = e
  step false x f e = refl

  -- two values, the second by the first
  two_steps : {D : Type 0} (o : Option D) (g : D → Option A) (f : A → Option B) (p : A → Bool) → ((a : A) → is_some (f a >>= G) ≡ p a)
      → is_some ((o >>= λ d. g d >>= f) >>= G) ≡ passes (o >>= g) p
  two_steps none g f p e = refl
  two_steps (some d) g f p e = by (g d)
    where
      by : (o : Option A) → is_some ((o >>= f) >>= G) ≡ passes o p
      by none = refl
      by (some a) = e a

-- THE ORDER OF THE TESTS

split : {R : Type 0} (a b : Bool) → (a && b) ≡ true → (a ≡ true → b ≡ true → R) → R
split a b h k = let p = both_true a b h in k p.0 p.1

also : {a b : Bool} → a ≡ true → b ≡ true → (a && b) ≡ true
also {a} {b} h k = true-both a b h k

-- the lengths c and the goodness g of the bodies 2 to 7, what is asked of the constraints, p and q, and what is asked after them, s and r
in_order : {X : Type 0} (o : Option X) (p q : X → Bool) (c₁ c₂ c₃ c₄ c₅ c₆ n g₁ g₂ g₃ m s r : Bool)
    → (c₁ && (c₂ && (c₃ && (c₄ && (c₅ && (c₆ && passes o (λ x. n && g₁ && g₂ && g₃ && m && p x && q x && s && r)))))))
    ≡ (n && (c₁ && g₁ && (c₂ && g₂) && (c₃ && g₃) && (c₄ && m) && (c₅ && (c₆ && passes o (λ x. p x && q x))) && s && r))
in_order none p q c₁ c₂ c₃ c₄ c₅ c₆ n g₁ g₂ g₃ m s r = simp and-false
in_order (some x) p q c₁ c₂ c₃ c₄ c₅ c₆ n g₁ g₂ g₃ m s r = same_tests _ _
    (λ h. split c₁ _ h λ c₁ h. split c₂ _ h λ c₂ h. split c₃ _ h λ c₃ h. split c₄ _ h λ c₄ h. split c₅ _ h λ c₅ h. split c₆ _ h λ c₆ h.
    split _ r h λ h r. split _ s h λ h s. split _ (q x) h λ h q. split _ (p x) h λ h p. split _ m h λ h m. split _ g₃ h λ h g₃. split _ g₂ h λ h g₂. split n g₁ h λ n g₁.
    also n (also (also (also (also (also (also (also c₁ g₁) (also c₂ g₂)) (also c₃ g₃)) (also c₄ m)) (also c₅ (also c₆ (also p q)))) s) r))
    (λ h. split n _ h λ n h. split _ r h λ h r. split _ s h λ h s. split _ (c₅ && (c₆ && (p x && q x))) h λ h cs. split _ (c₄ && m) h λ h ms. split _ (c₃ && g₃) h λ h rr.
    split (c₁ && g₁) (c₂ && g₂) h λ ur rt.
    split c₁ g₁ ur λ c₁ g₁. split c₂ g₂ rt λ c₂ g₂. split c₃ g₃ rr λ c₃ g₃. split c₄ m ms λ c₄ m. split c₅ _ cs λ c₅ cs. split c₆ _ cs λ c₆ cs. split (p x) (q x) cs λ p q.
    also c₁ (also c₂ (also c₃ (also c₄ (also c₅ (also c₆ (also (also (also (also (also (also (also (also n g₁) g₂) g₃) m) p) q) s) r)))))))

-- the same of the three lengths and sets of body 8, after what was asked before it, a, and before what is asked after it, r
attributes-in-order : (c₁ c₂ c₃ a g₁ g₂ g₃ r : Bool)
    → (c₁ && (c₂ && (c₃ && (a && g₁ && g₂ && g₃ && r)))) ≡ (a && (c₁ && (c₂ && (c₃ && (g₁ && g₂ && g₃)))) && r)
attributes-in-order c₁ c₂ c₃ a g₁ g₂ g₃ r = same_tests _ _
    (λ h. split c₁ _ h λ c₁ h. split c₂ _ h λ c₂ h. split c₃ _ h λ c₃ h. split _ r h λ h r. split _ g₃ h λ h g₃. split _ g₂ h λ h g₂. split a g₁ h λ a g₁.
    also (also a (also c₁ (also c₂ (also c₃ (also (also g₁ g₂) g₃))))) r)
    (λ h. split _ r h λ h r. split a _ h λ a h. split c₁ _ h λ c₁ h. split c₂ _ h λ c₂ h. split c₃ _ h λ c₃ h. split _ g₃ h λ h g₃. split g₁ g₂ h λ g₁ g₂.
    also c₁ (also c₂ (also c₃ (also (also (also (also a g₁) g₂) g₃) r))))

-- and of the bodies 9 and 10, after what was asked before them
relabels-in-order : {X : Type 0} (o : Option X) (p : X → Bool) (c₁ c₂ a : Bool) → (c₁ && (c₂ && passes o (λ x. a && p x))) ≡ (a && (c₁ && (c₂ && passes o p)))
relabels-in-order none p c₁ c₂ a = simp and-false
relabels-in-order (some x) p c₁ c₂ a = same_tests _ _
    (λ h. split c₁ _ h λ c₁ h. split c₂ _ h λ c₂ h. split a _ h λ a p. also a (also c₁ (also c₂ p)))
    (λ h. split a _ h λ a h. split c₁ _ h λ c₁ h. split c₂ _ h λ c₂ p. also c₁ (also c₂ (also a p)))

-- THE BODIES OF A TABLE THAT IS LAID OUT

module _ (t : List ℕ) (bs : List (List ℕ)) (laid : bodies_in t ≡ some bs) (ds : List Declaration) where
  abbrev body : ℕ → List ℕ
  body k = get_or bs k []

  abbrev well_formed_image : Image → Option Image
  well_formed_image i = given (well_formed i) i

  -- the last steps: the bodies 9 and 10, where a was asked of the image before
  relabels-last : (a : Bool) (image : List RelabelEntry → Image)
      → ((vs : List RelabelEntry) → well_formed (image vs)
      ≡ (a && (leb (length vs) max_relabels && every (good_relabel ds) vs) && leb (length (joined (each (λ (v : RelabelEntry). v.rows) vs))) max_relabel_rows))
      → is_some ((
      exactly (length (body 8) / 4) 4 (body 8) >>= λ vs.
      exactly (length (body 9) / 6) 6 (body 9) >>= λ ws.
      each_of row_at ws >>= λ ws.
      assign_relabels (each relabel_at vs) ws >>= λ vs.
      some (image vs)
      ) >>= well_formed_image) ≡ (a && relabels_sound (totals_of ds) t)
  relabels-last a image formed =
      let hs = pieces (length (body 8) / 4) 4 (body 8) in
      let ts = pieces (length (body 9) / 6) 6 (body 9) in
      let few : List RelabelEntry → Bool = λ vs. leb (length vs) max_relabels && every (good_relabel ds) vs in
      let few-rows : List RelabelEntry → Bool = λ vs. leb (length (joined (each (λ (v : RelabelEntry). v.rows) vs))) max_relabel_rows in
      step well_formed_image (eqb (length (body 8)) (length (body 8) / 4 * 4)) hs _
      (step well_formed_image (eqb (length (body 9)) (length (body 9) / 6 * 6)) ts _
      (two_steps well_formed_image (each_of row_at ts) (λ rs. assign_relabels (each relabel_at hs) rs) _ (λ vs. a && (few vs && few-rows vs)) (λ vs.
      given-passes is_some _ _ refl refl ∙ formed vs ∙ and_assoc a (few vs) (few-rows vs))))
      ∙ relabels-in-order (each_of row_at ts >>= λ rs. assign_relabels (each relabel_at hs) rs) (λ vs. few vs && few-rows vs)
      (eqb (length (body 8)) (length (body 8) / 4 * 4)) (eqb (length (body 9)) (length (body 9) / 6 * 6)) a
      ∙ ap (λ (r : Bool). a && r) (relabel-bodies ds t bs laid)

  -- the steps before them: the three parts of body 8

  abbrev ua : ℕ
  ua = count (attribute_of users) ds

  abbrev ra : ℕ
  ra = count (attribute_of roles) ds

  abbrev ta : ℕ
  ta = count (attribute_of types) ds

  abbrev first : List ℕ
  first = take (16 * ua) (body 7)

  abbrev second : List ℕ
  second = take (16 * ra) (drop (16 * ua) (body 7))

  abbrev third : List ℕ
  third = drop (16 * ra) (drop (16 * ua) (body 7))

  -- what is asked of the image up to their sets, where a was asked before
  abbrev with_sets : Bool → Bool
  with_sets a = a && good_sets ds ua users (pieces ua 16 first) && good_sets ds ra roles (pieces ra 16 second) && good_sets ds ta types (pieces ta 64 third)

  attributes-next : (a r : Bool) (after : List (List ℕ) → List (List ℕ) → List (List ℕ) → Option Image)
      → is_some (after (pieces ua 16 first) (pieces ra 16 second) (pieces ta 64 third) >>= well_formed_image) ≡ (with_sets a && r)
      → is_some ((exactly ua 16 first >>= λ us. exactly ra 16 second >>= λ rs. exactly ta 64 third >>= λ ts. after us rs ts) >>= well_formed_image)
      ≡ (a && attributes_sound (totals_of ds).things (totals_of ds).attributes t && r)
  attributes-next a r after good =
      step well_formed_image (eqb (length first) (ua * 16)) (pieces ua 16 first) _
      (step well_formed_image (eqb (length second) (ra * 16)) (pieces ra 16 second) _
      (step well_formed_image (eqb (length third) (ta * 64)) (pieces ta 64 third) _ good))
      ∙ attributes-in-order (eqb (length first) (ua * 16)) (eqb (length second) (ra * 16)) (eqb (length third) (ta * 64)) a
      (good_sets ds ua users (pieces ua 16 first)) (good_sets ds ra roles (pieces ra 16 second)) (good_sets ds ta types (pieces ta 64 third)) r
      ∙ ap (λ (s : Bool). a && s && r) (attribute-body ds t bs (least_at t bs laid 7 (omega arith)))

  bodies-sound : names_at (body 0) ≡ some ds → is_some (image_from bs >>= well_formed_image) ≡ (good_from [] ds && bodies_sound (totals_of ds) t)
  unfolding well_formed bodies_sound
  bodies-sound names =
      let us = count (thing_of users) ds in
      let rs = count (thing_of roles) ds in
      let ms = pieces (length (body 4) / 82) 82 (body 4) in
      let hs = pieces (length (body 5) / 10) 10 (body 5) in
      let ts = pieces (length (body 6) / 6) 6 (body 6) in
      let few-moves = leb (length (each transition_at ms)) max_transitions && every (good_transition ds) (each transition_at ms) in
      let few : List ConstraintEntry → Bool = λ cs. leb (length cs) max_constraints && every (good_constraint ds) cs in
      let few-rows : List ConstraintEntry → Bool = λ cs. leb (length (rows_in cs)) max_rows in
      let earlier : List ConstraintEntry → Bool = λ cs.
      good_from [] ds && good_sets ds us roles (pieces us 16 (body 1)) && good_sets ds rs types (pieces rs 64 (body 2)) && good_sets ds rs roles (pieces rs 16 (body 3))
      && few-moves && few cs && few-rows cs in
      rw names
      (step well_formed_image (eqb (length (body 1)) (us * 16)) (pieces us 16 (body 1)) _
      (step well_formed_image (eqb (length (body 2)) (rs * 64)) (pieces rs 64 (body 2)) _
      (step well_formed_image (eqb (length (body 3)) (rs * 16)) (pieces rs 16 (body 3)) _
      (step well_formed_image (eqb (length (body 4)) (length (body 4) / 82 * 82)) ms _
      (step well_formed_image (eqb (length (body 5)) (length (body 5) / 10 * 10)) hs _
      (step well_formed_image (eqb (length (body 6)) (length (body 6) / 6 * 6)) ts _
      (two_steps well_formed_image (each_of row_at ts) (λ rs. assign_rows 0 (each constraint_at hs) rs) _
      (λ cs. earlier cs && attributes_sound (totals_of ds).things (totals_of ds).attributes t && relabels_sound (totals_of ds) t)
      (λ cs. attributes-next (earlier cs) (relabels_sound (totals_of ds) t) _ (relabels-last (with_sets (earlier cs)) _ (λ vs. refl)))))))))
      ∙ in_order (each_of row_at ts >>= λ rs. assign_rows 0 (each constraint_at hs) rs) few few-rows
      (eqb (length (body 1)) (us * 16)) (eqb (length (body 2)) (rs * 64)) (eqb (length (body 3)) (rs * 16)) (eqb (length (body 4)) (length (body 4) / 82 * 82))
      (eqb (length (body 5)) (length (body 5) / 10 * 10)) (eqb (length (body 6)) (length (body 6) / 6 * 6))
      (good_from [] ds) (good_sets ds us roles (pieces us 16 (body 1))) (good_sets ds rs types (pieces rs 64 (body 2))) (good_sets ds rs roles (pieces rs 16 (body 3)))
      few-moves (attributes_sound (totals_of ds).things (totals_of ds).attributes t) (relabels_sound (totals_of ds) t)
      ∙ rw (
        set_body ds t bs 1 (least_at t bs laid 1 (omega arith)) us roles,
        set_body ds t bs 2 (least_at t bs laid 2 (omega arith)) rs types,
        set_body ds t bs 3 (least_at t bs laid 3 (omega arith)) rs roles,
        transition-body ds t bs (least_at t bs laid 4 (omega arith)),
        constraint-bodies ds t bs (least_at t bs laid 5 (omega arith)) (least_at t bs laid 6 (omega arith)),
      ))

-- body 1 is where the header says
pub names-at : (t : List ℕ) (bs : List (List ℕ)) → bodies_in t ≡ some bs → get_or bs 0 [] ≡ part t (start_in t 0) (length_in t 0)
unfolding part
names-at t bs e = (least_at t bs e 0 (omega arith)).bytes

-- A TABLE IS SOUND EXACTLY WHERE IT IS LAID OUT, ITS NAMES ARE SOUND, AND THE OTHER BODIES ARE SOUND FOR WHAT THEY DECLARE
pub image-sound : (t : List ℕ) → is_some (image_in t) ≡ (is_some (bodies_in t) && passes (sound_names (part t (start_in t 0) (length_in t 0))) (λ ds. bodies_sound (totals_of ds) t))
unfolding image_in sound_names
image-sound t = by (bodies_in t) refl
  where
    with-names : (bs : List (List ℕ)) → bodies_in t ≡ some bs → (o : Option (List Declaration)) → names_at (get_or bs 0 []) ≡ o
        → is_some (image_from bs >>= λ i. given (well_formed i) i) ≡ passes (o >>= λ ds. given (good_from [] ds) ds) (λ ds. bodies_sound (totals_of ds) t)
    with-names bs e none f = rw f
    with-names bs e (some ds) f = bodies-sound t bs e ds f ∙ declared (good_from [] ds)
      where
        declared : (b : Bool) → (b && bodies_sound (totals_of ds) t) ≡ passes (given b ds) (λ ds. bodies_sound (totals_of ds) t)
        declared true = refl
        declared false = refl

    by : (o : Option (List (List ℕ))) → bodies_in t ≡ o
        → is_some (o >>= λ bs. image_from bs >>= λ i. given (well_formed i) i)
        ≡ (is_some o && passes (sound_names (part t (start_in t 0) (length_in t 0))) (λ ds. bodies_sound (totals_of ds) t))
    by none e = refl
    by (some bs) e =
        with-names bs e (names_at (get_or bs 0 [])) refl
        ∙ ap (λ (b : List ℕ). passes (sound_names b) (λ ds. bodies_sound (totals_of ds) t)) (names-at t bs e)

-- THE NAMES OF THE IMAGE THAT A SOUND TABLE HOLDS ARE THOSE OF BODY 1
pub image-names : (t : List ℕ) (i : Image) → image_in t ≡ some i → sound_names (part t (start_in t 0) (length_in t 0)) ≡ some i.names
unfolding image_in sound_names
image-names t i h =
    bound-then (bodies_in t) _ i h λ bs cut h.
    bound-then (image_from bs) _ i h λ im read h.
    let g = given-some (well_formed im) im i h in
    rw (← names-at t bs cut, names-of bs im read, (formed im g.0).names) (ap (λ (i : Image). some i.names) g.1)
  where
    names-of : (bs : List (List ℕ)) (i : Image) → image_from bs ≡ some i → names_at (get_or bs 0 []) ≡ some i.names
    names-of bs i h =
        bound-then (names_at (get_or bs 0 [])) _ i h λ ds names h. names ∙ ap some
        (bound-then (exactly (count (thing_of users) ds) 16 (get_or bs 1 [])) _ i h λ ur e h.
        bound-then (exactly (count (thing_of roles) ds) 64 (get_or bs 2 [])) _ i h λ rt e h.
        bound-then (exactly (count (thing_of roles) ds) 16 (get_or bs 3 [])) _ i h λ rr e h.
        bound-then (exactly (length (get_or bs 4 []) / 82) 82 (get_or bs 4 [])) _ i h λ ms e h.
        bound-then (exactly (length (get_or bs 5 []) / 10) 10 (get_or bs 5 [])) _ i h λ hs e h.
        bound-then (exactly (length (get_or bs 6 []) / 6) 6 (get_or bs 6 [])) _ i h λ ts e h.
        bound-then (each_of row_at ts) _ i h λ rs e h.
        bound-then (assign_rows 0 (each constraint_at hs) rs) _ i h λ cs e h.
        bound-then (exactly (count (attribute_of users) ds) 16 (take (16 * count (attribute_of users) ds) (get_or bs 7 []))) _ i h λ us e h.
        bound-then (exactly (count (attribute_of roles) ds) 16 (take (16 * count (attribute_of roles) ds) (drop (16 * count (attribute_of users) ds) (get_or bs 7 [])))) _ i h λ ss e h.
        bound-then (exactly (count (attribute_of types) ds) 64 (drop (16 * count (attribute_of roles) ds) (drop (16 * count (attribute_of users) ds) (get_or bs 7 [])))) _ i h λ ys e h.
        bound-then (exactly (length (get_or bs 8 []) / 4) 4 (get_or bs 8 [])) _ i h λ vs e h.
        bound-then (exactly (length (get_or bs 9 []) / 6) 6 (get_or bs 9 [])) _ i h λ ws e h.
        bound-then (each_of row_at ws) _ i h λ rows e h.
        bound-then (assign_relabels (each relabel_at vs) rows) _ i h λ rels e h.
        ap (λ (i : Image). i.names) (some-injective _ i h))

-- THE NUMBERS OF BODY 1 IN PLACE OF ITS NAMES

-- the lent numbers are those of the permissions of each class
abbrev pub PermissionsOf : List Declaration → List ℕ → Type 0
PermissionsOf ds ps = (k : ℕ) → k < length (class_names ds) → get_or ps k 0 ≡ length (permissions ds k)

module _ (ds : List Declaration) (ps : List ℕ) (of-class : PermissionsOf ds ps) where
  -- only the permissions of declared classes are asked for
  mask-counted : (class mask : ℕ) → fits_mask (length (class_names ds)) (λ x. get_or ps x 0) class mask ≡ fits_mask (length (class_names ds)) (totals_of ds).permissions class mask
  mask-counted class mask = by (ltb class (length (class_names ds))) refl
    where
      by : (b : Bool) → ltb class (length (class_names ds)) ≡ b
          → (b && ltb 0 mask && ltb mask (2 ^ get_or ps class 0)) ≡ (b && ltb 0 mask && ltb mask (2 ^ (totals_of ds).permissions class))
      by false e = refl
      by true e = ap (λ (n : ℕ). ltb 0 mask && ltb mask (2 ^ n)) (of-class class (ltb-true class (length (class_names ds)) e))

  -- the counts of the declarations, with the lent numbers of permissions
  abbrev lent : Totals
  lent = record { things = (totals_of ds).things; attributes = (totals_of ds).attributes; classes = (totals_of ds).classes; permissions = λ x. get_or ps x 0 }

  counts_same : totals_in (counts_of ds) ps ≡ lent
  counts_same = λ i. record { things = λ f. things f i; attributes = λ f. attributes f i; classes = length (class_names ds); permissions = λ x. get_or ps x 0 }
    where
      things : (f : Family) → things_of (counts_of ds) f ≡ count (thing_of f) ds
      things users = refl
      things roles = refl
      things types = refl

      attributes : (f : Family) → attributes_of (counts_of ds) f ≡ count (attribute_of f) ds
      attributes users = refl
      attributes roles = refl
      attributes types = refl

  constraint-same : fits_constraint lent ≡ fits_constraint (totals_of ds)
  constraint-same = λ i e. mask-counted e.class e.mask i && every (fits_row 6 (totals_of ds).things (totals_of ds).attributes) e.rows && balanced e.rows 0

  -- WHERE THE COUNTS ARE THOSE OF THE DECLARATIONS, SO IS THE TEST OF THE BODIES
  pub counted-sound : (t : List ℕ) → bodies_sound (totals_in (counts_of ds) ps) t ≡ bodies_sound (totals_of ds) t
  unfolding bodies_sound
  counted-sound t =
      ap (λ (n : Totals). bodies_sound n t) counts_same
      ∙ ap (λ (f : ConstraintEntry → Bool).
      relations_sound (totals_of ds).things t
      && transitions_sound (totals_of ds).things (totals_of ds).classes t
      && (
      has_records 5 10 max_constraints t && has_records 6 6 max_rows t
      && passes (each_of row_at (pieces (length_in t 6 / 6) 6 (drop (start_in t 6) t)) >>= λ rs. assign_rows 0
      (each constraint_at (pieces (length_in t 5 / 10) 10 (drop (start_in t 5) t))) rs) (every f)
      )
      && attributes_sound (totals_of ds).things (totals_of ds).attributes t
      && relabels_sound (totals_of ds) t) constraint-same

-- THE SAME FOR A CALLER THAT ASKS ONE AFTER THE OTHER

module _ (t : List ℕ) where
  -- the table is not laid out
  pub not-laid-out : is_some (bodies_in t) ≡ false → is_some (image_in t) ≡ false
  not-laid-out e = image-sound t ∙ rw e

  -- its names are not sound
  pub names-not-sound : sound_names (part t (start_in t 0) (length_in t 0)) ≡ none → is_some (image_in t) ≡ false
  names-not-sound e = image-sound t ∙ rw e (and-false (is_some (bodies_in t)))

  -- it is laid out, and its names are sound: the other bodies decide
  pub bodies-decide : is_some (bodies_in t) ≡ true → (ds : List Declaration) → sound_names (part t (start_in t 0) (length_in t 0)) ≡ some ds → (ps : List ℕ) → PermissionsOf ds ps
      → is_some (image_in t) ≡ bodies_sound (totals_in (counts_of ds) ps) t
  bodies-decide e ds f ps k = image-sound t ∙ rw (e, f) (sym (counted-sound ds ps k t))
