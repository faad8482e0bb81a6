-- A block opened: the keys say whether its full name is new, and the scope whether it is short. Assumes nothing.
use mathlib.Core.Path.{◌≡◌, refl, sym, ap, subst, ◌∙◌}
use mathlib.Core.Bool.{Bool, true, false, not, ◌||◌, or_comm, or-false}
use mathlib.Core.List.{List, [], ◌∷◌, ◌++◌}
use Prim.Native.Nat.{ℕ, ◌+◌, ◌<◌, ◌≤◌}
use native.Mathlib.Omega.{arith}
use lib.Dec.{ltb}
use lib.ListN.{length}
use borrow.Author.Tests.{not-true, not-false}
use Rattle.byte_slices.specs.Parts.{part}
use Rattle.std.specs.Prelude.{Result, Ok, Err}
use Rattle.policy.specs.declared.Fault.{Fault}
use Rattle.policy.specs.Basics.{Name, same, any, every, is_in}
use Rattle.policy.specs.Words.{dotless}
use Rattle.policy.specs.Names.{full}
use Rattle.policy.specs.Reading.{Judged}
use Rattle.policy.specs.Sound.{is_good_part}
use Rattle.policy.specs.Accepted.{GoodPath}
use Rattle.policy.proofs.Lists.{both_true, true-both, any_append}
use Rattle.scopes.specs.Scope.{EntersBlock}
use Rattle.scopes.proofs.GoodParts.{one-part}
use Rattle.scopes.proofs.Memory.{kept-none}
use Rattle.blocks.specs.Opened.{Block, block_of, opened_in, is_opened, Fits, Adds}
use Rattle.blocks.specs.Names.{path_of, full_names, Opening, another}
use Rattle.blocks.proofs.FullNames.{length-opened, path-last, opened-exactly}
use Rattle.block_reader.specs.Within.{Within, OneMore, OpensBy, OpensBlock}
use Rattle.block_reader.specs.declared.OpenBlocks.{OpenBlocks}
use Rattle.block_reader.proofs.BlockFaults.{judged-again, judged-deep, judged-long, judged-open}

-- a block more in front of a good path
good_more : {path : List Name} (b : Name) → is_good_part b ≡ true → GoodPath path → length path < 8 → GoodPath (b ∷ path)
unfolding every
good_more {path} b h g l = record { names = true-both (is_good_part b) (every is_good_part path) h g.names; few = omega arith }

-- a full name more, in front of those of the keys and after those of the text
one_name : (w v : Name) (xs names : List Name) → is_in w xs ≡ is_in w names → is_in w (v ∷ xs) ≡ is_in w (names ++ (v ∷ []))
unfolding is_in any
one_name w v xs names e =
    ap (λ (q : Bool). same w v || q) e ∙ or_comm (same w v) (any (same w) names) ∙ ap (λ (q : Bool). any (same w) names || q) (sym (or-false (same w v)))
    ∙ sym (any_append (same w) names (v ∷ []))

-- where the reader is in the block that it opens
abbrev deeper : OpenBlocks → OpenBlocks
deeper o = record { count = o.count + 1; block = o.count + 1; depth = o.depth + 1 }

-- what an answer promises, as a block is judged
abbrev Judges : (t : List ℕ) (start len : ℕ) (keysAfter filterAfter symbolsAfter : List ℕ) → OpenBlocks → Result OpenBlocks Fault → List Name → List Name → Judged → Type 0
Judges t start len keysAfter filterAfter symbolsAfter o r path names j = OpensBy (OneMore t keysAfter filterAfter symbolsAfter path names (part t start len) o) j r

module _ (t : List ℕ) (start len : ℕ) {symbols keys keysAfter filter filterAfter : List ℕ} (o : OpenBlocks) {a : Bool} (lent : length keys ≡ 8192)
    (added : Adds t keys keysAfter filter filterAfter o.count o.block start len a) where
  -- what is asked of the text
  module _ (path names : List Name) (w : Within t keys filter symbols path names o) (good : is_good_part (part t start len) ≡ true) (few : o.count < 8192) where
    abbrev b : Name
    b = part t start len

    abbrev bs : List Block
    bs = opened_in t keys o.count

    many : length bs ≡ o.count
    many = length-opened t keys o.count

    is-opened : is_opened o.block b bs ≡ is_in (full path b) names
    is-opened =
        opened-exactly bs w.opened o.block b (omega (arith, w.known, many)) (both_true (ltb 0 (length b)) (dotless b) (one-part b good)).1
        ∙ w.fulls (full (path_of bs o.block) b)
        ∙ ap (λ (p : List Name). is_in (full p b) names) w.stands

    -- the answer of the keys: whether its full name is new
    new-name : a ≡ not (is_in (full path b) names)
    new-name = added.answers w.covers (omega (arith, lent)) ∙ ap not is-opened

    module _ (short : length t < 65536) (inside : start + len ≤ length t) where
      fits : Fits o.block start len
      fits = record { few = omega (arith, w.known); near = omega arith; short = omega arith }

      -- the block is the last of those opened
      module _ (yes-added : a ≡ true) (deep : o.depth < 8) {symbolsAfter : List ℕ} {e : Bool} (entered : EntersBlock symbols symbolsAfter b e) (yes-entered : e ≡ true) where
        abbrev more : List Block
        more = block_of o.block b ∷ bs

        is-more : opened_in t keysAfter (o.count + 1) ≡ more
        is-more = added.adds yes-added fits

        not-before : is_opened o.block b bs ≡ false
        not-before = not-true (is_opened o.block b bs) (sym (added.answers w.covers (omega (arith, lent))) ∙ yes-added)

        last : path_of more (o.count + 1) ≡ b ∷ path
        last = path-last (block_of o.block b) bs (o.count + 1) (omega (arith, many)) ∙ ap (λ (p : List Name). b ∷ p) w.stands

        full-name : full (path_of bs o.block) b ≡ full path b
        full-name = ap (λ (p : List Name). full p b) w.stands

        fulls-more : (v : Name) → is_in v (full_names more) ≡ is_in v (names ++ (full path b ∷ []))
        unfolding full_names
        fulls-more v = ap (λ (x : Name). is_in v (x ∷ full_names bs)) full-name ∙ one_name v (full path b) (full_names bs) names (w.fulls v)

        one_more : OneMore t keysAfter filterAfter symbolsAfter path names b o (deeper o)
        one_more = record {
          inside = record {
            scope = entered.enters path w.scope (one-part b good) yes-entered;
            good = good_more b good w.good (omega (arith, w.deep));
            opened = subst Opening (sym is-more) (another (omega (arith, w.known, many)) (one-part b good) not-before w.opened);
            room = omega (arith, added.room yes-added, added.long);
            known = omega arith;
            stands = ap (λ (x : List Block). path_of x (o.count + 1)) is-more ∙ last;
            deep = omega (arith, w.deep);
            fulls = λ v. ap (λ (x : List Block). is_in v (full_names x)) is-more ∙ fulls-more v;
            covers = added.covers w.covers yes-added fits;
          };
          next = refl;
        }

  -- ---- the four answers

  pub opened-before : a ≡ false → OpensBlock t start len keys keysAfter filter filterAfter symbols symbols o (Err Fault.DeclaredAgain)
  opened-before f = record {
    judges = λ path names w good few short inside.
        let is-in = not-false (is_in (full path (part t start len)) names) (sym (new-name path names w good few) ∙ f) in
        subst (Judges t start len keysAfter filterAfter symbols o (Err Fault.DeclaredAgain) path names) (sym (judged-again path names (part t start len) is-in)) refl;
    kept = kept-none symbols;
    long = added.long;
    filter-long = added.filter-long;
  }

  module _ (yes-added : a ≡ true) where
    is-new : (path names : List Name) → Within t keys filter symbols path names o → is_good_part (part t start len) ≡ true → o.count < 8192
        → is_in (full path (part t start len)) names ≡ false
    is-new path names w good few = not-true (is_in (full path (part t start len)) names) (sym (new-name path names w good few) ∙ yes-added)

    pub too-deep : 8 ≤ o.depth → OpensBlock t start len keys keysAfter filter filterAfter symbols symbols o (Err Fault.MaximumPassed)
    too-deep d = record {
      judges = λ path names w good few short inside.
          let is = judged-deep path names (part t start len) (is-new path names w good few) (omega (arith, w.deep)) in
          subst (Judges t start len keysAfter filterAfter symbols o (Err Fault.MaximumPassed) path names) (sym is) refl;
      kept = kept-none symbols;
      long = added.long;
      filter-long = added.filter-long;
    }

    module _ {symbolsAfter : List ℕ} {e : Bool} (entered : EntersBlock symbols symbolsAfter (part t start len) e) where
      pub too_long : e ≡ false → OpensBlock t start len keys keysAfter filter filterAfter symbols symbolsAfter o (Err Fault.MaximumPassed)
      too_long f = record {
        judges = λ path names w good few short inside.
            let is = judged-long path names (part t start len) (is-new path names w good few) (sym (entered.answers path w.scope) ∙ f) in
            subst (Judges t start len keysAfter filterAfter symbolsAfter o (Err Fault.MaximumPassed) path names) (sym is) refl;
        kept = entered.kept;
        long = added.long;
        filter-long = added.filter-long;
      }

      pub opened-now : o.depth < 8 → e ≡ true
          → OpensBlock t start len keys keysAfter filter filterAfter symbols symbolsAfter o (Ok (deeper o))
      opened-now d yes-entered = record {
        judges = λ path names w good few short inside.
            let new = is-new path names w good few in
            let is = judged-open path names (part t start len) new (omega (arith, w.deep)) (sym (entered.answers path w.scope) ∙ yes-entered) in
            subst (Judges t start len keysAfter filterAfter symbolsAfter o (Ok (deeper o)) path names) (sym is)
            (one_more path names w good few short inside yes-added d entered yes-entered);
        kept = entered.kept;
        long = added.long;
        filter-long = added.filter-long;
      }
