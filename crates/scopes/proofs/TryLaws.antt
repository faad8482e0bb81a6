-- The tries of a use: what is left of them decides as all of them do. Assumes nothing.
use mathlib.Core.Path.{◌≡◌, refl, sym, ap, subst, ◌∙◌}
use mathlib.Core.Bool.{Bool, true, false, false≢true}
use mathlib.Core.List.{List, [], ◌∷◌}
use Prim.Native.Nat.{ℕ, ◌-◌, ◌<◌, ◌≤◌}
use native.Mathlib.Omega.{arith}
use lib.ListN.{length, take, drop}
use borrow.Author.Tests.{not-true}
use Rattle.policy.specs.Basics.{Name, every}
use Rattle.policy.specs.Encode.{NameEntry}
use Rattle.symbols.specs.Lookup.{first_named}
use Rattle.symbols.proofs.ClassesFound.{or-none}
use Rattle.std.specs.Prelude.{Option, Some, None, is_some}
use Rattle.std.specs.Option.{option_or}
use Rattle.symbols.specs.declared.Symbol.{Symbol}
use Rattle.name_chains.specs.Compared.{compared_in, TriedIn}
use Rattle.name_chains.specs.Chains.{Chained, Tries}
use Rattle.name_chains.specs.declared.Tried.{Tried}
use Rattle.policy.specs.Names.{full, outward, has_dot_in_front, tries}
use Rattle.policy.proofs.Environments.{tried-once}
use Rattle.scopes.specs.Path.{scope_of, found_first, deciding, Decides, is_one_part}
use Rattle.scopes.specs.Scope.{scope_in, InScope, within, last_dot, is_plain, TriedOnce, Resolves, symbol_bytes}
use Rattle.scopes.proofs.PathLaws.{cut-full, front-full, first_part, other-parts, no_block, within-full}
use Rattle.byte_slices.specs.Parts.{part}
use Rattle.byte_slices.proofs.PartLaws.{drop-part, part-whole}
use Rattle.name_chains.proofs.FindLaws.{no_length, chain-starts, chain-ends}
use Rattle.scopes.proofs.Memory.{scope-long, scope-take, scope-none}

is-none : (x : Option Symbol) → is_some x ≡ false → x ≡ None
is-none (Some x) h = absurd (false≢true (sym h))
is-none None h = refl

hit-or : (x y : Option Symbol) → is_some x ≡ true → option_or x y ≡ x
hit-or (Some x) y h = refl
hit-or None y h = absurd (false≢true h)

module _ (f : ℕ) (es : List NameEntry) where
  -- one try alone
  pub one-try : {w : Name} {r : Tried} → TriedIn f w es r → Decides f (w ∷ []) es r
  unfolding found_first deciding
  one-try {w} {r} h = record { finds = h.finds ∙ sym (or-none (first_named f w es)); counts = h.counts }

  here-name : (w : Name) (ws : List Name) → is_some (first_named f w es) ≡ true → deciding f (w ∷ ws) es ≡ w
  unfolding deciding
  here-name w [] h = refl
  here-name w (v ∷ ws) h = rw h

  -- a hit decides
  pub hit-decides : {w : Name} (ws : List Name) {r : Tried} → TriedIn f w es r → is_some r.found ≡ true → Decides f (w ∷ ws) es r
  unfolding found_first
  hit-decides {w} ws {r} h m =
      let hit : is_some (first_named f w es) ≡ true = ap is_some (sym h.finds) ∙ m in
      record {
        finds = h.finds ∙ sym (hit-or (first_named f w es) (found_first f ws es) hit);
        counts = h.counts ∙ ap (λ (v : Name). compared_in f v es) (sym (here-name w ws hit));
      }

  -- where there is none, the others decide
  pub miss-decides : {w : Name} (path : List Name) (x : Name) {r : Tried} → first_named f w es ≡ None
      → Decides f (outward path x) es r → Decides f (w ∷ outward path x) es r
  unfolding found_first deciding outward
  miss-decides [] x m h = record { finds = rw m h.finds; counts = rw m h.counts }
  miss-decides (b ∷ path) x m h = record { finds = rw m h.finds; counts = rw m h.counts }

-- ---- the walk outward: the first n bytes of the scope are that of the blocks that are left, and what is tried in them decides
pub record Left (t : List ℕ) (f : ℕ) (w : Name) (n : ℕ) (es : List NameEntry) (all : List Name) : Type 0 where
  pub path : List Name
  pub stands : scope_in t n ≡ scope_of path
  pub parts : every is_one_part path ≡ true
  pub decides : (r : Tried) → Decides f (outward path w) es r → Decides f (outward all w) es r

abbrev pub Outward : List ℕ → ℕ → Name → ℕ → Type 0
Outward t f w n = (end : ℕ) (es : List NameEntry) (path : List Name) → Chained t end es → InScope t path → Left t f w n es path

module _ (t : List ℕ) (f : ℕ) (w : Name) where
  tries-outward : (path : List Name) → has_dot_in_front w ≡ false → tries path w ≡ outward path w
  unfolding tries
  tries-outward path h = rw h

  module _ (n : ℕ) (r : Tried) (short : n ≤ 64) (room : symbol_bytes ≤ length t) (some : 0 < n) (h : Tries t f (within (scope_in t n) w) r) where
    not-whole : scope_in t n ≡ [] → ⊥
    not-whole e = omega (arith, scope-long t n short room, ap length e)

    -- what was tried is the full name in the blocks that are left
    tried-in : {end : ℕ} {es : List NameEntry} (path : List Name) → Chained t end es → scope_in t n ≡ scope_of path → every is_one_part path ≡ true
        → TriedIn f (full path w) es r
    tried-in {end} {es} path ch st ps =
        subst (λ (v : Name). TriedIn f v es r) (ap (λ (s : Name). within s w) st ∙ within-full path w ps) (h.tries end es ch)

    hit-left : {end : ℕ} {es : List NameEntry} (all : List Name) → Chained t end es → is_some r.found ≡ true
        → (path : List Name) → scope_in t n ≡ scope_of path → every is_one_part path ≡ true
        → ((q : Tried) → Decides f (outward path w) es q → Decides f (outward all w) es q)
        → Decides f (outward all w) es r
    unfolding outward
    hit-left all ch m [] st ps d = absurd (not-whole st)
    hit-left {end} {es} all ch m (b ∷ path) st ps d = d r (hit-decides f es (outward path w) (tried-in (b ∷ path) ch st ps) m)

    pub hit-resolves : is_some r.found ≡ true → has_dot_in_front w ≡ false → Outward t f w n → Resolves t f w r
    hit-resolves m l o = record {
      resolves = λ end es path ch sc.
          let left = o end es path ch sc in
          subst (λ (ws : List Name). Decides f ws es r) (sym (tries-outward path l)) (hit-left path ch m left.path left.stands left.parts left.decides);
    }

    module _ (m : ℕ) (missing : is_some r.found ≡ false) (cut : m ≡ last_dot (scope_in t n)) (inside : m ≤ n) where
      turn-left : {end : ℕ} {es : List NameEntry} {all : List Name} → Chained t end es
          → (path : List Name) → scope_in t n ≡ scope_of path → every is_one_part path ≡ true
          → ((q : Tried) → Decides f (outward path w) es q → Decides f (outward all w) es q)
          → Left t f w m es all
      unfolding outward
      turn-left ch [] st ps d = absurd (not-whole st)
      turn-left {end} {es} ch (b ∷ path) st ps d =
          let length-is : m ≡ length (scope_of path) = cut ∙ ap last_dot st ∙ cut-full path b (first_part b path ps).1 in
          let none : first_named f (full (b ∷ path) w) es ≡ None = sym (tried-in (b ∷ path) ch st ps).finds ∙ is-none r.found missing in
          record {
            path = path;
            stands = sym (scope-take t n m inside) ∙ ap (take m) st ∙ ap (λ (k : ℕ). take k (full path b)) length-is ∙ front-full path b;
            parts = other-parts b path ps;
            decides = λ q g. d q (miss-decides f es path w none g);
          }

      pub turn : Outward t f w n → Outward t f w m
      turn o end es path ch sc =
          let left = o end es path ch sc in
          turn-left ch left.path left.stands left.parts left.decides

  -- at the whole-text level the use itself is tried
  last-left : (n : ℕ) {r : Tried} {es : List NameEntry} (all : List Name) → n ≡ 0 → TriedIn f w es r
      → (path : List Name) → scope_in t n ≡ scope_of path → every is_one_part path ≡ true
      → ((q : Tried) → Decides f (outward path w) es q → Decides f (outward all w) es q)
      → Decides f (outward all w) es r
  unfolding outward
  last-left n {r} {es} all e h path st ps d =
      let empty : scope_of path ≡ [] = sym st ∙ ap (scope_in t) e ∙ scope-none t in
      let none : path ≡ [] = no_block path ps (ap length empty) in
      d r (subst (λ (p : List Name). Decides f (outward p w) es r) (sym none) (one-try f es h))

  pub last-resolves : (n : ℕ) {r : Tried} → n ≡ 0 → has_dot_in_front w ≡ false → Tries t f w r → Outward t f w n → Resolves t f w r
  last-resolves n {r} e l h o = record {
    resolves = λ end es path ch sc.
        let left = o end es path ch sc in
        subst (λ (ws : List Name). Decides f ws es r) (sym (tries-outward path l))
        (last-left n path e (h.tries end es ch) left.path left.stands left.parts left.decides);
  }

  -- a leading dot: one try, at what follows it
  pub dot-resolves : {r : Tried} → has_dot_in_front w ≡ true → Tries t f (part w 1 (length w - 1)) r → Resolves t f w r
  unfolding tries
  dot-resolves {r} l h =
      let rest : drop 1 w ≡ part w 1 (length w - 1) = sym (sym (drop-part w 0 (length w) 1) ∙ ap (drop 1) (part-whole w)) in
      record { resolves = λ end es path ch sc. rw (l, rest) (one-try f es (h.tries end es ch)) }

-- ---- at the whole-text level

once-tries : (path : List Name) (w : Name) → is_plain path w ≡ true → tries path w ≡ w ∷ []
once-tries [] w h = tried-once w (not-true (has_dot_in_front w) h)
once-tries (b ∷ path) w h = absurd (false≢true h)

-- a use that is tried once is resolved by that try
pub once-resolves : {t : List ℕ} {f : ℕ} {w : Name} {q : Bool} {r : Tried} → TriedOnce t w q → q ≡ true → Tries t f w r → Resolves t f w r
once-resolves {t} {f} {w} {q} {r} p e h = record {
  resolves = λ end es path ch sc.
      subst (λ (ws : List Name). Decides f ws es r) (sym (once-tries path w (sym (p.answers path sc) ∙ e))) (one-try f es (h.tries end es ch));
}

-- no entry has a name that is too long, so a try at one misses
pub too-long-tries : {t : List ℕ} {f : ℕ} {w : Name} → 64 < length w → Tries t f w (record { found = None; compared = 0 })
too-long-tries {t} {f} {w} h = chain-ends (omega arith) (chain-starts {t = t} {f = f} {w = w} (no_length (omega arith) refl))
