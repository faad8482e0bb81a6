-- What is found, by its parts. Assumes nothing.
use mathlib.Core.Path.{◌≡◌, ap}
use Prim.Native.Nat.{ℕ}
use Rattle.std.specs.Prelude.{Option}
use Rattle.std.specs.Option.{option_map_or}
use Rattle.symbols.specs.Lookup.{found_at}
use Rattle.symbols.specs.declared.Symbol.{Symbol}

pub found-same : {s n k m : ℕ} → found_at s n ≡ found_at k m → (s ≡ k) × (n ≡ m)
found-same e = (
  ap (λ (o : Option Symbol). option_map_or (λ (x : Symbol). x.sort) o 0) e,
  ap (λ (o : Option Symbol). option_map_or (λ (x : Symbol). x.number) o 0) e,
)
