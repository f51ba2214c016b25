-- Ranges of numbers, as loops go along them.
use Rattle.std.proofs.Common.{◌≡◌, ℕ, suc, ◌+◌, ◌-◌, ◌<◌, ◌∷◌, arith, refl}
use Rattle.std.specs.List.{range_with_len}

pub range_step : (o n : ℕ) → o < n → range_with_len o (n - o) ≡ o ∷ range_with_len (o + 1) (n - (o + 1))
range_step o n within =
    let one : n - o ≡ suc (n - (o + 1)) = omega arith in
    rw one refl
