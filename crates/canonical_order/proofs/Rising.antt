-- What rises from each number to the next rises over any distance.
use Rattle.std.proofs.Common.{◌≡◌, ℕ, zero, suc, ◌+◌, ◌-◌, ◌<◌, ap, arith}

chain : (g : ℕ → ℕ) (n : ℕ) → ((o : ℕ) → o + 1 < n → g o < g (o + 1)) → (k d : ℕ) → k + suc d < n → g k < g (k + suc d)
chain g n rises k zero lt =
    let e : k + 1 ≡ k + suc zero = omega arith in
    omega (arith, rises k (omega (arith, lt)), ap g e)
chain g n rises k (suc d) lt =
    let e : k + suc d + 1 ≡ k + suc (suc d) = omega arith in
    omega (arith, chain g n rises k d (omega (arith, lt)), rises (k + suc d) (omega (arith, lt)), ap g e)

pub rises_over : (g : ℕ → ℕ) (n : ℕ) → ((o : ℕ) → o + 1 < n → g o < g (o + 1)) → (k o : ℕ) → k < o → o < n → g k < g o
rises_over g n rises k o less small =
    let e : k + suc (o - (k + 1)) ≡ o = omega arith in
    omega (arith, chain g n rises k (o - (k + 1)) (omega (arith, e, small)), ap g e)
