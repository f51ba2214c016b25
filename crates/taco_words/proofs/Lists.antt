-- Lists of numbers that words write.
use Rattle.std.proofs.Common.{◌≡◌, ℕ, ◌-◌, ◌<◌, ◌≤◌, length, arith, List, [], ◌∷◌, ◌++◌, Option, Some, None, refl, ap, sym, append_assoc}
use Rattle.std.specs.Prelude.{Result, Ok, Err, IfOk}
use Rattle.std.specs.List.{All}
use Rattle.std.proofs.lemmas.List.Elements.{All-weaker}
use Rattle.taco_words.specs.declared.request.RequestFault.{RequestFault}
use Rattle.taco_words.specs.Limits.{IsSchedule}
use Rattle.taco_words.specs.Numbers.{with_first}

-- a list behind another one, if it is there
abbrev pub behind : List ℕ → Option (List ℕ) → Option (List ℕ)
behind front None = None
behind front (Some rest) = Some (front ++ rest)

-- one number more in front
pub behind-push : (front : List ℕ) (n : ℕ) (rest : Option (List ℕ)) → behind front (with_first (Some n) rest) ≡ behind (front ++ n ∷ []) rest
behind-push front n None = refl
behind-push front n (Some rest) = ap (λ l. Some l) (sym (append_assoc front (n ∷ []) rest))

-- nothing behind a word that writes no number
pub behind-none : (front : List ℕ) (rest : Option (List ℕ)) → behind front (with_first None rest) ≡ None
behind-none front None = refl
behind-none front (Some rest) = refl

-- so many numbers below a bound are a schedule
pub is_schedule : (workers count : ℕ) (r : Result (List ℕ) RequestFault) → 1 ≤ workers → 0 < count → count ≤ 4096 → IfOk r (All (λ n. n ≤ workers - 1)) → IfOk r (λ s. length s ≡ count)
    → IfOk r (IsSchedule workers)
is_schedule workers count (Err e) some low high each all = tt
is_schedule workers count (Ok s) some low high each all =
    record { some = omega (arith, all, low); few = omega (arith, all, high); each = All-weaker (λ n. n ≤ workers - 1) (λ n. n < workers) (λ n small. omega (arith, small, some)) s each }
