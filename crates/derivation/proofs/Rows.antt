-- The definitions on worked rows: logs over the four clauses of two variables.
use Rattle.std.proofs.Common.{◌≡◌, ℕ, true, false, List, [], ◌∷◌, refl}
use Rattle.derivation.specs.Step.{Step}
use Rattle.derivation.specs.Logs.{valid, fresh, ends_empty}

all_four : List (List ℕ)
all_four = (2 ∷ 4 ∷ []) ∷ (3 ∷ 4 ∷ []) ∷ (2 ∷ 5 ∷ []) ∷ (3 ∷ 5 ∷ []) ∷ []

abbrev line : List ℕ → List ℕ → Step
line clause hints = record { clause = clause; hints = hints }

refuting : valid all_four (line (4 ∷ []) (1 ∷ 2 ∷ []) ∷ line [] (5 ∷ 3 ∷ 4 ∷ []) ∷ []) ≡ true
unfolding all_four
refuting = refl

refuting_ends : ends_empty (line (4 ∷ []) (1 ∷ 2 ∷ []) ∷ line [] (5 ∷ 3 ∷ 4 ∷ []) ∷ []) ≡ true
refuting_ends = refl

-- one hint alone leads to no conflict
one_hint : valid all_four (line (4 ∷ []) (2 ∷ []) ∷ []) ≡ false
unfolding all_four
one_hint = refl

-- a hint behind the conflict
hint_behind : valid all_four (line (4 ∷ []) (1 ∷ 2 ∷ 3 ∷ []) ∷ []) ≡ false
unfolding all_four
hint_behind = refl

-- a hint of the line itself
own_hint : valid all_four (line [] (5 ∷ []) ∷ []) ≡ false
unfolding all_four
own_hint = refl

-- a line that holds all literals of a clause is not fresh, and one that comes again is not
repeated : fresh all_four (line (4 ∷ []) (1 ∷ 2 ∷ []) ∷ line (4 ∷ []) (5 ∷ []) ∷ []) ≡ false
unfolding all_four
repeated = refl

weakened : fresh all_four (line (2 ∷ 4 ∷ []) (1 ∷ []) ∷ []) ≡ false
unfolding all_four
weakened = refl

distinct : fresh all_four (line (4 ∷ []) (1 ∷ 2 ∷ []) ∷ line [] (5 ∷ 3 ∷ 4 ∷ []) ∷ []) ≡ true
unfolding all_four
distinct = refl
