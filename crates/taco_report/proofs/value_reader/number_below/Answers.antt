use Rattle.std.proofs.Common.{◌≡◌, ◌^◌, sym, ◌∙◌, arith}
use Rattle.std.specs.Prelude.{pos}
use Rattle.std.proofs.lemmas.Bool.{lt-ltb}
use Rattle.std.proofs.lemmas.Int.{ints}
use Rattle.taco_report.proofs.Values.{number_once}
use Rattle.taco_report.proofs.value_reader.number_below.Goals as goal
use Rattle.taco_report.proofs.value_reader.number_below.Goals.{else-number-ge0-via-then-number-ge0+else-number-from, else-number-ge0-via-else-number-ge0}

pub returns-in_default : goal.returns-in_default
returns-in_default c =
    λ n below same.
    let none = rw c.in_default.is at c.in_ok-number.ensures in
    none (pos n) (lt-ltb n (2 ^ 31) (omega arith)) same

pub returns-else-number-ge0 : goal.returns-else-number-ge0
returns-else-number-ge0 c =
    λ n below same.
    let found = rw c.in-Some.is at c.in_ok-number.ensures in
    let is : c.in-Some.number ≡ pos n = number_once c.in-Some.number (pos n) found.0 (lt-ltb n (2 ^ 31) (omega arith)) (sym found.1 ∙ same) in
    elim c.else-number-ge0.branch [
      | else-number-ge0-via-then-number-ge0+else-number-from w ↦ absurd (omega (arith, ints))
      | else-number-ge0-via-else-number-ge0 w ↦ absurd (omega (arith, ints))
    ]
