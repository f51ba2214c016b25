use Rattle.std.proofs.Common.{◌≡◌, sym, ◌∙◌, arith}
use Rattle.std.proofs.lemmas.Fmt.{decimal_injective}
use Rattle.derivation.proofs.number.number_up_to.Goals as goal

pub returns-else-number-most-clause-none : goal.returns-else-number-most-clause-none
returns-else-number-most-clause-none c =
    λ n within is.
    let same : n ≡ c.in_ok-number.number = decimal_injective n c.in_ok-number.number (omega arith) (omega arith) (sym is ∙ c.in_ok-number.ensures.found) in
    absurd (omega arith)
