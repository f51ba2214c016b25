use Rattle.std.proofs.Common.{◌≡◌, sym, ◌∙◌, arith}
use Rattle.std.proofs.lemmas.Fmt.{decimal_injective}
use Rattle.derivation.proofs.entry.negative_of.Goals as goal

pub returns-in-0-clause-none : goal.returns-in-0-clause-none
returns-in-0-clause-none c =
    λ var some within is.
    let same : var ≡ c.in_ok-var.var = decimal_injective var c.in_ok-var.var (omega arith) (omega arith) (sym is ∙ c.in_ok-var.ensures.found.0) in
    absurd (omega arith)
