use Rattle.std.proofs.Common.{◌≡◌, ◌<◌, ◌%◌, ◌/◌, ◌∷◌, length, sym, ap, ◌∙◌, arith}
use Rattle.std.proofs.lemmas.Bool.{eqb-true}
use Rattle.derivation.specs.Texts.{literal_text}
use Rattle.derivation.proofs.Literals.{IsNegative, minus_first, none_gives, some_text}
use Rattle.derivation.proofs.entry.entry_of.Goals as goal

pub returns-in_default-clause-none : goal.returns-in_default-clause-none
returns-in_default-clause-none c =
    λ lit is_entry is.
    let some : 0 < length (literal_text lit) = some_text lit (omega arith) in
    absurd (omega (arith, ap length is, c.in_default.ensures.cases))

pub returns-then-first-eq45-clause-none : goal.returns-then-first-eq45-clause-none
returns-then-first-eq45-clause-none c =
    none_gives c.negative_of.result c.negative_of.ensures.none
    (λ none lit is_entry is.
    let minus : 45 ∷ c.in-Some.rest.now ≡ literal_text lit =
    ap (λ b. b ∷ c.in-Some.rest.now) (sym c.if-first-eq45.true) ∙ sym c.in-Some.ensures.cases.0 ∙ is in
    let h : IsNegative lit c.in-Some.rest.now = minus_first lit c.in-Some.rest.now (omega arith) minus in
    none (lit / 2) (omega (arith, eqb-true (lit % 2) 1 h.sign)) is_entry.1 h.digits)
