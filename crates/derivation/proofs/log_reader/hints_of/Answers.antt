use Rattle.std.proofs.Common.{◌≡◌, ◌++◌, ◌∷◌, map, ap, sym, ◌∙◌}
use Rattle.std.specs.Fmt.{decimal}
use Rattle.derivation.proofs.LogWords.{hints_go, no_end_hints, next_number, zero_ends}
use Rattle.derivation.proofs.log_reader.hints_of.Goals as goal

pub returns-in_default-clause-none : goal.returns-in_default-clause-none
returns-in_default-clause-none c =
    λ hints are same.
    no_end_hints c.loop-word.hints.items hints c.loop-word.words c.in_default.ensures
    (hints_go c.loop-word.hints.items hints c.loop-word.words c.loop-word.invariant.0 are (sym c.loop-word.invariant.1 ∙ same))

pub returns-in_default-number_of-clause-none : goal.returns-in_default-number_of-clause-none
returns-in_default-number_of-clause-none c =
    λ hints are same.
    next_number c.loop-word.hints.items hints c.in-Some.word.now c.next.new.self are
    (hints_go c.loop-word.hints.items hints (c.in-Some.word.now ∷ c.next.new.self) c.loop-word.invariant.0 are
    (ap (λ ws. map decimal c.loop-word.hints.items ++ ws) (sym c.in-Some.ensures) ∙ sym c.loop-word.invariant.1 ∙ same))
    c.in_default-number_of.ensures.none

pub returns-then-number-eq0-clause-none : goal.returns-then-number-eq0-clause-none
returns-then-number-eq0-clause-none c =
    λ hints are same.
    let words : c.loop-word.words ≡ decimal 0 ∷ c.in-Some-next._more.now ∷ c.next-then-number-eq0.new.self =
    c.in-Some.ensures
    ∙ ap (λ w. w ∷ c.next.new.self) (c.in-Some-number_of.ensures.found ∙ ap decimal c.if-number-eq0.true)
    ∙ ap (λ ws. decimal 0 ∷ ws) c.in-Some-next.ensures in
    zero_ends c.loop-word.hints.items hints c.in-Some-next._more.now c.next-then-number-eq0.new.self are
    (hints_go c.loop-word.hints.items hints _ c.loop-word.invariant.0 are
    (ap (λ ws. map decimal c.loop-word.hints.items ++ ws) (sym words) ∙ sym c.loop-word.invariant.1 ∙ same))
