use Rattle.std.proofs.Common.{sym, ◌∙◌, arith}
use Rattle.std.proofs.lemmas.Bool.{false≢true}
use Rattle.taco_words.proofs.Numerals.{left_out, written, unwritten}
use Rattle.taco_words.proofs.number.number_up_to.Goals as goal
use Rattle.taco_words.proofs.number.number_up_to.Goals.{else-number-most-via-then-number-most+else-is_written, else-number-most-via-else-number-most}

pub returns-in_default-clause-number : goal.returns-in_default-clause-number
returns-in_default-clause-number c =
    sym (unwritten c.args.most c.args.word.now c.parse.result (omega (arith, c.ranges.most.fits)) c.parse.ensures.value.0 (λ n read within same. c.in_default.not-Ok n read))

pub returns-then-is_written-clause-number : goal.returns-then-is_written-clause-number
returns-then-is_written-clause-number c =
    sym (written c.args.most c.in-Ok.number c.args.word.now (omega (arith, c.ranges.most.fits)) (sym c.is_written.ensures ∙ c.if-is_written.true) (omega arith))

pub returns-else-number-most-clause-number : goal.returns-else-number-most-clause-number
returns-else-number-most-clause-number c =
    sym (left_out c.args.most c.in-Ok.number c.args.word.now c.parse.result (omega (arith, c.ranges.most.fits)) c.parse.ensures.value.0 c.in-Ok.is (λ within same.
    elim c.else-number-most.branch [
      | else-number-most-via-then-number-most+else-is_written w ↦ false≢true (sym w.if-is_written.false ∙ w.is_written.ensures ∙ same)
      | else-number-most-via-else-number-most w ↦ absurd (omega (arith, within, w.if-number-most.false))
    ]))
