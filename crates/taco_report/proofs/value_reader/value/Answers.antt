use Rattle.std.proofs.Common.{sym, ◌∙◌, arith}
use Rattle.taco_report.specs.Texts.{value_text}
use Rattle.taco_report.proofs.Cuts.{SameCut, same_cut}
use Rattle.taco_report.proofs.Values.{value_inner}
use Rattle.taco_report.proofs.value_reader.value.Goals as goal

pub returns-in-None-clause-none : goal.returns-in-None-clause-none
returns-in-None-clause-none c =
    λ v more is end same.
    let none = rw c.in-None.is at c.in_ok-value.ensures in
    let h : SameCut c.word_of.result.0.now (value_text v) c.word_of.result.1.now more =
    same_cut c.word_of.result.0.now (value_text v) c.word_of.result.1.now more c.word_of.ensures.word (value_inner c.args.count c.args.kind v (omega arith) is) c.word_of.ensures.ends end
    (sym c.word_of.ensures.parts ∙ same) in
    none v is h.word
