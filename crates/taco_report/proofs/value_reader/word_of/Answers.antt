use Rattle.std.proofs.Common.{ap, ◌∙◌, take, drop}
use Rattle.std.specs.List.{list_all}
use Rattle.taco_report.specs.States.{is_inner, ends}
use Rattle.taco_report.proofs.Cuts.{front_passes, front_ends}
use Rattle.taco_report.proofs.value_reader.word_of.Goals as goal

pub returns-clause-word : goal.returns-clause-word
returns-clause-word c =
    ap (list_all is_inner) (c.split_at.ensures.front ∙ ap (λ n. take n c.args.text.now) c.word_len.ensures.value) ∙ front_passes is_inner c.args.text.now

pub returns-clause-ends : goal.returns-clause-ends
returns-clause-ends c =
    ap ends (c.split_at.ensures.back ∙ ap (λ n. drop n c.args.text.now) c.word_len.ensures.value) ∙ front_ends c.args.text.now
