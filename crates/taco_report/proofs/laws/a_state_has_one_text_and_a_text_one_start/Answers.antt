use Rattle.taco_report.proofs.OneStart.{one_start}
use Rattle.taco_report.proofs.laws.a_state_has_one_text_and_a_text_one_start.Goals as goal

pub returns : goal.returns
returns c = λ text s t is_s is_t. one_start c.args.problem.now text s t c.well_posed.ensures.unit is_s is_t
