use Rattle.bounds_table.proofs.Marking.{exact_marks_agree}
use Rattle.bounds_table.proofs.laws.exact_marks_agree.Goals as goal

pub returns : goal.returns
returns c = exact_marks_agree
