use Rattle.heap_core.proofs.Closure.{closure_is_least_closed, rounds_end, rounds_of_union, rounds_of_sum}
use Rattle.heap_core.proofs.laws.laws_of_closure.Goals as goal

pub returns-clause-least : goal.returns-clause-least
returns-clause-least c = closure_is_least_closed

pub returns-clause-end : goal.returns-clause-end
returns-clause-end c = rounds_end

pub returns-clause-union : goal.returns-clause-union
returns-clause-union c = rounds_of_union

pub returns-clause-sum : goal.returns-clause-sum
returns-clause-sum c = rounds_of_sum
