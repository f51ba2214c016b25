use Rattle.dyn_rel.proofs.LookedSets.{act_copy}
use Rattle.dyn_rel.proofs.looking.before_act.Goals as goal

pub returns-in-Copy : goal.returns-in-Copy
returns-in-Copy c = λ n vars list. act_copy n _ _ _ vars _ _ c.in-Copy.is c.before_copy.ensures list
