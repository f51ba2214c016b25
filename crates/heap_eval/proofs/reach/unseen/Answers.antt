use Rattle.std.proofs.Common.{ap}
use Rattle.std.proofs.lemmas.List.{get_or-replicate}
use Rattle.heap_core.specs.declared.visit.Stage.TheVariants.{Unseen, Done}
use Rattle.heap_core.specs.Stages.{is_unseen}
use Rattle.heap_eval.proofs.reach.unseen.Goals as goal

pub returns : goal.returns
returns c = λ o within. ap is_unseen (get_or-replicate 256 o Unseen Done within)
