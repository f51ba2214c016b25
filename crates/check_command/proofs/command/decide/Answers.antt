use Rattle.std.proofs.Common.{subst}
use Rattle.boolean_trial.specs.Plain.{IsPlain}
use Rattle.heap_core.specs.Posed.{Posed}
use Rattle.check_command.proofs.command.decide.Goals as goal

pub try_method-requires : goal.try_method-requires
try_method-requires c = subst (λ (p : Posed). IsPlain p.unit p.method) c.problem.view_is (c.is_plain.ensures.0 c.if-is_plain.true)
