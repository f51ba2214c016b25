use Rattle.std.proofs.Common.{ap, sym, ◌∙◌}
use Rattle.derivation.proofs.Once.{apart, once_apart}
use Rattle.derivation.proofs.checker.deny.Goals as goal

pub loop-lit-init : goal.loop-lit-init
loop-lit-init c = (once_apart c.args.clause.now ∙ ap (λ ts. apart ts c.args.clause.now) (sym c.requires), c.requires)
