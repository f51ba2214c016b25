use Rattle.std.proofs.Common.{sym, subst}
use Rattle.bounds_table.specs.State.{State}
use Rattle.bounds_table.specs.Core.{AreLawful}
use Rattle.bounds_rows.proofs.Row.{steps, steps_lawful}
use Rattle.bounds_rows.proofs.tests.steps_of_two.Goals as goal

pub make-requires : goal.make-requires
make-requires c = subst (λ (s : State). AreLawful s steps) (sym c.requires) steps_lawful
