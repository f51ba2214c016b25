use Rattle.std.proofs.Common.{◌≡◌, drop}
use Rattle.rel_core.specs.Meaning.{leads}
use Rattle.rel_core.specs.Views.{read}
use Rattle.rel_core.proofs.holds.sets.leads.Given as goal

abbrev pub invariant-loop-relation : goal.invariant-loop-relation
invariant-loop-relation l = leads (read l.view) (drop l.relation-index l.relations) l.from l.to ≡ leads (read l.view) l.relations l.from l.to
