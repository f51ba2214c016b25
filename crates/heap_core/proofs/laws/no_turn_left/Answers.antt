use Rattle.std.proofs.Common.{refl}
use Rattle.heap_core.proofs.ExecForms.{exec_while}
use Rattle.heap_core.proofs.laws.no_turn_left.Goals as goal

pub returns : goal.returns
returns c = λ p run test body fr m after none is. rw (exec_while p run test body fr m, none, is) refl
