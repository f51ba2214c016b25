use Rattle.std.proofs.Common.{sym, subst}
use Rattle.dyn_core.specs.Unrolled.{IsUnrolled}
use Rattle.dyn_core.proofs.Unrolling.{is_unrolled}
use Rattle.dyn_core.proofs.iterations.unroll.Goals as goal

pub returns : goal.returns
returns c = subst (IsUnrolled c.args.loops c.args.prog.now) (sym c.in_ok-written.ensures) (is_unrolled c.args.loops c.args.prog.now)
