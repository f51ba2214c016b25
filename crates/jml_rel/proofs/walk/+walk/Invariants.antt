use Rattle.taco_unit.specs.declared.expr.Quant.{out-Quant}
use Rattle.heap_core.specs.Heap.{is_of}
use Rattle.heap_core.specs.Eval.{Env, bind}
use Rattle.rel_core.specs.Reading.{Reading}
use Rattle.rel_core.specs.Uses.{Kinds}
use Rattle.clause_terms.specs.Gathering.{AreSorted, Gathered}
use Rattle.jml_rel.specs.Parts.{instance_at}
use Rattle.jml_rel.specs.Places.{Shows, Sorts}
use Rattle.jml_rel.specs.Points.{point_of}
use Rattle.jml_rel.proofs.walk.+walk.Given as goal

abbrev pub invariant-quantified-loop-object : goal.invariant-quantified-loop-object
invariant-quantified-loop-object l = record {
  told : (env : Env) (m : Reading) → Shows (point_of l.place) env m
      → Gathered m (out-Quant l.quant).all (is_of env.heap (out-Quant l.quant).class) (λ o. instance_at l.quant (bind env o)) l.object l.instances;
  sorted : (kinds : Kinds) → Sorts (point_of l.place) kinds → AreSorted (point_of l.place).problem kinds l.instances;
}
