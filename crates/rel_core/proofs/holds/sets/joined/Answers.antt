use Rattle.std.proofs.Common.{◌∙◌, arith}
use Rattle.heap_core.specs.declared.value.Value.TheVariants.{Null, Obj}
use Rattle.rel_core.specs.Views.{read}
use Rattle.rel_core.proofs.MarkedSets.{joined_alike}
use Rattle.rel_core.proofs.holds.sets.joined.Goals as goal

pub returns : goal.returns
returns c = λ s found.
    let m = read c.args.view in
    let marks = c.args.from.now.objects in
    record {
      null = c.is_joined-2.ensures ∙ joined_alike m s marks c.args.relation Null found.objects;
      objects = λ o below. c.loop-object.invariant.1 o (omega arith) ∙ joined_alike m s marks c.args.relation (Obj o) found.objects;
    }
