use Rattle.std.proofs.Common.{refl, ◌∙◌}
use Rattle.heap_core.proofs.Closure.{rounds_agree_below}
use Rattle.rel_core.specs.Meaning.{leads, has_object}
use Rattle.rel_core.specs.Views.{read, is_marked}
use Rattle.rel_core.proofs.holds.sets.reached.Goals as goal

pub returns : goal.returns
returns c = λ s found.
    let edge = leads (read c.args.view) c.args.relations.now in
    let bound = c.args.view.objects in
    record {
      null = refl;
      objects = λ o below. c.closed-objects.ensures o below ∙ rounds_agree_below bound edge edge bound (is_marked c.args.from.now.objects) (has_object s) (λ p q one two. refl) found.objects o below;
    }
