use Rattle.std.proofs.Common.{ap, ◌∙◌}
use Rattle.tuple_sets.specs.Words.{has}
use Rattle.bounds_table.proofs.Marking.{cleared_is, not_false}
use Rattle.bounds_table.proofs.marks.Marks.mark.Goals as goal

pub returns-then-not-has : goal.returns-then-not-has
returns-then-not-has c =
    cleared_is c.args.self.now c.args.tuple (λ one. not_false (c.if-not-has.ensures.1 (ap (λ l. has l c.args.tuple) c.as_slice.ensures ∙ one)))
