use Rattle.std.proofs.Common.{rules, ◌≡◌, Some, sym, ◌∙◌}
use Rattle.std.specs.Prelude.{slice_get}
use Rattle.heap_core.specs.Heap.{is_of}
use Rattle.rel_core.specs.Meaning.{holds}
use Rattle.rel_core.proofs.Read.{heaps_are_read}
use Rattle.jml_rel.proofs.Objects.{of_is_there, passes_where, passes_nowhere}
use Rattle.jml_rel.proofs.heaps.of_class.Goals as goal

pub returns-in_ok-implied-in-Some-clause-meaning : goal.returns-in_ok-implied-in-Some-clause-meaning
returns-in_ok-implied-in-Some-clause-meaning c m heap shown below =
    let there : slice_get c.args.problem.now.unit.classes c.args.class ≡ Some c.in-Some.definition.now = search (rules, c.in-Some.ensures) in
    let guard : holds c.in_ok-there-in-Some.there m ≡ is_of heap c.args.class c.args.object = c.in_ok-there-in-Some.ensures.meaning m below
    ∙ sym ((heaps_are_read c.args.problem.now.unit m c.args.at.now heap c.well_posed.ensures.unit shown.shown).objects c.args.class c.args.object) in
    c.in_ok-implied-in-Some.ensures.meaning m
    ∙ passes_where c.args.asked c.args.problem.now heap c.args.object c.args.class c.in-Some.definition.now (holds c.in_ok-there-in-Some.there m) (holds c.in_ok-passes-in-Some.passes m) there guard
    (λ of. c.in_ok-passes-in-Some.ensures.meaning m heap shown (of_is_there heap c.args.class c.args.object of))

pub returns-in_ok-always-in-None-clause-meaning : goal.returns-in_ok-always-in-None-clause-meaning
returns-in_ok-always-in-None-clause-meaning c m heap shown below = c.in_ok-always-in-None.ensures.meaning m
    ∙ passes_nowhere c.args.asked c.args.problem.now heap c.args.object c.args.class (search (rules, c.in-None.ensures))

pub returns-in_ok-implied-in-Some-clause-sorted : goal.returns-in_ok-implied-in-Some-clause-sorted
returns-in_ok-implied-in-Some-clause-sorted c kinds below = c.in_ok-implied-in-Some.ensures.sorted c.args.problem.now kinds
    (c.in_ok-there-in-Some.ensures.sorted c.args.problem.now kinds below) (c.in_ok-passes-in-Some.ensures.sorted kinds below)

pub returns-in_ok-always-in-None-clause-sorted : goal.returns-in_ok-always-in-None-clause-sorted
returns-in_ok-always-in-None-clause-sorted c kinds below = c.in_ok-always-in-None.ensures.sorted c.args.problem.now kinds
