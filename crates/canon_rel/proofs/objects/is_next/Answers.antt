use Rattle.std.proofs.Common.{◌-◌, arith}
use Rattle.std.proofs.lemmas.Bool.{lt-ltb, ltb-true}
use Rattle.canon_rel.proofs.objects.is_next.Goals as goal

pub returns-then-object-eq0-clause-sorted : goal.returns-then-object-eq0-clause-sorted
returns-then-object-eq0-clause-sorted c = λ p kinds inside. c.in_ok-always.ensures.sorted p kinds

pub returns-clause-sorted : goal.returns-clause-sorted
returns-clause-sorted c = λ p kinds inside.
    let o = c.args.object in
    c.in_ok-next.ensures.sorted p kinds (c.in_ok-here.ensures.sorted p kinds inside)
    (c.in_ok-before.ensures.sorted p kinds (lt-ltb (o - 1) p.scope.objects (omega (arith, ltb-true o p.scope.objects inside))))
