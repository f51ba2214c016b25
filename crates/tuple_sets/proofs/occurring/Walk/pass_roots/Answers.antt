use Rattle.std.proofs.Common.{◌+◌, sym, ap, subst}
use Rattle.heap_core.specs.Posed.{Posed}
use Rattle.tuple_sets.specs.declared.occurring.Walk.{Walk}
use Rattle.tuple_sets.specs.Passing.{IsSetBefore}
use Rattle.tuple_sets.proofs.Walking.{roots_left, root_room, root_passed, root_skipped}
use Rattle.tuple_sets.proofs.occurring.Walk.pass_roots.Goals as goal
use Rattle.tuple_sets.proofs.occurring.Walk.pass_roots.Goals.{then-is_root, else-is_root}

pub pass-requires-clause-within : goal.pass-requires-clause-within
pass-requires-clause-within c =
    let p = c.args.problem.now in
    let same = ap (λ (q : Posed). q.scope.objects) c.problem.view_is in
    root_room p c.args.start.now c.problem.inside.scope.objects same c.method_in-method.result.now c.loop-root.root (c.len-count.result + 1) c.loop-root.self.next c.loop-root.self.set c.loop-root-test.true c.loop-root.invariant c.root_value.result (sym c.if-is_root.ensures) (c.root_value.ensures p)

pub loop-root-preserved : goal.loop-root-preserved
loop-root-preserved c =
    let p = c.args.problem.now in
    let s = c.args.start.now in
    let m = c.method_in-method.result.now in
    let root = c.loop-root.root in
    let count = c.len-count.result + 1 in
    let same = ap (λ (q : Posed). q.scope.objects) c.problem.view_is in
    elim c.if-is_root.branch [
      | then-is_root w ↦
          subst (λ (x : Walk). IsSetBefore p s x.next (roots_left p m (root + 1) count) x.set) (sym w.self-is)
          (root_passed p s c.problem.inside.scope.objects same m root count c.loop-root.self.next c.loop-root.self.set c.loop-root-test.true c.loop-root.invariant w.root_value.result (sym w.if-is_root.ensures) (w.root_value.ensures p) w.pass.new.self.next w.pass.new.self.set w.pass.ensures.set w.pass.ensures.next)
      | else-is_root w ↦
          subst (λ (x : Walk). IsSetBefore p s x.next (roots_left p m (root + 1) count) x.set) (sym w.self-is)
          (root_skipped p s c.problem.inside.scope.objects same m root count c.loop-root.self.next c.loop-root.self.set c.loop-root-test.true c.loop-root.invariant (sym w.if-is_root.ensures))
    ]
