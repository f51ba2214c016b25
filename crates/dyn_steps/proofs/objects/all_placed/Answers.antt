use Rattle.std.proofs.Common.{ap, ◌∙◌, arith}
use Rattle.std.proofs.lemmas.Bool.{lt-ltb}
use Rattle.rel_core.specs.Meaning.{holds}
use Rattle.rel_core.specs.Uses.{is_sorted}
use Rattle.dyn_steps.specs.Meanings.{is_placed}
use Rattle.dyn_steps.proofs.Growing.{numbers_gathered, all_gathered}
use Rattle.dyn_steps.proofs.objects.all_placed.Goals as goal

pub loop-object-preserved : goal.loop-object-preserved
loop-object-preserved c = (
  λ m.
      numbers_gathered (λ a. holds a m) (is_placed m c.args.variable c.args.live) _ _ _ c.loop-object.object c.in_ok-push.ensures.ok (c.loop-object.invariant.0 m)
      (ap (λ a. holds a m) c.into_inner.ensures ∙ c.in_ok-placed.ensures.meaning m),
  λ p kinds few variable live.
      all_gathered (is_sorted p kinds) _ _ _ c.in_ok-push.ensures.ok (c.loop-object.invariant.1 p kinds few variable live)
      (ap (is_sorted p kinds) c.into_inner.ensures
      ∙ c.in_ok-placed.ensures.sorted p kinds (lt-ltb c.loop-object.object p.scope.objects (let low = c.loop-object-test.true in omega (arith, low, few))) variable live),
)

pub returns-clause-sorted : goal.returns-clause-sorted
returns-clause-sorted c = λ p kinds few variable live. c.in_ok-all.ensures.sorted p kinds (c.loop-object.invariant.1 p kinds few variable live)
