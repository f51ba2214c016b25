use Rattle.std.proofs.Common.{◌≤◌, ◌≡◌, ◌∙◌, subst, sym, ap, arith, take, length, min, length-take-le}
use Rattle.sat_watch.specs.Watching.{Right}
use Rattle.sat_watch.proofs.RightLemmas.{right_back, front_up_to}
use Rattle.cnf_core.specs.Trues.{AreMarks}
use Rattle.sat_watch.specs.Trail.{literals, up_to, IsFront}
use Rattle.sat_watch.proofs.TrailLemmas.{marked_back}
use Rattle.sat_watch.proofs.trail.Trail.back_to.Goals as goal

pub invariant_of-self : goal.invariant_of-self
invariant_of-self c = (
  marked_back c.self.inside.vars c.self.inside.level c.self.inside.passed c.args.level c.unset_above-kept.result c.min-self-inside.result
      c.self.inside.entries.items c.truncate.new.self.items c.self.inside.truths.items c.unset_above-kept.new.truths.items c.self.invariant.0
      (subst (λ t. c.args.level ≤ t.level) (sym c.self.view_is) c.requires) c.truncate.ensures.items
      (subst (λ es. c.unset_above-kept.result ≤ length es) c.deref.ensures.value c.unset_above-kept.ensures.within)
      (subst (λ es. take c.unset_above-kept.result es ≡ up_to c.args.level es) c.deref.ensures.value c.unset_above-kept.ensures.kept)
      (subst (λ es. AreMarks c.unset_above-kept.new.truths.items (literals (take c.unset_above-kept.result es))) c.deref.ensures.value c.unset_above-kept.ensures.marked)
      c.unset_above-kept.ensures.length c.min-self-inside.ensures,
  omega (arith, c.self.invariant.1, c.truncate.ensures.capacity),
)

pub returns-clause-right : goal.returns-clause-right
returns-clause-right c = λ w r.
    let kept : c.truncate.new.self.items ≡ up_to c.args.level c.self.inside.entries.items =
    c.truncate.ensures.items ∙ subst (λ es. take c.unset_above-kept.result es ≡ up_to c.args.level es) c.deref.ensures.value c.unset_above-kept.ensures.kept in
    let count : length c.truncate.new.self.items ≡ c.unset_above-kept.result =
    ap length c.truncate.ensures.items ∙ length-take-le c.unset_above-kept.result c.self.inside.entries.items (subst (λ es. c.unset_above-kept.result ≤ length es) c.deref.ensures.value c.unset_above-kept.ensures.within) in
    right_back w c.self.inside.vars c.self.inside.level c.self.inside.passed c.args.level c.min-self-inside.result c.self.inside.entries.items c.truncate.new.self.items
    (subst (Right w) (sym c.self.view_is) r) c.self.invariant.0.sound.rises (subst (λ t. c.args.level ≤ t.level) (sym c.self.view_is) c.requires) kept
    (c.min-self-inside.ensures ∙ ap (min c.self.inside.passed) (sym count))

pub returns-clause-front : goal.returns-clause-front
returns-clause-front c =
    let kept : c.truncate.new.self.items ≡ up_to c.args.level c.self.inside.entries.items =
    c.truncate.ensures.items ∙ subst (λ es. take c.unset_above-kept.result es ≡ up_to c.args.level es) c.deref.ensures.value c.unset_above-kept.ensures.kept in
    subst (λ t. IsFront c.args.level c.truncate.new.self.items t.entries) c.self.view_is
    (front_up_to c.self.inside.level c.args.level c.self.inside.entries.items c.truncate.new.self.items c.self.invariant.0.sound.rises kept)
