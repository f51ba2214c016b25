use Rattle.std.proofs.Common.{Bool, sym, ◌∙◌, subst}
use Rattle.std.specs.Prelude.{◌↔◌, IsTrue}
use Rattle.boolean_trial.specs.Plain.{IsPlain}
use Rattle.boolean_trial.proofs.Plainly.{by_method, not_bare}
use Rattle.boolean_trial.proofs.plainness.is_plain.Goals as goal

pub returns-then-is_bare : goal.returns-then-is_bare
returns-then-is_bare c =
    by_method c.args.unit.now c.args.method c.method_at.result.now c.is_plain_method.result c.method_at.ensures.there (sym c.is_bare.ensures ∙ c.if-is_bare.true) c.is_plain_method.ensures

pub returns-else-is_bare : goal.returns-else-is_bare
returns-else-is_bare c =
    subst (λ (b : Bool). IsTrue b ↔ IsPlain c.args.unit.now c.args.method) (sym c.if-is_bare.false) (not_bare c.args.unit.now c.args.method (sym c.is_bare.ensures ∙ c.if-is_bare.false))
