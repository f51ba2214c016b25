use Rattle.std.proofs.Common.{◌≡◌, Some, subst}
use Rattle.std.specs.Prelude.{Option, slice_get, MatchOption}
use Rattle.heap_core.specs.Posed.{Posed}
use Rattle.heap_core.specs.Judge.{Violates, Violable}
use Rattle.boolean_trial.specs.declared.trial.Breach.{Breach}
use Rattle.boolean_trial.specs.Found.{Finds}
use Rattle.boolean_trial.proofs.Found.{found_is, if_ok_more}
use Rattle.boolean_trial.proofs.trial.tried.Goals as goal

pub returns-in-Some : goal.returns-in-Some
returns-in-Some c =
    let p = c.args.problem.now in
    let method = c.method_at-method.result.now in
    let value = c.in-Some.value.now in
    let at_method : Posed → Type 0 = λ q. slice_get q.unit.methods q.method ≡ Some method in
    let there : slice_get p.unit.methods p.method ≡ Some method = subst at_method c.problem.view_is c.method_at-method.ensures.there in
    let is_found : Option Breach → Type 0 = λ found. MatchOption found (Violable p → ⊥) (λ b. Violates p b.start b.part) in
    if_ok_more (Finds method value) is_found c.tried_method.result (found_is p method value c.requires there c.in-Some.ensures.found) c.tried_method.ensures
