use Rattle.std.proofs.Common.{◌≡◌, ◌<◌, length, Some, ap, ◌∙◌, arith, get_or}
use Rattle.std.proofs.lemmas.Option.{slice_get-get_or}
use Rattle.taco_unit.specs.Parts.{Parts}
use Rattle.heap_core.proofs.problem.method_at.Goals as goal

pub returns-clause-few : goal.returns-clause-few
returns-clause-few c =
    let m = c.index-as_slice-from.result in
    let methods = c.unit.inside.methods in
    let same : length methods ≡ length c.args.unit.now.methods = ap (λ (u : Parts). length u.methods) c.unit.view_is in
    let inside : c.args.method < length methods = omega (arith, same, c.requires) in
    let read : get_or methods c.args.method m ≡ m = cc in
    (c.unit.invariant.methods c.args.method m (slice_get-get_or methods c.args.method m inside ∙ ap Some read)).few_params
