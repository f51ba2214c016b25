use Rattle.std.proofs.Common.{◌≡◌, ◌≤◌, ◌<◌, ◌+◌, ◌∷◌, length, drop, get_or, ap, sym, ◌∙◌, arith}
use Rattle.std.proofs.lemmas.List.{drop_all, drop_more}
use Rattle.declared_names.specs.declared.sort.Sort.TheVariants.{Loose}
use Rattle.typed_forms.specs.declared.typed.Given.{Given}
use Rattle.declared_names.specs.Faults.{soonest, earlier}
use Rattle.typed_forms.specs.Calls.{argument_faults}
use Rattle.declared_names.proofs.Told.{next_fault, last_fault, none-earlier}
use Rattle.typed_forms.proofs.calls.argument_fault.Goals as goal

pub loop-place-init : goal.loop-place-init
loop-place-init c = none-earlier _

pub loop-place-preserved : goal.loop-place-preserved
loop-place-preserved c =
    let within : c.loop-place.place < length c.args.params.now = omega arith in
    let beside : c.loop-place.place < length c.args.given.now = omega arith in
    let none : Given = record { at = 0; sort = Loose } in
    let params : drop c.loop-place.place c.args.params.now ≡ c.index-params-place.result ∷ drop (c.loop-place.place + 1) c.args.params.now =
    drop_more c.args.params.now c.loop-place.place c.index-params-place.result within ∙ ap (λ p. p ∷ drop (c.loop-place.place + 1) c.args.params.now) (sym c.index-params-place.is) in
    let given = drop_more c.args.given.now c.loop-place.place none beside in
    ap (λ r. earlier r (soonest (argument_faults (drop (c.loop-place.place + 1) c.args.params.now) (drop (c.loop-place.place + 1) c.args.given.now)))) c.earlier-found.ensures
    ∙ next_fault c.loop-place.found c.wanted.result _ (argument_faults (drop (c.loop-place.place + 1) c.args.params.now) (drop (c.loop-place.place + 1) c.args.given.now)) c.wanted.ensures
    ∙ ap (λ ps. earlier c.loop-place.found (soonest (argument_faults ps (get_or c.args.given.now c.loop-place.place none ∷ drop (c.loop-place.place + 1) c.args.given.now)))) (sym params)
    ∙ ap (λ ts. earlier c.loop-place.found (soonest (argument_faults (drop c.loop-place.place c.args.params.now) ts))) (sym given)
    ∙ c.loop-place.invariant

pub returns : goal.returns
returns c =
    let past : length c.args.params.now ≤ c.loop-place.place = omega arith in
    sym (ap (λ ps. earlier c.loop-place.found (soonest (argument_faults ps (drop c.loop-place.place c.args.given.now)))) (drop_all c.loop-place.place c.args.params.now past) ∙ last_fault c.loop-place.found)
    ∙ c.loop-place.invariant
