use Rattle.std.proofs.Common.{◌≡◌, ◌<◌, ◌-◌, length, sym, ap, subst, arith, rules}
use Rattle.std.proofs.lemmas.Bool.Decides.{nat_tests}
use Rattle.std.proofs.lemmas.List.{nil_from_length}
use Rattle.heap_core.specs.declared.start.Start.{Start}
use Rattle.heap_core.specs.Start.{Fits}
use Rattle.taco_report.specs.Texts.{params_of}
use Rattle.taco_report.specs.States.{BlamesState, IsStateText, unfit}
use Rattle.taco_report.proofs.NeverRefused.{read_fault, read_start}
use Rattle.taco_report.proofs.StateLines.{Argued, Heaped, argued, bad_argument, bad_more, bad_object, bad_receiver, heaped, is_text}
use Rattle.taco_report.proofs.state_reader.read_state.Goals as goal

pub returns-then-len-from-clause-fault : goal.returns-then-len-from-clause-fault
returns-then-len-from-clause-fault c =
    let first = rw c.in-Some.is at c.in_ok-count.ensures.found in
    let heap : Heaped c.args.problem.now c.in-Some.count c.in_ok-objects.objects c.args.text.now c.in_ok-objects.rest.now =
    heaped c.args.problem.now c.in-Some.count c.in_ok-objects.objects c.args.text.now c.in-Some.lines.now c.in_ok-objects.rest.now first.0 first.1 c.in_ok-objects.ensures.listed c.in_ok-objects.ensures.parts in
    let less : length c.in_ok-objects.objects < c.in-Some.count = omega arith in
    subst (BlamesState c.args.problem.now c.args.text.now) (sym c.bad_state.ensures)
    (bad_object c.args.problem.now c.in-Some.count c.in_ok-objects.objects c.args.text.now c.in_ok-objects.rest.now heap less (c.in_ok-objects.ensures.none less))

pub returns-in_default-2-clause-fault : goal.returns-in_default-2-clause-fault
returns-in_default-2-clause-fault c =
    let none = rw c.in_default-2.is at c.in_ok-this.ensures.none in
    let first = rw c.in-Some.is at c.in_ok-count.ensures.found in
    let heap : Heaped c.args.problem.now c.in-Some.count c.in_ok-objects.objects c.args.text.now c.in_ok-objects.rest.now =
    heaped c.args.problem.now c.in-Some.count c.in_ok-objects.objects c.args.text.now c.in-Some.lines.now c.in_ok-objects.rest.now first.0 first.1 c.in_ok-objects.ensures.listed c.in_ok-objects.ensures.parts in
    let all : length c.in_ok-objects.objects ≡ c.in-Some.count = omega (arith, c.in_ok-objects.ensures.few) in
    subst (BlamesState c.args.problem.now c.args.text.now) (sym c.bad_state-in_default-2.ensures)
    (bad_receiver c.args.problem.now c.in-Some.count c.in_ok-objects.objects c.args.text.now c.in_ok-objects.rest.now heap all none)

pub returns-then-len-params_in-clause-fault : goal.returns-then-len-params_in-clause-fault
returns-then-len-params_in-clause-fault c =
    let first = rw c.in-Some.is at c.in_ok-count.ensures.found in
    let heap : Heaped c.args.problem.now c.in-Some.count c.in_ok-objects.objects c.args.text.now c.in_ok-objects.rest.now =
    heaped c.args.problem.now c.in-Some.count c.in_ok-objects.objects c.args.text.now c.in-Some.lines.now c.in_ok-objects.rest.now first.0 first.1 c.in_ok-objects.ensures.listed c.in_ok-objects.ensures.parts in
    let all : length c.in_ok-objects.objects ≡ c.in-Some.count = omega (arith, c.in_ok-objects.ensures.few) in
    let named = rw c.in-Some-2.is at c.in_ok-this.ensures.found in
    let lines : Argued c.args.problem.now c.in-Some.count c.in_ok-objects.objects c.in-Some-2.this c.in_ok-args.args c.args.text.now c.in_ok-args.rest.now =
    argued c.args.problem.now c.in-Some.count c.in_ok-objects.objects c.in-Some-2.this c.in_ok-args.args c.args.text.now c.in_ok-objects.rest.now c.in-Some-2.lines.now c.in_ok-args.rest.now
    heap all named.0 named.1 c.in_ok-args.ensures.given c.in_ok-args.ensures.parts in
    let less : length c.in_ok-args.args < length (params_of c.args.problem.now) = omega (arith, ap length c.params_in.ensures) in
    subst (BlamesState c.args.problem.now c.args.text.now) (sym c.bad_state-then-len-params_in.ensures)
    (bad_argument c.args.problem.now c.in-Some.count c.in_ok-objects.objects c.in-Some-2.this c.in_ok-args.args c.args.text.now c.in_ok-args.rest.now lines less c.in_ok-args.ensures.none)

pub returns-then-not-is_empty-clause-fault : goal.returns-then-not-is_empty-clause-fault
returns-then-not-is_empty-clause-fault c =
    let first = rw c.in-Some.is at c.in_ok-count.ensures.found in
    let heap : Heaped c.args.problem.now c.in-Some.count c.in_ok-objects.objects c.args.text.now c.in_ok-objects.rest.now =
    heaped c.args.problem.now c.in-Some.count c.in_ok-objects.objects c.args.text.now c.in-Some.lines.now c.in_ok-objects.rest.now first.0 first.1 c.in_ok-objects.ensures.listed c.in_ok-objects.ensures.parts in
    let all : length c.in_ok-objects.objects ≡ c.in-Some.count = omega (arith, c.in_ok-objects.ensures.few) in
    let named = rw c.in-Some-2.is at c.in_ok-this.ensures.found in
    let lines : Argued c.args.problem.now c.in-Some.count c.in_ok-objects.objects c.in-Some-2.this c.in_ok-args.args c.args.text.now c.in_ok-args.rest.now =
    argued c.args.problem.now c.in-Some.count c.in_ok-objects.objects c.in-Some-2.this c.in_ok-args.args c.args.text.now c.in_ok-objects.rest.now c.in-Some-2.lines.now c.in_ok-args.rest.now
    heap all named.0 named.1 c.in_ok-args.ensures.given c.in_ok-args.ensures.parts in
    let enough : length c.in_ok-args.args ≡ length (params_of c.args.problem.now) = omega (arith, c.in_ok-args.ensures.few, ap length c.params_in.ensures) in
    let some : 0 < length c.in_ok-args.rest.now = grind (arith, nat_tests) in
    subst (BlamesState c.args.problem.now c.args.text.now) (sym c.bad_state-then-not-is_empty.ensures)
    (bad_more c.args.problem.now c.in-Some.count c.in_ok-objects.objects c.in-Some-2.this c.in_ok-args.args c.args.text.now c.in_ok-args.rest.now lines enough (λ none. absurd (omega (arith, some, ap length none))))

pub returns-then-fits-clause-read : goal.returns-then-fits-clause-read
returns-then-fits-clause-read c =
    let first = rw c.in-Some.is at c.in_ok-count.ensures.found in
    let heap : Heaped c.args.problem.now c.in-Some.count c.in_ok-objects.objects c.args.text.now c.in_ok-objects.rest.now =
    heaped c.args.problem.now c.in-Some.count c.in_ok-objects.objects c.args.text.now c.in-Some.lines.now c.in_ok-objects.rest.now first.0 first.1 c.in_ok-objects.ensures.listed c.in_ok-objects.ensures.parts in
    let all : length c.in_ok-objects.objects ≡ c.in-Some.count = omega (arith, c.in_ok-objects.ensures.few) in
    let named = rw c.in-Some-2.is at c.in_ok-this.ensures.found in
    let lines : Argued c.args.problem.now c.in-Some.count c.in_ok-objects.objects c.in-Some-2.this c.in_ok-args.args c.args.text.now c.in_ok-args.rest.now =
    argued c.args.problem.now c.in-Some.count c.in_ok-objects.objects c.in-Some-2.this c.in_ok-args.args c.args.text.now c.in_ok-objects.rest.now c.in-Some-2.lines.now c.in_ok-args.rest.now
    heap all named.0 named.1 c.in_ok-args.ensures.given c.in_ok-args.ensures.parts in
    let enough : length c.in_ok-args.args ≡ length (params_of c.args.problem.now) = omega (arith, c.in_ok-args.ensures.few, ap length c.params_in.ensures) in
    let over : length c.in_ok-args.rest.now ≡ 0 = grind (arith, nat_tests) in
    let start : Start = record { objects = c.in_ok-objects.objects; this = c.in-Some-2.this; args = c.in_ok-args.args } in
    let text : IsStateText c.args.problem.now c.args.text.now start =
    is_text c.args.problem.now c.in-Some.count c.in_ok-objects.objects c.in-Some-2.this c.in_ok-args.args c.args.text.now c.in_ok-args.rest.now lines enough (nil_from_length c.in_ok-args.rest.now over) in
    let fits : Fits start c.args.problem.now = search rules in
    (fits, text)

pub returns-else-fits-clause-fault : goal.returns-else-fits-clause-fault
returns-else-fits-clause-fault c =
    let first = rw c.in-Some.is at c.in_ok-count.ensures.found in
    let heap : Heaped c.args.problem.now c.in-Some.count c.in_ok-objects.objects c.args.text.now c.in_ok-objects.rest.now =
    heaped c.args.problem.now c.in-Some.count c.in_ok-objects.objects c.args.text.now c.in-Some.lines.now c.in_ok-objects.rest.now first.0 first.1 c.in_ok-objects.ensures.listed c.in_ok-objects.ensures.parts in
    let all : length c.in_ok-objects.objects ≡ c.in-Some.count = omega (arith, c.in_ok-objects.ensures.few) in
    let named = rw c.in-Some-2.is at c.in_ok-this.ensures.found in
    let lines : Argued c.args.problem.now c.in-Some.count c.in_ok-objects.objects c.in-Some-2.this c.in_ok-args.args c.args.text.now c.in_ok-args.rest.now =
    argued c.args.problem.now c.in-Some.count c.in_ok-objects.objects c.in-Some-2.this c.in_ok-args.args c.args.text.now c.in_ok-objects.rest.now c.in-Some-2.lines.now c.in_ok-args.rest.now
    heap all named.0 named.1 c.in_ok-args.ensures.given c.in_ok-args.ensures.parts in
    let enough : length c.in_ok-args.args ≡ length (params_of c.args.problem.now) = omega (arith, c.in_ok-args.ensures.few, ap length c.params_in.ensures) in
    let over : length c.in_ok-args.rest.now ≡ 0 = grind (arith, nat_tests) in
    let start : Start = record { objects = c.in_ok-objects.objects; this = c.in-Some-2.this; args = c.in_ok-args.args } in
    let text : IsStateText c.args.problem.now c.args.text.now start =
    is_text c.args.problem.now c.in-Some.count c.in_ok-objects.objects c.in-Some-2.this c.in_ok-args.args c.args.text.now c.in_ok-args.rest.now lines enough (nil_from_length c.in_ok-args.rest.now over) in
    let misfits : Fits start c.args.problem.now → ⊥ = search rules in
    let at : length c.args.text.now - length c.in_ok-args.rest.now ≡ length c.args.text.now = omega (arith, over) in
    subst (BlamesState c.args.problem.now c.args.text.now) (sym c.bad_state-else-fits.ensures) (unfit start text misfits at)

pub returns-then-len-from-clause-whole : goal.returns-then-len-from-clause-whole
returns-then-len-from-clause-whole c = read_fault c.args.problem.now c.args.text.now c.bad_state.result c.well_posed.ensures.unit c.well_posed.ensures.scope (returns-then-len-from-clause-fault c)

pub returns-in_default-2-clause-whole : goal.returns-in_default-2-clause-whole
returns-in_default-2-clause-whole c = read_fault c.args.problem.now c.args.text.now c.bad_state-in_default-2.result c.well_posed.ensures.unit c.well_posed.ensures.scope (returns-in_default-2-clause-fault c)

pub returns-then-len-params_in-clause-whole : goal.returns-then-len-params_in-clause-whole
returns-then-len-params_in-clause-whole c = read_fault c.args.problem.now c.args.text.now c.bad_state-then-len-params_in.result c.well_posed.ensures.unit c.well_posed.ensures.scope (returns-then-len-params_in-clause-fault c)

pub returns-then-not-is_empty-clause-whole : goal.returns-then-not-is_empty-clause-whole
returns-then-not-is_empty-clause-whole c = read_fault c.args.problem.now c.args.text.now c.bad_state-then-not-is_empty.result c.well_posed.ensures.unit c.well_posed.ensures.scope (returns-then-not-is_empty-clause-fault c)

pub returns-else-fits-clause-whole : goal.returns-else-fits-clause-whole
returns-else-fits-clause-whole c = read_fault c.args.problem.now c.args.text.now c.bad_state-else-fits.result c.well_posed.ensures.unit c.well_posed.ensures.scope (returns-else-fits-clause-fault c)

pub returns-then-fits-clause-whole : goal.returns-then-fits-clause-whole
returns-then-fits-clause-whole c = read_start c.args.problem.now c.args.text.now (record { objects = c.in_ok-objects.objects; this = c.in-Some-2.this; args = c.in_ok-args.args }) c.well_posed.ensures.unit c.well_posed.ensures.scope (returns-then-fits-clause-read c)
