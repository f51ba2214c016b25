use Rattle.std.proofs.Common.{◌≡◌, ◌++◌, sym, ap, ◌∙◌}
use Rattle.std.specs.Prelude.{codes}
use Rattle.taco_report.specs.Texts.{field_text, value_text}
use Rattle.taco_report.proofs.Pieces.{behind_one, opened_four}
use Rattle.taco_report.proofs.Lists.{none_from, cell_kind}
use Rattle.taco_report.proofs.line_reader.cell.Goals as goal

pub returns-in-None-clause-none : goal.returns-in-None-clause-none
returns-in-None-clause-none c =
    λ v more is end same.
    let name : c.in-Some-behind.name.now ≡ field_text c.args.problem.now c.args.field ++ (codes "=" ++ (value_text v ++ more)) =
    behind_one (codes " ") (field_text c.args.problem.now c.args.field ++ (codes "=" ++ (value_text v ++ more))) c.args.text.now c.in-Some-behind.name.now c.in-Some-behind.ensures
    (opened_four (codes " ") (field_text c.args.problem.now c.args.field) (codes "=") (value_text v) more c.args.text.now same) in
    let sign : c.in-Some-behind-2.sign.now ≡ codes "=" ++ (value_text v ++ more) =
    behind_one c.field_name.result.now (codes "=" ++ (value_text v ++ more)) c.in-Some-behind.name.now c.in-Some-behind-2.sign.now c.in-Some-behind-2.ensures
    (name ∙ ap (λ l. l ++ (codes "=" ++ (value_text v ++ more))) (sym c.field_name.ensures)) in
    c.in-None.ensures (value_text v ++ more) sign

pub returns-in-Some-behind-3-clause-none : goal.returns-in-Some-behind-3-clause-none
returns-in-Some-behind-3-clause-none c =
    none_from c.value.result (λ none v more is end same.
    let name : c.in-Some-behind.name.now ≡ field_text c.args.problem.now c.args.field ++ (codes "=" ++ (value_text v ++ more)) =
    behind_one (codes " ") (field_text c.args.problem.now c.args.field ++ (codes "=" ++ (value_text v ++ more))) c.args.text.now c.in-Some-behind.name.now c.in-Some-behind.ensures
    (opened_four (codes " ") (field_text c.args.problem.now c.args.field) (codes "=") (value_text v) more c.args.text.now same) in
    let sign : c.in-Some-behind-2.sign.now ≡ codes "=" ++ (value_text v ++ more) =
    behind_one c.field_name.result.now (codes "=" ++ (value_text v ++ more)) c.in-Some-behind.name.now c.in-Some-behind-2.sign.now c.in-Some-behind-2.ensures
    (name ∙ ap (λ l. l ++ (codes "=" ++ (value_text v ++ more))) (sym c.field_name.ensures)) in
    let kind = cell_kind c.args.problem.now.unit c.args.count c.args.field c.in-Some.kind v (sym c.field_kind.ensures ∙ c.in-Some.is) in
    none v more (sym kind ∙ is) end
    (behind_one (codes "=") (value_text v ++ more) c.in-Some-behind-2.sign.now c.in-Some-behind-3.text.now c.in-Some-behind-3.ensures sign))
    c.value.ensures.none
