use Rattle.std.proofs.Common.{◌≡◌, [], ◌∷◌, ◌++◌, refl, sym, ap, ◌∙◌, arith}
use Rattle.std.specs.Prelude.{codes}
use Rattle.taco_report.specs.Texts.{value_text}
use Rattle.taco_report.proofs.Pieces.{behind_one, opened_four}
use Rattle.taco_report.proofs.Values.{SameValue, same_value}
use Rattle.taco_report.proofs.line_reader.argument_line.Goals as goal

pub returns-in_default-behind-clause-none : goal.returns-in_default-behind-clause-none
returns-in_default-behind-clause-none c =
    λ v more is same.
    let sign : c.in-Some.sign.now ≡ codes "=" ++ (value_text v ++ (10 ∷ more)) =
    behind_one c.bytes.result.now (codes "=" ++ (value_text v ++ (10 ∷ more))) c.args.text.now c.in-Some.sign.now c.in-Some.ensures
    (opened_four c.args.param.now.name (codes "=") (value_text v) (10 ∷ []) more c.args.text.now same ∙ ap (λ l. l ++ (codes "=" ++ (value_text v ++ (10 ∷ more)))) (sym c.bytes.ensures)) in
    c.in_default-behind.ensures (value_text v ++ (10 ∷ more)) sign

pub returns-in_default-2-clause-none : goal.returns-in_default-2-clause-none
returns-in_default-2-clause-none c =
    λ v more is same.
    let none = rw c.in_default-2.is at c.in_ok-argument.ensures.none in
    let sign : c.in-Some.sign.now ≡ codes "=" ++ (value_text v ++ (10 ∷ more)) =
    behind_one c.bytes.result.now (codes "=" ++ (value_text v ++ (10 ∷ more))) c.args.text.now c.in-Some.sign.now c.in-Some.ensures
    (opened_four c.args.param.now.name (codes "=") (value_text v) (10 ∷ []) more c.args.text.now same ∙ ap (λ l. l ++ (codes "=" ++ (value_text v ++ (10 ∷ more)))) (sym c.bytes.ensures)) in
    let written : c.in-Some-behind.written.now ≡ value_text v ++ (10 ∷ more) =
    behind_one (codes "=") (value_text v ++ (10 ∷ more)) c.in-Some.sign.now c.in-Some-behind.written.now c.in-Some-behind.ensures sign in
    none v (10 ∷ more) is refl written

pub returns-in-None-clause-none : goal.returns-in-None-clause-none
returns-in-None-clause-none c =
    λ v more is same.
    let found = rw c.in-Some-2.is at c.in_ok-argument.ensures.found in
    let sign : c.in-Some.sign.now ≡ codes "=" ++ (value_text v ++ (10 ∷ more)) =
    behind_one c.bytes.result.now (codes "=" ++ (value_text v ++ (10 ∷ more))) c.args.text.now c.in-Some.sign.now c.in-Some.ensures
    (opened_four c.args.param.now.name (codes "=") (value_text v) (10 ∷ []) more c.args.text.now same ∙ ap (λ l. l ++ (codes "=" ++ (value_text v ++ (10 ∷ more)))) (sym c.bytes.ensures)) in
    let written : c.in-Some-behind.written.now ≡ value_text v ++ (10 ∷ more) =
    behind_one (codes "=") (value_text v ++ (10 ∷ more)) c.in-Some.sign.now c.in-Some-behind.written.now c.in-Some-behind.ensures sign in
    let h : SameValue c.in-Some-2.argument v c.in-Some-2.end.now (10 ∷ more) =
    same_value c.args.count c.args.param.now.kind c.in-Some-2.argument v c.in-Some-2.end.now (10 ∷ more) (omega arith) found.0 is found.2 refl (sym found.1 ∙ written) in
    c.in-None.ensures more h.rest
