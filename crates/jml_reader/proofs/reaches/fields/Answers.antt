use Rattle.std.proofs.Common.{rules, ◌≡◌, List, true, sym, ◌∙◌, ap, subst, Vec, Global, Bor}
use Rattle.std.specs.Prelude.{Result, Err}
use Rattle.java_lex.specs.declared.token.Token.{Token}
use Rattle.java_tree.specs.declared.names.Ident.{Ident}
use Rattle.reading_core.specs.declared.stop.Stop.{Stop}
use Rattle.reading_core.specs.Read.{Read}
use Rattle.reading_core.specs.Gives.{Gives}
use Rattle.expression_reading.specs.Reading.{field_in, first_is, is_plus}
use Rattle.expression_reading.proofs.Complete.{field_short}
use Rattle.expression_reading.proofs.Gathered.{gathered, gathered_end, gathered_more, gathered_stops}
use Rattle.jml_reader.specs.Descent.{fields_in}
use Rattle.jml_reader.proofs.reaches.fields.Goals as goal

pub returns-in_err-name : goal.returns-in_err-name
returns-in_err-name c =
    let same : c.from_residual-in_err-name.result ≡ Err c.in_err-name.field-0.0 = search rules in
    subst (λ (r : Result (Vec Ident Global × Bor (List Token)) Stop). Gives (λ v. v.items) r (fields_in c.args.start c.args.tokens.now)) (sym same)
    (subst (λ (r : Read (List Ident)). Gives {T = Vec Ident Global} (λ v. v.items) (Err c.in_err-name.field-0.0) r) (sym c.fields.invariant)
    (gathered_stops (λ is. is) (first_is (is_plus true)) field_in (λ (i : Ident). i) (λ (v : Vec Ident Global). v.items) field_short c.fields.names.items c.fields.rest.now c.in_err-name.field-0.0
    (sym c.is_field.ensures ∙ c.fields-test.true) c.in_err-name.ensures.reads))

pub fields-preserved : goal.fields-preserved
fields-preserved c =
    c.fields.invariant
    ∙ gathered_more (λ is. is) (first_is (is_plus true)) field_in field_short c.fields.names.items c.fields.rest.now c.in_ok-name.after.now c.in_ok-name.name (sym c.is_field.ensures ∙ c.fields-test.true) c.in_ok-name.ensures.reads
    ∙ ap (λ us. gathered (λ is. is) (first_is (is_plus true)) field_in us c.in_ok-name.after.now) (sym c.in_ok-push-2.ensures.items)

pub returns : goal.returns
returns c = c.fields.invariant ∙ gathered_end (λ is. is) (first_is (is_plus true)) field_in c.fields.names.items c.fields.rest.now (sym c.is_field.ensures ∙ c.fields-test.false)
