use Rattle.std.proofs.Common.{rules, ◌≡◌, false, sym, ◌∙◌, arith}
use Rattle.std.specs.Prelude.{Err}
use Rattle.java_reading.specs.Tokens.{name_in}
use Rattle.java_reader.proofs.Passing.{first_passed_stops, passing_behind, passing_more, passing_end, passing_stops}
use Rattle.java_reader.proofs.headers.skip_dotted.Goals as goal

pub returns-in_err-rest-clause-is : goal.returns-in_err-rest-clause-is
returns-in_err-rest-clause-is c =
    let same : c.from_residual.result ≡ Err c.in_err-rest.field-0.0 = search rules in
    first_passed_stops (name_in false c.args.tokens.now) _ c.from_residual.result c.in_err-rest.field-0.0 same c.in_err-rest.ensures.is

pub parts-init : goal.parts-init
parts-init c = record { reads = passing_behind _ _ (name_in false c.args.tokens.now) _ c.in_ok-rest.ensures.is; within = c.in_ok-rest.ensures.shorter }

pub returns-in_err-rest-2-clause-is : goal.returns-in_err-rest-2-clause-is
returns-in_err-rest-2-clause-is c =
    let same : c.from_residual-in_err-rest-2.result ≡ Err c.in_err-rest-2.field-0.0 = search rules in
    passing_stops c.from_residual-in_err-rest-2.result c.in_err-rest-2.field-0.0 same c.parts.invariant.reads (sym c.next_is.ensures ∙ c.parts-test.true) c.in_err-rest-2.ensures.is

pub parts-preserved : goal.parts-preserved
parts-preserved c = record { reads = passing_more c.parts.invariant.reads _ (sym c.next_is.ensures ∙ c.parts-test.true) c.in_ok-rest-2.ensures.is c.in_ok-rest-2.ensures.shorter; within = omega (arith, c.in_ok-rest-2.ensures.shorter, c.parts.invariant.within) }

pub returns-clause-is : goal.returns-clause-is
returns-clause-is c = passing_end c.parts.invariant.reads (sym c.next_is.ensures ∙ c.parts-test.false)
