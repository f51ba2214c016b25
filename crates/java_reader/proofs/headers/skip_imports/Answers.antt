use Rattle.std.proofs.Common.{rules, ◌≡◌, sym, ◌∙◌, arith}
use Rattle.std.specs.Prelude.{Err}
use Rattle.java_reading.specs.MemberReading.{import_in}
use Rattle.java_reader.specs.Headers.{passed}
use Rattle.java_reader.proofs.Passing.{pass_as, passed_same, passing_start, passing_more, passing_stops}
use Rattle.java_reader.proofs.headers.skip_imports.Goals as goal

pub imports-init : goal.imports-init
imports-init c = record { reads = passing_start _ _ c.args.tokens.now; within = omega arith }

pub returns-in_err-rest-clause-is : goal.returns-in_err-rest-clause-is
returns-in_err-rest-clause-is c =
    let same : c.from_residual.result ≡ Err c.in_err-rest.field-0.0 = search rules in
    passing_stops c.from_residual.result c.in_err-rest.field-0.0 same c.imports.invariant.reads (sym c.next_is.ensures ∙ c.imports-test.true) (pass_as (Err c.in_err-rest.field-0.0) (passed (import_in c.imports.rest.now)) (import_in c.imports.rest.now) (passed_same (import_in c.imports.rest.now)) c.in_err-rest.ensures.is)

pub imports-preserved : goal.imports-preserved
imports-preserved c = record {
  reads = passing_more c.imports.invariant.reads _ (sym c.next_is.ensures ∙ c.imports-test.true) (passed_same (import_in c.imports.rest.now) ∙ c.in_ok-rest.ensures.is) c.in_ok-rest.ensures.shorter;
  within = omega (arith, c.in_ok-rest.ensures.shorter, c.imports.invariant.within);
}
