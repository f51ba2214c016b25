use Rattle.std.proofs.Common.{rules, ◌≡◌, suc, length}
use Rattle.std.specs.Prelude.{Err}
use Rattle.java_reading.specs.MemberReading.{import_in, import_tail_by}
use Rattle.java_reader.proofs.ImportTails.{behind_import, behind_static, behind_name, static_stops, name_stops}
use Rattle.java_reader.proofs.Passing.{pass_as}
use Rattle.java_reader.proofs.headers.skip_import.Goals as goal

pub returns-in_err-rest-2-clause-is : goal.returns-in_err-rest-2-clause-is
returns-in_err-rest-2-clause-is c =
    let same : c.from_residual-in_err-rest-2.result ≡ Err c.in_err-rest-2.field-0.0 = search rules in
    pass_as c.from_residual-in_err-rest-2.result (import_in c.args.tokens.now) _ (behind_import c.args.tokens.now c.in_ok-rest.rest.now c.in_ok-rest.ensures.is) (static_stops c.in_ok-rest.rest.now c.from_residual-in_err-rest-2.result c.in_err-rest-2.field-0.0 same c.in_err-rest-2.ensures.is)

pub returns-in_err-rest-3-clause-is : goal.returns-in_err-rest-3-clause-is
returns-in_err-rest-3-clause-is c =
    let same : c.from_residual-in_err-rest-3.result ≡ Err c.in_err-rest-3.field-0.0 = search rules in
    pass_as c.from_residual-in_err-rest-3.result (import_in c.args.tokens.now) _ (behind_static c.args.tokens.now c.in_ok-rest.rest.now c.in_ok-rest-2.rest.now c.in_ok-rest.ensures.is c.in_ok-rest-2.ensures.is) (name_stops c.in_ok-rest-2.rest.now c.from_residual-in_err-rest-3.result c.in_err-rest-3.field-0.0 same c.in_err-rest-3.ensures.is)

pub returns-clause-is : goal.returns-clause-is
returns-clause-is c = pass_as c.skip_import_tail.result (import_in c.args.tokens.now) (import_tail_by (suc (length c.in_ok-rest-3.rest.now)) c.in_ok-rest-3.rest.now)
    (behind_name c.args.tokens.now c.in_ok-rest.rest.now c.in_ok-rest-2.rest.now c.in_ok-rest-3.rest.now c.in_ok-rest.ensures.is c.in_ok-rest-2.ensures.is c.in_ok-rest-3.ensures.is) c.skip_import_tail.ensures.is
