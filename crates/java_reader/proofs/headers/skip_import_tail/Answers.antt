use Rattle.std.proofs.Common.{rules, ◌≡◌, false, sym, ◌∙◌, arith}
use Rattle.std.specs.Prelude.{Err}
use Rattle.java_reading.specs.declared.marks.Fixed.TheVariants.{Semicolon}
use Rattle.java_reading.specs.Tokens.{fixed}
use Rattle.java_reader.proofs.ImportTails.{leads_all, leads_end, leads_more, leads_name_stops}
use Rattle.java_reader.proofs.Passing.{matched, pass_as}
use Rattle.java_reader.proofs.headers.skip_import_tail.Goals as goal

pub returns-then-next_is-clause-is : goal.returns-then-next_is-clause-is
returns-then-next_is-clause-is c =
    pass_as c.fixed-then-next_is-2.result _ (fixed false Semicolon c.in_ok-behind-2.behind.now)
    (leads_all c.args.tokens.now c.parts.rest.now c.parts.invariant.reads _ _ (sym c.next_is.ensures ∙ c.parts-test.true) c.in_ok-behind.ensures.is (sym c.next_is-in-parts.ensures ∙ c.if-next_is.true) c.in_ok-behind-2.ensures.is)
    (matched c.fixed-then-next_is-2.result (fixed false Semicolon c.in_ok-behind-2.behind.now) c.fixed-then-next_is-2.ensures.is)

pub returns-in_err-rest-clause-is : goal.returns-in_err-rest-clause-is
returns-in_err-rest-clause-is c =
    let same : c.from_residual-in_err-rest.result ≡ Err c.in_err-rest.field-0.0 = search rules in
    leads_name_stops c.args.tokens.now c.parts.rest.now c.parts.invariant.reads _ (sym c.next_is.ensures ∙ c.parts-test.true) c.in_ok-behind.ensures.is (sym c.next_is-in-parts.ensures ∙ c.if-next_is.false) c.from_residual-in_err-rest.result
    c.in_err-rest.field-0.0 same c.in_err-rest.ensures.is

pub parts-preserved : goal.parts-preserved
parts-preserved c = record {
  reads =
      leads_more c.args.tokens.now c.parts.rest.now c.parts.invariant.reads _ _ (sym c.next_is.ensures ∙ c.parts-test.true) c.in_ok-behind.ensures.is (sym c.next_is-in-parts.ensures ∙ c.if-next_is.false) c.in_ok-rest.ensures.is
      (omega (arith, c.in_ok-behind.ensures.shorter, c.in_ok-rest.ensures.shorter));
  within = omega (arith, c.in_ok-behind.ensures.shorter, c.in_ok-rest.ensures.shorter, c.parts.invariant.within);
}

pub returns-clause-is : goal.returns-clause-is
returns-clause-is c =
    pass_as c.fixed-2.result _ (fixed false Semicolon c.parts.rest.now) (leads_end c.args.tokens.now c.parts.rest.now c.parts.invariant.reads (sym c.next_is.ensures ∙ c.parts-test.false))
    (matched c.fixed-2.result (fixed false Semicolon c.parts.rest.now) c.fixed-2.ensures.is)
