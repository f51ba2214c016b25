use Rattle.std.proofs.Common.{rules, ◌≡◌, [], map, sym, ◌∙◌, arith, Vec, Global}
use Rattle.std.specs.Prelude.{Err}
use Rattle.java_tree.specs.declared.members.ParamTree.{ParamTree}
use Rattle.java_tree.specs.Seen.{param_tree}
use Rattle.java_reader.proofs.Loops.{so_far_listed, so_far_more, so_far_end, so_far_stops, seen_more}
use Rattle.java_reader.proofs.parameters.some_parameters.Goals as goal

pub more-init : goal.more-init
more-init c = record { reads = so_far_listed _ _ _ (param_tree c.in_ok-start.start) _ _ c.in_ok-start.ensures.is (seen_more param_tree [] _ c.in_ok-start.start (search rules)); within = c.in_ok-start.ensures.shorter }

pub returns-in_err-next-clause-is : goal.returns-in_err-next-clause-is
returns-in_err-next-clause-is c =
    let same : c.from_residual-in_err-next.result ≡ Err c.in_err-next.field-0.0 = search rules in
    so_far_stops (λ (v : Vec ParamTree Global). map param_tree v.items) param_tree c.from_residual-in_err-next.result c.in_err-next.field-0.0 same c.more.invariant.reads (sym c.next_is.ensures ∙ c.more-test.true) c.in_err-next.ensures.is

pub more-preserved : goal.more-preserved
more-preserved c = record {
  reads = so_far_more c.more.invariant.reads _ (param_tree c.in_ok-next.next) _ (sym c.next_is.ensures ∙ c.more-test.true) c.in_ok-next.ensures.is c.in_ok-next.ensures.shorter (seen_more param_tree _ _ c.in_ok-next.next c.in_ok-push-2.ensures.items);
  within = omega (arith, c.in_ok-next.ensures.shorter, c.more.invariant.within);
}

pub returns-clause-is : goal.returns-clause-is
returns-clause-is c = so_far_end c.more.invariant.reads (sym c.next_is.ensures ∙ c.more-test.false)
