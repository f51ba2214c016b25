use Rattle.std.proofs.Common.{rules, ◌≡◌, sym, ◌∙◌, arith, Vec, Global}
use Rattle.std.specs.Prelude.{Err}
use Rattle.java_tree.specs.declared.names.Ident.{Ident}
use Rattle.java_reader.proofs.Loops.{so_far_start, so_far_more, so_far_end, so_far_stops}
use Rattle.java_reader.proofs.members.more_names.Goals as goal

pub more-init : goal.more-init
more-init c = record { reads = so_far_start _ _ _ _ (search rules); within = omega arith }

pub returns-in_err-next-clause-is : goal.returns-in_err-next-clause-is
returns-in_err-next-clause-is c =
    let same : c.from_residual.result ≡ Err c.in_err-next.field-0.0 = search rules in
    so_far_stops (λ (v : Vec Ident Global). v.items) (λ (i : Ident). i) c.from_residual.result c.in_err-next.field-0.0 same c.more.invariant.reads (sym c.next_is.ensures ∙ c.more-test.true) c.in_err-next.ensures.is

pub more-preserved : goal.more-preserved
more-preserved c = record {
  reads = so_far_more c.more.invariant.reads _ c.in_ok-next.next _ (sym c.next_is.ensures ∙ c.more-test.true) c.in_ok-next.ensures.is c.in_ok-next.ensures.shorter c.in_ok-push.ensures.items;
  within = omega (arith, c.in_ok-next.ensures.shorter, c.more.invariant.within);
}

pub returns-clause-is : goal.returns-clause-is
returns-clause-is c = so_far_end c.more.invariant.reads (sym c.next_is.ensures ∙ c.more-test.false)
