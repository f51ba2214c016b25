use Rattle.std.proofs.Common.{rules, ◌≡◌, map, sym, ◌∙◌, arith, Vec, Global}
use Rattle.std.specs.Prelude.{Err}
use Rattle.java_tree.specs.declared.members.Member.{Member}
use Rattle.java_tree.specs.Seen.{part_tree}
use Rattle.java_reader.specs.Seen.{declared_seen}
use Rattle.java_reader.proofs.MemberLoops.{parts_start, parts_more, parts_end, parts_stop}
use Rattle.java_reader.proofs.classes.members.Goals as goal

pub more-init : goal.more-init
more-init c = record { reads = parts_start _ _ _ _ (search rules); within = omega arith }

pub returns-in_err-next-clause-is : goal.returns-in_err-next-clause-is
returns-in_err-next-clause-is c =
    let same : c.from_residual.result ≡ Err c.in_err-next.field-0.0 = search rules in
    parts_stop (λ (v : Vec Member Global). map part_tree v.items) declared_seen c.from_residual.result c.in_err-next.field-0.0 same c.more.invariant.reads (sym c.next_is_member.ensures ∙ c.more-test.true) c.in_err-next.ensures.is

pub more-preserved : goal.more-preserved
more-preserved c = record {
  reads = parts_more c.more.invariant.reads _ (declared_seen c.in_ok-next.next) _ (sym c.next_is_member.ensures ∙ c.more-test.true) c.in_ok-next.ensures.is c.in_ok-next.ensures.shorter c.in_ok-push_parts.ensures;
  within = omega (arith, c.in_ok-next.ensures.shorter, c.more.invariant.within);
}

pub returns-clause-is : goal.returns-clause-is
returns-clause-is c = parts_end c.more.invariant.reads (sym c.next_is_member.ensures ∙ c.more-test.false)
