use Rattle.std.proofs.Common.{◌≡◌, ℕ, ◌≤◌, ap, sym, ◌∙◌, arith}
use Rattle.std.specs.Prelude.{count_by, pos}
use Rattle.std.specs.List.{range_with_len}
use Rattle.taco_unit.specs.declared.scope.Scope.{Scope}
use Rattle.heap_core.specs.Posed.{Posed}
use Rattle.heap_core.specs.Outcomes.{number}
use Rattle.heap_core.specs.Eval.{reached}
use Rattle.heap_eval.specs.Environs.{env_of}
use Rattle.heap_core.specs.Stages.{is_done, stage_of}
use Rattle.heap_eval.proofs.Ranges.{count_same}
use Rattle.heap_eval.proofs.Visiting.{size_of}
use Rattle.heap_eval.proofs.reach.size.Goals as goal

pub returns-in-Null : goal.returns-in-Null
returns-in-Null c =
    let env = env_of c.args.env in
    let set = reached env c.args.fields.now c.args.from in
    let problem : c.problem.inside.scope ≡ c.args.env.problem.now.scope = ap (λ (p : Posed). p.scope) c.problem.view_is in
    let few : c.problem.inside.scope.objects ≤ 256 = omega (arith, c.problem.invariant.scope.objects_high) in
    let first : count_by (λ o. is_done (stage_of c.visit.new.stages o)) (range_with_len 0 c.problem.inside.scope.objects) ≡ count_by set (range_with_len 0 c.problem.inside.scope.objects) =
    count_same (λ o. is_done (stage_of c.visit.new.stages o)) set 0 c.problem.inside.scope.objects (λ o below. c.visit.ensures o (omega (arith, below, few)))
    in
    let counted : c.done_below-count.result ≡ count_by set (range_with_len 0 env.objects) = c.done_below-count.ensures.counted ∙ first ∙ ap (λ (s : Scope). count_by set (range_with_len 0 s.objects)) problem in
    c.number_of.ensures ∙ ap (λ (n : ℕ). number c.problem.inside.scope.ints (pos n)) counted
    ∙ ap (λ (s : Scope). number s.ints (pos (count_by set (range_with_len 0 env.objects)))) problem ∙ sym (size_of env c.args.fields.now c.args.from c.in-Null.is)
