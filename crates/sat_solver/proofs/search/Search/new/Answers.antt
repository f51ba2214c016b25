use Rattle.std.proofs.Common.{◌≡◌, ◌+◌, ◌^◌, ◌<◌, false, length, replicate, subst, ap, ◌∙◌}
use Rattle.std.proofs.lemmas.List.{length-replicate}
use Rattle.std.proofs.lemmas.List.FromFn.{length-range_with_len}
use Rattle.sat_analysis.specs.Settled.{HasRoom}
use Rattle.sat_solver.specs.Steps.{unmarked}
use Rattle.sat_solver.proofs.Beginning.{loading_new, start_of}
use Rattle.sat_solver.proofs.search.Search.new.Goals as goal

pub returns-clause-loading : goal.returns-clause-loading
returns-clause-loading c =
    let vars : c.vars-vars.result ≡ c.args.cnf.vars = c.vars-vars.ensures.value in
    loading_new _ (subst (λ v. v < 2 ^ 31) vars c.vars-vars.ensures.small) c.new-7.ensures (c.in_ok-watches.ensures.vars ∙ vars) c.in_ok-watches.ensures.clauses c.in_ok-watches.ensures.right
    (c.in_ok-trail.ensures ∙ ap (λ v. start_of v) vars) c.new-3.ensures.items
    (ap length (c.in_ok-vec.ensures.items_if_clones_equal (λ y h. h)) ∙ length-replicate (c.vars-vars.result + 1) 0 ∙ ap (λ v. v + 1) vars)
    (ap length (c.in_ok-vec-2.ensures.items_if_clones_equal (λ y h. h)) ∙ length-replicate (c.vars-vars.result + 1) 0 ∙ ap (λ v. v + 1) vars)
    (c.in_ok-marks.ensures ∙ ap unmarked vars) (subst (λ v. HasRoom v c.in_ok-minimiser.minimiser) vars c.in_ok-minimiser.ensures) c.in_ok-queue.ensures.each (ap length c.in_ok-queue.ensures.vars ∙ length-range_with_len 1 c.vars-vars.result ∙ vars) c.in_ok-queue.ensures.cursor
    (c.in_ok-set.ensures.items_if_clones_equal (λ y h. h) ∙ ap (λ v. replicate v false) vars)
    (ap length (c.in_ok-phases.ensures.items_if_clones_equal (λ y h. h)) ∙ length-replicate c.vars-vars.result false ∙ vars)
