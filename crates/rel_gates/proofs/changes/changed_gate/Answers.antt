-- Row by row, where the relation is spread over the objects; no other changes.
use Rattle.std.proofs.Common.{◌≡◌, ℕ, ◌+◌, ◌*◌, ◌<◌, length, get_or, sym, subst, ap, ◌∙◌, arith}
use Rattle.std.proofs.lemmas.Grind.{get_or_after_one}
use Rattle.gate_core.specs.Circuit.{value, IsOf}
use Rattle.gate_arith.specs.Operations.{IsTruth}
use Rattle.rel_gates.specs.Changes.{rows_change}
use Rattle.rel_gates.proofs.ChangedRows.{changed_truth, unchanged_truth}
use Rattle.rel_gates.proofs.ChangeNamed.{named_change, no_use, given_within}
use Rattle.rel_gates.proofs.changes.changed_gate.Goals as goal

pub row-given-requires : goal.row-given-requires
row-given-requires c =
    let p = c.args.problem.now in
    let es = c.args.relations.now in
    let r = c.args.change in
    let change = named_change p es r.new r.given r.old c.in-Some.width (sym c.in-Some.is ∙ c.spread_width.ensures.width) c.requires.named in
    given_within p es r.new r.given r.old c.in-Some.width c.gates_for.result.now change c.gates_for.ensures c.well_posed.ensures.scope.scope.objects_low

pub returns-in_ok-gate-in-Some-clause-changed : goal.returns-in_ok-gate-in-Some-clause-changed
returns-in_ok-gate-in-Some-clause-changed c = λ e are.
    let p = c.args.problem.now in
    let es = c.args.relations.now in
    let r = c.args.change in
    let old = c.args.gates.now in
    let new = c.rows_changed.new.gates in
    let set = c.args.set.now in
    let members = c.split_at.result.1.now in
    let new_rows = c.gates_for-new.result.now in
    let given_rows = c.gates_for.result.now in
    let given_row = c.row-given.result.now in
    let old_rows = c.gates_for-old.result.now in
    let gate = c.in_ok-gate-in-Some.gate in
    let change = named_change p es r.new r.given r.old c.in-Some.width (sym c.in-Some.is ∙ c.spread_width.ensures.width) c.requires.named in
    let first = c.requires.set 0 0 (omega (arith, c.requires.wide)) in
    let some : IsOf old 0 = omega (arith, first) in
    let ints = c.well_posed.ensures.scope.scope.ints_low in
    let long : length members ≡ p.scope.objects = omega (arith, c.split_at.ensures.back_len, c.requires.wide) in
    let same : (i : ℕ) → i < p.scope.objects → get_or members i 0 ≡ get_or set (i + 1) 0 =
    λ i below. (let place : 1 + i ≡ i + 1 = omega arith in ap (λ gs. get_or gs i 0) c.split_at.ensures.back ∙ get_or_after_one set i 0 ∙ ap (λ k. get_or set k 0) place) in
    changed_truth p es old new e r.new r.given r.old change.use_is set members new_rows given_rows given_row old_rows gate c.well_posed.ensures.scope.scope.objects_low (omega (arith, ints))
    c.in_ok-gate-in-Some.ensures.keeps some c.requires.stand change.is are long same c.gates_for-new.ensures c.gates_for.ensures c.gates_for-old.ensures
    (subst (λ w. (i : ℕ) → i < w → get_or given_row i 0 ≡ get_or given_rows (0 * w + i) 0) change.wide c.row-given.ensures.gates)
    (subst (λ w. IsTruth new (λ inputs. rows_change w (value inputs old) members new_rows given_row old_rows) gate) (c.row-given.ensures.wide ∙ change.wide) c.in_ok-gate-in-Some.ensures.truth)

pub returns-in-None-clause-changed : goal.returns-in-None-clause-changed
returns-in-None-clause-changed c = λ e are.
    let r = c.args.change in
    unchanged_truth c.args.problem.now c.args.relations.now c.args.gates.now e r.new r.given r.old c.constant.result
    (no_use c.args.problem.now r.new (sym c.in-None.is ∙ c.spread_width.ensures.width)) c.constant.ensures.of
