use Rattle.std.proofs.Common.{◌≡◌, ◌≤◌, ℕ, List, None, length, ap, sym, ◌∙◌, subst}
use Rattle.std.specs.Prelude.{option_map}
use Rattle.heap_core.specs.declared.value.Seen.{Seen}
use Rattle.heap_core.specs.declared.judged.Part.{Part}
use Rattle.heap_core.specs.declared.judged.Part.TheVariants as part
use Rattle.heap_core.specs.Judge.{invariants_at, missing_at}
use Rattle.heap_replay.specs.Firsts.{first, untrue_from}
use Rattle.heap_replay.proofs.Judging.{first_invariant_part, invariants_few}
use Rattle.heap_replay.proofs.broken.broken_at.Goals as goal

pub first_untrue-requires : goal.first_untrue-requires
first_untrue-requires c =
    let few = invariants_few c.args.problem.now c.args.heap.now c.args.object c.well_posed.ensures.unit in
    let is : c.as_slice.result.now ≡ invariants_at c.args.problem.now c.args.heap.now c.args.object = c.as_slice.ensures ∙ c.in_ok-invariants.ensures in
    subst (λ (vs : List Seen). length vs ≤ 255) (sym is) few

pub returns-in-Some-first_untrue : goal.returns-in-Some-first_untrue
returns-in-Some-first_untrue c =
    let named : ℕ → Part = λ k. part.Invariant k c.args.object in
    let none : first (missing_at c.args.problem.now c.args.heap.now c.args.object) ≡ None = sym c.in_default.ensures in
    let is : c.as_slice.result.now ≡ invariants_at c.args.problem.now c.args.heap.now c.args.object = c.as_slice.ensures ∙ c.in_ok-invariants.ensures in
    ap (option_map named) (c.in-Some-first_untrue.ensures ∙ ap (λ vs. first (untrue_from 1 vs)) is)
    ∙ sym (first_invariant_part c.args.problem.now c.args.heap.now c.args.object none)

pub returns : goal.returns
returns c =
    let named : ℕ → Part = λ k. part.Invariant k c.args.object in
    let none : first (missing_at c.args.problem.now c.args.heap.now c.args.object) ≡ None = sym c.in_default.ensures in
    let is : c.as_slice.result.now ≡ invariants_at c.args.problem.now c.args.heap.now c.args.object = c.as_slice.ensures ∙ c.in_ok-invariants.ensures in
    ap (option_map named) (c.in-None.ensures ∙ ap (λ vs. first (untrue_from 1 vs)) is)
    ∙ sym (first_invariant_part c.args.problem.now c.args.heap.now c.args.object none)
