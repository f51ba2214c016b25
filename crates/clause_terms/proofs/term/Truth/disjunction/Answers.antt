use Rattle.std.proofs.Common.{◌≡◌, true, not, ap, ◌∙◌}
use Rattle.heap_core.specs.Outcomes.{as_flag, flag}
use Rattle.rel_core.specs.Meaning.{holds}
use Rattle.clause_terms.proofs.Flags.{told_lazy, or_is, or_means}
use Rattle.std.specs.Prelude.{if◌then◌else◌}
use Rattle.clause_terms.proofs.term.Truth.disjunction.Goals as goal

pub returns-clause-told : goal.returns-clause-told
returns-clause-told c m x y a b =
    let when : holds c.in_ok-when.when m ≡ not (holds c.args.left.value m) = c.in_ok-when.ensures.meaning m ∙ ap (λ f. not (holds f m)) c.in_ok-copied.ensures.same in
    told_lazy m not true (λ v. if v then flag true else as_flag y) x y c.args.left c.args.right _ (holds c.in_ok-when.when m) (or_means y) a b when (c.in_ok-ends.ensures.fine m)
    (c.in_ok-ends.ensures.inside m)
    (c.in_ok-either.ensures.meaning m ∙ or_is (holds c.in_ok-when.when m) (holds c.args.left.value m) (holds c.args.right.value m) when)

pub returns-clause-sorted : goal.returns-clause-sorted
returns-clause-sorted c p kinds a b =
    let ends = c.in_ok-ends.ensures.sorted p kinds a.fine a.inside (c.in_ok-when.ensures.sorted p kinds (c.in_ok-copied.ensures.sorted p kinds a.value)) b.fine b.inside in
    record { value = c.in_ok-either.ensures.sorted p kinds a.value b.value; fine = ends.0; inside = ends.1 }
