use Rattle.std.proofs.Common.{false, refl, ◌∙◌}
use Rattle.heap_core.specs.Outcomes.{as_flag, flag}
use Rattle.rel_core.specs.Meaning.{holds}
use Rattle.clause_terms.proofs.Flags.{told_lazy, and_is}
use Rattle.std.specs.Prelude.{if◌then◌else◌}
use Rattle.clause_terms.proofs.term.Truth.conjunction.Goals as goal

pub returns-clause-told : goal.returns-clause-told
returns-clause-told c m x y a b = told_lazy m (λ v. v) false (λ v. if v then as_flag y else flag false) x y c.args.left c.args.right _ (holds c.args.left.value m) (λ v. refl) a b refl
    (c.in_ok-ends.ensures.fine m) (c.in_ok-ends.ensures.inside m) (c.in_ok-both.ensures.meaning m ∙ and_is (holds c.args.left.value m) (holds c.args.right.value m))

pub returns-clause-sorted : goal.returns-clause-sorted
returns-clause-sorted c p kinds a b =
    let ends = c.in_ok-ends.ensures.sorted p kinds a.fine a.inside a.value b.fine b.inside in
    record { value = c.in_ok-both.ensures.sorted p kinds a.value b.value; fine = ends.0; inside = ends.1 }
