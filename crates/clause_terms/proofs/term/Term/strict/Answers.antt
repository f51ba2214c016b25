use Rattle.heap_core.specs.Outcomes.{operated, with_value}
use Rattle.clause_terms.specs.Terms.{HasValue, Tells}
use Rattle.clause_terms.proofs.Outcomes.{on_value}
use Rattle.clause_terms.proofs.term.Term.strict.Goals as goal

pub returns-clause-told : goal.returns-clause-told
returns-clause-told c m x y one two = c.in_ok-term.ensures.told m x (λ v. with_value y (operated c.args.op m.ints v)) one.fine one.inside
    (on_value x (HasValue m c.args.left.value) (λ v. Tells (with_value y (operated c.args.op m.ints v)) c.in_ok-then.then m)
    (λ v has. c.in_ok-then.ensures.told m y (operated c.args.op m.ints v) two.fine two.inside
    (on_value y (HasValue m c.args.right.value) (λ u. Tells (operated c.args.op m.ints v u) c.in_ok-made.made m) (λ u other. c.in_ok-made.ensures.told m v u has other) two.value)) one.value)

pub returns-clause-sorted : goal.returns-clause-sorted
returns-clause-sorted c p kinds left right = c.in_ok-term.ensures.sorted p kinds left.fine left.inside
    (c.in_ok-then.ensures.sorted p kinds right.fine right.inside (c.in_ok-made.ensures.sorted p kinds left.value right.value))
