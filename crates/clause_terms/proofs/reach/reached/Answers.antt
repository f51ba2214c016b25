use Rattle.std.proofs.Common.{◌≡◌, true, sym, ap, ◌∙◌, subst}
use Rattle.std.specs.List.{list_all}
use Rattle.rel_core.specs.Meaning.{objects_only, reached_from, set_of}
use Rattle.rel_core.specs.Uses.{AsSet, is_spread}
use Rattle.clause_terms.proofs.reach.reached.Goals as goal

pub returns-clause-meaning : goal.returns-clause-meaning
returns-clause-meaning c m = c.in_ok-all.ensures.meaning m ∙ ap (λ rs. objects_only (reached_from m rs (set_of c.args.root m))) c.in_ok-copied.ensures

pub returns-clause-sorted : goal.returns-clause-sorted
returns-clause-sorted c p kinds root relations = c.in_ok-all.ensures.sorted p kinds root (subst (λ rs. list_all (is_spread p kinds AsSet) rs ≡ true) (sym c.in_ok-copied.ensures) relations)
