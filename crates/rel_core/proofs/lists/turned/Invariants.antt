use Rattle.std.proofs.Common.{◌≡◌, Bool, true, ◌&&◌, length}
use Rattle.std.specs.List.{list_all}
use Rattle.rel_core.specs.declared.formula.Formula.{Formula}
use Rattle.rel_core.specs.declared.formula.Formula.TheVariants.{Const}
use Rattle.rel_core.proofs.lists.turned.Given as goal

abbrev pub invariant-loop-part : goal.invariant-loop-part
invariant-loop-part l = (test : Formula → Bool) → test (Const l.truth) ≡ true → (list_all test l.left && list_all test l.all) ≡ list_all test l.fn.parts

abbrev pub decreases-loop-part : goal.decreases-loop-part
decreases-loop-part l = length l.left
