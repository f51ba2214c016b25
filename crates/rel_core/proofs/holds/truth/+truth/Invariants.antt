use Rattle.std.proofs.Common.{◌≡◌, drop}
use Rattle.std.specs.List.{list_all, list_any}
use Rattle.rel_core.specs.Meaning.{holds}
use Rattle.rel_core.specs.Views.{read}
use Rattle.rel_core.proofs.holds.truth.+truth.Given as goal

abbrev pub invariant-all_hold-loop-part : goal.invariant-all_hold-loop-part
invariant-all_hold-loop-part l = list_all (λ p. holds p (read l.view)) (drop l.part-index l.parts) ≡ list_all (λ p. holds p (read l.view)) l.parts

abbrev pub invariant-some_holds-loop-part : goal.invariant-some_holds-loop-part
invariant-some_holds-loop-part l = list_any (λ p. holds p (read l.view)) (drop l.part-index l.parts) ≡ list_any (λ p. holds p (read l.view)) l.parts
