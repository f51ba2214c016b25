use Rattle.std.proofs.Common.{◌≡◌, drop, Ok}
use Rattle.java_tree.specs.Seen.{java_trees}
use Rattle.typed_forms.specs.Calls.{no_arguments}
use Rattle.declared_names.specs.Lookups.{in_body}
use Rattle.typed_expressions.proofs.Arms.{reported_from}
use Rattle.typed_expressions.proofs.code.+code.Given as goal

-- what is left still gives the same
abbrev pub invariant-arguments-loop-arg : goal.invariant-arguments-loop-arg
invariant-arguments-loop-arg l =
    reported_from l.done (java_trees (drop l.arg-index l.args)) (in_body l.world l.here l.held) ≡ reported_from (Ok no_arguments) (java_trees l.args) (in_body l.world l.here l.held)
