use Rattle.std.proofs.Common.{◌≡◌, drop}
use Rattle.std.specs.Prelude.{◌&&◌, zip}
use Rattle.std.specs.List.{list_any}
use Rattle.heap_core.specs.Outcomes.{is_null}
use Rattle.heap_core.specs.Judge.{must_be_there}
use Rattle.heap_replay.proofs.good.lacks_one.Given as goal

-- none of the arguments so far is missing
abbrev pub invariant-loop-i : goal.invariant-loop-i
invariant-loop-i l =
    list_any (λ e. must_be_there e.0.kind e.0.nullable && is_null e.1) (zip l.params l.args)
    ≡ list_any (λ e. must_be_there e.0.kind e.0.nullable && is_null e.1) (zip (drop l.i l.params) (drop l.i l.args))
