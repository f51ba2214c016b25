use Rattle.std.proofs.Common.{◌≡◌, drop}
use Rattle.std.specs.Prelude.{filter}
use Rattle.heap_core.specs.Judge.{fields_at, is_missing, missing_at}
use Rattle.heap_replay.specs.Firsts.{first}
use Rattle.heap_replay.proofs.good.first_missing.Given as goal

-- none of the fields so far is missing
abbrev pub invariant-loop-field : goal.invariant-loop-field
invariant-loop-field l = first (missing_at l.problem l.heap l.object) ≡ first (filter (is_missing l.problem l.heap l.object) (drop l.field-index (fields_at l.problem l.heap l.object)))
