-- The report of a replay: the judgement, and of a run that is judged how it ended and the heap that it left.
use Rattle.std.specs.Prelude.{ℕ, List, [], ◌++◌, codes, if◌then◌else◌}
use Rattle.heap_core.specs.declared.judged.Judged.{Judged}
use Rattle.heap_core.specs.declared.judged.Judged.TheVariants as judged
use Rattle.heap_core.specs.Posed.{Posed}
use Rattle.heap_run.specs.declared.machine.Outcome.{Outcome}
use Rattle.heap_run.specs.declared.machine.Outcome.TheVariants as outcome
use Rattle.heap_replay.specs.declared.replays.Replayed.{Replayed}
use Rattle.heap_replay.specs.Replays.{is_of_run}
use Rattle.taco_report.specs.Texts.{line, value_text, heap_text}
use Rattle.taco_report.specs.Reports.{part_text}

-- a judgement: `meets`, `breaks PART`, `notasked` where the start does not meet the precondition, `outside` where a scope
-- is left
abbrev pub judged_text : Posed → Judged → List ℕ
judged_text p judged.Meets = codes "meets"
judged_text p (judged.Breaks part) = codes "breaks " ++ part_text p part
judged_text p judged.NotAsked = codes "notasked"
judged_text p judged.Outside = codes "outside"

abbrev pub judged_line : Posed → Judged → List ℕ
judged_line p j = line (codes "judged " ++ judged_text p j)

-- what a run gives: a value, none from a method without a result, or an exception; no words where it is not known
abbrev pub outcome_text : Outcome → List ℕ
outcome_text (outcome.Value v) = value_text v
outcome_text outcome.Nothing = codes "none"
outcome_text outcome.Thrown = codes "thrown"
outcome_text outcome.Unknown = []

abbrev pub result_line : Outcome → List ℕ
result_line r = line (codes "result " ++ outcome_text r)

-- the report of a replay
abbrev pub replay_text_of : Posed → Replayed → List ℕ
replay_text_of p r = judged_line p r.judged ++ (if is_of_run r.judged then result_line r.result ++ heap_text p r.end_heap else [])
