use Rattle.std.proofs.Common.{◌≡◌, ◌+◌, drop}
use Rattle.std.specs.List.{prefix_len}
use Rattle.taco_report.specs.States.{is_inner}
use Rattle.taco_report.proofs.value_reader.word_len.Given as goal

-- the bytes before are of the word
abbrev pub invariant-loop-place : goal.invariant-loop-place
invariant-loop-place l = prefix_len is_inner l.text ≡ l.place + prefix_len is_inner (drop l.place l.text)
