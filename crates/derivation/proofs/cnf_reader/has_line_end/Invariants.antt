use Rattle.std.proofs.Common.{◌≡◌, drop}
use Rattle.std.specs.List.{list_any}
use Rattle.derivation.specs.Runs.{is_line_end}
use Rattle.derivation.proofs.cnf_reader.has_line_end.Given as goal

-- no byte before ends a line
abbrev pub invariant-loop-byte : goal.invariant-loop-byte
invariant-loop-byte l = list_any is_line_end l.gap ≡ list_any is_line_end (drop l.byte-index l.gap)
