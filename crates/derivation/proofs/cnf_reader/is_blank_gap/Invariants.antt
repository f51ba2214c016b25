use Rattle.std.proofs.Common.{◌≡◌, drop}
use Rattle.std.specs.List.{list_all}
use Rattle.derivation.specs.Runs.{is_blank}
use Rattle.derivation.proofs.cnf_reader.is_blank_gap.Given as goal

-- the bytes before are blanks
abbrev pub invariant-loop-byte : goal.invariant-loop-byte
invariant-loop-byte l = list_all is_blank l.gap ≡ list_all is_blank (drop l.byte-index l.gap)
