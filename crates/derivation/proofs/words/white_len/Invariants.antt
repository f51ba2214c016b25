use Rattle.std.proofs.Common.{◌≡◌, ◌+◌, drop}
use Rattle.std.specs.List.{prefix_len}
use Rattle.derivation.specs.Runs.{is_white}
use Rattle.derivation.proofs.words.white_len.Given as goal

-- the bytes before are white space
abbrev pub invariant-loop-place : goal.invariant-loop-place
invariant-loop-place l = prefix_len is_white l.bytes ≡ l.place + prefix_len is_white (drop l.place l.bytes)
