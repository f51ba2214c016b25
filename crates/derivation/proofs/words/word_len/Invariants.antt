use Rattle.std.proofs.Common.{◌≡◌, ◌+◌, not, drop}
use Rattle.std.specs.List.{prefix_len}
use Rattle.derivation.specs.Runs.{is_white}
use Rattle.derivation.proofs.words.word_len.Given as goal

-- the bytes before are none
abbrev pub invariant-loop-place : goal.invariant-loop-place
invariant-loop-place l = prefix_len (λ b. not (is_white b)) l.bytes ≡ l.place + prefix_len (λ b. not (is_white b)) (drop l.place l.bytes)
