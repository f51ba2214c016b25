use Rattle.std.proofs.Common.{◌≡◌, map, string_bytes, take}
use Rattle.taco.proofs.lent.Given as goal

-- the words so far are lent
abbrev pub invariant-loop-word : goal.invariant-loop-word
invariant-loop-word l = map (λ w. w.now) l.all.items ≡ map string_bytes (take l.word-index l.words)
