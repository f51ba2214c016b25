use Rattle.std.proofs.Common.{◌≡◌, ◌+◌, length}
use Rattle.std.specs.Option.{option_map}
use Rattle.java_lex.specs.Literals.{first_close}
use Rattle.java_lex.proofs.literals.first_close.Given as goal

abbrev pub invariant-loop-rest : goal.invariant-loop-rest
invariant-loop-rest l = (option_map (λ n. l.place + n) (first_close l.rest) ≡ first_close l.text) × (l.place + length l.rest ≡ length l.text)

abbrev pub decreases-loop-rest : goal.decreases-loop-rest
decreases-loop-rest l = length l.rest
