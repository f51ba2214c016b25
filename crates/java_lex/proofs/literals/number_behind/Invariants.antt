use Rattle.std.proofs.Common.{◌≡◌, ◌≤◌, drop}
use Rattle.java_lex.specs.Literals.{number_from}
use Rattle.java_lex.proofs.literals.number_behind.Given as goal

abbrev pub invariant-loop-digit : goal.invariant-loop-digit
invariant-loop-digit l = (number_from l.value (drop l.digit-index l.digits) ≡ number_from 0 l.digits) × (l.value ≤ 2147483647)
