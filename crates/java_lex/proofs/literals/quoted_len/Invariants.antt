use Rattle.std.proofs.Common.{◌≡◌, ◌+◌, drop, false}
use Rattle.std.specs.Option.{option_map}
use Rattle.java_lex.specs.Literals.{quoted_len}
use Rattle.java_lex.proofs.literals.quoted_len.Given as goal

abbrev pub invariant-loop-i : goal.invariant-loop-i
invariant-loop-i l = option_map (λ n. l.i + n) (quoted_len l.quote l.escaped (drop l.i l.text)) ≡ quoted_len l.quote false l.text
