use Rattle.std.proofs.Common.{◌≡◌, drop, map}
use Rattle.java_lex.specs.Spellings.{first_in}
use Rattle.java_lex.proofs.front.first_len.Given as goal

abbrev pub invariant-loop-symbol : goal.invariant-loop-symbol
invariant-loop-symbol l = first_in l.jml l.text (map (λ s. (s.0.now, s.1, s.2)) (drop l.symbol-index l.table)) ≡ first_in l.jml l.text (map (λ s. (s.0.now, s.1, s.2)) l.table)
