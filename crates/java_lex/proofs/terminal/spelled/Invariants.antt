use Rattle.std.proofs.Common.{◌≡◌, drop, map}
use Rattle.java_lex.specs.Spellings.{spelled_in}
use Rattle.java_lex.proofs.terminal.spelled.Given as goal

abbrev pub invariant-loop-text : goal.invariant-loop-text
invariant-loop-text l = spelled_in l.jml l.bytes (map (λ s. (s.0.now, s.1, s.2)) (drop l.text-index l.table)) ≡ spelled_in l.jml l.bytes (map (λ s. (s.0.now, s.1, s.2)) l.table)
