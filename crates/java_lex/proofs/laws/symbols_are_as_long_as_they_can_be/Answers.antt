use Rattle.java_lex.proofs.Longest.{symbol_longest}
use Rattle.java_lex.proofs.laws.symbols_are_as_long_as_they_can_be.Goals as goal

pub returns : goal.returns
returns c = symbol_longest
