use Rattle.std.proofs.Common.{sym}
use Rattle.java_lex.proofs.SymbolLemmas.{symbol_some}
use Rattle.java_lex.proofs.front.symbol_front.Goals as goal

pub returns-in-Some-clause-within : goal.returns-in-Some-clause-within
returns-in-Some-clause-within c = record {
  some = λ _. symbol_some c.args.jml c.args.text.now c.in-Some.n (sym c.in-Some.ensures.first);
  within = c.in-Some.ensures.within;
}
