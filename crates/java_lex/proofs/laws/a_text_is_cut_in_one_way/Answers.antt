use Rattle.java_lex.proofs.OneCut.{cut_one, cut_or_bad, bad_one}
use Rattle.java_lex.proofs.laws.a_text_is_cut_in_one_way.Goals as goal

pub returns-clause-tokens : goal.returns-clause-tokens
returns-clause-tokens c = cut_one

pub returns-clause-either : goal.returns-clause-either
returns-clause-either c = cut_or_bad

pub returns-clause-place : goal.returns-clause-place
returns-clause-place c = bad_one
