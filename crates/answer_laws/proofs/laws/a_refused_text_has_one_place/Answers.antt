use Rattle.std.specs.Prelude.{length}
use Rattle.derivation.specs.Runs.{words_of}
use Rattle.answer_laws.proofs.StatePlaces.{one_place}
use Rattle.answer_laws.proofs.FormulaPlaces.{one_fault}
use Rattle.answer_laws.proofs.LogPlaces.{one_bad}
use Rattle.answer_laws.proofs.laws.a_refused_text_has_one_place.Goals as goal

pub returns-clause-state : goal.returns-clause-state
returns-clause-state c = λ p text a b well x y. one_place p text a b well x y

pub returns-clause-formula : goal.returns-clause-formula
returns-clause-formula c = λ text a b x y. one_fault (words_of text) (length text) a b x y

pub returns-clause-log : goal.returns-clause-log
returns-clause-log c = λ vars text a b small x y. one_bad vars text a b small x y
