use Rattle.answer_laws.proofs.Answering.{one_status}
use Rattle.answer_laws.proofs.Running.{one_run}
use Rattle.answer_laws.proofs.laws.one_request_has_one_status.Goals as goal

pub returns-clause-answers : goal.returns-clause-answers
returns-clause-answers c = λ asked told e d o p is x y. one_status asked told e d o p is x y

pub returns-clause-calls : goal.returns-clause-calls
returns-clause-calls c = λ asked answer answer' old new old' new' before after before' after' told same x y heard heard'.
    one_run asked answer answer' old new old' new' before after before' after' told same x y heard heard'
