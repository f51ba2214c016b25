use Rattle.std.proofs.Common.{◌≡◌, map, true, subst, sym}
use Rattle.clap.specs.Words.{app_of, found_of, is_simple_and_free, rows_of}
use Rattle.taco_words.specs.Asked.{request_for}
use Rattle.taco_words.specs.Commands.{app_for}
use Rattle.taco_words.proofs.Simple.{is_simple}
use Rattle.taco_words.proofs.Taking.{accepted, refused}
use Rattle.taco_words.proofs.words.asked_by.Goals as goal

pub parse-requires : goal.parse-requires
parse-requires c = subst (λ a. is_simple_and_free a ≡ true) (sym c.in_ok-command.ensures) (is_simple c.args.task)

pub returns-in_err-matches-clause-asked : goal.returns-in_err-matches-clause-asked
returns-in_err-matches-clause-asked c =
    refused (app_of c.in_ok-command.command) (app_for c.args.task) (request_for c.args.task) (map (λ w. w.now) c.args.words.now) c.in_err-matches.field-0.0 c.from_residual-in_err-matches.result
    c.in_ok-command.ensures c.from_residual-in_err-matches.ensures.1 c.in_err-matches.ensures

pub returns-clause-asked : goal.returns-clause-asked
returns-clause-asked c =
    accepted (app_of c.in_ok-command.command) (app_for c.args.task) (request_for c.args.task) (map (λ w. w.now) c.args.words.now) (rows_of (found_of c.in_ok-matches.matches)) c.request_for.result
    c.in_ok-command.ensures c.in_ok-matches.ensures c.request_for.ensures.asked
