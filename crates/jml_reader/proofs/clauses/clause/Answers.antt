use Rattle.std.proofs.Common.{◌≡◌, List, drop, sym, ◌∙◌, ap, subst}
use Rattle.std.specs.Prelude.{Err}
use Rattle.java_lex.specs.declared.token.Token.{Token}
use Rattle.java_tree.specs.declared.clauses.JmlTree.{JmlTree}
use Rattle.java_tree.specs.Seen.{jml_tree}
use Rattle.reading_core.specs.declared.stop.Stop.{Stop}
use Rattle.reading_core.specs.declared.stop.Stop.TheVariants as stop
use Rattle.reading_core.specs.Gives.{Gives}
use Rattle.jml_reader.proofs.Answered.{bad_reads, deep_answers, deep_reads, got_answers, got_reads, reading, wrong_answers}
use Rattle.jml_reader.proofs.clauses.clause.Goals as goal

-- what stops the reading, by the tokens that were split off
stopped : (why known : Stop) (here there : List Token) → here ≡ there → why ≡ known → Gives jml_tree (Err why) (reading here) → Gives jml_tree (Err known) (reading there)
stopped why known here there parts is gives = subst (λ (w : Stop). Gives {T = JmlTree} jml_tree (Err w) (reading there)) is (subst (λ us. Gives {T = JmlTree} jml_tree (Err why) (reading us)) parts gives)

pub returns-in-Ok-clause-answers : goal.returns-in-Ok-clause-answers
returns-in-Ok-clause-answers c = got_answers c.args.tokens.now c.args.from c.in-Ok.tree c.in-Ok.rest.now c.requires.in_range c.requires.ended (ap reading (sym c.split_at.ensures.back) ∙ c.in-Ok.ensures.reads)

pub returns-in-Ok-clause-reads : goal.returns-in-Ok-clause-reads
returns-in-Ok-clause-reads c = got_reads c.args.tokens.now c.args.from c.in-Ok.tree c.in-Ok.rest.now (ap reading (sym c.split_at.ensures.back) ∙ c.in-Ok.ensures.reads)

pub returns-in-Err-Wrong-clause-answers : goal.returns-in-Err-Wrong-clause-answers
returns-in-Err-Wrong-clause-answers c =
    wrong_answers c.args.tokens.now c.args.from c.in-Err-Wrong.rest.now c.wrong.result c.requires.in_range c.requires.ended (stopped c.in-Err-Wrong.field-0 (stop.Wrong c.in-Err-Wrong.rest) c.split_at.result.1.now (drop c.args.from c.args.tokens.now) c.split_at.ensures.back c.in-Err-Wrong.field-0-is c.in-Err-Wrong.ensures.reads) c.wrong.ensures

pub returns-in-Err-Wrong-clause-reads : goal.returns-in-Err-Wrong-clause-reads
returns-in-Err-Wrong-clause-reads c = bad_reads c.args.tokens.now c.args.from c.in-Err-Wrong.rest.now c.wrong.result (stopped c.in-Err-Wrong.field-0 (stop.Wrong c.in-Err-Wrong.rest) c.split_at.result.1.now (drop c.args.from c.args.tokens.now) c.split_at.ensures.back c.in-Err-Wrong.field-0-is c.in-Err-Wrong.ensures.reads)

pub returns-in-Err-Deep-clause-answers : goal.returns-in-Err-Deep-clause-answers
returns-in-Err-Deep-clause-answers c = deep_answers c.args.tokens.now c.args.from c.in-Err-Deep.rest.now c.deep.result (stopped c.in-Err-Deep.field-0 (stop.Deep c.in-Err-Deep.rest) c.split_at.result.1.now (drop c.args.from c.args.tokens.now) c.split_at.ensures.back c.in-Err-Deep.field-0-is c.in-Err-Deep.ensures.reads) c.deep.ensures

pub returns-in-Err-Deep-clause-reads : goal.returns-in-Err-Deep-clause-reads
returns-in-Err-Deep-clause-reads c = deep_reads c.args.tokens.now c.args.from c.in-Err-Deep.rest.now c.deep.result (stopped c.in-Err-Deep.field-0 (stop.Deep c.in-Err-Deep.rest) c.split_at.result.1.now (drop c.args.from c.args.tokens.now) c.split_at.ensures.back c.in-Err-Deep.field-0-is c.in-Err-Deep.ensures.reads)
