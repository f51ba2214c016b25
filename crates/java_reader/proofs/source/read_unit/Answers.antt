use Rattle.std.proofs.Common.{rules, ◌≡◌, List, refl, sym, subst}
use Rattle.std.specs.Prelude.{Result, Err}
use Rattle.java_lex.specs.declared.token.Token.{Token}
use Rattle.java_lex.specs.Cut.{Cut}
use Rattle.java_tree.specs.declared.members.Tree.{Tree}
use Rattle.text_reading.specs.Readers.{text_at}
use Rattle.java_reader.specs.declared.fault.SourceFault.{SourceFault}
use Rattle.java_reader.specs.declared.fault.SourceFault.TheVariants.{BadToken}
use Rattle.java_reader.specs.Source.{Fails, Is, of_lexer}
use Rattle.java_reader.proofs.Answered.{gives_bad, gives_deep, lexer_is, lexer_fails, cut_fails, read_answers, wrong_answers, deep_answers, read_is, wrong_is, deep_is, memory_is}
use Rattle.java_reader.proofs.source.read_unit.Goals as goal

pub returns-in_err-tokens-clause-judged : goal.returns-in_err-tokens-clause-judged
returns-in_err-tokens-clause-judged c =
    let same : c.from_residual.result ≡ Err (of_lexer c.in_err-tokens.field-0.0) = search rules in
    λ ts v cut holds. subst (λ (r : Result Tree SourceFault). Is r v) (sym same) (lexer_is c.args.text.now c.in_err-tokens.field-0.0 (of_lexer c.in_err-tokens.field-0.0) refl c.in_err-tokens.ensures.bad ts v cut holds)

pub returns-in_err-tokens-clause-bad : goal.returns-in_err-tokens-clause-bad
returns-in_err-tokens-clause-bad c =
    let same : c.from_residual.result ≡ Err (of_lexer c.in_err-tokens.field-0.0) = search rules in
    λ at bad. subst (λ (r : Result Tree SourceFault). Fails r (BadToken at)) (sym same) (lexer_fails c.args.text.now c.in_err-tokens.field-0.0 (of_lexer c.in_err-tokens.field-0.0) refl c.in_err-tokens.ensures.bad at bad)

pub returns-in-Ok-clause-answers : goal.returns-in-Ok-clause-answers
returns-in-Ok-clause-answers c =
    let cut : Cut c.args.text.now c.as_slice.result.now = subst (λ (ts : List Token). Cut c.args.text.now ts) (sym c.as_slice.ensures.value) c.in_ok-tokens.ensures.cut in
    read_answers c.args.text.now c.as_slice.result.now cut c.in-Ok.tree _ c.in-Ok.ensures

pub returns-in-Ok-clause-judged : goal.returns-in-Ok-clause-judged
returns-in-Ok-clause-judged c =
    let cut : Cut c.args.text.now c.as_slice.result.now = subst (λ (ts : List Token). Cut c.args.text.now ts) (sym c.as_slice.ensures.value) c.in_ok-tokens.ensures.cut in
    read_is c.args.text.now c.as_slice.result.now cut c.in-Ok.tree _ c.in-Ok.ensures

pub returns-in-Ok-clause-bad : goal.returns-in-Ok-clause-bad
returns-in-Ok-clause-bad c = cut_fails c.args.text.now c.in_ok-tokens.tokens.items c.in_ok-tokens.ensures.cut _

pub returns-in-Err-Memory-clause-bad : goal.returns-in-Err-Memory-clause-bad
returns-in-Err-Memory-clause-bad c = cut_fails c.args.text.now c.in_ok-tokens.tokens.items c.in_ok-tokens.ensures.cut _

pub returns-in-Err-Memory-clause-judged : goal.returns-in-Err-Memory-clause-judged
returns-in-Err-Memory-clause-judged c = λ ts v cut holds. memory_is v

pub returns-in-Err-Wrong-clause-answers : goal.returns-in-Err-Wrong-clause-answers
returns-in-Err-Wrong-clause-answers c =
    let cut : Cut c.args.text.now c.as_slice.result.now = subst (λ (ts : List Token). Cut c.args.text.now ts) (sym c.as_slice.ensures.value) c.in_ok-tokens.ensures.cut in
    wrong_answers c.args.text.now c.as_slice.result.now cut c.in-Err-Wrong.rest.now c.wrong.result
    (gives_bad (text_at c.as_slice.result.now) c.in-Err-Wrong.field-0 c.in-Err-Wrong.rest c.in-Err-Wrong.field-0-is c.in-Err-Wrong.ensures) c.wrong.ensures

pub returns-in-Err-Wrong-clause-judged : goal.returns-in-Err-Wrong-clause-judged
returns-in-Err-Wrong-clause-judged c =
    let cut : Cut c.args.text.now c.as_slice.result.now = subst (λ (ts : List Token). Cut c.args.text.now ts) (sym c.as_slice.ensures.value) c.in_ok-tokens.ensures.cut in
    wrong_is c.args.text.now c.as_slice.result.now cut c.in-Err-Wrong.rest.now c.wrong.result
    (gives_bad (text_at c.as_slice.result.now) c.in-Err-Wrong.field-0 c.in-Err-Wrong.rest c.in-Err-Wrong.field-0-is c.in-Err-Wrong.ensures) c.wrong.ensures

pub returns-in-Err-Wrong-clause-bad : goal.returns-in-Err-Wrong-clause-bad
returns-in-Err-Wrong-clause-bad c = cut_fails c.args.text.now c.in_ok-tokens.tokens.items c.in_ok-tokens.ensures.cut _

pub returns-clause-answers : goal.returns-clause-answers
returns-clause-answers c =
    let cut : Cut c.args.text.now c.as_slice.result.now = subst (λ (ts : List Token). Cut c.args.text.now ts) (sym c.as_slice.ensures.value) c.in_ok-tokens.ensures.cut in
    deep_answers c.args.text.now c.as_slice.result.now cut c.in-Err-Deep.rest.now c.deep.result
    (gives_deep (text_at c.as_slice.result.now) c.in-Err-Deep.field-0 c.in-Err-Deep.rest c.in-Err-Deep.field-0-is c.in-Err-Deep.ensures) c.deep.ensures

pub returns-clause-judged : goal.returns-clause-judged
returns-clause-judged c =
    let cut : Cut c.args.text.now c.as_slice.result.now = subst (λ (ts : List Token). Cut c.args.text.now ts) (sym c.as_slice.ensures.value) c.in_ok-tokens.ensures.cut in
    deep_is c.args.text.now c.as_slice.result.now cut c.in-Err-Deep.rest.now c.deep.result
    (gives_deep (text_at c.as_slice.result.now) c.in-Err-Deep.field-0 c.in-Err-Deep.rest c.in-Err-Deep.field-0-is c.in-Err-Deep.ensures) c.deep.ensures

pub returns-clause-bad : goal.returns-clause-bad
returns-clause-bad c = cut_fails c.args.text.now c.in_ok-tokens.tokens.items c.in_ok-tokens.ensures.cut _
