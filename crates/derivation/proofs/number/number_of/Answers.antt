use Rattle.std.proofs.Common.{◌≡◌, Ok, sym, ap, subst, ◌∙◌, arith}
use Rattle.std.specs.Fmt.{decimal}
use Rattle.std.specs.Str.{IsUtf8}
use Rattle.std.proofs.lemmas.Bool.{false≢true}
use Rattle.std.proofs.lemmas.Fmt.{IsAscii-decimal, parse-decimal}
use Rattle.std.proofs.lemmas.Str.{IsUtf8-from_ascii}
use Rattle.derivation.proofs.Numbers.{decimal_plain, parsed, signed_or_padded}
use Rattle.derivation.proofs.number.number_of.Goals as goal

pub returns-then-is_signed_or_padded-clause-none :
    goal.returns-then-is_signed_or_padded-clause-none
returns-then-is_signed_or_padded-clause-none c =
    λ n small is. false≢true (sym (decimal_plain n (omega arith)) ∙ ap signed_or_padded (sym is) ∙ sym c.is_signed_or_padded.ensures ∙ c.if-is_signed_or_padded.true)

pub returns-in_default-clause-none : goal.returns-in_default-clause-none
returns-in_default-clause-none c =
    λ n small is. c.in_default.ensures.cases.0 (subst IsUtf8 (sym is) (IsUtf8-from_ascii (decimal n) (IsAscii-decimal n (omega arith))))

pub returns-in_default-parse-clause-none : goal.returns-in_default-parse-clause-none
returns-in_default-parse-clause-none c =
    λ n small is.
    let read : c.parse.result ≡ Ok n =
    parse-decimal 32 n c.in-Ok.text.now c.parse.result small (omega arith) (c.in-Ok.ensures.cases.0 ∙ is) c.parse.ensures.value.0 in
    c.in_default-parse.not-Ok n read

pub returns-clause-found : goal.returns-clause-found
returns-clause-found c =
    sym c.in-Ok.ensures.cases.0
    ∙ parsed c.in-Ok.text.now c.parse.result c.in-Ok-parse.number c.parse.ensures.value.0 c.in-Ok-parse.is
    (ap signed_or_padded c.in-Ok.ensures.cases.0 ∙ sym c.is_signed_or_padded.ensures ∙ c.if-is_signed_or_padded.false)
