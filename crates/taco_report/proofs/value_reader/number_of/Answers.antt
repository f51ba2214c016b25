use Rattle.std.proofs.Common.{◌≡◌, Ok, sym, ap, subst, ◌∙◌, w32, FitsSigned}
use Rattle.std.specs.Fmt.{signed_decimal}
use Rattle.std.specs.Str.{IsUtf8}
use Rattle.std.proofs.lemmas.Bool.{false≢true}
use Rattle.std.proofs.lemmas.Fmt.{IsAscii-signed, parse-signed_decimal}
use Rattle.std.proofs.lemmas.Str.{IsUtf8-from_ascii}
use Rattle.std.proofs.lemmas.Int.{to_z-of_z}
use Rattle.std.proofs.lemmas.Slice.Eq.{bytes_eq-Decides}
use Rattle.taco_report.proofs.Values.{mag_small, fits_signed}
use Rattle.taco_report.proofs.value_reader.number_of.Goals as goal

pub returns-in_default : goal.returns-in_default
returns-in_default c =
    λ z is same. c.in_default.ensures.cases.0 (subst IsUtf8 (sym same) (IsUtf8-from_ascii (signed_decimal z) (IsAscii-signed z (mag_small z is))))

pub returns-in_default-parse : goal.returns-in_default-parse
returns-in_default-parse c =
    λ z is same.
    c.in_default-parse.not-Ok z (parse-signed_decimal w32 z c.in-Ok.text.now c.parse.result (fits_signed z is) (mag_small z is) (c.in-Ok.ensures.cases.0 ∙ same) c.parse.ensures.value.0)

pub returns : goal.returns
returns c =
    λ z is same.
    let read : c.parse.result ≡ Ok z =
    parse-signed_decimal w32 z c.in-Ok.text.now c.parse.result (fits_signed z is) (mag_small z is) (c.in-Ok.ensures.cases.0 ∙ same) c.parse.ensures.value.0 in
    let number : c.in-Ok-parse.number ≡ z = cc in
    let bytes : c.as_bytes.result.now ≡ c.args.word.now = c.as_bytes.ensures.value ∙ c.in_ok-written.ensures.ok ∙ ap signed_decimal (to_z-of_z w32 c.in-Ok-parse.number (subst (FitsSigned w32) (sym number) (fits_signed z is)) ∙ number) ∙ sym same in
    false≢true (sym c.if-eq.false ∙ c.eq.ensures ∙ (bytes_eq-Decides c.as_bytes.result.now c.args.word.now).1 bytes)
