use Rattle.std.proofs.Common.{◌≡◌, [], ◌∷◌, ◌++◌, refl, sym, ap, ◌∙◌, append_assoc, arith}
use Rattle.std.specs.Prelude.{codes}
use Rattle.std.specs.Fmt.{decimal}
use Rattle.std.proofs.lemmas.Bool.{ltb-true}
use Rattle.taco_report.proofs.Cuts.{SameCut, same_cut}
use Rattle.taco_report.proofs.Pieces.{behind_one}
use Rattle.taco_report.proofs.Values.{decimal_inner}
use Rattle.taco_report.proofs.line_reader.count_line.Goals as goal

pub returns-in_default-2-clause-none : goal.returns-in_default-2-clause-none
returns-in_default-2-clause-none c =
    λ n more is same.
    let none = rw c.in_default-2.is at c.in_ok-count.ensures in
    let rest : c.in-Some.number.now ≡ decimal n ++ (10 ∷ more) =
    behind_one (codes "objects ") (decimal n ++ (10 ∷ more)) c.args.text.now c.in-Some.number.now c.in-Some.ensures (same ∙ ap (λ l. codes "objects " ++ l) (append_assoc (decimal n) (10 ∷ []) more)) in
    let h : SameCut c.word_of.result.0.now (decimal n) c.word_of.result.1.now (10 ∷ more) =
    same_cut c.word_of.result.0.now (decimal n) c.word_of.result.1.now (10 ∷ more) c.word_of.ensures.word (decimal_inner n (omega (arith, ltb-true n 13 is))) c.word_of.ensures.ends refl
    (sym c.word_of.ensures.parts ∙ rest) in
    none n (ltb-true n 13 is) h.word

pub returns-in-None-clause-none : goal.returns-in-None-clause-none
returns-in-None-clause-none c =
    λ n more is same.
    let rest : c.in-Some.number.now ≡ decimal n ++ (10 ∷ more) =
    behind_one (codes "objects ") (decimal n ++ (10 ∷ more)) c.args.text.now c.in-Some.number.now c.in-Some.ensures (same ∙ ap (λ l. codes "objects " ++ l) (append_assoc (decimal n) (10 ∷ []) more)) in
    let h : SameCut c.word_of.result.0.now (decimal n) c.word_of.result.1.now (10 ∷ more) =
    same_cut c.word_of.result.0.now (decimal n) c.word_of.result.1.now (10 ∷ more) c.word_of.ensures.word (decimal_inner n (omega (arith, ltb-true n 13 is))) c.word_of.ensures.ends refl
    (sym c.word_of.ensures.parts ∙ rest) in
    c.in-None.ensures more h.rest
