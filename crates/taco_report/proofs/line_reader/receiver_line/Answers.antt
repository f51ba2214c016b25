use Rattle.std.proofs.Common.{◌≡◌, true, false, [], ◌∷◌, ◌++◌, refl, sym, ap, ◌∙◌, append_assoc, arith}
use Rattle.std.specs.Prelude.{codes}
use Rattle.std.specs.Option.{option_map_or}
use Rattle.taco_report.specs.States.{is_named}
use Rattle.taco_report.specs.Texts.{this_value}
use Rattle.taco_report.proofs.Cuts.{SameCut, same_cut}
use Rattle.taco_report.proofs.Pieces.{behind_one}
use Rattle.taco_report.proofs.Values.{receiver_inner}
use Rattle.taco_report.proofs.line_reader.receiver_line.Goals as goal

pub returns-in_default-2-clause-none : goal.returns-in_default-2-clause-none
returns-in_default-2-clause-none c =
    λ v more is same.
    let none = rw c.in_default-2.is at c.in_ok-this.ensures in
    let named : is_named c.args.count c.method_in.result.now.fixed v ≡ true =
    sym (ap (λ o. option_map_or (λ m. is_named c.args.count m.fixed v) o false) c.method_in.ensures.there) ∙ is in
    let rest : c.in-Some.receiver.now ≡ this_value v ++ (10 ∷ more) =
    behind_one (codes "this ") (this_value v ++ (10 ∷ more)) c.args.text.now c.in-Some.receiver.now c.in-Some.ensures (same ∙ ap (λ l. codes "this " ++ l) (append_assoc (this_value v) (10 ∷ []) more)) in
    let h : SameCut c.word_of.result.0.now (this_value v) c.word_of.result.1.now (10 ∷ more) =
    same_cut c.word_of.result.0.now (this_value v) c.word_of.result.1.now (10 ∷ more) c.word_of.ensures.word (receiver_inner c.args.count c.method_in.result.now.fixed v (omega arith) named)
    c.word_of.ensures.ends refl (sym c.word_of.ensures.parts ∙ rest) in
    none v named h.word

pub returns-in-None-clause-none : goal.returns-in-None-clause-none
returns-in-None-clause-none c =
    λ v more is same.
    let named : is_named c.args.count c.method_in.result.now.fixed v ≡ true =
    sym (ap (λ o. option_map_or (λ m. is_named c.args.count m.fixed v) o false) c.method_in.ensures.there) ∙ is in
    let rest : c.in-Some.receiver.now ≡ this_value v ++ (10 ∷ more) =
    behind_one (codes "this ") (this_value v ++ (10 ∷ more)) c.args.text.now c.in-Some.receiver.now c.in-Some.ensures (same ∙ ap (λ l. codes "this " ++ l) (append_assoc (this_value v) (10 ∷ []) more)) in
    let h : SameCut c.word_of.result.0.now (this_value v) c.word_of.result.1.now (10 ∷ more) =
    same_cut c.word_of.result.0.now (this_value v) c.word_of.result.1.now (10 ∷ more) c.word_of.ensures.word (receiver_inner c.args.count c.method_in.result.now.fixed v (omega arith) named)
    c.word_of.ensures.ends refl (sym c.word_of.ensures.parts ∙ rest) in
    c.in-None.ensures more h.rest
