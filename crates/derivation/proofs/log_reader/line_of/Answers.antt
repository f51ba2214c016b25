use Rattle.std.proofs.Common.{[], ◌∷◌, ◌++◌, map, sym, ◌∙◌}
use Rattle.std.specs.Fmt.{decimal}
use Rattle.cnf_core.specs.Literal.{IsOver}
use Rattle.derivation.specs.Texts.{literal_text}
use Rattle.derivation.proofs.LogWords.{literal_words}
use Rattle.derivation.proofs.Sequences.{SameFront, same_front}
use Rattle.derivation.proofs.log_reader.line_of.Goals as goal

pub returns-in_default-2-clause-none : goal.returns-in_default-2-clause-none
returns-in_default-2-clause-none c =
    λ step is same.
    let found = rw c.in-Some.is at c.in_ok-clause.ensures.found in
    let none = rw c.in_default-2.is at c.in_ok-hints.ensures.none in
    let h : SameFront literal_text (IsOver c.args.vars) (literal_words c.args.vars c.requires) c.in-Some.clause.items step.clause c.clause_of.new.words (map decimal (step.hints ++ 0 ∷ [])) =
    same_front literal_text (IsOver c.args.vars) (literal_words c.args.vars c.requires) c.in-Some.clause.items step.clause _ _ found.0.over is.clause.over (sym found.1 ∙ same) in
    none step.hints is.hints h.tails
