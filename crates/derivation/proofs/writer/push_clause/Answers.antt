use Rattle.std.proofs.Common.{[], ◌∷◌, ◌++◌, ap, ◌∙◌}
use Rattle.derivation.proofs.Spaced.{clause_line_spaced}
use Rattle.derivation.proofs.writer.push_clause.Goals as goal

pub returns : goal.returns
returns c =
    c.in_ok-extend_from_slice.ensures.items
    ∙ ap (λ t. t ++ 48 ∷ 10 ∷ []) c.in_ok-push_literals.ensures
    ∙ clause_line_spaced c.args.clause.now c.args.text.now.items
