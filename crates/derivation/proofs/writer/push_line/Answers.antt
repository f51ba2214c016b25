use Rattle.std.proofs.Common.{◌≡◌, [], ◌∷◌, ◌++◌, map, ap, ◌∙◌}
use Rattle.std.specs.Fmt.{decimal}
use Rattle.derivation.specs.Step.{Step}
use Rattle.derivation.specs.Texts.{literal_text, spaced}
use Rattle.derivation.proofs.Spaced.{line_spaced}
use Rattle.derivation.proofs.writer.push_line.Goals as goal

pub returns : goal.returns
returns c =
    let clause : c.as_slice.result.now ≡ c.args.line.now.clause = c.as_slice.ensures ∙ ap (λ (s : Step). s.clause) c.line.view_is in
    let hints : c.hints.result.now ≡ c.args.line.now.hints = c.hints.ensures.value in
    c.in_ok-extend_from_slice-2.ensures.items
    ∙ ap (λ t. t ++ 48 ∷ 10 ∷ [])
    (c.in_ok-push_numbers.ensures
    ∙ ap (λ ns. c.extend_from_slice.new.self.items ++ spaced (map decimal ns)) hints
    ∙ ap (λ t. t ++ spaced (map decimal c.args.line.now.hints))
    (c.in_ok-extend_from_slice.ensures.items
    ∙ ap (λ t. t ++ 48 ∷ 32 ∷ []) (c.in_ok-push_literals.ensures ∙ ap (λ ls. c.args.text.now.items ++ spaced (map literal_text ls)) clause)))
    ∙ line_spaced c.args.line.now c.args.text.now.items
