use Rattle.std.proofs.Common.{◌==◌, [], ◌∷◌, cond, sym, ap, ◌∙◌}
use Rattle.std.specs.List.{slice_split}
use Rattle.derivation.proofs.CutLemmas.{fields_none, fields_cut}
use Rattle.derivation.proofs.fields.Fields.next.Goals as goal

pub returns-in-Some : goal.returns-in-Some
returns-in-Some c =
    sym c.self.view_is
    ∙ ap (λ over. cond over [] (slice_split (λ b. b == 32) c.self.inside.rest.now)) c.if-self.false
    ∙ fields_cut _ _ _ c.in-Some.ensures
    ∙ ap (λ over. c.in-Some.word.now ∷ cond over [] (slice_split (λ b. b == 32) c.in-Some.behind.now)) (sym c.if-self.false)

pub returns-in-None : goal.returns-in-None
returns-in-None c =
    sym c.self.view_is
    ∙ ap (λ over. cond over [] (slice_split (λ b. b == 32) c.self.inside.rest.now)) c.if-self.false
    ∙ fields_none _ c.in-None.ensures
